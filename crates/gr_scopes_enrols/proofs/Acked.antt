-- A core may count in a scope from now on, and the tasks that waited for that make theirs: the part of scopes is kept.
use Rattle.std.proofs.Common.{◌≡◌, ℕ, zero, suc, ◌<◌, ◌≤◌, ◌&&◌, Bool, true, if◌then◌else◌, List, [], ◌∷◌, length, sym, ◌∙◌, ap, subst, refl, arith, lt_irrefl, Option, Some, None}
use Rattle.std.specs.List.{list_all}
use Rattle.gr_lang.specs.States.{State}
use Rattle.gr_msg.specs.declared.message.ScopeId.{ScopeId}
use Rattle.gr_msg.specs.declared.message.Msg.TheVariants as msg
use Rattle.gr_event.specs.Scopes.{put_scope}
use Rattle.gr_event.specs.declared.counts.LocalCount.{LocalCount}
use Rattle.gr_event.specs.declared.counts.LocalCount.TheVariants as count
use Rattle.gr_event.specs.declared.masters.Master.{Master}
use Rattle.gr_event.proofs.ScopePuts.{put_scope_at}
use Rattle.gr_net.specs.Sums.{Each}
use Rattle.gr_machine.specs.States.{Letter, Suspended, Scopes, Stops, Body}
use Rattle.gr_machine.specs.Outcomes.{Outcome, quietly}
use Rattle.gr_machine.specs.Openings.{root_scope}
use Rattle.gr_machine.specs.Serves.{serves}
use Rattle.gr_machine.specs.Slots.{awaits_enrolment, one_awaits, slot_awaits}
use Rattle.gr_machine.specs.Spawns.{with_count}
use Rattle.gr_machine.specs.ScopeServes.{acked, planted_all}
use Rattle.gr_stands.specs.Worlds.{Given, machine_in, World, bodies}
use Rattle.gr_stands.specs.Censuses.{of_held}
use Rattle.gr_stands.specs.Calls.{of_slot, times}
use Rattle.gr_stands.proofs.Places.{times_self}
use Rattle.gr_stands_calls.specs.Acting.{letter, IsFirstLetter}
use Rattle.gr_scopes.specs.Trees.{holder_of, Tree, tree_of, Names}
use Rattle.gr_scopes.specs.Sums.{if_scope, counted, is_active, is_waiting, active_at, is_there, is_enrolling, is_late, slots_in, of_scope, enrolments}
use Rattle.gr_scopes.specs.Scopes.{CoreStands, CountIsSome, one_unless}
use Rattle.gr_scopes.specs.ScopeActs.{SumsAct}
use Rattle.gr_scopes.proofs.Counts.{scope_itself, late_same, census_same, if_scope_self, if_scope_zero, if_core_self, if_core_off}
use Rattle.gr_scopes.proofs.Kept.{scopes_kept}
use Rattle.gr_scopes.proofs.Cores.{keeps_all, named_same, root_same}
use Rattle.gr_scopes_opens.specs.Keeping.{KeepsScopes, StandsWith}
use Rattle.gr_scopes_opens.proofs.Common.{none_some, none_away, innermost_named, waiter_same, enrols_at}
use Rattle.gr_scopes_opens.proofs.Ones.{slot_none, ScopeIs, put_scope_itself, count_sum, master_sum, one_core, waiters_stay}
use Rattle.gr_scopes_leaves.specs.Served.{KeepsMade}
use Rattle.gr_scopes_leaves.proofs.Letters.{letter_weighs}
use Rattle.gr_scopes_enrols.specs.Several.{with_tasks, AreWaiting}
use Rattle.gr_scopes_enrols.specs.Laws as laws
use Rattle.gr_scopes_enrols.proofs.Planted.{waits_of, put_twice, for_slots, Midway, go_all}

all_of : (p : ℕ → Bool) (ks : List ℕ) → Each (λ (k : ℕ). p k ≡ true) ks → list_all p ks ≡ true
all_of p [] f = refl
all_of p (k ∷ ks) f = ap (λ (b : Bool). b && list_all p ks) f.0 ∙ all_of p ks f.1

no_task : (o : Option Suspended) → ((u : Suspended) → o ≡ Some u → ⊥) → o ≡ None
no_task None f = refl
no_task (Some u) f = absurd (f u refl)

module _ (given : Given) (names : Names) (w : World) (S : State) (me from : ℕ) (s : ScopeId) (st : StandsWith given names w S) (first : IsFirstLetter given w me from (msg.EnrolAck s)) where
  abbrev a : Body
  a = bodies w me

  abbrev tree : Tree
  tree = tree_of S

  abbrev got : List Letter
  got = letter from (msg.EnrolAck s) ∷ []

  old : CoreStands given names tree me a
  old = st.scopes.cores me

  -- ---- slots wait for it

  abbrev Finds : Type 0
  Finds = (number : ℕ) × (slots : List ℕ) × AreWaiting names a s number slots

  by_slots : (ks : List ℕ) → a.scopes.counts s ≡ Some (count.Waits ks) → Finds
  by_slots [] e = absurd (lt_irrefl 0 (subst CountIsSome e (old.counts s)))
  by_slots (k ∷ ks) e =
      let h = enrols_at given names tree me a old s k (times k ks) (ap (λ (x : Option LocalCount). times k (slots_in x)) e ∙ times_self k ks) in
      let n = innermost_named names tree h.task.id h.task.scope h.task.opened (old.slots k h.task h.there).held in
      (n.number, k ∷ ks, record { named = n.named ∙ ap Some h.fits.under; counts = e })

  pub finds : Finds
  finds = by (a.scopes.counts s) refl (omega (arith, st.scopes.enrolling s me, letter_weighs given w me from (msg.EnrolAck s) first (enrolments s me), if_core_self me (if_scope s s 1), if_scope_self s 1))
    where
      by : (x : Option LocalCount) → a.scopes.counts s ≡ x → 0 < is_waiting x → Finds
      by None e l = absurd (omega arith)
      by (Some (count.Active n)) e l = absurd (omega arith)
      by (Some (count.Waits ks)) e l = by_slots ks e

  -- ---- they make their tasks

  module _ (number : ℕ) (ks : List ℕ) (waiting : AreWaiting names a s number ks) where
    abbrev n : ℕ
    n = length ks

    abbrev c : Option LocalCount
    c = Some (count.Active n)

    abbrev start : Outcome
    start = quietly (with_count a s c)

    abbrev Mid : Outcome → Tree → List ℕ → Type 0
    Mid = Midway given names w me first.here s number waiting.named tree n

    some : 0 < n
    some = subst CountIsSome waiting.counts (old.counts s)

    waits_are : a.scopes.counts s ≡ waits_of ks
    waits_are = waiting.counts ∙ filled ks some
      where
        filled : (xs : List ℕ) → 0 < length xs → Some (count.Waits xs) ≡ waits_of xs
        filled [] l = absurd (omega arith)
        filled (x ∷ xs) l = refl

    same_counts : a.scopes.counts ≡ put_scope a.scopes.counts s (waits_of ks)
    same_counts = put_scope_itself a.scopes.counts s ∙ ap (put_scope a.scopes.counts s) waits_are

    at_start : Mid start tree ks
    at_start = record {
      core = subst (λ (f : ScopeId → Option LocalCount). CoreStands given names tree me (record a { scopes = record a.scopes { counts = f } })) same_counts old;
      within = λ l u h. (st.stands.calls.tasks.slots me l u h).low;
      scopes = refl;
      stops = refl;
      private = st.scopes.private me first.here;
      public = st.scopes.public me first.here;
      sends = tt;
      low = tt;
      late = λ q. late_same q given.slots a start.body refl;
      grew = λ q. omega (arith, census_same (of_scope q me) given.slots a start.body refl);
      others = λ q i ne. omega (arith, census_same (of_scope q i) given.slots a start.body refl);
      calm = λ q i. refl;
      kept = keeps_all names tree [];
      named = st.scopes.named;
      passed = refl;
      fresh = λ x l. ap holder_of (st.stands.calls.tasks.fresh me x l);
    }

    abbrev e : Outcome
    e = planted_all (machine_in given) me start ks

    abbrev after : Tree
    after = with_tasks tree me a.tasks.next number n

    at_end : Mid e after []
    at_end = go_all given names w me first.here s number waiting.named tree n ks start tree at_start

    abbrev between : Body
    between = for_slots given names w me first.here s number waiting.named tree n e.body []

    outside : e.body.tasks.slots given.slots ≡ None
    outside = no_task (e.body.tasks.slots given.slots) (λ u h. lt_irrefl given.slots (at_end.within given.slots u h))

    abbrev m : Option Master
    m = a.scopes.masters s

    is_between : ScopeIs between e.body s c m
    is_between = record {
      counts = ap (λ (x : Scopes). x.counts) at_end.scopes ∙ put_twice a.scopes.counts s None c;
      masters = ap (λ (x : Scopes). x.masters) at_end.scopes ∙ put_scope_itself a.scopes.masters s;
    }

    is : ScopeIs a e.body s c m
    is = record { counts = ap (λ (x : Scopes). x.counts) at_end.scopes; masters = ap (λ (x : Scopes). x.masters) at_end.scopes ∙ put_scope_itself a.scopes.masters s }

    no_count : between.scopes.counts s ≡ None
    no_count = put_scope_at a.scopes.counts s None

    core : CoreStands given names after me e.body
    core = one_core given names names after after [] me between e.body given.slots None s c m (keeps_all names after []) (record {
      slot = slot_none given between e.body given.slots outside refl;
      scope = is_between;
      new = λ u h. absurd (none_some u h);
      others = λ l u ne h. tt;
      left = λ u q at h. absurd (none_some u (sym outside ∙ at));
      stays = λ l u ne at f. record { outer = f.outer; opened = f.opened; master = f.master; there = ap (λ (x : Scopes). x.masters s) at_end.scopes ∙ f.there; waits = f.waits; action = f.action };
      count = some;
      master = λ y h. let f = at_end.core.masters s y h in record { home = f.home; alive = f.alive; waiter = waiter_same between e.body s refl y.waiter f.waiter };
      owners = λ q. omega (arith, ap (of_held (is_late q)) outside);
      waiters_here = waiters_stay given names after me between e.body given.slots None s c m at_end.core is_between (sym (ap slots_in no_count)) (λ q. sym (ap (of_slot (is_enrolling q)) outside));
      waiters_other = λ l ne. sym (ap (λ (x : Option LocalCount). times l (slots_in x)) no_count);
      fresh = λ j l. ap (λ (x : Scopes). x.masters (record { core = me; number = j })) at_end.scopes ∙ old.fresh j (subst (λ (x : Scopes). x.next ≤ j) at_end.scopes l);
    }) at_end.core

    was : (F : Option LocalCount → ℕ) (q : ScopeId) → if_scope q s (F (a.scopes.counts s)) ≡ if_scope q s (F (Some (count.Waits ks)))
    was F q = ap (λ (x : Option LocalCount). if_scope q s (F x)) waiting.counts

    sums : SumsAct given me a got e
    sums = record {
      counts = λ q. omega (arith, count_sum a e.body s c m is counted q, was counted q, if_scope_zero q s, at_end.grew q, at_end.late q, at_end.calm q me);
      others = λ q i ne. omega (arith, at_end.others q i ne, at_end.calm q i);
      active = λ q. omega (arith, count_sum a e.body s c m is is_active q, was is_active q, if_scope_zero q s, master_sum a e.body s c m is active_at q, at_end.calm q me);
      enrolling = λ q. omega (arith, count_sum a e.body s c m is is_waiting q, was is_waiting q, if_scope_zero q s, if_core_self me (if_scope q s 1), at_end.calm q me);
      elsewhere = λ q i ne. omega (arith, if_core_off i me (if_scope q s 1) ne, at_end.calm q i);
    }

    keeps_all_made : KeepsScopes given w me got e names after
    keeps_all_made v ran = scopes_kept given names names tree after w v me got e [] ran (record {
      core = core;
      private = at_end.private;
      public = at_end.public;
      sends = at_end.sends;
      sums = sums;
      kept = at_end.kept;
      away = none_away given w S me st.stands.calls;
      named = named_same given names after (bodies w) me e.body (ap (λ (x : Scopes). x.next) at_end.scopes) at_end.named;
      root =
          let r = root_same tree (bodies w) me e.body (ap (λ (x : Scopes). is_there (x.masters root_scope)) at_end.scopes) (ap (λ (x : Stops). x.passed) at_end.stops) st.scopes.root in
          record { master = r.master ∙ ap one_unless (sym at_end.passed); passed = r.passed ∙ sym at_end.passed };
    }) st.scopes

    -- ---- the message acts

    awaits : (k : ℕ) → 0 < times k ks → slot_awaits (awaits_enrolment s) a k ≡ true
    awaits k l = by (times k ks) refl l
      where
        by : (i : ℕ) → times k ks ≡ i → 0 < i → slot_awaits (awaits_enrolment s) a k ≡ true
        by zero z l = absurd (omega arith)
        by (suc i) z l =
            let h = enrols_at given names tree me a old s k i (ap (λ (x : Option LocalCount). times k (slots_in x)) waiting.counts ∙ z) in
            ap (one_awaits (awaits_enrolment s)) h.there ∙ ap (awaits_enrolment s) h.waits ∙ scope_itself s

    all_await : (xs : List ℕ) → ((k : ℕ) → 0 < times k xs → 0 < times k ks) → Each (λ (k : ℕ). slot_awaits (awaits_enrolment s) a k ≡ true) xs
    all_await [] f = tt
    all_await (x ∷ xs) f = (awaits x (f x (omega (arith, times_self x xs))), all_await xs (λ k l. f k (omega (arith, l))))

    pub served : KeepsMade given w me got (serves (machine_in given) me a from (msg.EnrolAck s)) names after
    served = record {
      outcome = e;
      acts = ap (acked (machine_in given) me a s) waiting.counts ∙ ap (λ (b : Bool). if b then Some e else None) (all_of (λ (k : ℕ). slot_awaits (awaits_enrolment s) a k) ks (all_await ks (λ k l. l)));
      sends = at_end.low;
      keeps = keeps_all_made;
    }

pub acks_find_slots : laws.AcksFindSlots
acks_find_slots given names w S me from s st first = finds given names w S me from s st first

pub acks_keep_scopes : laws.AcksKeepScopes
acks_keep_scopes given names w S me from s number ks st first waiting = served given names w S me from s st first number ks waiting
