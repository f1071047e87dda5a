-- Tasks that a core counts have ended: the part of scopes is kept.
use Rattle.std.proofs.Common.{◌≡◌, ◌≢◌, ◌⊎◌, ℕ, zero, suc, ◌+◌, ◌-◌, ◌<◌, ◌≤◌, ◌==◌, ◌&&◌, Bool, true, false, if◌then◌else◌, List, [], ◌∷◌, length, inl, inr, sym, ◌∙◌, ap, subst, refl, arith, Option, Some, None, nat_lt, nat_le}
use Rattle.std.specs.Option.{option_map_or}
use Rattle.std.proofs.lemmas.Bool.{cases_eq}
use Rattle.std.proofs.lemmas.Bool.Decides.{nat_tests}
use Rattle.gr_lang.specs.declared.action.TaskId.{TaskId}
use Rattle.gr_lang.specs.States.{State}
use Rattle.gr_view.specs.Places.{put}
use Rattle.gr_msg.specs.Scopes.{same_scope}
use Rattle.gr_msg.specs.declared.message.ScopeId.{ScopeId}
use Rattle.gr_msg.specs.declared.message.Msg.{Msg}
use Rattle.gr_msg.specs.declared.message.Msg.TheVariants as msg
use Rattle.gr_event.specs.Scopes.{put_scope}
use Rattle.gr_event.specs.Counts.{completed, left_of, active_count}
use Rattle.gr_event.specs.declared.counts.LocalCount.{LocalCount}
use Rattle.gr_event.specs.declared.counts.LocalCount.TheVariants as count
use Rattle.gr_event.specs.declared.counts.LocalLeft.{LocalLeft}
use Rattle.gr_event.specs.declared.counts.LocalLeft.TheVariants as rest
use Rattle.gr_event.specs.declared.masters.Master.{Master}
use Rattle.gr_net.specs.Sums.{weigh, Each}
use Rattle.gr_machine.specs.Machines.{is_core}
use Rattle.gr_machine.specs.States.{Letter, Suspended, Body}
use Rattle.gr_machine.specs.Outcomes.{Outcome, Send}
use Rattle.gr_machine.specs.Serves.{serves}
use Rattle.gr_machine.specs.Spawns.{with_count}
use Rattle.gr_machine.specs.ScopeRuns.{can_complete}
use Rattle.gr_machine.specs.ScopeServes.{completed_to, tasks_completed}
use Rattle.gr_stands.specs.Worlds.{Given, machine_in, World, bodies, in_flight, of_letters, of_sends}
use Rattle.gr_stands.specs.Censuses.{of_held, carried}
use Rattle.gr_stands.specs.Calls.{of_slot, times}
use Rattle.gr_stands_calls.specs.Acting.{letter, IsFirstLetter}
use Rattle.gr_scopes.specs.Trees.{Tree, tree_of, Names}
use Rattle.gr_scopes.specs.Sums.{if_scope, if_core, counted, is_active, is_waiting, active_at, is_there, is_waited_for, is_enrolling, is_late, slots_in, of_unit, of_scope, completes, leaves, acks, enrolments}
use Rattle.gr_scopes.specs.Scopes.{IsWaiter, SlotStands, MasterStands, CountIsSome, CoreStands, UnitStands, MessageStands, ScopesStand}
use Rattle.gr_scopes.specs.ScopeActs.{ScopesAct}
use Rattle.gr_scopes.proofs.Counts.{if_scope_self, if_scope_zero, if_core_self, if_core_off, if_core_zero}
use Rattle.gr_scopes.proofs.Kept.{adds_scope, scopes_kept}
use Rattle.gr_scopes.proofs.Cores.{keeps_all, named_same, root_same}
use Rattle.gr_scopes_opens.specs.Keeping.{KeepsScopes, StandsWith}
use Rattle.gr_scopes_opens.proofs.Common.{some_same, none_some, none_away, waiter_same, waiter_other}
use Rattle.gr_scopes_opens.proofs.Ones.{SlotIs, slot_none, ScopeIs, put_scope_itself, OneAct, one_core, waiters_stay, OneSums, one_sums}
use Rattle.gr_scopes_leaves.specs.Served.{KeepsMade}
use Rattle.gr_scopes_leaves.specs.Laws as laws
use Rattle.gr_scopes_leaves.proofs.Letters.{letter_weighs, letter_stands, no_slot}

-- A count of tasks.
pub record Counts (c : Option LocalCount) (n : ℕ) : Type 0 where
  pub tasks : ℕ
  pub is : c ≡ Some (count.Active tasks)
  pub enough : n ≤ tasks

pub counts_some : (c : Option LocalCount) (n : ℕ) → 0 < n → n ≤ counted c → Counts c n
counts_some None n z l = absurd (omega arith)
counts_some (Some (count.Active x)) n z l = record { tasks = x; is = refl; enough = l }
counts_some (Some (count.Waits slots)) n z l = absurd (omega arith)

module _ (given : Given) (names : Names) (w : World) (S : State) (me from : ℕ) (s : ScopeId) (n : ℕ) (st : StandsWith given names w S) (first : IsFirstLetter given w me from (msg.Complete s n)) where
  abbrev a : Body
  a = bodies w me

  abbrev tree : Tree
  tree = tree_of S

  abbrev got : List Letter
  got = letter from (msg.Complete s n) ∷ []

  fits : (0 < n) × (s.core < given.setup.cores)
  fits = letter_stands given w me from (msg.Complete s n) first names tree st.scopes

  counts_it : Counts (a.scopes.counts s) n
  counts_it = counts_some (a.scopes.counts s) n fits.0
      (omega (arith, st.scopes.counts s me, letter_weighs given w me from (msg.Complete s n) first (completes s me), if_core_self me (if_scope s s n), if_scope_self s n))

  none : a.tasks.slots given.slots ≡ None
  none = no_slot given w S me st.stands.calls

  -- The core counts so many tasks less, or has left the scope.
  module _ (c : Option LocalCount) (sends : List Send) (x : ℕ) (was : a.scopes.counts s ≡ Some (count.Active x)) (sum : counted c + n ≡ x) (some : CountIsSome c) (no_slots : slots_in c ≡ [])
      (calm : is_waiting c ≡ 0)
      (leaving : (q : ScopeId) → if_scope q s (is_active c) + (of_sends (leaves q) me sends + of_sends (acks q) me sends) ≡ if_scope q s 1)
      (stands : Each (λ (y : Send). MessageStands given names tree me y.to y.message) sends)
      (quiet : (q : ScopeId) (i : ℕ) → of_sends (carried (of_unit q i)) me sends + of_sends (completes q i) me sends + of_sends (enrolments q i) me sends ≡ 0) where
    abbrev e : Outcome
    e = record { body = with_count a s c; sends = sends; marks = [] }

    keeps_count : KeepsScopes given w me got e names tree
    keeps_count v made =
        let m = a.scopes.masters s in
        let is : ScopeIs a e.body s c m = record { counts = refl; masters = put_scope_itself a.scopes.masters s } in
        let slot = slot_none given a e.body given.slots none refl in
        let old = st.scopes.cores me in
        let slots_before : slots_in (a.scopes.counts s) ≡ [] = ap slots_in was in
        let core : CoreStands given names tree me e.body = one_core given names names tree tree [] me a e.body given.slots None s c m (keeps_all names tree []) (record {
          slot = slot;
          scope = is;
          new = λ u h. absurd (none_some u h);
          others = λ l u ne h. tt;
          left = λ u q at h. absurd (none_some u (sym none ∙ at));
          stays = λ l u ne at f. record { outer = f.outer; opened = f.opened; master = f.master; there = f.there; waits = f.waits; action = f.action };
          count = some;
          master = λ y h. let f = old.masters s y h in record { home = f.home; alive = f.alive; waiter = waiter_same a e.body s refl y.waiter f.waiter };
          owners = λ q. omega (arith, ap (of_held (is_late q)) none);
          waiters_here = waiters_stay given names tree me a e.body given.slots None s c m old is (no_slots ∙ sym slots_before) (λ q. sym (ap (of_slot (is_enrolling q)) none));
          waiters_other = λ l ne. ap (times l) (no_slots ∙ sym slots_before);
          fresh = old.fresh;
        }) old in
        let sums : OneSums given me a got e given.slots None s c m = record {
          counts = λ q. omega (
            arith,
            ap (of_held (is_late q)) none,
            ap (of_held (of_scope q me).of_task) none,
            ap (λ (y : Option LocalCount). if_scope q s (counted y)) was,
            adds_scope q s (counted c) n,
            ap (if_scope q s) sum,
            if_core_self me (if_scope q s n),
            quiet q me,
          );
          others = λ q i ne. omega (arith, ap (of_held (of_scope q i).of_task) none, if_core_off i me (if_scope q s n) ne, quiet q i);
          active = λ q. omega (arith, ap (λ (y : Option LocalCount). if_scope q s (is_active y)) was, leaving q);
          enrolling = λ q. omega (arith, ap (if_scope q s) calm, if_scope_zero q s, ap (λ (y : Option LocalCount). if_scope q s (is_waiting y)) was, quiet q me);
          elsewhere = λ q i ne. omega (arith, quiet q i);
        } in
        scopes_kept given names names tree tree w v me got e [] made (record {
          core = core;
          private = st.scopes.private me first.here;
          public = st.scopes.public me first.here;
          sends = stands;
          sums = one_sums given me a got e given.slots None s c m slot is sums;
          kept = keeps_all names tree [];
          away = none_away given w S me st.stands.calls;
          named = named_same given names tree (bodies w) me e.body refl st.scopes.named;
          root = root_same tree (bodies w) me e.body refl refl st.scopes.root;
        }) st.scopes

  -- The message acts.
  acts_so : (x : ℕ) → a.scopes.counts s ≡ Some (count.Active x) → n ≤ x
      → serves (machine_in given) me a from (msg.Complete s n) ≡ Some (completed_to (with_count a s (if x == n then None else Some (count.Active (x - n)))) s (if x == n then rest.Zero else rest.More))
  acts_so x was l = ap (tasks_completed (machine_in given) a s n) was
      ∙ ap (λ (b : Bool). if b then Some (completed_to (with_count a s (if x == n then None else Some (count.Active (x - n)))) s (if x == n then rest.Zero else rest.More)) else None) (both s.core given.setup.cores n x fits.1 l)
    where
      both : (i j n x : ℕ) → i < j → n ≤ x → (nat_lt i j && nat_le n x) ≡ true
      both i j n x l k = grind (arith, nat_tests, l, k)

  pub complete : KeepsMade given w me got (serves (machine_in given) me a from (msg.Complete s n)) names tree
  complete = elim (cases_eq counts_it.tasks n) [
    | inl e ↦ record {
      outcome = record { body = with_count a s None; sends = record { to = s.core; message = msg.Leave s } ∷ []; marks = [] };
      acts = acts_so counts_it.tasks counts_it.is counts_it.enough
          ∙ ap (λ (b : Bool). Some (completed_to (with_count a s (if b then None else Some (count.Active (counts_it.tasks - n)))) s (if b then rest.Zero else rest.More))) (equal counts_it.tasks n e);
      sends = (fits.1, tt);
      keeps = keeps_count None (record { to = s.core; message = msg.Leave s } ∷ []) counts_it.tasks counts_it.is (omega (arith, e)) tt refl refl
          (λ q. omega (arith, if_scope_zero q s)) (refl, tt) (λ q i. refl);
    }
    | inr ne ↦ record {
      outcome = record { body = with_count a s (Some (count.Active (counts_it.tasks - n))); sends = []; marks = [] };
      acts = acts_so counts_it.tasks counts_it.is counts_it.enough
          ∙ ap (λ (b : Bool). Some (completed_to (with_count a s (if b then None else Some (count.Active (counts_it.tasks - n)))) s (if b then rest.Zero else rest.More))) (unequal counts_it.tasks n ne);
      sends = tt;
      keeps = keeps_count (Some (count.Active (counts_it.tasks - n))) [] counts_it.tasks counts_it.is (omega (arith, counts_it.enough)) (more counts_it.tasks n counts_it.enough ne) refl refl
          (λ q. omega arith) tt (λ q i. refl);
    }
  ]
    where
      equal : (x n : ℕ) → x ≡ n → (x == n) ≡ true
      equal x n e = grind (arith, nat_tests)

      unequal : (x n : ℕ) → x ≢ n → (x == n) ≡ false
      unequal x n ne = grind (arith, nat_tests)

      more : (x n : ℕ) → n ≤ x → x ≢ n → 0 < x - n
      more x n l ne = omega arith

pub completes_keep_scopes : laws.CompletesKeepScopes
completes_keep_scopes given names w S me from s n st first = complete given names w S me from s n st first
