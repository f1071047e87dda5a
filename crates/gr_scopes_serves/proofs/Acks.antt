-- Serve: a core may count, and each task that waited for that makes its new one.
use Rattle.std.proofs.Common.{◌≡◌, ◌≢◌, ℕ, suc, ◌+◌, ◌≤◌, ◌==◌, Bool, true, false, if◌then◌else◌, List, [], ◌∷◌, ◌++◌, length, inl, inr, sym, ◌∙◌, ap, subst, refl, arith, Option, Some, None}
use Rattle.std.proofs.lemmas.Bool.{cases_eq}
use Rattle.std.proofs.lemmas.List.{append_assoc, append-nil}
use Rattle.std.specs.List.{list_all}
use Rattle.gr_lang.specs.declared.action.Action.TheVariants as action
use Rattle.gr_lang.specs.declared.action.Entry.TheVariants as entry
use Rattle.gr_lang.specs.declared.action.How.{How}
use Rattle.gr_lang.specs.declared.action.How.TheVariants as how
use Rattle.gr_lang.specs.declared.action.TaskId.{TaskId}
use Rattle.gr_lang.specs.Effects.{nothing}
use Rattle.gr_lang.specs.States.{State, innermost_of}
use Rattle.gr_msg.specs.declared.message.Msg.TheVariants as msg
use Rattle.gr_msg.specs.declared.message.ScopeId.{ScopeId}
use Rattle.gr_msg.specs.declared.message.Unit.{Unit as WorkUnit}
use Rattle.gr_event.specs.Counts.{when_acked}
use Rattle.gr_event.specs.declared.counts.LocalCount.{LocalCount}
use Rattle.gr_event.specs.declared.counts.LocalCount.TheVariants as count
use Rattle.gr_net.specs.Sums.{Each}
use Rattle.gr_net.proofs.Spreads.{put_other, Each-weaker}
use Rattle.gr_machine.specs.declared.mark.Mark.{Mark}
use Rattle.gr_machine.specs.declared.mark.Mark.TheVariants as mark
use Rattle.gr_machine.specs.Machines.{Machine}
use Rattle.gr_machine.specs.States.{Suspended, Tasks, Body}
use Rattle.gr_machine.specs.Outcomes.{Outcome, to, marked, quietly, followed}
use Rattle.gr_machine.specs.Histories.{Sent}
use Rattle.gr_machine.specs.Serves.{serves}
use Rattle.gr_machine.specs.Slots.{same_id, own_id, goes_on, awaits_enrolment, slot_awaits}
use Rattle.gr_machine.specs.Spawns.{private_last, placed, made_in, planted, new_single, with_count}
use Rattle.gr_machine.specs.ScopeServes.{planted_by, planted_in, planted_all, acked}
use Rattle.gr_stands.specs.Worlds.{Given, World, machine_in, bodies}
use Rattle.gr_stands.specs.Calls.{times}
use Rattle.gr_stands.proofs.Places.{cases_id, times_self, times_other}
use Rattle.gr_stands_calls.specs.Acting.{letter}
use Rattle.gr_stands_outcomes.specs.Marks.{sent_from}
use Rattle.gr_scopes.specs.Trees.{Holder, holder_of, Tree, tree_of, with_task, Names}
use Rattle.gr_scopes.specs.Sums.{slots_in}
use Rattle.gr_scopes_opens.specs.Keeping.{StandsWith}
use Rattle.gr_scopes_opens.proofs.Common.{some_same, none_some, Enrols, enrols_at, inner_named, holder_other}
use Rattle.gr_scopes_leaves.specs.Served.{KeepsMade}
use Rattle.gr_scopes_enrols.specs.Several.{with_tasks, AreWaiting}
use Rattle.gr_scopes_enrols.proofs.Acked.{acks_find_slots, acks_keep_scopes}
use Rattle.gr_scopes_trees.proofs.Steps.{spawns_make_tasks}
use Rattle.gr_scopes_tells.proofs.Enrols.{one_at_most, apart}
use Rattle.gr_scopes_entries.specs.Marks.{LeadsBy}
use Rattle.gr_scopes_entries.proofs.Trees.{one_mark_is_one_step}
use Rattle.gr_scopes_runs.proofs.Leads.{grown}
use Rattle.gr_scopes_runs.proofs.Spawns.{placed_none}
use Rattle.gr_scopes_serves.specs.Laws as laws
use Rattle.gr_scopes_serves.proofs.Served.{Apart, leads_apart, leads_made}

-- ---- where a unit goes, tasks stay

placed_tasks : (me : ℕ) (b : Body) (way : How) (work : WorkUnit) → (placed me b way work).body.tasks ≡ b.tasks
placed_tasks me b how.Here work = refl
placed_tasks me b how.Offer work = refl
placed_tasks me b (how.At core) work = by (core == me)
  where
    by : (t : Bool) → (if t then quietly (private_last b work) else record { body = b; sends = to core (msg.Spawn work); marks = [] }).body.tasks ≡ b.tasks
    by true = refl
    by false = refl

-- What some make is left after what was left before.
pub record Extends (before after : List Mark) : Type 0 where
  pub more : List Mark
  pub is : after ≡ before ++ more

extends : (machine : Machine) (me : ℕ) (e : Outcome) (ks : List ℕ) → Extends e.marks (planted_all machine me e ks).marks
extends machine me e [] = record { more = []; is = sym (append-nil e.marks) }
extends machine me e (k ∷ ks) =
    let p : Outcome = planted_in machine me e.body k (e.body.tasks.slots k) in
    let r : Extends (e.marks ++ p.marks) (planted_all machine me (followed e p) ks).marks = extends machine me (followed e p) ks in
    record { more = p.marks ++ r.more; is = r.is ∙ append_assoc e.marks p.marks r.more }

module _ (given : Given) (sent : Sent) (names : Names) (w : World) (S : State) (me : ℕ) (s : ScopeId) (number : ℕ) (slots : List ℕ) (st : StandsWith given names w S) (waits : AreWaiting names (bodies w me) s number slots) where
  abbrev machine : Machine
  machine = machine_in given

  abbrev a : Body
  a = bodies w me

  abbrev tree : Tree
  tree = tree_of S

  -- A slot whose task makes a new one in the scope.
  record Plants (k : ℕ) : Type 0 where
    task : Suspended
    there : a.tasks.slots k ≡ Some task
    way : How
    target : ℕ
    args : List ℕ
    due : task.action ≡ action.Spawn way target args
    holder : Holder
    held : tree.holders task.id ≡ Some holder
    inner : innermost_of holder.scope holder.opened ≡ number

  plants_at : (k n : ℕ) → times k (slots_in (a.scopes.counts s)) ≡ suc n → Plants k
  plants_at k n e =
      let x : Enrols given names tree me a (st.scopes.cores me) k s = enrols_at given names tree me a (st.scopes.cores me) s k n e in
      let h = ((st.scopes.cores me).slots k x.task x.there).held in
      let named = inner_named names h.holder.scope h.holder.opened x.task.scope x.task.opened h.inside h.opens in
      record {
        task = x.task;
        there = x.there;
        way = x.fits.way;
        target = x.fits.target;
        args = x.fits.args;
        due = x.fits.next;
        holder = h.holder;
        held = h.there;
        inner = st.scopes.named.apart (innermost_of h.holder.scope h.holder.opened) number s (named ∙ ap Some x.fits.under) waits.named;
      }

  abbrev AllPlant : List ℕ → Type 0
  AllPlant [] = Unit
  AllPlant (k ∷ ks) = Plants k × Each (λ (l : ℕ). l ≢ k) ks × AllPlant ks

  all_plant : (ks : List ℕ) → ((k : ℕ) → times k ks ≤ times k (slots_in (a.scopes.counts s))) → AllPlant ks
  all_plant [] f = tt
  all_plant (k ∷ ks) f =
      let n = times k (slots_in (a.scopes.counts s)) in
      let one : n ≤ 1 = omega (arith, (st.scopes.cores me).waiters s k, one_at_most s (a.tasks.slots k)) in
      let some : n ≡ 1 = omega (arith, one, f k, times_self k ks) in (
        plants_at k 0 some,
        apart k ks (omega (arith, one, f k, times_self k ks)),
        all_plant ks (λ l. fewer l),
      )
    where
      fewer : (l : ℕ) → times l ks ≤ times l (slots_in (a.scopes.counts s))
      fewer l = elim (cases_eq l k) [
        | inl e ↦ omega (arith, f l, ap (λ (x : ℕ). times x (k ∷ ks)) e, ap (λ (x : ℕ). times x ks) e, times_self k ks)
        | inr e ↦ omega (arith, f l, times_other l k ks e)
      ]

  -- The tree as it stands once some have made theirs: it has all holders of before.
  abbrev KeepsHolders : Tree → Type 0
  KeepsHolders T = (id : TaskId) (h : Holder) → tree.holders id ≡ Some h → T.holders id ≡ Some h

  -- The name of a task that a core makes next is that of no task of before.
  not_old : (id : TaskId) (h : Holder) (n : ℕ) → tree.holders id ≡ Some h → a.tasks.next ≤ n → id ≢ record { core = me; number = n }
  not_old id h n held low e = none_some h (sym (ap holder_of (st.stands.calls.tasks.fresh me n low)) ∙ ap tree.holders (sym e) ∙ held)

  module _ (e : Outcome) (T : State) (k : ℕ) (p : Plants k) (same : e.body.tasks.slots k ≡ a.tasks.slots k) where
    abbrev kid : TaskId
    kid = own_id me e.body

    abbrev made : Outcome
    made = planted_in machine me e.body k (e.body.tasks.slots k)

    makes : made ≡ planted machine me e.body k p.task p.way p.target p.args
    makes = ap (planted_in machine me e.body k) (same ∙ p.there) ∙ ap (planted_by machine me e.body k p.task) p.due

    marks_are : made.marks ≡ marked (entry.Spawn p.task.id p.way p.target p.args kid)
    marks_are =
        ap (λ (x : Outcome). x.marks) makes
        ∙ ap (λ (ms : List Mark). mark.Entry (entry.Spawn p.task.id p.way p.target p.args kid) ∷ ms)
        (placed_none me (made_in machine me e.body k p.task) p.way (new_single me e.body p.task p.target p.args))

    tasks_are : made.body.tasks ≡ (made_in machine me e.body k p.task).tasks
    tasks_are = ap (λ (x : Outcome). x.body.tasks) makes ∙ placed_tasks me (made_in machine me e.body k p.task) p.way (new_single me e.body p.task p.target p.args)

    others_are : (l : ℕ) → l ≢ k → made.body.tasks.slots l ≡ e.body.tasks.slots l
    others_are l ne = ap (λ (x : Tasks). x.slots l) tasks_are ∙ put_other e.body.tasks.slots k (Some (goes_on machine p.task nothing)) l ne

    -- One more has made its task.
    module _ (N : State) (kept : KeepsHolders (tree_of T)) (h : LeadsBy given sent me S e.marks T) (g : LeadsBy given sent me S (followed e made).marks N) where
      one_tree : tree_of N ≡ with_task (tree_of T) kid number
      one_tree =
          let r : Apart given sent me S N e.marks made.marks = leads_apart given sent me S N e.marks made.marks g in
          let there : r.state ≡ T = some_same r.state T (sym r.begins ∙ h) in
          let follows : LeadsBy given (sent_from sent me e.marks) me T (marked (entry.Spawn p.task.id p.way p.target p.args kid)) N =
          subst (λ (ms : List Mark). LeadsBy given (sent_from sent me e.marks) me T ms N) marks_are
          (subst (λ (x : State). LeadsBy given (sent_from sent me e.marks) me x made.marks N) there r.follows) in
          spawns_make_tasks given T N p.task.id p.holder p.way p.target p.args kid (kept p.task.id p.holder p.held)
          (one_mark_is_one_step given (sent_from sent me e.marks) me T N (entry.Spawn p.task.id p.way p.target p.args kid) follows)
          ∙ ap (with_task (tree_of T) kid) p.inner

      one_kept : a.tasks.next ≤ e.body.tasks.next → KeepsHolders (tree_of N)
      one_kept low id x f =
          let off : same_id id kid ≡ false = elim (cases_id id kid) [
            | inl q ↦ absurd (not_old id x e.body.tasks.next f low q)
            | inr q ↦ q
          ] in
          ap (λ (t : Tree). t.holders id) one_tree ∙ holder_other (tree_of T).holders kid (record { scope = number; opened = [] }) id off ∙ kept id x f

  plants_tree : (ks : List ℕ) (e : Outcome) (T N : State) → AllPlant ks → Each (λ (l : ℕ). e.body.tasks.slots l ≡ a.tasks.slots l) ks → a.tasks.next ≤ e.body.tasks.next → KeepsHolders (tree_of T)
      → LeadsBy given sent me S e.marks T → LeadsBy given sent me S (planted_all machine me e ks).marks N → tree_of N ≡ with_tasks (tree_of T) me e.body.tasks.next number (length ks)
  plants_tree [] e T N all same low kept h g = ap tree_of (some_same N T (sym g ∙ h))
  plants_tree (k ∷ ks) e T N all same low kept h g =
      let p = all.0 in
      let x : Outcome = made e T k p same.0 in
      let after : Outcome = followed e x in
      let r : Extends after.marks (planted_all machine me after ks).marks = extends machine me after ks in
      let m : Apart given sent me S N after.marks r.more = leads_apart given sent me S N after.marks r.more (subst (λ (ms : List Mark). LeadsBy given sent me S ms N) r.is g) in
      let tree_then : tree_of m.state ≡ with_task (tree_of T) (own_id me e.body) number = one_tree e T k p same.0 m.state kept h m.begins in
      let next_then : after.body.tasks.next ≡ e.body.tasks.next + 1 = ap (λ (y : Tasks). y.next) (tasks_are e T k p same.0) in
      let rest = Each-weaker (λ (l : ℕ). l ≢ k) (λ (l : ℕ). e.body.tasks.slots l ≡ a.tasks.slots l) (λ (l : ℕ). after.body.tasks.slots l ≡ a.tasks.slots l)
      (λ l ne f. others_are e T k p same.0 l ne ∙ f) ks all.1 same.1 in
      plants_tree ks after m.state N all.2 rest (omega (arith, low, next_then)) (one_kept e T k p same.0 m.state kept h m.begins low) m.begins g
      ∙ ap (λ (t : Tree). with_tasks t me after.body.tasks.next number (length ks)) tree_then
      ∙ ap (λ (n : ℕ). with_tasks (with_task (tree_of T) (own_id me e.body) number) me n number (length ks)) next_then

  -- ---- the event

  abbrev counting : Outcome
  counting = quietly (with_count a s (when_acked (Some (count.Waits slots))))

  all_tree : (N : State) → LeadsBy given sent me S (planted_all machine me counting slots).marks N → tree_of N ≡ with_tasks tree me a.tasks.next number (length slots)
  all_tree N g = plants_tree slots counting S N (all_plant slots (λ k. omega (arith, ap (λ (c : Option LocalCount). times k (slots_in c)) waits.counts))) (unchanged slots) (omega arith) (λ id h f. f) refl g
    where
      unchanged : (ks : List ℕ) → Each (λ (l : ℕ). a.tasks.slots l ≡ a.tasks.slots l) ks
      unchanged [] = tt
      unchanged (k ∷ ks) = (refl, unchanged ks)

  outcome_is : (from : ℕ) (e : Outcome) → serves machine me a from (msg.EnrolAck s) ≡ Some e → e ≡ planted_all machine me counting slots
  outcome_is from e made = by (list_all (λ slot. slot_awaits (awaits_enrolment s) a slot) slots) (sym (ap (acked machine me a s) waits.counts) ∙ made)
    where
      by : (b : Bool) → (if b then Some (planted_all machine me counting slots) else None) ≡ Some e → e ≡ planted_all machine me counting slots
      by true f = sym (some_same (planted_all machine me counting slots) e f)
      by false f = absurd (none_some e f)

pub enrolments_lead : laws.EnrolmentsLead
enrolments_lead given sent names w S me from s st first =
    let found = acks_find_slots given names w S me from s st first in
    let got = letter from (msg.EnrolAck s) ∷ [] in
    let made : KeepsMade given w me got (serves (machine_in given) me (bodies w me) from (msg.EnrolAck s)) names (with_tasks (tree_of S) me (bodies w me).tasks.next found.0 (length found.1)) =
    acks_keep_scopes given names w S me from s found.0 found.1 st first found.2 in
    let is = outcome_is given sent names w S me s found.0 found.1 st found.2 from made.outcome made.acts in
    leads_made given sent names w S me got (bodies w me) (serves (machine_in given) me (bodies w me) from (msg.EnrolAck s)) made.outcome made.acts
    (λ T h. grown given sent names w S me got made.outcome T names (with_tasks (tree_of S) me (bodies w me).tasks.next found.0 (length found.1)) (λ number q f. f)
    (all_tree given sent names w S me s found.0 found.1 st found.2 T (subst (λ (x : Outcome). LeadsBy given sent me S x.marks T) is h)) made.keeps)
