-- The tasks that wait until their core may count in a scope.
use Rattle.std.proofs.Common.{◌≡◌, ◌≢◌, ◌⊎◌, ℕ, zero, suc, ◌+◌, ◌<◌, ◌≤◌, ◌==◌, Bool, true, false, if◌then◌else◌, List, [], ◌∷◌, inl, inr, sym, ◌∙◌, ap, subst, refl, arith, Option, Some, None}
use Rattle.std.proofs.lemmas.Bool.{cases_eq}
use Rattle.gr_lang.specs.declared.action.Action.{Action}
use Rattle.gr_lang.specs.States.{State}
use Rattle.gr_msg.specs.Scopes.{same_scope}
use Rattle.gr_msg.specs.declared.message.ScopeId.{ScopeId}
use Rattle.gr_event.specs.Counts.{waiting_slots}
use Rattle.gr_event.specs.declared.counts.LocalCount.{LocalCount}
use Rattle.gr_event.specs.declared.counts.LocalCount.TheVariants as count
use Rattle.gr_net.specs.Sums.{Each}
use Rattle.gr_machine.specs.declared.waits.Waits.{Waits}
use Rattle.gr_machine.specs.declared.waits.Waits.TheVariants as wait
use Rattle.gr_machine.specs.States.{Suspended, Body}
use Rattle.gr_stands.specs.Worlds.{World, Given, machine_in, bodies}
use Rattle.gr_stands.specs.Actions.{ActionFits}
use Rattle.gr_stands.specs.Calls.{StandsAt, of_slot, is_told, times}
use Rattle.gr_stands.proofs.Places.{times_self, times_other}
use Rattle.gr_stands_enrols.specs.Enrolling.{IsEnrolling, AreEnrolling}
use Rattle.gr_scopes.specs.Trees.{tree_of, Names}
use Rattle.gr_scopes.specs.Sums.{if_scope, is_enrolling, slots_in}
use Rattle.gr_scopes.proofs.Counts.{cases_scope, if_scope_self, if_scope_off}
use Rattle.gr_scopes_opens.proofs.Common.{Enrols, enrols_at, some_same}
use Rattle.gr_scopes_tells.specs.Told.{StandsTold}
use Rattle.gr_scopes_tells.specs.Laws as laws

pub one_at_most : (s : ScopeId) (o : Option Suspended) → of_slot (is_enrolling s) o ≤ 1
one_at_most s None = omega arith
one_at_most s (Some t) = go t.waits
  where
    if_one : (s q : ScopeId) → if_scope s q 1 ≤ 1
    if_one s q = elim (cases_scope s q) [
      | inl e ↦ omega (arith, ap (λ (x : ScopeId). if_scope x q 1) e, if_scope_self q 1)
      | inr e ↦ omega (arith, if_scope_off s q 1 e)
    ]

    go : (x : Waits) → is_enrolling s x ≤ 1
    go (wait.Enrolment q) = if_one s q
    go _ = omega arith

-- A slot that isn't in a list stands apart from it.
pub apart : (k : ℕ) (ks : List ℕ) → times k ks ≡ 0 → Each (λ other. other ≢ k) ks
apart k [] e = tt
apart k (l ∷ ks) e = elim (cases_eq l k) [
  | inl q ↦ absurd (omega (arith, e, ap (λ (x : ℕ). times x (l ∷ ks)) (sym q), times_self l ks))
  | inr q ↦ (q, apart k ks (sym (times_other k l ks (λ r. q (sym r))) ∙ e))
]

module _ (given : Given) (names : Names) (w : World) (S : State) (me : ℕ) (s : ScopeId) (told : StandsTold given names w S) where
  abbrev a : Body
  a = bodies w me

  is_such : (t : Suspended) (k n : ℕ) → a.tasks.slots k ≡ Some t → times k (slots_in (a.scopes.counts s)) ≡ suc n → IsEnrolling given t
  is_such t k n at e =
      let x : Enrols given names (tree_of S) me a (told.stands.scopes.cores me) k s = enrols_at given names (tree_of S) me a (told.stands.scopes.cores me) s k n e in
      let same : x.task ≡ t = some_same x.task t (sym x.there ∙ at) in
      let waits : t.waits ≡ wait.Enrolment s = ap (λ (y : Suspended). y.waits) (sym same) ∙ x.waits in
      let stands : StandsAt S t = (told.stands.stands.calls.tasks.slots me k t at).stands (ap is_told waits) in
      record {
        scope = s;
        waits = waits;
        way = x.fits.way;
        target = x.fits.target;
        args = x.fits.args;
        due = ap (λ (y : Suspended). y.action) (sym same) ∙ x.fits.next;
        core = x.fits.core;
        fits = subst (λ (y : Action). ActionFits (machine_in given) y) stands.action (told.actions t.id stands.plain stands.there);
      }

  are_such : (ks : List ℕ) → ((k : ℕ) → times k ks ≤ times k (slots_in (a.scopes.counts s))) → AreEnrolling given a ks
  are_such [] f = tt
  are_such (k ∷ ks) f =
      let n = times k (slots_in (a.scopes.counts s)) in
      let one : n ≤ 1 = omega (arith, (told.stands.scopes.cores me).waiters s k, one_at_most s (a.tasks.slots k)) in
      let some : n ≡ 1 = omega (arith, one, f k, times_self k ks) in (
        λ t at. is_such t k 0 at some,
        apart k ks (omega (arith, one, f k, times_self k ks)),
        are_such ks (λ l. fewer l),
      )
    where
      fewer : (l : ℕ) → times l ks ≤ times l (slots_in (a.scopes.counts s))
      fewer l = elim (cases_eq l k) [
        | inl e ↦ omega (arith, f l, ap (λ (x : ℕ). times x (k ∷ ks)) e, ap (λ (x : ℕ). times x ks) e, times_self k ks)
        | inr e ↦ omega (arith, f l, times_other l k ks e)
      ]

waiting_are : (c : Option LocalCount) (ks : List ℕ) → waiting_slots c ≡ Some ks → slots_in c ≡ ks
waiting_are None ks e = absurd (cc)
waiting_are (Some (count.Active n)) ks e = absurd (cc)
waiting_are (Some (count.Waits slots)) ks e = cc

pub enrolments_are_told : laws.EnrolmentsAreTold
enrolments_are_told given names w S me s told ks e =
    let same : slots_in ((bodies w me).scopes.counts s) ≡ ks = waiting_are ((bodies w me).scopes.counts s) ks e in
    are_such given names w S me s told ks (λ k. omega (arith, ap (times k) same))
