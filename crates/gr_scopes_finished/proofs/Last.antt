-- Where the last core leaves a scope, nothing of it is counted.
use Rattle.std.proofs.Common.{◌≡◌, ◌≢◌, ◌⊎◌, ℕ, zero, suc, ◌+◌, ◌<◌, ◌≤◌, List, [], ◌∷◌, inl, inr, sym, ◌∙◌, ap, subst, refl, arith, Option, Some, None}
use Rattle.std.proofs.lemmas.Bool.{cases_eq}
use Rattle.gr_lang.specs.States.{State}
use Rattle.gr_msg.specs.declared.message.ScopeId.{ScopeId}
use Rattle.gr_msg.specs.declared.message.Msg.TheVariants as msg
use Rattle.gr_event.specs.declared.counts.LocalCount.{LocalCount}
use Rattle.gr_event.specs.declared.counts.LocalCount.TheVariants as count
use Rattle.gr_net.specs.Sums.{total, weigh, Each}
use Rattle.gr_net.proofs.Spreads.{total_zero, total_one, total_two}
use Rattle.gr_machine.specs.declared.waits.Waits.{Waits}
use Rattle.gr_machine.specs.States.{Suspended}
use Rattle.gr_stands.specs.Worlds.{Given, World, bodies, in_flight}
use Rattle.gr_stands.specs.Censuses.{of_held, census}
use Rattle.gr_stands.specs.Calls.{SlotFits}
use Rattle.gr_scopes.specs.Trees.{Names, tree_of}
use Rattle.gr_scopes.specs.Sums.{if_scope, counted, is_active, active_at, late_scopes, is_late, late_at, of_scope, leaves, acks}
use Rattle.gr_scopes.proofs.Counts.{if_scope_self}
use Rattle.gr_scopes_opens.specs.Keeping.{StandsWith}
use Rattle.gr_scopes_leaves.proofs.Letters.{letter_weighs, letter_stands}
use Rattle.gr_scopes_leaves.proofs.Left.{active_if}
use Rattle.gr_scopes_leaves.proofs.Arrived.{late_one}
use Rattle.gr_scopes_finished.specs.Laws as laws

inactive : (c : Option LocalCount) → is_active c ≡ 0 → counted c ≡ 0
inactive None e = refl
inactive (Some (count.Active n)) e = absurd (omega arith)
inactive (Some (count.Waits slots)) e = refl

module _ (given : Given) (names : Names) (w : World) (S : State) (scope : ScopeId) (st : StandsWith given names w S) where
  abbrev active_in : ℕ → ℕ
  active_in c = is_active ((bodies w c).scopes.counts scope)

  -- A core that isn't active in the scope counts nothing of it.
  uncounted : (c : ℕ) → active_in c ≡ 0 → census (of_scope scope c) given w ≡ 0
  uncounted c e = omega (arith, st.scopes.counts scope c, inactive ((bodies w c).scopes.counts scope) e)

  -- The active cores of the master at its home.
  active_here : (me : ℕ) → me ≡ scope.core → active_at ((bodies w me).scopes.masters scope) ≡ total given.setup.cores active_in + in_flight (leaves scope) given.setup.cores w + in_flight (acks scope) given.setup.cores w
  active_here me e = ap (λ (i : ℕ). active_at ((bodies w i).scopes.masters scope)) e ∙ st.scopes.active scope

pub last_leaves_leave_none : laws.LastLeavesLeaveNone
last_leaves_leave_none given names w S me from scope master st first there one c here =
    let homed : me ≡ scope.core = letter_stands given w me from (msg.Leave scope) first names (tree_of S) st.scopes in
    uncounted given names w S scope st c (total_zero (active_in given names w S scope st) given.setup.cores
    (omega (arith, active_here given names w S scope st me homed, ap active_at there, one, letter_weighs given w me from (msg.Leave scope) first (leaves scope), if_scope_self scope 1)) c here)

pub last_arrivals_leave_none : laws.LastArrivalsLeaveNone
last_arrivals_leave_none given names w S me k t scope outer master st at goes opened counts_one there one c here = elim (cases_eq c me) [
  | inl e ↦ subst (λ (i : ℕ). census (of_scope scope i) given w ≡ 0) (sym e) (omega (arith, st.scopes.counts scope me, counts_one, late))
  | inr e ↦ uncounted given names w S scope st c (omega (arith, total_two (active_in given names w S scope st) given.setup.cores c me here fits.here e, active_here given names w S scope st me homed, ap active_at there, one, active_me))
]
  where
    fits : SlotFits given S me k t
    fits = st.stands.calls.tasks.slots me k t at

    homed : me ≡ scope.core
    homed = sym (subst (Each (λ (x : ScopeId). x.core ≡ me)) opened ((st.scopes.cores me).slots k t at).homes).0

    late : 1 ≤ late_at scope given.slots (bodies w me)
    late = omega (
      arith,
      late_one scope given.slots k (bodies w me) fits.low,
      ap (of_held (is_late scope)) at,
      ap (λ (x : Waits). weigh (λ other. if_scope scope other 1) (late_scopes x t.opened)) goes,
      ap (λ (x : List ScopeId). weigh (λ other. if_scope scope other 1) x) opened,
      if_scope_self scope 1,
    )

    active_me : is_active ((bodies w me).scopes.counts scope) ≡ 1
    active_me = active_if ((bodies w me).scopes.counts scope) (omega (arith, counts_one))
