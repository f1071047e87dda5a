-- Each task of the plain state that stands unended in a scope is counted at a core; so where nothing is counted, no work is left.
use Rattle.std.proofs.Common.{◌≡◌, ◌≢◌, ◌⊎◌, ℕ, zero, suc, ◌+◌, ◌<◌, ◌||◌, Bool, true, false, if◌then◌else◌, List, [], ◌∷◌, inl, inr, sym, ◌∙◌, ap, subst, refl, arith, Option, Some, None}
use Rattle.std.specs.FinMap as fin
use Rattle.gr_lang.specs.declared.action.TaskId.{TaskId}
use Rattle.gr_lang.specs.States.{Mode, ended, Task, State}
use Rattle.gr_valid.specs.Work.{has_task, has_index}
use Rattle.gr_valid.proofs.Counts.{Worker, has_worker}
use Rattle.gr_valid.proofs.Direct.{work_direct}
use Rattle.gr_msg.specs.declared.message.ScopeId.{ScopeId}
use Rattle.gr_msg.specs.declared.message.Msg.{Msg}
use Rattle.gr_msg.specs.declared.message.Msg.TheVariants as msg
use Rattle.gr_msg.specs.declared.message.Unit.{Unit as WorkUnit}
use Rattle.gr_msg.specs.declared.message.Unit.TheVariants as unit
use Rattle.gr_net.specs.Sums.{weigh, Each}
use Rattle.gr_net.specs.Flights.{Everywhere}
use Rattle.gr_net.proofs.Spreads.{Each-weaker, Each-zero, Each-all, weigh_none}
use Rattle.gr_net.proofs.Flights.{every_with, every_zero, every_all, flight_none}
use Rattle.gr_machine.specs.States.{Suspended}
use Rattle.gr_machine.specs.Nets.{messages_in}
use Rattle.gr_stands.specs.Worlds.{Given, World, bodies, in_flight}
use Rattle.gr_stands.specs.Censuses.{of_held, carried, census, is_named, is_single, is_task, going_on, is_unended}
use Rattle.gr_stands.specs.Calls.{UnitFits, MessageFits}
use Rattle.gr_stands.proofs.Places.{cases_id}
use Rattle.gr_scopes.specs.Trees.{Holder, holder_of, tree_of, Names, IsHeld}
use Rattle.gr_scopes.specs.Sums.{if_scope, if_core, of_unit, of_scope}
use Rattle.gr_scopes.specs.Scopes.{UnitStands, MessageStands}
use Rattle.gr_scopes.proofs.Counts.{if_scope_self, if_core_self}
use Rattle.gr_scopes_opens.specs.Keeping.{StandsWith}
use Rattle.gr_scopes_opens.proofs.Common.{some_same}
use Rattle.gr_scopes_finished.specs.Counted.{NoneCounted}
use Rattle.gr_scopes_finished.specs.Laws as laws
use Rattle.gr_scopes_finished.proofs.Zeros.{BodyZero, body_zero, body_none, cores_zero, flight_zero, census_none}

module _ (given : Given) (names : Names) (w : World) (S : State) (number : ℕ) (scope : ScopeId) (st : StandsWith given names w S) (named : names number ≡ Some scope) (none : NoneCounted given w scope)
    (id : TaskId) (t : Task) (there : fin.get S.tasks id ≡ Some t) (inside : t.scope ≡ number) where
  abbrev n : ℕ
  n = given.setup.cores

  -- What has the task's name stands in the scope, and would be counted.
  held_inside : (name : TaskId) (s : ScopeId) (opened : List ScopeId) → name ≡ id → IsHeld names (tree_of S) name s opened → s ≡ scope
  held_inside name s opened same h =
      let holder : h.holder ≡ record { scope = t.scope; opened = t.opened } =
      some_same h.holder (record { scope = t.scope; opened = t.opened }) (sym h.there ∙ ap (tree_of S).holders same ∙ ap holder_of there) in
      some_same s scope (sym h.inside ∙ ap (λ (x : Holder). names x.scope) holder ∙ ap names inside ∙ named)

  other_name : (name : TaskId) (s : ScopeId) (opened : List ScopeId) (origin : ℕ) → IsHeld names (tree_of S) name s opened → if_core origin origin (if_scope scope s 1) ≡ 0 → is_named id name ≡ 0
  other_name name s opened origin h z = elim (cases_id name id) [
    | inl e ↦ absurd (omega (arith, z, if_core_self origin (if_scope scope s 1), ap (λ (q : ScopeId). if_scope scope q 1) (held_inside name s opened e h), if_scope_self scope 1))
    | inr e ↦ ap (λ (b : Bool). if b then suc zero else zero) e
  ]

  zeros : (i c : ℕ) → i < n → c < n → BodyZero (of_scope scope i) given.slots (bodies w c)
  zeros i c l here = body_zero (of_scope scope i) given.slots (bodies w c) (cores_zero (of_scope scope i) given w (none i l) c here)

  -- ---- a task in a slot

  slot_zero : (c k : ℕ) → c < n → k < given.slots → (o : Option Suspended) → (bodies w c).tasks.slots k ≡ o → of_held (is_task id).of_task o ≡ 0
  slot_zero c k here low None at = refl
  slot_zero c k here low (Some u) at =
      let counted = (st.stands.calls.tasks.slots c k u at).counted in
      other_name u.id u.scope u.opened u.origin ((st.scopes.cores c).slots k u at).held
      (sym (ap (of_held (of_scope scope u.origin).of_task) at) ∙ (zeros u.origin c counted here).held k low)

  -- ---- a unit

  abbrev Weightless : WorkUnit → Type 0
  Weightless u = (i : ℕ) → i < n → of_unit scope i u ≡ 0

  abbrev ZeroIf : WorkUnit → Type 0
  ZeroIf u = Weightless u → is_single id u ≡ 0

  unit_zero : (u : WorkUnit) → UnitStands given names (tree_of S) u → UnitFits given S u → ZeroIf u
  unit_zero (unit.Single target args s origin name) stands fits z = other_name name s [] origin stands (z origin fits.counted)
  unit_zero (unit.Chunk target args s origin owner lo hi grain) stands fits z = refl

  units_zero : (us : List WorkUnit) → Each (UnitStands given names (tree_of S)) us → Each (UnitFits given S) us → ((i : ℕ) → i < n → weigh (of_unit scope i) us ≡ 0) → weigh (is_single id) us ≡ 0
  units_zero us stand fit z =
      let all : Each Weightless us = Each-all n (λ (i : ℕ) (u : WorkUnit). of_unit scope i u ≡ 0) us (λ i l. Each-zero (of_unit scope i) us (z i l)) in
      weigh_none (is_single id) us
      (Each-weaker ZeroIf Weightless (λ (u : WorkUnit). is_single id u ≡ 0) (λ u f x. f x) us
      (Each-weaker (UnitStands given names (tree_of S)) (UnitFits given S) ZeroIf unit_zero us stand fit) all)

  -- ---- a message

  abbrev WeightlessIn : ℕ → ℕ → Msg → Type 0
  WeightlessIn from to m = (i : ℕ) → i < n → carried (of_unit scope i) from to m ≡ 0

  abbrev ZeroInIf : ℕ → ℕ → Msg → Type 0
  ZeroInIf from to m = WeightlessIn from to m → carried (is_single id) from to m ≡ 0

  message_zero : (from to : ℕ) (m : Msg) → MessageStands given names (tree_of S) from to m → MessageFits given (bodies w) S from to m → ZeroInIf from to m
  message_zero from to (msg.Spawn u) stands fits z = unit_zero u stands fits z
  message_zero from to (msg.StealGive u) stands fits z = unit_zero u stands fits z
  message_zero from to _ stands fits z = refl

  messages_zero : in_flight (carried (is_single id)) n w ≡ 0
  messages_zero =
      let all : Everywhere messages_in WeightlessIn n w = every_all messages_in n (λ (i from to : ℕ) (m : Msg). carried (of_unit scope i) from to m ≡ 0) w
      (λ i l. every_zero messages_in (carried (of_unit scope i)) n w (flight_zero (of_scope scope i) given w (none i l))) in
      let some : Everywhere messages_in ZeroInIf n w = every_with messages_in (MessageStands given names (tree_of S)) (MessageFits given (bodies w) S) ZeroInIf n w message_zero st.scopes.messages st.stands.calls.messages in
      flight_none messages_in (carried (is_single id)) n w (every_with messages_in ZeroInIf WeightlessIn (λ from to m. carried (is_single id) from to m ≡ 0) n w (λ from to m f x. f x) some all)

  -- ---- it is nowhere

  nowhere : census (is_task id) given w ≡ 0
  nowhere = census_none (is_task id) given w (λ c here. body_none (is_task id) given.slots (bodies w c) (record {
    held = λ k low. slot_zero c k here low ((bodies w c).tasks.slots k) refl;
    private = units_zero (bodies w c).work.private (st.scopes.private c here) (st.stands.calls.tasks.private c here) (λ i l. (zeros i c l here).private);
    public = units_zero (bodies w c).work.public (st.scopes.public c here) (st.stands.calls.tasks.public c here) (λ i l. (zeros i c l here).public);
  })) messages_zero

  has_ended : t.mode ≡ ended
  has_ended = go t.mode (sym (ap is_unended there) ∙ sym (st.stands.calls.once id) ∙ nowhere)
    where
      go : (m : Mode) → going_on m ≡ 0 → m ≡ ended
      go ended e = refl
      go _ e = absurd (omega arith)

pub tasks_are_counted : laws.TasksAreCounted
tasks_are_counted given names w S number scope st named none = go (has_task S number) refl
  where
    go : (b : Bool) → has_task S number ≡ b → has_task S number ≡ false
    go false e = e
    go true e = let x : Worker S number = has_worker S number e in absurd (x.works (has_ended given names w S number scope st named none x.id x.task x.there x.scope))

pub scopes_are_finished : laws.ScopesAreFinished
scopes_are_finished given names w S number scope st valid tells named none can =
    work_direct given.program S number valid can
    ∙ ap (λ (b : Bool). b || has_index S number) (tasks_are_counted given names w S number scope st named none)
    ∙ tells number scope named none
