-- What part 3 of 'stands for' asks of an outcome at a core.
use Rattle.std.specs.Prelude.{◌≡◌, ◌≢◌, ℕ, ◌+◌, ◌<◌, false, List, Some}
use Rattle.gr_lang.specs.declared.action.TaskId.{TaskId}
use Rattle.gr_view.specs.Places.{put}
use Rattle.gr_msg.specs.declared.message.ScopeId.{ScopeId}
use Rattle.gr_net.specs.Sums.{Each}
use Rattle.gr_net.specs.Flights.{Everywhere}
use Rattle.gr_machine.specs.States.{Letter, Suspended, Body}
use Rattle.gr_machine.specs.Outcomes.{Outcome}
use Rattle.gr_machine.specs.Nets.{messages_in}
use Rattle.gr_stands.specs.Worlds.{Given, World, Weight, bodies, of_letters, of_sends, Acts, Moves}
use Rattle.gr_stands.specs.Censuses.{body_census, carried}
use Rattle.gr_stands.specs.CallActs.{Apart, IsOther, IsOtherUnit, IsOtherIn}
use Rattle.gr_scopes.specs.Trees.{Holder, Tree, Names}
use Rattle.gr_scopes.specs.Sums.{counted, is_active, is_waiting, active_at, late_at, of_unit, of_scope, completes, leaves, acks, enrolments}
use Rattle.gr_scopes.specs.Scopes.{CoreStands, UnitStands, MessageStands, NamesStand, RootStands, ScopesStand}

-- Names and tree change at most for some tasks.
pub record KeepsOthers (names more : Names) (before after : Tree) (changed : List TaskId) : Type 0 where
  pub named : (number : ℕ) (scope : ScopeId) → names number ≡ Some scope → more number ≡ Some scope
  pub held : (id : TaskId) (holder : Holder) → IsOther changed id → before.holders id ≡ Some holder → after.holders id ≡ Some holder

-- The tasks of other cores, and all in messages, are none of some.
pub record AreAway (given : Given) (world : World) (me : ℕ) (some : List TaskId) : Type 0 where
  pub slots : (core slot : ℕ) (task : Suspended) → core ≢ me → (bodies world core).tasks.slots slot ≡ Some task → IsOther some task.id
  pub private : (core : ℕ) → core < given.setup.cores → Each (IsOtherUnit some) (bodies world core).work.private
  pub public : (core : ℕ) → core < given.setup.cores → Each (IsOtherUnit some) (bodies world core).work.public
  pub messages : Everywhere messages_in (λ from to message. IsOtherIn some message) given.setup.cores world

-- What the tasks, units and Completes of a scope and a core weigh in letters that were taken up, and in what is sent.
abbrev pub counts_got : ScopeId → ℕ → ℕ → List Letter → ℕ
counts_got scope core me got = of_letters (carried (of_unit scope core)) me got + of_letters (completes scope core) me got

abbrev pub counts_sent : ScopeId → ℕ → ℕ → Outcome → ℕ
counts_sent scope core me outcome = of_sends (carried (of_unit scope core)) me outcome.sends + of_sends (completes scope core) me outcome.sends

-- The cores that leave a scope, or are told that they are active in it.
abbrev pub active_got : ScopeId → ℕ → List Letter → ℕ
active_got scope me got = of_letters (leaves scope) me got + of_letters (acks scope) me got

abbrev pub active_sent : ScopeId → ℕ → Outcome → ℕ
active_sent scope me outcome = of_sends (leaves scope) me outcome.sends + of_sends (acks scope) me outcome.sends

-- The sums at a core rise and fall together.
pub record SumsAct (given : Given) (me : ℕ) (before : Body) (got : List Letter) (outcome : Outcome) : Type 0 where
  pub counts : (scope : ScopeId) → counted (outcome.body.scopes.counts scope) + (late_at scope given.slots before + body_census (of_scope scope me) given.slots before + counts_got scope me me got)
      ≡ counted (before.scopes.counts scope) + (late_at scope given.slots outcome.body + body_census (of_scope scope me) given.slots outcome.body + counts_sent scope me me outcome)
  pub others : (scope : ScopeId) (core : ℕ) → core ≢ me
      → body_census (of_scope scope core) given.slots before + counts_got scope core me got ≡ body_census (of_scope scope core) given.slots outcome.body + counts_sent scope core me outcome
  pub active : (scope : ScopeId) → active_at (outcome.body.scopes.masters scope) + (is_active (before.scopes.counts scope) + active_got scope me got)
      ≡ active_at (before.scopes.masters scope) + (is_active (outcome.body.scopes.counts scope) + active_sent scope me outcome)
  pub enrolling : (scope : ScopeId) → is_waiting (outcome.body.scopes.counts scope) + of_letters (enrolments scope me) me got
      ≡ is_waiting (before.scopes.counts scope) + of_sends (enrolments scope me) me outcome.sends
  pub elsewhere : (scope : ScopeId) (core : ℕ) → core ≢ me → of_letters (enrolments scope core) me got ≡ of_sends (enrolments scope core) me outcome.sends

-- The core stands as it should, what is sent does, and names and tree change at most for tasks of this core.
pub record ScopesAct (given : Given) (names more : Names) (before after : Tree) (world : World) (me : ℕ) (got : List Letter) (outcome : Outcome) (changed : List TaskId) : Type 0 where
  pub core : CoreStands given more after me outcome.body
  pub private : Each (UnitStands given more after) outcome.body.work.private
  pub public : Each (UnitStands given more after) outcome.body.work.public
  pub sends : Each (λ send. MessageStands given more after me send.to send.message) outcome.sends
  pub sums : SumsAct given me (bodies world me) got outcome
  pub kept : KeepsOthers names more before after changed
  pub away : AreAway given world me changed
  pub named : NamesStand given more (put (bodies world) me outcome.body) after
  pub root : RootStands (put (bodies world) me outcome.body) after

-- Such an outcome keeps part 3.
abbrev pub ScopesAreKept : Type 0
ScopesAreKept =
    (given : Given) (names more : Names) (before after : Tree) (world next : World) (me : ℕ) (got : List Letter) (outcome : Outcome) (changed : List TaskId)
    → Acts given.setup.cores world next me got outcome → ScopesAct given names more before after world me got outcome changed
    → ScopesStand given names world before → ScopesStand given more next after

-- A Ship and a Take keep it.
abbrev pub MovesKeepScopes : Type 0
MovesKeepScopes =
    (given : Given) (names : Names) (tree : Tree) (world next : World) → Moves given.setup.cores world next
    → ScopesStand given names world tree → ScopesStand given names next tree
