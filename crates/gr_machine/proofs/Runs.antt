-- A Run leaves the words, and a Serve opens no scope.
use Rattle.std.proofs.Common.{◌≡◌, ℕ, List, [], ◌∷◌, refl, ◌∙◌, ap}
use Rattle.std.specs.Prelude.{◌==◌, ◌-◌, ◌+◌, nat_lt, drop, Option, Some, None}
use Rattle.gr_lang.specs.declared.action.Action.{Action}
use Rattle.gr_lang.specs.declared.action.Action.TheVariants as action
use Rattle.gr_lang.specs.declared.action.How.{How}
use Rattle.gr_lang.specs.declared.action.How.TheVariants as how
use Rattle.gr_lang.specs.declared.action.Reply.{Reply}
use Rattle.gr_lang.specs.declared.action.TaskId.{TaskId}
use Rattle.gr_batch.specs.Folding.{wakes_of}
use Rattle.gr_batch.specs.declared.wakes.Woken.{Woken}
use Rattle.gr_event.specs.declared.counts.LocalLeft.{LocalLeft}
use Rattle.gr_event.specs.declared.counts.LocalLeft.TheVariants as rest
use Rattle.gr_msg.specs.declared.message.ScopeId.{ScopeId}
use Rattle.gr_msg.specs.declared.message.Unit.{Unit as WorkUnit}
use Rattle.gr_msg.specs.declared.message.Unit.TheVariants as unit
use Rattle.gr_msg.specs.declared.message.Msg.{Msg}
use Rattle.gr_msg.specs.declared.message.Msg.TheVariants as msg
use Rattle.gr_machine.specs.Machines.{Machine}
use Rattle.gr_machine.specs.States.{Suspended, Scopes, Turn, Vector, Body, Letter, Core}
use Rattle.gr_machine.specs.Outcomes.{Send, Outcome, followed, sent, sent_all, acted}
use Rattle.gr_machine.specs.Slots.{resumed, resumed_task, resumed_all}
use Rattle.gr_machine.specs.Spawns.{placed}
use Rattle.gr_machine.specs.ScopeServes.{planted_by, planted_in, planted_all, completed_to}
use Rattle.gr_machine.specs.Requests.{allocated}
use Rattle.gr_machine.specs.TurnServes.{with_vector, wakes, turn_replies, settled_turn, settled_vector}
use Rattle.gr_machine.specs.Serves.{serves, settles}
use Rattle.gr_machine.specs.Runs.{acts, run_slot, run_unit, taken_up, is_sound, with_rest, first_unit, without_unit, without_ready}
use Rattle.gr_machine.specs.Events.{gives, ran_first, served_first}
use Rattle.gr_machine.specs.Laws as laws
use Rattle.gr_machine.proofs.ActionFacts.{choice, acts_fact}
use Rattle.gr_machine.proofs.ServeFacts.{serves_fact}

-- Sending leaves the body.
one_sent : (me : ℕ) (core : Core) (send : Send) → (sent me core send).body ≡ core.body
one_sent me core send = choice (λ (after : Core). after.body ≡ core.body) (send.to == me) _ _ refl refl

all_sent : (me : ℕ) (core : Core) (sends : List Send) → (sent_all me core sends).body ≡ core.body
all_sent me core [] = refl
all_sent me core (send ∷ sends) = all_sent me (sent me core send) sends ∙ one_sent me core send

-- A core after an outcome has the outcome's body.
body_of : (me : ℕ) (core : Core) (outcome : Outcome) → (acted me core (Some outcome)).body ≡ outcome.body
body_of me core outcome = all_sent me (record core { body = outcome.body }) outcome.sends

-- Runs and words

abbrev KeepsWords : Body → Outcome → Type 0
KeepsWords body outcome = outcome.body.words ≡ body.words

placed_words : (me : ℕ) (body : Body) (way : How) (work : WorkUnit) → KeepsWords body (placed me body way work)
placed_words me body how.Here work = refl
placed_words me body (how.At core) work = choice (KeepsWords body) (core == me) _ _ refl refl
placed_words me body how.Offer work = refl

acts_words : (machine : Machine) (me : ℕ) (body : Body) (slot : ℕ) (task : Suspended) (what : Action) → KeepsWords body (acts machine me body slot task what)
acts_words machine me body slot task = acts_fact (KeepsWords body) machine me body slot task (record {
  is_dropped = refl;
  is_asked = λ core operation x y z. refl;
  is_joined = λ call object key. refl;
  joins_vector = λ call object vector. refl;
  is_trapped = λ kind. refl;
  is_planted = λ way target args count. placed_words me _ way _;
  asks = λ count. refl;
  waits = λ count. refl;
  finish = λ scope. refl;
  loop_in = λ lo hi grain target args scope. refl;
  loop_over_nothing = λ lo hi grain target args. refl;
  early = λ scope. refl;
  early_left = λ scope. refl;
  last = λ scope. refl;
  end = refl;
})

rest_words : (body : Body) (target : ℕ) (args : List ℕ) (scope : ScopeId) (origin : ℕ) (owner : TaskId) (lo hi grain : ℕ) → (with_rest body target args scope origin owner lo hi grain).words ≡ body.words
rest_words body target args scope origin owner lo hi grain = choice (λ (after : Body). after.words ≡ body.words) (nat_lt lo hi) _ _ refl refl

taken_words : (machine : Machine) (me : ℕ) (body : Body) (slot : ℕ) (work : WorkUnit) → KeepsWords body (taken_up machine me body slot work)
taken_words machine me body slot (unit.Single target args scope origin id) = refl
taken_words machine me body slot (unit.Chunk target args scope origin owner lo hi grain) =
    choice (KeepsWords body) (nat_lt grain (hi - lo)) _ _ refl (rest_words _ target args scope origin owner (lo + 1) hi grain)

slot_words : (machine : Machine) (me : ℕ) (core : Core) (slot : ℕ) (task : Option Suspended) → (acted me core (run_slot machine me core.body slot task)).body.words ≡ core.body.words
slot_words machine me core slot None = refl
slot_words machine me core slot (Some task) =
    ap (λ (body : Body). body.words) (body_of me core (acts machine me core.body slot task task.action)) ∙ acts_words machine me core.body slot task task.action

unit_words : (machine : Machine) (me : ℕ) (core : Core) (slot : ℕ) (work : Option WorkUnit) → (acted me core (run_unit machine me core.body slot work)).body.words ≡ core.body.words
unit_words machine me core slot None = refl
unit_words machine me core slot (Some work) = choice (λ (outcome : Option Outcome). (acted me core outcome).body.words ≡ core.body.words) (is_sound machine work) (Some (taken_up machine me core.body slot work)) None
    (ap (λ (body : Body). body.words) (body_of me core (taken_up machine me core.body slot work)) ∙ taken_words machine me core.body slot work) refl

first_words : (machine : Machine) (me : ℕ) (core : Core) (slot : ℕ) (ready : List ℕ) → (ran_first machine me core slot ready).core.body.words ≡ core.body.words
first_words machine me core slot [] = unit_words machine me (record core { body = without_unit core.body }) slot (first_unit core.body)
first_words machine me core slot (ready ∷ more) = slot_words machine me (record core { body = without_ready core.body }) ready (core.body.tasks.slots ready)

pub runs_leave_words : laws.RunsLeaveWords
runs_leave_words machine me core slot = let first : Core = (ran_first machine me core slot core.body.tasks.ready).core in
    ap (λ (body : Body). body.words) (body_of me first (gives first.body)) ∙ first_words machine me core slot core.body.tasks.ready

-- Serves and the numbers of scopes

resumed_next : (machine : Machine) (body : Body) (slot : ℕ) (answer : Reply) (task : Option Suspended) → (resumed_task machine body slot answer task).scopes ≡ body.scopes
resumed_next machine body slot answer None = refl
resumed_next machine body slot answer (Some task) = refl

resumed_all_next : (machine : Machine) (body : Body) (wakes : List Woken) → (resumed_all machine body wakes).scopes ≡ body.scopes
resumed_all_next machine body [] = refl
resumed_all_next machine body (wake ∷ wakes) = resumed_all_next machine (resumed machine body wake.slot wake.reply) wakes ∙ resumed_next machine body wake.slot wake.reply (body.tasks.slots wake.slot)

placed_next : (me : ℕ) (body : Body) (way : How) (work : WorkUnit) → (placed me body way work).body.scopes ≡ body.scopes
placed_next me body how.Here work = refl
placed_next me body (how.At core) work = choice (λ (outcome : Outcome). outcome.body.scopes ≡ body.scopes) (core == me) _ _ refl refl
placed_next me body how.Offer work = refl

by_next : (machine : Machine) (me : ℕ) (body : Body) (slot : ℕ) (task : Suspended) (what : Action) → (planted_by machine me body slot task what).body.scopes ≡ body.scopes
by_next machine me body slot task (action.Spawn way target args) = placed_next me _ way _
by_next machine me body slot task _ = refl

in_next : (machine : Machine) (me : ℕ) (body : Body) (slot : ℕ) (task : Option Suspended) → (planted_in machine me body slot task).body.scopes ≡ body.scopes
in_next machine me body slot None = refl
in_next machine me body slot (Some task) = by_next machine me body slot task task.action

all_next : (machine : Machine) (me : ℕ) (outcome : Outcome) (slots : List ℕ) → (planted_all machine me outcome slots).body.scopes ≡ outcome.body.scopes
all_next machine me outcome [] = refl
all_next machine me outcome (slot ∷ slots) =
    all_next machine me (followed outcome (planted_in machine me outcome.body slot (outcome.body.tasks.slots slot))) slots ∙ in_next machine me outcome.body slot (outcome.body.tasks.slots slot)

abbrev KeepsNext : Body → Option Outcome → Type 0
KeepsNext body None = Unit {0}
KeepsNext body (Some outcome) = outcome.body.scopes.next ≡ body.scopes.next

completed_next : (body : Body) (scope : ScopeId) (more : LocalLeft) → (completed_to body scope more).body.scopes.next ≡ body.scopes.next
completed_next body scope rest.More = refl
completed_next body scope rest.Zero = refl

allocated_next : (body : Body) (from slot : ℕ) (id : TaskId) (count : ℕ) (start : Option ℕ) → (allocated body from slot id count start).body.scopes.next ≡ body.scopes.next
allocated_next body from slot id count None = refl
allocated_next body from slot id count (Some start) = refl

serves_next : (machine : Machine) (me : ℕ) (body : Body) (from : ℕ) (message : Msg) → KeepsNext body (serves machine me body from message)
serves_next machine me body from = serves_fact (KeepsNext body) machine me body from (record {
  is_nothing = tt;
  is_word = λ slot id at call word. refl;
  is_allocated = allocated_next body from;
  is_freed = λ slot id at. refl;
  is_printed = λ slot id word. refl;
  is_replied = λ slot answer. ap (λ (scopes : Scopes). scopes.next) (resumed_next machine body slot answer (body.tasks.slots slot));
  is_spawned = λ work. refl;
  is_enrolled = λ scope master. refl;
  is_acked = λ scope count slots. ap (λ (scopes : Scopes). scopes.next) (all_next machine me _ slots);
  is_completed = λ scope count more. completed_next _ scope more;
  is_left = λ scope. refl;
  is_passed = λ scope slot task. refl;
  is_over = λ scope. refl;
  is_waiting = refl;
  is_given = λ work. choice (KeepsNext body) (body.steals.asked from) _ _ refl tt;
  is_folded = λ at what batch word. refl;
  is_applied = λ object key what batch before. refl;
  is_woken = λ batch before calls. ap (λ (scopes : Scopes). scopes.next) (resumed_all_next machine body (wakes_of calls before));
  turn_is_asked = λ vector turns. refl;
  turn_is_ended = λ vector turns. refl;
  turn_is_begun = λ number vector calls head tail plan. refl;
  is_put = λ number position word vector. refl;
  is_got = λ number position word vector. refl;
  put_is_answered = λ number position vector turn. refl;
  get_is_answered = λ number position word vector turn. refl;
})

acted_next : (me : ℕ) (core : Core) (body : Body) (outcome : Option Outcome) → core.body.scopes.next ≡ body.scopes.next → KeepsNext body outcome → (acted me core outcome).body.scopes.next ≡ body.scopes.next
acted_next me core body None same keeps = same
acted_next me core body (Some outcome) same keeps = ap (λ (after : Body). after.scopes.next) (body_of me core outcome) ∙ keeps

settled_next : (machine : Machine) (body : Body) (number : ℕ) (vector : Vector) (turn : Option Turn) → KeepsNext body (settled_turn machine body number vector turn)
settled_next machine body number vector None = tt
settled_next machine body number vector (Some turn) = choice (KeepsNext body) (turn.left == 0) _ _ (ap (λ (scopes : Scopes). scopes.next) (resumed_all_next machine (with_vector body number (record vector { groups = drop 1 vector.groups; turn = None })) (wakes (turn_replies turn)))) tt

vector_next : (machine : Machine) (body : Body) (number : ℕ) (vector : Option Vector) → KeepsNext body (settled_vector machine body number vector)
vector_next machine body number None = tt
vector_next machine body number (Some vector) = settled_next machine body number vector vector.turn

settles_next : (machine : Machine) (body : Body) (message : Msg) → KeepsNext body (settles machine body message)
settles_next machine body (msg.Grant vector head tail) = vector_next machine body vector (body.vectors.vectors vector)
settles_next machine body (msg.ElemAck vector position got) = vector_next machine body vector (body.vectors.vectors vector)
settles_next machine body _ = tt

letters_next : (machine : Machine) (me : ℕ) (core : Core) (letters : List Letter) → (served_first machine me core letters).core.body.scopes.next ≡ core.body.scopes.next
letters_next machine me core [] = refl
letters_next machine me core (letter ∷ letters) =
    let first : Core = acted me (record core { inbox = letters }) (serves machine me core.body letter.from letter.message) in
    acted_next me first first.body (settles machine first.body letter.message) refl (settles_next machine first.body letter.message)
    ∙ acted_next me (record core { inbox = letters }) core.body (serves machine me core.body letter.from letter.message) refl (serves_next machine me core.body letter.from letter.message)

pub serves_open_nothing : laws.ServesOpenNothing
serves_open_nothing machine me core = let first : Core = (served_first machine me core core.inbox).core in
    ap (λ (body : Body). body.scopes.next) (body_of me first (gives first.body)) ∙ letters_next machine me core core.inbox
