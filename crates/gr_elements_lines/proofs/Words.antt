-- Each piece of a step leaves the words of vectors in the plain state, but for the end of a turn, whose calls are made.
use Rattle.std.proofs.Common.{◌≡◌, ◌≢◌, ℕ, suc, ◌==◌, Bool, true, false, if◌then◌else◌, List, [], ◌∷◌, inl, inr, sym, ◌∙◌, ap, subst, refl, arith, Option, Some, None, is_some}
use Rattle.std.proofs.lemmas.Bool.{cases_eq}
use Rattle.std.proofs.lemmas.Bool.Decides.{nat_tests}
use Rattle.gr_lang.specs.declared.action.WaitingCall.{WaitingCall}
use Rattle.gr_lang.specs.States.{State}
use Rattle.gr_msg.specs.declared.message.Msg.{Msg}
use Rattle.gr_msg.specs.declared.message.Msg.TheVariants as msg
use Rattle.gr_msg.specs.declared.message.Unit.{Unit as WorkUnit}
use Rattle.gr_vector.specs.Groups.{vector_of}
use Rattle.gr_vector.specs.Laws.{words_after, replies_from}
use Rattle.gr_vector.specs.Plans.{ends_after, taken_by}
use Rattle.gr_net.specs.Sums.{Each}
use Rattle.gr_net.proofs.Spreads.{Each-map}
use Rattle.gr_machine.specs.declared.waits.Waits.TheVariants as wait
use Rattle.gr_machine.specs.Histories.{Sent}
use Rattle.gr_machine.specs.Machines.{Machine, thing}
use Rattle.gr_machine.specs.States.{Suspended, Turn, Vector, Body}
use Rattle.gr_machine.specs.Openings.{is_vector}
use Rattle.gr_machine.specs.Outcomes.{Outcome}
use Rattle.gr_machine.specs.Runs.{run_slot, without_ready, run_unit, first_unit, without_unit}
use Rattle.gr_machine.specs.Serves.{serves, settles}
use Rattle.gr_machine.specs.TurnServes.{turn_finished, settled_turn, settled_vector}
use Rattle.gr_machine.specs.Closes.{closes}
use Rattle.gr_machine.specs.Events.{slot_of}
use Rattle.gr_stands.specs.Worlds.{Given, machine_in, bodies}
use Rattle.gr_stands_outcomes.specs.Inner.{outcome_of, run_outcome}
use Rattle.gr_stands_outcomes.specs.Marks.{entries_from}
use Rattle.gr_stands_steps.specs.Telling.{message_outcome}
use Rattle.gr_stands_made.specs.Pieces.{ran_at}
use Rattle.gr_lines.specs.Lines.{vector_in, tasks_on}
use Rattle.gr_lines.specs.Waiting.{IsWaiting, HasLines}
use Rattle.gr_lines_tokens.proofs.Served.{calls_of_vector}
use Rattle.gr_elements_apart.specs.Leaving.{IsOfNoLine, IsMarkBehind, IsOffElements}
use Rattle.gr_elements_apart.proofs.Runs.{tasks_leave, units_leave}
use Rattle.gr_elements_apart.proofs.Turns.{messages_leave}
use Rattle.gr_elements_apart.proofs.Closes.{closes_leave}
use Rattle.gr_elements_acts.specs.Holding.{words_behind}
use Rattle.gr_elements_steps.specs.Behind.{words_of_one, words_settled}
use Rattle.gr_elements_lines.specs.Lines.{HasLine, HasWords, EntryLeaves}
use Rattle.gr_elements_lines.specs.Laws as laws
use Rattle.gr_elements_lines.specs.Laws.{Leads}
use Rattle.gr_elements_lines.proofs.Entries.{after_leaves, marks_leave, behind_leave, calls_leave, calls_made, replies_long}

none_some : {X : Type 0} (x : X) → None ≡ Some x → ⊥
none_some x e = cc

some_same : {X : Type 0} (x y : X) → Some x ≡ Some y → x ≡ y
some_same x y e = cc

-- The entries of these marks leave each vector.
all_leave : (given : Given) (sent : Sent) (S N : State) (me : ℕ) (e : Outcome) (words : ℕ → List ℕ) → Leads given sent me S N e
    → ((number : ℕ) → Each (EntryLeaves number) (entries_from sent me e.marks)) → HasWords given S words → HasWords given N words
all_leave given sent S N me e words leads leaves old number is =
    after_leaves given.program given.setup.cores given.setup.steps number (entries_from sent me e.marks) S N (words number) leads (leaves number) (old number is)

-- ---- a Run

module _ (machine : Machine) (me : ℕ) (body : Body) (slot : ℕ) where
  abbrev NoLine : Outcome → Type 0
  NoLine e = Each IsOfNoLine e.marks

  no_slot : (ready : ℕ) (held : Option Suspended) → NoLine (outcome_of (without_ready body) (run_slot machine me (without_ready body) ready held))
  no_slot ready None = tt
  no_slot ready (Some task) = (tasks_leave machine 0 me (without_ready body) ready task).marks

  unit_made : (work : WorkUnit) (made : Option Outcome) → run_unit machine me (without_unit body) slot (Some work) ≡ made → NoLine (outcome_of (without_unit body) made)
  unit_made work None h = tt
  unit_made work (Some e) h = (units_leave machine 0 me (without_unit body) slot work e h).marks

  no_unit : (next : Option WorkUnit) → NoLine (outcome_of (without_unit body) (run_unit machine me (without_unit body) slot next))
  no_unit None = tt
  no_unit (Some work) = unit_made work (run_unit machine me (without_unit body) slot (Some work)) refl

  run_marks : (ready : List ℕ) → NoLine (run_outcome machine me body slot ready)
  run_marks [] = no_unit (first_unit body)
  run_marks (ready ∷ more) = no_slot ready (body.tasks.slots ready)

pub runs_keep : laws.RunsKeepWords
runs_keep given sent w S N me slots words leads old = all_leave given sent S N me (ran_at given w me slots) words leads
    (λ number. marks_leave number me sent (ran_at given w me slots).marks (run_marks (machine_in given) me (bodies w me) (slot_of slots) (bodies w me).tasks.ready)) old

-- ---- a Serve

not_next : (n : ℕ) → n ≢ suc n
not_next n q = absurd (omega (arith, q))

-- A vector of which the message is not.
abbrev another : Msg → ℕ
another (msg.Grant vector head tail) = suc vector
another (msg.ElemPut vector position word) = suc vector
another (msg.ElemGet vector position) = suc vector
another (msg.ElemAck vector position got) = suc vector
another _ = 0

off_another : (message : Msg) → IsOffElements (another message) message
off_another (msg.Grant vector head tail) = not_next vector
off_another (msg.ElemPut vector position word) = not_next vector
off_another (msg.ElemGet vector position) = not_next vector
off_another (msg.ElemAck vector position got) = not_next vector
off_another _ = tt

message_marks : (machine : Machine) (me from : ℕ) (body : Body) (message : Msg) (o : Option Outcome) → serves machine me body from message ≡ o → Each (IsMarkBehind from message) (outcome_of body o).marks
message_marks machine me from body message None h = tt
message_marks machine me from body message (Some e) h = (messages_leave machine (another message) me from body message e (off_another message) h).marks

pub serves_keep : laws.ServesKeepWords
serves_keep given sent w S N me from message words leads off old = all_leave given sent S N me (message_outcome given w me from message) words leads
    (λ number. behind_leave number me from sent message (message_outcome given w me from message).marks
    (message_marks (machine_in given) me from (bodies w me) message (serves (machine_in given) me (bodies w me) from message) refl) off) old

-- ---- a Close

pub closes_keep : laws.ClosesKeepWords
closes_keep given sent w S N me object words leads old = all_leave given sent S N me (closes (machine_in given) (bodies w me) object) words leads
    (λ number. marks_leave number me sent (closes (machine_in given) (bodies w me) object).marks (closes_leave (machine_in given) 0 object (bodies w me)).marks) old

-- ---- the end of a turn

zero_if : (a b : ℕ) → (a == b) ≡ true → a ≡ b
zero_if a b q = grind (arith, nat_tests, q)

true_if : (a b : ℕ) → a ≡ b → (a == b) ≡ true
true_if a b q = grind (arith, nat_tests)

false_if : (a b : ℕ) → a ≢ b → (a == b) ≡ false
false_if a b ne = grind (arith, nat_tests)

module _ (given : Given) (sent : Sent) (S N : State) (me : ℕ) (body : Body) (words : ℕ → List ℕ) (lines : HasLines given me body) (number : ℕ) (there : HasLine number (words number) S) where
  abbrev machine : Machine
  machine = machine_in given

  abbrev Made : Option Outcome → Type 0
  Made o = Leads given sent me S N (outcome_of body o)

  same : Made None → HasLine number (words number) N
  same leads = subst (HasLine number (words number)) (some_same S N leads) there

  is_one : (vector : ℕ) (v : Vector) → body.vectors.vectors vector ≡ Some v → is_vector (thing machine vector) ≡ true
  is_one vector v here = sym (lines.vectors vector) ∙ ap is_some here

  -- The calls of a turn are calls of its vector.
  of_vector : (vector : ℕ) (v : Vector) → body.vectors.vectors vector ≡ Some v → (turn : Turn) → v.turn ≡ Some turn → Each (λ (c : WaitingCall). vector_of c.op ≡ Some vector) turn.calls
  of_vector vector v here turn mine =
      let c = calls_of_vector given me vector body lines (is_one vector v here) v here in
      let o = c.oldest turn mine in
      Each-map (IsWaiting (tasks_on vector body) vector (wait.Turn vector)) (λ (c : WaitingCall). vector_of c.op ≡ Some vector) (λ c w. w.of) turn.calls
      (subst (Each (Each (IsWaiting (tasks_on vector body) vector (wait.Turn vector)))) o.1 c.grouped).0

  own_turn : (v : Vector) → body.vectors.vectors number ≡ Some v → (mine : Option Turn) → v.turn ≡ mine → Made (settled_turn machine body number v mine) → HasLine number (words_behind mine (words number)) N
  own_turn v here None mine leads = same leads
  own_turn v here (Some turn) mine leads = by (turn.left == 0) leads
    where
      by : (b : Bool) → Made (if b then Some (turn_finished machine body number v turn (ends_after turn.calls turn.ends)) else None)
          → HasLine number (if b then words_after turn.calls (words number) else words number) N
      by true leads = calls_made given.program given.setup.cores given.setup.steps number me sent turn.calls (replies_from turn.answers (taken_by turn.calls turn.ends)) S N (words number)
          (replies_long turn.answers turn.calls turn.ends) leads (of_vector number v here turn mine) there
      by false leads = same leads

  own_ends : (held : Option Vector) → body.vectors.vectors number ≡ held → Made (settled_vector machine body number held) → HasLine number (words_behind (vector_in held).turn (words number)) N
  own_ends None here leads = same leads
  own_ends (Some v) here leads = own_turn v here v.turn refl leads

  other_turn : (vector : ℕ) → vector ≢ number → (v : Vector) → body.vectors.vectors vector ≡ Some v → (mine : Option Turn) → v.turn ≡ mine → Made (settled_turn machine body vector v mine)
      → HasLine number (words number) N
  other_turn vector ne v here None mine leads = same leads
  other_turn vector ne v here (Some turn) mine leads = by (turn.left == 0) leads
    where
      by : (b : Bool) → Made (if b then Some (turn_finished machine body vector v turn (ends_after turn.calls turn.ends)) else None) → HasLine number (words number) N
      by true leads = after_leaves given.program given.setup.cores given.setup.steps number _ S N (words number) leads
          (calls_leave vector number me sent ne turn.calls (replies_from turn.answers (taken_by turn.calls turn.ends)) (of_vector vector v here turn mine)) there
      by false leads = same leads

  other_ends : (vector : ℕ) → vector ≢ number → (held : Option Vector) → body.vectors.vectors vector ≡ held → Made (settled_vector machine body vector held) → HasLine number (words number) N
  other_ends vector ne None here leads = same leads
  other_ends vector ne (Some v) here leads = other_turn vector ne v here v.turn refl leads

  abbrev Ending : ℕ → Type 0
  Ending vector = Made (settled_vector machine body vector (body.vectors.vectors vector))

  abbrev Chosen : Bool → Type 0
  Chosen b = HasLine number (if b then words_behind (vector_in (body.vectors.vectors number)).turn (words number) else words number) N

  one_ends : (vector : ℕ) → Ending vector → HasLine number (words_of_one body vector words number) N
  one_ends vector leads = elim (cases_eq vector number) [
    | inl q ↦ subst Chosen (sym (true_if vector number q)) (own_ends (body.vectors.vectors number) refl (subst Ending q leads))
    | inr ne ↦ subst Chosen (sym (false_if vector number ne)) (other_ends vector ne (body.vectors.vectors vector) refl leads)
  ]

  settled : (message : Msg) → Made (settles machine body message) → HasLine number (words_settled body message words number) N
  settled (msg.Grant vector head tail) leads = one_ends vector leads
  settled (msg.ElemAck vector position got) leads = one_ends vector leads
  settled _ leads = same leads

pub settles_keep : laws.SettlesKeepWords
settles_keep given sent w S N me message words leads lines old number is = settled given sent S N me (bodies w me) words (lines me) number (old number is) message leads
