-- Each piece of a step keeps where the words of vectors are.
use Rattle.std.proofs.Common.{◌≡◌, ◌≢◌, ℕ, ◌==◌, Bool, true, false, if◌then◌else◌, List, [], ◌∷◌, inl, inr, sym, ◌∙◌, ap, subst, refl, arith, Option, Some, None}
use Rattle.std.proofs.lemmas.Bool.{cases_eq}
use Rattle.std.proofs.lemmas.Bool.Decides.{nat_tests}
use Rattle.gr_msg.specs.declared.message.Msg.{Msg}
use Rattle.gr_msg.specs.declared.message.Msg.TheVariants as msg
use Rattle.gr_msg.specs.declared.message.Unit.{Unit as WorkUnit}
use Rattle.gr_vector.specs.declared.ends.Ends.{Ends}
use Rattle.gr_vector.specs.Laws.{words_after}
use Rattle.gr_vector.specs.Plans.{ends_after}
use Rattle.gr_machine.specs.Machines.{Machine, thing}
use Rattle.gr_machine.specs.States.{Letter, Suspended, Turn, Vector, Vectors, Body}
use Rattle.gr_machine.specs.Openings.{is_vector}
use Rattle.gr_machine.specs.Outcomes.{Outcome, quietly}
use Rattle.gr_machine.specs.Runs.{run_slot, without_ready, run_unit, first_unit, without_unit}
use Rattle.gr_machine.specs.Serves.{serves}
use Rattle.gr_machine.specs.TurnServes.{turn_finished, settled_turn, settled_vector}
use Rattle.gr_machine.specs.Closes.{closes}
use Rattle.gr_machine.specs.Events.{gives, asks, slot_of}
use Rattle.gr_machine.specs.Nets.{messages_in}
use Rattle.gr_stands.specs.Worlds.{Given, machine_in, World, bodies, Acts}
use Rattle.gr_stands_calls.specs.Acting.{letter}
use Rattle.gr_stands_outcomes.specs.Inner.{outcome_of, run_outcome}
use Rattle.gr_stands_made.specs.Pieces.{ran_at, ended_at}
use Rattle.gr_lines.specs.Lines.{vector_in}
use Rattle.gr_lines.specs.Waiting.{HasLines}
use Rattle.gr_lines_tokens.specs.Granting.{ends_behind}
use Rattle.gr_lines_turns.specs.Tokens.{TurnStands}
use Rattle.gr_lines_steps.specs.Behind.{ends_of_one, ends_settled}
use Rattle.gr_elements_orders.specs.Orders.{OwnAreIn}
use Rattle.gr_elements.specs.ElementActs.{IsOfNoElement, LeavesElements}
use Rattle.gr_elements.proofs.Kept.{others_keep, own_kept, elements_moved, own_moved}
use Rattle.gr_elements.proofs.Opening.{openings_have_elements, openings_have_own}
use Rattle.gr_elements_apart.proofs.Runs.{tasks_leave, units_leave}
use Rattle.gr_elements_apart.proofs.Turns.{ends_leave}
use Rattle.gr_elements_apart.proofs.Closes.{closes_leave, gifts_leave, questions_leave}
use Rattle.gr_elements_acts.specs.Holding.{HasElements, IsElement, words_behind}
use Rattle.gr_elements_acts.proofs.Served.{elements_served}
use Rattle.gr_elements_acts.proofs.Events.{messages_keep, ends_keep}
use Rattle.gr_elements_steps.specs.Behind.{ElementsHold, words_of_one, words_settled}
use Rattle.gr_elements_steps.specs.Laws as laws

none_some : {X : Type 0} (x : X) → None ≡ Some x → ⊥
none_some x e = cc

-- ---- what leaves the elements of all vectors

pub left_all : (given : Given) (w v : World) (me : ℕ) (got : List Letter) (e : Outcome) (ends : ℕ → Ends) (words : ℕ → List ℕ)
    → Acts given.setup.cores w v me got e → ((number : ℕ) → LeavesElements number (bodies w me) got e) → ElementsHold given w ends words → ElementsHold given v ends words
left_all given w v me got e ends words acts leaves old = record {
  own = own_kept given w v me got e acts old.own;
  vectors = λ number is. let o = old.vectors number is in
      record { held = o.held; stand = others_keep given w v number me got e (ends number) (words number) o.held acts old.own (leaves number) o.stand };
}

-- Nothing is made, and no message of an element is taken up.
still : (number : ℕ) (body : Body) → LeavesElements number body [] (quietly body)
still number body = record { part = refl; turn = refl; letters = tt; sends = tt }

-- The same vectors to begin with.
begun_same : (number : ℕ) (one before : Body) (got : List Letter) (e : Outcome) → one.vectors ≡ before.vectors → LeavesElements number one got e → LeavesElements number before got e
begun_same number one before got e same l = record {
  part = l.part ∙ ap (λ (y : Vectors). (vector_in (y.vectors number)).part) same;
  turn = l.turn ∙ ap (λ (y : Vectors). (vector_in (y.vectors number)).turn) same;
  letters = l.letters;
  sends = l.sends;
}

-- ---- a Run

module _ (machine : Machine) (number me : ℕ) (body : Body) (slot : ℕ) where
  abbrev Leaves : Outcome → Type 0
  Leaves e = LeavesElements number body [] e

  rests : (b : Body) → b.vectors ≡ body.vectors → Leaves (quietly b)
  rests b same = record { part = ap (λ (y : Vectors). (vector_in (y.vectors number)).part) same; turn = ap (λ (y : Vectors). (vector_in (y.vectors number)).turn) same; letters = tt; sends = tt }

  no_slot : (ready : ℕ) (held : Option Suspended) → Leaves (outcome_of (without_ready body) (run_slot machine me (without_ready body) ready held))
  no_slot ready None = rests (without_ready body) refl
  no_slot ready (Some task) = begun_same number (without_ready body) body [] _ refl (tasks_leave machine number me (without_ready body) ready task).elements

  unit_made : (work : WorkUnit) (made : Option Outcome) → run_unit machine me (without_unit body) slot (Some work) ≡ made → Leaves (outcome_of (without_unit body) made)
  unit_made work None h = rests (without_unit body) refl
  unit_made work (Some e) h = begun_same number (without_unit body) body [] e refl (units_leave machine number me (without_unit body) slot work e h).elements

  no_unit : (next : Option WorkUnit) → Leaves (outcome_of (without_unit body) (run_unit machine me (without_unit body) slot next))
  no_unit None = rests (without_unit body) refl
  no_unit (Some work) = unit_made work (run_unit machine me (without_unit body) slot (Some work)) refl

  pub run_leaves : (ready : List ℕ) → Leaves (run_outcome machine me body slot ready)
  run_leaves [] = no_unit (first_unit body)
  run_leaves (ready ∷ more) = no_slot ready (body.tasks.slots ready)

pub runs_keep : laws.RunsKeepElements
runs_keep given w v me slots ends words acts old = left_all given w v me [] (ran_at given w me slots) ends words acts
    (λ number. run_leaves (machine_in given) number me (bodies w me) (slot_of slots) (bodies w me).tasks.ready) old

-- ---- a Serve

-- A message is one of an element of a vector, or not.
data Kind (number : ℕ) (message : Msg) : Type 0 where
  element : IsElement number message → Kind number message
  other : IsOfNoElement number message → Kind number message

sort_of : (number : ℕ) (message : Msg) → Kind number message
sort_of number (msg.ElemPut vector position word) = elim (cases_eq vector number) [ inl q ↦ element q | inr ne ↦ other ne ]
sort_of number (msg.ElemGet vector position) = elim (cases_eq vector number) [ inl q ↦ element q | inr ne ↦ other ne ]
sort_of number (msg.ElemAck vector position word) = elim (cases_eq vector number) [ inl q ↦ element q | inr ne ↦ other ne ]
sort_of number _ = other tt

module _ (given : Given) (w v : World) (me from number : ℕ) (message : Msg) (ends : Ends) (words : List ℕ) (lines : HasLines given me (bodies w me))
    (is : is_vector (thing (machine_in given) number) ≡ true) (own : OwnAreIn messages_in w) (turns : TurnStands given w number ends) (old : HasElements given w number ends words) where
  abbrev Goes : Option Outcome → Type 0
  Goes o = Acts given.setup.cores w v me (letter from message ∷ []) (outcome_of (bodies w me) o)

  pub one_served : (o : Option Outcome) → serves (machine_in given) me (bodies w me) from message ≡ o → Goes o → HasElements given v number ends words
  one_served (Some e) h acts = messages_keep given w v number me from message e ends words acts h lines is own turns old
  one_served None h acts = by (sort_of number message)
    where
      by : Kind number message → HasElements given v number ends words
      by (element t) =
          let m = elements_served given w v number me from message (quietly (bodies w me)) ends words acts lines is own turns old t in
          absurd (none_some m.outcome (sym h ∙ m.is))
      by (other o) = record {
        held = old.held;
        stand = others_keep given w v number me (letter from message ∷ []) (quietly (bodies w me)) ends words old.held acts own (record { part = refl; turn = refl; letters = (o, tt); sends = tt }) old.stand;
      }

pub serves_keep : laws.ServesKeepElements
serves_keep given w v me from message ends words acts lines turns old = record {
  own = own_kept given w v me (letter from message ∷ []) (outcome_of (bodies w me) (serves (machine_in given) me (bodies w me) from message)) acts old.own;
  vectors = λ number is. one_served given w v me from number message (ends number) (words number) (lines me) is old.own (turns number is) (old.vectors number is)
      (serves (machine_in given) me (bodies w me) from message) refl acts;
}

-- ---- the end of a turn

true_if : (a b : ℕ) → a ≡ b → (a == b) ≡ true
true_if a b q = grind (arith, nat_tests)

false_if : (a b : ℕ) → a ≢ b → (a == b) ≡ false
false_if a b ne = grind (arith, nat_tests)

module _ (given : Given) (w v : World) (me number : ℕ) (ends : ℕ → Ends) (words : ℕ → List ℕ) (own : OwnAreIn messages_in w)
    (turns : TurnStands given w number (ends number)) (old : HasElements given w number (ends number) (words number)) where
  abbrev body : Body
  body = bodies w me

  abbrev machine : Machine
  machine = machine_in given

  abbrev Has : Ends → List ℕ → Type 0
  Has at held = HasElements given v number at held

  leaving : (e : Outcome) → Acts given.setup.cores w v me [] e → LeavesElements number body [] e → Has (ends number) (words number)
  leaving e acts l = record { held = old.held; stand = others_keep given w v number me [] e (ends number) (words number) old.held acts own l old.stand }

  quiet : Acts given.setup.cores w v me [] (quietly body) → Has (ends number) (words number)
  quiet acts = leaving (quietly body) acts (still number body)

  -- Where nothing has ended, all is as it was.
  turn_stays : (vector : Vector) (mine : Option Turn) → settled_turn machine body number vector mine ≡ None → Has (ends number) (words number) → Has (ends_behind mine (ends number)) (words_behind mine (words number))
  turn_stays vector None h has = has
  turn_stays vector (Some turn) h has = by (turn.left == 0) h
    where
      by : (b : Bool) → (if b then Some (turn_finished machine body number vector turn (ends_after turn.calls turn.ends)) else None) ≡ None
          → Has (if b then ends_after turn.calls turn.ends else ends number) (if b then words_after turn.calls (words number) else words number)
      by true h = absurd (none_some (turn_finished machine body number vector turn (ends_after turn.calls turn.ends)) (sym h))
      by false h = has

  stays_behind : (held : Option Vector) → settled_vector machine body number held ≡ None → Has (ends number) (words number)
      → Has (ends_behind (vector_in held).turn (ends number)) (words_behind (vector_in held).turn (words number))
  stays_behind None h has = has
  stays_behind (Some vector) h has = turn_stays vector vector.turn h has

  -- A turn of this vector may end.
  own_ends : (o : Option Outcome) → settled_vector machine body number (body.vectors.vectors number) ≡ o → Acts given.setup.cores w v me [] (outcome_of body o)
      → Has (ends_behind (vector_in (body.vectors.vectors number)).turn (ends number)) (words_behind (vector_in (body.vectors.vectors number)).turn (words number))
  own_ends None h acts = stays_behind (body.vectors.vectors number) h (quiet acts)
  own_ends (Some e) h acts = ends_keep given w v number me e (ends number) (words number) acts h own turns old

  -- Or one of another.
  other_ends : (vector : ℕ) → vector ≢ number → (o : Option Outcome) → settled_vector machine body vector (body.vectors.vectors vector) ≡ o → Acts given.setup.cores w v me [] (outcome_of body o)
      → Has (ends number) (words number)
  other_ends vector ne None h acts = quiet acts
  other_ends vector ne (Some e) h acts = leaving e acts (ends_leave machine number vector body e ne h)

  abbrev Ending : ℕ → Type 0
  Ending vector = Acts given.setup.cores w v me [] (outcome_of body (settled_vector machine body vector (body.vectors.vectors vector)))

  abbrev Chosen : Bool → Type 0
  Chosen b = Has (if b then ends_behind (vector_in (body.vectors.vectors number)).turn (ends number) else ends number)
      (if b then words_behind (vector_in (body.vectors.vectors number)).turn (words number) else words number)

  one_ends : (vector : ℕ) → Ending vector → Has (ends_of_one body vector ends number) (words_of_one body vector words number)
  one_ends vector acts = elim (cases_eq vector number) [
    | inl q ↦ subst Chosen (sym (true_if vector number q)) (own_ends (settled_vector machine body number (body.vectors.vectors number)) refl (subst Ending q acts))
    | inr ne ↦ subst Chosen (sym (false_if vector number ne)) (other_ends vector ne (settled_vector machine body vector (body.vectors.vectors vector)) refl acts)
  ]

  pub settled : (message : Msg) → Acts given.setup.cores w v me [] (ended_at given w me message) → Has (ends_settled body message ends number) (words_settled body message words number)
  settled (msg.Grant vector head tail) acts = one_ends vector acts
  settled (msg.ElemAck vector position word) acts = one_ends vector acts
  settled _ acts = quiet acts

pub settles_keep : laws.SettlesKeepElements
settles_keep given w v me message ends words acts turns old = record {
  own = own_kept given w v me [] (ended_at given w me message) acts old.own;
  vectors = λ number is. settled given w v me number ends words old.own (turns number is) (old.vectors number is) message acts;
}

-- ---- gifts, calls that go off, questions

pub gives_keep : laws.GivesKeepElements
gives_keep given w v me ends words acts old = left_all given w v me [] (gives (bodies w me)) ends words acts (λ number. (gifts_leave number (bodies w me)).elements) old

pub close_keeps : laws.CloseKeepsElements
close_keeps given w v me object ends words acts old =
    left_all given w v me [] (closes (machine_in given) (bodies w me) object) ends words acts (λ number. (closes_leave (machine_in given) number object (bodies w me)).elements) old

pub asks_keep : laws.AsksKeepElements
asks_keep given w v me victim ends words acts old = left_all given w v me [] (asks victim (bodies w me)) ends words acts (λ number. (questions_leave number victim (bodies w me)).elements) old

-- ---- messages that move, and the start

pub moves_keep : laws.MovesKeepAll
moves_keep given w v ends words moves old = record {
  own = own_moved given w v moves old.own;
  vectors = λ number is. let o = old.vectors number is in record { held = o.held; stand = elements_moved given w v number (ends number) (words number) o.held moves o.stand };
}

pub opens : laws.OpeningsHaveAll
opens given slot = record {
  own = openings_have_own given slot;
  vectors = λ number is. record { held = λ position. None; stand = openings_have_elements given slot number };
}
