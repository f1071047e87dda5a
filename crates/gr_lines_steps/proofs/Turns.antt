-- Each piece of a step keeps whose turn it is.
use Rattle.std.proofs.Common.{◌≡◌, ◌≢◌, ℕ, ◌+◌, ◌<◌, ◌==◌, ◌^◌, nat_lt, Bool, true, false, if◌then◌else◌, List, [], ◌∷◌, length, inl, inr, sym, ◌∙◌, ap, subst, refl, arith, Option, Some, None}
use Rattle.std.proofs.lemmas.Bool.{cases_eq}
use Rattle.std.proofs.lemmas.Bool.Decides.{nat_tests}
use Rattle.std.specs.Option.{option_len}
use Rattle.gr_lang.specs.declared.action.WaitingCall.{WaitingCall}
use Rattle.gr_msg.specs.declared.message.Msg.{Msg}
use Rattle.gr_msg.specs.declared.message.Msg.TheVariants as msg
use Rattle.gr_msg.specs.declared.message.Unit.{Unit as WorkUnit}
use Rattle.gr_vector.specs.declared.ends.Ends.{Ends}
use Rattle.gr_vector.specs.declared.kind.Kind.TheVariants as kind
use Rattle.gr_vector.specs.Groups.{calls_of}
use Rattle.gr_vector.specs.Plans.{ends_after}
use Rattle.gr_machine.specs.Machines.{Machine, thing}
use Rattle.gr_machine.specs.States.{Letter, Suspended, Turn, Vector, Vectors, Body}
use Rattle.gr_machine.specs.Openings.{is_vector}
use Rattle.gr_machine.specs.Outcomes.{Outcome, quietly}
use Rattle.gr_machine.specs.Runs.{run_slot, without_ready, run_unit, first_unit, without_unit}
use Rattle.gr_machine.specs.Serves.{serves}
use Rattle.gr_machine.specs.TurnServes.{turn_finished, settled_turn, settled_vector}
use Rattle.gr_machine.specs.Events.{gives, asks, slot_of}
use Rattle.gr_stands.specs.Worlds.{Given, machine_in, World, bodies, Acts}
use Rattle.gr_stands_calls.specs.Acting.{letter}
use Rattle.gr_stands_outcomes.specs.Inner.{outcome_of, run_outcome}
use Rattle.gr_stands_made.specs.Pieces.{ran_at, ended_at}
use Rattle.gr_lines.specs.Lines.{vector_in}
use Rattle.gr_lines.specs.Waiting.{HasLines}
use Rattle.gr_lines_turns.specs.Tokens.{turns_in, TurnStands}
use Rattle.gr_lines_turns.specs.TokenActs.{IsOfOther, LeavesTurns}
use Rattle.gr_lines_turns.proofs.Kept.{others_keep}
use Rattle.gr_lines_apart.proofs.Apart.{leaves_apart}
use Rattle.gr_lines_apart.proofs.Runs.{tasks_leave, units_leave}
use Rattle.gr_lines_apart.proofs.Turns.{nothing_leaves, ends_leave}
use Rattle.gr_lines_apart.proofs.Closes.{gifts_leave, questions_leave}
use Rattle.gr_lines_tokens.specs.Granting.{IsToken, GrantFits, IsMade, ends_behind}
use Rattle.gr_lines_tokens.proofs.Granted.{no_turn, where_granted}
use Rattle.gr_lines_tokens.proofs.Served.{tokens_served, messages_keep, closes_keep, ends_keep}
use Rattle.gr_lines_steps.specs.Behind.{ends_of_one, ends_settled, GrantTells}
use Rattle.gr_lines_steps.specs.Laws as laws

none_some : {X : Type 0} (x : X) → None ≡ Some x → ⊥
none_some x e = cc

no_group : (calls : List WaitingCall) (more : List (List WaitingCall)) → [] ≡ calls ∷ more → ⊥
no_group calls more e = cc

lower : (a b : ℕ) → nat_lt a b ≡ true → a < b
lower a b e = grind (arith, nat_tests, e)

-- The same vectors to begin with.
begun_same : (number : ℕ) (one before : Body) (got : List Letter) (e : Outcome) → one.vectors ≡ before.vectors → LeavesTurns number one got e → LeavesTurns number before got e
begun_same number one before got e same l = by before.vectors same
  where
    by : (x : Vectors) → one.vectors ≡ x → LeavesTurns number (record before { vectors = x }) got e
    by x same = record {
      turn = l.turn ∙ ap (λ (y : Vectors). option_len (vector_in (y.vectors number)).turn) same;
      ends = λ turn h. let o = l.ends turn h in (o.0, ap (λ (y : Vectors). (vector_in (y.vectors number)).turn) (sym same) ∙ o.1, o.2);
      groups = l.groups ∙ ap (λ (y : Vectors). length (vector_in (y.vectors number)).groups) same;
      masters = l.masters ∙ ap (λ (y : Vectors). turns_in (y.masters number)) same;
      letters = l.letters;
      sends = l.sends;
    }

-- ---- a Run

module _ (machine : Machine) (number me : ℕ) (body : Body) (slot : ℕ) where
  abbrev Leaves : Outcome → Type 0
  Leaves e = LeavesTurns number body [] e

  no_slot : (ready : ℕ) (held : Option Suspended) → Leaves (outcome_of (without_ready body) (run_slot machine me (without_ready body) ready held))
  no_slot ready None = leaves_apart number body [] (quietly (without_ready body)) tt (record { vectors = refl; sends = tt })
  no_slot ready (Some task) = begun_same number (without_ready body) body [] _ refl (tasks_leave machine number me (without_ready body) ready task)

  unit_made : (work : WorkUnit) (made : Option Outcome) → run_unit machine me (without_unit body) slot (Some work) ≡ made → Leaves (outcome_of (without_unit body) made)
  unit_made work None h = leaves_apart number body [] (quietly (without_unit body)) tt (record { vectors = refl; sends = tt })
  unit_made work (Some e) h = begun_same number (without_unit body) body [] e refl (units_leave machine number me (without_unit body) slot work e h)

  no_unit : (next : Option WorkUnit) → Leaves (outcome_of (without_unit body) (run_unit machine me (without_unit body) slot next))
  no_unit None = leaves_apart number body [] (quietly (without_unit body)) tt (record { vectors = refl; sends = tt })
  no_unit (Some work) = unit_made work (run_unit machine me (without_unit body) slot (Some work)) refl

  pub run_leaves : (ready : List ℕ) → Leaves (run_outcome machine me body slot ready)
  run_leaves [] = no_unit (first_unit body)
  run_leaves (ready ∷ more) = no_slot ready (body.tasks.slots ready)

pub runs_keep : laws.RunsKeepTurns
runs_keep given w v me slots ends acts old number is = others_keep given w v number me [] (ran_at given w me slots) (ends number) acts
    (run_leaves (machine_in given) number me (bodies w me) (slot_of slots) (bodies w me).tasks.ready) (old number is)

-- ---- a Serve

-- A message is one of the turns of a vector, or of no turn of it.
data Kind (number : ℕ) (message : Msg) : Type 0 where
  token : IsToken number message → Kind number message
  other : IsOfOther number message → Kind number message

sort_of : (number : ℕ) (message : Msg) → Kind number message
sort_of number (msg.Turn vector) = elim (cases_eq vector number) [ inl q ↦ token q | inr ne ↦ other ne ]
sort_of number (msg.Grant vector head tail) = elim (cases_eq vector number) [ inl q ↦ token q | inr ne ↦ other ne ]
sort_of number (msg.Done vector head tail) = elim (cases_eq vector number) [ inl q ↦ token q | inr ne ↦ other ne ]
sort_of number _ = other tt

module _ (given : Given) (w v : World) (me from number : ℕ) (message : Msg) (ends : Ends) (lines : HasLines given me (bodies w me)) (is : is_vector (thing (machine_in given) number) ≡ true)
    (old : TurnStands given w number ends) where
  abbrev made : Option Outcome
  made = serves (machine_in given) me (bodies w me) from message

  abbrev Goes : Option Outcome → Type 0
  Goes o = Acts given.setup.cores w v me (letter from message ∷ []) (outcome_of (bodies w me) o)

  one_served : (o : Option Outcome) → made ≡ o → Goes o → (IsToken number message → IsMade made) → TurnStands given v number ends
  one_served (Some e) h acts served = messages_keep given w v number me from message e ends acts h lines is old
  one_served None h acts served = by (sort_of number message)
    where
      by : Kind number message → TurnStands given v number ends
      by (token t) = let m = served t in absurd (none_some m.outcome (sym h ∙ m.is))
      by (other o) = others_keep given w v number me (letter from message ∷ []) (quietly (bodies w me)) ends acts (nothing_leaves number from (bodies w me) message o) old

-- Where the message grants a turn, it is of a group whose pushes fit.
module _ (given : Given) (w v : World) (me from number head tail : ℕ) (ends : Ends) (e : Outcome) (acts : Acts given.setup.cores w v me (letter from (msg.Grant number head tail) ∷ []) e)
    (old : TurnStands given w number ends) (told : GrantTells given w me (msg.Grant number head tail)) (calls : List WaitingCall) (more : List (List WaitingCall)) where
  abbrev fit : Type 0
  fit = ends.tail + length (calls_of kind.Push calls) < 2 ^ 64

  pushes_fit : (held : Option Vector) → (bodies w me).vectors.vectors number ≡ held → (vector_in held).groups ≡ calls ∷ more → fit
  pushes_fit None there g = absurd (no_group calls more g)
  pushes_fit (Some vector) there g = by vector.turn refl
    where
      by : (turn : Option Turn) → vector.turn ≡ turn → fit
      by (Some turn) mine = absurd (omega (arith, no_turn given w v number me ends old head tail from e acts, ap (λ (o : Option Vector). option_len (vector_in o).turn) there, ap option_len mine))
      by None mine = subst (λ (k : ℕ). k + length (calls_of kind.Push calls) < 2 ^ 64) (where_granted given w v number me ends old head tail from e acts).1
          (lower (tail + length (calls_of kind.Push calls)) (2 ^ 64) (told vector calls more there mine g))

fits_here : (given : Given) (w v : World) (me from number : ℕ) (message : Msg) (ends : Ends) (e : Outcome) → Acts given.setup.cores w v me (letter from message ∷ []) e → TurnStands given w number ends
    → IsToken number message → GrantTells given w me message → GrantFits (bodies w me) number ends message
fits_here given w v me from number (msg.Grant vector head tail) ends e acts old q told = λ calls more g.
    pushes_fit given w v me from number head tail ends e (subst (λ (k : ℕ). Acts given.setup.cores w v me (letter from (msg.Grant k head tail) ∷ []) e) q acts) old
    (subst (λ (k : ℕ). GrantTells given w me (msg.Grant k head tail)) q told) calls more ((bodies w me).vectors.vectors number) refl g
fits_here given w v me from number _ ends e acts old q told = tt

pub serves_keep : laws.ServesKeepTurns
serves_keep given w v me from message ends acts lines told old number is =
    let made : Option Outcome = serves (machine_in given) me (bodies w me) from message in
    one_served given w v me from number message (ends number) (lines me) is (old number is) made refl acts
    (λ t. tokens_served given w v number me from message (outcome_of (bodies w me) made) (ends number) acts (lines me) is (fits_here given w v me from number message (ends number) (outcome_of (bodies w me) made) acts (old number is) t told) (old number is) t)

-- ---- the end of a turn

true_if : (a b : ℕ) → a ≡ b → (a == b) ≡ true
true_if a b q = grind (arith, nat_tests)

false_if : (a b : ℕ) → a ≢ b → (a == b) ≡ false
false_if a b ne = grind (arith, nat_tests)

-- Where nothing has ended, the words stand where they did.
turn_stays : (machine : Machine) (body : Body) (number : ℕ) (vector : Vector) (mine : Option Turn) (ends : Ends) → settled_turn machine body number vector mine ≡ None → ends_behind mine ends ≡ ends
turn_stays machine body number vector None ends h = refl
turn_stays machine body number vector (Some turn) ends h = by (turn.left == 0) h
  where
    by : (b : Bool) → (if b then Some (turn_finished machine body number vector turn (ends_after turn.calls turn.ends)) else None) ≡ None → (if b then ends_after turn.calls turn.ends else ends) ≡ ends
    by true h = absurd (none_some (turn_finished machine body number vector turn (ends_after turn.calls turn.ends)) (sym h))
    by false h = refl

stays_behind : (machine : Machine) (body : Body) (number : ℕ) (held : Option Vector) (ends : Ends) → settled_vector machine body number held ≡ None → ends_behind (vector_in held).turn ends ≡ ends
stays_behind machine body number None ends h = refl
stays_behind machine body number (Some vector) ends h = turn_stays machine body number vector vector.turn ends h

module _ (given : Given) (w v : World) (me number : ℕ) (ends : ℕ → Ends) (lines : HasLines given me (bodies w me)) (is : is_vector (thing (machine_in given) number) ≡ true)
    (old : TurnStands given w number (ends number)) where
  abbrev body : Body
  body = bodies w me

  abbrev machine : Machine
  machine = machine_in given

  quiet : Acts given.setup.cores w v me [] (quietly body) → TurnStands given v number (ends number)
  quiet acts = others_keep given w v number me [] (quietly body) (ends number) acts (leaves_apart number body [] (quietly body) tt (record { vectors = refl; sends = tt })) old

  -- A turn of this vector may end.
  own_ends : (o : Option Outcome) → settled_vector machine body number (body.vectors.vectors number) ≡ o → Acts given.setup.cores w v me [] (outcome_of body o)
      → TurnStands given v number (ends_behind (vector_in (body.vectors.vectors number)).turn (ends number))
  own_ends None h acts = subst (TurnStands given v number) (sym (stays_behind machine body number (body.vectors.vectors number) (ends number) h)) (quiet acts)
  own_ends (Some e) h acts = ends_keep given w v number me e (ends number) acts h lines is old

  -- Or one of another.
  other_ends : (vector : ℕ) → vector ≢ number → (o : Option Outcome) → settled_vector machine body vector (body.vectors.vectors vector) ≡ o → Acts given.setup.cores w v me [] (outcome_of body o)
      → TurnStands given v number (ends number)
  other_ends vector ne None h acts = quiet acts
  other_ends vector ne (Some e) h acts = others_keep given w v number me [] e (ends number) acts (ends_leave machine number vector body e ne h) old

  abbrev Ending : ℕ → Type 0
  Ending vector = Acts given.setup.cores w v me [] (outcome_of body (settled_vector machine body vector (body.vectors.vectors vector)))

  one_ends : (vector : ℕ) → Ending vector → TurnStands given v number (ends_of_one body vector ends number)
  one_ends vector acts = elim (cases_eq vector number) [
    | inl q ↦ subst (λ (b : Bool). TurnStands given v number (if b then ends_behind (vector_in (body.vectors.vectors number)).turn (ends number) else ends number)) (sym (true_if vector number q))
        (own_ends (settled_vector machine body number (body.vectors.vectors number)) refl (subst Ending q acts))
    | inr ne ↦ subst (λ (b : Bool). TurnStands given v number (if b then ends_behind (vector_in (body.vectors.vectors number)).turn (ends number) else ends number)) (sym (false_if vector number ne))
        (other_ends vector ne (settled_vector machine body vector (body.vectors.vectors vector)) refl acts)
  ]

  pub settled : (message : Msg) → Acts given.setup.cores w v me [] (ended_at given w me message) → TurnStands given v number (ends_settled body message ends number)
  settled (msg.Grant vector head tail) acts = one_ends vector acts
  settled (msg.ElemAck vector position got) acts = one_ends vector acts
  settled _ acts = quiet acts

pub settles_keep : laws.SettlesKeepTurns
settles_keep given w v me message ends acts lines old number is = settled given w v me number ends (lines me) is (old number is) message acts

-- ---- gifts, calls that go off, questions

pub gives_keep : laws.GivesKeepTurns
gives_keep given w v me ends acts old number is = others_keep given w v number me [] (gives (bodies w me)) (ends number) acts (gifts_leave number (bodies w me)) (old number is)

pub close_keeps : laws.CloseKeepsTurns
close_keeps given w v me object ends acts lines old number is = closes_keep given w v number me object (ends number) acts (lines me) is (old number is)

pub asks_keep : laws.AsksKeepTurns
asks_keep given w v me victim ends acts old number is = others_keep given w v number me [] (asks victim (bodies w me)) (ends number) acts (questions_leave number victim (bodies w me)) (old number is)
