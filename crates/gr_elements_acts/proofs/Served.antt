-- A message of an element finds something to act on: a put finds an empty place, a get its word, and an answer the turn that waits for it.
use Rattle.std.proofs.Common.{◌≡◌, ◌≢◌, ℕ, zero, suc, ◌+◌, ◌≤◌, ◌<◌, ◌==◌, ◌&&◌, Bool, true, false, if◌then◌else◌, List, [], ◌∷◌, inl, inr, sym, ◌∙◌, ap, subst, refl, arith, Option, Some, None}
use Rattle.std.proofs.lemmas.Bool.{cases_eq}
use Rattle.std.proofs.lemmas.Bool.Decides.{nat_tests}
use Rattle.std.specs.Option.{option_len}
use Rattle.gr_lang.specs.Expressions.{number_of}
use Rattle.gr_view.specs.Places.{put}
use Rattle.gr_msg.specs.declared.message.Msg.{Msg}
use Rattle.gr_msg.specs.declared.message.Msg.TheVariants as msg
use Rattle.gr_vector.specs.declared.ends.Ends.{Ends}
use Rattle.gr_net.specs.Sums.{total}
use Rattle.gr_net.specs.Flights.{Everywhere}
use Rattle.gr_net.specs.Worlds.{put_core}
use Rattle.gr_net.proofs.Spreads.{total_none, total_zero}
use Rattle.gr_net.proofs.Flights.{every_with, every_zero, flight_none}
use Rattle.gr_machine.specs.Machines.{home, thing}
use Rattle.gr_machine.specs.States.{Letter, Turn, Vector, Body}
use Rattle.gr_machine.specs.Openings.{is_vector}
use Rattle.gr_machine.specs.Outcomes.{Outcome, to, quietly}
use Rattle.gr_machine.specs.Nets.{messages_in}
use Rattle.gr_machine.specs.TurnServes.{with_vector, with_turn, element_put, element_stored, element_got, element_fetched, put_answered, get_answered, element_answered, turn_answered, element_acked}
use Rattle.gr_machine.specs.Serves.{serves}
use Rattle.gr_stands.specs.Worlds.{Given, machine_in, World, bodies, in_flight, Acts}
use Rattle.gr_stands.proofs.Worlds.{facts_off, flow_off}
use Rattle.gr_lines.specs.Lines.{vector_in}
use Rattle.gr_lines.specs.Waiting.{HasLines}
use Rattle.gr_lines_tokens.specs.Granting.{IsMade}
use Rattle.gr_lines_tokens.proofs.Served.{no_vector}
use Rattle.gr_lines_turns.specs.Tokens.{vector_at, turn_at, TurnStands}
use Rattle.gr_elements_orders.specs.Orders.{OwnAreIn}
use Rattle.gr_elements_orders.proofs.Channels as channels
use Rattle.gr_elements.specs.Weights.{is_that, putting, getting, carrying, is_put, is_get, of_turn, puts_in, gets_in, answers_in}
use Rattle.gr_elements.specs.Elements.{ElementFits, IsTurnOf, in_turns, ElementsStand}
use Rattle.gr_elements_acts.specs.Holding.{HasElements, IsElement}
use Rattle.gr_elements_acts.specs.Laws as laws
use Rattle.gr_elements_acts.proofs.Counts.{none_some, one_in, that_is, one_is, len_le, len_none, len_some, number_le, number_true}
use Rattle.gr_elements_acts.proofs.Words.{gets_one, fits, no_other}

zero_that : (vector p number at : ℕ) → (vector ≡ number → p ≡ at → ⊥) → is_that vector p number at ≡ zero
zero_that vector p number at never = elim (cases_eq vector number) [
  | inr ne ↦ off ne
  | inl q ↦ elim (cases_eq p at) [ inl r ↦ absurd (never q r) | inr ne ↦ away ne ]
]
  where
    off : vector ≢ number → is_that vector p number at ≡ zero
    off ne = grind (arith, nat_tests)

    away : p ≢ at → is_that vector p number at ≡ zero
    away ne = grind (arith, nat_tests)

module _ (given : Given) (w v : World) (number me from : ℕ) (ends : Ends) (words : List ℕ) (held : ℕ → Option ℕ) (old : ElementsStand given w number ends words held)
    (turns : TurnStands given w number ends) (own : OwnAreIn messages_in w) (lines : HasLines given me (bodies w me)) (is : is_vector (thing (machine_in given) number) ≡ true) where
  abbrev n : ℕ
  n = given.setup.cores

  abbrev A : ℕ → Body
  A = bodies w

  abbrev body : Body
  body = bodies w me

  abbrev letter : Msg → List Letter
  letter message = record { from = from; message = message } ∷ []

  abbrev parts_of : ℕ → ℕ
  parts_of p = total n (λ core. option_len ((vector_at number A core).part p))

  fit_of : (message : Msg) (e : Outcome) → Acts n w v me (letter message) e → ElementFits given number (turn_at number A) held from me message
  fit_of = fits given w v number me from ends words held old turns own

  others : (core : ℕ) → turn_at number A core ≡ 1 → (i : ℕ) → i ≢ core → turn_at number A i ≡ 0
  others = no_other given w v number me from ends words held old turns own

  -- ---- puts

  put_empty : (position word : ℕ) (e : Outcome) → Acts n w v me (letter (msg.ElemPut number position word)) e → (vector_at number A me).part position ≡ None
  put_empty position word e acts = len_none ((vector_at number A me).part position) (total_zero (λ core. option_len ((vector_at number A core).part position)) n (omega (
    arith,
    old.each position,
    len_le (held position),
    flow_off n w v me (letter (msg.ElemPut number position word)) e acts (carrying number position),
    that_is number position,
  )) me acts.here)

  put_served : (position word : ℕ) (e : Outcome) → Acts n w v me (letter (msg.ElemPut number position word)) e → IsMade (element_stored body from number position word (body.vectors.vectors number))
  put_served position word e acts = by (body.vectors.vectors number) refl
    where
      empty : (vector : Vector) → body.vectors.vectors number ≡ Some vector → vector.part position ≡ None
      empty vector there = sym (ap (λ (o : Option Vector). (vector_in o).part position) there) ∙ put_empty position word e acts

      by : (o : Option Vector) → body.vectors.vectors number ≡ o → IsMade (element_stored body from number position word o)
      by None there = absurd (no_vector given me number body lines is there)
      by (Some vector) there = record {
        outcome = record { body = with_vector body number (record vector { part = put vector.part position (Some word) }); sends = to from (msg.ElemAck number position None); marks = [] };
        is = ap (element_put body from number position word vector) (empty vector there);
      }

  -- ---- gets

  module _ (position : ℕ) (e : Outcome) (acts : Acts n w v me (letter (msg.ElemGet number position)) e) where
    fit : (me ≡ home (machine_in given) position) × (turn_at number A from ≡ 1) × (from < n)
    fit = fit_of (msg.ElemGet number position) e acts refl

    -- The turn of the core from which it comes.
    asker : (turn : Turn) × ((vector_at number A from).turn ≡ Some turn)
    asker = len_some (vector_at number A from).turn (omega (arith, fit.1))

    is_turn : IsTurnOf ends words held asker.0
    is_turn = old.turn from asker.0 asker.1

    of_this : (f : Turn → ℕ) → in_turns given number A f ≡ f asker.0
    of_this f = one_in given number A f from fit.2 (others from fit.1) ∙ ap (of_turn f) asker.1

    getting_one : in_flight (getting number position) n (put_core w me acts.core) ≡ 0
    getting_one = omega (
      arith,
      flow_off n w v me (letter (msg.ElemGet number position)) e acts (getting number position),
      that_is number position,
      old.gets position,
      of_this (gets_in position),
      number_le (asker.0.gets position),
    )

    abbrev off : World
    off = put_core w me acts.core

    abbrev Fits : ℕ → ℕ → Msg → Type 0
    Fits i d m = ElementFits given number (turn_at number A) held i d m

    abbrev Behind : ℕ → ℕ → Msg → Type 0
    Behind i d m = (i ≡ from → d ≡ me → is_put number m ≡ 0) × (getting number position i d m ≡ 0)

    -- Such a put would come from the same core to this one, before the get.
    carries_none : (i d : ℕ) (m : Msg) → Fits i d m → Behind i d m → carrying number position i d m ≡ 0
    carries_none i d (msg.ElemPut vector p word) f b = zero_that vector p number position (λ q r. elim (cases_eq i from) [
      | inl same ↦ absurd (omega (arith, b.0 same ((f q).0 ∙ ap (home (machine_in given)) r ∙ sym fit.0), one_if vector q))
      | inr ne ↦ absurd (omega (arith, others from fit.1 i ne, (f q).1))
    ])
      where
        one_if : (vector : ℕ) → vector ≡ number → number_of (vector == number) ≡ suc zero
        one_if vector q = subst (λ (k : ℕ). number_of (k == number) ≡ suc zero) (sym q) (one_is number)
    carries_none i d (msg.ElemAck vector p (Some word)) f b = b.1
    carries_none i d (msg.ElemAck vector p None) f b = refl
    carries_none i d (msg.ElemGet vector p) f b = refl
    carries_none i d (msg.Request slot id operation x y z) f b = refl
    carries_none i d (msg.Reply slot id first second) f b = refl
    carries_none i d (msg.Spawn unit) f b = refl
    carries_none i d (msg.Enrol scope) f b = refl
    carries_none i d (msg.EnrolAck scope) f b = refl
    carries_none i d (msg.Complete scope count) f b = refl
    carries_none i d (msg.Leave scope) f b = refl
    carries_none i d msg.StealAsk f b = refl
    carries_none i d (msg.StealGive unit) f b = refl
    carries_none i d (msg.Batch object key effect batch) f b = refl
    carries_none i d (msg.BatchReply batch before) f b = refl
    carries_none i d (msg.Turn vector) f b = refl
    carries_none i d (msg.Grant vector head tail) f b = refl
    carries_none i d (msg.Done vector head tail) f b = refl

    none_carried : in_flight (carrying number position) n off ≡ 0
    none_carried = flight_none messages_in (carrying number position) n off
        (every_with messages_in Fits Behind (λ i d m. carrying number position i d m ≡ 0) n off carries_none
        (facts_off n w v me (letter (msg.ElemGet number position)) e acts Fits old.messages).1
        (every_with messages_in (λ i d m. i ≡ from → d ≡ me → is_put number m ≡ 0) (λ i d m. getting number position i d m ≡ 0) Behind n off (λ i d m p q. (p, q))
        (channels.none_behind messages_in (is_put number) (is_get number) n w me acts.core (record { from = from; message = msg.ElemGet number position }) acts.without
        (old.ordered from me fit.2 acts.here) (omega (arith, one_is number)))
        (every_zero messages_in (getting number position) n off getting_one)))

    -- So it is at the home.
    at_home : (vector_at number A me).part position ≡ None → ⊥
    at_home none = absurd (omega (
      arith,
      old.each position,
      total_none (λ core. option_len ((vector_at number A core).part position)) n (λ i l. empty i ((vector_at number A i).part position) refl),
      none_carried,
      flow_off n w v me (letter (msg.ElemGet number position)) e acts (carrying number position),
      old.gets position,
      of_this (gets_in position),
      of_this (answers_in position),
      flow_off n w v me (letter (msg.ElemGet number position)) e acts (getting number position),
      that_is number position,
      is_turn.planned position,
      gets_one ends words held asker.0 is_turn position,
      len_le (held position),
    ))
      where
        empty : (i : ℕ) (o : Option ℕ) → (vector_at number A i).part position ≡ o → option_len ((vector_at number A i).part position) ≡ 0
        empty i None h = ap option_len h
        empty i (Some x) h =
            let i_is : i ≡ me = sym (old.parts i position x h).0 ∙ sym fit.0 in
            absurd (none_some x (sym none ∙ ap (λ (k : ℕ). (vector_at number A k).part position) (sym i_is) ∙ h))

    get_served : IsMade (element_fetched body from number position (body.vectors.vectors number))
    get_served = by (body.vectors.vectors number) refl
      where
        has : (vector : Vector) → body.vectors.vectors number ≡ Some vector → (o : Option ℕ) → vector.part position ≡ o → IsMade (element_got body from number position vector o)
        has vector there None none = absurd (at_home (ap (λ (o : Option Vector). (vector_in o).part position) there ∙ none))
        has vector there (Some word) full = record {
          outcome = record { body = with_vector body number (record vector { part = put vector.part position None }); sends = to from (msg.ElemAck number position (Some word)); marks = [] };
          is = refl;
        }

        by : (o : Option Vector) → body.vectors.vectors number ≡ o → IsMade (element_fetched body from number position o)
        by None there = absurd (no_vector given me number body lines is there)
        by (Some vector) there = has vector there (vector.part position) refl

  -- ---- answers

  -- The core has the turn, which waits for it.
  acker : turn_at number A me ≡ 1 → (turn : Turn) × ((vector_at number A me).turn ≡ Some turn)
  acker one = len_some (vector_at number A me).turn (omega (arith, one))

  put_waits : (position : ℕ) (e : Outcome) → Acts n w v me (letter (msg.ElemAck number position None)) e → (turn : Turn) → (vector_at number A me).turn ≡ Some turn → turn.puts position ≡ true
  put_waits position e acts turn mine = number_true (turn.puts position) (omega (
    arith,
    flow_off n w v me (letter (msg.ElemAck number position None)) e acts (putting number position),
    that_is number position,
    old.puts position,
    one_in given number A (puts_in position) me acts.here (others me (ap option_len mine)),
    ap (of_turn (puts_in position)) mine,
  ))

  get_waits : (position word : ℕ) (e : Outcome) → Acts n w v me (letter (msg.ElemAck number position (Some word))) e → (turn : Turn) → (vector_at number A me).turn ≡ Some turn → turn.gets position ≡ true
  get_waits position word e acts turn mine = number_true (turn.gets position) (omega (
    arith,
    flow_off n w v me (letter (msg.ElemAck number position (Some word))) e acts (getting number position),
    that_is number position,
    old.gets position,
    one_in given number A (gets_in position) me acts.here (others me (ap option_len mine)),
    ap (of_turn (gets_in position)) mine,
  ))

  ack_served : (position : ℕ) (got : Option ℕ) (e : Outcome) → Acts n w v me (letter (msg.ElemAck number position got)) e → IsMade (element_acked body number position got (body.vectors.vectors number))
  ack_served position got e acts = by (body.vectors.vectors number) refl
    where
      has_turn : (got : Option ℕ) → ElementFits given number (turn_at number A) held from me (msg.ElemAck number position got) → turn_at number A me ≡ 1
      has_turn None f = f refl
      has_turn (Some word) f = (f refl).0

      answered : (vector : Vector) → body.vectors.vectors number ≡ Some vector → (turn : Turn) → vector.turn ≡ Some turn → (got : Option ℕ)
          → Acts n w v me (letter (msg.ElemAck number position got)) e → IsMade (element_answered body number vector turn position got)
      answered vector there turn mine None acts = record {
        outcome = quietly (with_turn body number vector (put_answered turn position));
        is = ap (λ (b : Bool). if b then Some (quietly (with_turn body number vector (put_answered turn position))) else None) (put_waits position e acts turn (ap (λ (o : Option Vector). (vector_in o).turn) there ∙ mine));
      }
      answered vector there turn mine (Some word) acts = record {
        outcome = quietly (with_turn body number vector (get_answered turn position word));
        is = ap (λ (b : Bool). if b then Some (quietly (with_turn body number vector (get_answered turn position word))) else None)
            (get_waits position word e acts turn (ap (λ (o : Option Vector). (vector_in o).turn) there ∙ mine));
      }

      by_turn : (vector : Vector) → body.vectors.vectors number ≡ Some vector → (mine : Option Turn) → vector.turn ≡ mine → IsMade (turn_answered body number position got vector mine)
      by_turn vector there None mine = absurd (omega (arith, has_turn got (fit_of (msg.ElemAck number position got) e acts), ap (λ (o : Option Vector). option_len (vector_in o).turn) there, ap option_len mine))
      by_turn vector there (Some turn) mine = answered vector there turn mine got acts

      by : (o : Option Vector) → body.vectors.vectors number ≡ o → IsMade (element_acked body number position got o)
      by None there = absurd (no_vector given me number body lines is there)
      by (Some vector) there = by_turn vector there vector.turn refl

  abbrev Serves : Msg → Type 0
  Serves message = (e : Outcome) → Acts n w v me (letter message) e → IsMade (serves (machine_in given) me body from message)

  pub served : (message : Msg) → IsElement number message → Serves message
  served (msg.ElemPut vector position word) q = subst (λ (k : ℕ). Serves (msg.ElemPut k position word)) (sym q) (put_served position word)
  served (msg.ElemGet vector position) q = subst (λ (k : ℕ). Serves (msg.ElemGet k position)) (sym q) (get_served position)
  served (msg.ElemAck vector position got) q = subst (λ (k : ℕ). Serves (msg.ElemAck k position got)) (sym q) (ack_served position got)
  served (msg.Request slot id operation x y z) q = absurd q
  served (msg.Reply slot id first second) q = absurd q
  served (msg.Spawn unit) q = absurd q
  served (msg.Enrol scope) q = absurd q
  served (msg.EnrolAck scope) q = absurd q
  served (msg.Complete scope count) q = absurd q
  served (msg.Leave scope) q = absurd q
  served msg.StealAsk q = absurd q
  served (msg.StealGive unit) q = absurd q
  served (msg.Batch object key effect batch) q = absurd q
  served (msg.BatchReply batch before) q = absurd q
  served (msg.Turn vector) q = absurd q
  served (msg.Grant vector head tail) q = absurd q
  served (msg.Done vector head tail) q = absurd q

pub elements_served : laws.ElementsAreServed
elements_served given w v number me from message e ends words acts lines is own turns old element =
    served given w v number me from ends words old.held old.stand turns own lines is message element e acts
