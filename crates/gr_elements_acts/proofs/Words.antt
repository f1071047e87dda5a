-- A word is put at its home and got from there, and a turn has its answers: each message of an element keeps where the words are.
use Rattle.std.proofs.Common.{◌≡◌, ◌≢◌, ℕ, zero, suc, ◌+◌, ◌-◌, ◌≤◌, ◌<◌, ◌==◌, Bool, true, false, if◌then◌else◌, List, [], ◌∷◌, inl, inr, sym, ◌∙◌, ap, subst, refl, arith, Option, Some, None}
use Rattle.std.specs.Option.{option_len}
use Rattle.gr_lang.specs.Expressions.{number_of}
use Rattle.gr_lang.specs.declared.action.WaitingCall.{WaitingCall}
use Rattle.gr_view.specs.Places.{put}
use Rattle.gr_msg.specs.declared.message.Msg.{Msg}
use Rattle.gr_msg.specs.declared.message.Msg.TheVariants as msg
use Rattle.gr_vector.specs.declared.ends.Ends.{Ends}
use Rattle.gr_net.proofs.Spreads.{put_same, put_each}
use Rattle.gr_machine.specs.Machines.{home}
use Rattle.gr_machine.specs.States.{Letter, Turn, Vector, Body}
use Rattle.gr_machine.specs.Outcomes.{Outcome, to, quietly}
use Rattle.gr_machine.specs.Nets.{messages_in}
use Rattle.gr_machine.specs.TurnServes.{with_vector, with_turn, put_answered, get_answered}
use Rattle.gr_stands.specs.Worlds.{Given, machine_in, World, bodies, in_flight, Acts}
use Rattle.gr_stands.proofs.Worlds.{facts_off, flow_off}
use Rattle.gr_lines.specs.Lines.{vector_in}
use Rattle.gr_lines.specs.Waiting.{IsGroup}
use Rattle.gr_lines_turns.specs.Tokens.{vector_at, turns_at, turn_at, TurnStands}
use Rattle.gr_lines_tokens.proofs.Firsts.{first_other}
use Rattle.gr_elements_orders.specs.Orders.{OwnAreIn}
use Rattle.gr_elements_plans.specs.Positions.{standing, gets_at, turn_plan, held_by}
use Rattle.gr_elements_plans.specs.Laws.{PlanTells}
use Rattle.gr_elements_plans.proofs.Tells.{plans_tell}
use Rattle.gr_elements.specs.Weights.{elements, of_turn, left_in, puts_in, gets_in, answers_in}
use Rattle.gr_elements.specs.Elements.{ElementFits, IsTurnOf, in_turns, ElementsStand}
use Rattle.gr_elements_acts.proofs.Counts.{none_some, some_same, one_in, that_by, one_is, put_moves, none_if, len_le}
use Rattle.gr_elements_acts.proofs.Changes.{Changes, changed}

-- What the plan of a turn does.
pub tells_of : (ends : Ends) (words : List ℕ) (held : ℕ → Option ℕ) (turn : Turn) → IsTurnOf ends words held turn → PlanTells turn.calls ends.head words
tells_of ends words held turn is = subst (λ (c : List WaitingCall). PlanTells c ends.head words) (sym is.made.made) (plans_tell is.made.calls ends.head words)

-- A position from which a word is got is held, and none but that.
pub gets_one : (ends : Ends) (words : List ℕ) (held : ℕ → Option ℕ) (turn : Turn) → IsTurnOf ends words held turn → (p : ℕ) → gets_at p (turn_plan turn.calls ends.head words).gets ≤ option_len (held p)
gets_one ends words held turn is p = omega (arith, (tells_of ends words held turn is).gets p, ap option_len (is.holds p))

module _ (given : Given) (w v : World) (number me from : ℕ) (ends : Ends) (words : List ℕ) (held : ℕ → Option ℕ) (old : ElementsStand given w number ends words held)
    (turns : TurnStands given w number ends) (own : OwnAreIn messages_in w) where
  abbrev n : ℕ
  n = given.setup.cores

  abbrev A : ℕ → Body
  A = bodies w

  abbrev body : Body
  body = bodies w me

  abbrev letter : Msg → List Letter
  letter message = record { from = from; message = message } ∷ []

  pub fits : (message : Msg) (e : Outcome) → Acts n w v me (letter message) e → ElementFits given number (turn_at number A) held from me message
  fits message e acts = (facts_off n w v me (letter message) e acts (ElementFits given number (turn_at number A) held) old.messages).0.0

  -- Where a core has the turn no other has it.
  pub no_other : (core : ℕ) → turn_at number A core ≡ 1 → (i : ℕ) → i ≢ core → turn_at number A i ≡ 0
  no_other core one i ne = omega (arith, turns.token i, first_other core i (turns_at (machine_in given) number A).cores (omega (arith, one, turns.token core)) ne)

  module _ (vector : Vector) (there : body.vectors.vectors number ≡ Some vector) where
    was_part : (p : ℕ) → (vector_at number A me).part p ≡ vector.part p
    was_part p = ap (λ (o : Option Vector). (vector_in o).part p) there

    was_turn : (vector_at number A me).turn ≡ vector.turn
    was_turn = ap (λ (o : Option Vector). (vector_in o).turn) there

    -- ---- at the home of the position

    pub stored_keeps : (position word : ℕ) → vector.part position ≡ None
        → Acts n w v me (letter (msg.ElemPut number position word)) (record { body = with_vector body number (record vector { part = put vector.part position (Some word) }); sends = to from (msg.ElemAck number position None); marks = [] })
        → ElementsStand given v number ends words held
    stored_keeps position word empty acts =
        let next : Vector = record vector { part = put vector.part position (Some word) } in
        let e : Outcome = record { body = with_vector body number next; sends = to from (msg.ElemAck number position None); marks = [] } in
        let fit = fits (msg.ElemPut number position word) e acts refl in
        changed given w v number me (letter (msg.ElemPut number position word)) e ends words held vector next there (put_same body.vectors.vectors number (Some next)) (record {
          same = refl;
          turn = λ t h. old.turn me t (was_turn ∙ h);
          left = refl;
          puts = λ p. refl;
          gets = λ p. refl;
          each = λ p. omega (
            arith,
            put_moves option_len vector.part position (Some word) p,
            that_by number position p,
            ap (λ (o : Option ℕ). if position == p then option_len o else zero) empty,
            none_if position p,
          );
          parts = λ p x. put_each (λ (p : ℕ) (o : Option ℕ). o ≡ Some x → (home (machine_in given) p ≡ me) × (held p ≡ Some x)) vector.part position (Some word) p
              (λ q h. (ap (home (machine_in given)) q ∙ sym fit.0, ap held q ∙ fit.3 ∙ h))
              (λ ne h. old.parts me p x (was_part p ∙ h));
          no_puts = refl;
          no_gets = refl;
        }) old acts own (λ q. fit.1, tt)

    pub fetched_keeps : (position word : ℕ) → vector.part position ≡ Some word
        → Acts n w v me (letter (msg.ElemGet number position)) (record { body = with_vector body number (record vector { part = put vector.part position None }); sends = to from (msg.ElemAck number position (Some word)); marks = [] })
        → ElementsStand given v number ends words held
    fetched_keeps position word full acts =
        let next : Vector = record vector { part = put vector.part position None } in
        let e : Outcome = record { body = with_vector body number next; sends = to from (msg.ElemAck number position (Some word)); marks = [] } in
        let fit = fits (msg.ElemGet number position) e acts refl in
        changed given w v number me (letter (msg.ElemGet number position)) e ends words held vector next there (put_same body.vectors.vectors number (Some next)) (record {
          same = refl;
          turn = λ t h. old.turn me t (was_turn ∙ h);
          left = refl;
          puts = λ p. refl;
          gets = λ p. refl;
          each = λ p. omega (
            arith,
            put_moves option_len vector.part position None p,
            that_by number position p,
            ap (λ (o : Option ℕ). if position == p then option_len o else zero) full,
            none_if position p,
          );
          parts = λ p x. put_each (λ (p : ℕ) (o : Option ℕ). o ≡ Some x → (home (machine_in given) p ≡ me) × (held p ≡ Some x)) vector.part position None p
              (λ q h. absurd (none_some x h))
              (λ ne h. old.parts me p x (was_part p ∙ h));
          no_puts = refl;
          no_gets = refl;
        }) old acts own (λ q. (fit.1, (old.parts me position word (was_part position ∙ full)).1), tt)

    -- ---- at the core that has the turn

    module _ (turn : Turn) (mine : vector.turn ≡ Some turn) where
      pub is_turn : IsTurnOf ends words held turn
      is_turn = old.turn me turn (was_turn ∙ mine)

      has_turn : turn_at number A me ≡ 1
      has_turn = ap option_len (was_turn ∙ mine)

      -- The sum over all turns is that of this one.
      pub of_this : (f : Turn → ℕ) → me < n → in_turns given number A f ≡ f turn
      of_this f here = one_in given number A f me here (no_other me has_turn) ∙ ap (of_turn f) (was_turn ∙ mine)

      -- An answer comes to it only while something isn't answered.
      some_left : (message : Msg) (e : Outcome) → Acts n w v me (letter message) e → elements number from me message ≡ suc zero → 1 ≤ turn.left
      some_left message e acts one = omega (arith, one, flow_off n w v me (letter message) e acts (elements number), old.left, of_this left_in acts.here)

      pub put_acked_keeps : (position : ℕ) → turn.puts position ≡ true
          → Acts n w v me (letter (msg.ElemAck number position None)) (quietly (with_turn body number vector (put_answered turn position))) → ElementsStand given v number ends words held
      put_acked_keeps position waits acts =
          let after : Turn = put_answered turn position in
          let next : Vector = record vector { turn = Some after } in
          let e : Outcome = quietly (with_turn body number vector after) in
          let o = is_turn in
          changed given w v number me (letter (msg.ElemAck number position None)) e ends words held vector next there (put_same body.vectors.vectors number (Some next)) (record {
            same = sym (ap option_len mine);
            turn = λ t h. subst (IsTurnOf ends words held) (some_same after t h) (record { made = o.made; holds = o.holds; planned = o.planned; right = o.right });
            left = omega (arith, ap (of_turn left_in) mine, one_is number, some_left (msg.ElemAck number position None) e acts (one_is number));
            puts = λ p. omega (
              arith,
              ap (of_turn (puts_in p)) mine,
              put_moves number_of turn.puts position false p,
              that_by number position p,
              ap (λ (b : Bool). if position == p then number_of b else zero) waits,
              none_if position p,
            );
            gets = λ p. omega (arith, ap (of_turn (gets_in p)) mine);
            each = λ p. omega (arith, ap (of_turn (answers_in p)) mine);
            parts = λ p x h. old.parts me p x (was_part p ∙ h);
            no_puts = refl;
            no_gets = refl;
          }) old acts own tt

      pub get_acked_keeps : (position word : ℕ) → turn.gets position ≡ true
          → Acts n w v me (letter (msg.ElemAck number position (Some word))) (quietly (with_turn body number vector (get_answered turn position word))) → ElementsStand given v number ends words held
      get_acked_keeps position word waits acts =
          let after : Turn = get_answered turn position word in
          let next : Vector = record vector { turn = Some after } in
          let e : Outcome = quietly (with_turn body number vector after) in
          let o = is_turn in
          let fit = fits (msg.ElemAck number position (Some word)) e acts refl in
          let none : option_len (turn.answers position) ≡ 0 = omega (arith, o.planned position, gets_one ends words held turn o position, len_le (held position), ap number_of waits) in
          let moved = λ (p : ℕ). put_moves number_of turn.gets position false p in
          let taken : (p : ℕ) → (if position == p then number_of (turn.gets position) else zero) ≡ (if position == p then 1 else zero) = λ p. ap (λ (b : Bool). if position == p then number_of b else zero) waits in
          let answered = λ (p : ℕ). put_moves option_len turn.answers position (Some word) p in
          let clear : (p : ℕ) → (if position == p then option_len (turn.answers position) else zero) ≡ zero = λ p. ap (λ (k : ℕ). if position == p then k else zero) none ∙ none_if position p in
          changed given w v number me (letter (msg.ElemAck number position (Some word))) e ends words held vector next there (put_same body.vectors.vectors number (Some next)) (record {
            same = sym (ap option_len mine);
            turn = λ t h. subst (IsTurnOf ends words held) (some_same after t h) (record {
              made = o.made;
              holds = o.holds;
              planned = λ p. omega (arith, o.planned p, moved p, taken p, answered p, clear p, none_if position p);
              right = λ p x. put_each (λ (p : ℕ) (a : Option ℕ). a ≡ Some x → held p ≡ Some x) turn.answers position (Some word) p (λ q h. ap held q ∙ fit.1 ∙ h) (λ ne h. o.right p x h);
            });
            left = omega (arith, ap (of_turn left_in) mine, one_is number, some_left (msg.ElemAck number position (Some word)) e acts (one_is number));
            puts = λ p. omega (arith, ap (of_turn (puts_in p)) mine);
            gets = λ p. omega (arith, ap (of_turn (gets_in p)) mine, moved p, taken p, that_by number position p, none_if position p);
            each = λ p. omega (arith, ap (of_turn (answers_in p)) mine, answered p, clear p, that_by number position p);
            parts = λ p x h. old.parts me p x (was_part p ∙ h);
            no_puts = refl;
            no_gets = refl;
          }) old acts own tt
