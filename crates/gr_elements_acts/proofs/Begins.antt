-- A turn begins: its puts and gets are sent, and what its calls push is held too.
use Rattle.std.proofs.Common.{◌≡◌, ◌≢◌, ℕ, zero, suc, ◌+◌, ◌≤◌, ◌<◌, ◌==◌, List, [], ◌∷◌, ◌++◌, length, inl, inr, sym, ◌∙◌, ap, subst, refl, arith, Option, Some, None}
use Rattle.std.proofs.lemmas.Bool.{cases_eq}
use Rattle.std.specs.Option.{option_len}
use Rattle.gr_lang.specs.declared.action.WaitingCall.{WaitingCall}
use Rattle.gr_view.specs.Places.{put}
use Rattle.gr_msg.specs.declared.message.Msg.{Msg}
use Rattle.gr_msg.specs.declared.message.Msg.TheVariants as msg
use Rattle.gr_vector.specs.declared.ends.Ends.{Ends}
use Rattle.gr_vector.specs.declared.turn_plan.Plan.{Plan}
use Rattle.gr_vector.specs.Plans.{plan_of}
use Rattle.gr_net.specs.Sums.{weigh, Each}
use Rattle.gr_net.proofs.Spreads.{put_same, put_each, put_field, weigh-append, Each-append}
use Rattle.gr_machine.specs.Machines.{Machine, home}
use Rattle.gr_machine.specs.States.{Letter, Turn, Vector, Body}
use Rattle.gr_machine.specs.Outcomes.{Send, Outcome}
use Rattle.gr_machine.specs.Nets.{messages_in}
use Rattle.gr_machine.specs.TurnServes.{turn_from, put_sends, get_sends, turn_begun}
use Rattle.gr_stands.specs.Worlds.{Given, machine_in, World, Weight, bodies, in_flight, of_sends, Acts}
use Rattle.gr_stands.proofs.Worlds.{flow_off}
use Rattle.gr_lines.specs.Lines.{vector_in}
use Rattle.gr_lines.specs.Waiting.{IsGroup}
use Rattle.gr_lines_turns.specs.Tokens.{vector_at, turns_at, turn_at, grants, TurnStands}
use Rattle.gr_lines_tokens.proofs.Firsts.{one_if, grant_grants, first_other}
use Rattle.gr_lines_tokens.proofs.Granted.{no_turn, where_granted}
use Rattle.gr_elements_orders.specs.Orders.{went, InOrder, OwnAreIn}
use Rattle.gr_elements_orders.proofs.Lists.{order_append, none_late, none_early, went-append, went_none}
use Rattle.gr_elements_plans.specs.Positions.{standing, puts_at, gets_at, turn_plan, held_by}
use Rattle.gr_elements_plans.specs.Laws.{PlanTells}
use Rattle.gr_elements_plans.proofs.Tells.{plans_tell}
use Rattle.gr_elements.specs.Weights.{elements, putting, getting, carrying, is_put, is_get, of_turn, left_in, puts_in, gets_in, answers_in}
use Rattle.gr_elements.specs.Elements.{ElementFits, IsTurnOf, ElementsStand}
use Rattle.gr_elements.proofs.Kept.{elements_kept}
use Rattle.gr_elements_acts.specs.Holding.{HasElements}
use Rattle.gr_elements_acts.proofs.Counts.{none_some, some_same, none_of, none_in, that_by, one_is, any_puts, any_gets, len_le}
use Rattle.gr_elements_acts.proofs.Quiet.{nothing_flies, all_fit, no_get_before}

-- ---- what puts and gets weigh

module _ (m : Machine) (number me : ℕ) where
  put_elements : (pairs : List (ℕ × ℕ)) → of_sends (elements number) me (put_sends m number pairs) ≡ length pairs
  put_elements [] = refl
  put_elements (pair ∷ pairs) = omega (arith, one_is number, put_elements pairs)

  put_puttings : (p : ℕ) (pairs : List (ℕ × ℕ)) → of_sends (putting number p) me (put_sends m number pairs) ≡ puts_at p pairs
  put_puttings p [] = refl
  put_puttings p (pair ∷ pairs) = omega (arith, that_by number pair.0 p, put_puttings p pairs)

  put_carryings : (p : ℕ) (pairs : List (ℕ × ℕ)) → of_sends (carrying number p) me (put_sends m number pairs) ≡ puts_at p pairs
  put_carryings p [] = refl
  put_carryings p (pair ∷ pairs) = omega (arith, that_by number pair.0 p, put_carryings p pairs)

  put_gettings : (p : ℕ) (pairs : List (ℕ × ℕ)) → of_sends (getting number p) me (put_sends m number pairs) ≡ 0
  put_gettings p [] = refl
  put_gettings p (pair ∷ pairs) = omega (arith, put_gettings p pairs)

  put_gets : (pairs : List (ℕ × ℕ)) → weigh (λ (s : Send). is_get number s.message) (put_sends m number pairs) ≡ 0
  put_gets [] = refl
  put_gets (pair ∷ pairs) = omega (arith, put_gets pairs)

  get_elements : (positions : List ℕ) → of_sends (elements number) me (get_sends m number positions) ≡ length positions
  get_elements [] = refl
  get_elements (at ∷ positions) = omega (arith, one_is number, get_elements positions)

  get_gettings : (p : ℕ) (positions : List ℕ) → of_sends (getting number p) me (get_sends m number positions) ≡ gets_at p positions
  get_gettings p [] = refl
  get_gettings p (at ∷ positions) = omega (arith, that_by number at p, get_gettings p positions)

  get_puttings : (p : ℕ) (positions : List ℕ) → of_sends (putting number p) me (get_sends m number positions) ≡ 0
  get_puttings p [] = refl
  get_puttings p (at ∷ positions) = omega (arith, get_puttings p positions)

  get_carryings : (p : ℕ) (positions : List ℕ) → of_sends (carrying number p) me (get_sends m number positions) ≡ 0
  get_carryings p [] = refl
  get_carryings p (at ∷ positions) = omega (arith, get_carryings p positions)

  get_puts : (positions : List ℕ) → weigh (λ (s : Send). is_put number s.message) (get_sends m number positions) ≡ 0
  get_puts [] = refl
  get_puts (at ∷ positions) = omega (arith, get_puts positions)

-- ---- a turn begins

module _ (given : Given) (w v : World) (number me from : ℕ) (ends : Ends) (words : List ℕ) (held : ℕ → Option ℕ) (old : ElementsStand given w number ends words held)
    (turns : TurnStands given w number ends) (own : OwnAreIn messages_in w) where
  abbrev n : ℕ
  n = given.setup.cores

  abbrev machine : Machine
  machine = machine_in given

  abbrev A : ℕ → Body
  A = bodies w

  abbrev body : Body
  body = bodies w me

  abbrev letter : ℕ → ℕ → List Letter
  letter head tail = record { from = from; message = msg.Grant number head tail } ∷ []

  -- While the turn is granted no core has it.
  none_out : (head tail : ℕ) (e : Outcome) → Acts n w v me (letter head tail) e → (i : ℕ) → turn_at number A i ≡ 0
  none_out head tail e acts i = elim (cases_eq i me) [
    | inl q ↦ subst (λ (j : ℕ). turn_at number A j ≡ 0) (sym q) (no_turn given w v number me ends turns head tail from e acts)
    | inr ne ↦ omega (
      arith,
      turns.token i,
      first_other me i (turns_at machine number A).cores (omega (
        arith,
        turns.token me,
        flow_off n w v me (letter head tail) e acts (grants number me),
        grant_grants number me from me head tail,
        one_if me me refl,
      )) ne,
    )
  ]

  module _ (vector : Vector) (there : body.vectors.vectors number ≡ Some vector) (calls : List WaitingCall) (group : IsGroup calls) where
    abbrev head : ℕ
    head = ends.head

    abbrev tail : ℕ
    tail = ends.head + length words

    abbrev plan : Plan
    plan = turn_plan calls head words

    abbrev turn : Turn
    turn = turn_from calls (record { head = head; tail = tail }) plan

    abbrev next : Vector
    next = record vector { turn = Some turn }

    abbrev e : Outcome
    e = turn_begun machine body number vector calls head tail plan

    abbrev B : ℕ → Body
    B = put A me e.body

    abbrev now : ℕ → Option ℕ
    now = held_by calls head words

    tells : PlanTells calls head words
    tells = subst (λ (c : List WaitingCall). PlanTells c head words) (sym group.made) (plans_tell group.calls head words)

    puts_one : (p : ℕ) → puts_at p plan.puts ≤ 1
    puts_one p = omega (arith, tells.puts p, len_le (now p))

    gets_one : (p : ℕ) → gets_at p plan.gets ≤ 1
    gets_one p = omega (arith, tells.gets p, len_le (now p))

    next_is : vector_in (e.body.vectors.vectors number) ≡ next
    next_is = ap vector_in (put_same body.vectors.vectors number (Some next))

    part_same : (i p : ℕ) → (vector_at number B i).part p ≡ (vector_at number A i).part p
    part_same i p = put_field (λ (b : Body). (vector_in (b.vectors.vectors number)).part p) A me e.body
        (ap (λ (x : Vector). x.part p) next_is ∙ sym (ap (λ (o : Option Vector). (vector_in o).part p) there)) i

    sends_weigh : (h : Weight) → of_sends h me e.sends ≡ of_sends h me (put_sends machine number plan.puts) + of_sends h me (get_sends machine number plan.gets)
    sends_weigh h = weigh-append (λ (s : Send). h me s.to s.message) (put_sends machine number plan.puts) (get_sends machine number plan.gets)

    has_now : turn_at number B me ≡ 1
    has_now = ap (λ (b : Body). option_len (vector_in (b.vectors.vectors number)).turn) (put_same A me e.body) ∙ ap (λ (x : Vector). option_len x.turn) next_is

    puts_fit : me < n → (pairs : List (ℕ × ℕ)) → Each (λ pair. now pair.0 ≡ Some pair.1) pairs
        → Each (λ (s : Send). ElementFits given number (turn_at number B) now me s.to s.message) (put_sends machine number pairs)
    puts_fit here [] f = tt
    puts_fit here (pair ∷ pairs) f = (λ q. (refl, has_now, here, f.0), puts_fit here pairs f.1)

    gets_fit : me < n → (positions : List ℕ) → Each (λ (s : Send). ElementFits given number (turn_at number B) now me s.to s.message) (get_sends machine number positions)
    gets_fit here [] = tt
    gets_fit here (at ∷ positions) = (λ q. (refl, has_now, here), gets_fit here positions)

    in_order : (to : ℕ) → InOrder (is_put number) (is_get number) (went to e.sends)
    in_order to = subst (InOrder (is_put number) (is_get number)) (sym (went-append to (put_sends machine number plan.puts) (get_sends machine number plan.gets)))
        (order_append (is_put number) (is_get number) (went to (put_sends machine number plan.puts)) (went to (get_sends machine number plan.gets))
        (none_late (is_put number) (is_get number) (went to (put_sends machine number plan.puts)) no_get)
        (none_early (is_put number) (is_get number) (went to (get_sends machine number plan.gets)) (went_none (is_put number) to (get_sends machine number plan.gets) (get_puts machine number me plan.gets)))
        (inl no_get))
      where
        no_get : weigh (is_get number) (went to (put_sends machine number plan.puts)) ≡ 0
        no_get = went_none (is_get number) to (put_sends machine number plan.puts) (put_gets machine number me plan.puts)

    begun : (one other : ℕ) → Acts n w v me (letter one other) e → ElementsStand given v number ends words now
    begun one other acts =
        let out = none_out one other e acts in
        let quiet : in_flight (elements number) n w ≡ 0 = old.left ∙ none_in given number A left_in out in
        let free : (f : Turn → ℕ) → of_turn f (vector_at number A me).turn ≡ 0 = λ f. none_of f (vector_at number A me).turn (out me) in
        elements_kept given w v number me (letter one other) e ends words held ends words now acts own (record {
          long = old.long;
          turn = λ i t. put_each (λ (i : ℕ) (b : Body). (vector_in (b.vectors.vectors number)).turn ≡ Some t → IsTurnOf ends words now t) A me e.body i
              (λ q h. subst (IsTurnOf ends words now) (some_same turn t (ap (λ (x : Vector). x.turn) (sym next_is) ∙ h)) (record {
                made = group;
                holds = λ p. refl;
                planned = λ p. omega (arith, any_gets plan.gets p (gets_one p));
                right = λ p x h. absurd (none_some x h);
              }))
              (λ ne h. absurd (omega (arith, out i, ap option_len h)));
          idle = λ none. absurd (omega (arith, none me, has_now));
          left = omega (
            arith,
            sends_weigh (elements number),
            put_elements machine number me plan.puts,
            get_elements machine number me plan.gets,
            free left_in,
            ap (λ (x : Vector). of_turn left_in x.turn) next_is,
          );
          puts = λ p. omega (
            arith,
            sends_weigh (putting number p),
            put_puttings machine number me p plan.puts,
            get_puttings machine number me p plan.gets,
            free (puts_in p),
            ap (λ (x : Vector). of_turn (puts_in p) x.turn) next_is,
            any_puts plan.puts p (puts_one p),
          );
          gets = λ p. omega (
            arith,
            sends_weigh (getting number p),
            put_gettings machine number me p plan.puts,
            get_gettings machine number me p plan.gets,
            free (gets_in p),
            ap (λ (x : Vector). of_turn (gets_in p) x.turn) next_is,
            any_gets plan.gets p (gets_one p),
          );
          each = λ p. omega (
            arith,
            sends_weigh (carrying number p),
            put_carryings machine number me p plan.puts,
            get_carryings machine number me p plan.gets,
            free (answers_in p),
            ap (λ (x : Vector). of_turn (answers_in p) x.turn) next_is,
            ap (λ (x : Vector). option_len (x.part p)) next_is,
            ap (λ (o : Option Vector). option_len ((vector_in o).part p)) there,
            tells.puts p,
            ap option_len (old.idle out p),
          );
          parts = λ i p x h. let o = old.parts i p x (sym (part_same i p) ∙ h) in (o.0, tells.kept p x (sym (old.idle out p) ∙ o.1));
          sends = Each-append (λ (s : Send). ElementFits given number (turn_at number B) now me s.to s.message) (put_sends machine number plan.puts) (get_sends machine number plan.gets)
              (puts_fit acts.here plan.puts tells.placed) (gets_fit acts.here plan.gets);
          order = λ to there. (in_order to, inl (no_get_before given w number quiet me to acts.here there));
        }) (λ f. all_fit given w number quiet (turn_at number B) now) old

    pub begun_keeps : (one other : ℕ) → Acts n w v me (letter one other) (turn_begun machine body number vector calls one other (plan_of calls one other)) → HasElements given v number ends words
    begun_keeps one other acts =
        let at = where_granted given w v number me ends turns one other from (turn_begun machine body number vector calls one other (plan_of calls one other)) acts in
        record {
          held = now;
          stand = begun one other
              (subst (λ (t : ℕ). Acts n w v me (letter one other) (turn_begun machine body number vector calls head t (plan_of calls head t))) (at.1 ∙ old.long)
              (subst (λ (h : ℕ). Acts n w v me (letter one other) (turn_begun machine body number vector calls h other (plan_of calls h other))) at.0 acts));
        }
