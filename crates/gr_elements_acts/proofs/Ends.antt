-- A turn of which nothing is left ends: the words that its calls leave are held, where they are.
use Rattle.std.proofs.Common.{◌≡◌, ◌≢◌, ℕ, zero, suc, ◌+◌, ◌/◌, ◌≤◌, ◌<◌, List, [], ◌∷◌, length, drop, inl, inr, sym, ◌∙◌, ap, subst, refl, arith, mod-lt, Option, Some, None}
use Rattle.std.specs.Option.{option_len}
use Rattle.gr_lang.specs.declared.action.WaitingCall.{WaitingCall}
use Rattle.gr_view.specs.Places.{put}
use Rattle.gr_msg.specs.declared.message.Msg.{Msg}
use Rattle.gr_vector.specs.declared.ends.Ends.{Ends}
use Rattle.gr_vector.specs.Laws.{words_after, replies, replies_from}
use Rattle.gr_vector.specs.Plans.{taken_by, ends_after}
use Rattle.gr_net.specs.Sums.{total, Each}
use Rattle.gr_net.proofs.Spreads.{put_same, put_each, put_field, total_one}
use Rattle.gr_machine.specs.Machines.{home}
use Rattle.gr_machine.specs.States.{Letter, Turn, Vector, Vectors, Body}
use Rattle.gr_machine.specs.Outcomes.{Outcome}
use Rattle.gr_machine.specs.Nets.{messages_in}
use Rattle.gr_machine.specs.TurnServes.{with_vector, turn_replies, wakes, turn_finished}
use Rattle.gr_stands.specs.Worlds.{Given, machine_in, World, bodies, in_flight, Acts}
use Rattle.gr_lines.specs.Lines.{vector_in}
use Rattle.gr_lines_turns.specs.Tokens.{vector_at, turn_at, TurnStands}
use Rattle.gr_elements_orders.specs.Orders.{went, OwnAreIn}
use Rattle.gr_elements_orders.proofs.Lists.{none_late, went_none}
use Rattle.gr_elements_plans.specs.Positions.{standing, gets_at, turn_plan, held_by}
use Rattle.gr_elements_plans.specs.Laws.{PlanTells}
use Rattle.gr_elements.specs.Weights.{elements, putting, getting, is_put, is_get, of_turn, left_in, puts_in, gets_in, answers_in}
use Rattle.gr_elements.specs.Elements.{IsTurnOf, in_turns, ElementsStand}
use Rattle.gr_elements.proofs.Kept.{elements_kept}
use Rattle.gr_elements.proofs.Weights.{putting_off, getting_off}
use Rattle.gr_elements_apart.proofs.Messages.{all_stay}
use Rattle.gr_elements_acts.specs.Holding.{HasElements}
use Rattle.gr_elements_acts.specs.Laws as laws
use Rattle.gr_elements_acts.proofs.Counts.{none_some, some_same, one_in, len_some}
use Rattle.gr_elements_acts.proofs.Words.{tells_of, no_other}
use Rattle.gr_elements_acts.proofs.Quiet.{nothing_flies, all_fit}

module _ (given : Given) (w v : World) (number me : ℕ) (ends : Ends) (words : List ℕ) (held : ℕ → Option ℕ) (old : ElementsStand given w number ends words held)
    (turns : TurnStands given w number ends) (own : OwnAreIn messages_in w) (vector : Vector) (turn : Turn)
    (there : (bodies w me).vectors.vectors number ≡ Some vector) (mine : vector.turn ≡ Some turn) (done : turn.left ≡ 0) where
  abbrev n : ℕ
  n = given.setup.cores

  abbrev A : ℕ → Body
  A = bodies w

  was_turn : (vector_at number A me).turn ≡ Some turn
  was_turn = ap (λ (o : Option Vector). (vector_in o).turn) there ∙ mine

  pub is_turn : IsTurnOf ends words held turn
  is_turn = old.turn me turn was_turn

  tells : PlanTells turn.calls ends.head words
  tells = tells_of ends words held turn is_turn

  other_none : (i : ℕ) → i ≢ me → turn_at number A i ≡ 0
  other_none = no_other given w w number me me ends words held old turns own me (ap option_len was_turn)

  of_this : (f : Turn → ℕ) → me < n → in_turns given number A f ≡ f turn
  of_this f here = one_in given number A f me here other_none ∙ ap (of_turn f) was_turn

  abbrev begins : Ends
  begins = record { head = ends.head; tail = ends.head + length words }

  -- Where the words stood.
  pub stood : turn.ends ≡ begins
  stood = turns.turn me turn was_turn ∙ ap (λ (t : ℕ). record { head = ends.head; tail = t }) old.long

  pub quiet : me < n → in_flight (elements number) n w ≡ 0
  quiet here = old.left ∙ of_this left_in here ∙ done

  pub none_got : me < n → (p : ℕ) → gets_in p turn ≡ 0
  none_got here p = omega (arith, old.gets p, of_this (gets_in p) here, nothing_flies given w number (quiet here) (getting number p) (getting_off number p))

  none_put : me < n → (p : ℕ) → puts_in p turn ≡ 0
  none_put here p = omega (arith, old.puts p, of_this (puts_in p) here, nothing_flies given w number (quiet here) (putting number p) (putting_off number p))

  -- Each word that the plan gets was answered.
  pub answered : me < n → (p : ℕ) → option_len (turn.answers p) ≡ gets_at p (turn_plan turn.calls ends.head words).gets
  answered here p = omega (arith, is_turn.planned p, none_got here p)

  -- So its calls have the replies of the plain memory.
  pub replied : me < n → replies_from turn.answers (taken_by turn.calls turn.ends) ≡ replies turn.calls words
  replied here = ap (λ (x : Ends). replies_from turn.answers (taken_by turn.calls x)) stood
      ∙ tells.answers turn.answers (λ p l. let is = len_some (turn.answers p) (omega (arith, l, answered here p)) in is.1 ∙ sym (is_turn.right p is.0 is.1) ∙ is_turn.holds p)

  abbrev next : Vector
  next = record vector { groups = drop 1 vector.groups; turn = None }

  abbrev now : ℕ → Option ℕ
  now = standing (ends_after turn.calls begins).head (words_after turn.calls words)

  module _ (last : Ends) (acts : Acts n w v me [] (turn_finished (machine_in given) (A me) number vector turn last)) where
    abbrev e : Outcome
    e = turn_finished (machine_in given) (A me) number vector turn last

    abbrev B : ℕ → Body
    B = put A me e.body

    next_is : vector_in (e.body.vectors.vectors number) ≡ next
    next_is = ap (λ (x : Vectors). vector_in (x.vectors number)) (all_stay (machine_in given) (with_vector (A me) number next) (wakes (turn_replies turn)))
        ∙ ap vector_in (put_same (A me).vectors.vectors number (Some next))

    part_same : (i p : ℕ) → (vector_at number B i).part p ≡ (vector_at number A i).part p
    part_same i p = put_field (λ (b : Body). (vector_in (b.vectors.vectors number)).part p) A me e.body
        (ap (λ (x : Vector). x.part p) next_is ∙ sym (ap (λ (o : Option Vector). (vector_in o).part p) there)) i

    -- A word that is at a home stays held.
    stays_held : (i p x : ℕ) → (vector_at number A i).part p ≡ Some x → now p ≡ Some x
    stays_held i p x h =
        let o = old.parts i p x h in
        let inside : i < n = subst (λ (k : ℕ). k < n) o.0 (mod-lt (p / given.setup.block) {m = given.setup.cores} (omega (arith, acts.here))) in
        let one : 1 ≤ total n (λ core. option_len ((vector_at number A core).part p)) = omega (arith, ap option_len h, total_one (λ core. option_len ((vector_at number A core).part p)) n i inside) in
        let is = len_some (now p) (omega (arith, one, ap option_len o.1, old.each p, of_this (answers_in p) acts.here, answered acts.here p, tells.gets p, ap option_len (is_turn.holds p))) in
        is.1 ∙ sym (tells.stays p is.0 is.1) ∙ sym (is_turn.holds p) ∙ o.1

    finished : ElementsStand given v number (ends_after turn.calls begins) (words_after turn.calls words) now
    finished = elements_kept given w v number me [] e ends words held (ends_after turn.calls begins) (words_after turn.calls words) now acts own (record {
      long = tells.tail;
      turn = λ i t. put_each (λ (i : ℕ) (b : Body). (vector_in (b.vectors.vectors number)).turn ≡ Some t → IsTurnOf (ends_after turn.calls begins) (words_after turn.calls words) now t) A me e.body i
          (λ q h. absurd (none_some t (ap (λ (x : Vector). x.turn) (sym next_is) ∙ h)))
          (λ ne h. absurd (omega (arith, other_none i ne, ap option_len h)));
      idle = λ none p. refl;
      left = omega (arith, done, ap (of_turn left_in) was_turn, ap (λ (x : Vector). of_turn left_in x.turn) next_is);
      puts = λ p. omega (arith, none_put acts.here p, ap (of_turn (puts_in p)) was_turn, ap (λ (x : Vector). of_turn (puts_in p) x.turn) next_is);
      gets = λ p. omega (arith, none_got acts.here p, ap (of_turn (gets_in p)) was_turn, ap (λ (x : Vector). of_turn (gets_in p) x.turn) next_is);
      each = λ p. omega (
        arith,
        answered acts.here p,
        tells.gets p,
        ap option_len (is_turn.holds p),
        ap (of_turn (answers_in p)) was_turn,
        ap (λ (x : Vector). of_turn (answers_in p) x.turn) next_is,
        ap (λ (x : Vector). option_len (x.part p)) next_is,
        ap (λ (o : Option Vector). option_len ((vector_in o).part p)) there,
      );
      parts = λ i p x h. let g = sym (part_same i p) ∙ h in ((old.parts i p x g).0, stays_held i p x g);
      sends = (tt, tt);
      order = λ to l. (
        none_late (is_put number) (is_get number) (went to e.sends) (went_none (is_get number) to e.sends refl),
        inr (went_none (is_put number) to e.sends refl),
      );
    }) (λ f. all_fit given w number (quiet acts.here) (turn_at number B) now) old

    pub finished_keeps : HasElements given v number (ends_after turn.calls turn.ends) (words_after turn.calls words)
    finished_keeps = subst (λ (x : Ends). HasElements given v number (ends_after turn.calls x) (words_after turn.calls words)) (sym stood) (record { held = now; stand = finished })

pub turns_reply : laws.TurnsReply
turns_reply given w number me ends words vector turn here own turns old there mine done = replied given w w number me ends words old.held old.stand turns own vector turn there mine done here
