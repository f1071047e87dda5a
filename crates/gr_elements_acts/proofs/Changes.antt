-- A message of an element changes one vector at its core, and what is held by position stays.
use Rattle.std.proofs.Common.{◌≡◌, ◌≢◌, ℕ, zero, suc, ◌+◌, ◌<◌, List, [], ◌∷◌, inl, inr, sym, ◌∙◌, ap, subst, refl, arith, Option, Some, None}
use mathlib.Core.Path.{fun_ext}
use Rattle.std.specs.Option.{option_len}
use Rattle.gr_view.specs.Places.{put}
use Rattle.gr_msg.specs.declared.message.Msg.{Msg}
use Rattle.gr_vector.specs.declared.ends.Ends.{Ends}
use Rattle.gr_net.specs.Sums.{weigh, Each}
use Rattle.gr_net.specs.Flights.{Everywhere}
use Rattle.gr_net.proofs.Spreads.{put_each, put_field}
use Rattle.gr_machine.specs.Machines.{home}
use Rattle.gr_machine.specs.States.{Letter, Turn, Vector, Body}
use Rattle.gr_machine.specs.Outcomes.{Send, Outcome}
use Rattle.gr_machine.specs.Nets.{messages_in}
use Rattle.gr_stands.specs.Worlds.{Given, machine_in, World, bodies, of_letters, of_sends, Acts}
use Rattle.gr_lines.specs.Lines.{vector_in}
use Rattle.gr_lines_turns.specs.Tokens.{vector_at, turn_at}
use Rattle.gr_elements_orders.specs.Orders.{went, channel, InOrder, OwnAreIn}
use Rattle.gr_elements_orders.proofs.Lists.{none_late, went_none}
use Rattle.gr_elements_plans.specs.Positions.{standing}
use Rattle.gr_elements.specs.Weights.{elements, putting, getting, carrying, is_put, is_get, of_turn, left_in, puts_in, gets_in, answers_in}
use Rattle.gr_elements.specs.Elements.{ElementFits, IsTurnOf, ElementsStand}
use Rattle.gr_elements.proofs.Kept.{elements_kept}

-- What is made of a vector here: its turn and its words change as the messages do.
pub record Changes (given : Given) (number me : ℕ) (got : List Letter) (sends : List Send) (ends : Ends) (words : List ℕ) (held : ℕ → Option ℕ) (vector next : Vector) : Type 0 where
  pub same : option_len next.turn ≡ option_len vector.turn
  pub turn : (turn : Turn) → next.turn ≡ Some turn → IsTurnOf ends words held turn
  pub left : of_sends (elements number) me sends + of_turn left_in vector.turn ≡ of_letters (elements number) me got + of_turn left_in next.turn
  pub puts : (position : ℕ) → of_sends (putting number position) me sends + of_turn (puts_in position) vector.turn ≡ of_letters (putting number position) me got + of_turn (puts_in position) next.turn
  pub gets : (position : ℕ) → of_sends (getting number position) me sends + of_turn (gets_in position) vector.turn ≡ of_letters (getting number position) me got + of_turn (gets_in position) next.turn
  pub each : (position : ℕ) → option_len (next.part position) + of_sends (carrying number position) me sends + of_turn (answers_in position) next.turn
      ≡ option_len (vector.part position) + of_letters (carrying number position) me got + of_turn (answers_in position) vector.turn
  pub parts : (position word : ℕ) → next.part position ≡ Some word → (home (machine_in given) position ≡ me) × (held position ≡ Some word)
  pub no_puts : weigh (λ (send : Send). is_put number send.message) sends ≡ 0
  pub no_gets : weigh (λ (send : Send). is_get number send.message) sends ≡ 0

module _ (given : Given) (w v : World) (number me : ℕ) (got : List Letter) (e : Outcome) (ends : Ends) (words : List ℕ) (held : ℕ → Option ℕ) (vector next : Vector)
    (there : (bodies w me).vectors.vectors number ≡ Some vector) (made : e.body.vectors.vectors number ≡ Some next)
    (c : Changes given number me got e.sends ends words held vector next) (old : ElementsStand given w number ends words held) where
  abbrev A : ℕ → Body
  A = bodies w

  abbrev B : ℕ → Body
  B = put A me e.body

  was : vector_at number A me ≡ vector
  was = ap vector_in there

  now : vector_in (e.body.vectors.vectors number) ≡ next
  now = ap vector_in made

  turns_same : turn_at number B ≡ turn_at number A
  turns_same = fun_ext (λ i. put_field (λ (b : Body). option_len (vector_in (b.vectors.vectors number)).turn) A me e.body
      (ap (λ (x : Vector). option_len x.turn) now ∙ c.same ∙ sym (ap (λ (x : Vector). option_len x.turn) was)) i)

  pub changed : Acts given.setup.cores w v me got e → OwnAreIn messages_in w
      → Each (λ (send : Send). ElementFits given number (turn_at number A) held me send.to send.message) e.sends → ElementsStand given v number ends words held
  changed acts own fit = elements_kept given w v number me got e ends words held ends words held acts own (record {
    long = old.long;
    turn = λ i t. put_each (λ (i : ℕ) (b : Body). (vector_in (b.vectors.vectors number)).turn ≡ Some t → IsTurnOf ends words held t) A me e.body i
        (λ q h. c.turn t (ap (λ (x : Vector). x.turn) (sym now) ∙ h)) (λ q. old.turn i t);
    idle = λ none. old.idle (λ i. ap (λ (f : ℕ → ℕ). f i) (sym turns_same) ∙ none i);
    left = omega (arith, c.left, ap (λ (x : Vector). of_turn left_in x.turn) was, ap (λ (x : Vector). of_turn left_in x.turn) now);
    puts = λ p. omega (arith, c.puts p, ap (λ (x : Vector). of_turn (puts_in p) x.turn) was, ap (λ (x : Vector). of_turn (puts_in p) x.turn) now);
    gets = λ p. omega (arith, c.gets p, ap (λ (x : Vector). of_turn (gets_in p) x.turn) was, ap (λ (x : Vector). of_turn (gets_in p) x.turn) now);
    each = λ p. omega (
      arith,
      c.each p,
      ap (λ (x : Vector). of_turn (answers_in p) x.turn) was,
      ap (λ (x : Vector). of_turn (answers_in p) x.turn) now,
      ap (λ (x : Vector). option_len (x.part p)) was,
      ap (λ (x : Vector). option_len (x.part p)) now,
    );
    parts = λ i p x. put_each (λ (i : ℕ) (b : Body). (vector_in (b.vectors.vectors number)).part p ≡ Some x → (home (machine_in given) p ≡ i) × (held p ≡ Some x)) A me e.body i
        (λ q h. let r = c.parts p x (ap (λ (y : Vector). y.part p) (sym now) ∙ h) in (r.0 ∙ sym q, r.1)) (λ q. old.parts i p x);
    sends = subst (λ (f : ℕ → ℕ). Each (λ (send : Send). ElementFits given number f held me send.to send.message) e.sends) (sym turns_same) fit;
    order = λ d ld. (none_late (is_put number) (is_get number) (went d e.sends) (went_none (is_get number) d e.sends c.no_gets), inr (went_none (is_put number) d e.sends c.no_puts));
  }) (subst (λ (f : ℕ → ℕ). Everywhere messages_in (ElementFits given number f held) given.setup.cores w) (sym turns_same)) old
