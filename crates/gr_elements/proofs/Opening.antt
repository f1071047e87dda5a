-- Before its first step the machine has no words in vectors.
use Rattle.std.proofs.Common.{◌≡◌, ℕ, ◌==◌, ◌<◌, Bool, true, false, if◌then◌else◌, List, [], ◌++◌, sym, ◌∙◌, ap, subst, refl, arith, Option, Some, None}
use Rattle.std.specs.Option.{option_len}
use Rattle.gr_msg.specs.declared.message.Msg.{Msg}
use Rattle.gr_net.specs.Sums.{total}
use Rattle.gr_net.proofs.Spreads.{total_none}
use Rattle.gr_machine.specs.Machines.{Machine}
use Rattle.gr_machine.specs.States.{Vector, Turn, Body}
use Rattle.gr_machine.specs.States as states
use Rattle.gr_machine.specs.Openings.{empty_vector, opening_core, opening_body, first_tasks, first_scopes, no_tasks, no_scopes, unused}
use Rattle.gr_machine.specs.GlobalRuns.{opening_world}
use Rattle.gr_machine.specs.Nets.{world_in, messages_in}
use Rattle.gr_stands.specs.Worlds.{Given, machine_in, World, bodies, in_flight}
use Rattle.gr_lines_turns.specs.Tokens.{vector_at, turn_at}
use Rattle.gr_lines_turns.proofs.Opening as turns
use Rattle.gr_elements_orders.specs.Orders.{came, channel, InOrder}
use Rattle.gr_elements.specs.Weights.{elements, putting, getting, carrying, is_put, is_get, of_turn, left_in, puts_in, gets_in, answers_in}
use Rattle.gr_elements.specs.Elements.{ElementFits, in_turns}
use Rattle.gr_elements.specs.Laws as laws

no_some : {X : Type 0} (x : X) → None ≡ Some x → ⊥
no_some x e = cc

module _ (given : Given) (slot : ℕ) where
  abbrev machine : Machine
  machine = machine_in given

  abbrev world : World
  world = world_in (opening_world machine slot)

  at_core : (P : states.Core → Type 0) → ((body : Body) → P (unused body)) → (core : ℕ) → P (opening_core machine slot core)
  at_core P f core = by (core == 0)
    where
      by : (b : Bool) → P (if b then unused (opening_body machine 0 (first_tasks machine slot) first_scopes) else unused (opening_body machine core no_tasks no_scopes))
      by true = f (opening_body machine 0 (first_tasks machine slot) first_scopes)
      by false = f (opening_body machine core no_tasks no_scopes)

  no_turns : (number : ℕ) (weight : Turn → ℕ) → in_turns given number (bodies world) weight ≡ 0
  no_turns number weight = total_none (λ core. of_turn weight (vector_at number (bodies world) core).turn) given.setup.cores (λ i l. ap (λ (v : Vector). of_turn weight v.turn) (turns.empty_at given slot number i))

  no_parts : (number position : ℕ) → total given.setup.cores (λ core. option_len ((vector_at number (bodies world) core).part position)) ≡ 0
  no_parts number position = total_none (λ core. option_len ((vector_at number (bodies world) core).part position)) given.setup.cores (λ i l. ap (λ (v : Vector). option_len (v.part position)) (turns.empty_at given slot number i))

  inbox_empty : (core : ℕ) → (opening_core machine slot core).inbox ≡ []
  inbox_empty core = at_core (λ c. c.inbox ≡ []) (λ body. refl) core

  buffer_empty : (core dest : ℕ) → (opening_core machine slot core).buffers dest ≡ []
  buffer_empty core dest = at_core (λ c. c.buffers dest ≡ []) (λ body. refl) core

  channel_empty : (from to : ℕ) → channel messages_in world from to ≡ []
  channel_empty from to = ap (λ xs. came from xs ++ (world.cores from).buffers to) (inbox_empty to) ∙ buffer_empty from to

pub openings_have_elements : laws.OpeningsHaveElements
openings_have_elements given slot number = record {
  long = omega arith;
  turn = λ i t h. absurd (no_some t (sym (ap (λ (v : Vector). v.turn) (turns.empty_at given slot number i)) ∙ h));
  idle = λ none p. refl;
  left = omega (arith, turns.none_flies given slot (elements number), no_turns given slot number left_in);
  puts = λ p. omega (arith, turns.none_flies given slot (putting number p), no_turns given slot number (puts_in p));
  gets = λ p. omega (arith, turns.none_flies given slot (getting number p), no_turns given slot number (gets_in p));
  each = λ p. omega (arith, turns.none_flies given slot (carrying number p), no_turns given slot number (answers_in p), no_parts given slot number p);
  parts = λ i p x h. absurd (no_some x (sym (ap (λ (v : Vector). v.part p) (turns.empty_at given slot number i)) ∙ h));
  messages = turns.quiet given slot (ElementFits given number (turn_at number (bodies (world given slot))) (λ p. None));
  ordered = λ i d li ld. subst (InOrder (is_put number) (is_get number)) (sym (channel_empty given slot i d)) tt;
}

pub openings_have_own : laws.OpeningsHaveOwn
openings_have_own given slot i = (buffer_empty given slot i i, refl)
