-- Before its first step no turn of the machine is out.
use Rattle.std.proofs.Common.{◌≡◌, ℕ, ◌==◌, ◌&&◌, Bool, true, false, if◌then◌else◌, length, sym, ◌∙◌, ap, refl, arith, Some, None}
use Rattle.std.specs.Option.{option_len}
use Rattle.gr_msg.specs.declared.message.Msg.{Msg}
use Rattle.gr_vector.specs.Turns.{Turns}
use Rattle.gr_vector.specs.Laws.{no_turns}
use Rattle.gr_net.specs.Sums.{Each}
use Rattle.gr_net.specs.Flights.{Everywhere}
use Rattle.gr_net.proofs.Flights.{flight_none}
use Rattle.gr_machine.specs.Machines.{Machine, thing, numbered_home}
use Rattle.gr_machine.specs.States.{Tasks, Scopes, Vector, Turn, Body, Letter}
use Rattle.gr_machine.specs.States as states
use Rattle.gr_machine.specs.Openings.{is_vector, empty_vector, opening_core, opening_body, first_tasks, first_scopes, no_tasks, no_scopes, unused}
use Rattle.gr_machine.specs.GlobalRuns.{opening_world}
use Rattle.gr_machine.specs.Nets.{world_in, messages_in}
use Rattle.gr_stands.specs.Worlds.{Given, machine_in, World, Weight, bodies, in_flight}
use Rattle.gr_stands.specs.Calls.{times}
use Rattle.gr_lines.specs.Lines.{vector_in}
use Rattle.gr_lines_turns.specs.Tokens.{turns_in, is_first, asks, grants, dones, TokenStands}
use Rattle.gr_lines_turns.specs.Laws as laws

none_some : {X : Type 0} (x : X) → None ≡ Some x → ⊥
none_some x e = cc

module _ (given : Given) (slot : ℕ) where
  abbrev machine : Machine
  machine = machine_in given

  abbrev world : World
  world = world_in (opening_world machine slot)

  -- What holds of each body before the first step.
  at_body : (P : Body → Type 0) → ((core : ℕ) (tasks : Tasks) (scopes : Scopes) → P (opening_body machine core tasks scopes)) → (core : ℕ) → P (bodies world core)
  at_body P f core = by (core == 0)
    where
      by : (b : Bool) → P (if b then unused (opening_body machine 0 (first_tasks machine slot) first_scopes) else unused (opening_body machine core no_tasks no_scopes)).body
      by true = f 0 (first_tasks machine slot) first_scopes
      by false = f core no_tasks no_scopes

  pub empty_at : (number core : ℕ) → vector_in ((bodies world core).vectors.vectors number) ≡ empty_vector
  empty_at number core = at_body (λ b. vector_in (b.vectors.vectors number) ≡ empty_vector) (λ c tasks scopes. by (is_vector (thing machine number))) core
    where
      by : (b : Bool) → vector_in (if b then Some empty_vector else None) ≡ empty_vector
      by true = refl
      by false = refl

  pub rests_at : (number core : ℕ) → turns_in ((bodies world core).vectors.masters number) ≡ no_turns
  rests_at number core = at_body (λ b. turns_in (b.vectors.masters number) ≡ no_turns) (λ c tasks scopes. by (is_vector (thing machine number) && numbered_home machine number == c)) core
    where
      by : (b : Bool) → turns_in (if b then Some no_turns else None) ≡ no_turns
      by true = refl
      by false = refl

  at_core : (P : states.Core → Type 0) → ((body : Body) → P (unused body)) → (core : ℕ) → P (opening_core machine slot core)
  at_core P f core = by (core == 0)
    where
      by : (b : Bool) → P (if b then unused (opening_body machine 0 (first_tasks machine slot) first_scopes) else unused (opening_body machine core no_tasks no_scopes))
      by true = f (opening_body machine 0 (first_tasks machine slot) first_scopes)
      by false = f (opening_body machine core no_tasks no_scopes)

  -- No message is in flight.
  pub quiet : (P : ℕ → ℕ → Msg → Type 0) → Everywhere messages_in P given.setup.cores world
  quiet P = record {
    inboxes = λ c l. at_core (λ core. Each (λ letter. P letter.from c letter.message) core.inbox) (λ body. tt) c;
    buffers = λ c d l k. at_core (λ core. Each (P c d) (core.buffers d)) (λ body. tt) c;
    transits = λ c d l k. tt;
  }

  pub none_flies : (h : Weight) → in_flight h given.setup.cores world ≡ 0
  none_flies h = flight_none messages_in h given.setup.cores world (quiet (λ from to m. h from to m ≡ 0))

pub openings_have_turns : laws.OpeningsHaveTurns
openings_have_turns given slot number is =
    let machine = machine_in given in
    let rests = rests_at given slot number (numbered_home machine number) in
    record {
      order = omega arith;
      token = λ i. omega (arith, ap (λ (v : Vector). option_len v.turn) (empty_at given slot number i), none_flies given slot (grants number i), none_flies given slot (dones number i), ap (λ (t : Turns). is_first i t.cores) rests);
      asked = λ i. omega (arith, ap (λ (v : Vector). length v.groups) (empty_at given slot number i), none_flies given slot (asks number i), none_flies given slot (dones number i), ap (λ (t : Turns). times i t.cores) rests);
      rests = λ h. (ap (λ (t : Turns). t.head) rests, ap (λ (t : Turns). t.tail) rests);
      turn = λ i t h. absurd (none_some t (sym (ap (λ (v : Vector). v.turn) (empty_at given slot number i)) ∙ h));
      messages = quiet given slot (TokenStands machine number (record { head = 0; tail = 0 }));
    }
