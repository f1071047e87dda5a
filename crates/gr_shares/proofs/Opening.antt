-- Before its first step the machine has the part of work: there is no unit, no question and no loop.
use Rattle.std.proofs.Common.{◌≡◌, ℕ, ◌==◌, Bool, true, false, if◌then◌else◌, List, [], inl, inr, sym, ◌∙◌, ap, refl, arith, Option, Some, None, codes}
use Rattle.std.specs.Option.{option_and_then}
use Rattle.std.specs.FinMap as fin
use Rattle.gr_lang.specs.declared.action.TaskId.{TaskId}
use Rattle.gr_lang.specs.States.{Task, Scope, id_cmp, main_id, opening_state, child}
use Rattle.gr_lang.specs.Openings.{target_of}
use Rattle.gr_msg.specs.declared.message.Msg.{Msg}
use Rattle.gr_net.specs.Sums.{Each}
use Rattle.gr_net.specs.Flights.{Everywhere}
use Rattle.gr_net.proofs.Spreads.{total_none}
use Rattle.gr_net.proofs.Flights.{flight_none}
use Rattle.gr_machine.specs.Machines.{Machine}
use Rattle.gr_machine.specs.States.{Body}
use Rattle.gr_machine.specs.States as states
use Rattle.gr_machine.specs.Openings.{opening_core, opening_body, first_tasks, first_scopes, no_tasks, no_scopes, unused}
use Rattle.gr_machine.specs.GlobalRuns.{opening_world}
use Rattle.gr_machine.specs.Nets.{world_in, messages_in}
use Rattle.gr_stands.specs.Worlds.{Given, machine_in, World, bodies, in_flight}
use Rattle.gr_stands.specs.Censuses.{body_census, carried, census}
use Rattle.gr_stands.specs.Calls.{times}
use Rattle.gr_stands.proofs.Places.{cases_id, get_same, get_other}
use Rattle.gr_stands_events.specs.Laws.{WaitersAreCores}
use Rattle.gr_scopes.specs.Trees.{Names}
use Rattle.gr_shares.specs.Loops.{Loop, Loops, waits_at, left_at, loops_of}
use Rattle.gr_shares.specs.Shares.{covers, units_only, is_question, one_if, UnitShares, MessageShares, KeepsNothing, SharesStand}
use Rattle.gr_shares.specs.Laws as laws
use Rattle.gr_shares.proofs.Weights.{only_units}

none_some : {X : Type 0} (a : X) → None ≡ Some a → ⊥
none_some a e = cc

module _ (given : Given) (names : Names) (slot : ℕ) where
  abbrev machine : Machine
  machine = machine_in given

  abbrev world : World
  world = world_in (opening_world machine slot)

  abbrev loops : Loops
  loops = loops_of (opening_state given.program given.setup.steps)

  abbrev zeroth : Body
  zeroth = opening_body machine 0 (first_tasks machine slot) first_scopes

  abbrev another : ℕ → Body
  another c = opening_body machine c no_tasks no_scopes

  at : (P : ℕ → states.Core → Type 0) → ((c : ℕ) → P c (unused zeroth)) → ((c : ℕ) → P c (unused (another c))) → (c : ℕ) → P c (opening_core machine slot c)
  at P here there c = choose (c == 0)
    where
      choose : (b : Bool) → P c (if b then unused zeroth else unused (another c))
      choose true = here c
      choose false = there c

  -- ---- nothing is in flight

  quiet : (P : ℕ → ℕ → Msg → Type 0) → Everywhere messages_in P given.setup.cores world
  quiet P = record {
    inboxes = λ c l. at (λ c core. Each (λ letter. P letter.from c letter.message) core.inbox) (λ c. tt) (λ c. tt) c;
    buffers = λ c d l k. at (λ c core. Each (P c d) (core.buffers d)) (λ c. tt) (λ c. tt) c;
    transits = λ c d l k. tt;
  }

  none_flies : (h : ℕ → ℕ → Msg → ℕ) → in_flight h given.setup.cores world ≡ 0
  none_flies h = flight_none messages_in h given.setup.cores world (quiet (λ from to m. h from to m ≡ 0))

  -- ---- no task waits at a loop

  no_loop : (owner : TaskId) → loops owner ≡ None
  no_loop owner = elim (cases_id owner main_id) [
    | inl e ↦ ap loops e ∙ ap (option_and_then (waits_at scopes)) (get_same fin.empty main_id main)
    | inr e ↦ ap (option_and_then (waits_at scopes)) (get_other fin.empty main_id owner main e ∙ fin.get-empty id_cmp owner)
  ]
    where
      scopes : List Scope
      scopes = (opening_state given.program given.setup.steps).scopes

      main : Task
      main = child given.program given.setup.steps 0 (target_of given.program (codes "main")) []

  no_chunk : (owner : TaskId) (index : ℕ) → census (units_only (covers owner index)) given world ≡ 0
  unfolding census
  no_chunk owner index = omega (
    arith,
    none_flies (carried (covers owner index)),
    total_none (λ c. body_census (units_only (covers owner index)) given.slots (bodies world c)) given.setup.cores
        (λ c l. at (λ c core. body_census (units_only (covers owner index)) given.slots core.body ≡ 0)
        (λ c. only_units (covers owner index) given.slots zeroth) (λ c. only_units (covers owner index) given.slots (another c)) c),
  )

  shares_stand : SharesStand given names world loops
  shares_stand = record {
    hold = record {
      chunks = λ owner index. no_chunk owner index ∙ sym (ap (λ (o : Option Loop). left_at o index) (no_loop owner));
      questions = λ asker victim. omega (
        arith,
        none_flies (is_question asker victim),
        at (λ c core. times asker core.body.steals.waiting ≡ 0) (λ c. refl) (λ c. refl) victim,
        at (λ c core. one_if (core.body.steals.asked victim) ≡ 0) (λ c. refl) (λ c. refl) asker,
      );
      private = λ c l. at (λ c core. Each (UnitShares given names loops) core.body.work.private) (λ c. tt) (λ c. tt) c;
      public = λ c l. at (λ c core. Each (UnitShares given names loops) core.body.work.public) (λ c. tt) (λ c. tt) c;
      messages = quiet (MessageShares given names loops);
      waiting = λ c. at (λ c core. WaitersAreCores given core.body) (λ c. tt) (λ c. tt) c;
      ranges = record {
        apart = λ one other a b h k e. absurd (none_some a (sym (no_loop one) ∙ h));
        inside = λ owner loop h. absurd (none_some loop (sym (no_loop owner) ∙ h));
      };
    };
    gives = λ c. at (λ c core. KeepsNothing core.body) (λ c. inl refl) (λ c. inl refl) c;
  }

pub openings_have_shares : laws.OpeningsHaveShares
openings_have_shares given names slot = shares_stand given names slot
