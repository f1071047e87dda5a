-- Before its first step the machine has the part of batches.
use Rattle.std.proofs.Common.{◌≡◌, ℕ, ◌==◌, Bool, true, false, if◌then◌else◌, sym, ◌∙◌, ap, refl, Option, Some, None}
use Rattle.gr_msg.specs.declared.message.Msg.{Msg}
use Rattle.gr_net.specs.Sums.{Each}
use Rattle.gr_net.specs.Flights.{Everywhere}
use Rattle.gr_net.proofs.Spreads.{put_each}
use Rattle.gr_net.proofs.Flights.{flight_none}
use Rattle.gr_machine.specs.Machines.{Machine}
use Rattle.gr_machine.specs.States.{Suspended, Core}
use Rattle.gr_machine.specs.Openings.{opening_core, opening_body, first_tasks, first_scopes, no_tasks, no_scopes, unused, main_task}
use Rattle.gr_machine.specs.GlobalRuns.{opening_world}
use Rattle.gr_machine.specs.Nets.{world_in, messages_in}
use Rattle.gr_stands.specs.Worlds.{machine_in, World, bodies}
use Rattle.gr_stands.specs.Calls.{of_slot}
use Rattle.gr_batches.specs.Batches.{is_closing, is_flying, CoreStands, MessageStands, is_mail, is_under_way}
use Rattle.gr_batches.specs.Laws as laws

none_some : {X : Type 0} (x : X) → None ≡ Some x → ⊥
none_some x e = cc

module _ (machine : Machine) (slot : ℕ) where
  abbrev first : Core
  first = unused (opening_body machine 0 (first_tasks machine slot) first_scopes)

  abbrev another : ℕ → Core
  another c = unused (opening_body machine c no_tasks no_scopes)

  -- What holds of core 0 and of the others holds of each.
  by_core : (P : Core → Type 0) → P first → ((c : ℕ) → P (another c)) → (c : ℕ) → P (opening_core machine slot c)
  by_core P here there c = choose (c == 0)
    where
      choose : (b : Bool) → P (if b then first else another c)
      choose true = here
      choose false = there c

  main_waits_not : (weight : Option Suspended → ℕ) → weight None ≡ 0 → weight (Some (main_task machine)) ≡ 0 → (k : ℕ) → 0 ≡ weight (first.body.tasks.slots k)
  main_waits_not weight none main k = put_each (λ (i : ℕ) (o : Option Suspended). 0 ≡ weight o) (λ other. None) slot (Some (main_task machine)) k (λ q. sym main) (λ q. sym none)

  core_stands : (c : ℕ) → CoreStands machine (opening_core machine slot c).body
  core_stands = by_core (λ core. CoreStands machine core.body)
      (record {
        combiners = λ object none. record { held = tt; each = λ k. main_waits_not (of_slot (is_closing object)) refl refl k };
        callers = λ batch calls h. absurd (none_some calls h);
        each = λ batch k. main_waits_not (of_slot (is_flying batch)) refl refl k;
        fresh = λ batch l. refl;
      })
      (λ c. record {
        combiners = λ object none. record { held = tt; each = λ k. refl };
        callers = λ batch calls h. absurd (none_some calls h);
        each = λ batch k. refl;
        fresh = λ batch l. refl;
      })

  nothing : (n : ℕ) (P : ℕ → ℕ → Msg → Type 0) → Everywhere messages_in P n (world_in (opening_world machine slot))
  nothing n P = record {
    inboxes = λ c l. by_core (λ core. Each (λ letter. P letter.from c letter.message) core.inbox) tt (λ d. tt) c;
    buffers = λ c d l k. by_core (λ core. Each (P c d) (core.buffers d)) tt (λ i. tt) c;
    transits = λ c d l k. tt;
  }

  none_flies : (batch c : ℕ) → (opening_core machine slot c).body.batches.flying batch ≡ None
  none_flies batch = by_core (λ core. core.body.batches.flying batch ≡ None) refl (λ c. refl)

pub openings_have_batches : laws.OpeningsHaveBatches
openings_have_batches given slot S =
    let machine = machine_in given in
    let n = given.setup.cores in
    let world : World = world_in (opening_world machine slot) in
    record {
      cores = core_stands machine slot;
      messages = nothing machine slot n (MessageStands given (bodies world) S);
      mail = λ c b. flight_none messages_in (is_mail c b) n world (nothing machine slot n (λ from to m. is_mail c b from to m ≡ 0)) ∙ sym (under c b);
      noted = λ c b calls h. absurd (none_some calls (sym (none_flies machine slot b c) ∙ h));
    }
  where
    under : (c b : ℕ) → is_under_way ((opening_core (machine_in given) slot c).body.batches.flying b) ≡ 0
    under c b = ap is_under_way (none_flies (machine_in given) slot b c)
