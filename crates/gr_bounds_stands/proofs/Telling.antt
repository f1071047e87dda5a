-- What bounds tell: numbers below the number of steps are low enough.
use Rattle.std.proofs.Common.{◌≡◌, ◌<◌, ◌≤◌, ℕ, ◌+◌, ◌*◌, ◌^◌, List, [], ◌∷◌, length, refl, ap, arith, inl, inr}
use Rattle.std.specs.Prelude.{Bool, true, ◌&&◌, nat_lt, unwrap_or, Option, Some, None, is_some}
use Rattle.std.proofs.lemmas.Bool.Decides.{nat_tests}
use Rattle.gr_msg.specs.declared.message.ScopeId.{ScopeId}
use Rattle.gr_msg.specs.declared.message.Msg.{Msg}
use Rattle.gr_msg.specs.declared.message.Msg.TheVariants as msg
use Rattle.gr_event.specs.Counts.{active_count}
use Rattle.gr_event.specs.declared.counts.LocalCount.{LocalCount}
use Rattle.gr_event.specs.declared.counts.LocalCount.TheVariants as count
use Rattle.gr_event.specs.declared.masters.Master.{Master}
use Rattle.gr_net.specs.Sums.{weigh, Each}
use Rattle.gr_net.specs.Flights.{core_flight, ring_flight, flight, Everywhere}
use Rattle.gr_net.proofs.Spreads.{total_one, Each-map}
use Rattle.gr_net.proofs.Flights.{every_with}
use Rattle.gr_machine.specs.States.{Letter, Scopes}
use Rattle.gr_machine.specs.Nets.{messages_in}
use Rattle.gr_machine.specs.Events.{Packet}
use Rattle.gr_machine.specs.Openings.{no_scopes}
use Rattle.gr_machine.specs.ScopeServes.{can_enrol_one}
use Rattle.gr_clocks.proofs.Machine.{runs_short}
use Rattle.gr_stands.specs.Worlds.{Given, machine_in, World, Weight, bodies, in_flight}
use Rattle.gr_scopes.specs.Sums.{counted, active_at}
use Rattle.gr_bounds.proofs.Shares.{cases_below}
use Rattle.gr_bounds.proofs.Measures.{share_few}
use Rattle.gr_bounds_numbers.specs.Bounds.{weightless, TasksAtMost, BatchesAtMost, ScopesAtMost, ends_told, ActiveAtMost, enrols_asked}
use Rattle.gr_bounds_counts.specs.Counts.{CountAtMost}
use Rattle.gr_bounds_stands.specs.Standing.{BoundsStand}
use Rattle.gr_bounds_stands.specs.Telling.{EndsFit, BoundsTell}
use Rattle.gr_bounds_stands.specs.Laws as laws

lower : (a b : ℕ) → a < b → nat_lt a b ≡ true
lower a b l = grind (arith, nat_tests)

-- ---- a message weighs at most what all do

each_most : {X : Type 0} (h : X → ℕ) (most : ℕ) (xs : List X) → weigh h xs ≤ most → Each (λ x. h x ≤ most) xs
each_most h most [] l = tt
each_most h most (x ∷ xs) l = (omega (arith, l), each_most h most xs (omega (arith, l)))

module _ (h : Weight) (n most : ℕ) (w : World) where
  pub every_most : in_flight h n w ≤ most → Everywhere messages_in (λ from to m. h from to m ≤ most) n w
  unfolding flight
  every_most few = record {
    inboxes = λ me l. each_most (λ (letter : Letter). h letter.from me letter.message) most (w.cores me).inbox (omega (arith, few, total_one (λ i. core_flight h n i (w.cores i)) n me l));
    buffers = λ me dest l m. each_most (h me dest) most ((w.cores me).buffers dest)
        (omega (arith, few, total_one (λ i. core_flight h n i (w.cores i)) n me l, total_one (λ d. weigh (h me d) ((w.cores me).buffers d)) n dest m));
    transits = λ me dest l m. Each-map (λ (packet : Packet). weigh (h me dest) (messages_in packet) ≤ most) (λ (packet : Packet). Each (λ x. h me dest x ≤ most) (messages_in packet))
        (λ packet k. each_most (h me dest) most (messages_in packet) k) (w.transit me dest)
        (each_most (λ (packet : Packet). weigh (h me dest) (messages_in packet)) most (w.transit me dest)
        (omega (arith, few, total_one (λ i. ring_flight messages_in h n i (w.transit i)) n me l, total_one (λ d. weigh (λ (packet : Packet). weigh (h me d) (messages_in packet)) (w.transit me d)) n dest m)));
  }

-- ---- counts, and active cores

-- At a core that there is, or beyond those.
module _ (given : Given) (world : World) (steps : ℕ) (some : 0 < given.setup.cores) (few : steps + 1 < 2 ^ 63) (old : BoundsStand given world steps) where
  none_past : (core : ℕ) → given.setup.cores ≤ core → (bodies world core).scopes ≡ no_scopes
  none_past core l = old.unused core (omega (arith, some, l)) l

  size_most : (core : ℕ) (scope : ScopeId) → counted ((bodies world core).scopes.counts scope) < 2 ^ 127
  size_most core scope = elim (cases_below core given.setup.cores) [
    | inl q ↦ omega (arith, few, (old.counts scope).each core q, share_few (CountAtMost scope (2 ^ 64)) weightless given.setup.cores (steps + 1) core world q (old.counts scope))
    | inr q ↦ omega (arith, ap (λ (s : Scopes). counted (s.counts scope)) (none_past core q))
  ]

  active_most : (core : ℕ) (scope : ScopeId) → active_at ((bodies world core).scopes.masters scope) < 2 ^ 63
  active_most core scope = elim (cases_below core given.setup.cores) [
    | inl q ↦ omega (arith, few, (old.active scope).each core q, share_few (ActiveAtMost scope) (enrols_asked scope) given.setup.cores (steps + 1) core world q (old.active scope))
    | inr q ↦ omega (arith, ap (λ (s : Scopes). active_at (s.masters scope)) (none_past core q))
  ]

  count_low : (local : Option LocalCount) → counted local < 2 ^ 127 → nat_lt (unwrap_or (active_count local) 0) (2 ^ 127) ≡ true
  count_low None l = lower 0 (2 ^ 127) l
  count_low (Some (count.Waits slots)) l = lower 0 (2 ^ 127) l
  count_low (Some (count.Active tasks)) l = lower tasks (2 ^ 127) l

  ends_fit : (from to : ℕ) (message : Msg) → ends_told from to message ≤ steps + 1 → EndsFit message
  ends_fit from to (msg.Complete scope tasks) l = omega (arith, few, l)
  ends_fit from to _ l = tt

  ends_few : in_flight ends_told given.setup.cores world ≤ steps + 1
  ends_few = omega (arith, old.ends.all)

  told : BoundsTell given world
  told = record {
    counts = λ core scope. count_low ((bodies world core).scopes.counts scope) (size_most core scope);
    active = λ core scope master e. lower master.active (2 ^ 63) (omega (arith, active_most core scope, ap active_at e));
    ends = every_with messages_in (λ from to m. ends_told from to m ≤ steps + 1) (λ from to m. ends_told from to m ≤ steps + 1) (λ from to m. EndsFit m) given.setup.cores world
        (λ from to m l k. ends_fit from to m l)
        (every_most ends_told given.setup.cores (steps + 1) world ends_few) (every_most ends_told given.setup.cores (steps + 1) world ends_few);
    tasks = λ core l. omega (arith, few, old.tasks.each core l [] tt, share_few TasksAtMost weightless given.setup.cores (steps + 1) core world l old.tasks);
    batches = λ core l. omega (arith, few, old.batches.each core l 0, share_few BatchesAtMost weightless given.setup.cores (steps + 1) core world l old.batches);
    scopes = λ core l. omega (arith, few, old.scopes.each core l, share_few ScopesAtMost weightless given.setup.cores (steps + 1) core world l old.scopes);
  }

pub bounds_told : laws.BoundsAreTold
bounds_told given world steps some few old = told given world steps some few old

pub few_steps : laws.RunsHaveFewSteps
few_steps given slot steps end few run = below (length steps) (given.setup.cores * given.setup.events) (runs_short (machine_in given) slot steps end run) few
  where
    below : (a b : ℕ) → a ≤ b → b + 1 < 2 ^ 63 → a + 1 < 2 ^ 63
    below a b l m = omega (arith, l, m)

both : (a b : Bool) → a ≡ true → b ≡ true → (a && b) ≡ true
both a b e f = cc

pub spawns_count : laws.SpawnsMayCount
spawns_count given world me scope tell l = both _ _ (lower scope.core given.setup.cores l) (tell.counts me scope)

pub cores_enrol : laws.CoresMayEnrol
cores_enrol given world me scope tell there = at ((bodies world me).scopes.masters scope) refl there
  where
    at : (master : Option Master) → (bodies world me).scopes.masters scope ≡ master → is_some master ≡ true → can_enrol_one master ≡ true
    at None e there = absurd (cc)
    at (Some master) e there = tell.active me scope master e
