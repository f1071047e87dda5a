-- After so many steps of a machine whose clocks tick: clocks, stamps, and the steps of each core.
use Rattle.std.proofs.Common.{◌≡◌, ℕ, zero, suc, ◌+◌, ◌*◌, ◌<◌, ◌≤◌, max, List, [], ◌∷◌, ◌++◌, length, Option, Some, None, sym, ◌∙◌, ap, subst, refl, arith}
use Rattle.std.specs.Option.{option_map, option_and_then}
use Rattle.gr_view.specs.Places.{put}
use Rattle.gr_merge.specs.Machines.{Kind, inner, takes, ships, Went, Machine, inner_step, take_step, ship_step, quiet, shipping}
use Rattle.gr_merge.specs.GlobalRuns.{World, put_pair, world_with, goes_at, fold_global, opening}
use Rattle.gr_merge.proofs.Queues.{then_map, then_first}
use Rattle.gr_net.specs.Sums.{total, Each}
use Rattle.gr_net.proofs.Spreads.{put_each, total_put, total_none, Each-append, Each-map}
use Rattle.gr_clocks.specs.Ticking.{IsTicking}
use Rattle.gr_clocks.specs.Laws.{IsRun}

module _ {S E P M : Type 0} (machine : Machine S E P M) (time : S → ℕ) (cores limit : ℕ) (ticking : IsTicking machine time cores limit) where
  abbrev Stamped : ℕ → P → Type 0
  Stamped k packet = (machine.stamp packet ≤ k) × (machine.stamp packet ≤ limit)

  -- After k steps, of which `made` are each core's.
  pub record Told (k : ℕ) (world : World S P M) (made : ℕ → ℕ) : Type 0 where
    pub clock : (core : ℕ) → time (world.states core) ≤ k
    pub bound : (core : ℕ) → time (world.states core) ≤ limit + 1
    pub stamps : (origin dest : ℕ) → Each (Stamped k) (world.transit origin dest)
    pub made_clock : (core : ℕ) → made core ≤ time (world.states core)
    pub made_limit : (core : ℕ) → made core ≤ limit
    pub all : total cores made ≡ k

  later : (k : ℕ) (packets : List P) → Each (Stamped k) packets → Each (Stamped (suc k)) packets
  later k packets e = Each-map (Stamped k) (Stamped (suc k)) (λ packet p. (omega (arith, p.0), p.1)) packets e

  -- One list of packets is another one.
  put_lists : (k : ℕ) (lists : ℕ → ℕ → List P) (origin dest : ℕ) (packets : List P) → ((i j : ℕ) → Each (Stamped k) (lists i j)) → Each (Stamped (suc k)) packets
      → (i j : ℕ) → Each (Stamped (suc k)) (put_pair lists origin dest packets i j)
  put_lists k lists origin dest packets old new i j = put_each (λ (i : ℕ) (row : ℕ → List P). Each (Stamped (suc k)) (row j)) lists origin (put (lists origin) dest packets) i
      (λ q. put_each (λ (j : ℕ) (xs : List P). Each (Stamped (suc k)) xs) (lists origin) dest packets j (λ p. new) (λ p. later k (lists origin j) (old origin j)))
      (λ q. later k (lists i j) (old i j))

  -- A core makes a step.
  made_one : (k : ℕ) (world : World S P M) (made : ℕ → ℕ) (core : ℕ) (went : Went S P M) (transit : ℕ → ℕ → List P)
      → core < cores → time (world.states core) < limit → time (world.states core) < time went.state → time went.state ≤ suc k → time went.state ≤ limit + 1
      → ((i j : ℕ) → Each (Stamped (suc k)) (transit i j)) → Told k world made
      → Told (suc k) (world_with world core transit went) (put made core (suc (made core)))
  made_one k world made core went transit here below more late high each old = record {
    clock = λ i. put_each (λ (i : ℕ) (y : S). time y ≤ suc k) world.states core went.state i (λ q. late) (λ q. omega (arith, old.clock i));
    bound = λ i. put_each (λ (i : ℕ) (y : S). time y ≤ limit + 1) world.states core went.state i (λ q. high) (λ q. old.bound i);
    stamps = each;
    made_clock = λ i. put_each (λ (i : ℕ) (y : ℕ). y ≤ time (put world.states core went.state i)) made core (suc (made core)) i
        (λ q. put_each (λ (i : ℕ) (y : S). suc (made core) ≤ time y) world.states core went.state i (λ p. omega (arith, old.made_clock core, more)) (λ p. absurd (p q)))
        (λ q. put_each (λ (i : ℕ) (y : S). made i ≤ time y) world.states core went.state i (λ p. absurd (q p)) (λ p. old.made_clock i));
    made_limit = λ i. put_each (λ (i : ℕ) (y : ℕ). y ≤ limit) made core (suc (made core)) i (λ q. omega (arith, old.made_clock core, below)) (λ q. old.made_limit i);
    all = omega (arith, total_put (λ (i : ℕ) (y : ℕ). y) made core (suc (made core)) cores here, old.all);
  }

  quiet_is : (o : Option (Went S P M)) (went : Went S P M) → quiet o ≡ Some went → o ≡ Some went
  quiet_is None went h = absurd (cc)
  quiet_is (Some w) went h = of_packet w.packet refl h
    where
      of_packet : (o : Option P) → w.packet ≡ o → quiet (Some (record { state = w.state; packet = o; marks = w.marks })) ≡ Some went → Some w ≡ Some went
      of_packet None e h = ap (λ (o : Option P). Some (record { state = w.state; packet = o; marks = w.marks })) e ∙ h
      of_packet (Some p) e h = absurd (cc)

  abbrev with_packet : Went S P M → P → Went S P M × P
  with_packet went packet = (went, packet)

  shipping_is : (o : Option (Went S P M)) (went : Went S P M) (packet : P) → shipping o ≡ Some (went, packet) → (o ≡ Some went) × (went.packet ≡ Some packet)
  shipping_is None went packet h = absurd (cc)
  shipping_is (Some w) went packet h = of_packet w.packet refl h
    where
      of_packet : (o : Option P) → w.packet ≡ o → option_map (with_packet w) o ≡ Some (with_packet went packet) → (Some w ≡ Some went) × (went.packet ≡ Some packet)
      of_packet None e h = absurd (cc)
      of_packet (Some p) e h =
          let both : with_packet w p ≡ with_packet went packet = cc in
          let same : w ≡ went = ap (λ (x : Went S P M × P). x.0) both in
          let also : p ≡ packet = ap (λ (x : Went S P M × P). x.1) both in
          (ap Some same, ap (λ (x : Went S P M). x.packet) (sym same) ∙ e ∙ ap Some also)

  -- Some steps more.
  pub record Ran (k : ℕ) (end : World S P M) : Type 0 where
    pub made : ℕ → ℕ
    pub told : Told k end made

  abbrev Runs : List (ℕ × E) → World S P M → Type 0
  Runs steps end = (k : ℕ) (world : World S P M) (made : ℕ → ℕ) → fold_global machine world steps ≡ Some end → Told k world made → Ran (k + length steps) end

  abbrev rest_of : List (ℕ × E) → World S P M → Option (World S P M)
  rest_of steps next = fold_global machine next steps

  ran_at : (kind : Kind) (core : ℕ) (entry : E) (steps : List (ℕ × E)) (k : ℕ) (world end : World S P M) (made : ℕ → ℕ) → Runs steps end
      → option_and_then (rest_of steps) (goes_at machine kind core world entry) ≡ Some end → Told k world made → Ran (suc k + length steps) end
  ran_at inner core entry steps k world end made ih h old =
      let w = then_map (rest_of steps) (world_with world core world.transit) (inner_step machine core (world.states core) entry) end h in
      let is = quiet_is (machine.step core (world.states core) entry None) w.0 w.1 in
      let b = ticking.below core (world.states core) entry None w.0 is in
      let t = ticking.alone core (world.states core) entry w.0 is in
      ih (suc k) (world_with world core world.transit w.0) (put made core (suc (made core))) w.2
      (made_one k world made core w.0 world.transit b.0 b.1 (omega (arith, t)) (omega (arith, t, old.clock core)) (omega (arith, t, b.1)) (λ i j. later k (world.transit i j) (old.stamps i j)) old)
  ran_at (takes origin) core entry steps k world end made ih h old =
      let f = then_first (rest_of steps) (world.transit origin core)
      (λ packet rest. option_map (world_with world core (put_pair world.transit origin core rest)) (take_step machine core (world.states core) entry packet)) end h in
      let transit : ℕ → ℕ → List P = put_pair world.transit origin core f.1 in
      let w = then_map (rest_of steps) (world_with world core transit) (take_step machine core (world.states core) entry f.0) end f.3 in
      let is = quiet_is (machine.step core (world.states core) entry (Some f.0)) w.0 w.1 in
      let b = ticking.below core (world.states core) entry (Some f.0) w.0 is in
      let t = ticking.taking core (world.states core) entry f.0 w.0 is in
      let s = subst (Each (Stamped k)) f.2 (old.stamps origin core) in
      ih (suc k) (world_with world core transit w.0) (put made core (suc (made core))) w.2
      (made_one k world made core w.0 transit b.0 b.1 (omega (arith, t)) (omega (arith, t, old.clock core, s.0.0)) (omega (arith, t, b.1, s.0.1))
      (put_lists k world.transit origin core f.1 old.stamps (later k f.1 s.1)) old)
  ran_at (ships dest) core entry steps k world end made ih h old =
      let after : Went S P M × P → World S P M = λ sent. world_with world core (put_pair world.transit core dest (world.transit core dest ++ sent.1 ∷ [])) sent.0 in
      let w = then_map (rest_of steps) after (ship_step machine core (world.states core) entry) end h in
      let is = shipping_is (machine.step core (world.states core) entry None) w.0.0 w.0.1 w.1 in
      let b = ticking.below core (world.states core) entry None w.0.0 is.0 in
      let t = ticking.alone core (world.states core) entry w.0.0 is.0 in
      let s = ticking.shipping core (world.states core) entry w.0.1 w.0.0 is.0 is.1 in
      ih (suc k) (after w.0) (put made core (suc (made core))) w.2
      (made_one k world made core w.0.0 (put_pair world.transit core dest (world.transit core dest ++ w.0.1 ∷ [])) b.0 b.1 (omega (arith, t)) (omega (arith, t, old.clock core)) (omega (arith, t, b.1))
      (put_lists k world.transit core dest (world.transit core dest ++ w.0.1 ∷ []) old.stamps
      (Each-append (Stamped (suc k)) (world.transit core dest) (w.0.1 ∷ []) (later k (world.transit core dest) (old.stamps core dest)) ((omega (arith, s, t, old.clock core), omega (arith, s, t, b.1)), tt)))
      old)

  plus_suc : (a b : ℕ) → suc a + b ≡ a + suc b
  plus_suc a b = omega arith

  plus_zero : (k : ℕ) → k + 0 ≡ k
  plus_zero k = omega arith

  ran : (steps : List (ℕ × E)) (k : ℕ) (world end : World S P M) (made : ℕ → ℕ) → fold_global machine world steps ≡ Some end → Told k world made → Ran (k + length steps) end
  ran [] k world end made h old =
      let e : world ≡ end = cc in
      record { made = made; told = subst (λ (w : World S P M). Told (k + 0) w made) e (subst (λ (j : ℕ). Told j world made) (sym (plus_zero k)) old) }
  ran (step ∷ steps) k world end made h old = subst (λ (j : ℕ). Ran j end) (plus_suc k (length steps))
      (ran_at (machine.kind step.1) step.0 step.1 steps k world end made (λ j next some q t. ran steps j next end some q t) h old)

  pub from_start : (states : ℕ → S) → ((core : ℕ) → time (states core) ≡ 0) → (steps : List (ℕ × E)) (end : World S P M) → fold_global machine (opening states) steps ≡ Some end
      → Ran (0 + length steps) end
  from_start states start steps end h = ran steps 0 (opening states) end (λ core. 0) h (record {
    clock = λ core. omega (arith, start core);
    bound = λ core. omega (arith, start core);
    stamps = λ origin dest. tt;
    made_clock = λ core. omega arith;
    made_limit = λ core. omega arith;
    all = total_none (λ core. 0) cores (λ core l. refl);
  })

total_le : (n m : ℕ) (f : ℕ → ℕ) → ((c : ℕ) → f c ≤ m) → total n f ≤ n * m
total_le zero m f l = omega arith
total_le (suc n) m f l = omega (arith, total_le n m f l, l n)

module _ {S E P M : Type 0} (machine : Machine S E P M) (time : S → ℕ) (cores limit : ℕ) (steps : List (ℕ × E)) (end : World S P M) (run : IsRun machine time cores limit steps end) where
  whole : Ran machine time cores limit run.ticking (0 + length steps) end
  whole = from_start machine time cores limit run.ticking run.states run.start steps end run.run

  pub clocks_count : (core : ℕ) → (time (end.states core) ≤ length steps) × (time (end.states core) ≤ limit + 1)
  unfolding whole
  clocks_count core = (omega (arith, whole.told.clock core), whole.told.bound core)

  none_added : (k : ℕ) → 0 + k ≡ k
  none_added k = omega arith

  pub stamps_count : (origin dest : ℕ) → Each (λ packet. (machine.stamp packet ≤ length steps) × (machine.stamp packet ≤ limit)) (end.transit origin dest)
  unfolding whole
  stamps_count origin dest = subst (λ (k : ℕ). Each (λ packet. (machine.stamp packet ≤ k) × (machine.stamp packet ≤ limit)) (end.transit origin dest)) (none_added (length steps)) (whole.told.stamps origin dest)

  pub steps_few : length steps ≤ cores * limit
  unfolding whole
  steps_few = omega (arith, whole.told.all, total_le cores limit whole.made whole.told.made_limit)
