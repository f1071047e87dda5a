-- A census is 0 where each place weighs nothing, and there alone.
use Rattle.std.proofs.Common.{◌≡◌, ℕ, ◌+◌, ◌<◌, sym, ◌∙◌, ap, refl, arith}
use Rattle.gr_net.specs.Sums.{total, weigh}
use Rattle.gr_net.proofs.Spreads.{total_zero, total_none}
use Rattle.gr_machine.specs.States.{Body}
use Rattle.gr_machine.specs.Nets.{messages_in}
use Rattle.gr_stands.specs.Worlds.{Given, World, bodies, in_flight}
use Rattle.gr_stands.specs.Censuses.{Weights, of_held, body_census, carried, census}

module _ (h : Weights) (slots : ℕ) (b : Body) where
  -- The places of a core.
  pub record BodyZero : Type 0 where
    pub held : (k : ℕ) → k < slots → of_held h.of_task (b.tasks.slots k) ≡ 0
    pub private : weigh h.of_unit b.work.private ≡ 0
    pub public : weigh h.of_unit b.work.public ≡ 0

  pub body_zero : body_census h slots b ≡ 0 → BodyZero
  unfolding body_census
  body_zero e = record {
    held = total_zero (λ k. of_held h.of_task (b.tasks.slots k)) slots (omega (arith, e));
    private = omega (arith, e);
    public = omega (arith, e);
  }

  pub body_none : BodyZero → body_census h slots b ≡ 0
  unfolding body_census
  body_none z = omega (arith, total_none (λ k. of_held h.of_task (b.tasks.slots k)) slots z.held, z.private, z.public)

module _ (h : Weights) (given : Given) (w : World) where
  pub cores_zero : census h given w ≡ 0 → (c : ℕ) → c < given.setup.cores → body_census h given.slots (bodies w c) ≡ 0
  unfolding census
  cores_zero e = total_zero (λ c. body_census h given.slots (bodies w c)) given.setup.cores (omega (arith, e))

  pub flight_zero : census h given w ≡ 0 → in_flight (carried h.of_unit) given.setup.cores w ≡ 0
  unfolding census
  flight_zero e = omega (arith, e)

  pub census_none : ((c : ℕ) → c < given.setup.cores → body_census h given.slots (bodies w c) ≡ 0) → in_flight (carried h.of_unit) given.setup.cores w ≡ 0 → census h given w ≡ 0
  unfolding census
  census_none f e = omega (arith, total_none (λ c. body_census h given.slots (bodies w c)) given.setup.cores f, e)
