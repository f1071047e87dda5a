-- An outcome at one core: what is sent is in flight, and what was taken up is not.
use Rattle.std.proofs.Common.{◌≡◌, ℕ, ◌+◌, ◌<◌, List, [], ◌∷◌, ◌++◌, sym, ap, subst, arith}
use Rattle.std.specs.Prelude.{Some}
use Rattle.gr_net.specs.Messages.{Letter, Outcome}
use Rattle.gr_net.specs.Sums.{total, weigh, Each}
use Rattle.gr_net.specs.Worlds.{Core, World, Joining, put_core, acted, with_body, Without}
use Rattle.gr_net.specs.Flights.{flight, Everywhere, AddsUp, KeepsFact}
use Rattle.gr_net.proofs.Spreads.{weigh-append}
use Rattle.gr_net.proofs.Flights.{flight_send_all, flight_put_core, Keeps, has_send_all, every_drop_core}

later_each : {X : Type 0} (P : X → Type 0) (xs ys : List X) → Each P (xs ++ ys) → Each P ys
later_each P [] ys e = e
later_each P (x ∷ xs) ys e = later_each P xs ys e.1

module _ {B M Q E : Type 0} (messages : Q → List M) (join : Joining M) where
  module _ (h : ℕ → ℕ → M → ℕ) (adds : (c d : ℕ) → AddsUp join (h c d)) (n : ℕ) (w : World B M Q) (c : ℕ) (here : c < n) (core : Core B M) (got : List (Letter M)) (t : Without w c core got) (e : Outcome B M E) (to : Each (λ s. s.to < n) e.sends) where
    flight_off : flight messages h n (put_core w c core) + weigh (λ l. h l.from c l.message) got ≡ flight messages h n w
    flight_off = omega (
      arith,
      flight_put_core messages h n w c here core,
      ap (weigh (λ l. h l.from c l.message)) t.inbox,
      weigh-append (λ (l : Letter M). h l.from c l.message) got core.inbox,
      ap (λ (b : ℕ → List M). total n (λ d. weigh (h c d) (b d))) t.buffers,
    )

    flight_on : flight messages h n (put_core w c (acted join c core (Some e))) ≡ flight messages h n (put_core w c core) + weigh (λ s. h c s.to s.message) e.sends
    flight_on = omega (
      arith,
      flight_put_core messages h n w c here core,
      flight_put_core messages h n w c here (acted join c core (Some e)),
      flight_send_all join h n c (adds c) (with_body core e.body) e.sends to,
    )

    pub flows : flight messages h n (put_core w c (acted join c core (Some e))) + weigh (λ l. h l.from c l.message) got ≡ flight messages h n w + weigh (λ s. h c s.to s.message) e.sends
    flows = omega (arith, flight_on, flight_off)

  module _ (P : ℕ → ℕ → M → Type 0) (keeps : (c d : ℕ) → KeepsFact join (P c d)) (n : ℕ) (w : World B M Q) (c : ℕ) (here : c < n) (core : Core B M) (got : List (Letter M)) (t : Without w c core got) (e : Outcome B M E) (sends : Each (λ s. P c s.to s.message) e.sends) where
    kept : Everywhere messages P n w → Keeps messages P n c core
    kept v = (
      later_each (λ (l : Letter M). P l.from c l.message) got core.inbox (subst (Each (λ (l : Letter M). P l.from c l.message)) t.inbox (v.inboxes c here)),
      λ d l. subst (λ (b : ℕ → List M). Each (P c d) (b d)) (sym t.buffers) (v.buffers c d here l),
    )

    pub keeps_facts : Everywhere messages P n w → Everywhere messages P n (put_core w c (acted join c core (Some e)))
    keeps_facts v = every_drop_core messages P n w c here (acted join c core (Some e)) v (has_send_all join P n keeps c (with_body core e.body) e.sends sends (kept v))
