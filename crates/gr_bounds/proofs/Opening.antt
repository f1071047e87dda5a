-- Before the first step core 0 has a share of one, and the others have nothing; no message is in flight.
use Rattle.std.proofs.Common.{◌≡◌, ◌≢◌, ◌≤◌, ◌==◌, ℕ, refl, sym, subst, arith, inl, inr}
use Rattle.std.proofs.lemmas.Bool.{cond_both, eqb-true}
use Rattle.gr_view.specs.Places.{put}
use Rattle.gr_net.specs.Sums.{total, Each}
use Rattle.gr_net.proofs.Spreads.{put_each, total_put, total_put_past, total_none}
use Rattle.gr_net.proofs.Flights.{flight_none}
use Rattle.gr_machine.specs.Machines.{Machine}
use Rattle.gr_machine.specs.States.{Body, Core}
use Rattle.gr_machine.specs.Openings.{opening_core, opening_body, unused, first_tasks, first_scopes, no_tasks, no_scopes}
use Rattle.gr_machine.specs.GlobalRuns.{opening_world}
use Rattle.gr_machine.specs.Nets.{messages_in, world_in}
use Rattle.gr_stands.specs.Worlds.{World, Weight, bodies, in_flight}
use Rattle.gr_bounds.specs.Shares.{Shared}
use Rattle.gr_bounds.proofs.Shares.{cases_below}

module _ (machine : Machine) (slot : ℕ) where
  abbrev main_body : Body
  main_body = opening_body machine 0 (first_tasks machine slot) first_scopes

  abbrev other_body : ℕ → Body
  other_body me = opening_body machine me no_tasks no_scopes

  abbrev start : World
  start = world_in (opening_world machine slot)

  other_is : (P : Core → Type 0) (me : ℕ) → me ≢ 0 → P (unused (other_body me)) → P (opening_core machine slot me)
  other_is P me n p = cond_both (me == 0) (unused main_body) (unused (other_body me)) P (λ e. absurd (n (eqb-true me 0 e))) (λ e. p)

  any_is : (P : Core → Type 0) (me : ℕ) → P (unused main_body) → P (unused (other_body me)) → P (opening_core machine slot me)
  any_is P me p q = cond_both (me == 0) (unused main_body) (unused (other_body me)) P (λ e. p) (λ e. q)

  pub nothing_flies : (weight : Weight) (n : ℕ) → in_flight weight n start ≡ 0
  nothing_flies weight n = flight_none messages_in weight n start (record {
    inboxes = λ me l. any_is (λ (core : Core). Each (λ letter. weight letter.from me letter.message ≡ 0) core.inbox) me tt tt;
    buffers = λ me dest l m. any_is (λ (core : Core). Each (λ message. weight me dest message ≡ 0) (core.buffers dest)) me tt tt;
    transits = λ me dest l m. tt;
  })

  one_in_all : (n : ℕ) → total n (put (λ i. 0) 0 1) ≤ 1
  one_in_all n = elim (cases_below 0 n) [
    | inl q ↦ omega (arith, total_put (λ (i x : ℕ). x) (λ i. 0) 0 1 n q, total_none (λ i. 0) n (λ i l. refl))
    | inr q ↦ omega (arith, total_put_past (λ (i x : ℕ). x) (λ i. 0) 0 1 n q, total_none (λ i. 0) n (λ i l. refl))
  ]

  pub opens_at_one : (AtMost : ℕ → Body → ℕ → Type 0) (weight : Weight) (n : ℕ) → AtMost 0 main_body 1 → ((me : ℕ) → AtMost me (other_body me) 0) → Shared AtMost weight n 1 start
  opens_at_one AtMost weight n main others = record {
    shares = put (λ i. 0) 0 1;
    each = λ core l. put_each (λ (i x : ℕ). AtMost i (bodies start i) x) (λ i. 0) 0 1 core
        (λ q. subst (λ (i : ℕ). AtMost i (bodies start i) 1) (sym q) main)
        (λ q. other_is (λ (c : Core). AtMost core c.body 0) core q (others core));
    all = omega (arith, one_in_all n, nothing_flies weight n);
  }
