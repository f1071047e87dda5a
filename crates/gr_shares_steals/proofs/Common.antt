-- What the events have in common: what a core has asked and who waits at it, and the first letter of a core.
use Rattle.std.proofs.Common.{◌≡◌, ◌≢◌, ℕ, ◌≤◌, ◌==◌, if◌then◌else◌, Bool, [], ◌∷◌, inl, ap, refl, arith, Some}
use Rattle.std.proofs.lemmas.Bool.Decides.{nat_tests}
use Rattle.gr_view.specs.Places.{put}
use Rattle.gr_msg.specs.declared.message.Msg.{Msg}
use Rattle.gr_agg.specs.Buffers.{add_last}
use Rattle.gr_net.specs.Sums.{weigh}
use Rattle.gr_net.specs.Flights.{Everywhere}
use Rattle.gr_net.specs.Worlds.{put_core, acted}
use Rattle.gr_net.proofs.Spreads.{put_field}
use Rattle.gr_machine.specs.States.{Body}
use Rattle.gr_machine.specs.Outcomes.{Outcome, quietly}
use Rattle.gr_machine.specs.Nets.{messages_in}
use Rattle.gr_stands.specs.Worlds.{Given, World, Weight, bodies, in_flight, Acts}
use Rattle.gr_stands.proofs.Worlds.{flow_off, facts_off}
use Rattle.gr_stands_calls.specs.Acting.{letter, IsFirstLetter}
use Rattle.gr_scopes.specs.Trees.{Names}
use Rattle.gr_shares.specs.Loops.{Loops, LoopsStand}
use Rattle.gr_shares.specs.Shares.{if_between, one_if}
use Rattle.gr_shares.specs.ShareActs.{KeepsLoops, asked_by, waits_for}

pub keeps_same : (names : Names) (L : Loops) → LoopsStand L → KeepsLoops names names L L
keeps_same names L stands = record {
  named = λ number scope h. h;
  kept = λ owner loop h. inl (record { next = loop; there = h; number = refl; target = refl; args = refl });
  stands = stands;
}

pub between_at : (a b c d : ℕ) → c ≡ a → d ≡ b → if_between a b c d ≡ 1
unfolding if_between
between_at a b c d p q = grind (arith, nat_tests, p, q)

pub between_not : (a b c d : ℕ) → c ≢ a → if_between a b c d ≡ 0
unfolding if_between
between_not a b c d p = grind (arith, nat_tests, p)

pub between_nor : (a b c d : ℕ) → d ≢ b → if_between a b c d ≡ 0
unfolding if_between
between_nor a b c d p = grind (arith, nat_tests, p)

-- ---- at a core and at others

module _ (A : ℕ → Body) (me : ℕ) (b : Body) where
  pub asked_same : b.steals.asked ≡ (A me).steals.asked → (a x : ℕ) → asked_by (put A me b) a x ≡ asked_by A a x
  asked_same e a x = put_field (λ (y : Body). one_if (y.steals.asked x)) A me b (ap (λ (f : ℕ → Bool). one_if (f x)) e) a

  pub waits_same : b.steals.waiting ≡ (A me).steals.waiting → (a x : ℕ) → waits_for (put A me b) a x ≡ waits_for A a x
  waits_same e a x = put_field (λ (y : Body). weigh (λ one. if one == a then 1 else 0) y.steals.waiting) A me b (ap (weigh (λ (one : ℕ). if one == a then 1 else 0)) e) x

-- ---- the first letter of a core

module _ (given : Given) (w : World) (me from : ℕ) (m : Msg) (first : IsFirstLetter given w me from m) where
  abbrev nothing : Outcome
  nothing = quietly (bodies w me)

  abbrev after : World
  after = put_core w me (acted add_last me first.core (Some nothing))

  served : Acts given.setup.cores w after me (letter from m ∷ []) nothing
  served = record { here = first.here; core = first.core; without = first.without; sends = tt; world = refl }

  pub first_weighs : (h : Weight) → h from me m ≤ in_flight h given.setup.cores w
  first_weighs h = omega (arith, flow_off given.setup.cores w after me (letter from m ∷ []) nothing served h)

  pub first_has : (P : ℕ → ℕ → Msg → Type 0) → Everywhere messages_in P given.setup.cores w → P from me m
  first_has P f = (facts_off given.setup.cores w after me (letter from m ∷ []) nothing served P f).0.0
