-- Weights of units and of questions, and facts of each item at each of many places.
use Rattle.std.proofs.Common.{◌≡◌, ℕ, ◌+◌, ◌<◌, ◌≤◌, if◌then◌else◌, Bool, true, false, nat_le, nat_lt, List, [], ◌∷◌, ap, refl, arith, Option, Some, None}
use Rattle.std.proofs.lemmas.Bool.Decides.{nat_tests}
use Rattle.gr_lang.specs.declared.action.TaskId.{TaskId}
use Rattle.gr_msg.specs.declared.message.Unit.{Unit as WorkUnit}
use Rattle.gr_msg.specs.declared.message.Msg.{Msg}
use Rattle.gr_net.specs.Sums.{weigh, Each}
use Rattle.gr_net.specs.Flights.{Everywhere}
use Rattle.gr_net.specs.Messages.{Letter}
use Rattle.gr_net.proofs.Spreads.{total_none, Each-map}
use Rattle.gr_machine.specs.States.{Suspended, Body}
use Rattle.gr_machine.specs.Events.{Packet}
use Rattle.gr_machine.specs.Slots.{same_id}
use Rattle.gr_machine.specs.Nets.{messages_in}
use Rattle.gr_stands.specs.Worlds.{World}
use Rattle.gr_stands.specs.Censuses.{of_held, body_census}
use Rattle.gr_stands.proofs.Places.{same_id_self}
use Rattle.gr_shares.specs.Loops.{within}
use Rattle.gr_shares.specs.Shares.{if_owner, if_between, units_only}

-- ---- indices and owners

pub within_first : (lo hi : ℕ) → lo < hi → within lo hi lo ≡ 1
unfolding within
within_first lo hi l = grind (arith, nat_tests, l)

pub within_inside : (lo hi index : ℕ) → within lo hi index ≡ 1 → (nat_le lo index ≡ true) × (nat_lt index hi ≡ true)
unfolding within
within_inside lo hi index e = (grind (arith, nat_tests, e), grind (arith, nat_tests, e))

pub within_none : (lo hi index : ℕ) → hi ≤ lo → within lo hi index ≡ 0
unfolding within
within_none lo hi index l = grind (arith, nat_tests, l)

-- Two ranges side by side.
pub within_beside : (lo mid hi index : ℕ) → lo ≤ mid → mid ≤ hi → within lo mid index + within mid hi index ≡ within lo hi index
unfolding within
within_beside lo mid hi index p q = grind (arith, nat_tests, p, q)

pub within_bit : (lo hi index : ℕ) → within lo hi index ≤ 1
unfolding within
within_bit lo hi index = grind (arith, nat_tests)

pub owner_self : (id : TaskId) (n : ℕ) → if_owner id id n ≡ n
unfolding if_owner
owner_self id n = ap (λ (b : Bool). if b then n else 0) (same_id_self id)

pub owner_off : (id other : TaskId) (n : ℕ) → same_id other id ≡ false → if_owner id other n ≡ 0
unfolding if_owner
owner_off id other n e = ap (λ (b : Bool). if b then n else 0) e

pub owner_adds : (id other : TaskId) (x y : ℕ) → if_owner id other (x + y) ≡ if_owner id other x + if_owner id other y
unfolding if_owner
owner_adds id other x y = grind arith

-- ---- pairs of cores

pub between_self : (a b : ℕ) → if_between a b a b ≡ 1
unfolding if_between
between_self a b = grind (arith, nat_tests)

pub between_off : (a b c d : ℕ) → ((c ≡ a) × (d ≡ b) → ⊥) → if_between a b c d ≡ 0
unfolding if_between
between_off a b c d ne = grind (arith, nat_tests)

-- ---- the units of a body

pub only_units : (h : WorkUnit → ℕ) (m : ℕ) (b : Body) → body_census (units_only h) m b ≡ weigh h b.work.private + weigh h b.work.public
unfolding body_census
only_units h m b = omega (arith, total_none (λ k. of_held (λ task. 0) (b.tasks.slots k)) m (λ k l. nothing (b.tasks.slots k)))
  where
    nothing : (o : Option Suspended) → of_held (λ task. 0) o ≡ 0
    nothing None = refl
    nothing (Some task) = refl

-- ---- facts of each item, at each of many places

pub each_for : {X I : Type 0} (B : I → Type 0) (P : I → X → Type 0) (xs : List X) → ((i : I) → B i → Each (P i) xs) → Each (λ x. (i : I) → B i → P i x) xs
each_for B P [] e = tt
each_for B P (x ∷ xs) e = (λ i b. (e i b).0, each_for B P xs (λ i b. (e i b).1))

pub every_for : {I : Type 0} (B : I → Type 0) (P : I → ℕ → ℕ → Msg → Type 0) (n : ℕ) (w : World) → ((i : I) → B i → Everywhere messages_in (P i) n w)
    → Everywhere messages_in (λ from to m. (i : I) → B i → P i from to m) n w
every_for {I} B P n w v = record {
  inboxes = λ c l. each_for B (λ (i : I) (x : Letter Msg). P i x.from c x.message) (w.cores c).inbox (λ i b. (v i b).inboxes c l);
  buffers = λ c d l m. each_for B (λ (i : I) (x : Msg). P i c d x) ((w.cores c).buffers d) (λ i b. (v i b).buffers c d l m);
  transits = λ c d l m. Each-map (λ (p : Packet). (i : I) → B i → Each (P i c d) (messages_in p)) (λ p. Each (λ x. (i : I) → B i → P i c d x) (messages_in p)) (λ p. each_for B (λ (i : I) (x : Msg). P i c d x) (messages_in p)) (w.transit c d)
      (each_for B (λ (i : I) (p : Packet). Each (P i c d) (messages_in p)) (w.transit c d) (λ i b. (v i b).transits c d l m));
}
