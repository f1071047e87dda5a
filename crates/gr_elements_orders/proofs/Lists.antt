-- Lists of messages in order, and facts of each message on a channel.
use Rattle.std.proofs.Common.{◌≡◌, ◌≢◌, ◌⊎◌, ℕ, zero, suc, ◌<◌, ◌==◌, if◌then◌else◌, List, [], ◌∷◌, ◌++◌, take, drop, sym, ◌∙◌, ap, subst, refl, arith, inl, inr, false}
use Rattle.std.proofs.lemmas.Bool.{cases_eq, cond_both, eqb-true}
use Rattle.std.proofs.lemmas.Bool.Decides.{nat_tests}
use Rattle.gr_net.specs.Messages.{Letter, Send}
use Rattle.gr_net.specs.Sums.{weigh, Each}
use Rattle.gr_net.specs.Worlds.{World, letters}
use Rattle.gr_net.specs.Flights.{Everywhere}
use Rattle.gr_net.proofs.Spreads.{weigh-append, Each-append}
use Rattle.gr_elements_orders.specs.Orders.{came, went, unpacked, channel, InOrder}

pub append_assoc : {X : Type 0} (xs ys zs : List X) → (xs ++ ys) ++ zs ≡ xs ++ (ys ++ zs)
append_assoc [] ys zs = refl
append_assoc (x ∷ xs) ys zs = ap (λ l. x ∷ l) (append_assoc xs ys zs)

pub append_nil : {X : Type 0} (xs : List X) → xs ++ [] ≡ xs
append_nil [] = refl
append_nil (x ∷ xs) = ap (λ l. x ∷ l) (append_nil xs)

pub take_drop : {X : Type 0} (n : ℕ) (xs : List X) → take n xs ++ drop n xs ≡ xs
take_drop zero xs = refl
take_drop (suc n) [] = refl
take_drop (suc n) (x ∷ xs) = ap (λ ys. x ∷ ys) (take_drop n xs)

-- ---- orders

module _ {M : Type 0} (early late : M → ℕ) where
  pub order_append : (xs ys : List M) → InOrder early late xs → InOrder early late ys → (weigh late xs ≡ 0) ⊎ (weigh early ys ≡ 0) → InOrder early late (xs ++ ys)
  order_append [] ys a b z = b
  order_append (x ∷ xs) ys a b (inl z) = (λ l. absurd (omega (arith, z, l)), order_append xs ys a.1 b (inl (omega (arith, z))))
  order_append (x ∷ xs) ys a b (inr z) = (λ l. omega (arith, a.0 l, z, weigh-append early xs ys), order_append xs ys a.1 b (inr z))

  pub order_drop : (xs ys : List M) → InOrder early late (xs ++ ys) → InOrder early late ys
  order_drop [] ys a = a
  order_drop (x ∷ xs) ys a = order_drop xs ys a.1

  pub none_late : (xs : List M) → weigh late xs ≡ 0 → InOrder early late xs
  none_late [] z = tt
  none_late (x ∷ xs) z = (λ l. absurd (omega (arith, z, l)), none_late xs (omega (arith, z)))

  pub none_early : (xs : List M) → weigh early xs ≡ 0 → InOrder early late xs
  none_early [] z = tt
  none_early (x ∷ xs) z = (λ l. omega (arith, z), none_early xs (omega (arith, z)))

-- ---- sends to one core

pub went-append : {M : Type 0} (d : ℕ) (ss ts : List (Send M)) → went d (ss ++ ts) ≡ went d ss ++ went d ts
went-append d [] ts = refl
went-append {M} d (s ∷ ss) ts = cond_both (s.to == d) _ _ (λ (xs : List M). (if s.to == d then s.message ∷ went d (ss ++ ts) else went d (ss ++ ts)) ≡ xs ++ went d ts)
    (λ e. ap (λ b. if b then s.message ∷ went d (ss ++ ts) else went d (ss ++ ts)) e ∙ ap (λ xs. s.message ∷ xs) (went-append d ss ts))
    (λ e. ap (λ b. if b then s.message ∷ went d (ss ++ ts) else went d (ss ++ ts)) e ∙ went-append d ss ts)

pub went_none : {M : Type 0} (h : M → ℕ) (d : ℕ) (ss : List (Send M)) → weigh (λ s. h s.message) ss ≡ 0 → weigh h (went d ss) ≡ 0
went_none h d [] z = refl
went_none {M} h d (s ∷ ss) z = cond_both (s.to == d) _ _ (λ (xs : List M). weigh h xs ≡ 0) (λ e. omega (arith, z, went_none h d ss (omega (arith, z)))) (λ e. went_none h d ss (omega (arith, z)))

-- ---- letters from one core

module _ {M : Type 0} where
  pub came-append : (i : ℕ) (xs ys : List (Letter M)) → came i (xs ++ ys) ≡ came i xs ++ came i ys
  came-append i [] ys = refl
  came-append i (l ∷ xs) ys = cond_both (l.from == i) _ _ (λ (zs : List M). (if l.from == i then l.message ∷ came i (xs ++ ys) else came i (xs ++ ys)) ≡ zs ++ came i ys)
      (λ e. ap (λ b. if b then l.message ∷ came i (xs ++ ys) else came i (xs ++ ys)) e ∙ ap (λ zs. l.message ∷ zs) (came-append i xs ys))
      (λ e. ap (λ b. if b then l.message ∷ came i (xs ++ ys) else came i (xs ++ ys)) e ∙ came-append i xs ys)

  pub came_one : (i : ℕ) (l : Letter M) (ls : List (Letter M)) → l.from ≡ i → came i (l ∷ ls) ≡ l.message ∷ came i ls
  came_one i l ls e = cond_both (l.from == i) _ _ (λ (zs : List M). zs ≡ l.message ∷ came i ls) (λ q. refl) (λ q. absurd (never l.from i e q))
    where
      never : (a b : ℕ) → a ≡ b → (a == b) ≡ false → ⊥
      never a b e q = grind (arith, nat_tests)

  pub came_other : (i : ℕ) (l : Letter M) (ls : List (Letter M)) → l.from ≢ i → came i (l ∷ ls) ≡ came i ls
  came_other i l ls ne = cond_both (l.from == i) _ _ (λ (zs : List M). zs ≡ came i ls) (λ q. absurd (ne (eqb-true l.from i q))) (λ q. refl)

  pub came_letters : (from : ℕ) (ms : List M) → came from (letters from ms) ≡ ms
  came_letters from [] = refl
  came_letters from (m ∷ ms) = came_one from (record { from = from; message = m }) (letters from ms) refl ∙ ap (λ xs. m ∷ xs) (came_letters from ms)

  pub came_letters_other : (i from : ℕ) (ms : List M) → from ≢ i → came i (letters from ms) ≡ []
  came_letters_other i from [] ne = refl
  came_letters_other i from (m ∷ ms) ne = came_other i (record { from = from; message = m }) (letters from ms) ne ∙ came_letters_other i from ms ne

pub unpacked-append : {M Q : Type 0} (messages : Q → List M) (ps qs : List Q) → unpacked messages (ps ++ qs) ≡ unpacked messages ps ++ unpacked messages qs
unpacked-append messages [] qs = refl
unpacked-append messages (p ∷ ps) qs = ap (λ xs. messages p ++ xs) (unpacked-append messages ps qs) ∙ sym (append_assoc (messages p) (unpacked messages ps) (unpacked messages qs))

-- ---- facts of the messages on a channel

pub each_parts : {X : Type 0} (P : X → Type 0) (xs ys : List X) → Each P (xs ++ ys) → Each P xs × Each P ys
each_parts P [] ys e = (tt, e)
each_parts P (x ∷ xs) ys e = let r = each_parts P xs ys e.1 in ((e.0, r.0), r.1)

implied : {X : Type 0} (A : Type 0) (P : X → Type 0) (xs : List X) → (A → Each P xs) → Each (λ x. A → P x) xs
implied A P [] f = tt
implied A P (x ∷ xs) f = (λ a. (f a).0, implied A P xs (λ a. (f a).1))

module _ {M : Type 0} where
  each_came : (P : M → Type 0) (i : ℕ) (ls : List (Letter M)) → Each P (came i ls) → Each (λ l. l.from ≡ i → P l.message) ls
  each_came P i [] e = tt
  each_came P i (l ∷ ls) e = elim (cases_eq l.from i) [
    | inl q ↦ let both = subst (Each P) (came_one i l ls q) e in (λ r. both.0, each_came P i ls both.1)
    | inr q ↦ (λ r. absurd (q r), each_came P i ls (subst (Each P) (came_other i l ls q) e))
  ]

  came_each : (P : ℕ → M → Type 0) (i : ℕ) (ls : List (Letter M)) → Each (λ l. P l.from l.message) ls → Each (P i) (came i ls)
  came_each P i [] e = tt
  came_each P i (l ∷ ls) e = elim (cases_eq l.from i) [
    | inl q ↦ subst (Each (P i)) (sym (came_one i l ls q)) (subst (λ j. P j l.message) q e.0, came_each P i ls e.1)
    | inr q ↦ subst (Each (P i)) (sym (came_other i l ls q)) (came_each P i ls e.1)
  ]

module _ {M Q : Type 0} (messages : Q → List M) (P : M → Type 0) where
  each_unpacked : (ps : List Q) → Each P (unpacked messages ps) → Each (λ p. Each P (messages p)) ps
  each_unpacked [] e = tt
  each_unpacked (p ∷ ps) e = let r = each_parts P (messages p) (unpacked messages ps) e in (r.0, each_unpacked ps r.1)

  unpacked_each : (ps : List Q) → Each (λ p. Each P (messages p)) ps → Each P (unpacked messages ps)
  unpacked_each [] e = tt
  unpacked_each (p ∷ ps) e = Each-append P (messages p) (unpacked messages ps) e.0 (unpacked_each ps e.1)

module _ {B M Q : Type 0} (messages : Q → List M) where
  -- What holds of each message in flight holds of each on a channel.
  pub every_on : (P : ℕ → ℕ → M → Type 0) (n : ℕ) (w : World B M Q) (c d : ℕ) → c < n → d < n → Everywhere messages P n w → Each (P c d) (channel messages w c d)
  every_on P n w c d a b v = Each-append (P c d) (came c (w.cores d).inbox) (unpacked messages (w.transit c d) ++ (w.cores c).buffers d) (came_each (λ i m. P i d m) c (w.cores d).inbox (v.inboxes d b))
      (Each-append (P c d) (unpacked messages (w.transit c d)) ((w.cores c).buffers d) (unpacked_each messages (P c d) (w.transit c d) (v.transits c d a b)) (v.buffers c d a b))

  -- What holds of each message on a channel holds of each in flight that is on it.
  pub channel_every : (P : M → Type 0) (n : ℕ) (w : World B M Q) (a b : ℕ) → Each P (channel messages w a b) → Everywhere messages (λ i d m. i ≡ a → d ≡ b → P m) n w
  channel_every P n w a b e =
      let one = each_parts P (came a (w.cores b).inbox) (unpacked messages (w.transit a b) ++ (w.cores a).buffers b) e in
      let two = each_parts P (unpacked messages (w.transit a b)) ((w.cores a).buffers b) one.1 in
      record {
        inboxes = λ d l. swap d (w.cores d).inbox (implied (d ≡ b) (λ (x : Letter M). x.from ≡ a → P x.message) (w.cores d).inbox (λ q. subst (λ d. Each (λ (x : Letter M). x.from ≡ a → P x.message) (w.cores d).inbox) (sym q) (each_came P a (w.cores b).inbox one.0)));
        buffers = λ i d l m. implied (i ≡ a) (λ (x : M). d ≡ b → P x) ((w.cores i).buffers d) (λ q. implied (d ≡ b) P ((w.cores i).buffers d) (λ r. subst (λ i. Each P ((w.cores i).buffers d)) (sym q) (subst (λ d. Each P ((w.cores a).buffers d)) (sym r) two.1)));
        transits = λ i d l m. deep i d (w.transit i d) (λ q r. subst (λ i. Each (λ p. Each P (messages p)) (w.transit i d)) (sym q) (subst (λ d. Each (λ p. Each P (messages p)) (w.transit a d)) (sym r) (each_unpacked messages P (w.transit a b) two.0)));
      }
    where
      swap : (d : ℕ) (ls : List (Letter M)) → Each (λ (x : Letter M). d ≡ b → x.from ≡ a → P x.message) ls → Each (λ (x : Letter M). x.from ≡ a → d ≡ b → P x.message) ls
      swap d [] e = tt
      swap d (l ∷ ls) e = (λ q r. e.0 r q, swap d ls e.1)

      deep : (i d : ℕ) (ps : List Q) → (i ≡ a → d ≡ b → Each (λ p. Each P (messages p)) ps) → Each (λ p. Each (λ x. i ≡ a → d ≡ b → P x) (messages p)) ps
      deep i d [] f = tt
      deep i d (p ∷ ps) f = (implied (i ≡ a) (λ (x : M). d ≡ b → P x) (messages p) (λ q. implied (d ≡ b) P (messages p) (λ r. (f q r).0)), deep i d ps (λ q r. (f q r).1))
