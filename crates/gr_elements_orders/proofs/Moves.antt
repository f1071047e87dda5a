-- A Ship and a Take leave the order of messages.
use Rattle.std.proofs.Common.{◌≡◌, ℕ, List, [], ◌∷◌, ◌++◌, take, drop, sym, ◌∙◌, ap, refl, inl, inr}
use Rattle.std.proofs.lemmas.Bool.{cases_eq}
use Rattle.gr_view.specs.Places.{put}
use Rattle.gr_net.specs.Worlds.{Core, World, letters, with_inbox, with_buffer, shipped, taken}
use Rattle.gr_net.proofs.Spreads.{put_at, put_other, put_each, put_field}
use Rattle.gr_elements_orders.specs.Orders.{came, unpacked, channel}
use Rattle.gr_elements_orders.specs.Laws as laws
use Rattle.gr_elements_orders.proofs.Lists.{append_assoc, append_nil, take_drop, came-append, came_letters, came_letters_other, unpacked-append}

module _ {B M Q : Type 0} (messages : Q → List M) (w : World B M Q) (c : ℕ) where
  -- ---- a Ship

  module _ (e g : ℕ) (packet : Q) (is : messages packet ≡ take g ((w.cores c).buffers e)) where
    abbrev buffer : List M
    buffer = (w.cores c).buffers e

    abbrev core : Core B M
    core = with_buffer (w.cores c) e (drop g buffer)

    abbrev ring : ℕ → List Q
    ring = put (w.transit c) e (w.transit c e ++ packet ∷ [])

    both : {ps qs : List Q} {xs ys : List M} → ps ≡ qs → xs ≡ ys → unpacked messages ps ++ xs ≡ unpacked messages qs ++ ys
    both {ps} {qs} {xs} {ys} a b = ap (λ r. unpacked messages r ++ xs) a ∙ ap (λ r. unpacked messages qs ++ r) b

    moves : unpacked messages (w.transit c e ++ packet ∷ []) ++ drop g buffer ≡ unpacked messages (w.transit c e) ++ buffer
    moves = ap (λ xs. xs ++ drop g buffer) (unpacked-append messages (w.transit c e) (packet ∷ []) ∙ ap (λ xs. unpacked messages (w.transit c e) ++ xs) (append_nil (messages packet) ∙ is))
        ∙ append_assoc (unpacked messages (w.transit c e)) (take g buffer) (drop g buffer) ∙ ap (λ xs. unpacked messages (w.transit c e) ++ xs) (take_drop g buffer)

    -- What is behind the letters of a channel.
    tail_shipped : (i d : ℕ) → unpacked messages (put w.transit c ring i d) ++ (put w.cores c core i).buffers d ≡ unpacked messages (w.transit i d) ++ (w.cores i).buffers d
    tail_shipped i d = elim (cases_eq i c) [
      | inl q ↦ elim (cases_eq d e) [
        | inl r ↦ both (ap (λ (f : ℕ → List Q). f d) (put_at w.transit c ring i q) ∙ put_at (w.transit c) e (w.transit c e ++ packet ∷ []) d r) (ap (λ (x : Core B M). x.buffers d) (put_at w.cores c core i q) ∙ put_at (w.cores c).buffers e (drop g buffer) d r) ∙ moves
            ∙ ap (λ j. unpacked messages (w.transit c j) ++ (w.cores c).buffers j) (sym r) ∙ ap (λ j. unpacked messages (w.transit j d) ++ (w.cores j).buffers d) (sym q)
        | inr r ↦ both (ap (λ (f : ℕ → List Q). f d) (put_at w.transit c ring i q) ∙ put_other (w.transit c) e (w.transit c e ++ packet ∷ []) d r) (ap (λ (x : Core B M). x.buffers d) (put_at w.cores c core i q) ∙ put_other (w.cores c).buffers e (drop g buffer) d r)
            ∙ ap (λ j. unpacked messages (w.transit j d) ++ (w.cores j).buffers d) (sym q)
      ]
      | inr q ↦ both (ap (λ (f : ℕ → List Q). f d) (put_other w.transit c ring i q)) (ap (λ (x : Core B M). x.buffers d) (put_other w.cores c core i q))
    ]

    channel_shipped : (i d : ℕ) → channel messages (shipped g packet w c e) i d ≡ channel messages w i d
    channel_shipped i d = ap (λ xs. came i xs ++ (unpacked messages (put w.transit c ring i d) ++ (put w.cores c core i).buffers d)) (put_field (λ (x : Core B M). x.inbox) w.cores c core refl d)
        ∙ ap (λ xs. came i (w.cores d).inbox ++ xs) (tail_shipped i d)

  -- ---- a Take

  module _ (source : ℕ) (p : Q) (ps : List Q) (is : w.transit source c ≡ p ∷ ps) where
    abbrev full : Core B M
    full = with_inbox (w.cores c) ((w.cores c).inbox ++ letters source (messages p))

    abbrev rings : ℕ → List Q
    rings = put (w.transit source) c ps

    channel_taken : (i d : ℕ) → channel messages (taken messages w c source (p ∷ ps)) i d ≡ channel messages w i d
    channel_taken i d = ap (λ xs. came i (put w.cores c full d).inbox ++ (unpacked messages (put w.transit source rings i d) ++ xs)) (put_field (λ (x : Core B M). x.buffers d) w.cores c full refl i) ∙ elim (cases_eq d c) [
      | inl q ↦ ap (λ (x : Core B M). came i x.inbox ++ (unpacked messages (put w.transit source rings i d) ++ (w.cores i).buffers d)) (put_at w.cores c full d q)
          ∙ ap (λ xs. xs ++ (unpacked messages (put w.transit source rings i d) ++ (w.cores i).buffers d)) (came-append i (w.cores c).inbox (letters source (messages p))) ∙ elim (cases_eq source i) [
            | inl r ↦ ap (λ xs. (came i (w.cores c).inbox ++ xs) ++ (unpacked messages (put w.transit source rings i d) ++ (w.cores i).buffers d)) (ap (λ j. came j (letters source (messages p))) (sym r) ∙ came_letters source (messages p))
                ∙ ap (λ (f : ℕ → List Q). (came i (w.cores c).inbox ++ messages p) ++ (unpacked messages (f d) ++ (w.cores i).buffers d)) (put_at w.transit source rings i (sym r))
                ∙ ap (λ xs. (came i (w.cores c).inbox ++ messages p) ++ (unpacked messages xs ++ (w.cores i).buffers d)) (put_at (w.transit source) c ps d q)
                ∙ append_assoc (came i (w.cores c).inbox) (messages p) (unpacked messages ps ++ (w.cores i).buffers d)
                ∙ ap (λ xs. came i (w.cores c).inbox ++ xs) (sym (append_assoc (messages p) (unpacked messages ps) ((w.cores i).buffers d)))
                ∙ ap (λ xs. came i (w.cores c).inbox ++ (unpacked messages xs ++ (w.cores i).buffers d)) (sym is ∙ ap (λ j. w.transit j c) r)
                ∙ ap (λ j. came i (w.cores j).inbox ++ (unpacked messages (w.transit i j) ++ (w.cores i).buffers d)) (sym q)
            | inr r ↦ ap (λ xs. (came i (w.cores c).inbox ++ xs) ++ (unpacked messages (put w.transit source rings i d) ++ (w.cores i).buffers d)) (came_letters_other i source (messages p) r)
                ∙ ap (λ xs. xs ++ (unpacked messages (put w.transit source rings i d) ++ (w.cores i).buffers d)) (append_nil (came i (w.cores c).inbox))
                ∙ ap (λ (f : ℕ → List Q). came i (w.cores c).inbox ++ (unpacked messages (f d) ++ (w.cores i).buffers d)) (put_other w.transit source rings i (λ z. r (sym z)))
                ∙ ap (λ j. came i (w.cores j).inbox ++ (unpacked messages (w.transit i d) ++ (w.cores i).buffers d)) (sym q)
          ]
      | inr q ↦ ap (λ (x : Core B M). came i x.inbox ++ (unpacked messages (put w.transit source rings i d) ++ (w.cores i).buffers d)) (put_other w.cores c full d q)
          ∙ ap (λ xs. came i (w.cores d).inbox ++ (unpacked messages xs ++ (w.cores i).buffers d)) (put_each (λ i (f : ℕ → List Q). f d ≡ w.transit i d) w.transit source rings i (λ r. put_other (w.transit source) c ps d q ∙ ap (λ j. w.transit j d) (sym r)) (λ r. refl))
    ]

empty_parts : {X : Type 0} (xs ys : List X) → xs ++ ys ≡ [] → (xs ≡ []) × (ys ≡ [])
empty_parts [] ys e = (refl, e)
empty_parts (x ∷ xs) ys e = absurd (cc)

pub ships_keep : {S M P : Type 0} → laws.ShipsKeepChannels S M P
ships_keep messages w c dest size packet is from to = channel_shipped messages w c dest size packet is from to

pub takes_keep : {S M P : Type 0} → laws.TakesKeepChannels S M P
takes_keep messages w c source [] is from to = refl
takes_keep messages w c source (p ∷ ps) is from to = channel_taken messages w c source p ps is from to

pub ships_own : {S M P : Type 0} → laws.ShipsKeepOwn S M P
ships_own messages w c dest size packet is own i =
    let both = empty_parts _ _ (tail_shipped messages w c dest size packet is i i ∙ ap (λ xs. unpacked messages (w.transit i i) ++ xs) (own i).0 ∙ ap (λ xs. xs ++ []) (own i).1) in
    (both.1, both.0)

pub takes_own : {S M P : Type 0} → laws.TakesKeepOwn S M P
takes_own messages w c source [] is own i = own i
takes_own {S} {M} {P} messages w c source (p ∷ ps) is own i = (
  put_field (λ (x : Core S M). x.buffers i) w.cores c (with_inbox (w.cores c) ((w.cores c).inbox ++ letters source (messages p))) refl i ∙ (own i).0,
  put_each (λ (i : ℕ) (r : ℕ → List P). unpacked messages (r i) ≡ []) w.transit source (put (w.transit source) c ps) i
      (λ q. put_each (λ (j : ℕ) (xs : List P). j ≡ source → unpacked messages xs ≡ []) (w.transit source) c ps i
      (λ r s. let whole : unpacked messages (p ∷ ps) ≡ [] = ap (unpacked messages) (sym is ∙ ap (w.transit source) (sym r ∙ q)) ∙ (own source).1 in (empty_parts (messages p) (unpacked messages ps) whole).1)
      (λ r s. ap (λ j. unpacked messages (w.transit source j)) s ∙ (own source).1) q)
      (λ q. (own i).1),
)
