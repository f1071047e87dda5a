-- What stands at the ends of rings where one of them has changed.
use Rattle.std.proofs.Common.{◌≡◌, ◌≢◌, ℕ, ◌<◌, List, [], ◌∷◌, length, Option, Some, None, IsSome, zero, suc, ap, ◌∙◌, sym, refl, subst, append-nil, arith, inl, inr, slice_index_or, slice_set, MutBor}
use mathlib.Core.List.{IsPrefix}
use mathlib.Core.Path.{fun_ext}
use Rattle.std.specs.Option.{option_copied_mut}
use Rattle.std.proofs.lemmas.Bool.{cases_eq}
use Rattle.rtrb.specs.Ring.{SameConsumer, SameProducer, producer_capacity}
use Rattle.gr_view.specs.Places.{put, at_place}
use Rattle.gr_view.proofs.Puts.{place_put, place_read, put_at, put_other, put_by}
use Rattle.gr_mail.specs.declared.mail.TheConstants.{RING_PACKETS}
use Rattle.gr_mail.specs.Ends.{AreBoth, ReceivingEnd, SendingEnd}
use Rattle.gr_mail.specs.EndsView.{AreEnds, HaveRoom}

pub end_same : {X : Type 0} (xs : List (Option X)) (i : ℕ) (x : Option X) → i < length xs → at_place None (slice_set xs i x) i ≡ x
end_same xs i x h = ap (λ f. f i) (place_put None xs i x h) ∙ put_at (at_place None xs) i x i refl

pub end_other : {X : Type 0} (xs : List (Option X)) (i : ℕ) (x : Option X) (k : ℕ) → i < length xs → k ≢ i → at_place None (slice_set xs i x) k ≡ at_place None xs k
end_other xs i x k h n = ap (λ f. f k) (place_put None xs i x h) ∙ put_other (at_place None xs) i x k n

-- What is true at each place is still true where it is true of what was written.
pub everywhere : {X : Type 0} (P : ℕ → Option X → Type 0) (xs : List (Option X)) (i : ℕ) (x : Option X) → i < length xs → P i x
    → ((k : ℕ) → P k (at_place None xs k)) → (k : ℕ) → P k (at_place None (slice_set xs i x) k)
everywhere P xs i x h p q k = elim (cases_eq k i) [
  | inl e ↦ subst (λ j. P j (at_place None (slice_set xs i x) j)) (sym e) (subst (P i) (sym (end_same xs i x h)) p)
  | inr n ↦ subst (P k) (sym (end_other xs i x k h n)) (q k)
]

pub ends_stay : {X : Type 0} (n o : ℕ) (xs : List (Option X)) (i : ℕ) (x : X) → i < length xs → i ≢ o → AreEnds n o xs → AreEnds n o (slice_set xs i (Some x))
ends_stay n o xs i x h m e = record {
  there = everywhere (λ k y. k < n → k ≢ o → IsSome y) xs i (Some x) h (λ _ _. refl) e.there;
  own = end_other xs i (Some x) o h (λ q. m (sym q)) ∙ e.own;
}

-- This end stands at the place.
pub record IsRead {X : Type 0} (xs : List (Option X)) (i : ℕ) (end : X) : Type 0 where
  pub within : i < length xs
  pub is : at_place None xs i ≡ Some end

-- The end that was lent was read at the place.
pub is_read : {X : Type 0} (xs : List (Option X)) (i : ℕ) (read : Option X) (lent : Option (MutBor X)) (end : MutBor X) → i < length xs → read ≡ slice_index_or xs i read
    → option_copied_mut lent ≡ read → lent ≡ Some end → IsRead xs i end.now
is_read xs i read lent end h r f e = record { within = h; is = place_read None read xs i h r ∙ (sym f ∙ ap option_copied_mut e) }

pub seen_at : {X Y : Type 0} (f : Option X → Y) (xs : List (Option X)) (i : ℕ) (end : X) → IsRead xs i end → f (at_place None xs i) ≡ f (Some end)
seen_at f xs i end r = ap f r.is

pub seen_now : {X Y : Type 0} (f : Option X → Y) (xs : List (Option X)) (i : ℕ) (old new : X) → IsRead xs i old → f (at_place None (slice_set xs i (Some new)) i) ≡ f (Some new)
seen_now f xs i old new r = ap f (end_same xs i (Some new) r.within)

room_of : (new end : SendingEnd) → producer_capacity new ≡ RING_PACKETS → Some new ≡ Some end → producer_capacity end ≡ RING_PACKETS
room_of new end c e = let q : new ≡ end = cc in subst (λ p. producer_capacity p ≡ RING_PACKETS) q c

pub room_stays : (xs : List (Option SendingEnd)) (i : ℕ) (old new : SendingEnd) → IsRead xs i old → SameProducer old new
    → HaveRoom xs → HaveRoom (slice_set xs i (Some new))
room_stays xs i old new e s r = everywhere (λ _ y. (end : SendingEnd) → y ≡ Some end → producer_capacity end ≡ RING_PACKETS) xs i (Some new) e.within
    (λ end. room_of new end (s.1 ∙ r i old e.is)) r

none_is_none : {X : Type 0} {o : Option X} → o ≡ None → IsSome o → ⊥
none_is_none {X = X} e t = let w : IsSome {T = X} None = subst IsSome e t in cc

pub none_free : (n : ℕ) → (0 < n → ⊥) → n ≡ 0
none_free zero h = refl
none_free (suc n) h = absurd (h (omega arith))

pub none_known : {X : Type 0} (xs : List X) → (0 < length xs → ⊥) → xs ≡ []
none_known [] h = refl
none_known (x ∷ xs) h = absurd (h (omega arith))

-- An end that has to be there is there.
pub is_there : {X : Type 0} (n o : ℕ) (xs : List (Option X)) (i : ℕ) (x : Option X) → AreEnds n o xs → i < n → i ≢ o → i < length xs → x ≡ slice_index_or xs i x → x ≡ None → ⊥
is_there n o xs i x e l m h r q = none_is_none (place_read None x xs i h r ∙ q) (e.there i l m)

same_producers : (o : Option SendingEnd) → AreBoth SameProducer o o
same_producers None = tt
same_producers (Some end) = ((refl, refl, refl, refl), refl)

same_consumers : (o : Option ReceivingEnd) → AreBoth SameConsumer o o
same_consumers None = tt
same_consumers (Some end) = ((refl, refl, refl, refl), refl)

pub all_same_producers : (xs : List (Option SendingEnd)) (k : ℕ) → AreBoth SameProducer (at_place None xs k) (at_place None xs k)
all_same_producers xs k = same_producers (at_place None xs k)

pub all_same_consumers : (xs : List (Option ReceivingEnd)) (k : ℕ) → AreBoth SameConsumer (at_place None xs k) (at_place None xs k)
all_same_consumers xs k = same_consumers (at_place None xs k)

pub outs_same : (xs : List (Option SendingEnd)) (i : ℕ) (old new : SendingEnd) → IsRead xs i old → SameProducer old new
    → (k : ℕ) → AreBoth SameProducer (at_place None xs k) (at_place None (slice_set xs i (Some new)) k)
outs_same xs i old new e s = everywhere (λ k y. AreBoth SameProducer (at_place None xs k) y) xs i (Some new) e.within
    (subst (λ y. AreBoth SameProducer y (Some new)) (sym e.is) s) (all_same_producers xs)

pub ins_same : (xs : List (Option ReceivingEnd)) (i : ℕ) (old new : ReceivingEnd) → IsRead xs i old → SameConsumer old new
    → (k : ℕ) → AreBoth SameConsumer (at_place None xs k) (at_place None (slice_set xs i (Some new)) k)
ins_same xs i old new e s = everywhere (λ k y. AreBoth SameConsumer (at_place None xs k) y) xs i (Some new) e.within
    (subst (λ y. AreBoth SameConsumer y (Some new)) (sym e.is) s) (all_same_consumers xs)

-- What is seen at each end, where one of them has changed.
put_seen : {X Y : Type 0} (f : Option X → Y) (xs : List (Option X)) (i : ℕ) (x : Option X) (y : Y) → i < length xs → f x ≡ y
    → (λ k. f (at_place None (slice_set xs i x) k)) ≡ put (λ k. f (at_place None xs k)) i y
put_seen f xs i x y h e = put_by (λ k. f (at_place None xs k)) (λ k. f (at_place None (slice_set xs i x) k)) i y
    (ap f (end_same xs i x h) ∙ e) (λ q n. ap f (end_other xs i x q h n))

-- It has changed there as what is seen at that end has.
pub seen_put : {X Y : Type 0} (f : Option X → Y) (g : Y → Y) (xs : List (Option X)) (i : ℕ) (old new : X) → IsRead xs i old → f (Some new) ≡ g (f (Some old))
    → (λ k. f (at_place None (slice_set xs i (Some new)) k)) ≡ put (λ k. f (at_place None xs k)) i (g (f (at_place None xs i)))
seen_put f g xs i old new r e = put_seen f xs i (Some new) (g (f (at_place None xs i))) r.within (e ∙ ap g (sym (seen_at f xs i old r)))

-- It has changed there alone.
pub seen_others : {X Y : Type 0} (f : Option X → Y) (xs : List (Option X)) (i : ℕ) (x : Option X) → i < length xs
    → (λ k. f (at_place None (slice_set xs i x) k)) ≡ put (λ k. f (at_place None xs k)) i (f (at_place None (slice_set xs i x) i))
seen_others f xs i x h = put_seen f xs i x (f (at_place None (slice_set xs i x) i)) h (ap f (sym (end_same xs i x h)))

-- What is seen at each end stays, where what is seen at the end that has changed does.
pub seen_same : {X Y : Type 0} (f : Option X → Y) (xs : List (Option X)) (i : ℕ) (old new : X) → IsRead xs i old → f (Some new) ≡ f (Some old)
    → ◌≡◌ {A = ℕ → Y} (λ k. f (at_place None (slice_set xs i (Some new)) k)) (λ k. f (at_place None xs k))
seen_same f xs i old new r e = fun_ext (everywhere (λ k y. f y ≡ f (at_place None xs k)) xs i (Some new) r.within (e ∙ sym (seen_at f xs i old r)) (λ k. refl))

pub put_self : {X : Type 0} (f : ℕ → X) (k : ℕ) → f ≡ put f k (f k)
put_self f k = put_by f f k (f k) refl (λ _ _. refl)

pub prefix_self : {X : Type 0} (xs : List X) → IsPrefix xs xs
prefix_self xs = ([], append-nil xs)
