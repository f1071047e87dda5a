-- What a message does at the end of others.
use Rattle.std.proofs.Common.{◌≡◌, ◌-◌, ◌<◌, ◌≤◌, ℕ, zero, suc, List, [], ◌∷◌, ◌++◌, Option, Some, None, length, min, take, slice_index_or, slice_set, ap, ◌∙◌, sym, refl, subst, arith, All}
use Rattle.std.proofs.lemmas.List.{length-take, take_min}
use Rattle.std.proofs.lemmas.List.Elements.{All-drop, All-push, All-set, All-take}
use Rattle.gr_msg.specs.declared.message.Msg.{Msg}
use Rattle.gr_msg.specs.declared.message.Msg.TheVariants.{Complete}
use Rattle.gr_msg.specs.declared.message.ScopeId.{ScopeId}
use Rattle.gr_msg.specs.declared.opened.TheConstants.{MAX_CLOCK, MAX_MESSAGES}
use Rattle.gr_msg.specs.Ranges.{Fits, IsPacket}
use Rattle.gr_agg.specs.Buffers.{add_last, after_message, joined, sum_with}

with_sum : List Msg → ScopeId → ℕ → Option ℕ → List Msg
with_sum xs scope count None = xs ++ Complete scope count ∷ []
with_sum xs scope count (Some sum) = slice_set xs (length xs - 1) (Complete scope sum)

one_end : (x : Msg) (scope : ScopeId) (count : ℕ) (o : Option ℕ) → after_message x scope count o ≡ with_sum (x ∷ []) scope count o
unfolding with_sum
one_end x scope count None = refl
one_end x scope count (Some sum) = refl

more_ends : (x y : Msg) (xs : List Msg) (scope : ScopeId) (count : ℕ) (o : Option ℕ) → x ∷ with_sum (y ∷ xs) scope count o ≡ with_sum (x ∷ y ∷ xs) scope count o
unfolding with_sum
more_ends x y xs scope count None = refl
more_ends x y xs scope count (Some sum) =
    let e : length (x ∷ y ∷ xs) - 1 ≡ suc (length (y ∷ xs) - 1) = omega arith in
    ap (λ k. slice_set (x ∷ y ∷ xs) k (Complete scope sum)) (sym e)

at_end : (xs : List Msg) (x : Msg) (scope : ScopeId) (count : ℕ) → 0 < length xs → x ≡ slice_index_or xs (length xs - 1) x
    → add_last xs (Complete scope count) ≡ with_sum xs scope count (sum_with x scope count)
unfolding add_last
at_end [] x scope count h e = absurd (omega arith)
at_end (y ∷ []) x scope count h e =
    one_end y scope count (sum_with y scope count) ∙ ap (λ m. with_sum (y ∷ []) scope count (sum_with m scope count)) (sym e)
at_end (y ∷ z ∷ xs) x scope count h e =
    let i : length (y ∷ z ∷ xs) - 1 ≡ suc (length (z ∷ xs) - 1) = omega arith in
    let f : x ≡ slice_index_or (z ∷ xs) (length (z ∷ xs) - 1) x = e ∙ ap (λ k. slice_index_or (y ∷ z ∷ xs) k x) i in
    ap (λ ms. y ∷ ms) (at_end (z ∷ xs) x scope count (omega arith) f) ∙ more_ends y z xs scope count (sum_with x scope count)

pub end_sum : (xs : List Msg) (x : Msg) (scope : ScopeId) (count sum : ℕ) → 0 < length xs → x ≡ slice_index_or xs (length xs - 1) x → Some sum ≡ sum_with x scope count
    → add_last xs (Complete scope count) ≡ slice_set xs (length xs - 1) (Complete scope sum)
unfolding with_sum
end_sum xs x scope count sum h e q = at_end xs x scope count h e ∙ ap (with_sum xs scope count) (sym q)

pub end_none : (xs : List Msg) (x : Msg) (scope : ScopeId) (count : ℕ) → 0 < length xs → x ≡ slice_index_or xs (length xs - 1) x → None ≡ sum_with x scope count
    → add_last xs (Complete scope count) ≡ xs ++ Complete scope count ∷ []
unfolding with_sum
end_none xs x scope count h e q = at_end xs x scope count h e ∙ ap (with_sum xs scope count) (sym q)

pub end_empty : (xs : List Msg) (message : Msg) → length xs ≡ 0 → add_last xs message ≡ xs ++ message ∷ []
unfolding add_last
end_empty [] message h = refl
end_empty (x ∷ xs) message h = absurd (omega arith)

joined_other : (x y : Msg) → ((scope : ScopeId) (count : ℕ) → y ≡ Complete scope count → ⊥) → joined x y ≡ x ∷ y ∷ []
joined_other x (Complete scope count) h = absurd (h scope count refl)
joined_other x _ h = refl

pub end_other : (xs : List Msg) (y : Msg) → ((scope : ScopeId) (count : ℕ) → y ≡ Complete scope count → ⊥) → add_last xs y ≡ xs ++ y ∷ []
unfolding add_last
end_other [] y h = refl
end_other (x ∷ []) y h = joined_other x y h
end_other (x ∷ z ∷ xs) y h = ap (λ ms. x ∷ ms) (end_other (z ∷ xs) y h)

pub take_both : {X : Type 0} (n : ℕ) (xs ys : List X) → take n xs ++ take (n - length xs) ys ≡ take n (xs ++ ys)
take_both zero xs ys = let e : zero - length xs ≡ 0 = omega arith in ap (λ k. take k ys) e
take_both (suc n) [] ys = let e : suc n - 0 ≡ suc n = omega arith in ap (λ k. take k ys) e
take_both (suc n) (x ∷ xs) ys =
    let e : suc n - length (x ∷ xs) ≡ n - length xs = omega arith in
    ap (λ k. (x ∷ take n xs) ++ take k ys) e ∙ ap (λ zs. x ∷ zs) (take_both n xs ys)

-- The first of two slices and what is left for the second are the first of both.
pub take_slices : {X : Type 0} (n here there : ℕ) (xs ys : List X) → here ≡ min n (length xs) → there ≡ min (n - here) (length ys)
    → take here xs ++ take there ys ≡ take n (xs ++ ys)
take_slices n here there xs ys h t =
    let e : take here xs ≡ take n xs = ap (λ k. take k xs) h ∙ take_min n xs in
    let f : take there ys ≡ take (n - here) ys = ap (λ k. take k ys) t ∙ take_min (n - here) ys in
    let i : n - here ≡ n - length xs = omega arith in
    let g : take (n - here) ys ≡ take (n - length xs) ys = ap (λ k. take k ys) i in
    ap (λ zs. zs ++ take there ys) e ∙ ap (λ zs. take n xs ++ zs) (f ∙ g) ∙ take_both n xs ys

pub packed : (n clock here there : ℕ) (xs ys items : List Msg) → here ≡ min n (length xs) → there ≡ min (n - here) (length ys) → xs ++ ys ≡ items → All Fits items → 0 < length items → 1 ≤ n → n ≤ MAX_MESSAGES → clock ≤ MAX_CLOCK
    → IsPacket (record { clock = clock; messages = take here xs ++ take there ys })
packed n clock here there xs ys items h t e f s l m c =
    let w : take here xs ++ take there ys ≡ take n items = take_slices n here there xs ys h t ∙ ap (take n) e in
    subst (λ (ms : List Msg). IsPacket (record { clock = clock; messages = ms })) (sym w) (record {
      clock = c;
      some = omega (arith, length-take n items);
      most = omega (arith, length-take n items);
      fit = All-take Fits n items f;
    })

pub ruleset at_ends = (end_sum, end_none, end_empty, end_other)

pub ruleset all_kept = (All-drop, All-push, All-set)
