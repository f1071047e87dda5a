-- Texts that are lent, and the texts themselves.
use Rattle.std.proofs.Common.{◌≡◌, ℕ, Bool, true, false, List, [], ◌∷◌, ◌++◌, map, if◌then◌else◌, ◌||◌, Bor, refl, ap}
use Rattle.std.specs.List.{list_any}
use Rattle.std.specs.Str.{bytes_eq}
use Rattle.std.proofs.lemmas.List.{map-append}
use Rattle.indexmap.specs.IndexSet.{insert_key}
use Rattle.gr_syntax.specs.Names.{has, with_name}

pub has-map : (q : List ℕ) (ks : List (Bor (List ℕ))) → list_any (λ k. bytes_eq q k.now) ks ≡ has (map (λ k. k.now) ks) q
has-map q [] = refl
has-map q (k ∷ ks) = ap (λ b. bytes_eq q k.now || b) (has-map q ks)

pub add-map : (k : Bor (List ℕ)) (ks : List (Bor (List ℕ))) → map (λ k. k.now) (insert_key (λ x y. bytes_eq x.now y.now) ks k) ≡ with_name (map (λ k. k.now) ks) k.now
add-map k ks = by (list_any (λ x. bytes_eq k.now x.now) ks) (has (map (λ k. k.now) ks) k.now) (has-map k.now ks)
  where
    by : (a b : Bool) → a ≡ b → map (λ k. k.now) (if a then ks else ks ++ k ∷ []) ≡ (if b then map (λ k. k.now) ks else map (λ k. k.now) ks ++ k.now ∷ [])
    by true b e = rw (← e) refl
    by false b e = rw (← e) (map-append (λ k. k.now) ks (k ∷ []))
