-- The arguments of a start, and the new task, which the last two fields name.
use Rattle.std.proofs.Common.{◌≡◌, ◌∙◌, ◌≤◌, ◌-◌, ap, ap₂, ℕ, List, map, length, take, drop, Bor, nat_lt}
use Rattle.std.specs.Prelude.{cond, None, Bool}
use Rattle.std.proofs.lemmas.Bool.{le-ltb}
use Rattle.std.proofs.lemmas.List.{take-map, drop-map, length-map}
use Rattle.gr_hist.specs.Names.{Bytes}
use Rattle.gr_hist.specs.FieldWords.{args_of, args_with}

abbrev told : Bor Bytes → Bytes
told field = field.now

-- The fields, cut before the last two.
pub args_are : (fields : List (Bor Bytes)) → 2 ≤ length fields
    → args_of (map (λ field. field.now) fields) ≡ args_with (map (λ field. field.now) (take (length fields - 2) fields)) (map (λ field. field.now) (drop (length fields - 2) fields))
unfolding args_of
args_are fields some =
    let n : length (map told fields) ≡ length fields = length-map fields told in
    ap (λ (k : ℕ). cond (nat_lt k 2) None (args_with (take (k - 2) (map told fields)) (drop (k - 2) (map told fields)))) n
    ∙ ap (λ (b : Bool). cond b None (args_with (take (length fields - 2) (map told fields)) (drop (length fields - 2) (map told fields)))) (le-ltb (length fields) 2 some)
    ∙ ap₂ args_with (take-map told (length fields - 2) fields) (drop-map told (length fields - 2) fields)
