-- A local that is set, in the list of all.
use Rattle.std.proofs.Common.{◌≡◌, ℕ, zero, suc, ◌<◌, true, List, [], ◌∷◌, ◌++◌, length, take, drop, refl, ap, arith, slice_index_or, slice_set}
use Rattle.std.specs.Str.{bytes_eq}
use Rattle.gr_lang.specs.Locals.{set_word}
use Rattle.gr_steps.specs.LocalView.{locals_of, pair_of}
use Rattle.gr_steps.specs.declared.locals.Local.{Local}

-- where the name at i is the name that is set, the rest changes at its head
pub set_word-hit : (es : List Local) (i : ℕ) (d : Local) (name : List ℕ) (w : ℕ) → i < length es → bytes_eq (slice_index_or es i d).name.now name ≡ true
    → locals_of (slice_set es i (record { name = (slice_index_or es i d).name; word = w })) ≡ locals_of (take i es) ++ set_word (locals_of (drop i es)) name w
set_word-hit [] i d name w lt h = absurd (omega arith)
set_word-hit (e ∷ es) zero d name w lt h = rw h refl
set_word-hit (e ∷ es) (suc i) d name w lt h = ap (λ x. pair_of e ∷ x) (set_word-hit es i d name w (omega arith) h)
