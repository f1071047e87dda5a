-- Words under keys, one pair after the other.
use Rattle.std.proofs.Common.{◌≡◌, ℕ, ◌+◌, ◌<◌, ◌≤◌, List, [], ◌∷◌, Bool, true, false, Option, Some, None, refl, sym, ap, ◌∙◌, cond, length, drop, get_or, eqb-true}
use Rattle.std.proofs.lemmas.List.{at_drop_all, at_drop_more}
use Rattle.std.specs.Prelude.{is_some}
use Rattle.std.specs.Option.{option_or}
use Rattle.std.specs.Ordering.{nat_cmp}
use Rattle.std.specs.Cmp.{unsigned_tied, nat_cmp_total, eq_by_cmp_equiv}
use Rattle.std.specs.Map.{lookup}
use Rattle.std.specs.BTreeMap.{is_at}
use Rattle.gr_vector.specs.Parts.{part_of}

abbrev at_key : List (ℕ × ℕ) → ℕ → Option ℕ
at_key pairs key = lookup (is_at (nat_cmp key)) pairs

or_none : (x : Option ℕ) → x ≡ option_or x None
or_none None = refl
or_none (Some w) = refl

or_assoc : (x y z : Option ℕ) → option_or (option_or x y) z ≡ option_or x (option_or y z)
or_assoc None y z = refl
or_assoc (Some w) y z = refl

-- What stands under keys that tie is the same.
tied : (pairs : List (ℕ × ℕ)) (key at : ℕ) → is_at (nat_cmp at) key ≡ true → at_key pairs at ≡ at_key pairs key
tied pairs key at h = ap (at_key pairs) (eqb-true at key (sym (unsigned_tied at key) ∙ h))

kept_by : (b : Bool) (word : ℕ) (x y : Option ℕ) → (b ≡ true → x ≡ y) → is_some y ≡ true → x ≡ option_or x (cond b (Some word) None)
kept_by true word x (Some w) e h = e refl ∙ ap (λ (z : Option ℕ). option_or z (Some word)) (sym (e refl))
kept_by true word x None e h = absurd (none_some h)
  where
    none_some : is_some {T = ℕ} None ≡ true → ⊥
    none_some h = cc
kept_by false word x y e h = or_none x

-- A key that is there keeps its word.
pub kept : (old : List (ℕ × ℕ)) (key word at : ℕ) → is_some (at_key old key) ≡ true → part_of old at ≡ option_or (part_of old at) (part_of ((key, word) ∷ []) at)
unfolding part_of
kept old key word at h = kept_by (is_at (nat_cmp at) key) word (at_key old at) (at_key old key) (tied old key at) h

noted_by : (b c : Bool) (word : ℕ) (x y z : Option ℕ) → b ≡ c → (c ≡ true → x ≡ y) → is_some y ≡ false → z ≡ cond b (Some word) x → z ≡ option_or x (cond c (Some word) None)
noted_by b true word x None z e same h is = is ∙ ap (λ (d : Bool). cond d (Some word) x) e ∙ ap (λ (w : Option ℕ). option_or w (Some word)) (sym (same refl))
noted_by b true word x (Some w) z e same h is = cc
noted_by b false word x y z e same h is = is ∙ ap (λ (d : Bool). cond d (Some word) x) e ∙ or_none x

-- One that isn't there gets one.
pub noted : (old new : List (ℕ × ℕ)) (key word at : ℕ) → is_some (at_key old key) ≡ false
    → at_key new at ≡ cond (is_at (nat_cmp key) at) (Some word) (at_key old at)
    → part_of new at ≡ option_or (part_of old at) (part_of ((key, word) ∷ []) at)
unfolding part_of
noted old new key word at h is = noted_by (is_at (nat_cmp key) at) (is_at (nat_cmp at) key) word (at_key old at) (at_key old key) (at_key new at)
    ((eq_by_cmp_equiv nat_cmp_total).symm key at) (tied old key at) h is

pub ruleset notes = (kept, noted)

part_cons : (pair : ℕ × ℕ) (more : List (ℕ × ℕ)) (at : ℕ) → part_of (pair ∷ more) at ≡ option_or (part_of (pair ∷ []) at) (part_of more at)
unfolding part_of
part_cons pair more at = by (is_at (nat_cmp at) pair.0)
  where
    by : (b : Bool) → cond b (Some pair.1) (at_key more at) ≡ option_or (cond b (Some pair.1) None) (at_key more at)
    by true = refl
    by false = refl

-- One pair more is noted.
pub noted_more : (pairs : List (ℕ × ℕ)) (i : ℕ) (pair : ℕ × ℕ) (before now all : Option ℕ) (at : ℕ) → i < length pairs
    → now ≡ option_or before (part_of (get_or pairs i pair ∷ []) at) → option_or before (part_of (drop i pairs) at) ≡ all
    → option_or now (part_of (drop (i + 1) pairs) at) ≡ all
noted_more pairs i pair before now all at lt step h =
    ap (λ (x : Option ℕ). option_or x (part_of (drop (i + 1) pairs) at)) step
    ∙ or_assoc before (part_of (get_or pairs i pair ∷ []) at) (part_of (drop (i + 1) pairs) at)
    ∙ ap (option_or before) (sym (at_drop_more (λ xs. part_of xs at) pairs i pair lt ∙ part_cons (get_or pairs i pair) (drop (i + 1) pairs) at))
    ∙ h

none_part : (at : ℕ) → part_of [] at ≡ None
unfolding part_of
none_part at = refl

-- All pairs are noted.
pub noted_all : (pairs : List (ℕ × ℕ)) (i : ℕ) (now all : Option ℕ) (at : ℕ) → length pairs ≤ i → option_or now (part_of (drop i pairs) at) ≡ all → now ≡ all
noted_all pairs i now all at le h = or_none now ∙ ap (option_or now) (sym (at_drop_all (λ xs. part_of xs at) pairs i le ∙ none_part at)) ∙ h
