-- The least of a list is its first.
use Rattle.std.proofs.Common.{◌==◌, nat_lt, subst, slice_index_or, ◌≡◌, ℕ, zero, suc, ◌<◌, Bool, true, false, if◌then◌else◌, List, [], ◌∷◌, length, Option, Some, None, Contains, refl, sym, ap, ◌∙◌, arith, ◌⊎◌, inl, inr}
use Rattle.std.proofs.lemmas.Bool.Decides.{nat_tests}
use Rattle.std.proofs.lemmas.List.Elements.{All-cons}
use Rattle.gr_syntax.specs.Faults.{comes_before, rank, IsFirst}
use Rattle.gr_checker.specs.EarliestWords.{least}
use Rattle.gr_syntax.specs.declared.refusal.Fault.{Fault}
use Rattle.gr_syntax.specs.declared.refusal.Kind.{Kind}
use Rattle.gr_syntax.specs.declared.refusal.Kind.TheVariants as k

abbrev head : {X : Type 0} (x : X) (xs : List X) → Contains (x ∷ xs) x
head x xs = (0, omega arith, refl)

abbrev tail : {X : Type 0} (x y : X) (xs : List X) → Contains xs y → Contains (x ∷ xs) y
tail x y xs c = (suc c.0, omega arith, c.2)

abbrev lex : ℕ → ℕ → Bool → Bool
lex a l u = if a == l then u else nat_lt a l

lex-same : (a : ℕ) (u : Bool) → u ≡ false → lex a a u ≡ false
lex-same a u h = grind (arith, nat_tests)

lex-after : (a l p : ℕ) (u v w : Bool) → (u ≡ true → v ≡ false → w ≡ false) → lex a l u ≡ true → lex a p v ≡ false → lex l p w ≡ false
lex-after a l p u v w next h k = grind (arith, nat_tests)

lex-apart : (a l p : ℕ) (u v w : Bool) → (w ≡ false → u ≡ false → v ≡ false) → lex l p w ≡ false → lex a l u ≡ false → lex a p v ≡ false
lex-apart a l p u v w next h k = grind (arith, nat_tests)

lt-same : (c : ℕ) → nat_lt c c ≡ false
lt-same c = grind (arith, nat_tests)

lt-after : (c n r : ℕ) → nat_lt c n ≡ true → nat_lt c r ≡ false → nat_lt n r ≡ false
lt-after c n r h k = grind (arith, nat_tests)

lt-apart : (c n r : ℕ) → nat_lt n r ≡ false → nat_lt c n ≡ false → nat_lt c r ≡ false
lt-apart c n r h k = grind (arith, nat_tests)

irreflexive : (f : Fault) → comes_before f f ≡ false
irreflexive f = lex-same f.at.line _ (lex-same f.at.column _ (lt-same (rank f.kind)))

-- x before g and not before f: then g is not before f
after_all : (x g f : Fault) → comes_before x g ≡ true → comes_before x f ≡ false → comes_before g f ≡ false
after_all x g f = lex-after x.at.line g.at.line f.at.line _ _ _ (lex-after x.at.column g.at.column f.at.column _ _ _ (lt-after (rank x.kind) (rank g.kind) (rank f.kind)))

-- g not before f, x not before g: then x is not before f
not_before : (x g f : Fault) → comes_before g f ≡ false → comes_before x g ≡ false → comes_before x f ≡ false
not_before x g f = lex-apart x.at.line g.at.line f.at.line _ _ _ (lex-apart x.at.column g.at.column f.at.column _ _ _ (lt-apart (rank x.kind) (rank g.kind) (rank f.kind)))

record Least (g : Fault) (fs : List Fault) : Type 0 where
  first_one : Fault
  is : least (Some g) fs ≡ Some first_one
  holds : IsFirst first_one (g ∷ fs)

least-is : (fs : List Fault) (g : Fault) → Least g fs
least-is [] g = record {
  first_one = g;
  is = refl;
  holds = record { among = head g []; first = All-cons (λ y. comes_before y g ≡ false) g [] (irreflexive g) (λ k d h. absurd (omega arith)) };
}
least-is (x ∷ fs) g = by (comes_before x g) refl (least-is fs x) (least-is fs g)
  where
    by : (b : Bool) → comes_before x g ≡ b → Least x fs → Least g fs → Least g (x ∷ fs)
    by true e a b = record {
      first_one = a.first_one;
      is = rw e a.is;
      holds = record {
        among = tail g a.first_one (x ∷ fs) a.holds.among;
        first = All-cons (λ y. comes_before y a.first_one ≡ false) g (x ∷ fs) (after_all x g a.first_one e (a.holds.first 0 x (omega arith))) a.holds.first;
      };
    }
    by false e a b = record {
      first_one = b.first_one;
      is = rw e b.is;
      holds = record {
        among = later b.holds.among.0 b.holds.among.1 b.holds.among.2;
        first = All-cons (λ y. comes_before y b.first_one ≡ false) g (x ∷ fs) (b.holds.first 0 g (omega arith))
            (All-cons (λ y. comes_before y b.first_one ≡ false) x fs (not_before x g b.first_one (b.holds.first 0 g (omega arith)) e)
            (λ k d h. b.holds.first (suc k) d (omega arith)));
      };
    }
      where
        later : (k : ℕ) → k < length (g ∷ fs) → slice_index_or (g ∷ fs) k b.first_one ≡ b.first_one → Contains (g ∷ x ∷ fs) b.first_one
        later zero h i = (0, omega arith, i)
        later (suc k) h i = (suc (suc k), omega arith, i)

pub least-first : (fs : List Fault) (f : Fault) → least None fs ≡ Some f → IsFirst f fs
least-first [] f h = absurd (cc)
least-first (g ∷ fs) f h =
    let l = least-is fs g in
    let e : l.first_one ≡ f = cc (l.is, h) in
    subst (λ x. IsFirst x (g ∷ fs)) e l.holds

pub least-none : (fs : List Fault) → least None fs ≡ None → fs ≡ []
least-none [] h = refl
least-none (g ∷ fs) h = let l = least-is fs g in absurd (cc (l.is, h))

-- A list has at most one first fault.
lex-equal : (a l : ℕ) (u v : Bool) → lex a l u ≡ false → lex l a v ≡ false → a ≡ l
lex-equal a l u v h k = grind (arith, nat_tests)

lex-left : (a l : ℕ) (u v : Bool) → lex a l u ≡ false → lex l a v ≡ false → u ≡ false
lex-left a l u v h k = grind (arith, nat_tests)

lt-equal : (a l : ℕ) → nat_lt a l ≡ false → nat_lt l a ≡ false → a ≡ l
lt-equal a l h k = grind (arith, nat_tests)

kind_at : ℕ → Kind
kind_at n =
    if n == 1 then k.BadByte else
    if n == 2 then k.NumberTooWide else
    if n == 3 then k.NameTooLong else
    if n == 4 then k.Unexpected else
    if n == 5 then k.UnexpectedEnd else
    if n == 6 then k.NoMain else
    if n == 7 then k.MainHasParams else
    if n == 8 then k.Duplicate else
    if n == 9 then k.Unknown else
    if n == 10 then k.WrongKind else
    if n == 11 then k.WrongArity else
    if n == 12 then k.TooMany else
    if n == 13 then k.HeapTooLarge else
    if n == 14 then k.InputTooLong else
    k.InputUnknown

kind_at-rank : (kind : Kind) → kind_at (rank kind) ≡ kind
unfolding kind_at
kind_at-rank k.BadByte = refl
kind_at-rank k.NumberTooWide = refl
kind_at-rank k.NameTooLong = refl
kind_at-rank k.Unexpected = refl
kind_at-rank k.UnexpectedEnd = refl
kind_at-rank k.NoMain = refl
kind_at-rank k.MainHasParams = refl
kind_at-rank k.Duplicate = refl
kind_at-rank k.Unknown = refl
kind_at-rank k.WrongKind = refl
kind_at-rank k.WrongArity = refl
kind_at-rank k.TooMany = refl
kind_at-rank k.HeapTooLarge = refl
kind_at-rank k.InputTooLong = refl
kind_at-rank k.InputUnknown = refl

neither : (f g : Fault) → comes_before f g ≡ false → comes_before g f ≡ false → f ≡ g
neither f g h j =
    let u = if f.at.column == g.at.column then nat_lt (rank f.kind) (rank g.kind) else nat_lt f.at.column g.at.column in
    let v = if g.at.column == f.at.column then nat_lt (rank g.kind) (rank f.kind) else nat_lt g.at.column f.at.column in
    let line = lex-equal f.at.line g.at.line u v h j in
    let a = lex-left f.at.line g.at.line u v h j in
    let b = lex-left g.at.line f.at.line v u j h in
    let column = lex-equal f.at.column g.at.column (nat_lt (rank f.kind) (rank g.kind)) (nat_lt (rank g.kind) (rank f.kind)) a b in
    let c = lex-left f.at.column g.at.column (nat_lt (rank f.kind) (rank g.kind)) (nat_lt (rank g.kind) (rank f.kind)) a b in
    let d = lex-left g.at.column f.at.column (nat_lt (rank g.kind) (rank f.kind)) (nat_lt (rank f.kind) (rank g.kind)) b a in
    let kind = sym (kind_at-rank f.kind) ∙ ap kind_at (lt-equal (rank f.kind) (rank g.kind) c d) ∙ kind_at-rank g.kind in
    λ i. record { kind = kind i; at = record { line = line i; column = column i } }

-- A list is empty or has a first fault.
pub none-or-first : (fs : List Fault) → (fs ≡ []) ⊎ ((f : Fault) × IsFirst f fs)
none-or-first fs = by (least None fs) refl
  where
    by : (o : Option Fault) → least None fs ≡ o → (fs ≡ []) ⊎ ((f : Fault) × IsFirst f fs)
    by None e = inl (least-none fs e)
    by (Some f) e = inr (f, least-first fs f e)

pub first-unique : (fs : List Fault) (f g : Fault) → IsFirst f fs → IsFirst g fs → f ≡ g
first-unique fs f g a b = neither f g
    (subst (λ x. comes_before x g ≡ false) a.among.2 (b.first a.among.0 f a.among.1))
    (subst (λ x. comes_before x f ≡ false) b.among.2 (a.first b.among.0 g b.among.1))

-- A list with a first fault is not empty.
pub first-some : (fs : List Fault) (f : Fault) → IsFirst f fs → fs ≡ [] → ⊥
first-some fs f a e = none (subst (λ l. Contains l f) e a.among)
  where
    none : Contains [] f → ⊥
    none c = absurd (omega (arith, c.1))
