-- The example's parser is exact.
use Rattle.std.proofs.Common.{◌≡◌, ℕ, zero, suc, ◌+◌, ◌<◌, true, false, List, [], ◌∷◌, ◌++◌, length, Some, Ok, refl, sym, ap, subst, ◌∙◌, arith}
use Rattle.std.proofs.lemmas.List.{append-nil}
use Rattle.gr_meets.specs.Parsers.{◌>>=◌, ◌>>◌, pure, expect, sees, peek, halts, enclosed, levels, sign_of}
use Rattle.gr_meets.specs.LanguageWords.{Tests, Meets, Completes, Agree, Shortens, Exact}
use Rattle.gr_meets.specs.Lists.{Chained, Enclosed, Levels, Spends}
use Rattle.gr_meets.specs.ListsWords.{Begins, Loose}
use Rattle.gr_meets.specs.Example.{Token, Number, Open, Close, Begin, End, Comma, Plus, Times, Tree, Leaf, Two, is_open, is_close, is_begin, is_end, is_comma, number, binds, OperandOf, IsOperand, IsSum, IsLine, IsText, leaf, operand, sum, line, never, text}
use Rattle.gr_meets.proofs.Meets.{weaken, meets_pure, expect_then, either_meets, value_then, bind}
use Rattle.gr_meets.proofs.Completes.{expect_reads, either_first, either_second, value_reads, reads_then, reads_last, reads_whole}
use Rattle.gr_meets.proofs.Agrees.{agree_self, agree_expect, shortens, takes}
use Rattle.gr_meets.proofs.Runs.{run_meets, run_completes, run_agree, run_takes_all}
use Rattle.gr_meets.proofs.Commas.{enclosed_meets, enclosed_completes, enclosed_agree, separated_meets}
use Rattle.gr_meets.proofs.Levels.{levels_meets, levels_completes, levels_first, signs_apart}

-- ---- tokens

opens : Tests is_open Open
opens = record { own = refl; only = elim [ Number n ↦ λ h. absurd cc | Open ↦ λ h. refl | Close ↦ λ h. absurd cc | Begin ↦ λ h. absurd cc | End ↦ λ h. absurd cc | Comma ↦ λ h. absurd cc | Plus ↦ λ h. absurd cc | Times ↦ λ h. absurd cc ] }

closes : Tests is_close Close
closes = record { own = refl; only = elim [ Number n ↦ λ h. absurd cc | Open ↦ λ h. absurd cc | Close ↦ λ h. refl | Begin ↦ λ h. absurd cc | End ↦ λ h. absurd cc | Comma ↦ λ h. absurd cc | Plus ↦ λ h. absurd cc | Times ↦ λ h. absurd cc ] }

begins : Tests is_begin Begin
begins = record { own = refl; only = elim [ Number n ↦ λ h. absurd cc | Open ↦ λ h. absurd cc | Close ↦ λ h. absurd cc | Begin ↦ λ h. refl | End ↦ λ h. absurd cc | Comma ↦ λ h. absurd cc | Plus ↦ λ h. absurd cc | Times ↦ λ h. absurd cc ] }

ends : Tests is_end End
ends = record { own = refl; only = elim [ Number n ↦ λ h. absurd cc | Open ↦ λ h. absurd cc | Close ↦ λ h. absurd cc | Begin ↦ λ h. absurd cc | End ↦ λ h. refl | Comma ↦ λ h. absurd cc | Plus ↦ λ h. absurd cc | Times ↦ λ h. absurd cc ] }

parts : Tests is_comma Comma
parts = record { own = refl; only = elim [ Number n ↦ λ h. absurd cc | Open ↦ λ h. absurd cc | Close ↦ λ h. absurd cc | Begin ↦ λ h. absurd cc | End ↦ λ h. absurd cc | Comma ↦ λ h. refl | Plus ↦ λ h. absurd cc | Times ↦ λ h. absurd cc ] }

numbers : (t : Token) (n : ℕ) → number t ≡ Some n → t ≡ Number n
numbers = elim [ Number m ↦ λ n h. cc | Open ↦ λ n h. absurd cc | Close ↦ λ n h. absurd cc | Begin ↦ λ n h. absurd cc | End ↦ λ n h. absurd cc | Comma ↦ λ n h. absurd cc | Plus ↦ λ n h. absurd cc | Times ↦ λ n h. absurd cc ]

-- ---- what was read

abbrev Operands : ℕ → ℕ → List Token → Tree × ℕ → Type 0
Operands d b = Spends (IsOperand d) b

abbrev Sums : ℕ → ℕ → List Token → Tree × ℕ → Type 0
Sums d b = Spends (Levels (sign_of binds) Two (IsOperand d) 2) b

leaf_is : (Inner : List Token → Tree → ℕ → Type 0) (b n : ℕ) (t : Token) → number t ≡ Some n → Spends (OperandOf Inner) b (t ∷ []) (Leaf n, b)
leaf_is Inner b n t h = subst (λ u. Spends (OperandOf Inner) b (u ∷ []) (Leaf n, b)) (sym (numbers t n h)) (record { signs = 0; spelled = OperandOf.single; sum = omega arith })

leaf_meets : (Inner : List Token → Tree → ℕ → Type 0) (b : ℕ) → Meets (leaf b) (Spends (OperandOf Inner) b) (Spends (OperandOf Inner) b)
unfolding leaf
leaf_meets Inner b = value_then (λ t n h. meets_pure (leaf_is Inner b n t h)) (Number 0 ∷ []) (Leaf 0, b) (leaf_is Inner b 0 (Number 0) refl)

grouped : (d b : ℕ) (a : List Token) (x : Tree × ℕ) → Sums d b a x → Operands (suc d) b (Open ∷ (a ++ Close ∷ [])) x
grouped d b a x h = record { signs = h.signs; spelled = OperandOf.group h.spelled; sum = h.sum }

operand_meets : (d b : ℕ) → Meets (operand d b) (Operands d b) (Operands d b)
unfolding operand
operand_meets zero b = leaf_meets (λ ts x n. ⊥) b
operand_meets (suc d) b = either_meets opens
    (bind (levels_meets (sign_of binds) Two (operand d) (IsOperand d) (operand_meets d) 2 b)
    (λ x. expect_then closes (meets_pure (λ a h. grouped d b a x h)) [] x (λ a h. grouped d b a x h))
    (λ a x h. (Close ∷ [], x, grouped d b a x h)))
    (leaf_meets (Levels (sign_of binds) Two (IsOperand d) 2) b)

sums_meets : (d b : ℕ) → Meets (levels (sign_of binds) Two (operand d) 2 b) (Sums d b) (Sums d b)
sums_meets d b = levels_meets (sign_of binds) Two (operand d) (IsOperand d) (operand_meets d) 2 b

sum_is : (d : ℕ) (a : List Token) (x : Tree × ℕ) → Sums d 4 a x → IsSum d (a ++ []) x.0
sum_is d a x h = subst (λ u. IsSum d u x.0) (sym (append-nil a)) (record { left = x.1; spelled = h })

sum_meets : (d : ℕ) → Meets (sum d) (IsSum d) (IsSum d)
unfolding sum
sum_meets d = bind (sums_meets d 4) (λ x. meets_pure (λ a h. sum_is d a x h)) (λ a x h. ([], x.0, sum_is d a x h))

some_leaf : (d b : ℕ) → Operands d b (Number 0 ∷ []) (Leaf 0, b)
some_leaf zero b = leaf_is (λ ts x n. ⊥) b 0 (Number 0) refl
some_leaf (suc d) b = leaf_is (Levels (sign_of binds) Two (IsOperand d) 2) b 0 (Number 0) refl

some_sum : (d : ℕ) → IsSum d (Number 0 ∷ []) (Leaf 0)
some_sum d = let h = some_leaf d 4 in record { left = 4; spelled = record { signs = h.signs; spelled = Chained.one (Chained.one h.spelled); sum = h.sum } }

line_is : (d : ℕ) (a : List Token) (xs : List Tree) → Enclosed End Comma (IsSum d) a xs → IsLine d (Begin ∷ a) xs
line_is d a xs h = IsLine.whole h

line_meets : (d n : ℕ) → Meets (line d n) (IsLine d) (IsLine d)
unfolding line
line_meets d n = expect_then begins (weaken (enclosed_meets ends parts n (sum_meets d) (Number 0 ∷ []) (Leaf 0) (some_sum d)) (line_is d) (line_is d)) (End ∷ []) [] (line_is d (End ∷ []) [] Enclosed.empty)

text_meets : (d n : ℕ) → Meets (text d n) (IsText d) (IsText d)
unfolding text
text_meets d n = run_meets never n (line_meets d n)

-- ---- what is spelled

-- What follows an operand: anything.
abbrev Any : List Token → Type 0
Any rest = Unit {0}

leaf_reads : (b n : ℕ) (rest : List Token) → leaf b (Number n ∷ rest) ≡ Ok ((Leaf n, b), rest)
unfolding leaf
leaf_reads b n rest = value_reads number (λ m. pure (Leaf m, b)) rest refl refl

open_unseen : (n : ℕ) (rest : List Token) → sees is_open (Number n ∷ rest) ≡ false
unfolding sees
open_unseen n rest = refl

close_loose : (rest : List Token) (l : ℕ) → Loose (sign_of binds) l (Close ∷ rest)
unfolding peek
close_loose rest l i h = refl

levels_read : (d n : ℕ) → ((b : ℕ) → Completes n (operand d b) (Operands d b) Any) → (b : ℕ) → Completes n (levels (sign_of binds) Two (operand d) 2 b) (Sums d b) (λ rest. Unit {0} × Loose (sign_of binds) 2 rest)
levels_read d n c b = levels_completes (sign_of binds) Two (operand d) (IsOperand d) (operand_meets d) n Any c (λ l t o rest h. tt) (signs_apart binds) 2 b

module _ (n : ℕ) where
  operand_reads : (d b : ℕ) (ts : List Token) (x : Tree) (s k : ℕ) → IsOperand d ts x s → s + k ≡ b → (rest : List Token) → length (ts ++ rest) < n → operand d b (ts ++ rest) ≡ Ok ((x, k), rest)
  unfolding operand
  operand_reads zero b ts x s k (OperandOf.single {n = v}) total rest few = leaf_reads b v rest ∙ ap (λ (q : ℕ). Ok ((Leaf v, q), rest)) (omega (arith, total))
  operand_reads zero b ts x s k (OperandOf.group h) total rest few = absurd h
  operand_reads (suc d) b ts x s k (OperandOf.single {n = v}) total rest few =
      either_second is_open (levels (sign_of binds) Two (operand d) 2 b >>= λ x. expect is_close >> pure x) (leaf b) (Number v ∷ rest) (open_unseen v rest) (leaf_reads b v rest) ∙ ap (λ (q : ℕ). Ok ((Leaf v, q), rest)) (omega (arith, total))
  operand_reads (suc d) b ts x s k (OperandOf.group {ts = us} h) total rest few =
      either_first opens (levels (sign_of binds) Two (operand d) 2 b >>= λ x. expect is_close >> pure x) (leaf b) ((us ++ Close ∷ []) ++ rest)
      (reads_then {x = (x, k)} (levels_read d n (λ b. record { reads = λ ts x h rest f few. operand_reads d b ts x.0 h.signs x.1 h.spelled h.sum rest few }) b) (record { signs = s; spelled = h; sum = total }) (Close ∷ []) rest (tt, close_loose rest 2) (omega (arith, few))
      (λ x. expect is_close >> pure x) (expect_reads closes (pure (x, k)) rest refl))

  pub operand_completes : (d b : ℕ) → Completes n (operand d b) (Operands d b) Any
  operand_completes d b = record { reads = λ ts x h rest f few. operand_reads d b ts x.0 h.signs x.1 h.spelled h.sum rest few }

  sum_completes : (d : ℕ) → Completes n (sum d) (IsSum d) (λ rest. Unit {0} × Loose (sign_of binds) 2 rest)
  unfolding sum
  sum_completes d = record { reads = λ ts x h rest f few. reads_last (levels_read d n (operand_completes d) 4) h.spelled rest f few (λ y. pure y.0) refl }

  -- No sum begins with a closing bracket.
  operand_first : (d : ℕ) (ts : List Token) (x : Tree) (s : ℕ) → IsOperand d ts x s → (rest : List Token) → sees is_end (ts ++ rest) ≡ false
  unfolding sees
  operand_first zero ts x s (OperandOf.single) rest = refl
  operand_first zero ts x s (OperandOf.group h) rest = absurd h
  operand_first (suc d) ts x s (OperandOf.single) rest = refl
  operand_first (suc d) ts x s (OperandOf.group h) rest = refl

  sum_first : (d : ℕ) (ts : List Token) (x : Tree) → IsSum d ts x → (rest : List Token) → sees is_end (ts ++ rest) ≡ false
  sum_first d ts x h rest = levels_first (sign_of binds) Two (IsOperand d) (λ u. sees is_end u ≡ false) (operand_first d) 2 ts x h.spelled.signs h.spelled.spelled rest

  comma_loose : (rest : List Token) → Loose (sign_of binds) 2 (Comma ∷ rest)
  unfolding peek
  comma_loose rest i h = refl

  end_loose : (rest : List Token) → Loose (sign_of binds) 2 (End ∷ rest)
  unfolding peek
  end_loose rest i h = refl

  line_reads : (d : ℕ) (ts : List Token) (xs : List Tree) → IsLine d ts xs → (rest : List Token) → length (ts ++ rest) < n → line d n (ts ++ rest) ≡ Ok (xs, rest)
  unfolding line
  line_reads d ts xs (IsLine.whole {ts = us} h) rest few = expect_reads begins (enclosed is_end is_comma (sum d) n) (us ++ rest)
      ((enclosed_completes ends parts (sum_completes d) (λ r. (tt, comma_loose r)) (λ r. (tt, end_loose r)) refl (sum_first d)).reads us xs h rest tt (omega (arith, few)))

  line_completes : (d : ℕ) → Completes n (line d n) (IsLine d) Any
  line_completes d = record { reads = λ ts xs h rest f few. line_reads d ts xs h rest few }

  line_goes : (d : ℕ) (ts : List Token) (xs : List Tree) → IsLine d ts xs → (rest : List Token) → halts never (ts ++ rest) ≡ false
  unfolding halts
  line_goes d ts xs (IsLine.whole h) rest = refl

  line_begins : (d : ℕ) → Begins never (IsLine d) Any
  line_begins d = record { goes = line_goes d; follows = λ ts x h rest. tt }

  text_completes : (d : ℕ) → Completes n (text d n) (IsText d) (λ rest. Unit {0} × halts never rest ≡ true)
  unfolding text
  text_completes d = run_completes (line_completes d) (line_begins d)

-- ---- enough turns, and all together

sum_shortens : (d : ℕ) → Shortens (sum d)
sum_shortens d = shortens (sum_meets d)

line_agree : (d n m : ℕ) → Agree n m (line d n) (line d m)
unfolding line
line_agree d n m = agree_expect is_begin (enclosed_agree is_end is_comma (agree_self {p = sum d}) (sum_shortens d) (shortens (separated_meets parts n (sum_meets d) (Number 0 ∷ []) (Leaf 0) (some_sum d))))

line_long : (d : ℕ) (ts : List Token) (xs : List Tree) → IsLine d ts xs → 0 < length ts
line_long d ts xs (IsLine.whole {ts = us} h) = omega arith

text_agree : (d n m : ℕ) → Agree n m (text d n) (text d m)
unfolding text
text_agree d n m = run_agree never [] (line_agree d n m) (takes (line_meets d n) (line_long d))

text_ends : (d n : ℕ) (ts : List Token) (xs : List (List Tree)) (rest : List Token) → text d n ts ≡ Ok (xs, rest) → rest ≡ []
unfolding text
text_ends d n ts xs rest h = run_takes_all never (line d n) n [] xs ts rest (λ t. refl) h

nothing_halts : halts never [] ≡ true
unfolding halts
nothing_halts = refl

-- The parser reads exactly the texts.
pub exact : (d : ℕ) → Exact (text d) (IsText d)
exact d = record {
  meets = text_meets d;
  agree = text_agree d;
  ends = text_ends d;
  reads = λ n ts xs h few. reads_whole (text_completes n d) (tt, nothing_halts) ts xs h few;
}
