-- What the tests and the meanings of tokens say.
use Rattle.std.proofs.Common.{◌≡◌, ℕ, ◌<◌, Bool, true, false, cond, Option, Some, None, refl, sym, ap, subst, ◌∙◌, arith, rules, eqb}
use Rattle.std.proofs.lemmas.Bool.{eqb-true}
use denote.Enum.Bare.{same_true}
use Rattle.gr_meets.specs.LanguageWords.{Tests}
use Rattle.gr_syntax.specs.declared.syntax.Name.{Name}
use Rattle.gr_syntax.specs.declared.syntax.Number.{Number}
use Rattle.gr_syntax.specs.declared.syntax.BinOp.{BinOp}
use Rattle.gr_syntax.specs.declared.syntax.BinOp.TheVariants as op
use Rattle.gr_text.specs.contracts.token.Keyword as keywords
use Rattle.gr_text.specs.declared.token.Keyword.{Keyword}
use Rattle.gr_text.specs.contracts.token.Sign as signs
use Rattle.gr_text.specs.declared.token.Sign.{Sign}
use Rattle.gr_text.specs.declared.token.Sign.TheVariants as s
use Rattle.gr_expressions.specs.Tok.{Tok, same_sign, is_sign, heap_name, sign_of, level_of}
use Rattle.gr_expressions.specs.TokWords.{same_key, is_key, is_missing, name_of, number_of, heap_of, object_of, op_of_sign, of_level, operator}
use Rattle.gr_expressions.specs.Expressions.{IsObject}

pub same_sign_self : (g : Sign) → same_sign g g ≡ true
unfolding same_sign
same_sign_self g = search rules

sign_only : (g : Sign) (u : Tok) → is_sign g u ≡ true → u ≡ Tok.sign g
unfolding same_sign
sign_only g (Tok.sign h) e = ap (λ (q : Sign). Tok.sign q) (same_true signs.the_type (search rules) h g e)
sign_only g (Tok.name n) e = absurd cc
sign_only g (Tok.number n) e = absurd cc
sign_only g (Tok.heap at) e = absurd cc
sign_only g (Tok.key w) e = absurd cc
sign_only g Tok.missing e = absurd cc

pub sign_test : (g : Sign) → Tests (is_sign g) (Tok.sign g)
sign_test g = record { own = same_sign_self g; only = sign_only g }

pub same_key_self : (w : Keyword) → same_key w w ≡ true
unfolding same_key
same_key_self w = search rules

key_only : (w : Keyword) (u : Tok) → is_key w u ≡ true → u ≡ Tok.key w
unfolding same_key
key_only w (Tok.key v) e = ap (λ (q : Keyword). Tok.key q) (same_true keywords.the_type (search rules) v w e)
key_only w (Tok.name n) e = absurd cc
key_only w (Tok.number n) e = absurd cc
key_only w (Tok.heap at) e = absurd cc
key_only w (Tok.sign g) e = absurd cc
key_only w Tok.missing e = absurd cc

pub key_test : (w : Keyword) → Tests (is_key w) (Tok.key w)
key_test w = record { own = same_key_self w; only = key_only w }

missing_only : (u : Tok) → is_missing u ≡ true → u ≡ Tok.missing
missing_only Tok.missing e = refl
missing_only (Tok.key v) e = absurd cc
missing_only (Tok.name n) e = absurd cc
missing_only (Tok.number n) e = absurd cc
missing_only (Tok.heap at) e = absurd cc
missing_only (Tok.sign g) e = absurd cc

pub missing_test : Tests is_missing Tok.missing
missing_test = record { own = refl; only = missing_only }

-- ---- meanings

pub name_is : (t : Tok) (n : Name) → name_of t ≡ Some n → t ≡ Tok.name n
name_is (Tok.name m) n e = let k : m ≡ n = cc in ap (λ (q : Name). Tok.name q) k
name_is (Tok.number m) n e = absurd cc
name_is (Tok.heap at) n e = absurd cc
name_is (Tok.key w) n e = absurd cc
name_is (Tok.sign g) n e = absurd cc
name_is Tok.missing n e = absurd cc

pub number_is : (t : Tok) (n : Number) → number_of t ≡ Some n → t ≡ Tok.number n
number_is (Tok.number m) n e = let k : m ≡ n = cc in ap (λ (q : Number). Tok.number q) k
number_is (Tok.name m) n e = absurd cc
number_is (Tok.heap at) n e = absurd cc
number_is (Tok.key w) n e = absurd cc
number_is (Tok.sign g) n e = absurd cc
number_is Tok.missing n e = absurd cc

pub object_is : (t : Tok) (n : Name) → object_of t ≡ Some n → IsObject t n
object_is (Tok.name m) n e = let k : m ≡ n = cc in subst (λ (q : Name). IsObject (Tok.name m) q) k IsObject.named
object_is (Tok.heap at) n e = let k : heap_name at ≡ n = cc in subst (λ (q : Name). IsObject (Tok.heap at) q) k IsObject.heap
object_is (Tok.number m) n e = absurd cc
object_is (Tok.key w) n e = absurd cc
object_is (Tok.sign g) n e = absurd cc
object_is Tok.missing n e = absurd cc

pub heap_is : (t : Tok) (n : Name) → heap_of t ≡ Some n → IsObject t n
heap_is (Tok.heap at) n e = let k : heap_name at ≡ n = cc in subst (λ (q : Name). IsObject (Tok.heap at) q) k IsObject.heap
heap_is (Tok.name m) n e = absurd cc
heap_is (Tok.number m) n e = absurd cc
heap_is (Tok.key w) n e = absurd cc
heap_is (Tok.sign g) n e = absurd cc
heap_is Tok.missing n e = absurd cc

pub object_means : {t : Tok} {n : Name} → IsObject t n → object_of t ≡ Some n
object_means (IsObject.named {object = n}) = refl
object_means (IsObject.heap {at}) = refl

-- ---- binary signs

pub sign_means : (o : BinOp) → op_of_sign (sign_of o) ≡ Some o
sign_means op.Eq = refl
sign_means op.Ne = refl
sign_means op.Lt = refl
sign_means op.Le = refl
sign_means op.Gt = refl
sign_means op.Ge = refl
sign_means op.Or = refl
sign_means op.Xor = refl
sign_means op.And = refl
sign_means op.Add = refl
sign_means op.Sub = refl
sign_means op.Mul = refl
sign_means op.Div = refl
sign_means op.Rem = refl

-- A sign that is written for a, and for whatever it means.
written : (a o : BinOp) → ◌≡◌ {A = Option BinOp} (Some a) (Some o) → sign_of a ≡ sign_of o
written a o e = let k : a ≡ o = cc in ap sign_of k

pub sign_written : (g : Sign) (o : BinOp) → op_of_sign g ≡ Some o → g ≡ sign_of o
sign_written s.EqualEqual o e = written op.Eq o e
sign_written s.BangEqual o e = written op.Ne o e
sign_written s.Less o e = written op.Lt o e
sign_written s.LessEqual o e = written op.Le o e
sign_written s.Greater o e = written op.Gt o e
sign_written s.GreaterEqual o e = written op.Ge o e
sign_written s.Bar o e = written op.Or o e
sign_written s.Caret o e = written op.Xor o e
sign_written s.Ampersand o e = written op.And o e
sign_written s.Plus o e = written op.Add o e
sign_written s.Minus o e = written op.Sub o e
sign_written s.Star o e = written op.Mul o e
sign_written s.Slash o e = written op.Div o e
sign_written s.Percent o e = written op.Rem o e
sign_written _ o e = absurd cc

-- The token is the sign of o, and o is of this level.
pub record IsOperator (level : ℕ) (o : BinOp) (t : Tok) : Type 0 where
  pub is : t ≡ Tok.sign (sign_of o)
  pub at : level_of o ≡ level

test_is : (l : ℕ) (a o : BinOp) (v : Bool) → eqb (level_of a) l ≡ v → cond v (Some a) None ≡ Some o → (a ≡ o) × (level_of o ≡ l)
test_is l a o true e h = let k : a ≡ o = cc in (k, ap level_of (sym k) ∙ eqb-true (level_of a) l e)
test_is l a o false e h = absurd cc

operator_of : (l : ℕ) (o : BinOp) (g : Sign) (m : Option BinOp) → op_of_sign g ≡ m → of_level l m ≡ Some o → IsOperator l o (Tok.sign g)
operator_of l o g None e h = absurd cc
operator_of l o g (Some a) e h = let k = test_is l a o (eqb (level_of a) l) refl h in record { is = ap (λ (q : Sign). Tok.sign q) (sign_written g o (e ∙ ap (λ q. Some q) k.0)); at = k.1 }

pub operator_is : (l : ℕ) (o : BinOp) (t : Tok) → operator l t ≡ Some o → IsOperator l o t
unfolding operator
operator_is l o (Tok.sign g) h = operator_of l o g (op_of_sign g) refl h
operator_is l o (Tok.name n) h = absurd cc
operator_is l o (Tok.number n) h = absurd cc
operator_is l o (Tok.heap at) h = absurd cc
operator_is l o (Tok.key w) h = absurd cc
operator_is l o Tok.missing h = absurd cc

of_level_own : (l : ℕ) (o : BinOp) → level_of o ≡ l → of_level l (Some o) ≡ Some o
of_level_own l o e = grind arith

of_level_other : (i l : ℕ) (o : BinOp) → level_of o ≡ l → i < l → of_level i (Some o) ≡ None
of_level_other i l o e h = grind arith

pub operator_own : (l : ℕ) (o : BinOp) → level_of o ≡ l → operator l (Tok.sign (sign_of o)) ≡ Some o
unfolding operator
operator_own l o e = ap (of_level l) (sign_means o) ∙ of_level_own l o e

pub operator_other : (i l : ℕ) (o : BinOp) → level_of o ≡ l → i < l → operator i (Tok.sign (sign_of o)) ≡ None
unfolding operator
operator_other i l o e h = ap (of_level i) (sign_means o) ∙ of_level_other i l o e h
