-- Each reducer is associative.
use Rattle.std.proofs.Common.{◌≡◌, refl, sym, ap, ◌∙◌, ℕ, ◌+◌, ◌%◌, ◌^◌, ◌==◌, Bool, true, false, arith, cond}
use Rattle.std.specs.Prelude.{min, max, bit_or, bit_and, bit_xor}
use Rattle.std.specs.Int.{bit_at}
use Rattle.std.specs.Int.Bits.{xor_assoc}
use Rattle.std.proofs.lemmas.Nat.Bits.{bit_at_or, same_from_bits}
use Rattle.std.proofs.Math.Nat.{add-mod-mod, add_comm}
use Rattle.std.proofs.lemmas.Nat.{and_assoc}
use Rattle.gr_lang.specs.Laws.{ReducersAreAssociative}

abbrev Assoc : (ℕ → ℕ → ℕ) → Type 0
Assoc f = (a b c : ℕ) → f (f a b) c ≡ f a (f b c)

either : (test : Bool) (f g : ℕ → ℕ → ℕ) → Assoc f → Assoc g → Assoc (λ a b. cond test (f a b) (g a b))
either true f g one other = one
either false f g one other = other

wraps : Assoc (λ a b. (a + b) % 2 ^ 64)
wraps a b c =
    ap (λ x. x % 2 ^ 64) (add_comm ((a + b) % 2 ^ 64) c) ∙ add-mod-mod c (a + b) (2 ^ 64)
    ∙ ap (λ x. x % 2 ^ 64) (omega arith) ∙ sym (add-mod-mod a (b + c) (2 ^ 64))

least : Assoc min
least a b c = omega arith

greatest : Assoc max
greatest a b c = omega arith

ors : Assoc bit_or
ors a b c = same_from_bits (bit_or (bit_or a b) c) (bit_or a (bit_or b c)) (λ i.
    bit_at_or (bit_or a b) c i ∙ ap (λ x. max x (bit_at c i)) (bit_at_or a b i) ∙ greatest (bit_at a i) (bit_at b i) (bit_at c i)
    ∙ ap (λ x. max (bit_at a i) x) (sym (bit_at_or b c i)) ∙ sym (bit_at_or a (bit_or b c) i))

pub associative : ReducersAreAssociative
associative reducer = either (reducer == 0) (λ a b. (a + b) % 2 ^ 64) _ wraps (either (reducer == 1) min _ least (either (reducer == 2) max _ greatest (either (reducer == 3) bit_or _ ors
    (either (reducer == 4) bit_and _ (λ a b c. and_assoc c a b) (either (reducer == 5) bit_xor _ xor_assoc (either (reducer == 6) (λ a b. a) (λ a b. b) (λ a b c. refl) (λ a b c. refl)))))))
