use Rattle.std.proofs.Common.{◌≡◌, ℕ, ◌+◌, ◌-◌, ◌++◌, ◌∙◌, List, take, drop, length, sym, ap, arith, rules}
use Rattle.std.proofs.lemmas.List.{drop-drop, drop_all, take-append-drop, take_rest}
use Rattle.gr_io.proofs.memory.MemSourceSource.read.Goals as goal

-- What was left is what was copied, and what is left behind it.
parts : (left items held buf : List ℕ) (at count : ℕ) → left ≡ drop at items → held ≡ items → take count buf ≡ take count (take (length held - at) (drop at held)) → left ≡ take count buf ++ drop (at + count) items
parts left items held buf at count e f g =
    let copied : take count buf ≡ take count (drop at items) = g ∙ ap (take count) (take_rest held at) ∙ ap (λ (x : List ℕ). take count (drop at x)) f in
    e ∙ sym (take-append-drop count (drop at items)) ∙ ap (λ (x : List ℕ). take count (drop at items) ++ x) (drop-drop count at items) ∙ ap (λ (x : List ℕ). x ++ drop (at + count) items) (sym copied)

pub returns-clause-bytes : goal.returns-clause-bytes
returns-clause-bytes c = (
  parts _ _ _ _ _ _ (search rules) (search rules) c.copy_front.ensures.front,
  λ none some. drop_all (c.self.inside.at + c.min-count.result) c.self.inside.bytes.items (omega (arith, none, some, c.self.invariant, c.min.ensures, c.min-count.ensures)),
)
