-- The first words of a task's locals.
use Rattle.std.proofs.Common.{◌≡◌, ℕ, suc, ◌-◌, List, [], ◌∷◌, length, take, replicate, refl, ap, arith, length-append, length-take}
use Rattle.std.proofs.lemmas.List.{length-replicate}
use Rattle.gr_lang.specs.Next.{given}
use Rattle.gr_task.specs.TurnWords.{first_of}

pub length-first : (n : ℕ) (ws : List ℕ) → length (first_of n ws) ≡ n
length-first n ws = omega (arith, length-append (take n ws) (replicate (n - length ws) 0), length-take n ws, length-replicate {A = ℕ} (n - length ws) 0)

zeros_given : (names : List (List ℕ)) → given names (replicate (length names) 0) ≡ given names []
zeros_given [] = refl
zeros_given (n ∷ ns) = ap (λ l. (n, 0) ∷ l) (zeros_given ns)

pub given-first : (names : List (List ℕ)) (ws : List ℕ) → given names (first_of (length names) ws) ≡ given names ws
given-first [] ws = refl
given-first (n ∷ ns) [] =
    let all : suc (length ns) - 0 ≡ suc (length ns) = omega arith in
    rw all (zeros_given (n ∷ ns))
given-first (n ∷ ns) (w ∷ ws) =
    let same : suc (length ns) - suc (length ws) ≡ length ns - length ws = omega arith in
    rw same (ap (λ l. (n, w) ∷ l) (given-first ns ws))
