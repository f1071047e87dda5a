-- Turns are granted in the order of asking, one at a time.
use Rattle.std.proofs.Common.{◌≡◌, ℕ, ◌+◌, List, [], ◌∷◌, ◌++◌, length, take, drop, refl, sym, ap, ◌∙◌, arith, true≢false, append_assoc, append-nil}
use Rattle.gr_vector.specs.Turns.{Turns}
use Rattle.gr_vector.specs.Laws.{Event, ask, done, turns_after, CanBe, grants, asks, ends_in, number_out, TurnsAreInOrder, OneTurnIsOut}

abbrev turns : ℕ → ℕ → List ℕ → Turns
turns head tail cores = record { head = head; tail = tail; cores = cores }

both : (cores : List ℕ) → take 1 cores ++ drop 1 cores ≡ cores ++ []
both [] = refl
both (core ∷ cores) = ap (λ (l : List ℕ). core ∷ l) (sym (append-nil cores))

ordered : (events : List Event) (head tail : ℕ) (cores : List ℕ) → CanBe (turns head tail cores) events
    → take 1 cores ++ (grants (turns head tail cores) events ++ drop 1 (turns_after (turns head tail cores) events).cores) ≡ cores ++ asks events
ordered [] head tail cores can = both cores
ordered (ask core ∷ events) head tail [] can = ordered events head tail (core ∷ []) can
ordered (ask core ∷ events) head tail (first ∷ cores) can =
    ordered events head tail (first ∷ cores ++ core ∷ []) can ∙ ap (λ (l : List ℕ). first ∷ l) (append_assoc cores (core ∷ []) (asks events))
ordered (done start end ∷ events) head tail [] can = absurd (true≢false (sym can.0))
ordered (done start end ∷ events) head tail (first ∷ []) can = ap (λ (l : List ℕ). first ∷ l) (ordered events start end [] can.1)
ordered (done start end ∷ events) head tail (first ∷ second ∷ cores) can = ap (λ (l : List ℕ). first ∷ l) (ordered events start end (second ∷ cores) can.1)

counted : (events : List Event) (head tail : ℕ) (cores : List ℕ) → CanBe (turns head tail cores) events
    → number_out (turns head tail cores) + length (grants (turns head tail cores) events) ≡ ends_in events + number_out (turns_after (turns head tail cores) events)
counted [] head tail cores can = omega arith
counted (ask core ∷ events) head tail [] can = omega (arith, counted events head tail (core ∷ []) can)
counted (ask core ∷ events) head tail (first ∷ cores) can = omega (arith, counted events head tail (first ∷ cores ++ core ∷ []) can)
counted (done start end ∷ events) head tail [] can = absurd (true≢false (sym can.0))
counted (done start end ∷ events) head tail (first ∷ []) can = omega (arith, counted events start end [] can.1)
counted (done start end ∷ events) head tail (first ∷ second ∷ cores) can = omega (arith, counted events start end (second ∷ cores) can.1)

pub in_order : TurnsAreInOrder
in_order events can = ordered events 0 0 [] can

pub one_out : OneTurnIsOut
one_out events can = omega (arith, counted events 0 0 [] can)
