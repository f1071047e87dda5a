-- The merge of the journals of local runs is a global run.
use Rattle.std.proofs.Common.{◌≡◌, ℕ, zero, suc, ◌==◌, List, [], ◌∷◌, refl, sym, ap, ◌∙◌, subst, length, map, slice_index_or, arith, eqb-true}
use Rattle.std.specs.Prelude.{Bool, true, false, if◌then◌else◌, Some}
use Rattle.gr_merge.specs.LocalRuns.{starts, ended, fold_local}
use Rattle.gr_merge.proofs.Theorem.{merge_runs}
use Rattle.gr_machine.specs.declared.journal.StampedMark.{StampedMark}
use Rattle.gr_machine.specs.Machines.{Machine}
use Rattle.gr_machine.specs.States.{Core}
use Rattle.gr_machine.specs.Openings.{unused, opening_body, first_tasks, first_scopes, no_tasks, no_scopes, opening_core}
use Rattle.gr_machine.specs.Counting.{nothing_done}
use Rattle.gr_machine.specs.Steppers.{CountedCore, unused_core, stepper}
use Rattle.gr_machine.specs.LocalRuns.{End}
use Rattle.gr_machine.specs.Laws as laws
use Rattle.gr_machine.specs.Laws.{unused_end, end_of}
use Rattle.gr_machine.proofs.ActionFacts.{choice}
use Rattle.gr_machine.proofs.Clocks.{entries_tick}

unused_clock : (machine : Machine) (core : ℕ) → (opening_core machine 0 core).clock ≡ 0
unused_clock machine core = choice (λ (one : Core). one.clock ≡ 0) (core == 0) _ _ refl refl

pub unused_run : laws.UnusedCoresRun
unused_run machine core = record { last = opening_core machine 0 core; clock = unused_clock machine core; run = refl }

-- Main's slot is that of core 0 alone.

not_zero : (core : ℕ) → (suc core == 0) ≡ false
not_zero core = by_test (suc core == 0) refl
  where
    by_test : (b : Bool) → (suc core == 0) ≡ b → b ≡ false
    by_test true e = (let none : suc core ≡ 0 = eqb-true (suc core) 0 e in absurd (omega (arith, none)))
    by_test false e = refl

abbrev opened : Machine → ℕ → ℕ → Bool → CountedCore
opened machine slot core is_first = record {
  core = if is_first then unused (opening_body machine 0 (first_tasks machine slot) first_scopes) else unused (opening_body machine (suc core) no_tasks no_scopes);
  counts = nothing_done;
}

same_opening : (machine : Machine) (ends : List End) (core : ℕ) → unused_core machine (end_of ends core).first core ≡ unused_core machine (end_of ends 0).first core
same_opening machine ends zero = refl
same_opening machine ends (suc core) =
    ap (opened machine (end_of ends (suc core)).first core) (not_zero core) ∙ sym (ap (opened machine (end_of ends 0).first core) (not_zero core))

map_index : {X Y : Type 0} (f : X → Y) (xs : List X) (core : ℕ) (x : X) → slice_index_or (map f xs) core (f x) ≡ f (slice_index_or xs core x)
map_index f [] core x = refl
map_index f (first ∷ xs) zero x = refl
map_index f (first ∷ xs) (suc core) x = map_index f xs core x

map_length : {X Y : Type 0} (f : X → Y) (xs : List X) → length (map f xs) ≡ length xs
map_length f [] = refl
map_length f (x ∷ xs) = ap suc (map_length f xs)

pub runs_merge : laws.RunsMerge
runs_merge machine ends left numbered runs matched =
    merge_runs (stepper machine) (λ (counted : CountedCore). counted.core.clock) (λ (mark : StampedMark). mark.clock) (entries_tick machine)
    (map (λ (one : End). one.journal) ends) (map (λ (one : End). one.marks) ends) (unused_core machine (end_of ends 0).first)
    (λ core. record { core = (runs core).last; counts = (end_of ends core).counts })
    (λ core. (end_of ends core).received) (λ core. (end_of ends core).sent) left
    (map_length (λ (one : End). one.marks) ends ∙ sym (map_length (λ (one : End). one.journal) ends)) local matched
  where
    local : (core : ℕ) → fold_local (stepper machine) core (starts (unused_core machine (end_of ends 0).first core) (end_of ends core).received) (slice_index_or (map (λ (one : End). one.journal) ends) core [])
        ≡ Some (ended (record { core = (runs core).last; counts = (end_of ends core).counts }) (end_of ends core).sent (slice_index_or (map (λ (one : End). one.marks) ends) core []))
    local core =
        let end : End = end_of ends core in
        ap (λ journal. fold_local (stepper machine) core (starts (unused_core machine (end_of ends 0).first core) end.received) journal) (map_index (λ (one : End). one.journal) ends core (unused_end core))
        ∙ ap (λ start. fold_local (stepper machine) core (starts start end.received) end.journal) (sym (same_opening machine ends core))
        ∙ subst (λ number. fold_local (stepper machine) number (starts (unused_core machine end.first number) end.received) end.journal
        ≡ Some (ended (record { core = (runs core).last; counts = end.counts }) end.sent end.marks)) (numbered core) (runs core).run
        ∙ ap (λ marks. Some (ended (record { core = (runs core).last; counts = end.counts }) end.sent marks)) (sym (map_index (λ (one : End). one.marks) ends core (unused_end core)))
