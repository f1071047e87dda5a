-- The vectors with which a run opens.
use Rattle.std.proofs.Common.{◌≡◌, ℕ, zero, suc, ◌+◌, ◌%◌, ◌==◌, Bool, true, false, if◌then◌else◌, List, [], ◌∷◌, Option, Some, None, map, slice_get, slice_index_or, refl, sym, ap, ap₂, ◌∙◌, arith}
use Rattle.std.specs.Prelude.{◌&&◌}
use mathlib.Core.Path.{fun_ext}
use Rattle.std.specs.Option.{option_map}
use Rattle.gr_syntax.specs.declared.syntax.Program.{Program}
use Rattle.gr_lang.specs.Objects.{Object, array, keys, pairs, line}
use Rattle.gr_lang.specs.Openings.{opening}
use Rattle.gr_vector.specs.Turns.{Turns}
use Rattle.gr_code.specs.declared.shapes.Shape.{Shape}
use Rattle.gr_code.specs.Shapes.{shape_of, shapes_of}
use Rattle.gr_machine.specs.declared.setup.Setup.{Setup}
use Rattle.gr_machine.specs.Machines.{machine_of}
use Rattle.gr_machine.specs.Openings.{is_vector, empty_vector, opening_vectors}
use Rattle.gr_machine.specs.States.{Vector, Vectors}
use Rattle.gr_vector.specs.Laws.{no_turns}
use Rattle.gr_turns.specs.LineView.{VectorData, vector_in, seen_at, vectors_at, masters_at}
use Rattle.gr_turns.specs.LineWords.{empty_data, is_line, lines_of, masters_from}
use Rattle.gr_turns.specs.Lines.{AreOpening}
use Rattle.gr_turns.proofs.Puts.{part_none}

pub empty_is : vector_in empty_data ≡ empty_vector
empty_is = let with_part : (ℕ → Option ℕ) → Vector = λ part. record { part = part; combiner = []; groups = []; turn = None } in ap with_part (part_none [] refl)

one_line : (there : Bool) → option_map vector_in (if there then Some empty_data else None) ≡ (if there then Some empty_vector else None)
one_line true = ap Some empty_is
one_line false = refl

same_kind : (object : Object) → is_line (shape_of object) ≡ is_vector (Some object)
same_kind (array from count) = refl
same_kind (keys held) = refl
same_kind (pairs held) = refl
same_kind (line words) = refl

line_at : (things : List Object) (number : ℕ)
    → option_map vector_in (slice_index_or (lines_of (map shape_of things)) number None) ≡ (if is_vector (slice_get things number) then Some empty_vector else None)
line_at [] number = refl
line_at (thing ∷ things) zero = one_line (is_line (shape_of thing)) ∙ ap (λ there. if there then Some empty_vector else None) (same_kind thing)
line_at (thing ∷ things) (suc number) = line_at things number

lines_are : (things : List Object) → vectors_at (lines_of (map shape_of things)) ≡ (λ number. if is_vector (slice_get things number) then Some empty_vector else None)
unfolding seen_at
lines_are things = fun_ext (line_at things)

abbrev turns_if : Bool → Option Turns
turns_if there = if there then Some no_turns else None

same_turns : (there : Bool) → option_map (λ turns. turns) (turns_if there) ≡ turns_if there
same_turns true = refl
same_turns false = refl

master_at : (cores me from : ℕ) (things : List Object) (number : ℕ)
    → option_map (λ turns. turns) (slice_index_or (masters_from cores me from (map shape_of things)) number None) ≡ turns_if (is_vector (slice_get things number) && (from + number) % cores == me)
master_at cores me from [] number = refl
master_at cores me from (thing ∷ things) zero =
    same_turns (is_line (shape_of thing) && from % cores == me)
    ∙ ap (λ there. turns_if (there && from % cores == me)) (same_kind thing)
    ∙ ap (λ number. turns_if (is_vector (Some thing) && number % cores == me)) (here from)
  where
    here : (n : ℕ) → n ≡ n + 0
    here n = omega arith
master_at cores me from (thing ∷ things) (suc number) =
    master_at cores me (from + 1) things number ∙ ap (λ at. turns_if (is_vector (slice_get things number) && at % cores == me)) (later from number)
  where
    later : (n k : ℕ) → n + 1 + k ≡ n + suc k
    later n k = omega arith

masters_are : (cores me : ℕ) (things : List Object)
    → masters_at (masters_from cores me 0 (map shape_of things)) ≡ (λ number. turns_if (is_vector (slice_get things number) && number % cores == me))
unfolding seen_at
masters_are cores me things = fun_ext (λ number. master_at cores me 0 things number ∙ ap (λ at. turns_if (is_vector (slice_get things number) && at % cores == me)) (from_zero number))
  where
    from_zero : (n : ℕ) → 0 + n ≡ n
    from_zero n = omega arith

opens : (program : Program) (setup : Setup) (me : ℕ)
    → record { vectors = vectors_at (lines_of (shapes_of program)); masters = masters_at (masters_from setup.cores me 0 (shapes_of program)) } ≡ opening_vectors (machine_of setup program) me
opens program setup me =
    let things = (opening program).things in
    let of_lines : (ℕ → Option Vector) → Vectors = λ vectors. record { vectors = vectors; masters = masters_at (masters_from setup.cores me 0 (map shape_of things)) } in
    let of_masters : (ℕ → Option Turns) → Vectors = λ masters. record { vectors = λ number. if is_vector (slice_get things number) then Some empty_vector else None; masters = masters } in
    ap of_lines (lines_are things) ∙ ap of_masters (masters_are setup.cores me things)

pub first : (shapes : List Shape) (cores me : ℕ) (lines : List (Option VectorData)) (masters : List (Option Turns))
    → lines ≡ lines_of shapes → masters ≡ masters_from cores me 0 shapes → AreOpening shapes cores me (record { vectors = vectors_at lines; masters = masters_at masters })
first shapes cores me lines masters l m program setup s c =
    let both : List (Option VectorData) → List (Option Turns) → Vectors = λ held turns. record { vectors = vectors_at held; masters = masters_at turns } in
    ap₂ both l m
    ∙ ap₂ (λ (of : List Shape) (count : ℕ). both (lines_of of) (masters_from count me 0 of)) s (sym c)
    ∙ opens program setup me
