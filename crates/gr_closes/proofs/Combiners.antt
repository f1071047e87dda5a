-- A combiner is closed: its batches go off one by one.
use Rattle.std.proofs.Common.{◌≡◌, ℕ, List, ap, sym, ◌∙◌}
use Rattle.std.specs.Prelude.{Some}
use Rattle.gr_batch.specs.declared.combiner.Batch.{Batch}
use Rattle.gr_batch.specs.Batches.{batches_of, rest_of}
use Rattle.gr_machine.specs.States.{Batches}
use Rattle.gr_machine.specs.Outcomes.{quietly}
use Rattle.gr_machine.specs.Closes.{with_combiner, closes_combiner}
use Rattle.gr_combining.specs.Combining.{closed}
use Rattle.gr_courses.specs.Folds.{batches_from}
use Rattle.gr_courses.specs.Seen.{Seen, does_to, with_body}
use Rattle.gr_courses.proofs.Doing.{does_quietly}
use Rattle.gr_courses.proofs.Folds.{batches_go}

abbrev pub with_batches : Seen → Batches → Seen
with_batches seen batches = with_body seen (record seen.core.body { batches = batches })

-- The calls that don't fold stay, and the batches of the others go off.
pub closes_by_batches : (before after : Seen) (object : ℕ) (now : Batches) (batches : List Batch)
    → now ≡ closed before.core.body.batches object → batches ≡ batches_of (before.core.body.batches.combiners object)
    → after ≡ batches_from object (with_batches before now) batches
    → after ≡ does_to before (Some (closes_combiner before.machine before.core.body object (before.core.body.batches.combiners object)))
closes_by_batches before after object now batches rest made gone =
    let held = before.core.body.batches.combiners object in
    let kept = with_combiner before.core.body object (rest_of held) in
    gone
    ∙ ap (λ (left : Batches). batches_from object (with_batches before left) batches) rest
    ∙ ap (λ (all : List Batch). batches_from object (with_body before kept) all) made
    ∙ ap (λ (first : Seen). batches_from object first (batches_of held)) (sym (does_quietly before kept))
    ∙ sym (batches_go before object (quietly kept) (batches_of held))
