use Rattle.std.proofs.Common.{◌≡◌, ◌∙◌, ap, ap₂, not, List, ℕ, nat_eq, unwrap_or, Option}
use Rattle.indexmap.specs.IndexMap.{insert_entry}
use Rattle.gr_batch.specs.Batches.{Group, grown, no_group}
use Rattle.gr_batch.specs.GroupWords.{group_at}
use Rattle.gr_batch.proofs.Groups.{put_twice}
use Rattle.gr_batch.proofs.group.add.Goals as goal

pub returns-in-Ok-insert : goal.returns-in-Ok-insert
returns-in-Ok-insert g c =
    let entries = c.args.groups.now.entries in
    let grown_is : c.add.new.self ≡ grown (group_at c.args.key entries) c.args.call =
    c.in_ok-add.ensures ∙ ap (λ (g : Group). grown g c.args.call) (c.group_or_new-group.ensures ∙ ap (λ (o : Option Group). unwrap_or o no_group) c.in-Ok.ensures.old) in (
      c.in-Ok-insert.ensures.entries ∙ ap₂ (λ (es : List (ℕ × Group)) (g : Group). insert_entry nat_eq es c.args.key g) c.in-Ok.ensures.entries grown_is
          ∙ put_twice c.args.key c.new-fresh.result c.args.call entries,
      ap not (c.is_open-stays.ensures ∙ ap (λ (g : Group). g.is_open) grown_is),
    )
