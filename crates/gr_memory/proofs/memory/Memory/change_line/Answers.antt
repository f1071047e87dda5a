use Rattle.std.proofs.Common.{◌≡◌, length, subst, sym, rules}
use Rattle.std.specs.Prelude.{All}
use Rattle.std.proofs.lemmas.List.{with_items_is}
use Rattle.gr_memory.specs.Ranges.{LiesIn}
use Rattle.gr_memory.proofs.AtThing.{line_lies, still_lie}
use Rattle.gr_memory.proofs.memory.Memory.change_line.Goals as goal

pub invariant_of-self : goal.invariant_of-self
invariant_of-self c =
    let n = length c.self.inside.words.items in
    let len : length c.change_line_at.new.things ≡ c.self.inside.things.len = search rules in
    let were = subst (All (LiesIn n)) (sym c.deref_mut.ensures.value) c.self.invariant.arrays in
    let lie = still_lie c.change_line_at.result n _ _ _ _ c.change_line_at.ensures.ok c.change_line_at.ensures.err (line_lies n c.args.op) were in
    record {
      arrays = subst (All (LiesIn n)) (sym (with_items_is c.self.inside.things c.change_line_at.new.things len)) lie;
      heap = c.self.invariant.heap;
    }
