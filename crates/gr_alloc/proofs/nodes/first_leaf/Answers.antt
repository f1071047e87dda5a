use Rattle.std.proofs.Common.{◌*◌, ◌≤◌, slice_index, refl, sym, subst, arith}
use Rattle.gr_alloc.proofs.Climbs.{at_root, at_leaf, to_left, to_right, inside_tree}
use Rattle.gr_alloc.proofs.nodes.first_leaf.Goals.{then-tree-node, else-tree-node}
use Rattle.gr_alloc.proofs.nodes.first_leaf.Goals as goal

pub descending-init : goal.descending-init
descending-init c = at_root c.args.tree.now c.args.levels c.args.need c.requires.reaches

pub overflow_mul-node : goal.overflow_mul-node
overflow_mul-node c = omega (arith, inside_tree c.descending.counter c.args.levels c.descending.node)

pub offset_bounds-tree-node : goal.offset_bounds-tree-node
offset_bounds-tree-node c = omega (arith, inside_tree c.descending.counter c.args.levels c.descending.node)

pub bounds-tree-node : goal.bounds-tree-node
bounds-tree-node c = omega (arith, inside_tree c.descending.counter c.args.levels c.descending.node)

pub descending-preserved : goal.descending-preserved
descending-preserved c =
    let tree = c.args.tree.now in
    let i = c.descending.counter in
    let node = c.descending.node in
    elim c.if-tree-node.branch [
      | then-tree-node w ↦ to_right tree c.args.levels c.args.need i node (node * 2) c.if-tree-node.node c.requires.is_tree c.descending-test.true c.descending.invariant refl w.if-tree-node.true w.node-is
      | else-tree-node w ↦ to_left tree c.args.levels c.args.need i node c.if-tree-node.node c.descending-test.true c.descending.invariant w.node-is (subst (λ k. c.args.need ≤ slice_index tree k) (sym w.node-is) w.if-tree-node.false)
    ]

pub returns-clause-first : goal.returns-clause-first
returns-clause-first c = at_leaf c.args.tree.now c.args.levels c.args.need c.descending.counter c.descending.node (omega arith) c.descending.invariant
