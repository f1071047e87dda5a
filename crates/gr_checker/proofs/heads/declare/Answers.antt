use Rattle.std.proofs.Common.{ℕ, List, codes, ap, ◌∙◌}
use Rattle.gr_accept.specs.declared.operation.Declared.TheVariants as declared
use Rattle.gr_checker.specs.HeadsView.{Kept, count_task, declare_name, declare_object, kept_by}
use Rattle.gr_checker.proofs.heads.declare.Goals as goal

pub returns-in_ok-declare_object-in-Array : goal.returns-in_ok-declare_object-in-Array
returns-in_ok-declare_object-in-Array c = rw c.in-Array.is (
    c.in_ok-declare_object-in-Array.ensures
    ∙ ap (declare_object c.in-Array.name (declared.Array c.in-Array.words.value)) c.enlarge.ensures
    )

pub returns-in_ok-declare_name-in-Heap : goal.returns-in_ok-declare_name-in-Heap
returns-in_ok-declare_name-in-Heap c = rw c.in-Heap.is (
    c.in_ok-declare_name-in-Heap.ensures
    ∙ ap (declare_name (codes "heap") c.in-Heap.words.at declared.Heap) c.enlarge-in-Heap.ensures
    )

pub returns-in_ok-declare_name-in-Task : goal.returns-in_ok-declare_name-in-Task
returns-in_ok-declare_name-in-Task c =
    let at = c.in-Task.name.at in
    let before = count_task at (kept_by c.args.heads.now) in
    rw c.in-Task.is (c.in_ok-declare_name-in-Task.ensures
    ∙ ap (λ (kept : Kept). declare_name c.as_str.result.now at (declared.Task c.len-params.result) kept) c.count_task.ensures
    ∙ ap (λ (name : List ℕ). declare_name name at (declared.Task c.len-params.result) before) c.as_str.ensures
    ∙ ap (λ (params : ℕ). declare_name c.in-Task.name.text at (declared.Task params) before) c.len-params.ensures)
