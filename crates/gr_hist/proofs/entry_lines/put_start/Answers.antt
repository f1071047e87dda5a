use Rattle.std.proofs.Common.{◌≡◌, subst, List, ℕ, OnOk, decimal, map}
use Rattle.gr_hist.specs.Spelling.{child_fields, how_fields, id_bytes}
use Rattle.gr_hist.proofs.Trails.{start_written}
use Rattle.gr_hist.proofs.entry_lines.put_start.Goals as goal

pub returns-clause-text : goal.returns-clause-text
returns-clause-text c =
    subst (λ (x : List ℕ). OnOk c.put_text.result (c.put_text.new.out.items ≡ x))
    (start_written c.args.out.now.items (id_bytes c.args.task) c.args.target.now (how_fields c.args.how) (map decimal c.args.args.now) (child_fields c.args.child) _ _ _ _ _
    c.in_ok-put_id.ensures.text c.in_ok-put_how.ensures.text c.in_ok-put_word.ensures c.in_ok-put_numbers.ensures.text c.in_ok-put_child.ensures.text)
    c.put_text.ensures
