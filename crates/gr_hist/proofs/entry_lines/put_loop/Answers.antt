use Rattle.std.proofs.Common.{◌≡◌, subst, List, ℕ, OnOk, decimal, map}
use Rattle.gr_hist.specs.Spelling.{id_bytes, range_fields}
use Rattle.gr_hist.proofs.Trails.{loop_written}
use Rattle.gr_hist.proofs.entry_lines.put_loop.Goals as goal

pub returns-clause-text : goal.returns-clause-text
returns-clause-text c =
    subst (λ (x : List ℕ). OnOk c.put_text.result (c.put_text.new.out.items ≡ x))
    (loop_written c.args.out.now.items (id_bytes c.args.task) c.args.target.now (range_fields c.args.lo c.args.hi c.args.grain) (map decimal c.args.args.now) _ _ _ _
    c.in_ok-put_id.ensures.text c.in_ok-put_range.ensures.text c.in_ok-put_word.ensures c.in_ok-put_numbers.ensures.text)
    c.put_text.ensures
