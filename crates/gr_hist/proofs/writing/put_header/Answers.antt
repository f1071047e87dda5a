use Rattle.std.proofs.Common.{◌≡◌, subst, List, ℕ, OnOk, decimal}
use Rattle.gr_hist.proofs.Trails.{header_written}
use Rattle.gr_hist.proofs.writing.put_header.Goals as goal

pub returns : goal.returns
returns c =
    subst (λ (x : List ℕ). OnOk c.put_text-3.result (c.put_text-3.new.out.items ≡ x))
    (header_written c.args.out.now.items (decimal c.args.cores) (decimal c.args.steps) _ _ _ _
    c.in_ok-put_text.ensures c.in_ok-put_number.ensures.text c.in_ok-put_text-2.ensures c.in_ok-put_number-2.ensures.text)
    c.put_text-3.ensures
