use Rattle.std.proofs.Common.{rules, ◌≡◌, subst, List, ℕ, OnOk, decimal, map}
use Rattle.gr_accept.specs.Operations.{operation_name}
use Rattle.gr_hist.specs.Spelling.{id_bytes, reducer_field, reply_fields}
use Rattle.gr_hist.proofs.Trails.{call_written}
use Rattle.gr_hist.proofs.entry_lines.put_call.Goals as goal

pub returns-clause-text : goal.returns-clause-text
returns-clause-text c =
    subst (λ (x : List ℕ). OnOk c.put_text.result (c.put_text.new.out.items ≡ x))
    (call_written c.args.out.now.items (id_bytes c.args.task) c.args.object.now (operation_name c.args.op) (reducer_field c.args.reducer) (map decimal c.args.numbers.now) (reply_fields c.args.reply.now) _ _ _ _ _ _
    c.in_ok-put_id.ensures.text c.in_ok-put_word.ensures (search rules) c.in_ok-put_reducer.ensures c.in_ok-put_numbers.ensures.text c.in_ok-put_reply.ensures.text)
    c.put_text.ensures
