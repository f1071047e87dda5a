use Rattle.std.proofs.lemmas.Result.{on_ok_weaker}
use Rattle.gr_combining.specs.CombiningView.{batches_in}
use Rattle.gr_state.specs.StateView.{seen_of}
use Rattle.gr_closes.proofs.Combiners.{closes_by_batches}
use Rattle.gr_closes.proofs.closing.close_combiner.Goals as goal

pub returns : goal.returns
returns g c =
    on_ok_weaker _ (closes_by_batches (seen_of c.args.state.now) (seen_of c.send_batches.new.state) c.args.object (batches_in c.close.new.self)
    c.in_ok-batches.batches c.in_ok-batches.ensures.rest c.in_ok-batches.ensures.batches) c.send_batches.ensures
