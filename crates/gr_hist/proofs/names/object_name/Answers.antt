use Rattle.std.proofs.Common.{rules}
use Rattle.gr_hist.proofs.NameBytes.{utf8_object}
use Rattle.gr_hist.proofs.names.object_name.Goals as goal

pub letters-requires : goal.letters-requires
letters-requires c = utf8_object c.args.bytes.now (search rules)
