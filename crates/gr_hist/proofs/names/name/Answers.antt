use Rattle.std.proofs.Common.{rules}
use Rattle.gr_hist.proofs.NameBytes.{utf8_name}
use Rattle.gr_hist.proofs.names.name.Goals as goal

pub letters-requires : goal.letters-requires
letters-requires c = utf8_name c.args.bytes.now (search rules)
