use Rattle.std.proofs.Common.{◌∷◌, []}
use Rattle.gr_format.specs.declared.field.Field.TheVariants.{Byte}
use Rattle.gr_msg.specs.FieldWords.{unit_fields}
use Rattle.gr_msg.proofs.Spelling.{then_put}
use Rattle.gr_msg.proofs.writing.put_with_unit.Goals as goal

pub returns : goal.returns
returns c = then_put _ _ _ (Byte c.args.kind ∷ []) (unit_fields c.args.unit.now) c.put_unit.result c.in_ok-put.ensures c.put_unit.ensures
