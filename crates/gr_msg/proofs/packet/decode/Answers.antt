use Rattle.gr_msg.proofs.Packed.{decoded_spells, spelled_decodes}
use Rattle.gr_msg.proofs.packet.decode.Goals as goal

pub returns-clause-spelled : goal.returns-clause-spelled
returns-clause-spelled c = decoded_spells c.args.bytes.now c.open.result c.open.ensures

pub returns-clause-whole : goal.returns-clause-whole
returns-clause-whole c = λ contents s. spelled_decodes c.args.bytes.now contents c.open.result c.open.ensures s
