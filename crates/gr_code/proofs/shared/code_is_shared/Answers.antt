use Rattle.gr_code.proofs.Crossing.{code_parts, stmt_sync, instruction_send, instruction_sync, accepted_sync}
use Rattle.gr_code.proofs.shared.code_is_shared.Goals as goal

pub share-requires-send-T : goal.share-requires-send-T
share-requires-send-T c κs = search (code_parts, stmt_sync, instruction_send, accepted_sync) depth 30 fits 10000

pub share-requires-sync-T : goal.share-requires-sync-T
share-requires-sync-T c κs = search (code_parts, stmt_sync, instruction_sync, accepted_sync) depth 30 fits 10000
