-- A program may be read by other threads, and code may be owned and read by them: type by type, since a search through the whole tree breaks off.
use denote.Param.Send.{IsSend, IsSync, sendable, view_sync, recorded_sync, struct_sync}
use denote.Struct.Declared.{shape}
use Rattle.std.proofs.Crossing.{crosses}
use Rattle.std.proofs.option.Option.TheSendSync as option
use Rattle.sqlite_items.proofs.boxed.Boxed.TheSendSync as boxed
use Rattle.sqlite_items.proofs.items.Items.TheSendSync as items
use Rattle.gr_syntax.proofs.syntax.Place.TheSendSync as place
use Rattle.gr_syntax.proofs.syntax.BinOp.TheSendSync as sign
use Rattle.gr_syntax.proofs.syntax.Name.TheSendSync as name
use Rattle.gr_syntax.proofs.syntax.Number.TheSendSync as number
use Rattle.gr_syntax.proofs.syntax.Text.TheSendSync as text
use Rattle.gr_syntax.proofs.syntax.Expr.TheLaws.TheKnot as expr_knot
use Rattle.gr_syntax.proofs.syntax.Stmt.TheLaws.TheKnot as stmt_knot
use Rattle.gr_syntax.specs.contracts.syntax.Program as program
use Rattle.gr_syntax.specs.contracts.syntax.Stmt as stmt
use Rattle.gr_syntax.specs.contracts.syntax.Expr as expr
use Rattle.gr_syntax.specs.contracts.syntax.CallText as call
use Rattle.gr_syntax.specs.contracts.syntax.Right as right
use Rattle.gr_syntax.specs.contracts.syntax.HowText as how
use Rattle.gr_lang.proofs.lists.Sequence.TheSendSync as sequence
use Rattle.gr_accept.proofs.operation.Operation.TheSendSync as operation
use Rattle.gr_accept.specs.contracts.accepted.Accepted as accepted
use Rattle.gr_accept.specs.contracts.accepted.Accepted.TheInside as inside
use Rattle.gr_code.proofs.lowering.TaskEntry.TheSendSync as entry
use Rattle.gr_code.proofs.opening.ArrayWords.TheSendSync as array
use Rattle.gr_code.proofs.shapes.Shape.TheSendSync as shapes
use Rattle.gr_code.proofs.terms.Targets.TheSendSync as targets
use Rattle.gr_code.proofs.terms.Term.TheLaws.TheKnot as term_knot
use Rattle.gr_code.specs.contracts.terms.Term as term
use Rattle.gr_code.specs.contracts.instructions.Way as way
use Rattle.gr_code.specs.contracts.instructions.Instruction as instruction

pub ruleset parts = (sendable, expr_knot.send-Expr, expr_knot.sync-Expr, stmt_knot.send-Stmt, stmt_knot.sync-Stmt, crosses, option.the_field_send, option.the_field_sync, boxed.the_send, boxed.the_sync, items.the_send, items.the_sync, place.the_field_send, place.the_field_sync, sign.the_field_send, sign.the_field_sync, name.the_field_send, name.the_field_sync, number.the_field_send, number.the_field_sync, text.the_send, text.the_sync)

pub expr_sync : IsSync expr.the_field.row
expr_sync = search parts depth 30 fits 10000

pub call_sync : IsSync call.the_field.row
call_sync = search (parts, expr_sync) depth 30 fits 10000

pub right_sync : IsSync right.the_field.row
right_sync = search (parts, expr_sync, call_sync) depth 30 fits 10000

pub how_sync : IsSync how.the_field.row
how_sync = search (parts, expr_sync) depth 30 fits 10000

pub stmt_sync : IsSync stmt.the_field.row
stmt_sync = search (parts, expr_sync, call_sync, right_sync, how_sync) depth 30 fits 10000

pub program_sync : IsSync program.the_field.row
program_sync = search (parts, stmt_sync) depth 30 fits 10000

pub inside_sync : IsSync inside.the_row
inside_sync = recorded_sync inside.the_field.row _ _ inside.the_type.to_one (struct_sync (shape inside.the_type) (program_sync, tt))

pub accepted_sync : IsSync accepted.the_row
accepted_sync = view_sync _ _ _ _ _ inside_sync

pub ruleset code_parts = (parts, sequence.the_send, sequence.the_sync, operation.the_field_send, operation.the_field_sync, entry.the_field_send, entry.the_field_sync, array.the_field_send, array.the_field_sync, shapes.the_field_send, shapes.the_field_sync, targets.the_field_send, targets.the_field_sync)

pub term_send : IsSend term.the_field.row
term_send = search (parts, term_knot.send-Term) depth 30 fits 10000

pub term_sync : IsSync term.the_field.row
term_sync = search (parts, term_knot.sync-Term) depth 30 fits 10000

pub way_send : IsSend way.the_field.row
way_send = search (parts, term_send) depth 30 fits 10000

pub way_sync : IsSync way.the_field.row
way_sync = search (parts, term_sync) depth 30 fits 10000

pub instruction_send : IsSend instruction.the_field.row
instruction_send = search (code_parts, term_send, way_send) depth 30 fits 10000

pub instruction_sync : IsSync instruction.the_field.row
instruction_sync = search (code_parts, term_sync, way_sync) depth 30 fits 10000
