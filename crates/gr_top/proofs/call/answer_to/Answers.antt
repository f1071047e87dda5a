use Rattle.std.proofs.Common.{◌≡◌, true, false, rules}
use Rattle.gr_top.specs.Commands.{is_replay, is_on_text}
use Rattle.gr_top.proofs.Dues.{made_replayed, made_read, on_text_of, read_world}
use Rattle.gr_top.proofs.call.answer_to.Goals as goal

pub returns-in_ok-answer-clause-due : goal.returns-in_ok-answer-clause-due
returns-in_ok-answer-clause-due g c = λ words some.
    let on : is_replay c.args.options.now.command ≡ true = search rules in
    made_replayed words c.args.bytes.now c.in_ok-answer.answer c.args.options.now some on c.requires.few c.in_ok-answer.ensures.due

pub returns-in_ok-answer-2-clause-due : goal.returns-in_ok-answer-2-clause-due
returns-in_ok-answer-2-clause-due g c = λ words some.
    let off : is_replay c.args.options.now.command ≡ false = search rules in
    let on : is_on_text c.args.options.now.command ≡ true = on_text_of c.args.options.now.command c.requires.reads off in
    made_read words c.args.bytes.now c.in_ok-answer-2.answer c.args.options.now some c.requires.reads on c.requires.few c.in_ok-answer-2.ensures.due

pub returns-in_ok-answer-2-clause-world : goal.returns-in_ok-answer-2-clause-world
returns-in_ok-answer-2-clause-world g c = λ words some.
    read_world words c.args.bytes.now c.in_ok-answer-2.answer.world c.args.options.now some c.requires.reads c.in_ok-answer-2.ensures.world
