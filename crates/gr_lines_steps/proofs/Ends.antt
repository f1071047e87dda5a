-- The calls of a turn behind a message.
use Rattle.std.proofs.Common.{◌≡◌, ◌<◌, ℕ, sym, ◌∙◌, ap, subst}
use Rattle.gr_msg.specs.declared.message.Msg.{Msg}
use Rattle.gr_net.specs.Sums.{Each}
use Rattle.gr_net.proofs.Spreads.{put_same}
use Rattle.gr_machine.specs.States.{Letter, Body}
use Rattle.gr_machine.specs.TurnServes.{turn_replies}
use Rattle.gr_stands.specs.Worlds.{Given, World, bodies}
use Rattle.gr_stands_calls.specs.Acting.{IsFirstLetter}
use Rattle.gr_stands_chains.specs.Chains.{SendersStand}
use Rattle.gr_stands_turns.specs.Turning.{AreAnswered}
use Rattle.gr_stands_steps.specs.Telling.{message_outcome}
use Rattle.gr_lines_answers.proofs.Answers.{calls_answered}
use Rattle.gr_lines_steps.specs.Laws as laws
use Rattle.gr_lines_steps.proofs.Lines.{serve_keeps}

-- The first letter comes from a core that there is.
first_sender : (given : Given) (w : World) (me from : ℕ) (message : Msg) → SendersStand given w → IsFirstLetter given w me from message → from < given.setup.cores
first_sender given w me from message senders first =
    (subst (Each (λ (l : Letter). l.from < given.setup.cores)) first.without.inbox (senders.inboxes me first.here)).0

pub ends_answered : laws.EndsAreAnswered
ends_answered given w between me from number message vector turn words senders first lines is there mine same =
    let body : Body = (message_outcome given w me from message).body in
    let at : body ≡ bodies between me = sym (ap (λ (B : ℕ → Body). B me) is ∙ put_same (bodies w) me body) in
    subst (λ (b : Body). AreAnswered b number words (turn_replies turn)) at
    (calls_answered given me number body vector turn words (serve_keeps given w me (lines me) from message (first_sender given w me from message senders first)) there mine same)
