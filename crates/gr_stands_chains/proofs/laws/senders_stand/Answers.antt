use Rattle.gr_stands_chains.proofs.Senders.{senders_open, senders_stay, senders_move, firsts_have_senders}
use Rattle.gr_stands_chains.proofs.laws.senders_stand.Goals as goal

pub returns-clause-opens : goal.returns-clause-opens
returns-clause-opens c = senders_open

pub returns-clause-acts : goal.returns-clause-acts
returns-clause-acts c = senders_stay

pub returns-clause-moves : goal.returns-clause-moves
returns-clause-moves c = senders_move

pub returns-clause-first : goal.returns-clause-first
returns-clause-first c = firsts_have_senders
