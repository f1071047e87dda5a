use Rattle.gr_stands.specs.Laws as laws
use Rattle.gr_stands.specs.Worlds.{machine_in}
use Rattle.gr_stands.proofs.Worlds.{moved_bodies, moved_flow}
use Rattle.gr_stands.proofs.Memories.{words_moved}
use Rattle.gr_stands.proofs.Calls.{calls_moved}
use Rattle.gr_stands.proofs.Events.{ships_move, takes_move}
use Rattle.gr_stands.proofs.laws.moves_keep_worlds.Goals as goal

pub returns-clause-bodies : goal.returns-clause-bodies
returns-clause-bodies c = moved_bodies

pub returns-clause-messages : goal.returns-clause-messages
returns-clause-messages c = moved_flow

stands_moved : laws.MovesKeepStanding
stands_moved given before after state m old = record {
  words = words_moved (machine_in given) given.setup.cores before after state.objects m old.words;
  calls = calls_moved given before after state m old.calls;
}

pub returns-clause-stands : goal.returns-clause-stands
returns-clause-stands c = stands_moved

pub returns-clause-ships : goal.returns-clause-ships
returns-clause-ships c = ships_move

pub returns-clause-takes : goal.returns-clause-takes
returns-clause-takes c = takes_move
