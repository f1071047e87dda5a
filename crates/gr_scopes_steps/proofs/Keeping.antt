-- The part of scopes opens, and each piece of an event keeps it, whatever the names are.
use Rattle.gr_lang.specs.States.{State}
use Rattle.gr_stands.specs.Worlds.{Given, World}
use Rattle.gr_scopes.specs.Trees.{Names}
use Rattle.gr_scopes.specs.Laws.{opening_names}
use Rattle.gr_scopes.proofs.Opening.{openings_have_scopes}
use Rattle.gr_scopes_steps.specs.Stepping.{GrownStand, ScopesHold}
use Rattle.gr_scopes_steps.specs.Laws as laws
use Rattle.gr_scopes_steps.proofs.Pieces.{run_pieces_keep_scopes, serve_pieces_keep_scopes, end_pieces_keep_scopes, gift_pieces_keep_scopes, close_pieces_keep_scopes, steal_pieces_keep_scopes, move_pieces_keep_scopes}

pub openings_hold_scopes : laws.OpeningsHoldScopes
openings_hold_scopes given slot sound low = record { names = opening_names; stands = openings_have_scopes given slot sound low }

held : (given : Given) (names : Names) (v : World) (N : State) → GrownStand given names v N → ScopesHold given v N
held given names v N g = record { names = g.more; stands = g.stands }

pub pieces_keep_scopes : laws.PiecesKeepScopes
pieces_keep_scopes given sound = record {
  runs = λ sent w v S N me slots start piece old. held given old.hold.names v N
      (run_pieces_keep_scopes given sent old.hold.names w v S N me slots sound start piece (old.told me piece.acts.here) old.hold.stands);
  serves = λ sent w v S N me from message start first piece old. held given old.hold.names v N
      (serve_pieces_keep_scopes given sent old.hold.names w v S N me from message start first piece (old.told me piece.acts.here) old.hold.stands);
  ends = λ sent w v S N me message told piece old. held given old.names v N (end_pieces_keep_scopes given sent old.names w v S N me message told piece old.stands);
  gives = λ sent w v S me piece old. held given old.names v S (gift_pieces_keep_scopes given sent old.names w v S me piece old.stands);
  closes = λ sent w v S N me object start piece old. held given old.hold.names v N (close_pieces_keep_scopes given sent old.hold.names w v S N me object start piece old.hold.stands);
  steals = λ sent w v S me victim start piece old. held given old.hold.names v S (steal_pieces_keep_scopes given sent old.hold.names w v S me victim piece old.hold.stands);
  moves = λ sent w v S moved stood old. held given old.hold.names v S (move_pieces_keep_scopes given old.hold.names w v S moved old.hold.stands);
}
