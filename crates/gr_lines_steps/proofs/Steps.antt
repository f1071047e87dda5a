-- The machine opens with calls that wait on vectors in order, and each piece of a step keeps them, and whose turn it is.
use Rattle.gr_stands.specs.Worlds.{bodies}
use Rattle.gr_stands_made.specs.Keeping.{KeptByPieces}
use Rattle.gr_lines.specs.Waiting.{LinesStand}
use Rattle.gr_lines.proofs.Opening.{openings_have_lines}
use Rattle.gr_lines_turns.proofs.Kept.{turns_moved}
use Rattle.gr_lines_turns.proofs.Opening.{openings_have_turns}
use Rattle.gr_lines_steps.specs.Behind.{ends_settled}
use Rattle.gr_lines_steps.specs.Laws as laws
use Rattle.gr_lines_steps.proofs.Lines.{pieces_keep_lines}
use Rattle.gr_lines_steps.proofs.Turns.{runs_keep, serves_keep, settles_keep, gives_keep, close_keeps, asks_keep}

pub openings_have_both : laws.OpeningsHaveBoth
openings_have_both given slot = record {
  lines = openings_have_lines given slot;
  ends = λ number. record { head = 0; tail = 0 };
  turns = openings_have_turns given slot;
}

pub pieces_keep_both : laws.PiecesKeepBoth
pieces_keep_both given heap =
    let kept : KeptByPieces given (λ sent world state. LinesStand given world) (λ me sent world state. LinesStand given world) (λ sent world state. LinesStand given world)
    = pieces_keep_lines given heap in
    record {
      runs = λ sent w v S N me slots start piece old. record {
        lines = kept.runs sent w v S N me slots start piece old.stand.lines;
        ends = old.stand.ends;
        turns = runs_keep given w v me slots old.stand.ends piece.acts old.stand.turns;
      };
      serves = λ sent w v S N me from message start first piece old. record {
        lines = kept.serves sent w v S N me from message start first piece old.stand.lines;
        ends = old.stand.ends;
        turns = serves_keep given w v me from message old.stand.ends piece.acts old.stand.lines (old.told me from message first) old.stand.turns;
      };
      ends = λ sent w v S N me message told piece old. record {
        lines = kept.ends sent w v S N me message told piece old.lines;
        ends = ends_settled (bodies w me) message old.ends;
        turns = settles_keep given w v me message old.ends piece.acts old.lines old.turns;
      };
      gives = λ sent w v S me piece old. record {
        lines = kept.gives sent w v S me piece old.lines;
        ends = old.ends;
        turns = gives_keep given w v me old.ends piece.acts old.turns;
      };
      closes = λ sent w v S N me object start piece old. record {
        lines = kept.closes sent w v S N me object start piece old.stand.lines;
        ends = old.stand.ends;
        turns = close_keeps given w v me object old.stand.ends piece.acts old.stand.lines old.stand.turns;
      };
      steals = λ sent w v S me victim start piece old. record {
        lines = kept.steals sent w v S me victim start piece old.stand.lines;
        ends = old.stand.ends;
        turns = asks_keep given w v me victim old.stand.ends piece.acts old.stand.turns;
      };
      moves = λ sent w v S moved stood old. record {
        lines = kept.moves sent w v S moved stood old.stand.lines;
        ends = old.stand.ends;
        turns = turns_moved given w v old.stand.ends moved old.stand.turns;
      };
    }
