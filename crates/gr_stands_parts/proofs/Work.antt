-- Each stage keeps scopes and work, with the names that scopes have then.
use Rattle.std.proofs.Common.{◌≡◌, sym, subst}
use Rattle.gr_lang.specs.States.{State}
use Rattle.gr_stands.specs.Worlds.{Given, World}
use Rattle.gr_stands.specs.Stands.{IsSound}
use Rattle.gr_scopes.specs.Trees.{Names}
use Rattle.gr_scopes_steps.specs.Stepping.{GrownStand}
use Rattle.gr_scopes_steps.proofs.Pieces as pieces
use Rattle.gr_shares_steps.specs.Stepping.{WorkStands}
use Rattle.gr_shares_steps.proofs.Steps.{run_pieces_keep_work, serve_pieces_keep_work, end_pieces_keep_work, gift_pieces_keep_work, close_pieces_keep_work}
use Rattle.gr_shares_steps.proofs.Steps.{steal_pieces_keep_work, move_pieces_keep_work, scopes_name_on}
use Rattle.gr_fits.specs.Reached.{RunsAccepted}
use Rattle.gr_fits_words.specs.Literals.{LiteralsFit}
use Rattle.gr_fits.proofs.Reached.{states_valid}
use Rattle.gr_stands_parts.specs.Stages.{ran, served, ended, gave, closed, asked, moved}
use Rattle.gr_stands_parts.specs.Keeping.{StagesKeepScopes, StagesKeepWork}
use Rattle.gr_stands_parts.proofs.Told.{others}

module _ (given : Given) (sound : IsSound given) (accepted : RunsAccepted given) (literals : LiteralsFit given.program) where
  same_state : (names : Names) (v : World) (S N : State) → N ≡ S → GrownStand given names v S → GrownStand given names v N
  same_state names v S N e g = subst (GrownStand given names v) (sym e) g

  pub scopes : StagesKeepScopes given
  scopes sent w v S N me (ran slots) at = pieces.run_pieces_keep_scopes given sent at.parts.names w v S N me slots sound at.made.0 at.made.1
      (others given sound accepted literals sent w S me me at.made.0.start.here at.made.1.stood at.room at.parts) at.parts.scopes
  scopes sent w v S N me (served from message) at =
      pieces.serve_pieces_keep_scopes given sent at.parts.names w v S N me from message at.made.0 at.made.1 at.made.2
      (others given sound accepted literals sent w S me me at.made.0.here at.made.2.stood at.room at.parts) at.parts.scopes
  scopes sent w v S N me (ended message) at = pieces.end_pieces_keep_scopes given sent at.parts.names w v S N me message at.made.0 at.made.1 at.parts.scopes
  scopes sent w v S N me gave at =
      same_state at.parts.names v S N at.made.0 (pieces.gift_pieces_keep_scopes given sent at.parts.names w v S me at.made.1 at.parts.scopes)
  scopes sent w v S N me (closed object) at = pieces.close_pieces_keep_scopes given sent at.parts.names w v S N me object at.made.0 at.made.1 at.parts.scopes
  scopes sent w v S N me (asked victim) at =
      same_state at.parts.names v S N at.made.0 (pieces.steal_pieces_keep_scopes given sent at.parts.names w v S me victim at.made.2 at.parts.scopes)
  scopes sent w v S N me moved at =
      same_state at.parts.names v S N at.made.0 (pieces.move_pieces_keep_scopes given at.parts.names w v S at.made.1 at.parts.scopes)

module _ (given : Given) where
  same_work : (more : Names) (v : World) (S N : State) → N ≡ S → WorkStands given more v S → WorkStands given more v N
  same_work more v S N e f = subst (WorkStands given more v) (sym e) f

  pub work : StagesKeepWork given
  work sent w v S N me (ran slots) at more grown stands = run_pieces_keep_work given sent at.parts.names more w v S N me slots at.made.0 at.made.1
      (states_valid given S at.parts.reached) (scopes_name_on given at.parts.names more v N grown stands) at.parts.work
  work sent w v S N me (served from message) at more grown stands =
      serve_pieces_keep_work given sent at.parts.names more w v S N me from message at.made.1 at.made.2
      (states_valid given S at.parts.reached) grown at.parts.work
  work sent w v S N me (ended message) at more grown stands =
      end_pieces_keep_work given sent at.parts.names more w v S N me message at.made.1 (states_valid given S at.parts.reached) grown at.parts.work
  work sent w v S N me gave at more grown stands =
      same_work more v S N at.made.0 (gift_pieces_keep_work given sent at.parts.names more w v S me at.made.1 grown at.parts.work)
  work sent w v S N me (closed object) at more grown stands =
      close_pieces_keep_work given sent at.parts.names more w v S N me object at.made.1 (states_valid given S at.parts.reached) grown at.parts.work
  work sent w v S N me (asked victim) at more grown stands =
      same_work more v S N at.made.0 (steal_pieces_keep_work given sent at.parts.names more w v S me victim at.made.1 at.made.2 grown at.parts.work)
  work sent w v S N me moved at more grown stands =
      same_work more v S N at.made.0 (move_pieces_keep_work given at.parts.names more w v S at.made.1 grown at.parts.work)
