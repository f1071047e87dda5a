-- In each run all parts stand, and messages of turns and of elements are of vectors that there are.
use Rattle.std.proofs.Common.{ℕ, Bool, true, false, arith}
use Rattle.std.specs.Prelude.{length}
use Rattle.gr_lang.specs.States.{State}
use Rattle.gr_machine.specs.Histories.{Sent}
use Rattle.gr_machine.specs.Nets.{world_in}
use Rattle.gr_stands.specs.Worlds.{Given, World}
use Rattle.gr_stands.specs.Stands.{IsSound}
use Rattle.gr_stands_steps.specs.Entries.{StandsAmongCores}
use Rattle.gr_stands_histories.specs.Invariants.{IsInvariant, RunHolds}
use Rattle.gr_stands_histories.proofs.Invariants.{invariants_hold}
use Rattle.gr_fits.specs.Reached.{RunsAccepted}
use Rattle.gr_fits_words.specs.Literals.{LiteralsFit}
use Rattle.gr_bounds_stands.proofs.Telling.{few_steps}
use Rattle.gr_bounds_tells.specs.Guards.{GuardsAreOpen}
use Rattle.gr_stands_parts.specs.Parts.{PartsStand, BoundsAfter, PartsRest, PartsGoOn}
use Rattle.gr_stands_parts.proofs.Parts.{parts_are_invariant, runs_stay_in_bounds}
use Rattle.gr_stands_finds.specs.Vectors.{NamesVectors}
use Rattle.gr_stands_finds.specs.Laws.{InEachRun}
use Rattle.gr_stands_finds.proofs.Vectors.{run_names, serve_names, end_names, close_names, gift_names, ask_names, move_names, opening_names}

-- All parts stand, between events or in the course of one, and messages name vectors.
pub record NamedParts (given : Given) (rests : Bool) (me : ℕ) (sent : Sent) (world : World) (state : State) : Type 0 where
  pub parts : PartsStand given rests me sent world state
  pub named : NamesVectors given world

abbrev Rest : Given → Sent → World → State → Type 0
Rest given sent world state = NamedParts given true 0 sent world state

abbrev GoOn : Given → ℕ → Sent → World → State → Type 0
GoOn given me sent world state = NamedParts given false me sent world state

named_parts : (given : Given) (most : ℕ) → IsInvariant given most (BoundsAfter given) (PartsRest given) (PartsGoOn given)
    → IsInvariant given most (BoundsAfter given) (Rest given) (GoOn given)
named_parts given most old = record {
  opens = λ slot low. record { parts = old.opens slot low; named = opening_names given slot };
  begins = old.begins;
  tells = λ steps sent world state me low here all bounds held. old.tells steps sent world state me low here all bounds held.parts;
  counts = λ steps sent before later state me entry low goes all held bounds. old.counts steps sent before later state me entry low goes all held.parts bounds;
  keeps = λ steps low. let keeps = old.keeps steps low in record {
    runs = λ sent w v S N me slots start piece held.
        record { parts = keeps.runs sent w v S N me slots start piece (held.0, held.1.parts); named = run_names given w v me slots piece.acts held.1.named };
    serves = λ sent w v S N me from message start first piece held. record {
      parts = keeps.serves sent w v S N me from message start first piece (held.0, held.1.parts);
      named = serve_names given w me from message v piece.acts held.1.named;
    };
    ends = λ sent w v S N me message start piece held. record {
      parts = keeps.ends sent w v S N me message start piece held.parts;
      named = end_names given w v me (held.parts.lines me) message piece.acts held.named;
    };
    gives = λ sent w v S me piece held. record { parts = keeps.gives sent w v S me piece held.parts; named = gift_names given w v me piece.acts held.named };
    closes = λ sent w v S N me object start piece held. record {
      parts = keeps.closes sent w v S N me object start piece (held.0, held.1.parts);
      named = close_names given w v me (held.1.parts.lines me) object piece.acts held.1.named;
    };
    steals = λ sent w v S me victim start piece held. record {
      parts = keeps.steals sent w v S me victim start piece (held.0, held.1.parts);
      named = ask_names given w v me victim piece.acts held.1.named;
    };
    moves = λ sent w v S moves stood held. record
        { parts = keeps.moves sent w v S moves stood (held.0, held.1.parts); named = move_names given w v moves held.1.named };
  };
}

-- What is known of a world to which a run leads.
pub record HasRun (given : Given) (world : World) : Type 0 where
  pub sound : IsSound given
  pub accepted : RunsAccepted given
  pub literals : LiteralsFit given.program
  pub state : State
  pub all : StandsAmongCores given world state
  pub sent : Sent
  pub parts : PartsStand given true 0 sent world state
  pub named : NamesVectors given world
  pub guards : GuardsAreOpen given world

pub has_run : (given : Given) → InEachRun given (λ world. HasRun given (world_in world))
has_run given sound accepted short literals slot steps world low fit goes =
    let few = few_steps given slot steps world short goes in
    let run : RunHolds given (Rest given) world =
    invariants_hold given (length steps) (BoundsAfter given) (Rest given) (GoOn given) sound
    (named_parts given (length steps) (parts_are_invariant given (length steps) sound accepted (omega (arith, few)) literals)) slot steps world low fit
    (omega (arith)) goes in
    record {
      sound = sound;
      accepted = accepted;
      literals = literals;
      state = run.state;
      all = run.stands;
      sent = run.sent;
      parts = run.holds.parts;
      named = run.holds.named;
      guards = runs_stay_in_bounds given sound accepted short literals slot steps world low fit goes;
    }
