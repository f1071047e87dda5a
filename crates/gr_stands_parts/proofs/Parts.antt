-- All parts together are an invariant, and so runs have legal histories.
use Rattle.std.proofs.Common.{◌<◌, ◌^◌, ℕ, true, [], refl, arith}
use Rattle.std.specs.Prelude.{length}
use Rattle.gr_lang.specs.States.{State, opening_state}
use Rattle.gr_machine.specs.Histories.{Sent}
use Rattle.gr_machine.specs.Nets.{world_in}
use Rattle.gr_stands.specs.Worlds.{Given, World}
use Rattle.gr_stands.specs.Stands.{IsSound}
use Rattle.gr_stands_made.specs.Keeping.{KeptByPieces}
use Rattle.gr_stands_histories.specs.Invariants.{IsInvariant}
use Rattle.gr_stands_histories.proofs.Invariants.{invariants_hold}
use Rattle.gr_scopes.specs.Laws.{opening_names}
use Rattle.gr_scopes.proofs.Opening.{openings_have_scopes}
use Rattle.gr_batches.proofs.Opening.{openings_have_batches}
use Rattle.gr_lines.proofs.Opening.{openings_have_lines}
use Rattle.gr_lines_turns.proofs.Opening.{openings_have_turns}
use Rattle.gr_elements_steps.proofs.Steps as rows
use Rattle.gr_fits.specs.Reached.{RunsAccepted}
use Rattle.gr_fits_words.specs.Literals.{LiteralsFit}
use Rattle.gr_fits.proofs.Reached.{openings_reached}
use Rattle.gr_bounds_stands.specs.Standing.{BoundsStand}
use Rattle.gr_bounds_stands.proofs.Standing.{openings_have, steps_keep}
use Rattle.gr_bounds_stands.proofs.Telling.{few_steps}
use Rattle.gr_scopes_steps.specs.Stepping.{GrownStand}
use Rattle.gr_shares_steps.proofs.Steps.{openings_have_work}
use Rattle.gr_bounds_tells.proofs.Runs.{runs_drop_nothing}
use Rattle.gr_stands_parts.specs.Stages.{Stage, ran, served, ended, gave, closed, asked, moved, is_last, sent_then, ends_then, words_then}
use Rattle.gr_stands_parts.specs.Parts.{PartsStand, BoundsAfter, PartsRest, PartsGoOn, HasRoom}
use Rattle.gr_stands_parts.specs.Keeping.{StageStands}
use Rattle.gr_stands_parts.specs.Laws as laws
use Rattle.gr_stands_parts.proofs.Kept.{reached, lines, turns, elements}
use Rattle.gr_stands_parts.proofs.Work.{scopes, work}
use Rattle.gr_stands_parts.proofs.Lists.{batches, lists}
use Rattle.gr_stands_parts.proofs.Opening.{none_have_words}
use Rattle.gr_stands_parts.proofs.Told.{loops_tell, has_room, tells}

-- Between events it doesn't matter of which core the parts are.
whichever : (given : Given) (me other : ℕ) (sent : Sent) (world : World) (state : State)
    → PartsStand given true me sent world state → PartsStand given true other sent world state
whichever given me other sent world state p = record {
  reached = p.reached;
  names = p.names;
  scopes = p.scopes;
  work = p.work;
  batches = p.batches;
  lines = p.lines;
  ends = p.ends;
  turns = p.turns;
  words = p.words;
  lists = p.lists;
  elements = p.elements;
}

module _ (given : Given) (sound : IsSound given) (accepted : RunsAccepted given) (literals : LiteralsFit given.program) where
  -- Each stage leads from all parts to all parts.
  leads_on : (sent : Sent) (w v : World) (S N : State) (me : ℕ) (stage : Stage) → StageStands given sent w v S N me stage
      → PartsStand given (is_last stage) me (sent_then given sent w me stage) v N
  leads_on sent w v S N me stage at =
      let grown : GrownStand given at.parts.names v N = scopes given sound accepted literals sent w v S N me stage at in
      record {
        reached = reached given sent w v S N me stage at.made at.parts.reached;
        names = grown.more;
        scopes = grown.stands;
        work = work given sent w v S N me stage at grown.more grown.grown grown.stands;
        batches = batches given sound accepted sent w v S N me stage at;
        lines = lines given accepted sent w v S N me stage at;
        ends = ends_then w me at.parts.ends stage;
        turns = turns given accepted sent w v S N me stage at;
        words = words_then w me at.parts.words stage;
        lists = lists given sent w v S N me stage at;
        elements = elements given accepted sent w v S N me stage at;
      }

  module _ (most : ℕ) (few : most < 2 ^ 63) where
    room : (steps : ℕ) → steps < most → (world : World) → BoundsStand given world steps → HasRoom given world
    room steps low world bounds = has_room given sound accepted literals world steps (omega (arith, low, few)) bounds

    keeps : (steps : ℕ) → steps < most
        → KeptByPieces given (λ sent world state. BoundsStand given world steps × PartsRest given sent world state) (PartsGoOn given) (PartsRest given)
    keeps steps low = record {
      runs = λ sent w v S N me slots start piece held. leads_on sent w v S N me (ran slots)
          (record { made = (start, piece); room = room steps low w held.0; parts = whichever given 0 me sent w S held.1 });
      serves = λ sent w v S N me from message start first piece held. leads_on sent w v S N me (served from message)
          (record { made = (start, first, piece); room = room steps low w held.0; parts = whichever given 0 me sent w S held.1 });
      ends = λ sent w v S N me message start piece held. leads_on sent w v S N me (ended message) (record { made = (start, piece); room = tt; parts = held });
      gives = λ sent w v S me piece held. whichever given me 0 sent v S
          (leads_on sent w v S S me gave (record { made = (refl, piece); room = tt; parts = held }));
      closes = λ sent w v S N me object start piece held. whichever given me 0 (sent_then given sent w me (closed object)) v N
          (leads_on sent w v S N me (closed object)
          (record { made = (start, piece); room = room steps low w held.0; parts = whichever given 0 me sent w S held.1 }));
      steals = λ sent w v S me victim start piece held. whichever given me 0 sent v S (leads_on sent w v S S me (asked victim)
          (record { made = (refl, start, piece); room = room steps low w held.0; parts = whichever given 0 me sent w S held.1 }));
      moves = λ sent w v S how stood held. leads_on sent w v S S 0 moved
          (record { made = (refl, how, stood); room = room steps low w held.0; parts = held.1 });
    }

    pub invariant : IsInvariant given most (BoundsAfter given) (PartsRest given) (PartsGoOn given)
    invariant = record {
      opens = λ slot low. record {
        reached = openings_reached given;
        names = opening_names;
        scopes = openings_have_scopes given slot sound low;
        work = openings_have_work given opening_names slot;
        batches = openings_have_batches given slot (opening_state given.program given.setup.steps);
        lines = openings_have_lines given slot;
        ends = λ number. record { head = 0; tail = 0 };
        turns = openings_have_turns given slot;
        words = λ number. [];
        lists = none_have_words given;
        elements = rows.opens given slot;
      };
      begins = λ slot low. openings_have given slot;
      tells = λ steps sent world state me low here all bounds parts.
          tells given sound accepted literals sent world state me 0 here all (room steps low world bounds) parts;
      counts = λ steps sent before later state me entry low goes all parts bounds.
          steps_keep given before later me entry steps goes (loops_tell given sound accepted literals sent (world_in before) state all parts) bounds;
      keeps = keeps;
    }

pub parts_are_invariant : laws.PartsAreInvariant
parts_are_invariant given most sound accepted few literals = invariant given sound accepted literals most few

pub runs_are_histories : laws.RunsAreHistories
runs_are_histories given sound accepted short literals slot steps world low fit goes =
    let few = few_steps given slot steps world short goes in
    invariants_hold given (length steps) (BoundsAfter given) (PartsRest given) (PartsGoOn given) sound
    (parts_are_invariant given (length steps) sound accepted (omega (arith, few)) literals) slot steps world low fit (omega (arith)) goes

pub runs_stay_in_bounds : laws.RunsStayInBounds
runs_stay_in_bounds given sound accepted short literals slot steps world low fit goes =
    runs_drop_nothing given slot steps world sound.cores short fit
    (λ first middle fits gone. let r = runs_are_histories given sound accepted short literals slot first middle low fits gone in
    loops_tell given sound accepted literals r.sent (world_in middle) r.state r.stands r.holds)
    goes
