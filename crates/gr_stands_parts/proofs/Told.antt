-- What the parts tell at the start of a step.
use Rattle.std.proofs.Common.{◌≡◌, ◌+◌, ◌<◌, ◌^◌, ℕ, true, [], ◌∷◌, sym, ◌∙◌, ap, subst, refl}
use Rattle.std.specs.Prelude.{Some, Option, is_some}
use Rattle.gr_lang.specs.States.{State}
use Rattle.gr_lang.specs.declared.action.Action.{Action}
use Rattle.gr_lang.specs.declared.action.Action.TheVariants as action
use Rattle.gr_msg.specs.declared.message.Msg.{Msg}
use Rattle.gr_msg.specs.declared.message.Msg.TheVariants as msg
use Rattle.gr_net.specs.Sums.{Each}
use Rattle.gr_machine.specs.Machines.{thing}
use Rattle.gr_machine.specs.Openings.{is_vector}
use Rattle.gr_machine.specs.States.{Suspended, Letter}
use Rattle.gr_machine.specs.Outcomes.{Outcome}
use Rattle.gr_machine.specs.Histories.{Sent}
use Rattle.gr_machine.proofs.Clocks.{some_same}
use Rattle.gr_stands.specs.Worlds.{Given, machine_in, World}
use Rattle.gr_stands.specs.Stands.{IsSound}
use Rattle.gr_stands_calls.specs.Acting.{letter, IsFirstLetter}
use Rattle.gr_stands_steps.specs.Entries.{ActsWithMarks, StandsAmongCores}
use Rattle.gr_stands_steps.specs.Telling.{EndTells, MessageTells, PartsTell, message_outcome}
use Rattle.gr_scopes.specs.Trees.{Names, tree_of}
use Rattle.gr_scopes.specs.Scopes.{ScopesStand, IsCall}
use Rattle.gr_scopes_finished.specs.Counted.{IndicesTell}
use Rattle.gr_scopes_tells.specs.Told.{StandsTold}
use Rattle.gr_scopes_tells.proofs.Tasks.{tasks_are_told}
use Rattle.gr_scopes_tells.proofs.Leaves.{leaves_are_told}
use Rattle.gr_scopes_tells.proofs.Enrols.{enrolments_are_told}
use Rattle.gr_scopes_steps.specs.Stepping.{OthersTell}
use Rattle.gr_scopes_steps.proofs.Pieces as pieces
use Rattle.gr_shares_tells.specs.Telling.{WorkTells}
use Rattle.gr_shares_tells.proofs.Units.{work_tells_steps}
use Rattle.gr_shares_tells.proofs.Counted.{work_tells_scopes}
use Rattle.gr_batches_takes.specs.Taking.{TakesEffect}
use Rattle.gr_batches_takes.proofs.Takes.{batches_take_effect}
use Rattle.gr_shares_chunks.proofs.Chunks.{chunks_are_told}
use Rattle.gr_batches_tells.proofs.Tells.{replies_tell, batches_are_apart, held_tell}
use Rattle.gr_lines.specs.Waiting.{HasLines}
use Rattle.gr_lines_steps.proofs.Lines.{serve_keeps}
use Rattle.gr_elements_steps.specs.Behind.{IsLast}
use Rattle.gr_elements_steps.proofs.Told.{ends_told}
use Rattle.gr_lines_tells.proofs.Tells.{vectors_tell, askers_tell, groups_tell}
use Rattle.gr_fits.specs.Reached.{RunsAccepted}
use Rattle.gr_fits_words.specs.Literals.{LiteralsFit}
use Rattle.gr_fits_words.proofs.Reached.{loops_few}
use Rattle.gr_fits.proofs.Reached.{states_fit, states_valid}
use Rattle.gr_fits_objects.proofs.Few.{heap_apart}
use Rattle.gr_bounds_stands.specs.Standing.{BoundsStand, LoopsTell}
use Rattle.gr_bounds_stands.specs.Telling.{MakesCall, AskersCall}
use Rattle.gr_bounds_stands.proofs.Loops.{loops_told}
use Rattle.gr_bounds_stands.proofs.Telling.{bounds_told}
use Rattle.gr_bounds_tells.proofs.Guards.{grants_told}
use Rattle.gr_stands_parts.specs.Parts.{PartsStand, PartsRest, HasRoom}

-- ---- calls of which a message may tell

makes_call : (task : Suspended) (due : Action) → task.action ≡ due → IsCall due → MakesCall task
makes_call task (action.Call call) e f = record { call = call; due = e }
makes_call task (action.Spawn way target args) e f = absurd f
makes_call task action.Finish e f = absurd f
makes_call task action.Arrive e f = absurd f
makes_call task (action.Loop lo hi grain target args) e f = absurd f
makes_call task action.End e f = absurd f
makes_call task (action.Trap kind) e f = absurd f

pub askers_call : (given : Given) (names : Names) (world : World) (state : State) → ScopesStand given names world (tree_of state) → AskersCall world
askers_call given names world state scopes core slot task there told =
    makes_call task task.action refl (pieces.askers_call given names world (tree_of state) core slot task scopes there told)

-- ---- the start of a step

module _ (given : Given) (sound : IsSound given) (accepted : RunsAccepted given) (literals : LiteralsFit given.program) where
  pub loops_tell : (sent : Sent) (world : World) (state : State) → StandsAmongCores given world state → PartsRest given sent world state → LoopsTell given world
  loops_tell sent world state all parts =
      loops_told given world state all.stands (loops_few given literals state parts.reached) (askers_call given parts.names world state parts.scopes)

  pub has_room : (world : World) (steps : ℕ) → steps + 1 < 2 ^ 63 → BoundsStand given world steps → HasRoom given world
  has_room world steps few bounds = record {
    bounds = bounds_told given world steps sound.cores few bounds;
    grants = grants_told given world steps few bounds;
  }

  module _ (sent : Sent) (world : World) (state : State) (me any : ℕ) (here : me < given.setup.cores) (all : StandsAmongCores given world state)
      (room : HasRoom given world) (parts : PartsStand given true any sent world state) where
    abbrev names : Names
    names = parts.names

    pub indices : IndicesTell given names world state
    indices = work_tells_scopes given names world state parts.work.shares.hold parts.work.ranges

    pub told : StandsTold given names world state
    told = record {
      stands = record { stands = all.stands; scopes = parts.scopes };
      valid = states_valid given state parts.reached;
      counts = room.bounds.counts;
      indices = indices;
      actions = states_fit given state accepted parts.reached;
    }

    pub others : OthersTell given names world state me
    others = record {
      valid = states_valid given state parts.reached;
      counts = room.bounds.counts;
      masters = room.bounds.active me;
      indices = indices;
      chunks = chunks_are_told given names world state me parts.work.shares.hold here;
      batches = λ batch. batches_are_apart given sent world state me batch parts.batches;
    }

    work : WorkTells given world state me
    work = work_tells_steps given names world state me parts.work.shares.hold here

    effect_of : (from : ℕ) (m : Msg) (made : Option Outcome) (outcome : Outcome)
        → TakesEffect given sent world state me (letter from m ∷ []) made → made ≡ Some outcome
        → ActsWithMarks given sent world state me (letter from m ∷ []) outcome
    effect_of from m made outcome t e = subst (ActsWithMarks given sent world state me (letter from m ∷ [])) (some_same (sym t.acts ∙ e))
        (record { sends = t.sends; next = t.next; leads = t.leads; keeps = t.keeps })

    -- A turn that is at its end behind a message that comes first: its core has that vector, as each core has each.
    end_of : (from number : ℕ) (m : Msg) → IsFirstLetter given world me from m → IsLast number m
        → EndTells world state me number (message_outcome given world me from m).body
    end_of from number m first last between vector turn bodies_are there mine done =
        let sender : from < given.setup.cores =
        (subst (Each (λ (l : Letter). l.from < given.setup.cores)) first.without.inbox (all.senders.inboxes me here)).0 in
        let has : HasLines given me (message_outcome given world me from m).body = serve_keeps given world me (parts.lines me) from m sender in
        let is : is_vector (thing (machine_in given) number) ≡ true = sym (has.vectors number) ∙ ap is_some there in
        ends_told given world state me from number m parts.ends parts.words all.senders first parts.lines parts.turns parts.elements is last
        (parts.lists number is) between vector turn bodies_are there mine done

    message_told : (from : ℕ) (m : Msg) → IsFirstLetter given world me from m → MessageTells given sent world state me from m
    message_told from (msg.EnrolAck scope) first = enrolments_are_told given names world state me scope told
    message_told from (msg.Leave scope) first = leaves_are_told given names world state me from scope told first
    message_told from (msg.StealGive unit) first = work.gifts from unit first
    message_told from (msg.Batch object key effect batch) first = λ outcome e. effect_of from (msg.Batch object key effect batch) _ outcome
        (batches_take_effect given sent world state me from object key effect batch sound (heap_apart given accepted.accepted) all.stands parts.batches first) e
    message_told from (msg.BatchReply batch before) first = replies_tell given sent world state me from batch before parts.batches first
    message_told from (msg.Grant vector head tail) first = end_of from vector (msg.Grant vector head tail) first refl
    message_told from (msg.ElemAck vector position taken) first = end_of from vector (msg.ElemAck vector position taken) first refl
    message_told from _ first = tt

    pub tells : PartsTell given sent world state me
    tells = record {
      turns = askers_tell given world parts.lines;
      vectors = vectors_tell given world parts.lines;
      actions = states_fit given state accepted parts.reached;
      scopes = λ slot more task first. tasks_are_told given names world state me slot more task told first;
      units = work.units;
      messages = message_told;
      closes = λ object. groups_tell given world me object parts.lines (λ none. held_tell given sent world state me object parts.batches none);
    }
