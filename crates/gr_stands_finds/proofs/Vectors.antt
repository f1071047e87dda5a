-- Each piece of a step keeps that messages of turns and of elements are of vectors that there are.
use Rattle.std.proofs.Common.{◌≡◌, ◌≢◌, ℕ, true, false, List, [], ◌∷◌, sym, ◌∙◌, ap, refl, Option, Some, None, is_some}
use Rattle.gr_msg.specs.declared.message.Msg.{Msg}
use Rattle.gr_msg.specs.declared.message.Msg.TheVariants as msg
use Rattle.gr_agg.specs.Laws.{Merges}
use Rattle.gr_net.specs.Sums.{Each}
use Rattle.gr_net.proofs.Spreads.{Each-append}
use Rattle.gr_batch.specs.Batches.{batches_of, rest_of}
use Rattle.gr_batch.specs.declared.combiner.Batch.{Batch}
use Rattle.gr_machine.specs.Machines.{Machine, thing}
use Rattle.gr_machine.specs.Openings.{is_vector}
use Rattle.gr_machine.specs.States.{Letter, Vector, Body}
use Rattle.gr_machine.specs.Outcomes.{Send, Outcome, quietly, followed}
use Rattle.gr_machine.specs.Serves.{serves}
use Rattle.gr_machine.specs.TurnServes.{settled_vector}
use Rattle.gr_machine.specs.Closes.{batch_sent, batches_sent, with_combiner, closes_as, closes}
use Rattle.gr_machine.specs.Events.{gives, asks, slot_of}
use Rattle.gr_machine.specs.GlobalRuns.{opening_world}
use Rattle.gr_machine.specs.Nets.{world_in}
use Rattle.gr_stands.specs.Worlds.{Given, machine_in, World, bodies, Acts, Moves}
use Rattle.gr_stands.proofs.Worlds.{facts_off, facts_on, moved_facts}
use Rattle.gr_stands_calls.specs.Acting.{letter}
use Rattle.gr_stands_outcomes.specs.Inner.{outcome_of}
use Rattle.gr_stands_steps.specs.Telling.{message_outcome}
use Rattle.gr_stands_made.specs.Pieces.{ran_at, ended_at}
use Rattle.gr_lines.specs.Waiting.{HasLines}
use Rattle.gr_lines_turns.specs.TokenActs.{IsOfOther}
use Rattle.gr_lines_turns.proofs.Opening.{quiet}
use Rattle.gr_lines_apart.proofs.Turns as turns
use Rattle.gr_lines_apart.proofs.Closes as turn_closes
use Rattle.gr_lines_steps.proofs.Turns as turn_steps
use Rattle.gr_elements.specs.ElementActs.{IsOfNoElement}
use Rattle.gr_elements_apart.specs.Leaving.{IsOffElements}
use Rattle.gr_elements_apart.proofs.Turns as elements
use Rattle.gr_elements_apart.proofs.Closes as element_closes
use Rattle.gr_elements_steps.proofs.Steps as element_steps
use Rattle.gr_stands_finds.specs.Vectors.{NamesVectors}

none_some : {X : Type 0} (x : X) → None ≡ Some x → ⊥
none_some x e = cc

not_both : true ≡ false → ⊥
not_both e = cc

-- The message is of no turn and of no element of the vector.
abbrev pub IsOff : ℕ → Msg → Type 0
IsOff number message = IsOfOther number message × IsOfNoElement number message

abbrev AllOff : ℕ → List Send → Type 0
AllOff number sends = Each (λ send. IsOff number send.message) sends

both : (number : ℕ) (sends : List Send) → Each (λ send. IsOfOther number send.message) sends → Each (λ send. IsOfNoElement number send.message) sends
    → AllOff number sends
both number [] p q = tt
both number (send ∷ sends) p q = ((p.0, q.0), both number sends p.1 q.1)

merges : (number : ℕ) → Merges (IsOff number)
merges number scope one other p q = (tt, tt)

-- A message that is of none grants no turn either.
off_elements : (number : ℕ) (message : Msg) → IsOff number message → IsOffElements number message
off_elements number (msg.Grant vector head tail) p = p.0
off_elements number (msg.ElemPut vector position word) p = p.1
off_elements number (msg.ElemGet vector position) p = p.1
off_elements number (msg.ElemAck vector position got) p = p.1
off_elements number _ p = tt

module _ (given : Given) where
  abbrev machine : Machine
  machine = machine_in given

  abbrev IsNone : ℕ → Type 0
  IsNone number = is_vector (thing machine number) ≡ false

  -- An outcome that sends nothing of a vector that there isn't.
  kept : (w v : World) (me : ℕ) (got : List Letter) (e : Outcome) → Acts given.setup.cores w v me got e
      → ((number : ℕ) → IsNone number → AllOff number e.sends) → NamesVectors given w → NamesVectors given v
  kept w v me got e acts sends old number missing =
      facts_on given.setup.cores w v me got e acts (λ from to message. IsOff number message) (λ from to. merges number)
      (facts_off given.setup.cores w v me got e acts (λ from to message. IsOff number message) (old number missing)).1 (sends number missing)

  -- ---- a Run

  pub run_names : (w v : World) (me : ℕ) (slots : List ℕ) → Acts given.setup.cores w v me [] (ran_at given w me slots) → NamesVectors given w
      → NamesVectors given v
  run_names w v me slots acts = kept w v me [] (ran_at given w me slots) acts (λ number missing.
      both number (ran_at given w me slots).sends
      (turn_steps.run_leaves machine number me (bodies w me) (slot_of slots) (bodies w me).tasks.ready).sends
      (element_steps.run_leaves machine number me (bodies w me) (slot_of slots) (bodies w me).tasks.ready).sends)

  -- ---- a Serve

  module _ (w : World) (me from : ℕ) (message : Msg) where
    abbrev body : Body
    body = bodies w me

    served_off : (number : ℕ) → IsOff number message → (made : Option Outcome) → serves machine me body from message ≡ made
        → AllOff number (outcome_of body made).sends
    served_off number off None h = tt
    served_off number off (Some e) h =
        both number e.sends (turns.messages_leave machine number me from body message e off.0 h).sends
        (elements.messages_leave machine number me from body message e (off_elements number message off) h).elements.sends

    pub serve_names : (v : World) → Acts given.setup.cores w v me (letter from message ∷ []) (message_outcome given w me from message) → NamesVectors given w
        → NamesVectors given v
    serve_names v acts old = kept w v me (letter from message ∷ []) (message_outcome given w me from message) acts (λ number missing.
        served_off number
        (facts_off given.setup.cores w v me (letter from message ∷ []) (message_outcome given w me from message) acts (λ source to m. IsOff number m)
        (old number missing)).0.0
        (serves machine me body from message) refl) old

  -- ---- the end of a turn, gifts, a Close, a Steal

  module _ (w v : World) (me : ℕ) (lines : HasLines given me (bodies w me)) where
    abbrev here : Body
    here = bodies w me

    module _ (number : ℕ) (missing : IsNone number) where
      -- The core has no such vector.
      is_none : here.vectors.vectors number ≡ None
      is_none = by (here.vectors.vectors number) (lines.vectors number ∙ missing)
        where
          by : (held : Option Vector) → is_some held ≡ false → held ≡ None
          by None e = refl
          by (Some vector) e = absurd (not_both e)

      ended_off : (vector : ℕ) (made : Option Outcome) → settled_vector machine here vector (here.vectors.vectors vector) ≡ made
          → AllOff number (outcome_of here made).sends
      ended_off vector None h = tt
      ended_off vector (Some e) h =
          both number e.sends (turns.ends_leave machine number vector here e other h).sends (elements.ends_leave machine number vector here e other h).sends
        where
          other : vector ≢ number
          other q = none_some e (sym (ap (settled_vector machine here vector) (ap here.vectors.vectors q ∙ is_none)) ∙ h)

      settles_off : (message : Msg) → AllOff number (ended_at given w me message).sends
      settles_off (msg.Grant vector head tail) = ended_off vector (settled_vector machine here vector (here.vectors.vectors vector)) refl
      settles_off (msg.ElemAck vector position got) = ended_off vector (settled_vector machine here vector (here.vectors.vectors vector)) refl
      settles_off _ = tt

      -- Batches are of no vector.
      batches_off : (object : ℕ) (e : Outcome) (batches : List Batch) → AllOff number e.sends → AllOff number (batches_sent machine object e batches).sends
      batches_off object e [] off = off
      batches_off object e (batch ∷ batches) off =
          let sent = batch_sent machine e.body object batch in
          batches_off object (followed e sent) batches (Each-append (λ (send : Send). IsOff number send.message) e.sends sent.sends off ((tt, tt), tt))

      closes_off : (object : ℕ) (held : Option Vector) → here.vectors.vectors object ≡ held → AllOff number (closes_as machine here object held).sends
      closes_off object None there =
          batches_off object (quietly (with_combiner here object (rest_of (here.batches.combiners object)))) (batches_of (here.batches.combiners object)) tt
      closes_off object (Some vector) there = ((other, tt), tt)
        where
          other : object ≢ number
          other q = none_some vector (sym (ap here.vectors.vectors q ∙ is_none) ∙ there)

    pub end_names : (message : Msg) → Acts given.setup.cores w v me [] (ended_at given w me message) → NamesVectors given w → NamesVectors given v
    end_names message acts = kept w v me [] (ended_at given w me message) acts (λ number missing. settles_off number missing message)

    pub close_names : (object : ℕ) → Acts given.setup.cores w v me [] (closes machine here object) → NamesVectors given w → NamesVectors given v
    close_names object acts =
        kept w v me [] (closes machine here object) acts (λ number missing. closes_off number missing object (here.vectors.vectors object) refl)

  pub gift_names : (w v : World) (me : ℕ) → Acts given.setup.cores w v me [] (gives (bodies w me)) → NamesVectors given w → NamesVectors given v
  gift_names w v me acts = kept w v me [] (gives (bodies w me)) acts (λ number missing.
      both number (gives (bodies w me)).sends (turn_closes.gifts_leave number (bodies w me)).sends
      (element_closes.gifts_leave number (bodies w me)).elements.sends)

  pub ask_names : (w v : World) (me victim : ℕ) → Acts given.setup.cores w v me [] (asks victim (bodies w me)) → NamesVectors given w → NamesVectors given v
  ask_names w v me victim acts = kept w v me [] (asks victim (bodies w me)) acts (λ number missing. ((tt, tt), tt))

  -- ---- messages that move, and the start

  pub move_names : (w v : World) → Moves given.setup.cores w v → NamesVectors given w → NamesVectors given v
  move_names w v moves old number missing = moved_facts given.setup.cores w v moves (λ from to message. IsOff number message) (old number missing)

  pub opening_names : (slot : ℕ) → NamesVectors given (world_in (opening_world machine slot))
  opening_names slot number missing = quiet given slot (λ from to message. IsOff number message)
