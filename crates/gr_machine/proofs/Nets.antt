-- The machine without its clocks is a net of messages between cores.
use Rattle.std.proofs.Common.{◌≡◌, ◌+◌, ◌==◌, ℕ, max, true, false, if◌then◌else◌, List, [], ◌∷◌, ◌++◌, ap, ◌∙◌, sym, refl, subst, arith, sum_by}
use Rattle.std.specs.Prelude.{Bool, Option, Some, None, take}
use Rattle.std.specs.Option.{option_map}
use Rattle.std.proofs.lemmas.List.Sums.{sum_by-cons}
use Rattle.gr_view.specs.Places.{put}
use Rattle.gr_msg.specs.declared.message.Msg.{Msg}
use Rattle.gr_agg.specs.Buffers.{add_last}
use Rattle.gr_agg.proofs.Weights.{weigh_added}
use Rattle.gr_merge.specs.Machines.{quiet, shipping, with_first}
use Rattle.gr_merge.specs.GlobalRuns.{put_pair, world_with}
use Rattle.gr_net.specs.Messages.{Letter}
use Rattle.gr_net.specs.Sums.{weigh}
use Rattle.gr_net.specs.Worlds as net
use Rattle.gr_net.proofs.Views.{put_seen}
use Rattle.gr_machine.specs.declared.event.Event.TheVariants as event
use Rattle.gr_machine.specs.declared.journal.Stamped.{Stamped}
use Rattle.gr_machine.specs.Machines.{Machine}
use Rattle.gr_machine.specs.States.{Body, Core}
use Rattle.gr_machine.specs.Outcomes.{Send, sent, sent_all}
use Rattle.gr_machine.specs.Events.{Packet, Transition, letters_from, packet_to, ticked, received, begun, came_of, happens, slot_of, are_free, steps_to}
use Rattle.gr_machine.specs.Steppers.{CountedCore, Went, went_on, entry_step}
use Rattle.gr_machine.specs.GlobalRuns.{World}
use Rattle.gr_machine.specs.Nets as nets
use Rattle.gr_machine.specs.Nets.{core_in, world_in, messages_in}
use Rattle.gr_machine.proofs.Clocks.{some_same, some_then, entry_made}

-- Counts

weighed : (weight : Msg → ℕ) (messages : List Msg) → weigh weight messages ≡ sum_by weight messages
weighed weight [] = refl
weighed weight (message ∷ messages) = omega (arith, weighed weight messages, sum_by-cons weight message messages)

pub adds_up : nets.BuffersAddUp
adds_up weight adds messages message = omega (arith, weigh_added weight adds messages message, weighed weight (add_last messages message), weighed weight messages)

-- Outcomes

sent_is : (me : ℕ) (core : Core) (send : Send) → core_in (sent me core send) ≡ net.sent add_last me (core_in core) send
sent_is me core send = seen (send.to == me)
  where
    seen : (own : Bool) → core_in (if own then record core { inbox = core.inbox ++ record { from = me; message = send.message } ∷ [] } else record core { buffers = put core.buffers send.to (add_last (core.buffers send.to) send.message) })
        ≡ (if own then net.with_inbox (core_in core) (core.inbox ++ record { from = me; message = send.message } ∷ []) else net.with_buffer (core_in core) send.to (add_last (core.buffers send.to) send.message))
    seen true = refl
    seen false = refl

all_sent_are : (me : ℕ) (core : Core) (sends : List Send) → core_in (sent_all me core sends) ≡ net.sent_all add_last me (core_in core) sends
all_sent_are me core [] = refl
all_sent_are me core (send ∷ sends) = all_sent_are me (sent me core send) sends ∙ ap (λ (first : net.Core Body Msg). net.sent_all add_last me first sends) (sent_is me core send)

pub outcomes_are : nets.OutcomesAreTheNets
outcomes_are me core outcome = all_sent_are me (record core { body = outcome.body }) outcome.sends

-- Ships and Takes

-- A core of the world with another one in its place.
put_core : (world : World) (me : ℕ) (counted : CountedCore) → (λ other. core_in (put world.states me counted other).core) ≡ put (λ other. core_in (world.states other).core) me (core_in counted.core)
put_core world me counted = put_seen (λ (one : CountedCore). core_in one.core) world.states me counted

abbrev net_of : (ℕ → net.Core Body Msg) → (ℕ → ℕ → List Packet) → net.World Body Msg Packet
net_of cores transit = record { cores = cores; transit = transit }

abbrev ships_to : World → ℕ → ℕ → Option Went → Option World
ships_to world me dest went = option_map (λ (sent : Went × Packet). world_with world me (put_pair world.transit me dest (world.transit me dest ++ sent.1 ∷ [])) sent.0) (shipping went)

pub ships_are : nets.ShipsAreTheNets
ships_are machine world next me dest clock slots h = of_step (entry_step machine me (world.states me) entry None) refl h
  where
    entry : Stamped
    entry = record { clock = clock; event = event.Ship dest; slots = slots }

    core : Core
    core = (world.states me).core

    made : Transition
    made = happens machine me (ticked core core.clock) (slot_of slots) (event.Ship dest)

    messages : List Msg
    messages = take machine.setup.limit (core.buffers dest)

    Same : Type 0
    Same = world_in next ≡ net.shipped machine.setup.limit (record { clock = clock; messages = messages }) (world_in world) me dest

    of_made : core.clock + 1 ≡ clock → ships_to world me dest (Some (went_on machine (world.states me) (event.Ship dest) made)) ≡ Some next → Same
    of_made e k =
        ap world_in (sym (some_same k))
        ∙ ap (λ cores. net_of cores (put_pair world.transit me dest (world.transit me dest ++ packet_to machine (ticked core core.clock) dest ∷ [])))
        (put_core world me (went_on machine (world.states me) (event.Ship dest) made).state)
        ∙ ap (λ time. net.shipped machine.setup.limit (record { clock = time; messages = messages }) (world_in world) me dest) e

    of_step : (went : Option Went) → entry_step machine me (world.states me) entry None ≡ went → ships_to world me dest went ≡ Some next → Same
    of_step None e k = absurd (cc)
    of_step (Some went) e k =
        let c = entry_made machine me (world.states me) entry None went e in
        let is_made : made ≡ c.after = some_same (some_then (are_free core.body 0 slots) (Some made) c.after c.steps) in
        of_made (ap (λ (after : Transition). after.core.clock) is_made ∙ c.clock)
        (subst (λ (after : Transition). ships_to world me dest (Some (went_on machine (world.states me) (event.Ship dest) after)) ≡ Some next) (sym is_made)
        (subst (λ (one : Went). ships_to world me dest (Some one) ≡ Some next) (sym c.same) k))

letters_are : (from : ℕ) (messages : List Msg) → letters_from from messages ≡ net.letters from messages
letters_are from [] = refl
letters_are from (message ∷ messages) = ap (λ (rest : List (Letter Msg)). record { from = from; message = message } ∷ rest) (letters_are from messages)

abbrev takes_to : World → ℕ → ℕ → List Packet → Option Went → Option World
takes_to world me from packets went = option_map (world_with world me (put_pair world.transit from me packets)) (quiet went)

-- A packet that is taken, the first.
take_is : (machine : Machine) (world next : World) (me from clock : ℕ) (slots : List ℕ) (packet : Packet) (packets : List Packet)
    → takes_to world me from packets (entry_step machine me (world.states me) (record { clock = clock; event = event.Take from; slots = slots }) (Some packet)) ≡ Some next
    → world_in next ≡ net.taken messages_in (world_in world) me from (packet ∷ packets)
take_is machine world next me from clock slots packet packets h = of_step (entry_step machine me (world.states me) entry (Some packet)) refl h
  where
    entry : Stamped
    entry = record { clock = clock; event = event.Take from; slots = slots }

    core : Core
    core = (world.states me).core

    made : Transition
    made = came_of (begun (received (ticked core (max core.clock packet.clock)) from packet.messages))

    Same : Type 0
    Same = world_in next ≡ net.taken messages_in (world_in world) me from (packet ∷ packets)

    of_made : takes_to world me from packets (Some (went_on machine (world.states me) (event.Take from) made)) ≡ Some next → Same
    of_made k =
        ap world_in (sym (some_same k))
        ∙ ap (λ cores. net_of cores (put_pair world.transit from me packets)) (put_core world me (went_on machine (world.states me) (event.Take from) made).state)
        ∙ ap (λ letters. net_of (put (λ other. core_in (world.states other).core) me (net.with_inbox (core_in core) (core.inbox ++ letters))) (put_pair world.transit from me packets))
        (letters_are from packet.messages)

    is_made : (some : List ℕ) (after : Transition) → steps_to machine me core (event.Take from) some (Some packet) ≡ Some after → made ≡ after
    is_made [] after e = some_same e
    is_made (slot ∷ more) after e = absurd (cc)

    of_step : (went : Option Went) → entry_step machine me (world.states me) entry (Some packet) ≡ went → takes_to world me from packets went ≡ Some next → Same
    of_step None e k = absurd (cc)
    of_step (Some went) e k =
        let c = entry_made machine me (world.states me) entry (Some packet) went e in
        of_made
        (subst (λ (after : Transition). takes_to world me from packets (Some (went_on machine (world.states me) (event.Take from) after)) ≡ Some next) (sym (is_made slots c.after c.steps))
        (subst (λ (one : Went). takes_to world me from packets (Some one) ≡ Some next) (sym c.same) k))

pub takes_are : nets.TakesAreTheNets
takes_are machine world next me from clock slots h = of_packets (world.transit from me) h
  where
    of_packets : (packets : List Packet)
        → with_first packets (λ packet rest. takes_to world me from rest (entry_step machine me (world.states me) (record { clock = clock; event = event.Take from; slots = slots }) (Some packet))) ≡ Some next
        → world_in next ≡ net.taken messages_in (world_in world) me from packets
    of_packets [] k = absurd (cc)
    of_packets (packet ∷ packets) k = take_is machine world next me from clock slots packet packets k
