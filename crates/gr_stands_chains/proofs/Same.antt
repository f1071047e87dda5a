-- A world that stands for a state stands for each with the same tasks and the same memory.
use Rattle.std.proofs.Common.{◌≡◌, ◌<◌, ℕ, List, [], ◌∷◌, length, slice_get, sym, ◌∙◌, ap, subst, refl, Some, None}
use Rattle.std.specs.FinMap as fin
use Rattle.gr_lang.specs.declared.action.TaskId.{TaskId}
use Rattle.gr_lang.specs.Objects.{Objects}
use Rattle.gr_lang.specs.States.{Task, State, id_cmp}
use Rattle.gr_msg.specs.declared.message.Msg.{Msg}
use Rattle.gr_msg.specs.declared.message.Msg.TheVariants as msg
use Rattle.gr_msg.specs.declared.message.Unit.{Unit as WorkUnit}
use Rattle.gr_msg.specs.declared.message.Unit.TheVariants as unit
use Rattle.gr_net.specs.Sums.{Each}
use Rattle.gr_net.proofs.Spreads.{Each-map}
use Rattle.gr_net.proofs.Flights.{every_with}
use Rattle.gr_machine.specs.States.{Suspended, Body}
use Rattle.gr_machine.specs.Machines.{Machine}
use Rattle.gr_machine.specs.Nets.{messages_in}
use Rattle.gr_stands.specs.Worlds.{Given, machine_in, World, bodies}
use Rattle.gr_stands.specs.Memory.{SameMemory, WordsStand}
use Rattle.gr_stands.specs.Censuses.{is_unended}
use Rattle.gr_stands.specs.Calls.{StandsAt, UnitFits, MessageFits, CallsStand}
use Rattle.gr_stands_chains.specs.Laws as laws

abbrev Tasks : Type 0
Tasks = fin.FinMap id_cmp Task

module _ (given : Given) (S T : State) (same : T.tasks ≡ S.tasks) where
  stands_on : (task : Suspended) → StandsAt S task → StandsAt T task
  stands_on task s = record { plain = s.plain; there = ap (λ (m : Tasks). fin.get m task.id) same ∙ s.there; action = s.action; running = s.running; mode = s.mode }

  unit_on : (u : WorkUnit) → UnitFits given S u → UnitFits given T u
  unit_on (unit.Single target args scope origin id) f = record { known = f.known; counted = f.counted; stands = stands_on _ f.stands }
  unit_on (unit.Chunk target args scope origin owner lo hi grain) f = tt

  message_on : (B : ℕ → Body) (from to : ℕ) (m : Msg) → MessageFits given B S from to m → MessageFits given B T from to m
  message_on B from to (msg.Request l id operation x y z) f =
      record { sender = f.sender; task = f.task; asked = f.asked; call = f.call; next = f.next; request = f.request; stands = stands_on f.task f.stands }
  message_on B from to (msg.Reply l id first second) f = record { task = f.task; asked = f.asked; stands = stands_on _ f.stands }
  message_on B from to (msg.Spawn u) f = unit_on u f
  message_on B from to (msg.StealGive u) f = unit_on u f
  message_on B from to _ f = tt

  calls_on : (w : World) → CallsStand given w S → CallsStand given w T
  calls_on w old = record {
    tasks = record {
      slots = λ i l u h. let f = old.tasks.slots i l u h in record { here = f.here; low = f.low; counted = f.counted; stands = λ z. stands_on u (f.stands z) };
      private = λ i l. Each-map (UnitFits given S) (UnitFits given T) unit_on (bodies w i).work.private (old.tasks.private i l);
      public = λ i l. Each-map (UnitFits given S) (UnitFits given T) unit_on (bodies w i).work.public (old.tasks.public i l);
      ready = old.tasks.ready;
      fresh = λ i number l. ap (λ (m : Tasks). fin.get m (record { core = i; number = number })) same ∙ old.tasks.fresh i number l;
    };
    once = λ id. old.once id ∙ sym (ap (λ (m : Tasks). is_unended (fin.get m id)) same);
    messages = every_with messages_in (MessageFits given (bodies w) S) (MessageFits given (bodies w) S) (MessageFits given (bodies w) T) given.setup.cores w
        (λ from to m p q. message_on (bodies w) from to m p) old.messages old.messages;
    asked = old.asked;
  }

words_on : (machine : Machine) (B : ℕ → Body) (S T : Objects) → SameMemory S T → WordsStand machine B S → WordsStand machine B T
words_on machine B S T m old = record {
  words = λ at. old.words at ∙ sym (word at);
  keys = λ object key. old.keys object key ∙ sym (m.keys object key);
  elsewhere = old.elsewhere;
  blocks = old.blocks ∙ sym m.blocks;
  kinds = λ object. m.kinds object ∙ old.kinds object;
  heap = m.heap ∙ old.heap;
  count = ap length m.words ∙ old.count;
}
  where
    word : (at : ℕ) → slice_get T.words at ≡ slice_get S.words at
    word at = ap (λ (xs : List ℕ). slice_get xs at) m.words

pub same_tasks_stand : laws.SameTasksStand
same_tasks_stand given w S T tasks memory old = record {
  words = words_on (machine_in given) (bodies w) S.objects T.objects memory old.words;
  calls = calls_on given S T tasks w old.calls;
}
