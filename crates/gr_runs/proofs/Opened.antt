-- Tasks in slots that change, and change again or go on.
use Rattle.std.proofs.Common.{◌≡◌, ℕ, Option, Some, None, ap, ◌∙◌, refl}
use Rattle.std.specs.Option.{option_map}
use Rattle.gr_lang.specs.declared.action.Reply.{Reply}
use Rattle.gr_view.proofs.Puts.{put_at, put_put}
use Rattle.gr_machine.specs.Machines.{code_of}
use Rattle.gr_machine.specs.Slots.{stands_at}
use Rattle.gr_machine.specs.States.{Suspended}
use Rattle.gr_slots.specs.Held.{Held, changed, changed_by, resumed, resumed_by, with_ready, with_slot}

-- What stands in a slot is put there, and put there again.
put_twice : (held : Held) (slot : ℕ) (one other : Option Suspended) → with_slot (with_slot held slot one) slot other ≡ with_slot held slot other
put_twice held slot one other = ap (λ (slots : ℕ → Option Suspended). record held { tasks = record held.tasks { slots = slots } }) (put_put held.tasks.slots slot one other)

there : (held : Held) (slot : ℕ) (one : Option Suspended) → (with_slot held slot one).tasks.slots slot ≡ one
there held slot one = put_at held.tasks.slots slot one slot refl

pub changed_twice : (first second : Suspended → Suspended) (held between after : Held) (slot : ℕ) → between ≡ changed first held slot → after ≡ changed second between slot
    → after ≡ changed (λ task. second (first task)) held slot
changed_twice first second held between after slot so then =
    then ∙ ap (λ (all : Held). changed second all slot) so ∙ by (held.tasks.slots slot) refl
  where
    by : (task : Option Suspended) → held.tasks.slots slot ≡ task
        → changed second (changed_by first held slot task) slot ≡ changed_by (λ task. second (first task)) held slot task
    by None is = ap (changed_by second held slot) is
    by (Some task) is =
        ap (changed_by second (with_slot held slot (Some (first task))) slot) (there held slot (Some (first task)))
        ∙ put_twice held slot (Some (first task)) (Some (second (first task)))

pub changed_and_resumed : (steps : ℕ) (change : Suspended → Suspended) (held between after : Held) (slot : ℕ) (reply : Reply) → between ≡ changed change held slot
    → after ≡ resumed steps between slot reply → after ≡ resumed_by steps held slot reply (option_map change (held.tasks.slots slot))
changed_and_resumed steps change held between after slot reply so then =
    then ∙ ap (λ (all : Held). resumed steps all slot reply) so ∙ by (held.tasks.slots slot) refl
  where
    by : (task : Option Suspended) → held.tasks.slots slot ≡ task
        → resumed steps (changed_by change held slot task) slot reply ≡ resumed_by steps held slot reply (option_map change task)
    by None is = ap (resumed_by steps held slot reply) is
    by (Some task) is =
        ap (resumed_by steps (with_slot held slot (Some (change task))) slot reply) (there held slot (Some (change task)))
        ∙ ap (λ (all : Held). with_ready all slot)
        (put_twice held slot (Some (change task)) (Some (stands_at (change task) ((code_of held.program steps).go_on (change task).running reply))))
