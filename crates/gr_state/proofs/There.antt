-- What becomes of the tasks in slots where it is known what stands in a slot.
use Rattle.std.proofs.Common.{◌≡◌, ℕ, List, Option, Some, ap, ◌∙◌, refl}
use Rattle.std.proofs.lemmas.List.{append-nil}
use Rattle.gr_view.specs.Places.{put}
use Rattle.gr_view.proofs.Puts.{put_at, put_put}
use Rattle.gr_code.specs.Points.{Lowered}
use Rattle.gr_machine.specs.States.{Suspended}
use Rattle.gr_msg.specs.declared.message.ScopeId.{ScopeId}
use Rattle.gr_machine.specs.declared.waits.Waits.{Waits}
use Rattle.gr_slots.specs.Held.{changed, changed_by, with_slot, to_wait, to_open, to_pass}
use Rattle.gr_slots.specs.SlotView.{SlotsData, TaskData, held_in, slots_in}

-- A task in a slot is changed where one is there.
changed_there : (change : Suspended → Suspended) (old new : SlotsData) (slot : ℕ) (task : Suspended)
    → held_in new ≡ changed change (held_in old) slot → slots_in old.code old.slots slot ≡ Some task → held_in new ≡ with_slot (held_in old) slot (Some (change task))
changed_there change old new slot task so there = so ∙ ap (λ (held : Option Suspended). changed_by change (held_in old) slot held) there

pub waits_there : (reason : Waits) (old new : SlotsData) (slot : ℕ) (task : Suspended)
    → held_in new ≡ changed (to_wait reason) (held_in old) slot → slots_in old.code old.slots slot ≡ Some task → held_in new ≡ with_slot (held_in old) slot (Some (to_wait reason task))
waits_there reason = changed_there (to_wait reason)

pub opened_there : (scope : ScopeId) (old new : SlotsData) (slot : ℕ) (task : Suspended)
    → held_in new ≡ changed (to_open scope) (held_in old) slot → slots_in old.code old.slots slot ≡ Some task → held_in new ≡ with_slot (held_in old) slot (Some (to_open scope task))
opened_there scope = changed_there (to_open scope)

pub passed_there : (old new : SlotsData) (slot : ℕ) (task : Suspended)
    → held_in new ≡ changed to_pass (held_in old) slot → slots_in old.code old.slots slot ≡ Some task → held_in new ≡ with_slot (held_in old) slot (Some (to_pass task))
passed_there = changed_there to_pass

-- What stands in a slot once it was put there, and once more.
pub put_there : (code : Lowered) (slots : List (Option TaskData)) (before : ℕ → Option Suspended) (slot : ℕ) (held : Option Suspended)
    → slots_in code slots ≡ put before slot held → slots_in code slots slot ≡ held
put_there code slots before slot held so = ap (λ (all : ℕ → Option Suspended). all slot) so ∙ put_at before slot held slot refl

pub put_again : (code : Lowered) (slots : List (Option TaskData)) (before : ℕ → Option Suspended) (slot : ℕ) (held next : Option Suspended)
    → slots_in code slots ≡ put before slot held → put (slots_in code slots) slot next ≡ put before slot next
put_again code slots before slot held next so = ap (λ (all : ℕ → Option Suspended). put all slot next) so ∙ put_put before slot held next

pub ruleset when_there = (waits_there, opened_there, passed_there, put_there, put_again, append-nil)
