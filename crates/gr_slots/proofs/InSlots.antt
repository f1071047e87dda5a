-- The slots of a slab as a function, and over which code its tasks are.
use Rattle.std.proofs.Common.{◌≡◌, ℕ, Option, Some, None, [], ap, ◌∙◌, sym, refl, subst, inl, inr}
use Rattle.std.specs.Prelude.{IfSome, IsSome}
use Rattle.std.specs.Option.{option_map}
use Rattle.std.proofs.lemmas.Bool.{cases_eq}
use Rattle.slab.specs.Slab.{Slab, get, with_value, Updates}
use Rattle.slab.proofs.SlabLemmas.{Updates-with_value}
use mathlib.Core.Path.{fun_ext}
use Rattle.gr_view.specs.Places.{put}
use Rattle.gr_view.proofs.Puts.{put_by, put_put}
use Rattle.gr_code.specs.Points.{Lowered}
use Rattle.gr_machine.specs.States.{Suspended}
use Rattle.gr_slots.specs.SlotView.{TaskData, slots_in, suspended, IsSuspended, AreSuspended}

slots_put : (code : Lowered) (s t : Slab TaskData) (k : ℕ) (o : Option TaskData) → Updates s t k o → slots_in code t.slots ≡ put (slots_in code s.slots) k (option_map (suspended code) o)
unfolding slots_in
slots_put code s t k o u = put_by (λ q. option_map (suspended code) (get s q)) (λ q. option_map (suspended code) (get t q)) k (option_map (suspended code) o)
    (ap (option_map (suspended code)) u.changed) (λ q n. ap (option_map (suspended code)) (u.others q n))

pub slots_none : (code : Lowered) → slots_in code [] ≡ (λ k. None)
unfolding slots_in
slots_none code = fun_ext (λ k. refl)

pub slot_is : (code : Lowered) (s : Slab TaskData) (k : ℕ) → slots_in code s.slots k ≡ option_map (suspended code) (get s k)
unfolding slots_in
slot_is code s k = refl

pub slots_added : (code : Lowered) (s t : Slab TaskData) (k : ℕ) (x : TaskData) (y : Suspended) → Updates s t k (Some x) → suspended code x ≡ y → slots_in code t.slots ≡ put (slots_in code s.slots) k (Some y)
slots_added code s t k x y u e = slots_put code s t k (Some x) u ∙ ap (λ (y : Suspended). put (slots_in code s.slots) k (Some y)) e

pub slots_removed : (code : Lowered) (s t : Slab TaskData) (k : ℕ) → Updates s t k None → slots_in code t.slots ≡ put (slots_in code s.slots) k None
slots_removed code s t k u = slots_put code s t k None u

-- a task is changed where it stands
pub slots_with : (code : Lowered) (s : Slab TaskData) (k : ℕ) (x y : TaskData) (z : Suspended) → get s k ≡ Some x → suspended code y ≡ z → slots_in code (with_value s k y).slots ≡ put (slots_in code s.slots) k (Some z)
slots_with code s k x y z e is = slots_added code s (with_value s k y) k y z (Updates-with_value s k y (subst (λ (o : Option TaskData). IsSome o) (sym e) refl)) is

-- a task is taken out of its slot, and put back changed
pub slots_replaced : (code : Lowered) (s m t : Slab TaskData) (k key : ℕ) (y : TaskData) (z : Suspended) → Updates s m k None → key ≡ k → Updates m t key (Some y) → suspended code y ≡ z → slots_in code t.slots ≡ put (slots_in code s.slots) k (Some z)
slots_replaced code s m t k key y z out same back is =
    slots_added code m t k y z (subst (λ q. Updates m t q (Some y)) same back) is
    ∙ ap (λ (g : ℕ → Option Suspended). put g k (Some z)) (slots_removed code s m k out)
    ∙ put_put (slots_in code s.slots) k None (Some z)

pub are_none : (code : Lowered) → AreSuspended code []
are_none code = record { each = λ k. tt }

pub are_put : (code : Lowered) (s t : Slab TaskData) (k : ℕ) (o : Option TaskData) → Updates s t k o → AreSuspended code s.slots → IfSome o (λ task. IsSuspended code task.state) → AreSuspended code t.slots
are_put code s t k o u h new = record {
  each = λ q. elim (cases_eq q k) [
    | inl e ↦ subst (λ (o : Option TaskData). IfSome o (λ task. IsSuspended code task.state)) (sym (ap (get t) e ∙ u.changed)) new
    | inr n ↦ subst (λ (o : Option TaskData). IfSome o (λ task. IsSuspended code task.state)) (sym (u.others q n)) (h.each q)
  ];
}

pub is_there : (code : Lowered) (s : Slab TaskData) (k : ℕ) (x : TaskData) → AreSuspended code s.slots → get s k ≡ Some x → IsSuspended code x.state
is_there code s k x h e = subst (λ (o : Option TaskData). IfSome o (λ task. IsSuspended code task.state)) e (h.each k)

-- What a change of a slab's task does to the slots, and what is read there.
pub ruleset at_slots = (slots_none, slot_is, slots_added, slots_removed, slots_with, slots_replaced, are_none, are_put, is_there)
