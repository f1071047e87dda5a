-- Whose home a batch comes to: whether its object is one of words or of keys.
use Rattle.std.proofs.Common.{◌≡◌, ℕ, ◌<◌, ◌==◌, Bool, true, false, if◌then◌else◌, List, [], ◌∷◌, length, slice_get, sym, ◌∙◌, ap, refl, arith, Option, Some, None}
use Rattle.std.proofs.lemmas.Bool.Decides.{nat_tests}
use Rattle.gr_syntax.specs.declared.limits.TheConstants.{HEAP}
use Rattle.gr_lang.specs.declared.action.Op.{Op}
use Rattle.gr_lang.specs.declared.action.WaitingCall.{WaitingCall}
use Rattle.gr_lang.specs.Objects.{Object, address, address_in, heap_address}
use Rattle.gr_net.specs.Sums.{Each}
use Rattle.gr_machine.specs.Machines.{Machine, thing}
use Rattle.gr_machine.specs.Calls.{is_keyed}
use Rattle.gr_stands.specs.Worlds.{Given, machine_in}
use Rattle.gr_stands_calls.proofs.Slots.{none_some}
use Rattle.gr_batches.specs.Keys.{IsOn}
use Rattle.gr_batches_takes.specs.Taking.{HeapIsApart}
use Rattle.gr_batches_takes.proofs.Words.{IsReduceOf}
use Rattle.gr_batches_takes.proofs.Cells.{none_keyed, as_word}

module _ (given : Given) (object key : ℕ) (heap : HeapIsApart given) where
  abbrev machine : Machine
  machine = machine_in given

  -- Where the object is no array, none of its places is a word's, but for the heap's.
  pub no_word : (it : Object) → thing machine object ≡ Some it → ((spot : ℕ) → address_in (Some it) spot ≡ None) → (spot : ℕ) → address machine.code.objects object spot ≡ Some key → ⊥
  no_word it e none spot = by (object == HEAP) refl
    where
      equal : (a c : ℕ) → (a == c) ≡ true → a ≡ c
      equal a c q = grind (arith, nat_tests)

      by : (t : Bool) → (object == HEAP) ≡ t
          → (if t then heap_address machine.code.objects.heap spot else address_in (slice_get machine.code.objects.things object) spot) ≡ Some key → ⊥
      by true q h = none_some it (sym heap ∙ ap (thing machine) (sym (equal object HEAP q)) ∙ e)
      by false q h = none_some key (sym (ap (λ (o : Option Object). address_in o spot) e ∙ none spot) ∙ h)

  -- Where there is no such object it is the heap.
  pub heap_so : (calls : List WaitingCall) → 0 < length calls → Each (λ (one : WaitingCall). IsOn machine object key one.op) calls → thing machine object ≡ None → (object == HEAP) ≡ true
  heap_so calls some on e = by (object == HEAP) refl calls some on
    where
      lies : (o : Op) → IsOn machine object key o → (g : IsReduceOf machine object key o) → address machine.code.objects object g.place ≡ Some key
      lies o r g = ap (λ (n : ℕ). address machine.code.objects n g.place) (sym g.object_is) ∙ g.lies

      not_none : (o : Op) → is_keyed o (thing machine object) ≡ true → ⊥
      not_none o k = none_keyed o (ap (is_keyed o) (sym e) ∙ k)

      by : (t : Bool) → (object == HEAP) ≡ t → (cs : List WaitingCall) → 0 < length cs → Each (λ (one : WaitingCall). IsOn machine object key one.op) cs → (object == HEAP) ≡ true
      by t q [] l g = absurd (omega (arith, l))
      by true q (one ∷ cs) l g = q
      by false q (one ∷ cs) l g =
          let r : IsReduceOf machine object key one.op = as_word machine object key one.op g.0 (not_none one.op) in
          absurd (none_some key (sym (ap (λ (t : Bool). if t then heap_address machine.code.objects.heap r.place else address_in (slice_get machine.code.objects.things object) r.place) q
          ∙ ap (λ (o : Option Object). address_in o r.place) e) ∙ lies one.op g.0 r))
