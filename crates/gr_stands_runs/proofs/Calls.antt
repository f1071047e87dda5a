-- A ready task makes a call.
use Rattle.std.proofs.Common.{◌≡◌, ◌≢◌, ℕ, zero, suc, ◌<◌, Bool, true, false, if◌then◌else◌, List, [], ◌∷◌, sym, ◌∙◌, ap, subst, refl, Option, Some, None}
use Rattle.std.specs.Prelude.{is_some}
use Rattle.gr_lang.specs.declared.action.Action.TheVariants as action
use Rattle.gr_lang.specs.declared.action.Op.{Op}
use Rattle.gr_lang.specs.declared.action.Op.TheVariants as op
use Rattle.gr_lang.specs.Objects.{address}
use Rattle.gr_lang.specs.States.{State}
use Rattle.gr_net.specs.Sums.{Each}
use Rattle.gr_machine.specs.Machines.{Machine, home, thing}
use Rattle.gr_machine.specs.declared.waits.Waits.TheVariants as wait
use Rattle.gr_machine.specs.States.{Suspended, Vector, Body}
use Rattle.gr_machine.specs.Outcomes.{Send, Outcome}
use Rattle.gr_machine.specs.Slots.{dropped}
use Rattle.gr_machine.specs.Calls.{joins, key_joins, reduce_joins, vector_joins, called, is_keyed, is_reducer}
use Rattle.gr_machine.specs.Runs.{acts, without_ready}
use Rattle.gr_stands.specs.Worlds.{Given, machine_in, World, bodies}
use Rattle.gr_stands.specs.Actions.{HasPlace, HasKeyed, HasLine, CallFits}
use Rattle.gr_stands.specs.Calls.{IsRequest}
use Rattle.gr_stands.specs.Stands.{IsSound, Stands}
use Rattle.gr_stands_calls.specs.Acting.{IsFirst, ActsQuietly}
use Rattle.gr_stands_calls.specs.Rests.{WaitsElsewhere}
use Rattle.gr_stands_calls.proofs.Asked.{calls_are_asked}
use Rattle.gr_stands_calls.proofs.Rests.{waits_are_kept}
use Rattle.gr_stands_runs.specs.Telling.{VectorsStand}
use Rattle.gr_stands_runs.specs.Laws as laws

-- What is there.
there_is : {X : Type 0} (o : Option X) → is_some o ≡ true → (x : X) × (o ≡ Some x)
there_is None e = absurd (cc)
there_is (Some x) e = (x, refl)

module _ (given : Given) (w : World) (S : State) (c k : ℕ) (more : List ℕ) (s : Suspended) (sound : IsSound given) (st : Stands given w S) (here : c < given.setup.cores)
    (first : IsFirst w c k more s) (vectors : VectorsStand given w) where
  abbrev machine : Machine
  machine = machine_in given

  abbrev body : Body
  body = without_ready (bodies w c)

  abbrev Row : Type 0
  Row = ActsQuietly given w S c [] (Some (acts machine c body k s s.action))

  -- The call is asked of a core.
  asked : (call : Op) (to operation x y z : ℕ) → s.action ≡ action.Call call → IsRequest machine to call operation x y z → Row
  asked call to operation x y z next request = calls_are_asked given w S c k more s call to operation x y z sound st here first next request

  -- The call joins others.
  joined : (call : Op) (e : Outcome) (object : ℕ) → s.action ≡ action.Call call → called machine body k s call ≡ e → WaitsElsewhere (bodies w c) k s (wait.Close object) e → e.sends ≡ [] → e.marks ≡ [] → Row
  joined call e object next is rests sends marks = record {
    outcome = e;
    acts = ap Some (ap (acts machine c body k s) next ∙ is);
    sends = none e.sends sends;
    marks = marks;
    keeps = waits_are_kept given w S c k more s e (wait.Close object) st here first rests;
  }
    where
      none : (xs : List Send) → xs ≡ [] → Each (λ send. send.to < given.setup.cores) xs
      none [] e = tt
      none (x ∷ xs) e = absurd (cc)

  rests : (call : Op) (object key : ℕ) → WaitsElsewhere (bodies w c) k s (wait.Close object) (joins body k s call object key)
  rests call object key = record { tasks = refl; work = refl; words = refl; sends = tt; not_told = refl; not_going = refl; not_asking = refl; mode = refl }

  on_word : (call : Op) (object place number y z : ℕ) → s.action ≡ action.Call call → HasPlace machine object place
      → ((at : ℕ) → address machine.code.objects object place ≡ Some at → IsRequest machine (home machine at) call number at y z) → Row
  on_word call object place number y z next has request =
      let at = there_is (address machine.code.objects object place) has in
      asked call (home machine at.0) number at.0 y z next (request at.0 at.1)

  on_key : (call : Op) (object key : ℕ) → s.action ≡ action.Call call → called machine body k s call ≡ key_joins machine body k s call object key → HasKeyed machine object call → Row
  on_key call object key next is has =
      joined call (joins body k s call object key) object next (is ∙ ap (λ (b : Bool). if b then joins body k s call object key else dropped body k) has) (rests call object key) refl refl

  on_line : (call : Op) (object : ℕ) → s.action ≡ action.Call call → called machine body k s call ≡ vector_joins body k s call object (body.vectors.vectors object) → HasLine machine object → Row
  on_line call object next is has =
      let v = there_is (body.vectors.vectors object) (vectors c object here has) in
      joined call (vector_joins body k s call object (Some v.0)) object next (is ∙ ap (vector_joins body k s call object) v.1)
      (record { tasks = refl; work = refl; words = refl; sends = tt; not_told = refl; not_going = refl; not_asking = refl; mode = refl }) refl refl

  any : (call : Op) → s.action ≡ action.Call call → CallFits machine call → Row
  any (op.Read object place) next has = on_word (op.Read object place) object place 1 0 0 next has (λ at e. record { lies = e; homed = refl; numbered = refl; first_is = refl; second_is = refl })
  any (op.Write object place word) next has = on_word (op.Write object place word) object place 2 word 0 next has (λ at e. record { lies = e; homed = refl; numbered = refl; first_is = refl; second_is = refl })
  any (op.Add object place word) next has = on_word (op.Add object place word) object place 3 word 0 next has (λ at e. record { lies = e; homed = refl; numbered = refl; first_is = refl; second_is = refl })
  any (op.Cas object place old new) next has = on_word (op.Cas object place old new) object place 4 old new next has (λ at e. record { lies = e; homed = refl; numbered = refl; first_is = refl; second_is = refl })
  any (op.Reduce object reducer place word) next has =
      let call : Op = op.Reduce object reducer place word in
      let at = there_is (address machine.code.objects object place) has.1 in
      joined call (joins body k s call object at.0) object next
      (ap (λ (b : Bool). reduce_joins body k s call object b (address machine.code.objects object place)) has.0 ∙ ap (reduce_joins body k s call object true) at.1) (rests call object at.0) refl refl
  any (op.Insert object key) next has = on_key (op.Insert object key) object key next refl has
  any (op.Remove object key) next has = on_key (op.Remove object key) object key next refl has
  any (op.Has object key) next has = on_key (op.Has object key) object key next refl has
  any (op.Put object key word) next has = on_key (op.Put object key word) object key next refl has
  any (op.Get object key) next has = on_key (op.Get object key) object key next refl has
  any (op.Erase object key) next has = on_key (op.Erase object key) object key next refl has
  any (op.Merge object reducer key word) next has = on_key (op.Merge object reducer key word) object key next refl has
  any (op.Push object word) next has = on_line (op.Push object word) object next refl has
  any (op.Pop object) next has = on_line (op.Pop object) object next refl has
  any (op.Dequeue object) next has = on_line (op.Dequeue object) object next refl has
  any (op.Alloc count) next has = asked (op.Alloc count) 0 5 count 0 0 next (record { homed = refl; numbered = refl; word_is = refl; first_is = refl; second_is = refl })
  any (op.Free place) next has = asked (op.Free place) 0 6 place 0 0 next (record { homed = refl; numbered = refl; word_is = refl; first_is = refl; second_is = refl })
  any (op.Print word) next has = asked (op.Print word) 0 7 word 0 0 next (record { homed = refl; numbered = refl; word_is = refl; first_is = refl; second_is = refl })

pub calls_run : laws.CallsRun
calls_run given w S c k more s call sound st here first vectors next has = any given w S c k more s sound st here first vectors call next has
