-- Serve: messages of turns, and of words of vectors, leave calls that are combined.
use Rattle.std.proofs.Common.{ℕ, List, [], ◌∷◌, inl, refl, Option, Some, None}
use Rattle.gr_lang.specs.declared.action.TaskId.{TaskId}
use Rattle.gr_lang.specs.declared.action.WaitingCall.{WaitingCall}
use Rattle.gr_view.specs.Places.{put}
use Rattle.gr_vector.specs.Plans.{plan_of}
use Rattle.gr_vector.specs.declared.master.Granted.{Granted}
use Rattle.gr_vector.specs.Turns.{Turns, granted, grant_on_asking, ended, is_out}
use Rattle.gr_net.specs.Sums.{Each}
use Rattle.gr_net.proofs.Spreads.{Each-append}
use Rattle.gr_machine.specs.Machines.{Machine}
use Rattle.gr_machine.specs.States.{Vector, Turn, Body}
use Rattle.gr_machine.specs.Outcomes.{Send, Outcome, quietly}
use Rattle.gr_machine.specs.TurnServes.{grants, turn_asked, turn_ended, turn_done, with_vector, with_turn, turn_from, put_sends, get_sends, turn_begun, can_begin, group_granted, turn_granted, element_put, element_stored, element_got, element_fetched, put_answered, get_answered, turn_answered, element_acked}
use Rattle.gr_batches_events.specs.Leaving.{IsNoMail}
use Rattle.gr_batches_leaves.specs.Leaves.{LeavesCalls}
use Rattle.gr_batches_steps.proofs.Stays.{vector_stays}
use Rattle.gr_batches_steps.proofs.Choices.{Made, when}

-- Puts and gets are of no batch.
puts_none : (m : Machine) (vector : ℕ) (pairs : List (ℕ × ℕ)) → Each (λ (send : Send). IsNoMail send.message) (put_sends m vector pairs)
puts_none m vector [] = tt
puts_none m vector (pair ∷ pairs) = (tt, puts_none m vector pairs)

gets_none : (m : Machine) (vector : ℕ) (positions : List ℕ) → Each (λ (send : Send). IsNoMail send.message) (get_sends m vector positions)
gets_none m vector [] = tt
gets_none m vector (position ∷ positions) = (tt, gets_none m vector positions)

grants_none : (vector : ℕ) (grant : Option Granted) → Each (λ (send : Send). IsNoMail send.message) (grants vector grant)
grants_none vector None = tt
grants_none vector (Some grant) = (tt, tt)

module _ (Fact : TaskId → Type 0) (m : Machine) (me from : ℕ) (body : Body) where
  abbrev Leaves : Outcome → Type 0
  Leaves outcome = LeavesCalls Fact body outcome

  -- ---- turns

  pub asks_turn : (vector : ℕ) (held : Option Turns) → Made Leaves (turn_asked body from vector held)
  asks_turn vector None = tt
  asks_turn vector (Some turns) = record { calls = record { batches = refl; vectors = λ object none. none; slots = λ k. inl refl }; sends = grants_none vector (grant_on_asking turns from); marks = tt }

  pub dones : (vector head tail : ℕ) (held : Option Turns) → Made Leaves (turn_done body vector head tail held)
  dones vector head tail None = tt
  dones vector head tail (Some turns) = when Leaves (is_out turns) (turn_ended body vector (ended turns head tail))
      (λ q. record { calls = record { batches = refl; vectors = λ object none. none; slots = λ k. inl refl }; sends = grants_none vector (granted (ended turns head tail)); marks = tt })

  begins : (number head tail : ℕ) (v : Vector) (turn : Option Turn) (groups : List (List WaitingCall)) → Made Leaves (group_granted m body number head tail v turn groups)
  begins number head tail v None [] = tt
  begins number head tail v (Some turn) [] = tt
  begins number head tail v (Some turn) (calls ∷ groups) = tt
  begins number head tail v None (calls ∷ groups) =
      let plan = plan_of calls head tail in
      when Leaves (can_begin body number head tail calls) (turn_begun m body number v calls head tail plan)
      (λ q. record {
        calls = vector_stays body (turn_begun m body number v calls head tail plan).body number (record v { turn = Some (turn_from calls (record { head = head; tail = tail }) plan) }) refl refl refl;
        sends = Each-append (λ (send : Send). IsNoMail send.message) (put_sends m number plan.puts) (get_sends m number plan.gets) (puts_none m number plan.puts) (gets_none m number plan.gets);
        marks = tt;
      })

  pub granted_to : (number head tail : ℕ) (held : Option Vector) → Made Leaves (turn_granted m body number head tail held)
  granted_to number head tail None = tt
  granted_to number head tail (Some v) = begins number head tail v v.turn v.groups

  -- ---- words of vectors

  pub stores : (number position word : ℕ) (held : Option Vector) → Made Leaves (element_stored body from number position word held)
  stores number position word None = tt
  stores number position word (Some v) = by (v.part position)
    where
      by : (here : Option ℕ) → Made Leaves (element_put body from number position word v here)
      by (Some before) = tt
      by None =
          let next : Vector = record v { part = put v.part position (Some word) } in
          record { calls = vector_stays body (with_vector body number next) number next refl refl refl; sends = (tt, tt); marks = tt }

  pub fetches : (number position : ℕ) (held : Option Vector) → Made Leaves (element_fetched body from number position held)
  fetches number position None = tt
  fetches number position (Some v) = by (v.part position)
    where
      by : (here : Option ℕ) → Made Leaves (element_got body from number position v here)
      by None = tt
      by (Some word) =
          let next : Vector = record v { part = put v.part position None } in
          record { calls = vector_stays body (with_vector body number next) number next refl refl refl; sends = (tt, tt); marks = tt }

  answers : (number : ℕ) (v : Vector) (next : Turn) → Leaves (quietly (with_turn body number v next))
  answers number v next = record { calls = vector_stays body (with_turn body number v next) number (record v { turn = Some next }) refl refl refl; sends = tt; marks = tt }

  pub elements : (number position : ℕ) (word : Option ℕ) (held : Option Vector) → Made Leaves (element_acked body number position word held)
  elements number position word None = tt
  elements number position word (Some v) = by v.turn word
    where
      by : (mine : Option Turn) (word : Option ℕ) → Made Leaves (turn_answered body number position word v mine)
      by None word = tt
      by (Some turn) None = when Leaves (turn.puts position) (quietly (with_turn body number v (put_answered turn position))) (λ q. answers number v (put_answered turn position))
      by (Some turn) (Some word) = when Leaves (turn.gets position) (quietly (with_turn body number v (get_answered turn position word))) (λ q. answers number v (get_answered turn position word))
