-- The law of plans, by positions.
use Rattle.std.specs.Prelude.{◌≡◌, ℕ, ◌+◌, ◌<◌, List, length, Option, Some}
use Rattle.std.specs.Option.{option_len}
use Rattle.gr_lang.specs.declared.action.WaitingCall.{WaitingCall}
use Rattle.gr_vector.specs.Groups.{group_of}
use Rattle.gr_vector.specs.Plans.{taken_by}
use Rattle.gr_vector.specs.Laws.{words_after, replies, replies_from}
use Rattle.gr_net.specs.Sums.{Each}
use Rattle.gr_elements_plans.specs.Positions.{standing, puts_at, gets_at, turn_plan, held_by}

-- What a plan does by positions: each word is held from before or is put, and stands afterwards or is taken, once; none becomes another one; and the calls
-- reply what is answered at the positions from which the plan takes.
pub record PlanTells (calls : List WaitingCall) (head : ℕ) (words : List ℕ) : Type 0 where
  pub puts : (position : ℕ) → option_len (held_by calls head words position)
      ≡ option_len (standing head words position) + puts_at position (turn_plan calls head words).puts
  pub gets : (position : ℕ) → option_len (held_by calls head words position)
      ≡ option_len (standing (turn_plan calls head words).head (words_after calls words) position) + gets_at position (turn_plan calls head words).gets
  pub placed : Each (λ pair. held_by calls head words pair.0 ≡ Some pair.1) (turn_plan calls head words).puts
  pub kept : (position word : ℕ) → standing head words position ≡ Some word → held_by calls head words position ≡ Some word
  pub stays : (position word : ℕ) → standing (turn_plan calls head words).head (words_after calls words) position ≡ Some word
      → held_by calls head words position ≡ Some word
  pub tail : (turn_plan calls head words).tail ≡ (turn_plan calls head words).head + length (words_after calls words)
  pub answers : (answers : ℕ → Option ℕ)
      → ((position : ℕ) → 0 < gets_at position (turn_plan calls head words).gets → answers position ≡ held_by calls head words position)
      → replies_from answers (taken_by calls (record { head = head; tail = head + length words })) ≡ replies calls words

-- So does the plan of each group.
abbrev pub PlansTell : Type 0
PlansTell = (calls : List WaitingCall) (head : ℕ) (words : List ℕ) → PlanTells (group_of calls) head words
