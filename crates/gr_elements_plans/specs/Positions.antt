-- Words by their positions, and how often a plan puts or takes the word of a position.
use Rattle.std.specs.Prelude.{ℕ, ◌+◌, ◌==◌, if◌then◌else◌, List, [], ◌∷◌, length, Option, Some, None}
use Rattle.gr_lang.specs.declared.action.WaitingCall.{WaitingCall}
use Rattle.gr_vector.specs.declared.turn_plan.Plan.{Plan}
use Rattle.gr_vector.specs.Plans.{plan_of}
use Rattle.gr_vector.specs.Laws.{with_puts}
use Rattle.gr_net.specs.Sums.{weigh}

-- The word at a position, where words stand one after another from another position on.
abbrev pub standing : ℕ → List ℕ → ℕ → Option ℕ
standing at [] position = None
standing at (word ∷ words) position = if position == at then Some word else standing (at + 1) words position

-- How many of these pairs put a word at a position, and how many of these positions are that one.
abbrev pub puts_at : ℕ → List (ℕ × ℕ) → ℕ
puts_at position pairs = weigh (λ pair. if pair.0 == position then 1 else 0) pairs

abbrev pub gets_at : ℕ → List ℕ → ℕ
gets_at position positions = weigh (λ other. if other == position then 1 else 0) positions

-- The plan of a turn of these calls, where the vector has these words from a head on.
abbrev pub turn_plan : List WaitingCall → ℕ → List ℕ → Plan
turn_plan calls head words = plan_of calls head (head + length words)

-- The word at each position, those that the turn puts among them.
abbrev pub held_by : List WaitingCall → ℕ → List ℕ → ℕ → Option ℕ
held_by calls head words = with_puts (standing head words) (turn_plan calls head words).puts
