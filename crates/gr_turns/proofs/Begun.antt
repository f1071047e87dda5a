-- The turn of a plan of which nothing is answered.
use Rattle.std.proofs.Common.{◌≡◌, ℕ, ◌+◌, ◌==◌, Bool, List, [], length, Option, ap₂, ◌∙◌}
use Rattle.std.specs.List.{list_any}
use Rattle.gr_lang.specs.declared.action.WaitingCall.{WaitingCall}
use Rattle.gr_vector.specs.declared.ends.Ends.{Ends}
use Rattle.gr_vector.specs.declared.turn_plan.Plan.{Plan}
use Rattle.gr_vector.specs.Parts.{part_of}
use Rattle.gr_machine.specs.States.{Turn}
use Rattle.gr_machine.specs.TurnServes.{turn_from}
use Rattle.gr_turns.specs.LineView.{is_among, turn_in}
use Rattle.gr_turns.proofs.Puts.{part_none}

pub turn_made : (calls : List WaitingCall) (ends : Ends) (plan : Plan) (puts gets : List ℕ) (left : ℕ) (answers : List (ℕ × ℕ))
    → is_among puts ≡ (λ position. list_any (λ pair. pair.0 == position) plan.puts) → is_among gets ≡ (λ position. list_any (λ other. other == position) plan.gets)
    → left ≡ length plan.puts + length plan.gets → answers ≡ []
    → turn_in (record { calls = calls; ends = ends; puts = puts; gets = gets; left = left; answers = answers }) ≡ turn_from calls ends plan
turn_made calls ends plan puts gets left answers p g l a =
    let with_sets : (ℕ → Bool) → (ℕ → Bool) → Turn = λ put got. record { calls = calls; ends = ends; puts = put; gets = got; left = left; answers = part_of answers } in
    let with_words : ℕ → (ℕ → Option ℕ) → Turn = λ count words. record {
      calls = calls;
      ends = ends;
      puts = λ position. list_any (λ pair. pair.0 == position) plan.puts;
      gets = λ position. list_any (λ other. other == position) plan.gets;
      left = count;
      answers = words;
    } in
    ap₂ with_sets p g ∙ ap₂ with_words l (part_none answers a)
