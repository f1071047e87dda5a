-- What one more held call does to the groups and to the calls that stay.
use Rattle.std.specs.Prelude.{◌==◌, ℕ, Bool, not, List, [], ◌∷◌, ◌++◌, if◌then◌else◌, unwrap_or, nat_eq}
use Rattle.std.specs.Map.{lookup}
use Rattle.gr_lang.specs.declared.action.WaitingCall.{WaitingCall}
use Rattle.gr_batch.specs.Batches.{Group, grown, no_group, one_if}
use Rattle.gr_batch.specs.declared.combiner.Held.{Held}

-- The groups with one more call on a key.
abbrev pub grow : ℕ → WaitingCall → List (ℕ × Group) → List (ℕ × Group)
grow key call [] = (key, grown no_group call) ∷ []
grow key call (keyed ∷ groups) = if key == keyed.0 then (keyed.0, grown keyed.1 call) ∷ groups else keyed ∷ grow key call groups

-- The group of a key.
abbrev pub group_at : ℕ → List (ℕ × Group) → Group
group_at key groups = unwrap_or (lookup (nat_eq key) groups) no_group

abbrev pub stays_in : List (ℕ × Group) → Held → Bool
stays_in groups one = not (grown (group_at one.key groups) one.call).is_open

-- The groups and the calls that stay after more calls.
abbrev pub closed_after : List (ℕ × Group) → List Held → List Held → List (ℕ × Group) × List Held
closed_after groups rest [] = (groups, rest)
closed_after groups rest (one ∷ held) = closed_after (grow one.key one.call groups) (rest ++ one_if (stays_in groups one) one) held
