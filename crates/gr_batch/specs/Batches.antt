-- Which batches the held calls make, and which calls stay.
use Rattle.std.specs.Prelude.{◌==◌, ℕ, Bool, true, false, not, List, [], ◌∷◌, ◌++◌, map, Option, Some, None, if◌then◌else◌, is_some}
use Rattle.std.specs.List.{filter}
use Rattle.gr_lang.specs.Effects.{effect_of}
use Rattle.gr_lang.specs.declared.action.Effect.{Effect}
use Rattle.gr_lang.specs.declared.action.Effect.TheVariants as effect
use Rattle.gr_lang.specs.declared.action.WaitingCall.{WaitingCall}
use Rattle.gr_batch.specs.Folding.{folded, together}
use Rattle.gr_batch.specs.declared.combiner.Batch.{Batch}
use Rattle.gr_batch.specs.declared.combiner.Held.{Held}

-- Each number once, in the order of first appearance.
abbrev pub distinct : List ℕ → List ℕ
distinct [] = []
distinct (number ∷ numbers) = number ∷ filter (λ other. not (other == number)) (distinct numbers)

abbrev pub keys_of : List Held → List ℕ
keys_of = map (λ one. one.key)

-- The calls on a key, in order.
abbrev pub calls_at : ℕ → List Held → List WaitingCall
calls_at key [] = []
calls_at key (one ∷ held) = if one.key == key then one.call ∷ calls_at key held else calls_at key held

-- The first calls on a key that fold, their effect, and whether no call on the key was left out.
pub record Group : Type 0 where
  pub effect : Effect
  pub calls : List WaitingCall
  pub is_open : Bool

abbrev pub no_group : Group
no_group = record { effect = effect.Keep; calls = []; is_open = true }

abbrev pub grown_by : Group → WaitingCall → Option Effect → Group
grown_by group call None = record group { is_open = false }
grown_by group call (Some both) = record { effect = both; calls = group.calls ++ call ∷ []; is_open = true }

-- The group with one more call: taken in where it folds and none was left out before.
abbrev pub grown : Group → WaitingCall → Group
grown group call = if group.is_open then grown_by group call (together group.effect (effect_of call.op)) else group

abbrev pub grown_all : Group → List WaitingCall → Group
grown_all group [] = group
grown_all group (call ∷ calls) = grown_all (grown group call) calls

abbrev pub group_of : List WaitingCall → Group
group_of = grown_all no_group

-- One group for each key, in the order of first appearance.
abbrev pub groups_of : List Held → List (ℕ × Group)
groups_of held = map (λ key. (key, group_of (calls_at key held))) (distinct (keys_of held))

abbrev pub batch_of : ℕ × Group → Batch
batch_of keyed = record { key = keyed.0; effect = keyed.1.effect; calls = keyed.1.calls }

-- One batch for each key, in the order of first appearance.
abbrev pub batches_of : List Held → List Batch
batches_of held = map batch_of (groups_of held)

-- A call stays where the calls on its key up to it don't fold.
abbrev pub stays_after : List Held → Held → Bool
stays_after before one = not (is_some (folded (calls_at one.key before ++ one.call ∷ [])))

abbrev pub one_if : Bool → Held → List Held
one_if stays one = if stays then one ∷ [] else []

abbrev pub rest_after : List Held → List Held → List Held
rest_after before [] = []
rest_after before (one ∷ held) = one_if (stays_after before one) one ++ rest_after (before ++ one ∷ []) held

-- The calls that stay, in their order.
abbrev pub rest_of : List Held → List Held
rest_of = rest_after []
