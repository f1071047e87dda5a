-- When two effects are one effect, and what calls on one key do and reply one after another.
use Rattle.std.specs.Prelude.{ℕ, ◌==◌, if◌then◌else◌, List, [], ◌∷◌, Option, Some, None, option_and_then}
use Rattle.gr_lang.specs.Effects.{after, effect_of, key_reply, reduced}
use Rattle.gr_lang.specs.declared.action.Effect.{Effect}
use Rattle.gr_lang.specs.declared.action.Effect.TheVariants as effect
use Rattle.gr_lang.specs.declared.action.WaitingCall.{WaitingCall}
use Rattle.gr_batch.specs.declared.wakes.Woken.{Woken}

-- An effect and a fold after it as one effect.
abbrev pub with_fold : Effect → ℕ → ℕ → Option Effect
with_fold effect.Keep reducer word = Some (effect.Fold reducer word)
with_fold (effect.Present before) reducer word = Some (effect.Present (reduced reducer before word))
with_fold effect.Absent reducer word = Some (effect.Present word)
with_fold (effect.Fold own before) reducer word = if own == reducer then Some (effect.Fold own (reduced own before word)) else None

-- An effect and another after it as one effect. Only two folds by different reducers are none.
abbrev pub together : Effect → Effect → Option Effect
together first effect.Keep = Some first
together first (effect.Present word) = Some (effect.Present word)
together first effect.Absent = Some effect.Absent
together first (effect.Fold reducer word) = with_fold first reducer word

-- A first effect and those of calls after it as one effect, where they fold.
abbrev pub folded_after : Effect → List WaitingCall → Option Effect
folded_after first [] = Some first
folded_after first (call ∷ calls) = option_and_then (λ both. folded_after both calls) (together first (effect_of call.op))

-- The effects of calls as one effect, where they fold.
abbrev pub folded : List WaitingCall → Option Effect
folded = folded_after effect.Keep

-- What stands under the key after the calls, one after another.
abbrev pub after_all : List WaitingCall → Option ℕ → Option ℕ
after_all [] before = before
after_all (call ∷ calls) before = after_all calls (after (effect_of call.op) before)

-- The replies of the calls, one after another, each for its task.
abbrev pub wakes_of : List WaitingCall → Option ℕ → List Woken
wakes_of [] before = []
wakes_of (call ∷ calls) before =
    record { slot = call.slot; id = call.id; reply = key_reply call.op before } ∷ wakes_of calls (after (effect_of call.op) before)
