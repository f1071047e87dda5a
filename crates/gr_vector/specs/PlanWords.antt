-- Calls whose positions fit a word.
use Rattle.std.specs.Prelude.{◌<◌, ◌^◌, ⊤, List, [], ◌∷◌}
use Rattle.gr_lang.specs.declared.action.WaitingCall.{WaitingCall}
use Rattle.gr_vector.specs.declared.ends.Ends.{Ends}
use Rattle.gr_vector.specs.Plans.{after}

unfoldable pub Fit : List WaitingCall → Ends → Type 0
Fit [] ends = ⊤
Fit (call ∷ calls) ends = ((after call.op ends).tail < 2 ^ 64) × Fit calls (after call.op ends)
