-- The laws of functions that are written at one scope.
use Rattle.std.specs.Prelude.{◌≡◌, false}
use Rattle.gr_msg.specs.Scopes.{same_scope}
use Rattle.gr_msg.specs.declared.message.ScopeId.{ScopeId}
use Rattle.gr_event.specs.Scopes.{put_scope}

abbrev pub PutsAreRead : Type 0 → Type 0
PutsAreRead X = (f : ScopeId → X) (scope : ScopeId) (value : X) → put_scope f scope value scope ≡ value

abbrev pub PutsLeaveOthers : Type 0 → Type 0
PutsLeaveOthers X = (f : ScopeId → X) (scope other : ScopeId) (value : X) → same_scope other scope ≡ false
    → put_scope f scope value other ≡ f other

abbrev pub PutsAreOverwritten : Type 0 → Type 0
PutsAreOverwritten X = (f : ScopeId → X) (scope : ScopeId) (one other : X)
    → put_scope (put_scope f scope one) scope other ≡ put_scope f scope other
