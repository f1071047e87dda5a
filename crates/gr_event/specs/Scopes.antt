-- Functions of scopes: one with another value at one scope, and a list of pairs as the function that it stands for.
use Rattle.std.specs.Prelude.{List, Option, if◌then◌else◌}
use Rattle.std.specs.Ordering.{nat_cmp, ordering_then}
use Rattle.std.specs.declared.cmp.Ordering.{Ordering}
use Rattle.std.specs.Map.{lookup}
use Rattle.std.specs.BTreeMap.{is_at}
use Rattle.gr_msg.specs.Scopes.{same_scope}
use Rattle.gr_msg.specs.declared.message.ScopeId.{ScopeId}

-- The function with this value at this scope.
unfoldable pub put_scope : {X : Type 0} → (ScopeId → X) → ScopeId → X → ScopeId → X
put_scope f scope value other = if same_scope other scope then value else f other

-- Scopes are ordered by core, then by number.
abbrev pub scope_cmp : ScopeId → ScopeId → Ordering
scope_cmp one other = ordering_then (nat_cmp one.core other.core) (nat_cmp one.number other.number)

-- What a list of pairs has at each scope.
unfoldable pub at_scope : {X : Type 0} → List (ScopeId × X) → ScopeId → Option X
at_scope entries scope = lookup (is_at (scope_cmp scope)) entries
