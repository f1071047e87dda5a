-- What is counted of a scope, and what of that the part of work knows.
use Rattle.std.specs.Prelude.{◌≡◌, ℕ, ◌<◌, false, Some}
use Rattle.gr_lang.specs.States.{State}
use Rattle.gr_valid.specs.Work.{has_index}
use Rattle.gr_msg.specs.declared.message.ScopeId.{ScopeId}
use Rattle.gr_stands.specs.Worlds.{Given, World}
use Rattle.gr_stands.specs.Censuses.{census}
use Rattle.gr_scopes.specs.Trees.{Names}
use Rattle.gr_scopes.specs.Sums.{of_scope}

-- No core counts a task of the scope, in a slot, in a unit or in flight, nor an index.
abbrev pub NoneCounted : Given → World → ScopeId → Type 0
NoneCounted given world scope = (core : ℕ) → core < given.setup.cores → census (of_scope scope core) given world ≡ 0

-- A fact of the part of work: where no core counts an index of a scope, each of its indices has begun.
abbrev pub IndicesTell : Given → Names → World → State → Type 0
IndicesTell given names world state = (number : ℕ) (scope : ScopeId) → names number ≡ Some scope → NoneCounted given world scope → has_index state number ≡ false
