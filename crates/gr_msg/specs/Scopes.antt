-- When two names of scopes are the same, as a test.
use Rattle.std.specs.Prelude.{◌==◌, Bool, ◌&&◌}
use Rattle.gr_msg.specs.declared.message.ScopeId.{ScopeId}

abbrev pub same_scope : ScopeId → ScopeId → Bool
same_scope one other = one.core == other.core && one.number == other.number
