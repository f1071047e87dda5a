-- The laws of a core's numbers: each grows by one at most with a step of the machine.
use Rattle.gr_msg.specs.declared.message.ScopeId.{ScopeId}
use Rattle.gr_bounds.specs.Shares.{GrowsByOne}
use Rattle.gr_bounds_numbers.specs.Bounds.{weightless, ScopesAtMost, EndsAtMost, ends_told, ActiveAtMost, enrols_asked}

-- The numbers of the next scopes, over all cores.
abbrev pub ScopesGrow : Type 0
ScopesGrow = GrowsByOne ScopesAtMost weightless

-- The ends of tasks that Completes in flight tell of.
abbrev pub EndsGrow : Type 0
EndsGrow = GrowsByOne EndsAtMost ends_told

-- The active cores of a scope at its master, with the Enrols in flight.
abbrev pub ActiveGrow : Type 0
ActiveGrow = (scope : ScopeId) → GrowsByOne (ActiveAtMost scope) (enrols_asked scope)
