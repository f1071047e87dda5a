-- What the row of a scope stands for.
use Rattle.std.specs.Option.{option_map}
use Rattle.gr_tables.specs.declared.scopes.ScopeRow.TheInside.{Inside}
use Rattle.gr_lang.specs.States.{Scope}
use Rattle.gr_tables.specs.Scopes.{range_of}

abbrev pub scope_of : Inside → Scope
scope_of row = record { owner = row.owner; parent = row.parent; range = option_map range_of row.range }
