-- The laws of scopes: before the first step the part holds.
use Rattle.std.specs.Prelude.{ℕ, ◌==◌, ◌<◌, if◌then◌else◌, Some, None}
use Rattle.gr_lang.specs.States.{opening_state}
use Rattle.gr_machine.specs.GlobalRuns.{opening_world}
use Rattle.gr_machine.specs.Nets.{world_in}
use Rattle.gr_machine.specs.Openings.{root_scope}
use Rattle.gr_stands.specs.Worlds.{Given, machine_in}
use Rattle.gr_stands.specs.Stands.{IsSound}
use Rattle.gr_scopes.specs.Trees.{Names, tree_of}
use Rattle.gr_scopes.specs.Scopes.{ScopesStand}

-- The root alone has a name.
abbrev pub opening_names : Names
opening_names number = if number == 0 then Some root_scope else None

abbrev pub OpeningsHaveScopes : Type 0
OpeningsHaveScopes =
    (given : Given) (slot : ℕ) → IsSound given → slot < given.slots
    → ScopesStand given opening_names (world_in (opening_world (machine_in given) slot)) (tree_of (opening_state given.program given.setup.steps))
