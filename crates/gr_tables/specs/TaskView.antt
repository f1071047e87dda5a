-- What the row of a task stands for.
use Rattle.gr_lang.specs.States as state
use Rattle.gr_tables.specs.declared.tasks.Row.TheInside.{Inside}
use Rattle.gr_tables.specs.declared.tasks.Mode.{Mode}
use Rattle.gr_tables.specs.declared.tasks.Mode.TheVariants as mode

abbrev pub mode_of : Mode → state.Mode
mode_of mode.Going = state.going
mode_of mode.AtLoop = state.at_loop
mode_of mode.Ended = state.ended
mode_of mode.Trapped = state.trapped

abbrev pub task_of : Inside → state.Task
task_of row = record { scope = row.scope; action = row.action; running = row.running; opened = row.opened; mode = mode_of row.mode }
