use Rattle.std.proofs.Common.{rules, ◌≡◌, ℕ, Option, subst}
use Rattle.std.specs.Str.{bytes_eq}
use Rattle.gr_syntax.specs.Items.{tasks_of}
use Rattle.gr_names.proofs.Positions.{position-map}
use Rattle.gr_names.proofs.program.ProgramNames.task.Goals as goal

pub returns : goal.returns
returns c = rw (← c.self.view_is) (subst (λ (found : Option ℕ). c.map.result ≡ found) (position-map (bytes_eq c.args.name.now) (λ task. task.name) (tasks_of c.self.inside.program.now.items)) (search rules))
