-- How the tasks of a program start.
use Rattle.std.proofs.Common.{◌≡◌, ℕ, List, Some, None, refl, slice_get}
use Rattle.std.specs.Option.{option_map}
use Rattle.std.proofs.lemmas.Option.{slice_get-map}
use Rattle.gr_syntax.specs.declared.syntax.Program.{Program}
use Rattle.gr_syntax.specs.Items.{tasks_of}
use Rattle.gr_lang.specs.Next.{start, start_at}
use Rattle.gr_steps.specs.TableView.{known_of, knowns_of, started}

pub start_is : (p : Program) (target : ℕ) (ws : List ℕ) → start p target ws ≡ started (slice_get (knowns_of (tasks_of p.items)) target) ws
unfolding start
start_is p target ws = rw (slice_get-map known_of (tasks_of p.items) target) (elim (slice_get (tasks_of p.items) target) as (λ o. start_at o ws ≡ started (option_map known_of o) ws) [ None ↦ refl | Some t ↦ refl ])
