-- Calls that wait on vectors are kept.
use Rattle.std.proofs.Common.{◌≡◌, ℕ, true, sym, ◌∙◌, ap, subst, refl, Option, is_some}
use Rattle.gr_net.proofs.Spreads.{put_each}
use Rattle.gr_machine.specs.States.{Suspended, Vectors, Body}
use Rattle.gr_machine.specs.Machines.{thing}
use Rattle.gr_machine.specs.Openings.{is_vector}
use Rattle.gr_stands.specs.Worlds.{Given, machine_in, bodies}
use Rattle.gr_stands.proofs.Worlds.{acted_bodies, moved_bodies}
use Rattle.gr_lines.specs.Lines.{on_line, vector_in, tasks_on}
use Rattle.gr_lines.specs.Waiting.{CallsWait, HasLines}
use Rattle.gr_lines.specs.Leaving.{LeavesLines}
use Rattle.gr_lines.specs.Laws as laws

pub lines_kept : laws.LinesAreKept
lines_kept given w v c got e acts has old i =
    subst (λ (X : ℕ → Body). HasLines given i (X i)) (sym (acted_bodies given.setup.cores w v c got e acts))
    (put_each (λ (i : ℕ) (b : Body). HasLines given i b) (bodies w) c e.body i (λ q. subst (λ (j : ℕ). HasLines given j e.body) (sym q) has) (λ q. old i))

pub lines_moved : laws.MovesKeepLines
lines_moved given w v m old i = subst (λ (X : ℕ → Body). HasLines given i (X i)) (sym (moved_bodies given.setup.cores w v m)) (old i)

-- The tasks that wait on a vector are the same.
pub same_tasks : (given : Given) (before after : Body) → LeavesLines given before after → (number : ℕ) → is_vector (thing (machine_in given) number) ≡ true → tasks_on number after ≡ tasks_on number before
same_tasks given before after l number is = λ i slot. l.tasks number slot is i

pub has_still : laws.LinesStay
has_still given me before after l old = record {
  vectors = λ number. ap (λ (x : Vectors). is_some (x.vectors number)) l.vectors ∙ old.vectors number;
  masters = λ number. ap (λ (x : Vectors). is_some (x.masters number)) l.vectors ∙ old.masters number;
  askers = λ number turns h. old.askers number turns (ap (λ (x : Vectors). x.masters number) (sym l.vectors) ∙ h);
  calls = λ number is. subst (λ (f : ℕ → Option Suspended). CallsWait number (vector_in (after.vectors.vectors number)) f) (sym (same_tasks given before after l number is))
      (subst (λ (x : Vectors). CallsWait number (vector_in (x.vectors number)) (tasks_on number before)) (sym l.vectors) (old.calls number is));
}

pub slot_leaves : laws.OtherSlotsChange
slot_leaves given before after k held vectors slots old new = record {
  vectors = vectors;
  tasks = λ number slot is. ap (λ (f : ℕ → Option Suspended). on_line number (f slot)) slots
      ∙ put_each (λ (i : ℕ) (o : Option Suspended). on_line number o ≡ on_line number (before.tasks.slots i)) before.tasks.slots k held slot
      (λ q. new number is ∙ sym (ap (λ (i : ℕ). on_line number (before.tasks.slots i)) q ∙ old number is)) (λ q. refl);
}
