-- In a legal history of an accepted program whose objects and tasks have names, each entry can be named.
use Rattle.std.proofs.Common.{◌≡◌, ◌<◌, ℕ, zero, suc, ◌==◌, Bool, true, false, List, [], ◌∷◌, length, Option, Some, None, is_some, inl, inr, All, refl, sym, subst, arith, codes}
use Rattle.std.specs.Prelude.{if◌then◌else◌}
use Rattle.std.proofs.lemmas.List.{length-map}
use Rattle.std.proofs.lemmas.List.Elements.{All-head, All-tail, All-weaker}
use Rattle.gr_syntax.specs.declared.syntax.Program.{Program}
use Rattle.gr_syntax.specs.declared.limits.TheConstants.{HEAP}
use Rattle.gr_syntax.specs.Names.{is_name}
use Rattle.gr_syntax.specs.Items.{TaskText, object_names, tasks_of}
use Rattle.gr_accept.specs.Accepted.{IsAccepted}
use Rattle.gr_lang.specs.declared.action.Parts.{Parts}
use Rattle.gr_lang.specs.declared.action.Parts.TheVariants as parts
use Rattle.gr_lang.specs.declared.action.Reply.{Reply}
use Rattle.gr_lang.specs.declared.action.TaskId.{TaskId}
use Rattle.gr_lang.specs.declared.action.Entry.{Entry}
use Rattle.gr_lang.specs.declared.action.Entry.TheVariants as plain
use Rattle.gr_lang.specs.Histories.{final, legal}
use Rattle.gr_lang.specs.Parts.{parts_of}
use Rattle.gr_lang.specs.States.{State}
use Rattle.gr_known.specs.Known.{AreKnown, IsKnown, IsObject, IsTask}
use Rattle.gr_known.proofs.Steps.{histories_known}
use Rattle.gr_names.specs.Numbered.{name_at, object_name, task_name, task_names}
use Rattle.gr_hist.specs.Names.{Bytes, is_object_name}
use Rattle.gr_hist.specs.Grammar.{HasNames}
use Rattle.gr_hist.specs.Naming.{IsNamable, IsNamed, named, named_parts}

-- The name of a number that the list has.
named_at : (names : List Bytes) (number : ℕ) → All (λ name. is_name name ≡ true) names → number < length names → is_name (name_at names number) ≡ true
named_at [] number all less = absurd (omega arith)
named_at (name ∷ names) zero all less = All-head (λ name. is_name name ≡ true) name names all
named_at (name ∷ names) (suc number) all less = named_at names number (All-tail (λ name. is_name name ≡ true) name names all) (omega arith)

object_name_is : (name : Bytes) → is_name name ≡ true → is_object_name name ≡ true
object_name_is name is = rw is refl

object_named : (program : Program) (number : ℕ) → IsNamed program → IsObject program number → is_object_name (object_name program number) ≡ true
object_named program number names (inl heap) = subst (λ n. is_object_name (object_name program n) ≡ true) (sym heap.0) refl
object_named program number names (inr less) = by (number == HEAP)
  where
    by : (test : Bool) → is_object_name (if test then codes "heap" else name_at (object_names program.items) number) ≡ true
    by true = refl
    by false = object_name_is (name_at (object_names program.items) number) (named_at (object_names program.items) number names.objects less)

task_named : (program : Program) (number : ℕ) → IsNamed program → IsTask program number → is_name (task_name program number) ≡ true
task_named program number names less =
    named_at (task_names program.items) number names.tasks (omega (arith, less, length-map (tasks_of program.items) (λ (task : TaskText). task.name)))

call_names : (program : Program) (task : TaskId) (call : Parts) (reply : Reply) → IsNamed program → AreKnown program call → HasNames (named_parts program task call reply)
call_names program task (parts.Call operation object reducer words) reply names known = (object_named program object names known.0, known.1)
call_names program task (parts.Print word) reply names known = tt

entry_names : (program : Program) → IsNamed program → (x : Entry) → IsKnown program x → HasNames (named program x)
entry_names program names (plain.Call task op reply) known = call_names program task (parts_of op) reply names known
entry_names program names (plain.Spawn task way target args child) known = task_named program target names known
entry_names program names (plain.Finish task) known = tt
entry_names program names (plain.Loop task lo hi grain target args) known = task_named program target names known
entry_names program names (plain.Begin owner index child) known = tt
entry_names program names (plain.Pass task) known = tt
entry_names program names (plain.End task) known = tt
entry_names program names (plain.Trap task kind) known = tt
entry_names program names plain.Over known = tt

-- The state that a legal history leads to.
pub final_of : (o : Option State) → is_some o ≡ true → (state : State) × (o ≡ Some state)
final_of None is = cc
final_of (Some state) is = (state, refl)

pub legal_namable : (program : Program) (cores limit : ℕ) (history : List Entry) → IsAccepted program → IsNamed program → legal program cores limit history ≡ true → IsNamable program history
legal_namable program cores limit history accepted names is_legal =
    let reached = final_of (final program cores limit history) is_legal in
    All-weaker (IsKnown program) (λ x. HasNames (named program x)) (entry_names program names) history (histories_known program cores limit history reached.0 accepted reached.1)
