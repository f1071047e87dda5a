-- What is written reads as the history with its names.
use Rattle.std.proofs.Common.{◌≡◌, ◌+◌, refl, sym, subst, ℕ, List, [], ◌∷◌, map, Ok}
use Rattle.std.proofs.lemmas.List.Elements.{All-head, All-tail}
use Rattle.gr_lang.specs.declared.action.Op.{Op}
use Rattle.gr_lang.specs.declared.action.Op.TheVariants as op
use Rattle.gr_lang.specs.declared.action.Reply.{Reply}
use Rattle.gr_lang.specs.declared.action.TaskId.{TaskId}
use Rattle.gr_lang.specs.declared.action.Entry.{Entry}
use Rattle.gr_lang.specs.declared.action.Entry.TheVariants as plain
use Rattle.gr_lang.specs.Parts.{parts_of}
use Rattle.gr_syntax.specs.declared.syntax.Program.{Program}
use Rattle.gr_hist.specs.Names.{Bytes}
use Rattle.gr_hist.specs.Grammar.{HasNames, HasShape, IsEntry, ReadsLines, ReadsText}
use Rattle.gr_hist.specs.Naming.{IsNamable, ReadsBack, history_text, lines_of, named, named_history, named_parts}
use Rattle.gr_hist.specs.WritingWords.{HaveNumbers}

-- A call has a reducer, numbers and result words as its operation takes and gives them.
call_shape : (program : Program) (task : TaskId) (call : Op) (reply : Reply) → HasShape (named_parts program task (parts_of call) reply)
call_shape program task (op.Read object place) reply = (refl, refl, refl)
call_shape program task (op.Write object place word) reply = (refl, refl, refl)
call_shape program task (op.Add object place word) reply = (refl, refl, refl)
call_shape program task (op.Cas object place old new) reply = (refl, refl, refl)
call_shape program task (op.Reduce object reducer place word) reply = (refl, refl, refl)
call_shape program task (op.Insert object key) reply = (refl, refl, refl)
call_shape program task (op.Remove object key) reply = (refl, refl, refl)
call_shape program task (op.Has object key) reply = (refl, refl, refl)
call_shape program task (op.Put object key word) reply = (refl, refl, refl)
call_shape program task (op.Get object key) reply = (refl, refl, refl)
call_shape program task (op.Erase object key) reply = (refl, refl, refl)
call_shape program task (op.Merge object reducer key word) reply = (refl, refl, refl)
call_shape program task (op.Push object word) reply = (refl, refl, refl)
call_shape program task (op.Pop object) reply = (refl, refl, refl)
call_shape program task (op.Dequeue object) reply = (refl, refl, refl)
call_shape program task (op.Alloc count) reply = (refl, refl, refl)
call_shape program task (op.Free place) reply = (refl, refl, refl)
call_shape program task (op.Print word) reply = tt

named_shape : (program : Program) (x : Entry) → HasShape (named program x)
named_shape program (plain.Call task call reply) = call_shape program task call reply
named_shape program (plain.Spawn task way target args child) = tt
named_shape program (plain.Finish task) = tt
named_shape program (plain.Loop task lo hi grain target args) = tt
named_shape program (plain.Begin owner index child) = tt
named_shape program (plain.Pass task) = tt
named_shape program (plain.End task) = tt
named_shape program (plain.Trap task kind) = tt
named_shape program plain.Over = tt

-- Its lines read as its entries.
lines_read : (program : Program) (number : ℕ) (history : List Entry) → HaveNumbers program history → IsNamable program history
    → ReadsLines number (lines_of (map (named program) history)) (Ok (map (named program) history))
lines_read program number [] fits names = ReadsLines.ends
lines_read program number (x ∷ history) fits names =
    let is : IsEntry (named program x) = record { numbers = fits.0; names = All-head (λ y. HasNames (named program y)) x history names; shape = named_shape program x } in
    ReadsLines.line (named program x) is (lines_read program (number + 1) history fits.1 (All-tail (λ y. HasNames (named program y)) x history names))

pub text_reads : (program : Program) (cores steps : ℕ) (history : List Entry) (text : Bytes) → text ≡ history_text program cores steps history → HaveNumbers program history
    → IsNamable program history → ReadsBack program cores steps history text
text_reads program cores steps history text is fits names header =
    subst (λ (t : Bytes). ReadsText t (Ok (named_history program cores steps history))) (sym is) (ReadsText.headed cores steps header (lines_read program 2 history fits names))
