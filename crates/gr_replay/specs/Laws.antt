-- Laws of what is said of history texts.
use Rattle.std.specs.Prelude.{◌≡◌, ℕ, false, List, map, Some, codes}
use Rattle.gr_syntax.specs.declared.syntax.Program.{Program}
use Rattle.gr_syntax.specs.Names.{has}
use Rattle.gr_syntax.specs.Items.{object_names}
use Rattle.gr_accept.specs.Accepted.{IsAccepted}
use Rattle.gr_lang.specs.declared.action.Entry.{Entry}
use Rattle.gr_lang.specs.States.{State}
use Rattle.gr_lang.specs.Histories.{final}
use Rattle.gr_hist.specs.declared.text.NamedEntry.{NamedEntry}
use Rattle.gr_hist.specs.Naming.{IsNamable, named}
use Rattle.gr_replay.specs.Judged.{Judged, Names, Verdict, legal}

-- A history text has one verdict.
abbrev pub JudgedOnce : Type 0
JudgedOnce =
    (program : Program) (cores limit : ℕ) (lines : List NamedEntry) (one other : Verdict) → Judged program cores limit lines one → Judged program cores limit lines other
    → one ≡ other

-- Lines that name a legal history are judged legal, and complete where it is.
abbrev pub LegalIsJudged : Type 0
LegalIsJudged =
    (program : Program) (cores limit : ℕ) (lines : List NamedEntry) (history : List Entry) (state : State) → Names program lines history
    → final program cores limit history ≡ Some state → Judged program cores limit lines (legal state.passed)

-- What is written of a legal history names it again: an accepted program has each name once, so that a number has one name
-- and the name that number. The keyword `heap` names no other object in a program that the grammar takes.
abbrev pub WrittenNames : Type 0
WrittenNames =
    (program : Program) (cores limit : ℕ) (history : List Entry) (state : State) → IsAccepted program → has (object_names program.items) (codes "heap") ≡ false
    → final program cores limit history ≡ Some state → IsNamable program history → Names program (map (named program) history) history
