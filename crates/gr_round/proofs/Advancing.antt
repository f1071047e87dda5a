-- Cores go on by rounds and by meetings.
use Rattle.std.proofs.Common.{◌≡◌, ℕ, ◌<◌, List, [], ◌++◌, length, ap, sym, refl, ◌∙◌, subst, append_assoc, append-nil, arith, slice_index_or}
use Rattle.std.specs.Prelude.{IfNone, Option, Some, None}
use Rattle.std.proofs.lemmas.List.{length-append}
use Rattle.gr_machine.specs.declared.journal.Stamped.{Stamped}
use Rattle.gr_machine.specs.Machines.{Machine}
use Rattle.gr_mail.proofs.Mails.{joined_still}
use Rattle.gr_core.specs.declared.cores.Core.{Core}
use Rattle.gr_core.specs.Cores.{mail_of, run_of}
use Rattle.gr_core.specs.Runs.{Run}
use Rattle.gr_slice.specs.Slices.{WentOn}
use Rattle.gr_world.specs.Worlds.{AreCores, AreOfOneRun, HaveAllMet, HaveStayed}
use Rattle.gr_round.specs.declared.outcomes.Outcome.{Outcome}
use Rattle.gr_round.specs.Outcomes.{AreGoing}
use Rattle.gr_round.specs.Rounds.{AllSliced, AllWentOn}
use Rattle.gr_round.specs.RoundWords.{GoesOn, clocks}
use Rattle.gr_round.proofs.Sums.{clocks_stayed}

went_none : (before after : Run) → after ≡ before → WentOn before after
went_none before after same = record {
  machine = ap (λ (run : Run). run.seen.machine) same;
  me = ap (λ (run : Run). run.seen.me) same;
  first = ap (λ (run : Run). run.first) same;
  entries = [];
  journal = ap (λ (run : Run). run.journal) same ∙ sym (append-nil before.journal);
  clock = omega (arith, ap (λ (run : Run). run.seen.core.clock) same);
}

went_twice : (before middle after : Run) → WentOn before middle → WentOn middle after → WentOn before after
went_twice before middle after one two = record {
  machine = two.machine ∙ one.machine;
  me = two.me ∙ one.me;
  first = two.first ∙ one.first;
  entries = one.entries ++ two.entries;
  journal = two.journal ∙ ap (λ (journal : List Stamped). journal ++ two.entries) one.journal ∙ append_assoc before.journal one.entries two.entries;
  clock = omega (arith, one.clock, two.clock, length-append one.entries two.entries);
}

-- A core of this number is there before and after.
there : (before after : List Core) (core : ℕ) → length after ≡ length before → core < length after → core < length before
there before after core len h = omega (arith, len, h)

still_there : (before after : List Core) (core : ℕ) → length after ≡ length before → core < length before → core < length after
still_there before after core len h = omega (arith, len, h)

went_self : (cores : List Core) → AllWentOn cores cores
went_self cores = record { len = refl; each = λ core default h. went_none (run_of (slice_index_or cores core default)) (run_of (slice_index_or cores core default)) refl }

went_sliced : (count : ℕ) (first before after : List Core) → AllWentOn first before → AllSliced count before after → AllWentOn first after
went_sliced count first before after went sliced = record {
  len = sliced.len ∙ went.len;
  each = λ core default h. went_twice (run_of (slice_index_or first core default)) (run_of (slice_index_or before core default)) (run_of (slice_index_or after core default))
      (went.each core default h) (sliced.each core default (still_there first before core went.len h)).went;
}

went_stayed : (first before after : List Core) → AllWentOn first before → HaveStayed before after → AllWentOn first after
went_stayed first before after went stayed = record {
  len = stayed.len ∙ went.len;
  each = λ core default h. went_twice (run_of (slice_index_or first core default)) (run_of (slice_index_or before core default)) (run_of (slice_index_or after core default))
      (went.each core default h)
      (went_none (run_of (slice_index_or before core default)) (run_of (slice_index_or after core default)) (stayed.runs core default (still_there first before core went.len h)));
}

pub cores_sliced : (count : ℕ) (machine : Machine) (before after : List Core) → AllSliced count before after → AreCores machine before → AreCores machine after
cores_sliced count machine before after sliced are = record {
  len = sliced.len ∙ are.len;
  machine = λ core default h. let old : core < length before = there before after core sliced.len h in
      (sliced.each core default old).went.machine ∙ are.machine core default old;
  number = λ core default h. let old : core < length before = there before after core sliced.len h in
      (sliced.each core default old).went.me ∙ are.number core default old;
  joined = λ one other default h k differ. let old : one < length before = there before after one sliced.len h in
      let another : other < length before = there before after other sliced.len k in
      joined_still (mail_of (slice_index_or before one default)) (mail_of (slice_index_or before other default))
      (mail_of (slice_index_or after one default)) (mail_of (slice_index_or after other default))
      (sliced.each one default old).rings (sliced.each other default another).rings (are.joined one other default old another differ);
}

pub cores_stayed : (machine : Machine) (before after : List Core) → HaveStayed before after → AreCores machine before → AreCores machine after
cores_stayed machine before after stayed are = record {
  len = stayed.len ∙ are.len;
  machine = λ core default h. let old : core < length before = there before after core stayed.len h in
      ap (λ (run : Run). run.seen.machine) (stayed.runs core default old) ∙ are.machine core default old;
  number = λ core default h. let old : core < length before = there before after core stayed.len h in
      ap (λ (run : Run). run.seen.me) (stayed.runs core default old) ∙ are.number core default old;
  joined = λ one other default h k differ. let old : one < length before = there before after one stayed.len h in
      let another : other < length before = there before after other stayed.len k in
      joined_still (mail_of (slice_index_or before one default)) (mail_of (slice_index_or before other default))
      (mail_of (slice_index_or after one default)) (mail_of (slice_index_or after other default))
      (stayed.rings one default old) (stayed.rings other default another) (are.joined one other default old another differ);
}

-- All have met before the first round.
pub goes_on : (first cores : List Core) (total : ℕ) → HaveStayed first cores → HaveAllMet cores → total ≡ clocks cores → GoesOn first cores total
goes_on first cores total stayed met sum = record {
  went = went_stayed first first cores (went_self first) stayed;
  cores = λ machine are. cores_stayed machine first cores stayed are;
  met = met;
  total = sum;
}

-- A round was made, and all have met.
pub goes_further : (count : ℕ) (first before middle after : List Core) (total sum : ℕ) → GoesOn first before total → AllSliced count before middle → sum ≡ clocks middle
    → HaveStayed middle after → HaveAllMet after → GoesOn first after sum
goes_further count first before middle after total sum goes sliced is stayed met = record {
  went = went_stayed first middle after (went_sliced count first before middle goes.went sliced) stayed;
  cores = λ machine are. cores_stayed machine middle after stayed (cores_sliced count machine before middle sliced (goes.cores machine are));
  met = met;
  total = is ∙ clocks_stayed middle after stayed;
}

-- The cores are of one run before a round, and after it.
pub one_run : (first before : List Core) (total : ℕ) → GoesOn first before total → AreOfOneRun first → AreOfOneRun before
one_run first before total goes are = (are.0, goes.cores are.0 are.1)

pub one_run_sliced : (count : ℕ) (before after : List Core) → AllSliced count before after → AreOfOneRun before → AreOfOneRun after
one_run_sliced count before after sliced are = (are.0, cores_sliced count are.0 before after sliced are.1)

-- After a round that is the last.
pub went_last : (count : ℕ) (first before after : List Core) (total : ℕ) → GoesOn first before total → AllSliced count before after → AllWentOn first after
went_last count first before after total goes sliced = went_sliced count first before after goes.went sliced

pub cores_last : (count : ℕ) (first before after : List Core) (total : ℕ) → GoesOn first before total → AllSliced count before after
    → (machine : Machine) → AreCores machine first → AreCores machine after
cores_last count first before after total goes sliced machine are = cores_sliced count machine before after sliced (goes.cores machine are)

-- A run that has no outcome goes on.
pub goes_without : (result : Option Outcome) (read now : List Core) → IfNone result (AreGoing read) → ((outcome : Outcome) → result ≡ Some outcome → ⊥) → read ≡ now → AreGoing now
goes_without None read now going other same = subst AreGoing same going
goes_without (Some outcome) read now going other same = absurd (other outcome refl)
