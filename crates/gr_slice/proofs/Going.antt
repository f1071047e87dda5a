-- A core goes on, turn by turn.
use Rattle.std.proofs.Common.{◌≡◌, ◌+◌, ◌<◌, ◌≤◌, ℕ, List, [], ◌∷◌, ◌++◌, length, ap, ◌∙◌, sym, refl, subst, arith, append_assoc, if◌then◌else◌, eq-eqb}
use Rattle.std.specs.Prelude.{true, Option, Some, None}
use Rattle.std.specs.Option.{option_and_then}
use Rattle.std.proofs.lemmas.List.{append-nil, length_push}
use Rattle.gr_machine.specs.declared.event.Event.{Event}
use Rattle.gr_machine.specs.declared.journal.Stamped.{Stamped}
use Rattle.gr_machine.specs.Machines.{Machine, is_core}
use Rattle.gr_machine.specs.Counting.{is_steal}
use Rattle.gr_machine.specs.Events.{Packet, Transition, core_step}
use Rattle.gr_machine.specs.Steppers.{CountedCore, at_clock, entry_step, went_on}
use Rattle.gr_machine.proofs.Clocks.{entries_tick}
use Rattle.gr_mail.specs.declared.mail.Mail.{Mail}
use Rattle.gr_mail.proofs.Mails.{rings_self, rings_twice}
use Rattle.gr_core.specs.declared.cores.Core.{Core}
use Rattle.gr_core.specs.Cores.{mail_of, run_of}
use Rattle.gr_core.specs.Runs.{Made, Run}
use Rattle.gr_core.proofs.Keeping.{all_kept, kept_twice}
use Rattle.gr_slice.specs.Slices.{AsksLast, HasStopped, OnlyAsks, Sliced, Stayed}
use Rattle.gr_slice.specs.TryWords.{Advanced, MayMake, Turned}
use Rattle.gr_slice.proofs.Staying.{cannot_after, stayed_self}

-- The entry of an event.
abbrev entry_of : (run last : Run) (what : Event) → Made run what last → Stamped
entry_of run last what made = record { clock = made.next.core.clock; event = what; slots = made.slots }

entry_is : (machine : Machine) (me : ℕ) (before : CountedCore) (entry : Stamped) (taken : Option Packet) (next : Transition) → is_core machine me ≡ true
    → core_step machine me before.core entry.event entry.slots taken ≡ Some next → next.core.clock ≡ entry.clock
    → entry_step machine me before entry taken ≡ Some (went_on machine before entry.event next)
entry_is machine me before entry taken next core step clock =
    ap (λ b. if b then option_and_then (at_clock machine before entry) (core_step machine me before.core entry.event entry.slots taken) else None) core
    ∙ ap (option_and_then (at_clock machine before entry)) step
    ∙ ap (λ b. if b then Some (went_on machine before entry.event next) else None) (eq-eqb next.core.clock entry.clock clock)

-- It raises the clock.
made_ticks : (run last : Run) (what : Event) → is_core run.seen.machine run.seen.me ≡ true → Made run what last → run.seen.core.clock < last.seen.core.clock
made_ticks run last what core made =
    let before : CountedCore = record { core = run.seen.core; counts = run.seen.counts } in
    let entry : Stamped = entry_of run last what made in
    let ticks = (entries_tick run.seen.machine).ticks run.seen.me before entry made.taken (went_on run.seen.machine before what made.next)
    (entry_is run.seen.machine run.seen.me before entry made.taken made.next core made.step refl) in
    subst (λ (other : Run). run.seen.core.clock < other.seen.core.clock) (sym made.run) ticks.0

-- The first entry stays the first.
asks_more : (run : Run) (mail : Mail) (entries : List Stamped) (entry : Stamped) → AsksLast run mail entries
    → (length entries ≡ 0 → is_steal entry.event ≡ true → OnlyAsks run mail) → AsksLast run mail (entries ++ entry ∷ [])
asks_more run mail [] entry asks first = first refl
asks_more run mail (one ∷ entries) entry asks first = asks

pub turned_none : (core : Core) → Turned 0 core core
turned_none core = record {
  went = record {
    machine = refl;
    me = refl;
    first = refl;
    entries = [];
    journal = sym (append-nil (run_of core).journal);
    clock = omega arith;
  };
  many = refl;
  rings = rings_self (mail_of core);
  kept = all_kept (mail_of core);
  asks = tt;
  first = λ none. refl;
}

pub turned_more : (turn : ℕ) (before middle after : Core) → Turned turn before middle → Advanced middle after → Turned (turn + 1) before after
turned_more turn before middle after turned step =
    let went = turned.went in
    let entry : Stamped = entry_of (run_of middle) (run_of after) step.what step.made in
    let more : length (went.entries ++ entry ∷ []) ≡ turn + 1 = omega (arith, length_push went.entries entry, turned.many) in
    record {
      went = record {
        machine = ap (λ (run : Run). run.seen.machine) step.made.run ∙ went.machine;
        me = ap (λ (run : Run). run.seen.me) step.made.run ∙ went.me;
        first = ap (λ (run : Run). run.first) step.made.run ∙ went.first;
        entries = went.entries ++ entry ∷ [];
        journal = ap (λ (run : Run). run.journal) step.made.run ∙ ap (λ (entries : List Stamped). entries ++ entry ∷ []) went.journal
            ∙ append_assoc (run_of before).journal went.entries (entry ∷ []);
        clock = omega (arith, went.clock, turned.many, more, made_ticks (run_of middle) (run_of after) step.what middle.runs.core step.made);
      };
      many = more;
      rings = rings_twice (mail_of before) (mail_of middle) (mail_of after) turned.rings step.rings;
      kept = kept_twice (mail_of before) (mail_of middle) (mail_of after) turned.kept step.kept;
      asks = asks_more (run_of before) (mail_of before) went.entries entry turned.asks
          (λ none. subst (λ (core : Core). MayMake core step.what) (turned.first (sym turned.many ∙ none)) step.may);
      first = λ none. absurd (omega (arith, none));
    }

-- A slice whose turns are over, and one that ends before.
pub all_turned : (turn count : ℕ) (before after : Core) → turn ≡ count → Turned turn before after → Sliced count before after
all_turned turn count before after over turned = record {
  went = turned.went;
  few = omega (arith, over, turned.many);
  rings = turned.rings;
  kept = turned.kept;
  rest = λ fewer. absurd (omega (arith, over, fewer, turned.many));
  asks = turned.asks;
  still = λ none. subst (Stayed before) (sym (turned.first (sym turned.many ∙ none))) (stayed_self before);
}

pub has_ended : (turn count : ℕ) (before middle after : Core) → turn < count → Turned turn before middle → Stayed middle after
    → HasStopped (run_of middle) (mail_of middle) → Sliced count before after
has_ended turn count before middle after fewer turned stayed stopped = record {
  went = record {
    machine = ap (λ (run : Run). run.seen.machine) stayed.run ∙ turned.went.machine;
    me = ap (λ (run : Run). run.seen.me) stayed.run ∙ turned.went.me;
    first = ap (λ (run : Run). run.first) stayed.run ∙ turned.went.first;
    entries = turned.went.entries;
    journal = ap (λ (run : Run). run.journal) stayed.run ∙ turned.went.journal;
    clock = subst (λ (run : Run). (run_of before).seen.core.clock + length turned.went.entries ≤ run.seen.core.clock) (sym stayed.run) turned.went.clock;
  };
  few = omega (arith, turned.many, fewer);
  rings = rings_twice (mail_of before) (mail_of middle) (mail_of after) turned.rings stayed.rings;
  kept = kept_twice (mail_of before) (mail_of middle) (mail_of after) turned.kept stayed.kept;
  rest = λ less what can. cannot_after middle after what stayed (stopped what) can;
  asks = turned.asks;
  still = λ none. subst (λ (core : Core). Stayed core after) (turned.first (sym turned.many ∙ none)) stayed;
}
