-- A run that ended well: its history is legal and complete, and its text is due.
use Rattle.std.proofs.Common.{◌≡◌, ℕ, List, Bool, true, false, Option, Some, None, refl, sym, ap, ◌∙◌, subst, arith}
use Rattle.std.specs.Prelude.{String}
use Rattle.std.specs.declared.alloc.Global.{Global}
use Rattle.gr_syntax.specs.declared.syntax.Program.{Program}
use Rattle.gr_syntax.specs.declared.refusal.Fault.{Fault}
use Rattle.gr_lang.specs.Histories.{final}
use Rattle.gr_lang.specs.States.{State}
use Rattle.gr_cli.specs.declared.settings.Options.{Options}
use Rattle.gr_cli.specs.declared.settings.Command.{Command}
use Rattle.gr_cli.specs.declared.settings.Command.TheVariants.{Run, Check, Replay, Bench}
use Rattle.gr_engine.specs.declared.ending.WorldEnd.{WorldEnd}
use Rattle.gr_engine.specs.Ends.{Ended, complete, ended_as, ended_at, ended_open}
use Rattle.gr_report.specs.Ends.{first_limit}
use Rattle.gr_report.specs.Texts.{first_trap}
use Rattle.gr_report.specs.declared.texts.TrapAt.{TrapAt}
use Rattle.gr_report.specs.declared.ends.LimitAt.{LimitAt}
use Rattle.gr_engine.specs.Runs.{IsMachineRun}
use Rattle.gr_top.specs.Readings.{ReadsAs, IsDue}
use Rattle.gr_top.specs.Due.{Reading, accepted, refused, Due, due_read, due_accepted, due_ended, due_refused, due_run, run_text}
use Rattle.gr_top.specs.Commands.{asked, is_replay, is_run, setup_of, text_of}
use Rattle.gr_top.specs.Promises.{status_of, IsRunOf, IsWorldOf}
use Rattle.gr_top.proofs.Once.{once}
use Rattle.gr_top.proofs.Exact.{some_options}
use Rattle.gr_top.proofs.Told.{no_some, same_some}

pub record Well (bytes : List ℕ) (found : Option WorldEnd) (o : Options) (d : Due) : Type 0 where
  pub program : Program
  pub reads : ReadsAs (text_of o bytes) (accepted program)
  pub world : WorldEnd
  pub kept : found ≡ Some world
  pub run : IsMachineRun (setup_of o) program world
  pub state : State
  pub last : final program o.cores o.steps world.history ≡ Some state
  pub passed : state.passed ≡ true
  pub text : d.text ≡ run_text o program world (complete state.objects)

same_options : (words : List (String Global)) (o q : Options) → asked words ≡ Some o → asked words ≡ Some q → o ≡ q
same_options words o q x y = let k : Some o ≡ Some q = sym x ∙ y in cc

abbrev due_of : Options → Program → WorldEnd → Due
due_of o p w = due_ended o p w (ended_as (setup_of o) p w)

-- Where a run ended complete, these are the objects of its last state, in which the root is passed.
record IsFinal (end : Option State) (how : Ended) : Type 0 where
  state : State
  last : end ≡ Some state
  passed : state.passed ≡ true
  objects : how ≡ complete state.objects

open_status : (o : Options) (p : Program) (world : WorldEnd) (trap : Option TrapAt) (spent : Option LimitAt) → status_of (due_ended o p world (ended_open trap spent)).refusal ≡ 0 → ⊥
open_status o p world (Some t) spent e = omega (arith, e)
open_status o p world None (Some at) e = omega (arith, e)
open_status o p world None None e = omega (arith, e)

passed_final : (o : Options) (p : Program) (world : WorldEnd) (trap : Option TrapAt) (spent : Option LimitAt) (last : Option State) (S : State) (b : Bool) → last ≡ Some S → S.passed ≡ b
    → status_of (due_ended o p world (ended_at last (ended_open trap spent))).refusal ≡ 0 → IsFinal last (ended_at last (ended_open trap spent))
passed_final o p world trap spent last S true e k zero_status = record { state = S; last = e; passed = k; objects = rw e (rw k refl) }
passed_final o p world trap spent last S false e k zero_status =
    let other : ended_at last (ended_open trap spent) ≡ ended_open trap spent = rw e (rw k refl) in
    absurd (open_status o p world trap spent (ap (λ (how : Ended). status_of (due_ended o p world how).refusal) (sym other) ∙ zero_status))

at_final : (o : Options) (p : Program) (world : WorldEnd) (trap : Option TrapAt) (spent : Option LimitAt) (last : Option State)
    → status_of (due_ended o p world (ended_at last (ended_open trap spent))).refusal ≡ 0 → IsFinal last (ended_at last (ended_open trap spent))
at_final o p world trap spent None e = absurd (open_status o p world trap spent e)
at_final o p world trap spent (Some S) e = passed_final o p world trap spent (Some S) S S.passed refl refl e

ended_final : (o : Options) (p : Program) (world : WorldEnd) → status_of (due_ended o p world (ended_as (setup_of o) p world)).refusal ≡ 0
    → IsFinal (final p o.cores o.steps world.history) (ended_as (setup_of o) p world)
unfolding ended_as
ended_final o p world e = at_final o p world (first_trap world.history) (first_limit o.events world.cores) (final p o.cores o.steps world.history) e

kept_well : (words : List (String Global)) (o : Options) (bytes : List ℕ) (p : Program) (w : WorldEnd) → asked words ≡ Some o → ReadsAs (text_of o bytes) (accepted p)
    → IsWorldOf words bytes (Some w) → status_of (due_of o p w).refusal ≡ 0 → Well bytes (Some w) o (due_of o p w)
kept_well words o bytes p w some reads h e =
    let same_o : h.options ≡ o = same_options words h.options o h.asked some in
    let q : accepted h.program ≡ accepted p =
    once (text_of o bytes) (accepted h.program) (accepted p) (subst (λ (x : Options). ReadsAs (text_of x bytes) (accepted h.program)) same_o h.reads) reads in
    let same : h.program ≡ p = cc in
    let run : IsRunOf o p w = subst (λ (x : Program). IsRunOf o x w) same (subst (λ (x : Options). IsRunOf x h.program w) same_o h.run) in
    let last = ended_final o p w e in
    record {
      program = p;
      reads = reads;
      world = w;
      kept = refl;
      run = run.machine;
      state = last.state;
      last = last.last;
      passed = last.passed;
      text = ap (λ (how : Ended). (due_ended o p w how).text) last.objects;
    }

run_well : (words : List (String Global)) (o : Options) (bytes : List ℕ) (p : Program) (kept : Option WorldEnd) (d : Due) → asked words ≡ Some o → ReadsAs (text_of o bytes) (accepted p)
    → IsWorldOf words bytes kept → due_run o p kept ≡ Some d → status_of d.refusal ≡ 0 → Well bytes kept o d
run_well words o bytes p None d some reads h due e = absurd (no_some d due)
run_well words o bytes p (Some w) d some reads h due e =
    let same : due_of o p w ≡ d = same_some (due_of o p w) d due in
    subst (Well bytes (Some w) o) same (kept_well words o bytes p w some reads h (ap (λ (x : Due). status_of x.refusal) same ∙ e))

run_is : (c : Command) (o : Options) (p : Program) (kept : Option WorldEnd) → is_run c ≡ true → due_run o p kept ≡ due_accepted c o p kept
run_is Run o p kept r = refl
run_is Bench o p kept r = refl
run_is Check o p kept r = cc
run_is Replay o p kept r = cc

accepted_well : (words : List (String Global)) (o : Options) (bytes : List ℕ) (p : Program) (kept : Option WorldEnd) (d : Due) (c : Command) → is_run c ≡ true → asked words ≡ Some o
    → ReadsAs (text_of o bytes) (accepted p) → IsWorldOf words bytes kept → due_accepted c o p kept ≡ Some d → status_of d.refusal ≡ 0 → Well bytes kept o d
accepted_well words o bytes p kept d c r some reads h due e = run_well words o bytes p kept d some reads h (run_is c o p kept r ∙ due) e

refused_other : (f : Fault) (d : Due) → due_refused f ≡ d → status_of d.refusal ≡ 0 → ⊥
refused_other f d same e = omega (arith, ap (λ (x : Due). status_of x.refusal) same, e)

read_well : (words : List (String Global)) (o : Options) (bytes : List ℕ) (reading : Reading) (kept : Option WorldEnd) (d : Due) → asked words ≡ Some o → is_run o.command ≡ true
    → ReadsAs (text_of o bytes) reading → IsWorldOf words bytes kept → due_read o reading kept ≡ Some d → status_of d.refusal ≡ 0 → Well bytes kept o d
read_well words o bytes (refused f) kept d some c reads h due e = absurd (refused_other f d (same_some (due_refused f) d due) e)
read_well words o bytes (accepted p) kept d some c reads h due e = accepted_well words o bytes p kept d o.command c some reads h due e

no_replay : (c : Command) → is_run c ≡ true → is_replay c ≡ true → ⊥
no_replay Run r e = cc
no_replay Bench r e = cc
no_replay Check r e = cc
no_replay Replay r e = cc

pub headline : (words : List (String Global)) (bytes : List ℕ) (kept : Option WorldEnd) (d : Due) (o : Options) → IsDue words bytes kept d → asked words ≡ Some o → is_run o.command ≡ true
    → IsWorldOf words bytes kept → status_of d.refusal ≡ 0 → Well bytes kept o d
headline words bytes kept _ o (IsDue.usage none) some c h e = absurd (some_options words o some none)
headline words bytes kept _ o (IsDue.too_long q also reads more) some c h e = absurd (omega (arith, e))
headline words bytes kept d o (IsDue.read {reading} q also on fits reads due) some c h e =
    let same : q ≡ o = sym (same_options words o q some also) in
    read_well words o bytes reading kept d some c (subst (λ (x : Options). ReadsAs (text_of x bytes) reading) same reads) h
    (ap (λ (x : Options). due_read x reading kept) (sym same) ∙ due) e
headline words bytes kept _ o (IsDue.replayed {r = found} q also on few reads) some c h e =
    absurd (no_replay o.command c (ap (λ (x : Options). is_replay x.command) (same_options words o q some also) ∙ on))
