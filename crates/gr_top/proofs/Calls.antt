-- What the call tells, from the answer that was made and what came of it.
use Rattle.std.proofs.Common.{◌≡◌, ◌≢◌, ℕ, ◌<◌, ◌≤◌, List, Bool, true, Option, Some, None, sym, ap, ◌∙◌, subst, arith, length, is_some}
use Rattle.std.specs.Prelude.{IfSome, String}
use Rattle.std.specs.declared.alloc.Global.{Global}
use Rattle.std.specs.Io.KnownBytes.{Appends}
use Rattle.gr_syntax.specs.declared.syntax.Program.{Program}
use Rattle.gr_syntax.specs.declared.refusal.Kind.{Kind}
use Rattle.gr_syntax.specs.declared.refusal.Fault.{Fault}
use Rattle.gr_syntax.specs.Faults.{fault}
use Rattle.gr_cli.specs.declared.settings.Options.{Options}
use Rattle.gr_cli.specs.declared.settings.Command.TheVariants.{Check, Replay}
use Rattle.gr_replay.specs.Division.{program_part, history_part}
use Rattle.gr_replay.specs.Judged as verdict
use Rattle.gr_top.specs.Readings.{FitsLimit, ReadsAs, ReplaysAs, IsDue}
use Rattle.gr_top.specs.Due.{accepted, refused, bad_line, judged, Due, Came}
use Rattle.gr_top.specs.Commands.{asked, is_on_text, limit_of, is_run, text_of}
use Rattle.gr_top.specs.Promises.{status_of, EndedWell, IsRunStatus, Answered, IsWorldOf, Refusing}
use Rattle.gr_top.specs.AnswerView.{made}
use Rattle.gr_top.specs.declared.answer.Answer.{Answer}
use Rattle.gr_top.specs.declared.answer.Refusal.{Refusal}
use Rattle.gr_top.specs.declared.answer.Refusal.TheVariants as r
use Rattle.gr_engine.specs.declared.ending.WorldEnd.{WorldEnd}
use Rattle.gr_hist.specs.Grammar.{ReadsOnce}
use Rattle.gr_replay.specs.Laws.{JudgedOnce}
use Rattle.gr_top.proofs.Dues.{answered, own}
use Rattle.gr_top.proofs.Told.{usage_told, too_long_told, refused_told, entry_told, line_told}
use Rattle.gr_top.proofs.Exact.{due_check, due_run_status, due_refusal, due_legal}
use Rattle.gr_top.proofs.Headline.{headline}

-- A status that isn't 5 is no fault of the sink.
no_fault : (refusal : Refusal) (n : ℕ) → status_of refusal ≡ n → n ≢ 5 → (written : ℕ) → refusal ≢ r.WriteFault written
no_fault refusal n s h written e = h (sym s ∙ ap status_of e)

module _ (words : List (String Global)) (a : Answer) (before now : Option (List ℕ)) (refusal : Refusal) (world : Option WorldEnd) (kept : world ≡ a.world) (came : Came (made a) before now refusal world) where
  here : (bytes : List ℕ) → IsDue words bytes a.world (made a) → IsDue words bytes world (made a)
  here bytes h = subst (λ (w : Option WorldEnd). IsDue words bytes w (made a)) (sym kept) h

  pub answer_told : (bytes : List ℕ) → refusal ≢ r.ReadFault → refusal ≢ r.Memory → IsDue words bytes a.world (made a) → Answered words bytes before now refusal world
  answer_told bytes x y h = answered words bytes before now refusal world (made a) (here bytes h) came x y

  mine : (n : ℕ) → status_of refusal ≡ n → n ≢ 5 → (refusal ≡ a.refusal) × Appends before now a.text.items × (is_some world ≡ is_some a.world)
  mine n s h = own (made a) before now refusal world came (no_fault refusal n s h)

  pub usage_of : (bytes : List ℕ) → IsDue words bytes a.world (made a) → refusal ≡ r.Usage → asked words ≡ None
  usage_of bytes h e = usage_told words bytes world (made a) (here bytes h) (sym (mine 2 (ap status_of e) (λ k. omega (arith, k))).0 ∙ e)

  pub too_long_of : (bytes : List ℕ) → IsDue words bytes a.world (made a) → refusal ≡ r.TooLong → IfSome (asked words) (λ o. limit_of o.command < length bytes)
  too_long_of bytes h e = too_long_told words bytes world (made a) (here bytes h) (sym (mine 8 (ap status_of e) (λ k. omega (arith, k))).0 ∙ e)

  pub refused_of : (bytes : List ℕ) → IsDue words bytes a.world (made a) → (kind : Kind) (line column : ℕ) → refusal ≡ r.Refused kind line column
      → Refusing bytes (asked words) (fault kind (record { line = line; column = column }))
  refused_of bytes h kind line column e =
      refused_told words bytes world (made a) (here bytes h) kind line column (sym (mine 1 (ap status_of e) (λ k. omega (arith, k))).0 ∙ e)

  pub entry_of : (bytes : List ℕ) → IsDue words bytes a.world (made a) → (entry : ℕ) → refusal ≡ r.NotLegal entry
      → ReplaysAs (program_part bytes) (history_part bytes) (judged (verdict.not_legal entry))
  entry_of bytes h entry e = entry_told words bytes world (made a) (here bytes h) entry (sym (mine 9 (ap status_of e) (λ k. omega (arith, k))).0 ∙ e)

  pub line_of : (bytes : List ℕ) → IsDue words bytes a.world (made a) → (line : ℕ) → refusal ≡ r.BadLine line
      → ReplaysAs (program_part bytes) (history_part bytes) (bad_line line)
  line_of bytes h line e = line_told words bytes world (made a) (here bytes h) line (sym (mine 10 (ap status_of e) (λ k. omega (arith, k))).0 ∙ e)

  pub headline_of : (bytes : List ℕ) (o : Options) → IsDue words bytes a.world (made a) → IsWorldOf words bytes a.world → status_of refusal ≡ 0 → asked words ≡ Some o → is_run o.command ≡ true
      → EndedWell o bytes before now world
  headline_of bytes o h runs s some c =
      let x = mine 0 s (λ k. omega (arith, k)) in
      let e = headline words bytes world (made a) o (here bytes h) some c (subst (IsWorldOf words bytes) (sym kept) runs) (ap status_of (sym x.0) ∙ s) in
      record {
        program = e.program;
        reads = e.reads;
        world = e.world;
        kept = e.kept;
        run = e.run;
        state = e.state;
        last = e.last;
        passed = e.passed;
        written = subst (Appends before now) e.text x.1;
      }

  -- Where the sink didn't fail, the refusal is the answer's own.
  unless : ((written : ℕ) → refusal ≢ r.WriteFault written) → refusal ≡ a.refusal
  unless h = (own (made a) before now refusal world came h).0

  module _ (lines_once : ReadsOnce) (judges_once : JudgedOnce) where
    pub check_of : (bytes : List ℕ) (o : Options) (p : Program) → IsDue words bytes a.world (made a) → length bytes ≤ limit_of o.command → ReadsAs bytes (accepted p) → asked words ≡ Some o → o.command ≡ Check
        → ((written : ℕ) → refusal ≢ r.WriteFault written) → status_of refusal ≡ 0
    check_of bytes o p h few reads some c n = ap status_of (unless n) ∙ due_check lines_once judges_once words bytes world (made a) o p (here bytes h) few reads some c

    pub run_of : (bytes : List ℕ) (o : Options) (p : Program) → IsDue words bytes a.world (made a) → FitsLimit o bytes → ReadsAs (text_of o bytes) (accepted p) → asked words ≡ Some o
        → is_run o.command ≡ true → ((written : ℕ) → refusal ≢ r.WriteFault written) → IsRunStatus (status_of refusal)
    run_of bytes o p h fits reads some c n =
        subst (λ (x : Refusal). IsRunStatus (status_of x)) (sym (unless n)) (due_run_status lines_once judges_once words bytes world (made a) o p (here bytes h) fits reads some c)

    pub replay_of : (bytes : List ℕ) (o : Options) (b : Bool) → IsDue words bytes a.world (made a) → length bytes ≤ limit_of o.command
        → ReplaysAs (program_part bytes) (history_part bytes) (judged (verdict.legal b)) → asked words ≡ Some o → o.command ≡ Replay
        → ((written : ℕ) → refusal ≢ r.WriteFault written) → status_of refusal ≡ 0
    replay_of bytes o b h few found some c n = ap status_of (unless n) ∙ due_legal lines_once judges_once words bytes world (made a) o b (here bytes h) few found some c

    pub refuse_of : (bytes : List ℕ) (o : Options) (f : Fault) → IsDue words bytes a.world (made a) → FitsLimit o bytes → ReadsAs (text_of o bytes) (refused f) → asked words ≡ Some o → is_on_text o.command ≡ true
        → ((written : ℕ) → refusal ≢ r.WriteFault written) → refusal ≡ r.Refused f.kind f.at.line f.at.column
    refuse_of bytes o f h few reads some on n = unless n ∙ ap (λ (d : Due). d.refusal) (due_refusal lines_once judges_once words bytes world (made a) o f (here bytes h) few reads some on)
