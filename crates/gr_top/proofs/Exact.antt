-- One answer is due, and which one for an accepted text, a refused one and a legal history.
use Rattle.std.proofs.Common.{◌≡◌, ℕ, ◌≤◌, List, Bool, true, false, Option, Some, None, refl, sym, ap, ◌∙◌, subst, arith, length}
use Rattle.std.specs.Prelude.{String, if◌then◌else◌}
use Rattle.std.specs.declared.alloc.Global.{Global}
use Rattle.gr_syntax.specs.declared.syntax.Program.{Program}
use Rattle.gr_syntax.specs.declared.refusal.Fault.{Fault}
use Rattle.gr_cli.specs.declared.settings.Options.{Options}
use Rattle.gr_cli.specs.declared.settings.Command.{Command}
use Rattle.gr_cli.specs.declared.settings.Command.TheVariants.{Run, Check, Replay, Bench}
use Rattle.gr_hist.specs.declared.text.HistoryText.{HistoryText}
use Rattle.gr_replay.specs.Division.{program_part, history_part}
use Rattle.gr_replay.specs.Judged.{Judged}
use Rattle.gr_replay.specs.Judged as verdict
use Rattle.gr_gen.specs.Programs.{bench_text}
use Rattle.gr_engine.specs.declared.ending.WorldEnd.{WorldEnd}
use Rattle.gr_top.specs.Readings.{FitsLimit, ReadsAs, ReplaysAs, IsDue}
use Rattle.gr_top.specs.Due.{Reading, accepted, refused, Replayed, unread, bad_line, judged, Due, due_read, due_refused, due_accepted, due_run, due_replayed, due_judged, said}
use Rattle.gr_top.specs.Commands.{asked, is_on_text, is_replay, is_read, is_run, limit_of, text_of}
use Rattle.gr_top.specs.Promises.{status_of}
use Rattle.gr_top.specs.Texts.{accepted_text}
use Rattle.gr_top.specs.declared.answer.Refusal.TheVariants as refusal
use Rattle.gr_hist.specs.Grammar.{ReadsOnce}
use Rattle.gr_replay.specs.Laws.{JudgedOnce}
use Rattle.std.proofs.Common.{Ok, Err}
use Rattle.gr_top.proofs.Once.{once}
use Rattle.gr_top.proofs.Told.{IsRan, run_status, same_some}

same_options : (words : List (String Global)) (o q : Options) → asked words ≡ Some o → asked words ≡ Some q → o ≡ q
same_options words o q x y = let k : Some o ≡ Some q = sym x ∙ y in cc

pub some_options : (words : List (String Global)) (o : Options) → asked words ≡ Some o → asked words ≡ None → ⊥
some_options words o e none = let k : Some o ≡ None = sym e ∙ none in cc

-- The kinds of commands lie apart.
apart : (words : List (String Global)) (o q : Options) (f : Command → Bool) → asked words ≡ Some o → asked words ≡ Some q → f o.command ≡ true → f q.command ≡ false → ⊥
apart words o q f x y h k = let e : true ≡ false = sym h ∙ ap (λ (z : Options). f z.command) (same_options words o q x y) ∙ k in cc

replay_is_read : (c : Command) → is_replay c ≡ true → is_read c ≡ true
replay_is_read Run e = refl
replay_is_read Check e = refl
replay_is_read Replay e = refl
replay_is_read Bench e = cc

replay_is_no_text : (c : Command) → is_replay c ≡ true → is_on_text c ≡ false
replay_is_no_text Replay e = refl
replay_is_no_text _ e = cc

same_bytes : (words : List (String Global)) (o q : Options) (bytes : List ℕ) → asked words ≡ Some o → asked words ≡ Some q → text_of o bytes ≡ text_of q bytes
same_bytes words o q bytes x y = ap (λ (z : Options). text_of z bytes) (same_options words o q x y)

same_program : (text : List ℕ) (p q : Program) → ReadsAs text (accepted p) → ReadsAs text (accepted q) → p ≡ q
same_program text p q h k = let e : accepted p ≡ accepted q = once text (accepted p) (accepted q) h k in cc

no_reading : (text : List ℕ) (p : Program) (f : Fault) → ReadsAs text (accepted p) → ReadsAs text (refused f) → ⊥
no_reading text p f h k = let e : accepted p ≡ refused f = once text (accepted p) (refused f) h k in cc

-- What is due of a reading is one for all options and readings of the same words and text.
same_due : (words : List (String Global)) (bytes : List ℕ) (world : Option WorldEnd) (x y : Reading) (o q : Options) → asked words ≡ Some o → asked words ≡ Some q → ReadsAs (text_of o bytes) x → ReadsAs (text_of q bytes) y
    → due_read o x world ≡ due_read q y world
same_due words bytes world x y o q some also h k =
    ap (λ (z : Options). due_read z x world) (same_options words o q some also)
    ∙ ap (λ (z : Reading). due_read q z world) (once (text_of q bytes) x y (subst (λ (text : List ℕ). ReadsAs text x) (same_bytes words o q bytes some also) h) k)

module _ (lines_once : ReadsOnce) (judges_once : JudgedOnce) where
  pub replays_once : (text history : List ℕ) (x y : Replayed) → ReplaysAs text history x → ReplaysAs text history y → x ≡ y
  replays_once text history _ _ (ReplaysAs.of_fault {f} h) (ReplaysAs.of_fault {f = g} k) = let e : refused f ≡ refused g = once text (refused f) (refused g) h k in let i : f ≡ g = cc in ap unread i
  replays_once text history _ _ (ReplaysAs.of_fault {f} h) (ReplaysAs.of_line {p} k l) = absurd (no_reading text p f k h)
  replays_once text history _ _ (ReplaysAs.of_fault {f} h) (ReplaysAs.of_history {p} k l j) = absurd (no_reading text p f k h)
  replays_once text history _ _ (ReplaysAs.of_line {p} h l) (ReplaysAs.of_fault {f} k) = absurd (no_reading text p f h k)
  replays_once text history _ _ (ReplaysAs.of_line {line = m} h l) (ReplaysAs.of_line {line = n} k i) =
      let e : Err m ≡ Err n = lines_once history (Err m) (Err n) l i in let same : m ≡ n = cc in ap bad_line same
  replays_once text history _ _ (ReplaysAs.of_line {line = m} h l) (ReplaysAs.of_history {h = t} k i j) = let e : Err m ≡ Ok t = lines_once history (Err m) (Ok t) l i in absurd (apart_results e)
    where
      apart_results : Err m ≡ Ok t → ⊥
      apart_results e = cc
  replays_once text history _ _ (ReplaysAs.of_history {p} h l j) (ReplaysAs.of_fault {f} k) = absurd (no_reading text p f h k)
  replays_once text history _ _ (ReplaysAs.of_history {h = t} h l j) (ReplaysAs.of_line {line = n} k i) = let e : Ok t ≡ Err n = lines_once history (Ok t) (Err n) l i in absurd (apart_results e)
    where
      apart_results : Ok t ≡ Err n → ⊥
      apart_results e = cc
  replays_once text history _ _ (ReplaysAs.of_history {p} {h = t} {v} h l j) (ReplaysAs.of_history {p = q} {h = u} {v = w} k i m) =
      let e : Ok t ≡ Ok u = lines_once history (Ok t) (Ok u) l i in
      let same : t ≡ u = cc in
      ap judged (judges_once p t.cores t.steps t.lines v w j
      (subst (λ (x : HistoryText). Judged p x.cores x.steps x.lines w) (sym same) (subst (λ (x : Program). Judged x u.cores u.steps u.lines w) (sym (same_program text p q h k)) m)))

  pub due_once : (words : List (String Global)) (bytes : List ℕ) (world : Option WorldEnd) (d e : Due) → IsDue words bytes world d → IsDue words bytes world e → d ≡ e
  due_once words bytes world _ _ (IsDue.usage h) (IsDue.usage k) = refl
  due_once words bytes world _ _ (IsDue.usage h) (IsDue.too_long o some reads more) = absurd (some_options words o some h)
  due_once words bytes world _ _ (IsDue.usage h) (IsDue.read o some on fits k due) = absurd (some_options words o some h)
  due_once words bytes world _ _ (IsDue.usage h) (IsDue.replayed o some on few k) = absurd (some_options words o some h)
  due_once words bytes world _ _ (IsDue.too_long o some reads more) (IsDue.usage k) = absurd (some_options words o some k)
  due_once words bytes world _ _ (IsDue.too_long o some reads more) (IsDue.too_long q also sees too) = refl
  due_once words bytes world _ _ (IsDue.too_long o some reads more) (IsDue.read q also on fits k due) =
      absurd (omega (arith, more, fits (ap (λ (z : Options). is_read z.command) (sym (same_options words o q some also)) ∙ reads), ap (λ (z : Options). limit_of z.command) (same_options words o q some also)))
  due_once words bytes world _ _ (IsDue.too_long o some reads more) (IsDue.replayed q also on few k) =
      absurd (omega (arith, more, few, ap (λ (z : Options). limit_of z.command) (same_options words o q some also)))
  due_once words bytes world _ _ (IsDue.read o some on fits h due) (IsDue.usage k) = absurd (some_options words o some k)
  due_once words bytes world _ _ (IsDue.read o some on fits h due) (IsDue.too_long q also reads more) =
      absurd (omega (arith, more, fits (ap (λ (z : Options). is_read z.command) (same_options words o q some also) ∙ reads), ap (λ (z : Options). limit_of z.command) (same_options words o q some also)))
  due_once words bytes world d e (IsDue.read {reading = x} o some on fits h due) (IsDue.read {reading = y} q also off within k again) =
      same_some d e (sym due ∙ same_due words bytes world x y o q some also h k ∙ again)
  due_once words bytes world _ _ (IsDue.read o some on fits h due) (IsDue.replayed q also off less k) = absurd (apart words o q is_on_text some also on (replay_is_no_text q.command off))
  due_once words bytes world _ _ (IsDue.replayed o some on few h) (IsDue.usage k) = absurd (some_options words o some k)
  due_once words bytes world _ _ (IsDue.replayed o some on few h) (IsDue.too_long q also reads more) =
      absurd (omega (arith, more, few, ap (λ (z : Options). limit_of z.command) (same_options words o q some also)))
  due_once words bytes world _ _ (IsDue.replayed o some on few h) (IsDue.read q also off fits k due) = absurd (apart words q o is_on_text also some off (replay_is_no_text o.command on))
  due_once words bytes world _ _ (IsDue.replayed {r = x} o some on few h) (IsDue.replayed {r = y} q also off less k) =
      ap due_replayed (replays_once (program_part bytes) (history_part bytes) x y h k)

  on_text : (c d : Command) → c ≡ d → is_on_text d ≡ true → is_on_text c ≡ true
  on_text c d e h = ap is_on_text e ∙ h

  -- Of a text that is read it is the answer to what it reads as.
  due_of_reading : (words : List (String Global)) (bytes : List ℕ) (world : Option WorldEnd) (d : Due) (o : Options) (reading : Reading)
      → IsDue words bytes world d → FitsLimit o bytes → ReadsAs (text_of o bytes) reading → asked words ≡ Some o → is_on_text o.command ≡ true → due_read o reading world ≡ Some d
  due_of_reading words bytes world _ o reading (IsDue.usage none) fits reads some on = absurd (some_options words o some none)
  due_of_reading words bytes world _ o reading (IsDue.too_long q also sees more) fits reads some on =
      absurd (omega (arith, more, fits (ap (λ (z : Options). is_read z.command) (same_options words o q some also) ∙ sees), ap (λ (z : Options). limit_of z.command) (same_options words o q some also)))
  due_of_reading words bytes world d o reading (IsDue.read {reading = y} q also off within k due) fits reads some on = same_due words bytes world reading y o q some also reads k ∙ due
  due_of_reading words bytes world _ o reading (IsDue.replayed q also off less k) fits reads some on = absurd (apart words o q is_on_text some also on (replay_is_no_text q.command off))

  check_reads : (o : Options) (bytes : List ℕ) → o.command ≡ Check → bytes ≡ text_of o bytes
  check_reads o bytes c = ap (λ (x : Command). if is_read x then bytes else bench_text o.kind o.size o.seed) (sym c)

  check_on : (o : Options) → o.command ≡ Check → is_on_text o.command ≡ true
  check_on o c = ap is_on_text c

  pub due_check : (words : List (String Global)) (bytes : List ℕ) (world : Option WorldEnd) (d : Due) (o : Options) (p : Program)
      → IsDue words bytes world d → length bytes ≤ limit_of o.command → ReadsAs bytes (accepted p) → asked words ≡ Some o → o.command ≡ Check → status_of d.refusal ≡ 0
  due_check words bytes world d o p h few reads some c =
      let e : due_accepted o.command o p world ≡ Some d =
      due_of_reading words bytes world d o (accepted p) h (λ k. few) (subst (λ (text : List ℕ). ReadsAs text (accepted p)) (check_reads o bytes c) reads) some (check_on o c) in
      let same : said refusal.Nothing accepted_text ≡ d =
      same_some (said refusal.Nothing accepted_text) d (sym (ap (λ (x : Command). due_accepted x o p world) c) ∙ e) in
      ap (λ (x : Due). status_of x.refusal) (sym same)

  run_on : (c : Command) → is_run c ≡ true → is_on_text c ≡ true
  run_on Run h = refl
  run_on Bench h = refl
  run_on Check h = cc
  run_on Replay h = cc

  run_due : (c : Command) (o : Options) (p : Program) (world : Option WorldEnd) → is_run c ≡ true → due_accepted c o p world ≡ due_run o p world
  run_due Run o p world h = refl
  run_due Bench o p world h = refl
  run_due Check o p world h = cc
  run_due Replay o p world h = cc

  pub due_run_status : (words : List (String Global)) (bytes : List ℕ) (world : Option WorldEnd) (d : Due) (o : Options) (p : Program)
      → IsDue words bytes world d → FitsLimit o bytes → ReadsAs (text_of o bytes) (accepted p) → asked words ≡ Some o → is_run o.command ≡ true → IsRan d
  due_run_status words bytes world d o p h fits reads some c =
      let e : due_run o p world ≡ Some d = sym (run_due o.command o p world c) ∙ due_of_reading words bytes world d o (accepted p) h fits reads some (run_on o.command c) in
      run_status o p world d e

  -- A refused text is refused.
  pub due_refusal : (words : List (String Global)) (bytes : List ℕ) (world : Option WorldEnd) (d : Due) (o : Options) (f : Fault)
      → IsDue words bytes world d → FitsLimit o bytes → ReadsAs (text_of o bytes) (refused f) → asked words ≡ Some o → is_on_text o.command ≡ true → d ≡ due_refused f
  due_refusal words bytes world d o f h fits reads some on = sym (same_some (due_refused f) d (due_of_reading words bytes world d o (refused f) h fits reads some on))

  -- A legal history is said to be legal.
  pub due_legal : (words : List (String Global)) (bytes : List ℕ) (world : Option WorldEnd) (d : Due) (o : Options) (b : Bool)
      → IsDue words bytes world d → length bytes ≤ limit_of o.command → ReplaysAs (program_part bytes) (history_part bytes) (judged (verdict.legal b)) → asked words ≡ Some o → o.command ≡ Replay
      → status_of d.refusal ≡ 0
  due_legal words bytes world d o b h few found some c =
      ap (λ (x : Due). status_of x.refusal) (due_once words bytes world d (due_judged (verdict.legal b)) h
      (IsDue.replayed o some (ap is_replay c) few found))
