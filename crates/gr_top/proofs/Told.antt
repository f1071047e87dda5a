-- What a refusal tells of the words, the source and what it reads as.
use Rattle.std.proofs.Common.{◌≡◌, ◌≢◌, ℕ, ◌<◌, List, true, Option, Some, None, refl, sym, ap, ◌∙◌, subst, arith, length, ◌⊎◌, inl, inr}
use Rattle.std.specs.Prelude.{IfSome, String}
use Rattle.std.specs.declared.alloc.Global.{Global}
use Rattle.gr_syntax.specs.declared.syntax.Program.{Program}
use Rattle.gr_syntax.specs.declared.refusal.Kind.{Kind}
use Rattle.gr_syntax.specs.declared.refusal.Fault.{Fault}
use Rattle.gr_syntax.specs.Faults.{fault}
use Rattle.gr_cli.specs.declared.settings.Options.{Options}
use Rattle.gr_cli.specs.declared.settings.Command.{Command}
use Rattle.gr_cli.specs.declared.settings.Command.TheVariants.{Run, Check, Replay, Bench}
use Rattle.gr_replay.specs.Division.{program_part, history_part}
use Rattle.gr_replay.specs.Judged.{Verdict}
use Rattle.gr_replay.specs.Judged as verdict
use Rattle.gr_engine.specs.declared.ending.WorldEnd.{WorldEnd}
use Rattle.gr_engine.specs.Ends.{Ended, complete, ended_as, limited, stalled, trapped}
use Rattle.gr_top.specs.Readings.{ReadsAs, ReplaysAs, IsDue}
use Rattle.gr_top.specs.Due.{Reading, accepted, refused, Replayed, unread, bad_line, judged, Due, due_read, due_refused, due_accepted, due_ended, due_run, due_replayed, due_judged, said}
use Rattle.gr_top.specs.Commands.{asked, is_on_text, is_replay, limit_of, setup_of, text_of}
use Rattle.gr_top.specs.Promises.{status_of, IsRunStatus, Refusing}
use Rattle.gr_top.specs.Texts.{accepted_text}
use Rattle.gr_top.specs.declared.answer.Refusal.TheVariants as r

-- The statuses of a run: 0, 3, 7 or 11; of a program text that was read: these, or 1; and of a replay: 0, 1, 9 or 10.
abbrev pub IsRan : Due → Type 0
IsRan d = IsRunStatus (status_of d.refusal)

abbrev IsReadStatus : Due → Type 0
IsReadStatus d = (status_of d.refusal ≡ 1) ⊎ IsRan d

abbrev IsReplayStatus : Due → Type 0
IsReplayStatus d = (status_of d.refusal ≡ 0) ⊎ ((status_of d.refusal ≡ 1) ⊎ ((status_of d.refusal ≡ 9) ⊎ (status_of d.refusal ≡ 10)))

ended_status : (o : Options) (p : Program) (world : WorldEnd) (how : Ended) → IsRan (due_ended o p world how)
ended_status o p world (complete objects) = inl refl
ended_status o p world (trapped trap) = inr (inl refl)
ended_status o p world (limited at) = inr (inr (inr (inl refl)))
ended_status o p world stalled = inr (inr (inr (inr refl)))

pub same_some : {A : Type 0} (x y : A) → Some x ≡ Some y → x ≡ y
same_some x y e = cc

pub no_some : {A : Type 0} (x : A) → None ≡ Some x → ⊥
no_some x e = cc

pub run_status : (o : Options) (p : Program) (world : Option WorldEnd) (d : Due) → due_run o p world ≡ Some d → IsRan d
run_status o p None d due = absurd (no_some d due)
run_status o p (Some world) d due =
    let how : Ended = ended_as (setup_of o) p world in subst IsRan (same_some (due_ended o p world how) d due) (ended_status o p world how)

accepted_status : (c : Command) (o : Options) (p : Program) (world : Option WorldEnd) (d : Due) → due_accepted c o p world ≡ Some d → IsReadStatus d
accepted_status Check o p world d due = subst IsReadStatus (same_some (said r.Nothing accepted_text) d due) (inr (inl refl))
accepted_status Run o p world d due = inr (run_status o p world d due)
accepted_status Replay o p world d due = inr (run_status o p world d due)
accepted_status Bench o p world d due = inr (run_status o p world d due)

read_status : (o : Options) (reading : Reading) (world : Option WorldEnd) (d : Due) → due_read o reading world ≡ Some d → IsReadStatus d
read_status o (refused f) world d due = subst IsReadStatus (same_some (due_refused f) d due) (inl refl)
read_status o (accepted p) world d due = accepted_status o.command o p world d due

judged_status : (v : Verdict) → IsReplayStatus (due_judged v)
judged_status (verdict.legal b) = inl refl
judged_status (verdict.not_legal n) = inr (inr (inl refl))

replay_status : (found : Replayed) → IsReplayStatus (due_replayed found)
replay_status (unread f) = inr (inl refl)
replay_status (bad_line n) = inr (inr (inr refl))
replay_status (judged v) = judged_status v

-- What is due of a text that was read has none of the other statuses.
not_read : (o : Options) (reading : Reading) (world : Option WorldEnd) (d : Due) → due_read o reading world ≡ Some d → (n : ℕ) → status_of d.refusal ≡ n → n ≢ 1 → (IsRunStatus n → ⊥) → ⊥
not_read o reading world d due n e x y = by (read_status o reading world d due)
  where
    by : IsReadStatus d → ⊥
    by (inl h) = x (sym e ∙ h)
    by (inr h) = y (subst IsRunStatus e h)

no_status : (n : ℕ) → n ≢ 0 → n ≢ 3 → n ≢ 6 → n ≢ 7 → n ≢ 11 → IsRunStatus n → ⊥
no_status n a b c d e (inl h) = a h
no_status n a b c d e (inr (inl h)) = b h
no_status n a b c d e (inr (inr (inl h))) = c h
no_status n a b c d e (inr (inr (inr (inl h)))) = d h
no_status n a b c d e (inr (inr (inr (inr h)))) = e h

no_two : IsRunStatus 2 → ⊥
no_two = no_status 2 (λ k. omega (arith, k)) (λ k. omega (arith, k)) (λ k. omega (arith, k)) (λ k. omega (arith, k)) (λ k. omega (arith, k))

no_eight : IsRunStatus 8 → ⊥
no_eight = no_status 8 (λ k. omega (arith, k)) (λ k. omega (arith, k)) (λ k. omega (arith, k)) (λ k. omega (arith, k)) (λ k. omega (arith, k))

no_nine : IsRunStatus 9 → ⊥
no_nine = no_status 9 (λ k. omega (arith, k)) (λ k. omega (arith, k)) (λ k. omega (arith, k)) (λ k. omega (arith, k)) (λ k. omega (arith, k))

no_ten : IsRunStatus 10 → ⊥
no_ten = no_status 10 (λ k. omega (arith, k)) (λ k. omega (arith, k)) (λ k. omega (arith, k)) (λ k. omega (arith, k)) (λ k. omega (arith, k))

no_one : IsRunStatus 1 → ⊥
no_one = no_status 1 (λ k. omega (arith, k)) (λ k. omega (arith, k)) (λ k. omega (arith, k)) (λ k. omega (arith, k)) (λ k. omega (arith, k))

not_replayed : (found : Replayed) (n : ℕ) → status_of (due_replayed found).refusal ≡ n → n ≢ 0 → n ≢ 1 → n ≢ 9 → n ≢ 10 → ⊥
not_replayed found n e x y z w = by (replay_status found)
  where
    by : IsReplayStatus (due_replayed found) → ⊥
    by (inl h) = x (sym e ∙ h)
    by (inr (inl h)) = y (sym e ∙ h)
    by (inr (inr (inl h))) = z (sym e ∙ h)
    by (inr (inr (inr h))) = w (sym e ∙ h)

-- The words are no command line.
pub usage_told : (words : List (String Global)) (bytes : List ℕ) (world : Option WorldEnd) (d : Due) → IsDue words bytes world d → d.refusal ≡ r.Usage → asked words ≡ None
usage_told words bytes world _ (IsDue.usage h) e = h
usage_told words bytes world _ (IsDue.too_long o some reads more) e = cc
usage_told words bytes world d (IsDue.read {reading} o some on fits h due) e =
    absurd (not_read o reading world d due 2 (ap status_of e) (λ k. omega (arith, k)) no_two)
usage_told words bytes world _ (IsDue.replayed {r = found} o some on few h) e =
    absurd (not_replayed found 2 (ap status_of e) (λ k. omega (arith, k)) (λ k. omega (arith, k)) (λ k. omega (arith, k)) (λ k. omega (arith, k)))

-- The source held too many bytes.
pub too_long_told : (words : List (String Global)) (bytes : List ℕ) (world : Option WorldEnd) (d : Due) → IsDue words bytes world d → d.refusal ≡ r.TooLong
    → IfSome (asked words) (λ o. limit_of o.command < length bytes)
too_long_told words bytes world _ (IsDue.usage h) e = cc
too_long_told words bytes world _ (IsDue.too_long o some reads more) e = subst (λ (x : Option Options). IfSome x (λ o. limit_of o.command < length bytes)) (sym some) more
too_long_told words bytes world d (IsDue.read {reading} o some on fits h due) e =
    absurd (not_read o reading world d due 8 (ap status_of e) (λ k. omega (arith, k)) no_eight)
too_long_told words bytes world _ (IsDue.replayed {r = found} o some on few h) e =
    absurd (not_replayed found 8 (ap status_of e) (λ k. omega (arith, k)) (λ k. omega (arith, k)) (λ k. omega (arith, k)) (λ k. omega (arith, k)))

-- The text is refused.
abbrev Refused1 : Option Options → List ℕ → Due → Type 0
Refused1 options bytes d = (kind : Kind) (line column : ℕ) → d.refusal ≡ r.Refused kind line column → Refusing bytes options (fault kind (record { line = line; column = column }))

same_fault : (f : Fault) (kind : Kind) (line column : ℕ) → r.Refused f.kind f.at.line f.at.column ≡ r.Refused kind line column → f ≡ fault kind (record { line = line; column = column })
same_fault f kind line column e =
    let x : f.kind ≡ kind = cc in let y : f.at.line ≡ line = cc in let z : f.at.column ≡ column = cc in
    λ i. record { kind = x i; at = record { line = y i; column = z i } }

fault_told : (options : Option Options) (bytes : List ℕ) (f : Fault) → Refusing bytes options f → Refused1 options bytes (due_refused f)
fault_told options bytes f h kind line column e = subst (Refusing bytes options) (same_fault f kind line column e) h

run_told : (options : Option Options) (bytes : List ℕ) (d : Due) → IsRan d → Refused1 options bytes d
run_told options bytes d h kind line column e = absurd (no_one (subst IsRunStatus (ap status_of e) h))

check_told : (options : Option Options) (bytes : List ℕ) → Refused1 options bytes (said r.Nothing accepted_text)
check_told options bytes kind line column e = cc

accepted_told : (options : Option Options) (bytes : List ℕ) (world : Option WorldEnd) (o : Options) (c : Command) (p : Program) (d : Due) → due_accepted c o p world ≡ Some d → Refused1 options bytes d
accepted_told options bytes world o Check p d due = subst (Refused1 options bytes) (same_some (said r.Nothing accepted_text) d due) (check_told options bytes)
accepted_told options bytes world o Run p d due = run_told options bytes d (run_status o p world d due)
accepted_told options bytes world o Replay p d due = run_told options bytes d (run_status o p world d due)
accepted_told options bytes world o Bench p d due = run_told options bytes d (run_status o p world d due)

read_told : (bytes : List ℕ) (world : Option WorldEnd) (o : Options) (reading : Reading) (d : Due) → is_on_text o.command ≡ true → ReadsAs (text_of o bytes) reading
    → due_read o reading world ≡ Some d → Refused1 (Some o) bytes d
read_told bytes world o (refused f) d on h due = subst (Refused1 (Some o) bytes) (same_some (due_refused f) d due) (fault_told (Some o) bytes f (Refusing.of_text on h))
read_told bytes world o (accepted p) d on h due = accepted_told (Some o) bytes world o o.command p d due

judged_told : (bytes : List ℕ) (o : Options) (v : Verdict) → Refused1 (Some o) bytes (due_judged v)
judged_told bytes o (verdict.legal b) = λ kind line column e. cc
judged_told bytes o (verdict.not_legal n) = λ kind line column e. cc

replay_told : (bytes : List ℕ) (o : Options) (found : Replayed) → is_replay o.command ≡ true → ReplaysAs (program_part bytes) (history_part bytes) found → Refused1 (Some o) bytes (due_replayed found)
replay_told bytes o _ on (ReplaysAs.of_fault {f} h) = fault_told (Some o) bytes f (Refusing.of_replay on h)
replay_told bytes o _ on (ReplaysAs.of_line h k) = λ kind line column e. cc
replay_told bytes o _ on (ReplaysAs.of_history {v = v} h k j) = judged_told bytes o v

with_options : (options : Option Options) (o : Options) (bytes : List ℕ) (d : Due) → options ≡ Some o → Refused1 (Some o) bytes d → Refused1 options bytes d
with_options options o bytes d some h = subst (λ (x : Option Options). Refused1 x bytes d) (sym some) h

pub refused_told : (words : List (String Global)) (bytes : List ℕ) (world : Option WorldEnd) (d : Due) → IsDue words bytes world d → Refused1 (asked words) bytes d
refused_told words bytes world _ (IsDue.usage h) = λ kind line column e. cc
refused_told words bytes world _ (IsDue.too_long o some reads more) = λ kind line column e. cc
refused_told words bytes world d (IsDue.read {reading} o some on fits h due) =
    with_options (asked words) o bytes d some (read_told bytes world o reading d on h due)
refused_told words bytes world _ (IsDue.replayed {r = found} o some on few h) = with_options (asked words) o bytes (due_replayed found) some (replay_told bytes o found on h)

-- The history is no history of the program, or its text is none.
judged_entry : (v : Verdict) (entry : ℕ) → (due_judged v).refusal ≡ r.NotLegal entry → v ≡ verdict.not_legal entry
judged_entry (verdict.legal b) entry e = cc
judged_entry (verdict.not_legal n) entry e = let k : n ≡ entry = cc in ap verdict.not_legal k

found_entry : (found : Replayed) (entry : ℕ) → (due_replayed found).refusal ≡ r.NotLegal entry → found ≡ judged (verdict.not_legal entry)
found_entry (unread f) entry e = cc
found_entry (bad_line n) entry e = cc
found_entry (judged v) entry e = ap judged (judged_entry v entry e)

judged_line : (v : Verdict) (line : ℕ) → (due_judged v).refusal ≡ r.BadLine line → ⊥
judged_line (verdict.legal b) line e = cc
judged_line (verdict.not_legal n) line e = cc

found_line : (found : Replayed) (line : ℕ) → (due_replayed found).refusal ≡ r.BadLine line → found ≡ bad_line line
found_line (unread f) line e = cc
found_line (bad_line n) line e = let k : n ≡ line = cc in ap bad_line k
found_line (judged v) line e = absurd (judged_line v line e)

pub entry_told : (words : List (String Global)) (bytes : List ℕ) (world : Option WorldEnd) (d : Due) → IsDue words bytes world d → (entry : ℕ) → d.refusal ≡ r.NotLegal entry
    → ReplaysAs (program_part bytes) (history_part bytes) (judged (verdict.not_legal entry))
entry_told words bytes world _ (IsDue.usage h) entry e = cc
entry_told words bytes world _ (IsDue.too_long o some reads more) entry e = cc
entry_told words bytes world d (IsDue.read {reading} o some on fits h due) entry e =
    absurd (not_read o reading world d due 9 (ap status_of e) (λ k. omega (arith, k)) no_nine)
entry_told words bytes world _ (IsDue.replayed {r = found} o some on few h) entry e = subst (ReplaysAs (program_part bytes) (history_part bytes)) (found_entry found entry e) h

pub line_told : (words : List (String Global)) (bytes : List ℕ) (world : Option WorldEnd) (d : Due) → IsDue words bytes world d → (line : ℕ) → d.refusal ≡ r.BadLine line
    → ReplaysAs (program_part bytes) (history_part bytes) (bad_line line)
line_told words bytes world _ (IsDue.usage h) line e = cc
line_told words bytes world _ (IsDue.too_long o some reads more) line e = cc
line_told words bytes world d (IsDue.read {reading} o some on fits h due) line e =
    absurd (not_read o reading world d due 10 (ap status_of e) (λ k. omega (arith, k)) no_ten)
line_told words bytes world _ (IsDue.replayed {r = found} o some on few h) line e = subst (ReplaysAs (program_part bytes) (history_part bytes)) (found_line found line e) h
