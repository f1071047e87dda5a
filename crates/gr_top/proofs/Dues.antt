-- The answer due, from what the parts of the call made, and what came of it.
use Rattle.std.proofs.Common.{◌≡◌, ◌≢◌, ℕ, ◌<◌, ◌≤◌, List, true, false, Option, Some, None, refl, sym, ap, ◌∙◌, subst, length, is_some}
use Rattle.std.specs.Prelude.{IfSome, String}
use Rattle.std.specs.declared.alloc.Global.{Global}
use Rattle.std.specs.Io.KnownBytes.{Appends}
use Rattle.gr_syntax.specs.declared.syntax.Program.{Program}
use Rattle.gr_cli.specs.declared.settings.Options.{Options}
use Rattle.gr_cli.specs.declared.settings.Command.{Command}
use Rattle.gr_cli.specs.declared.settings.Command.TheVariants.{Run, Check, Replay, Bench}
use Rattle.gr_replay.specs.Division.{program_part, history_part}
use Rattle.gr_gen.specs.Programs.{bench_text}
use Rattle.gr_top.specs.Readings.{ReadsAs, ReplaysAs, IsDue, FitsLimit}
use Rattle.gr_top.specs.Due.{Reading, accepted, Replayed, Due, due_usage, due_too_long, due_read, due_replayed, Came}
use Rattle.gr_top.specs.Commands.{asked, is_on_text, is_replay, is_read, limit_of, text_of}
use Rattle.gr_top.specs.Promises.{Answered, IsRunOf, IsWorldOf}
use Rattle.gr_top.specs.Texts.{usage_text, too_long_text}
use Rattle.gr_top.specs.AnswerView.{made}
use Rattle.gr_top.specs.declared.answer.Answer.{Answer}
use Rattle.gr_top.specs.declared.answer.Refusal.{Refusal}
use Rattle.gr_top.specs.declared.answer.Refusal.TheVariants as r
use Rattle.gr_engine.specs.declared.ending.WorldEnd.{WorldEnd}

pub if_some : {A : Type 0} {P : A → Type 0} (o : Option A) → ((a : A) → o ≡ Some a → P a) → IfSome o P
if_some None h = tt
if_some (Some a) h = h a refl

pub of_some : {A : Type 0} (P : A → Type 0) (o : Option A) (a : A) → o ≡ Some a → IfSome o P → P a
of_some {A} P o a e h = subst (λ (x : Option A). IfSome x P) e h

pub world_none : (words : List (String Global)) (bytes : List ℕ) (world : Option WorldEnd) → world ≡ None → IsWorldOf words bytes world
world_none words bytes world e = subst (IsWorldOf words bytes) (sym e) tt

-- ---- what the parts made is the answer due

pub is_made : (a : Answer) (d : Due) → a.refusal ≡ d.refusal → a.text.items ≡ d.text → is_some a.world ≡ d.ran → made a ≡ d
is_made a d x y z = λ i. record { refusal = x i; text = y i; ran = z i }

pub made_usage : (words : List (String Global)) (bytes : List ℕ) (a : Answer) → asked words ≡ None → a.refusal ≡ r.Usage → a.text.items ≡ usage_text → a.world ≡ None
    → IsDue words bytes a.world (made a)
made_usage words bytes a none x y z = subst (λ (d : Due). IsDue words bytes a.world d) (sym (is_made a due_usage x y (ap is_some z))) (IsDue.usage none)

pub made_too_long : (words : List (String Global)) (bytes : List ℕ) (a : Answer) (o : Options) → asked words ≡ Some o → is_read o.command ≡ true → limit_of o.command < length bytes
    → a.refusal ≡ r.TooLong → a.text.items ≡ too_long_text → a.world ≡ None → IsDue words bytes a.world (made a)
made_too_long words bytes a o some reads more x y z =
    subst (λ (d : Due). IsDue words bytes a.world d) (sym (is_made a due_too_long x y (ap is_some z))) (IsDue.too_long o some reads more)

pub made_on_text : (words : List (String Global)) (bytes : List ℕ) (a : Answer) (o : Options) → asked words ≡ Some o → is_on_text o.command ≡ true → FitsLimit o bytes
    → ((reading : Reading) × ReadsAs (text_of o bytes) reading × (due_read o reading a.world ≡ Some (made a))) → IsDue words bytes a.world (made a)
made_on_text words bytes a o some on fits h = IsDue.read o some on fits h.1 h.2

-- A command that reads the source is on what that holds; a bench is on its own text.
source_text : (o : Options) (bytes : List ℕ) → is_read o.command ≡ true → bytes ≡ text_of o bytes
source_text o bytes reads = rw reads refl

bench_text_of : (o : Options) (bytes : List ℕ) → is_read o.command ≡ false → bench_text o.kind o.size o.seed ≡ text_of o bytes
bench_text_of o bytes own = rw own refl

pub made_read : (words : List (String Global)) (bytes : List ℕ) (a : Answer) (o : Options) → asked words ≡ Some o → is_read o.command ≡ true → is_on_text o.command ≡ true
    → length bytes ≤ limit_of o.command → ((reading : Reading) × ReadsAs bytes reading × (due_read o reading a.world ≡ Some (made a))) → IsDue words bytes a.world (made a)
made_read words bytes a o some reads on few h =
    made_on_text words bytes a o some on (λ k. few) (h.0, subst (λ (text : List ℕ). ReadsAs text h.0) (source_text o bytes reads) h.1, h.2)

bench_is_on_text : (c : Command) → is_read c ≡ false → is_on_text c ≡ true
bench_is_on_text Bench h = refl
bench_is_on_text _ h = cc

never_read : (o : Options) (bytes : List ℕ) → is_read o.command ≡ false → FitsLimit o bytes
never_read o bytes own reads = let k : false ≡ true = sym own ∙ reads in cc

pub made_bench : (words : List (String Global)) (bytes : List ℕ) (a : Answer) (o : Options) → asked words ≡ Some o → is_read o.command ≡ false
    → ((reading : Reading) × ReadsAs (bench_text o.kind o.size o.seed) reading × (due_read o reading a.world ≡ Some (made a))) → IsDue words bytes a.world (made a)
made_bench words bytes a o some own h =
    made_on_text words bytes a o some (bench_is_on_text o.command own) (never_read o bytes own) (h.0, subst (λ (text : List ℕ). ReadsAs text h.0) (bench_text_of o bytes own) h.1, h.2)

pub made_replayed : (words : List (String Global)) (bytes : List ℕ) (a : Answer) (o : Options) → asked words ≡ Some o → is_replay o.command ≡ true → length bytes ≤ limit_of o.command
    → ((found : Replayed) × ReplaysAs (program_part bytes) (history_part bytes) found × (made a ≡ due_replayed found)) → IsDue words bytes a.world (made a)
made_replayed words bytes a o some on few h = subst (λ (d : Due). IsDue words bytes a.world d) (sym h.2) (IsDue.replayed o some on few h.1)

-- A command that reads and is no replay is on one program text.
pub on_text_of : (c : Command) → is_read c ≡ true → is_replay c ≡ false → is_on_text c ≡ true
on_text_of Run h k = refl
on_text_of Check h k = refl
on_text_of Replay h k = cc
on_text_of Bench h k = refl

-- A run that was made is one of the words and the bytes.
made_world : (words : List (String Global)) (bytes : List ℕ) (world : Option WorldEnd) (o : Options) → asked words ≡ Some o
    → IfSome world (λ w. (p : Program) × ReadsAs (text_of o bytes) (accepted p) × IsRunOf o p w) → IsWorldOf words bytes world
made_world words bytes None o some h = tt
made_world words bytes (Some w) o some h = record { options = o; asked = some; program = h.0; reads = h.1; run = h.2 }

abbrev WorldFrom : Options → Option WorldEnd → List ℕ → Type 0
WorldFrom o world text = IfSome world (λ w. (p : Program) × ReadsAs text (accepted p) × IsRunOf o p w)

pub read_world : (words : List (String Global)) (bytes : List ℕ) (world : Option WorldEnd) (o : Options) → asked words ≡ Some o → is_read o.command ≡ true
    → IfSome world (λ w. (p : Program) × ReadsAs bytes (accepted p) × IsRunOf o p w) → IsWorldOf words bytes world
read_world words bytes world o some reads h = made_world words bytes world o some (subst (WorldFrom o world) (source_text o bytes reads) h)

pub bench_world : (words : List (String Global)) (bytes : List ℕ) (world : Option WorldEnd) (o : Options) → asked words ≡ Some o → is_read o.command ≡ false
    → IfSome world (λ w. (p : Program) × ReadsAs (bench_text o.kind o.size o.seed) (accepted p) × IsRunOf o p w) → IsWorldOf words bytes world
bench_world words bytes world o some own h = made_world words bytes world o some (subst (WorldFrom o world) (bench_text_of o bytes own) h)

-- ---- what came of it

pub answered : (words : List (String Global)) (bytes : List ℕ) (before now : Option (List ℕ)) (refusal : Refusal) (world : Option WorldEnd) (d : Due)
    → IsDue words bytes world d → Came d before now refusal world → refusal ≢ r.ReadFault → refusal ≢ r.Memory → Answered words bytes before now refusal world
answered words bytes before now r.Memory world d h came a b = absurd (b refl)
answered words bytes before now r.ReadFault world d h came a b = absurd (a refl)
answered words bytes before now r.Nothing world d h came a b = (d, h, came)
answered words bytes before now (r.Refused kind line column) world d h came a b = (d, h, came)
answered words bytes before now r.Usage world d h came a b = (d, h, came)
answered words bytes before now (r.Trap kind task) world d h came a b = (d, h, came)
answered words bytes before now (r.WriteFault written) world d h came a b = (d, h, came)
answered words bytes before now r.TooLong world d h came a b = (d, h, came)
answered words bytes before now (r.NotLegal entry) world d h came a b = (d, h, came)
answered words bytes before now (r.BadLine line) world d h came a b = (d, h, came)
answered words bytes before now (r.EventLimit core clock) world d h came a b = (d, h, came)
answered words bytes before now r.Stalled world d h came a b = (d, h, came)

-- The refusal is the answer's own, unless the sink failed.
pub own : (d : Due) (before now : Option (List ℕ)) (refusal : Refusal) (world : Option WorldEnd) → Came d before now refusal world
    → ((written : ℕ) → refusal ≢ r.WriteFault written) → (refusal ≡ d.refusal) × Appends before now d.text × (is_some world ≡ d.ran)
own d before now (r.WriteFault written) world h other = absurd (other written refl)
own d before now r.Memory world h other = h
own d before now r.ReadFault world h other = h
own d before now r.Nothing world h other = h
own d before now (r.Refused kind line column) world h other = h
own d before now r.Usage world h other = h
own d before now (r.Trap kind task) world h other = h
own d before now r.TooLong world h other = h
own d before now (r.NotLegal entry) world h other = h
own d before now (r.BadLine line) world h other = h
own d before now (r.EventLimit core clock) world h other = h
own d before now r.Stalled world h other = h
