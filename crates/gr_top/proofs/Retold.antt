-- What is written of a run is judged as its history is.
use Rattle.std.proofs.Common.{◌≡◌, ◌∙◌, ℕ, List, Bool, true, false, Option, Some, None, map, sym, ap, subst}
use Rattle.std.specs.Prelude.{IfSome, String}
use Rattle.std.specs.declared.alloc.Global.{Global}
use Rattle.std.specs.Option.{option_map_or}
use Rattle.gr_syntax.specs.declared.syntax.Program.{Program}
use Rattle.gr_lang.specs.declared.action.Entry.{Entry}
use Rattle.gr_accept.specs.Accepted.{IsAccepted}
use Rattle.gr_lang.specs.Histories.{final, legal, complete}
use Rattle.gr_lang.specs.States.{State, opening_state}
use Rattle.gr_cli.specs.Options.{IsWithinLimits}
use Rattle.gr_cli.specs.declared.settings.Options.{Options}
use Rattle.gr_cli.proofs.Limits.{options_are_within}
use Rattle.gr_hist.specs.Naming.{IsNamed, history_text, named, named_history}
use Rattle.gr_hist.specs.Grammar.{IsHeader}
use Rattle.gr_hist.proofs.Namables.{final_of, legal_namable}
use Rattle.gr_replay.specs.Judged.{Judged}
use Rattle.gr_replay.specs.Judged as verdict
use Rattle.gr_replay.specs.Laws.{WrittenNames}
use Rattle.gr_replay.proofs.RoundTrips.{history_back}
use Rattle.gr_replay.proofs.Uniques.{objects_once, tasks_once}
use Rattle.gr_top.specs.Readings.{ReadsAs, ReplaysAs}
use Rattle.gr_top.specs.Due.{accepted, judged}
use Rattle.gr_top.specs.Commands.{asked, text_of}
use Rattle.gr_top.specs.Promises.{IsRunOf, IsRunAsked, IsWorldOf, IsRetold}
use Rattle.gr_engine.specs.declared.ending.WorldEnd.{WorldEnd}
use Rattle.gr_top.proofs.Once.{once}
use Rattle.gr_top.proofs.Namings.{accepted_named, accepted_is, no_heap}

-- What is written names the history again.
names_again : WrittenNames
names_again p N L history S taken absent is_after namable = history_back p (objects_once p taken) (tasks_once p taken) absent N L history (opening_state p L) S is_after namable

-- A legal history is judged legal, and complete where it is.
legal_judged : (p : Program) (N L : ℕ) (h : List Entry) → IsAccepted p → IsNamed p → legal p N L h ≡ true → Judged p N L (map (named p) h) (verdict.legal (complete p N L h))
legal_judged p N L h taken names is_legal =
    let f = final_of (final p N L h) is_legal in
    let whole : complete p N L h ≡ f.0.passed = ap (λ (o : Option State). option_map_or (λ S. S.passed) o false) f.1 in
    subst (λ (b : Bool). Judged p N L (map (named p) h) (verdict.legal b)) (sym whole)
    (Judged.is_legal h f.0 (names_again p N L h f.0 taken (no_heap p names) f.1 (legal_namable p N L h taken names is_legal)) f.1)

header_of : (o : Options) → IsWithinLimits o → IsHeader o.cores o.steps
header_of o within = record { some_core = within.few_cores.0; most_cores = within.few_cores.1; some_step = within.few_steps.0; most_steps = within.few_steps.1 }

run_retold : (o : Options) (p : Program) (text : List ℕ) (world : WorldEnd) → ReadsAs text (accepted p) → o.history ≡ true → IsWithinLimits o → IsRunOf o p world
    → ReplaysAs text (history_text p o.cores o.steps world.history) (judged (verdict.legal (complete p o.cores o.steps world.history)))
run_retold o p text world reads asks within run =
    ReplaysAs.of_history {h = named_history p o.cores o.steps world.history} reads (run.told asks (header_of o within)) (legal_judged p o.cores o.steps world.history (accepted_is text p reads) (accepted_named text p reads) run.legal)

same_options : (words : List (String Global)) (o q : Options) → asked words ≡ Some o → asked words ≡ Some q → o ≡ q
same_options words o q x y = let k : Some o ≡ Some q = sym x ∙ y in cc

pub asked_retold : (words : List (String Global)) (bytes : List ℕ) (world : WorldEnd) → IsRunAsked words bytes world → (o : Options) (p : Program) → asked words ≡ Some o
    → ReadsAs (text_of o bytes) (accepted p) → o.history ≡ true
    → ReplaysAs (text_of o bytes) (history_text p o.cores o.steps world.history) (judged (verdict.legal (complete p o.cores o.steps world.history)))
asked_retold words bytes world h o p some reads asks =
    let same_o : h.options ≡ o = same_options words h.options o h.asked some in
    let q : accepted h.program ≡ accepted p =
    once (text_of o bytes) (accepted h.program) (accepted p) (subst (λ (x : Options). ReadsAs (text_of x bytes) (accepted h.program)) same_o h.reads) reads in
    let same : h.program ≡ p = cc in
    let run : IsRunOf o p world = subst (λ (x : Program). IsRunOf o x world) same (subst (λ (x : Options). IsRunOf x h.program world) same_o h.run) in
    run_retold o p (text_of o bytes) world reads asks (options_are_within _ o some) run

-- The same of a call: of the world that it keeps, where its source tells what it held.
pub world_retold : (words : List (String Global)) (held : Option (List ℕ)) (world made : Option WorldEnd) → world ≡ made → IfSome held (λ bytes. IsWorldOf words bytes made)
    → IfSome held (λ bytes. IsRetold words bytes world)
world_retold words None world made same h = tt
world_retold words (Some bytes) world made same h = by world (subst (IsWorldOf words bytes) (sym same) h)
  where
    by : (kept : Option WorldEnd) → IsWorldOf words bytes kept → IsRetold words bytes kept
    by None k = tt
    by (Some w) k = asked_retold words bytes w k
