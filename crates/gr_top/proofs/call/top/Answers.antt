use Rattle.std.proofs.Common.{◌∙◌, ℕ, inl, List, sym, subst}
use Rattle.gr_hist.proofs.Readings.{reads_once}
use Rattle.gr_replay.specs.Laws.{JudgedOnce}
use Rattle.gr_replay.proofs.Verdicts.{said}
use Rattle.gr_top.specs.Readings.{IsDue}
use Rattle.gr_top.specs.Promises.{IsWorldOf, AnswersChecks, AnswersRuns, AnswersReplays, AnswersRefused, IsRunStatus, RanWell, RefusedWhere, NotLegalWhere, BadLineWhere}
use Rattle.gr_top.specs.AnswerView.{made}
use Rattle.gr_top.proofs.Dues.{if_some, of_some}
use Rattle.gr_top.proofs.Calls.{answer_told, usage_of, too_long_of, refused_of, entry_of, line_of, headline_of, check_of, run_of, replay_of, refuse_of}
use Rattle.gr_top.proofs.Retold.{world_retold}
use Rattle.gr_top.proofs.Counted.{reads_quiet}
use Rattle.gr_top.proofs.call.top.Goals as goal

judged_once : JudgedOnce
judged_once = λ p N L lines v w is_v is_w. said p N L lines v is_v ∙ sym (said p N L lines w is_w)

pub returns-in-Ok-clause-answer : goal.returns-in-Ok-clause-answer
returns-in-Ok-clause-answer g c =
    if_some _ (λ bytes e. answer_told c.args.words.now c.in-Ok.answer _ _ c.deliver.result.refusal c.deliver.result.world c.deliver.ensures.world c.deliver.ensures.came bytes
    c.deliver.ensures.not_read_fault c.deliver.ensures.not_memory (of_some (λ (bs : List ℕ). IsDue c.args.words.now bs c.in-Ok.answer.world (made c.in-Ok.answer)) _ bytes e c.in-Ok.ensures.due))

pub returns-in-Ok-clause-some_bytes : goal.returns-in-Ok-clause-some_bytes
returns-in-Ok-clause-some_bytes g c = λ given.
    let b = c.in-Ok.ensures.some_bytes in (
      b.0,
      b.1,
      answer_told c.args.words.now c.in-Ok.answer _ _ c.deliver.result.refusal c.deliver.result.world c.deliver.ensures.world c.deliver.ensures.came b.0
          c.deliver.ensures.not_read_fault c.deliver.ensures.not_memory b.2,
      subst (IsWorldOf c.args.words.now b.0) (sym c.deliver.ensures.world) b.3,
    )

pub returns-in-Ok-clause-headline : goal.returns-in-Ok-clause-headline
returns-in-Ok-clause-headline g c = λ s.
    if_some {A = List ℕ} {P = (λ bytes. RanWell c.args.words.now bytes _ _ c.deliver.result.world)} _ (λ bytes e o some run. headline_of c.args.words.now c.in-Ok.answer _ _ c.deliver.result.refusal c.deliver.result.world c.deliver.ensures.world c.deliver.ensures.came bytes o
    (of_some (λ (bs : List ℕ). IsDue c.args.words.now bs c.in-Ok.answer.world (made c.in-Ok.answer)) _ bytes e c.in-Ok.ensures.due)
    (of_some (λ (bs : List ℕ). IsWorldOf c.args.words.now bs c.in-Ok.answer.world) _ bytes e c.in-Ok.ensures.world) (sym c.deliver.ensures.status ∙ s) some run)

pub returns-in-Ok-clause-retold : goal.returns-in-Ok-clause-retold
returns-in-Ok-clause-retold g c = world_retold c.args.words.now _ c.deliver.result.world c.in-Ok.answer.world c.deliver.ensures.world c.in-Ok.ensures.world

pub returns-in-Ok-clause-checks : goal.returns-in-Ok-clause-checks
returns-in-Ok-clause-checks g c =
    if_some {A = List ℕ} {P = (AnswersChecks c.args.words.now c.deliver.result.status _ _)} _ (λ bytes e o p few reads some run quiet silent.
    inl (c.deliver.ensures.status ∙ check_of c.args.words.now c.in-Ok.answer _ _ c.deliver.result.refusal c.deliver.result.world c.deliver.ensures.world c.deliver.ensures.came reads_once judged_once bytes o p
    (of_some (λ (bs : List ℕ). IsDue c.args.words.now bs c.in-Ok.answer.world (made c.in-Ok.answer)) _ bytes e c.in-Ok.ensures.due) few reads some run (λ written k. silent (c.deliver.ensures.fault written k))))

pub returns-in-Ok-clause-runs : goal.returns-in-Ok-clause-runs
returns-in-Ok-clause-runs g c =
    if_some {A = List ℕ} {P = (AnswersRuns c.args.words.now c.deliver.result.status _ _)} _ (λ bytes e o p fits reads some run quiet silent.
    subst IsRunStatus (sym c.deliver.ensures.status) (run_of c.args.words.now c.in-Ok.answer _ _ c.deliver.result.refusal c.deliver.result.world c.deliver.ensures.world c.deliver.ensures.came reads_once judged_once bytes o p
    (of_some (λ (bs : List ℕ). IsDue c.args.words.now bs c.in-Ok.answer.world (made c.in-Ok.answer)) _ bytes e c.in-Ok.ensures.due) fits reads some run (λ written k. silent (c.deliver.ensures.fault written k))))

pub returns-in-Ok-clause-replays : goal.returns-in-Ok-clause-replays
returns-in-Ok-clause-replays g c =
    if_some {A = List ℕ} {P = (AnswersReplays c.args.words.now c.deliver.result.status _ _)} _ (λ bytes e o b few found some run quiet silent.
    inl (c.deliver.ensures.status ∙ replay_of c.args.words.now c.in-Ok.answer _ _ c.deliver.result.refusal c.deliver.result.world c.deliver.ensures.world c.deliver.ensures.came reads_once judged_once bytes o b
    (of_some (λ (bs : List ℕ). IsDue c.args.words.now bs c.in-Ok.answer.world (made c.in-Ok.answer)) _ bytes e c.in-Ok.ensures.due) few found some run (λ written k. silent (c.deliver.ensures.fault written k))))

pub returns-in-Ok-clause-refuses : goal.returns-in-Ok-clause-refuses
returns-in-Ok-clause-refuses g c =
    if_some {A = List ℕ} {P = (AnswersRefused c.args.words.now c.deliver.result.refusal _ _)} _ (λ bytes e o f few reads some on quiet silent.
    inl (refuse_of c.args.words.now c.in-Ok.answer _ _ c.deliver.result.refusal c.deliver.result.world c.deliver.ensures.world c.deliver.ensures.came reads_once judged_once bytes o f
    (of_some (λ (bs : List ℕ). IsDue c.args.words.now bs c.in-Ok.answer.world (made c.in-Ok.answer)) _ bytes e c.in-Ok.ensures.due) few reads some on (λ written k. silent (c.deliver.ensures.fault written k))))

pub returns-in-Ok-clause-read_fault : goal.returns-in-Ok-clause-read_fault
returns-in-Ok-clause-read_fault g c = reads_quiet c.deliver.result.refusal _ _ c.deliver.ensures.not_read_fault c.in-Ok.ensures.counted

pub returns-in-Ok-clause-usage : goal.returns-in-Ok-clause-usage
returns-in-Ok-clause-usage g c = λ u.
    usage_of c.args.words.now c.in-Ok.answer _ _ c.deliver.result.refusal c.deliver.result.world c.deliver.ensures.world c.deliver.ensures.came c.in-Ok.ensures.some_bytes.0 c.in-Ok.ensures.some_bytes.2 u

pub returns-in-Ok-clause-too_long : goal.returns-in-Ok-clause-too_long
returns-in-Ok-clause-too_long g c = λ u.
    if_some _ (λ bytes e. too_long_of c.args.words.now c.in-Ok.answer _ _ c.deliver.result.refusal c.deliver.result.world c.deliver.ensures.world c.deliver.ensures.came bytes
    (of_some (λ (bs : List ℕ). IsDue c.args.words.now bs c.in-Ok.answer.world (made c.in-Ok.answer)) _ bytes e c.in-Ok.ensures.due) u)

pub returns-in-Ok-clause-refused : goal.returns-in-Ok-clause-refused
returns-in-Ok-clause-refused g c =
    if_some {A = List ℕ} {P = (RefusedWhere c.args.words.now c.deliver.result.refusal)} _ (λ bytes e kind line column u. refused_of c.args.words.now c.in-Ok.answer _ _ c.deliver.result.refusal c.deliver.result.world c.deliver.ensures.world c.deliver.ensures.came bytes
    (of_some (λ (bs : List ℕ). IsDue c.args.words.now bs c.in-Ok.answer.world (made c.in-Ok.answer)) _ bytes e c.in-Ok.ensures.due) kind line column u)

pub returns-in-Ok-clause-not_legal : goal.returns-in-Ok-clause-not_legal
returns-in-Ok-clause-not_legal g c =
    if_some {A = List ℕ} {P = (NotLegalWhere c.deliver.result.refusal)} _ (λ bytes e entry u. entry_of c.args.words.now c.in-Ok.answer _ _ c.deliver.result.refusal c.deliver.result.world c.deliver.ensures.world c.deliver.ensures.came bytes
    (of_some (λ (bs : List ℕ). IsDue c.args.words.now bs c.in-Ok.answer.world (made c.in-Ok.answer)) _ bytes e c.in-Ok.ensures.due) entry u)

pub returns-in-Ok-clause-bad_line : goal.returns-in-Ok-clause-bad_line
returns-in-Ok-clause-bad_line g c =
    if_some {A = List ℕ} {P = (BadLineWhere c.deliver.result.refusal)} _ (λ bytes e line u. line_of c.args.words.now c.in-Ok.answer _ _ c.deliver.result.refusal c.deliver.result.world c.deliver.ensures.world c.deliver.ensures.came bytes
    (of_some (λ (bs : List ℕ). IsDue c.args.words.now bs c.in-Ok.answer.world (made c.in-Ok.answer)) _ bytes e c.in-Ok.ensures.due) line u)
