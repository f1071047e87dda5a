-- How a run ended, where its cores and its history say the same of that.
use Rattle.std.proofs.Common.{◌≡◌, Bool, true, false, List, [], Option, Some, None, refl, sym, ap, ◌∙◌, subst, is_some}
use Rattle.std.specs.Prelude.{if◌then◌else◌}
use Rattle.gr_syntax.specs.declared.syntax.Program.{Program}
use Rattle.gr_lang.specs.declared.action.Entry.{Entry}
use Rattle.gr_lang.specs.Histories.{legal}
use Rattle.gr_lang.specs.States.{State}
use Rattle.gr_machine.specs.declared.core_end.CoreEnd.{CoreEnd}
use Rattle.gr_machine.specs.declared.setup.Setup.{Setup}
use Rattle.gr_memory.specs.declared.contents.Content.{Content}
use Rattle.gr_memory.specs.Contents.{contents_of}
use Rattle.gr_posts.specs.Posts.{IsSetup}
use Rattle.gr_report.specs.Ends.{first_limit}
use Rattle.gr_report.specs.Texts.{first_trap}
use Rattle.gr_report.specs.declared.ends.LimitAt.{LimitAt}
use Rattle.gr_report.specs.declared.texts.TrapAt.{TrapAt}
use Rattle.gr_round.specs.declared.outcomes.Outcome.{Outcome}
use Rattle.gr_round.specs.declared.outcomes.Outcome.TheVariants as how
use Rattle.gr_runnable.specs.Runnable.{IsRunnable}
use Rattle.gr_history.specs.Agreeing.{Agrees, EndsAgree}
use Rattle.gr_history.specs.Laws.{RunsAgree}
use Rattle.gr_engine.specs.declared.ending.Ending.{Ending}
use Rattle.gr_engine.specs.declared.ending.Ending.TheVariants as ending
use Rattle.gr_engine.specs.declared.ending.Ran.{Ran}
use Rattle.gr_engine.specs.declared.ending.WorldEnd.{WorldEnd}
use Rattle.gr_engine.specs.Ends.{Ended, IsEnding, complete, ended_as, ended_at, ended_open}
use Rattle.gr_engine.specs.EndingWords.{IsRunTo, told_as}

-- The law, of a run that was made.
pub run_agrees : RunsAgree → (setup : Setup) (p : Program) (outcome : Outcome) (gathered : List Content) (world : WorldEnd) → IsSetup setup → IsRunnable p
    → IsRunTo setup p outcome gathered world → EndsAgree setup p outcome gathered world.history world.cores
run_agrees law setup p outcome gathered world within runnable run =
    law setup p outcome gathered run.cores world.cores world.history within runnable run.are run.ends run.run.ends run.run.history run.concluded run.contents

-- What is told of it is its end by its history.
same_some : {A : Type 0} (x y : A) → Some x ≡ Some y → x ≡ y
same_some x y e = cc

no_some : {A : Type 0} (x : A) → None ≡ Some x → ⊥
no_some x e = cc

by_passed : (what : Ending) (objects other : Ended) (passed b : Bool) → passed ≡ b → IsEnding what (if b then objects else other) → IsEnding what (if passed then objects else other)
by_passed what objects other passed b e h = subst (λ (x : Bool). IsEnding what (if x then objects else other)) (sym e) h

complete_ends : (what : Ending) (gathered : List Content) (state : State) → ending.Complete gathered ≡ what → gathered ≡ contents_of state.objects → IsEnding what (complete state.objects)
complete_ends what gathered state is held = subst (λ (x : Ending). IsEnding x (complete state.objects)) is held

trapped_ends : (what : Ending) (trap : Option TrapAt) (spent : Option LimitAt) → is_some trap ≡ true → told_as how.Trapped [] trap ≡ Some what → IsEnding what (ended_open trap spent)
trapped_ends what None spent some is = absurd (no_some what is)
trapped_ends what (Some trap) spent some is = subst (λ (x : Ending). IsEnding x (ended_open (Some trap) spent)) (same_some (ending.Trapped trap) what is) refl

open_ends : (what : Ending) (trap : Option TrapAt) (spent at : Option LimitAt) → trap ≡ None → spent ≡ at → IsEnding what (ended_open None at) → IsEnding what (ended_open trap spent)
open_ends what trap spent at none is h =
    subst (λ (x : Option TrapAt). IsEnding what (ended_open x spent)) (sym none) (subst (λ (x : Option LimitAt). IsEnding what (ended_open None x)) (sym is) h)

module _ (state : State) (trap : Option TrapAt) (spent : Option LimitAt) (what : Ending) where
  state_ends : (outcome : Outcome) (gathered : List Content) → Agrees outcome gathered state trap spent → told_as outcome gathered trap ≡ Some what
      → IsEnding what (ended_at (Some state) (ended_open trap spent))
  state_ends how.Ended gathered h is =
      by_passed what (complete state.objects) (ended_open trap spent) state.passed true h.0 (complete_ends what gathered state (same_some (ending.Complete gathered) what is) h.1)
  state_ends how.Trapped gathered h is = by_passed what (complete state.objects) (ended_open trap spent) state.passed false h.0 (trapped_ends what trap spent h.1 is)
  state_ends (how.EventLimit core clock) gathered h is =
      let at : LimitAt = record { core = core; clock = clock } in
      by_passed what (complete state.objects) (ended_open trap spent) state.passed false h.0
      (open_ends what trap spent (Some at) h.1 h.2 (subst (λ (x : Ending). IsEnding x (ended_open None (Some at))) (same_some (ending.Limited at) what is) refl))
  state_ends how.Stalled gathered h is =
      by_passed what (complete state.objects) (ended_open trap spent) state.passed false h.0
      (open_ends what trap spent None h.1 h.2 (subst (λ (x : Ending). IsEnding x (ended_open None None)) (same_some ending.Stalled what is) tt))

agreed_ends : (setup : Setup) (p : Program) (outcome : Outcome) (gathered : List Content) (world : WorldEnd) (trap : Option TrapAt) (what : Ending)
    → EndsAgree setup p outcome gathered world.history world.cores → trap ≡ first_trap world.history → told_as outcome gathered trap ≡ Some what → IsEnding what (ended_as setup p world)
unfolding ended_as
agreed_ends setup p outcome gathered world trap what agree first is =
    subst (λ (o : Option State). IsEnding what (ended_at o (ended_open (first_trap world.history) (first_limit setup.events world.cores)))) (sym agree.leads)
    (state_ends agree.state (first_trap world.history) (first_limit setup.events world.cores) what outcome gathered agree.agrees
    (ap (λ (x : Option TrapAt). told_as outcome gathered x) (sym first) ∙ is))

-- Its history is legal, and has a trap where a task is trapped; and it is told as stalled only where it has.
agreed_legal : (setup : Setup) (p : Program) (outcome : Outcome) (gathered : List Content) (history : List Entry) (cores : List CoreEnd)
    → EndsAgree setup p outcome gathered history cores → legal p setup.cores setup.steps history ≡ true
agreed_legal setup p outcome gathered history cores agree = ap (λ (o : Option State). is_some o) agree.leads

trap_there : (state : State) (outcome : Outcome) (gathered : List Content) (trap : Option TrapAt) (spent : Option LimitAt) → Agrees outcome gathered state trap spent → outcome ≡ how.Trapped → is_some trap ≡ true
trap_there state how.Trapped gathered trap spent h is = h.1
trap_there state how.Ended gathered trap spent h is = cc
trap_there state (how.EventLimit core clock) gathered trap spent h is = cc
trap_there state how.Stalled gathered trap spent h is = cc

agreed_trap : (setup : Setup) (p : Program) (outcome : Outcome) (gathered : List Content) (history : List Entry) (cores : List CoreEnd) (trap : Option TrapAt)
    → EndsAgree setup p outcome gathered history cores → trap ≡ first_trap history → outcome ≡ how.Trapped → is_some trap ≡ true
agreed_trap setup p outcome gathered history cores trap agree first is =
    ap (λ (x : Option TrapAt). is_some x) first
    ∙ trap_there agree.state outcome gathered (first_trap history) (first_limit setup.events cores) agree.agrees is

pub told_stalled : (outcome : Outcome) (gathered : List Content) (trap : Option TrapAt) (what : Ending) → told_as outcome gathered trap ≡ Some what → what ≡ ending.Stalled → outcome ≡ how.Stalled
told_stalled how.Stalled gathered trap what is e = refl
told_stalled how.Ended gathered trap what is e = let k : ending.Complete gathered ≡ ending.Stalled = same_some (ending.Complete gathered) what is ∙ e in cc
told_stalled (how.EventLimit core clock) gathered trap what is e =
    let k : ending.Limited (record { core = core; clock = clock }) ≡ ending.Stalled = same_some (ending.Limited (record { core = core; clock = clock })) what is ∙ e in cc
told_stalled how.Trapped gathered None what is e = absurd (no_some what is)
told_stalled how.Trapped gathered (Some trap) what is e = let k : ending.Trapped trap ≡ ending.Stalled = same_some (ending.Trapped trap) what is ∙ e in cc

-- So it is of what is told of a run.
module _ (setup : Setup) (p : Program) (outcome : Outcome) (gathered : List Content) (world : WorldEnd)
    (agree : EndsAgree setup p outcome gathered world.history world.cores) where
  pub trap_told : outcome ≡ how.Trapped → is_some (first_trap world.history) ≡ true
  trap_told = agreed_trap setup p outcome gathered world.history world.cores (first_trap world.history) agree refl

  module _ (ran : Ran) (same : ran.world ≡ world) (told : told_as outcome gathered (first_trap world.history) ≡ Some ran.ending) where
    pub legal_told : legal p setup.cores setup.steps ran.world.history ≡ true
    legal_told = ap (λ (w : WorldEnd). legal p setup.cores setup.steps w.history) same ∙ agreed_legal setup p outcome gathered world.history world.cores agree

    pub end_told : IsEnding ran.ending (ended_as setup p world)
    end_told = agreed_ends setup p outcome gathered world (first_trap world.history) ran.ending agree refl told

    pub ends_told : IsEnding ran.ending (ended_as setup p ran.world)
    ends_told = subst (λ (w : WorldEnd). IsEnding ran.ending (ended_as setup p w)) (sym same) end_told
