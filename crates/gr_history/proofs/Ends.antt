-- What the cores of a run say of its end is what the history says of it.
use Rattle.std.proofs.Common.{◌≡◌, ◌<◌, ℕ, true, false, List, length, slice_index_or, Some, None, ap, ◌∙◌, sym, refl, subst, arith, is_some}
use Rattle.std.specs.Prelude.{nat_le}
use Rattle.gr_mail.proofs.Grids.{some_item}
use Rattle.gr_lang.specs.declared.action.Entry.{Entry}
use Rattle.gr_lang.specs.States.{State}
use Rattle.gr_machine.specs.declared.core_end.CoreEnd.{CoreEnd}
use Rattle.gr_machine.specs.GlobalRuns as runs
use Rattle.gr_machine.specs.LocalRuns.{End, end_in}
use Rattle.gr_machine.specs.Machines.{Machine}
use Rattle.gr_machine.specs.Nets.{world_in}
use Rattle.gr_machine.specs.States as states
use Rattle.gr_core.specs.declared.cores.Core.{Core}
use Rattle.gr_core.specs.Cores.{run_of}
use Rattle.gr_core.specs.Runs.{end_of}
use Rattle.gr_memory.specs.declared.contents.Content.{Content}
use Rattle.gr_memory.specs.Contents.{contents_of}
use Rattle.gr_report.specs.Ends.{first_limit}
use Rattle.gr_report.specs.Texts.{first_trap}
use Rattle.gr_round.specs.declared.outcomes.Outcome.{Outcome}
use Rattle.gr_round.specs.declared.outcomes.Outcome.TheVariants as how
use Rattle.gr_round.specs.Outcomes.{Concluded, SomeIs, NoneIs, IsFirstSpent, has_passed, is_trapped, is_spent}
use Rattle.gr_world.specs.Worlds.{AreCores, AreEndsOf}
use Rattle.gr_stands.specs.Worlds.{Given, machine_in, bodies}
use Rattle.gr_stands.specs.Stands.{IsSound}
use Rattle.gr_stands_stops.specs.Stops.{StopsTell}
use Rattle.gr_history.specs.Agreeing.{Agrees}
use Rattle.gr_history.specs.EndWords.{EndStands, HaveStates}
use Rattle.gr_history.proofs.Limits.{limit_first, limit_none}

module _ (given : Given) (cores : List Core) (ends : List CoreEnd) (entries : List Entry) (world : runs.World) (state : State)
    (sound : IsSound given) (are : AreCores (machine_in given) cores) (of : AreEndsOf cores ends) (had : HaveStates cores world)
    (stands : EndStands given world state) (stops : StopsTell given (world_in world) entries) where
  first_there : 0 < length cores
  first_there = omega (arith, sound.cores, are.len)

  passes_at : (core : ℕ) (default : Core) → core < length cores → (bodies (world_in world) core).stops.passed ≡ has_passed (slice_index_or cores core default)
  passes_at core default here = ap (λ (it : states.Core). it.body.stops.passed) (had core default here)

  traps_at : (core : ℕ) (default : Core) → core < length cores → (bodies (world_in world) core).stops.trapped ≡ is_trapped (slice_index_or cores core default)
  traps_at core default here = ap (λ (it : states.Core). it.body.stops.trapped) (had core default here)

  none_passed : NoneIs has_passed cores → state.passed ≡ false
  none_passed none = let default = some_item cores 0 first_there in sym stands.passed ∙ passes_at 0 default first_there ∙ none 0 default first_there

  pub some_passed : SomeIs has_passed cores → state.passed ≡ true
  some_passed (core, here, by) =
      let default = some_item cores core here in
      let there : (bodies (world_in world) core).stops.passed ≡ true = passes_at core default here ∙ by default in
      let zero_is : core ≡ 0 = stops.zero core (omega (arith, here, are.len)) there in
      sym stands.passed ∙ subst (λ (one : ℕ). (bodies (world_in world) one).stops.passed ≡ true) zero_is there

  some_trapped : SomeIs is_trapped cores → is_some (first_trap entries) ≡ true
  some_trapped (core, here, by) =
      let default = some_item cores core here in stops.trapped core (omega (arith, here, are.len)) (traps_at core default here ∙ by default)

  none_trapped : NoneIs is_trapped cores → first_trap entries ≡ None
  none_trapped none = stops.untrapped (λ core here.
      let within : core < length cores = omega (arith, here, are.len) in
      let default = some_item cores core within in traps_at core default within ∙ none core default within)

  end_at : (core : ℕ) (default : Core) (none : CoreEnd) → core < length cores
      → end_in (slice_index_or ends core none) ≡ end_of (run_of (slice_index_or cores core default))
  end_at core default none here = (of.each core default none here).is

  clock_at : (core : ℕ) (default : Core) (none : CoreEnd) → core < length cores
      → (slice_index_or ends core none).clock ≡ (run_of (slice_index_or cores core default)).seen.core.clock
  clock_at core default none here = ap (λ (it : End). it.clock) (end_at core default none here)

  number_at : (core : ℕ) (default : Core) (none : CoreEnd) → core < length cores → (slice_index_or ends core none).core ≡ core
  number_at core default none here = ap (λ (it : End). it.core) (end_at core default none here) ∙ are.number core default here

  spent_at : (core : ℕ) (default : Core) (none : CoreEnd) → core < length cores
      → nat_le given.setup.events (slice_index_or ends core none).clock ≡ is_spent (slice_index_or cores core default)
  spent_at core default none here =
      ap (λ (clock : ℕ). nat_le given.setup.events clock) (clock_at core default none here)
      ∙ ap (λ (it : Machine). nat_le it.setup.events (run_of (slice_index_or cores core default)).seen.core.clock) (sym (are.machine core default here))

  first_spent : (core clock : ℕ) → IsFirstSpent core clock cores → first_limit given.setup.events ends ≡ Some (record { core = core; clock = clock })
  first_spent core clock spent =
      let here = spent.within in
      let within : core < length ends = omega (arith, here, of.len) in
      let default = some_item cores core here in
      let none = some_item ends core within in
      limit_first given.setup.events ends core none within (spent_at core default none here ∙ spent.spent default)
      (λ other before. spent_at other default none (omega (arith, before, here)) ∙ spent.first other default before)
      ∙ ap (λ (number : ℕ). Some (record { core = number; clock = (slice_index_or ends core none).clock })) (number_at core default none here)
      ∙ ap (λ (time : ℕ). Some (record { core = core; clock = time })) (clock_at core default none here ∙ spent.clock default)

  none_spent : NoneIs is_spent cores → first_limit given.setup.events ends ≡ None
  none_spent free =
      let default = some_item cores 0 first_there in
      let none = some_item ends 0 (omega (arith, first_there, of.len)) in
      limit_none given.setup.events ends none (λ other before.
      let here : other < length cores = omega (arith, before, of.len) in spent_at other default none here ∙ free other default here)

  pub agree : (outcome : Outcome) (gathered : List Content) → Concluded outcome cores → (outcome ≡ how.Ended → gathered ≡ contents_of state.objects)
      → Agrees outcome gathered state (first_trap entries) (first_limit given.setup.events ends)
  agree how.Ended gathered some held = (some_passed some, held refl)
  agree how.Trapped gathered some held = (none_passed some.0, some_trapped some.1)
  agree (how.EventLimit core clock) gathered some held = (none_passed some.0, none_trapped some.1, first_spent core clock some.2)
  agree how.Stalled gathered some held = (none_passed some.going.passed, none_trapped some.going.trapped, none_spent some.going.spent)
