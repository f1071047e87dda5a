-- What a core has come to is what it has in the world to which the merge of all journals leads: its journal leads to one state alone.
use Rattle.std.proofs.Common.{◌≡◌, ◌<◌, ℕ, List, length, map, slice_index_or, Option, Some, None, ap, ◌∙◌, sym, refl, subst, arith}
use Rattle.std.specs.Option.{option_map}
use Rattle.std.proofs.lemmas.Simd.{map-map}
use Rattle.gr_mail.proofs.Grids.{some_item}
use Rattle.gr_lang.specs.declared.action.Entry.{Entry}
use Rattle.gr_merge.specs.LocalRuns.{ended}
use Rattle.gr_merge.specs.Merges.{merge}
use Rattle.gr_machine.specs.declared.core_end.CoreEnd.{CoreEnd}
use Rattle.gr_machine.specs.declared.journal.Stamped.{Stamped}
use Rattle.gr_machine.specs.States as states
use Rattle.gr_machine.specs.GlobalRuns as runs
use Rattle.gr_machine.specs.GlobalRuns.{global_run}
use Rattle.gr_machine.specs.Histories.{history_of}
use Rattle.gr_machine.specs.Laws.{RunsMerge, UnusedCoresRun}
use Rattle.gr_machine.specs.LocalRuns.{End, IsLocalRun, end_in, local_run}
use Rattle.gr_machine.specs.Machines.{Machine}
use Rattle.gr_core.specs.declared.cores.Core.{Core}
use Rattle.gr_core.specs.Cores.{run_of}
use Rattle.gr_core.specs.Runs.{end_of}
use Rattle.gr_world.specs.Worlds.{AreCores, AreEnds, AreEndsOf, IsHistoryOf, slot_of_main, steps_of}
use Rattle.gr_world.proofs.Runs.{an_end, within_is, numbered, runs as local_runs, left, matched, slot_is}
use Rattle.gr_history.specs.EndWords.{LeadsTo, HaveStates}

some_same : {X : Type 0} (x y : X) → Some x ≡ Some y → x ≡ y
some_same x y same = cc

-- A journal leads to one state.
one_last : (machine : Machine) (end other : End) (local : IsLocalRun machine end) (core : states.Core) → end ≡ other
    → local_run machine other.first other.core other.received other.journal
    ≡ Some (ended (record { core = core; counts = other.counts }) other.sent other.marks)
    → local.last ≡ core
one_last machine end other local core same run =
    let again : local_run machine end.first end.core end.received end.journal ≡ Some (ended (record { core = core; counts = end.counts }) end.sent end.marks) =
    subst (λ (e : End). local_run machine e.first e.core e.received e.journal
    ≡ Some (ended (record { core = core; counts = e.counts }) e.sent e.marks)) (sym same) run in
    ap (λ came. came.state.core) (some_same _ _ (sym local.run ∙ again))

module _ (unused : UnusedCoresRun) (merges : RunsMerge) (machine : Machine) (cores : List Core) (ends : List CoreEnd)
    (are : AreCores machine cores) (of : AreEndsOf cores ends) (fit : AreEnds machine ends) where
  abbrev lasts : ℕ → states.Core
  lasts core = (local_runs unused machine ends fit core).last

  -- The merge leads to the last states of the local runs,
  merged : (world : runs.World) → global_run machine (slot_of_main ends) (steps_of ends) ≡ Some world → (core : ℕ) → (world.states core).core ≡ lasts core
  merged world run core =
      let journals : map (λ (end : End). end.journal) (map (λ (end : CoreEnd). end_in end) ends) ≡ map (λ (end : CoreEnd). end.journal) ends =
      map-map (λ (end : End). end.journal) (λ (end : CoreEnd). end_in end) ends in
      let led = merges machine (map (λ (end : CoreEnd). end_in end) ends) (left unused machine ends fit) (numbered unused machine ends fit)
      (local_runs unused machine ends fit) (matched unused machine ends fit) in
      let goes : global_run machine (an_end ends 0).first
      (merge (λ (entry : Stamped). entry.clock) (map (λ (end : End). end.journal) (map (λ (end : CoreEnd). end_in end) ends))) ≡ Some world =
      ap (λ lists. global_run machine (an_end ends 0).first (merge (λ (entry : Stamped). entry.clock) lists)) journals
      ∙ ap (λ slot. global_run machine slot (steps_of ends)) (sym (slot_is ends)) ∙ run in
      ap (λ (it : runs.World). (it.states core).core) (some_same _ _ (sym goes ∙ led))

  -- and these are what the cores have come to.
  at_core : (core : ℕ) (default : Core) (none : CoreEnd) → core < length cores → lasts core ≡ (run_of (slice_index_or cores core default)).seen.core
  at_core core default none here =
      let it = slice_index_or cores core default in
      one_last machine (an_end ends core) (end_of (run_of it)) (local_runs unused machine ends fit core) (run_of it).seen.core
      (within_is unused machine ends fit core none (omega (arith, here, of.len)) ∙ (of.each core default none here).is)
      (subst (λ (m : Machine). local_run m (run_of it).first (run_of it).seen.me (run_of it).received (run_of it).journal
      ≡ Some (ended (record { core = (run_of it).seen.core; counts = (run_of it).seen.counts }) (run_of it).sent (run_of it).seen.marks))
      (are.machine core default here) it.runs.runs)

  pub have_states : (world : runs.World) → global_run machine (slot_of_main ends) (steps_of ends) ≡ Some world → HaveStates cores world
  have_states world run core default here = merged world run core ∙ at_core core default (some_item ends core (omega (arith, here, of.len))) here

-- A history that is told is that of a world.
by_told : (machine : Machine) (ends : List CoreEnd) (entries : List Entry) (run : Option runs.World)
    → global_run machine (slot_of_main ends) (steps_of ends) ≡ run
    → option_map (λ (world : runs.World). history_of world.marks) run ≡ Some entries → (world : runs.World) × LeadsTo machine ends entries world
by_told machine ends entries None run told = absurd (cc)
by_told machine ends entries (Some world) run told = (world, record { run = run; told = sym (some_same _ _ told) })

pub world_led : (machine : Machine) (ends : List CoreEnd) (entries : List Entry) → IsHistoryOf machine ends entries
    → (world : runs.World) × LeadsTo machine ends entries world
world_led machine ends entries told = by_told machine ends entries (global_run machine (slot_of_main ends) (steps_of ends)) refl told
