use Rattle.std.proofs.Common.{◌≡◌, ◌∙◌, ap}
use Rattle.gr_world.specs.Worlds.{AreOfOneRun}
use Rattle.gr_round.specs.RoundWords.{clocks}
use Rattle.gr_round.proofs.Advancing.{cores_last, goes_further, goes_without, one_run, one_run_sliced, went_last}
use Rattle.gr_round.proofs.Stalling.{met_last, stalled}
use Rattle.gr_round.proofs.Sums.{no_more}
use Rattle.gr_round.proofs.running.run.Goals as goal

pub returns-then-after-before-clause-cores : goal.returns-then-after-before-clause-cores
returns-then-after-before-clause-cores g c =
    cores_last c.args.slice c.args.cores.items c.rounds.cores.items c.in_ok-next.next.items c.rounds.before c.rounds.invariant c.in_ok-next.ensures

pub returns-then-after-before-clause-went : goal.returns-then-after-before-clause-went
returns-then-after-before-clause-went g c =
    went_last c.args.slice c.args.cores.items c.rounds.cores.items c.in_ok-next.next.items c.rounds.before c.rounds.invariant c.in_ok-next.ensures

pub returns-then-after-before-clause-met : goal.returns-then-after-before-clause-met
returns-then-after-before-clause-met g c =
    let sum : c.total-after.result ≡ clocks c.in_ok-next.next.items = c.total-after.ensures ∙ ap clocks c.deref-in-rounds-2.ensures.value in
    met_last c.args.slice c.rounds.cores.items c.in_ok-next.next.items c.requires.slice c.rounds.invariant.met c.in_ok-next.ensures
    (no_more c.total-after.result c.rounds.before (clocks c.in_ok-next.next.items) (clocks c.rounds.cores.items) c.if-after-before.true sum c.rounds.invariant.total)

pub returns-then-after-before-clause-outcome : goal.returns-then-after-before-clause-outcome
returns-then-after-before-clause-outcome g c =
    let sum : c.total-after.result ≡ clocks c.in_ok-next.next.items = c.total-after.ensures ∙ ap clocks c.deref-in-rounds-2.ensures.value in
    let before : AreOfOneRun c.rounds.cores.items = one_run c.args.cores.items c.rounds.cores.items c.rounds.before c.rounds.invariant c.requires.cores in
    stalled c.args.slice c.rounds.cores.items c.in_ok-next.next.items c.requires.slice c.rounds.invariant.met c.in_ok-next.ensures
    (no_more c.total-after.result c.rounds.before (clocks c.in_ok-next.next.items) (clocks c.rounds.cores.items) c.if-after-before.true sum c.rounds.invariant.total)
    (one_run_sliced c.args.slice c.rounds.cores.items c.in_ok-next.next.items c.in_ok-next.ensures before)
    (goes_without c.conclusion.result c.deref-in-rounds.result.now c.rounds.cores.items c.conclusion.ensures.none c.in_default.not-Some c.deref-in-rounds.ensures.value)

pub meet_all-requires-in-rounds : goal.meet_all-requires-in-rounds
meet_all-requires-in-rounds g c =
    one_run_sliced c.args.slice c.rounds.cores.items c.in_ok-next.next.items c.in_ok-next.ensures
    (one_run c.args.cores.items c.rounds.cores.items c.rounds.before c.rounds.invariant c.requires.cores)

pub rounds-preserved : goal.rounds-preserved
rounds-preserved g c =
    goes_further c.args.slice c.args.cores.items c.rounds.cores.items c.in_ok-next.next.items c.meet_all-in-rounds.new.cores.items c.rounds.before c.total-after.result
    c.rounds.invariant c.in_ok-next.ensures (c.total-after.ensures ∙ ap clocks c.deref-in-rounds-2.ensures.value) c.meet_all-in-rounds.ensures.stayed c.meet_all-in-rounds.ensures.met
