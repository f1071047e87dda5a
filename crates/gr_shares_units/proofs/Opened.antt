-- A task opens a loop: its whole range is one chunk.
use Rattle.std.proofs.Common.{◌≡◌, ℕ, ◌+◌, ◌<◌, Bool, false, if◌then◌else◌, List, [], inl, inr, sym, ◌∙◌, ap, subst, refl, arith, Option, Some}
use Rattle.std.specs.FinSet.{contains-empty}
use Rattle.std.specs.Ordering.{nat_cmp}
use Rattle.std.proofs.lemmas.Bool.Decides.{nat_tests}
use Rattle.gr_lang.specs.declared.action.Action.TheVariants as action
use Rattle.gr_lang.specs.declared.action.TaskId.{TaskId}
use Rattle.gr_msg.specs.declared.message.Unit.{Unit as WorkUnit}
use Rattle.gr_work.specs.Queues.{Queues}
use Rattle.gr_net.specs.Sums.{weigh, Each}
use Rattle.gr_net.proofs.Spreads.{Each-weaker}
use Rattle.gr_machine.specs.States.{Steals, Body}
use Rattle.gr_machine.specs.Outcomes.{Outcome}
use Rattle.gr_machine.specs.Slots.{same_id}
use Rattle.gr_machine.specs.ScopeRuns.{loops_in}
use Rattle.gr_stands.specs.Worlds.{machine_in, bodies}
use Rattle.gr_stands.specs.Actions.{ActionFits}
use Rattle.gr_stands.proofs.Places.{cases_id}
use Rattle.gr_shares.specs.Loops.{Loop, Loops, loops_of, within, left_at}
use Rattle.gr_shares.specs.Shares.{if_owner, covers, UnitShares}
use Rattle.gr_shares.specs.ShareActs.{KeepsLoops}
use Rattle.gr_shares.proofs.Weights.{owner_self, owner_off}
use Rattle.gr_shares.proofs.Kept.{IsFree, unit_still, units_free, shares_kept}
use Rattle.gr_shares_steals.proofs.Common.{asked_same, waits_same}
use Rattle.gr_shares_loops.specs.Changes.{new_loop, OpensLoop}
use Rattle.gr_shares_loops.proofs.Changed.{loops_are_opened}
use Rattle.gr_shares_units.specs.Laws as laws
use Rattle.gr_shares_units.proofs.Ranges.{at_it, at_other, keeps_opened}

pub loops_share : laws.LoopsShare
loops_share given names more w S T me slot task body scope lo hi grain target args hold here work steals at due fits l opened named new e v acts =
    let free = units_free given names w L hold in
    shares_kept given names more L M w v me [] made acts (record {
      private = (
        record {
          some = l;
          grained = able.1;
          known = able.0;
          counted = here;
          loop = loop;
          waits = at_it L M task.id (Some loop) r.loops task.id refl;
          named = new;
          targets = refl;
          words = refl;
        },
        subst (λ (q : Queues). Each (UnitShares given more M) q.private) (sym work) (still (A me).work.private (hold.private me here) (free.private me here)),
      );
      public = subst (λ (q : Queues). Each (UnitShares given more M) q.public) (sym work) (still (A me).work.public (hold.public me here) (free.public me here));
      sends = tt;
      waiting = subst (λ (s : Steals). Each (λ core. core < given.setup.cores) s.waiting) (sym steals) (hold.waiting me);
      keeps = keeps;
      chunks = λ o index. omega (
        arith,
        sums o index,
        ap (λ (q : Queues). weigh (covers o index) q.private + weigh (covers o index) q.public) work,
      );
      questions = λ a x. omega (
        arith,
        asked_same A me made.body (ap (λ (s : Steals). s.asked) steals) a x,
        waits_same A me made.body (ap (λ (s : Steals). s.waiting) steals) a x,
      );
    }) hold
  where
    A : ℕ → Body
    A = bodies w

    L : Loops
    L = loops_of S

    M : Loops
    M = loops_of T

    made : Outcome
    made = loops_in me body slot task lo hi grain target args scope

    loop : Loop
    loop = new_loop S lo hi target args

    r : OpensLoop S T task.id lo hi target args
    r = loops_are_opened given.program given.setup.cores given.setup.steps S T task.id at.plain lo hi grain target args at.there (at.action ∙ due) opened e

    able : ActionFits (machine_in given) (action.Loop lo hi grain target args)
    able = subst (ActionFits (machine_in given)) due fits

    keeps : KeepsLoops names more L M
    keeps = keeps_opened names more S T task.id lo hi target args named hold.ranges r

    still : (us : List WorkUnit) → Each (UnitShares given names L) us → Each (IsFree L) us → Each (UnitShares given more M) us
    still = Each-weaker (UnitShares given names L) (IsFree L) (UnitShares given more M) (unit_still given names more L M keeps)

    turned : (a b : TaskId) → same_id a b ≡ false → same_id b a ≡ false
    turned a b e = grind (arith, nat_tests, e)

    sums : (o : TaskId) (index : ℕ) → left_at (M o) index ≡ left_at (L o) index + if_owner o task.id (within lo hi index)
    sums o index = elim (cases_id o task.id) [
      | inl q ↦ omega (
        arith,
        ap (λ (x : Option Loop). left_at x index) (at_it L M task.id (Some loop) r.loops o q),
        ap (λ (b : Bool). if b then 0 else within lo hi index) (contains-empty nat_cmp index),
        ap (λ (i : TaskId). left_at (L i) index) q,
        ap (λ (x : Option Loop). left_at x index) r.none,
        ap (λ (i : TaskId). if_owner i task.id (within lo hi index)) q,
        owner_self task.id (within lo hi index),
      )
      | inr q ↦ omega (
        arith,
        ap (λ (x : Option Loop). left_at x index) (at_other L M task.id (Some loop) r.loops o q),
        owner_off o task.id (within lo hi index) (turned o task.id q),
      )
    ]
