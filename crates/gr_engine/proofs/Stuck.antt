-- Cores that have stalled are stuck at the ends of their local runs.
use Rattle.std.proofs.Common.{◌≡◌, ◌<◌, ◌∷◌, ℕ, List, [], sym, ap, ◌∙◌, subst, length, arith}
use Rattle.std.specs.Prelude.{slice_index_or}
use Rattle.gr_machine.specs.declared.core_end.CoreEnd.{CoreEnd}
use Rattle.gr_machine.specs.LocalRuns.{End, end_in}
use Rattle.gr_machine.specs.Machines.{Machine}
use Rattle.gr_machine.specs.Events.{Packet}
use Rattle.gr_mail.specs.Rings.{cores as mail_cores}
use Rattle.gr_view.specs.Places.{at_place}
use Rattle.gr_core.specs.declared.cores.Core.{Core}
use Rattle.gr_core.specs.Cores.{mail_of, run_of}
use Rattle.gr_core.specs.Runs.{end_of}
use Rattle.gr_round.specs.Outcomes as outcomes
use Rattle.gr_world.specs.Worlds.{AreCores, AreEndsOf}
use Rattle.gr_engine.specs.Runs.{AreStuck, IsStuck}

at_end : (machine : Machine) (core : Core) (end : End) → (run_of core).seen.machine ≡ machine → end ≡ end_of (run_of core) → outcomes.IsStuck core → IsStuck machine end
at_end machine core end same e stuck =
    subst (IsStuck machine) (sym e)
    (subst (λ (m : Machine). IsStuck m (end_of (run_of core))) same (record { last = (run_of core).seen.core; run = core.runs.runs; events = stuck.events }))

module _ (machine : Machine) (cores : List Core) (ends : List CoreEnd) (are : AreCores machine cores) (of : AreEndsOf cores ends) (stalled : outcomes.HaveStalled cores) where
  within : (core : ℕ) → core < length ends → core < length cores
  within core h = omega (arith, h, of.len)

  stuck_at : (some : Core) (core : ℕ) (default : CoreEnd) → core < length ends → IsStuck machine (end_in (slice_index_or ends core default))
  stuck_at some core default h =
      at_end machine (slice_index_or cores core some) (end_in (slice_index_or ends core default)) (are.machine core some (within core h))
      (of.each core some default (within core h)).is (stalled.stuck core some (within core h))

  boxes : (some : Core) (core : ℕ) → core < length cores → mail_cores (mail_of (slice_index_or cores core some)) ≡ length cores
  boxes some core h = (slice_index_or cores core some).carries.cores ∙ ap (λ (m : Machine). m.setup.cores) (are.machine core some h) ∙ sym are.len

  left_at : (some : Core) (core from : ℕ) (default : CoreEnd) → core < length ends → from < length ends → at_place 0 (slice_index_or ends core default).left from ≡ 0
  left_at some core from default h k =
      (of.each core some default (within core h)).left from (omega (arith, k, of.len, boxes some core (within core h)))
      ∙ ap (λ (xs : List Packet). length xs) ((stalled.stuck core some (within core h)).known from)

  some_stuck : Core → AreStuck machine ends
  some_stuck some = record { stuck = stuck_at some; left = left_at some }

none_stuck : (machine : Machine) (ends : List CoreEnd) → length ends ≡ 0 → AreStuck machine ends
none_stuck machine ends none = record { stuck = λ core default h. absurd (omega (arith, none, h)); left = λ core from default h k. absurd (omega (arith, none, h)) }

pub are_stuck : (machine : Machine) (cores : List Core) (ends : List CoreEnd) → AreCores machine cores → AreEndsOf cores ends → outcomes.HaveStalled cores → AreStuck machine ends
are_stuck machine [] ends are of stalled = none_stuck machine ends of.len
are_stuck machine (core ∷ cores) ends are of stalled = some_stuck machine (core ∷ cores) ends are of stalled core
