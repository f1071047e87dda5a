-- The unit that a core takes up next: it may be, and its first index may begin.
use Rattle.std.proofs.Common.{◌≡◌, ℕ, zero, ◌+◌, ◌<◌, ◌≤◌, ◌&&◌, if◌then◌else◌, Bool, true, false, nat_lt, length, ◌∙◌, ap, refl, arith, Option, Some, None}
use Rattle.std.specs.FinSet as set
use Rattle.std.proofs.lemmas.Bool.Decides.{nat_tests}
use Rattle.gr_lang.specs.declared.action.TaskId.{TaskId}
use Rattle.gr_lang.specs.States.{Range, State}
use Rattle.gr_msg.specs.declared.message.Unit.{Unit as WorkUnit}
use Rattle.gr_msg.specs.declared.message.Unit.TheVariants as unit
use Rattle.gr_net.proofs.Spreads.{total_one}
use Rattle.gr_machine.specs.Machines.{has_task}
use Rattle.gr_machine.specs.Runs.{first_unit, without_unit, is_sound, taken_up, run_unit, slots_of, slots_for}
use Rattle.gr_stands.specs.Worlds.{Given, machine_in, World, bodies}
use Rattle.gr_stands.specs.Censuses.{body_census, census}
use Rattle.gr_stands.specs.Calls.{UnitFits}
use Rattle.gr_stands.specs.Stands.{Stands}
use Rattle.gr_stands_calls.proofs.Queues.{taken_weigh, taken_fit}
use Rattle.gr_stands_units.specs.Indices.{IsIndex, UnitTells}
use Rattle.gr_scopes.specs.Trees.{Names}
use Rattle.gr_shares.specs.Loops.{Loop, loops_of, within, left_in, left_at}
use Rattle.gr_shares.specs.Shares.{covers, units_only, ChunkStands, UnitShares, SharesHold}
use Rattle.gr_shares.proofs.Weights.{within_first, within_inside, within_bit, owner_self, only_units}
use Rattle.gr_shares_steals.proofs.Questions.{gifts_are_expected}
use Rattle.gr_shares_loops.proofs.Changed.{loops_are_waited_at}
use Rattle.gr_shares_tells.specs.Laws as laws

-- ---- an index that is left

-- It is one of the range, and hasn't begun.
pub record IsLeft (range : Range) (index : ℕ) : Type 0 where
  pub inside : within range.lo range.hi index ≡ 1
  pub new : set.contains range.begun index ≡ false

pub is_left : (range : Range) (index : ℕ) → 1 ≤ left_in range index → within range.lo range.hi index ≤ 1 → IsLeft range index
is_left range index some bit = by (set.contains range.begun index) refl some
  where
    by : (b : Bool) → set.contains range.begun index ≡ b → 1 ≤ (if b then zero else within range.lo range.hi index) → IsLeft range index
    by true e l = absurd (omega (arith, l))
    by false e l = record { inside = omega (arith, l, bit); new = e }

-- ---- the next unit

module _ (given : Given) (names : Names) (w : World) (S : State) (me : ℕ) (hold : SharesHold given names w (loops_of S)) (here : me < given.setup.cores) where
  -- A chunk that comes next has indices of its owner's loop that haven't begun.
  covers_some : (owner : TaskId) (index : ℕ) (u : WorkUnit) → first_unit (bodies w me) ≡ Some u → covers owner index u ≤ left_at (loops_of S owner) index
  unfolding census
  covers_some owner index u is = omega (
    arith,
    hold.chunks owner index,
    total_one (λ c. body_census (units_only (covers owner index)) given.slots (bodies w c)) given.setup.cores me here,
    only_units (covers owner index) given.slots (bodies w me),
    taken_weigh (covers owner index) (bodies w me).work.private (bodies w me).work.public u is,
  )

  next_shares : (u : WorkUnit) → first_unit (bodies w me) ≡ Some u → UnitShares given names (loops_of S) u
  next_shares u is = (taken_fit (UnitShares given names (loops_of S)) (bodies w me).work.private (bodies w me).work.public u is (hold.private me here) (hold.public me here)).first

  next_tells : (u : WorkUnit) → first_unit (bodies w me) ≡ Some u → UnitTells given S u
  next_tells (unit.Single target args scope origin id) is = tt
  next_tells (unit.Chunk target args scope origin owner lo hi grain) is = (index, f.counted)
    where
      u : WorkUnit
      u = unit.Chunk target args scope origin owner lo hi grain

      f : ChunkStands given names (loops_of S) target args scope origin owner lo hi grain
      f = next_shares u is

      left : IsLeft f.loop.range lo
      left = is_left f.loop.range lo
          (omega (arith, covers_some owner lo u is, owner_self owner (within lo hi lo), within_first lo hi f.some, ap (λ (o : Option Loop). left_at o lo) f.waits))
          (within_bit f.loop.range.lo f.loop.range.hi lo)

      index : IsIndex S owner target args lo
      index =
          let at = loops_are_waited_at S owner f.loop f.waits in
          let inside = within_inside f.loop.range.lo f.loop.range.hi lo left.inside in
          record {
            task = at.task;
            there = at.there;
            waits = at.waits;
            number = f.loop.number;
            outer = at.outer;
            opened = at.opened;
            scope = at.scope;
            placed = at.placed;
            range = f.loop.range;
            ranged = at.ranged;
            low = inside.0;
            high = inside.1;
            new = left.new;
            targets = f.targets;
            words = f.words;
          }

pub work_tells_steps : laws.WorkTellsSteps
work_tells_steps given names w S me hold here = record {
  units = next_tells given names w S me hold here;
  gifts = λ from work first. (gifts_are_expected given names (loops_of S) w me from work hold first).0;
  waiters = hold.waiting;
}

-- ---- it may be taken up

both_so : (a b c : Bool) → a ≡ true → b ≡ true → c ≡ true → (a && b && c) ≡ true
both_so a b c p q r = rw (p, q, r) refl

less_so : (a b : ℕ) → a < b → nat_lt a b ≡ true
less_so a b l = grind (arith, nat_tests, l)

sound_so : (given : Given) (names : Names) (w : World) (S : State) (u : WorkUnit) → UnitFits given S u → UnitShares given names (loops_of S) u → is_sound (machine_in given) u ≡ true
sound_so given names w S (unit.Single target args scope origin id) fits shares = fits.known
sound_so given names w S (unit.Chunk target args scope origin owner lo hi grain) fits shares =
    both_so (has_task (machine_in given) target (length args + 1)) (nat_lt lo hi) (nat_lt 0 grain) shares.known (less_so lo hi shares.some) (less_so 0 grain shares.grained)

next_sound : (given : Given) (names : Names) (w : World) (S : State) (me : ℕ) (u : WorkUnit) → Stands given w S → SharesHold given names w (loops_of S) → me < given.setup.cores
    → first_unit (bodies w me) ≡ Some u → is_sound (machine_in given) u ≡ true
next_sound given names w S me u stands hold here is =
    sound_so given names w S u
    (taken_fit (UnitFits given S) (bodies w me).work.private (bodies w me).work.public u is (stands.calls.tasks.private me here) (stands.calls.tasks.public me here)).first
    (next_shares given names w S me hold here u is)

pub units_are_sound : laws.UnitsAreSound
units_are_sound given names w S me slot u stands hold here is =
    let sound = next_sound given names w S me u stands hold here is in
    let body = without_unit (bodies w me) in (
      sound,
      ap (run_unit (machine_in given) me body slot) is ∙ ap (λ (b : Bool). if b then Some (taken_up (machine_in given) me body slot u) else None) sound,
    )

pub units_take_their_slots : laws.UnitsTakeTheirSlots
units_take_their_slots given names w S me u stands hold here is =
    ap (slots_for (machine_in given)) is ∙ ap (λ (b : Bool). if b then slots_of u else zero) (next_sound given names w S me u stands hold here is)
