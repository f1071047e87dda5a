-- Part 4 is kept by an outcome, from what it asks of it; and by Ships and Takes.
use Rattle.std.proofs.Common.{◌≡◌, ℕ, ◌+◌, ◌<◌, inl, inr, sym, ◌∙◌, ap, subst, refl, arith, Option}
use Rattle.gr_lang.specs.declared.action.TaskId.{TaskId}
use Rattle.gr_view.specs.Places.{put}
use Rattle.gr_msg.specs.declared.message.Msg.{Msg}
use Rattle.gr_msg.specs.declared.message.Msg.TheVariants as msg
use Rattle.gr_msg.specs.declared.message.Unit.{Unit as WorkUnit}
use Rattle.gr_msg.specs.declared.message.Unit.TheVariants as unit
use Rattle.gr_agg.specs.Laws.{Adds, Merges}
use Rattle.gr_net.specs.Sums.{weigh, Each}
use Rattle.gr_net.specs.Flights.{Everywhere}
use Rattle.gr_net.proofs.Spreads.{put_each, total_zero, Each-weaker, Each-zero}
use Rattle.gr_net.proofs.Flights.{every_with, every_zero}
use Rattle.gr_machine.specs.States.{Body}
use Rattle.gr_machine.specs.Nets.{messages_in}
use Rattle.gr_stands.specs.Worlds.{Given, World, bodies, in_flight}
use Rattle.gr_stands.specs.Censuses.{body_census, carried, census}
use Rattle.gr_stands.proofs.Worlds.{acted_bodies, without, flow, facts_off, facts_on, census_law, moved_bodies, moved_flow, moved_facts, moved_census}
use Rattle.gr_stands_events.specs.Laws.{WaitersAreCores}
use Rattle.gr_scopes.specs.Trees.{Names}
use Rattle.gr_shares.specs.Loops.{Loop, Loops, within, left_at}
use Rattle.gr_shares.specs.Shares.{covers, units_only, is_question, UnitShares, MessageShares, SharesHold, KeepsNothing}
use Rattle.gr_shares.specs.ShareActs.{KeepsLoops, asked_by, waits_for, SharesAreKept, MovesKeepShares}
use Rattle.gr_shares.proofs.Weights.{within_first, owner_self, only_units, each_for, every_for}

-- ---- the first index of each chunk is left

-- An index of a task's loop of which nothing is left there is in no chunk of the unit.
abbrev pub IsFree : Loops → WorkUnit → Type 0
IsFree loops u = (at : TaskId × ℕ) → left_at (loops at.0) at.1 ≡ 0 → covers at.0 at.1 u ≡ 0

abbrev pub IsFreeIn : Loops → ℕ → ℕ → Msg → Type 0
IsFreeIn loops from to m = (at : TaskId × ℕ) → left_at (loops at.0) at.1 ≡ 0 → carried (covers at.0 at.1) from to m ≡ 0

pub record AreFree (given : Given) (loops : Loops) (w : World) : Type 0 where
  pub private : (c : ℕ) → c < given.setup.cores → Each (IsFree loops) (bodies w c).work.private
  pub public : (c : ℕ) → c < given.setup.cores → Each (IsFree loops) (bodies w c).work.public
  pub messages : Everywhere messages_in (IsFreeIn loops) given.setup.cores w

pub units_free : (given : Given) (names : Names) (w : World) (loops : Loops) → SharesHold given names w loops → AreFree given loops w
unfolding census
units_free given names w loops old =
    let n = given.setup.cores in
    let B : TaskId × ℕ → Type 0 = λ at. left_at (loops at.0) at.1 ≡ 0 in
    let none : (at : TaskId × ℕ) → B at → census (units_only (covers at.0 at.1)) given w ≡ 0 = λ at z. old.chunks at.0 at.1 ∙ z in
    let here : (at : TaskId × ℕ) → B at → (c : ℕ) → c < n → weigh (covers at.0 at.1) (bodies w c).work.private + weigh (covers at.0 at.1) (bodies w c).work.public ≡ 0
    = λ at z c l. sym (only_units (covers at.0 at.1) given.slots (bodies w c))
    ∙ total_zero (λ i. body_census (units_only (covers at.0 at.1)) given.slots (bodies w i)) n (omega (arith, none at z)) c l in
    record {
      private = λ c l. each_for B (λ at (u : WorkUnit). covers at.0 at.1 u ≡ 0) (bodies w c).work.private (λ at z. Each-zero (covers at.0 at.1) (bodies w c).work.private (omega (arith, here at z c l)));
      public = λ c l. each_for B (λ at (u : WorkUnit). covers at.0 at.1 u ≡ 0) (bodies w c).work.public (λ at z. Each-zero (covers at.0 at.1) (bodies w c).work.public (omega (arith, here at z c l)));
      messages = every_for B (λ at from to m. carried (covers at.0 at.1) from to m ≡ 0) n w (λ at z. every_zero messages_in (carried (covers at.0 at.1)) n w (omega (arith, none at z)));
    }

-- ---- what stands still stands

module _ (given : Given) (names more : Names) (L M : Loops) (keeps : KeepsLoops names more L M) where
  pub unit_still : (u : WorkUnit) → UnitShares given names L u → IsFree L u → UnitShares given more M u
  unit_still (unit.Single target args scope origin id) f free = tt
  unit_still (unit.Chunk target args scope origin owner lo hi grain) f free = elim (keeps.kept owner f.loop f.waits) [
    | inl g ↦ record {
      some = f.some;
      grained = f.grained;
      known = f.known;
      counted = f.counted;
      loop = g.next;
      waits = g.there;
      named = ap more g.number ∙ keeps.named f.loop.number scope f.named;
      targets = g.target ∙ f.targets;
      words = g.args ∙ f.words;
    }
    | inr z ↦ absurd (omega (arith, free (owner, lo) (ap (λ (o : Option Loop). left_at o lo) f.waits ∙ z lo), owner_self owner (within lo hi lo), within_first lo hi f.some))
  ]

  pub message_still : (from to : ℕ) (m : Msg) → MessageShares given names L from to m → IsFreeIn L from to m → MessageShares given more M from to m
  message_still from to (msg.Spawn u) f free = f
  message_still from to msg.StealAsk f free = f
  message_still from to (msg.StealGive u) f free = unit_still u f free
  message_still from to _ f free = tt

-- ---- an outcome

questions_add : (a x from to : ℕ) → Adds (is_question a x from to)
questions_add a x from to s one other = refl

shares_merge : (given : Given) (names : Names) (loops : Loops) (from to : ℕ) → Merges (MessageShares given names loops from to)
shares_merge given names loops from to s one other p q = tt

pub shares_kept : SharesAreKept
shares_kept given names more L M w v c got e acts a old =
    let n = given.setup.cores in
    let A = bodies w in
    let B = put (bodies w) c e.body in
    let same : bodies v ≡ B = acted_bodies n w v c got e acts in
    let free = units_free given names w L old in
    let left = (facts_off n w v c got e acts (MessageShares given names L) old.messages).1 in
    let apart = (facts_off n w v c got e acts (IsFreeIn L) free.messages).1 in
    let rest = every_with messages_in (MessageShares given names L) (IsFreeIn L) (MessageShares given more M) n (without n w v c got e acts)
    (message_still given names more L M a.keeps) left apart in
    record {
      chunks = λ owner index. omega (
        arith,
        census_law given w v c got e acts (units_only (covers owner index)),
        only_units (covers owner index) given.slots (A c),
        only_units (covers owner index) given.slots e.body,
        a.chunks owner index,
        old.chunks owner index,
      );
      questions = λ asker victim. subst (λ (X : ℕ → Body). in_flight (is_question asker victim) n v + waits_for X asker victim ≡ asked_by X asker victim) (sym same)
          (omega (arith, flow n w v c got e acts (is_question asker victim) (questions_add asker victim), a.questions asker victim, old.questions asker victim));
      private = λ i l. subst (λ (X : ℕ → Body). Each (UnitShares given more M) (X i).work.private) (sym same)
          (put_each (λ (i : ℕ) (b : Body). Each (UnitShares given more M) b.work.private) A c e.body i (λ q. a.private)
          (λ q. Each-weaker (UnitShares given names L) (IsFree L) (UnitShares given more M) (unit_still given names more L M a.keeps) (A i).work.private (old.private i l) (free.private i l)));
      public = λ i l. subst (λ (X : ℕ → Body). Each (UnitShares given more M) (X i).work.public) (sym same)
          (put_each (λ (i : ℕ) (b : Body). Each (UnitShares given more M) b.work.public) A c e.body i (λ q. a.public)
          (λ q. Each-weaker (UnitShares given names L) (IsFree L) (UnitShares given more M) (unit_still given names more L M a.keeps) (A i).work.public (old.public i l) (free.public i l)));
      messages = facts_on n w v c got e acts (MessageShares given more M) (shares_merge given more M) rest a.sends;
      waiting = λ i. subst (λ (X : ℕ → Body). WaitersAreCores given (X i)) (sym same) (put_each (λ (i : ℕ) (b : Body). WaitersAreCores given b) A c e.body i (λ q. a.waiting) (λ q. old.waiting i));
      ranges = a.keeps.stands;
    }

-- ---- a Ship or a Take

pub shares_moved : MovesKeepShares
shares_moved given names loops w v m old =
    let n = given.setup.cores in
    let same : bodies v ≡ bodies w = moved_bodies n w v m in
    record {
      hold = record {
        chunks = λ owner index. moved_census given w v m (units_only (covers owner index)) ∙ old.hold.chunks owner index;
        questions = λ asker victim. subst (λ (X : ℕ → Body). in_flight (is_question asker victim) n v + waits_for X asker victim ≡ asked_by X asker victim) (sym same)
            (omega (arith, moved_flow n w v m (is_question asker victim), old.hold.questions asker victim));
        private = λ i l. subst (λ (X : ℕ → Body). Each (UnitShares given names loops) (X i).work.private) (sym same) (old.hold.private i l);
        public = λ i l. subst (λ (X : ℕ → Body). Each (UnitShares given names loops) (X i).work.public) (sym same) (old.hold.public i l);
        messages = moved_facts n w v m (MessageShares given names loops) old.hold.messages;
        waiting = λ i. subst (λ (X : ℕ → Body). WaitersAreCores given (X i)) (sym same) (old.hold.waiting i);
        ranges = old.hold.ranges;
      };
      gives = λ i. subst (λ (X : ℕ → Body). KeepsNothing (X i)) (sym same) (old.gives i);
    }
