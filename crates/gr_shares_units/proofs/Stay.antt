-- Outcomes that leave all chunks and questions; single tasks may come and go.
use Rattle.std.proofs.Common.{◌≡◌, ℕ, ◌-◌, ◌<◌, List, [], ◌∷◌, length, take, sym, ◌∙◌, ap, subst, refl, arith, Some, None}
use Rattle.std.specs.List.{last_or}
use Rattle.gr_lang.specs.declared.action.TaskId.{TaskId}
use Rattle.gr_msg.specs.declared.message.ScopeId.{ScopeId}
use Rattle.gr_msg.specs.declared.message.Msg.{Msg}
use Rattle.gr_msg.specs.declared.message.Msg.TheVariants as msg
use Rattle.gr_msg.specs.declared.message.Unit.{Unit as WorkUnit}
use Rattle.gr_msg.specs.declared.message.Unit.TheVariants as unit
use Rattle.gr_work.specs.Queues.{next_unit, after_next}
use Rattle.gr_net.specs.Sums.{weigh, Each}
use Rattle.gr_net.proofs.Spreads.{Each-weaker}
use Rattle.gr_machine.specs.States.{Letter, Steals}
use Rattle.gr_machine.specs.Outcomes.{Send}
use Rattle.gr_stands.specs.Worlds.{Given, bodies, of_letters, of_sends}
use Rattle.gr_stands.specs.Censuses.{carried}
use Rattle.gr_scopes.specs.Trees.{Names}
use Rattle.gr_shares.specs.Loops.{Loops}
use Rattle.gr_shares.specs.Shares.{covers, is_question, UnitShares, MessageShares}
use Rattle.gr_shares.proofs.Kept.{IsFree, unit_still, units_free, shares_kept}
use Rattle.gr_shares_steals.proofs.Common.{asked_same, waits_same}
use Rattle.gr_shares_units.specs.Leaving.{IsOfNoShare, with_chunk, chunks_in}
use Rattle.gr_shares_units.specs.Laws as laws

-- ---- chunks alone

module _ (given : Given) (names : Names) (loops : Loops) where
  chunks_share : (us : List WorkUnit) → Each (UnitShares given names loops) us → Each (UnitShares given names loops) (chunks_in us)
  chunks_share [] f = tt
  chunks_share (unit.Single target args scope origin id ∷ us) f = chunks_share us f.1
  chunks_share (unit.Chunk target args scope origin owner lo hi grain ∷ us) f = (f.0, chunks_share us f.1)

  units_share : (us : List WorkUnit) → Each (UnitShares given names loops) (chunks_in us) → Each (UnitShares given names loops) us
  units_share [] f = tt
  units_share (unit.Single target args scope origin id ∷ us) f = (tt, units_share us f)
  units_share (unit.Chunk target args scope origin owner lo hi grain ∷ us) f = (f.0, units_share us f.1)

  -- The same chunks share as before.
  pub same_share : (us vs : List WorkUnit) → chunks_in vs ≡ chunks_in us → Each (UnitShares given names loops) us → Each (UnitShares given names loops) vs
  same_share us vs e f = units_share vs (subst (Each (UnitShares given names loops)) (sym e) (chunks_share us f))

  no_share : (me to : ℕ) (m : Msg) → IsOfNoShare m → MessageShares given names loops me to m
  no_share me to (msg.Spawn work) n = n
  no_share me to msg.StealAsk n = absurd n
  no_share me to (msg.StealGive work) n = absurd n
  no_share me to _ n = tt

  pub sends_share : (me : ℕ) (ss : List Send) → Each (λ s. IsOfNoShare s.message) ss → Each (λ s. MessageShares given names loops me s.to s.message) ss
  sends_share me [] n = tt
  sends_share me (s ∷ ss) n = (no_share me s.to s.message n.0, sends_share me ss n.1)

module _ (owner : TaskId) (index : ℕ) where
  chunks_weigh : (us : List WorkUnit) → weigh (covers owner index) us ≡ weigh (covers owner index) (chunks_in us)
  chunks_weigh [] = refl
  chunks_weigh (unit.Single target args scope origin id ∷ us) = omega (arith, chunks_weigh us)
  chunks_weigh (unit.Chunk target args scope origin other lo hi grain ∷ us) = omega (arith, chunks_weigh us)

  pub same_weigh : (us vs : List WorkUnit) → chunks_in vs ≡ chunks_in us → weigh (covers owner index) vs ≡ weigh (covers owner index) us
  same_weigh us vs e = chunks_weigh vs ∙ ap (weigh (covers owner index)) e ∙ sym (chunks_weigh us)

  no_chunk : (from to : ℕ) (m : Msg) → IsOfNoShare m → carried (covers owner index) from to m ≡ 0
  no_chunk from to (msg.Spawn (unit.Single target args scope origin id)) n = refl
  no_chunk from to (msg.Spawn (unit.Chunk target args scope origin other lo hi grain)) n = absurd n
  no_chunk from to (msg.StealGive work) n = absurd n
  no_chunk from to _ n = refl

  pub sends_carry : (me : ℕ) (ss : List Send) → Each (λ s. IsOfNoShare s.message) ss → of_sends (carried (covers owner index)) me ss ≡ 0
  sends_carry me [] n = refl
  sends_carry me (s ∷ ss) n = omega (arith, no_chunk me s.to s.message n.0, sends_carry me ss n.1)

  pub letters_carry : (me : ℕ) (ls : List Letter) → Each (λ l. IsOfNoShare l.message) ls → of_letters (carried (covers owner index)) me ls ≡ 0
  letters_carry me [] n = refl
  letters_carry me (l ∷ ls) n = omega (arith, no_chunk l.from me l.message n.0, letters_carry me ls n.1)

module _ (a x : ℕ) where
  no_question : (from to : ℕ) (m : Msg) → IsOfNoShare m → is_question a x from to m ≡ 0
  no_question from to msg.StealAsk n = absurd n
  no_question from to (msg.StealGive work) n = absurd n
  no_question from to _ n = refl

  pub sends_ask : (me : ℕ) (ss : List Send) → Each (λ s. IsOfNoShare s.message) ss → of_sends (is_question a x) me ss ≡ 0
  sends_ask me [] n = refl
  sends_ask me (s ∷ ss) n = omega (arith, no_question me s.to s.message n.0, sends_ask me ss n.1)

  pub letters_ask : (me : ℕ) (ls : List Letter) → Each (λ l. IsOfNoShare l.message) ls → of_letters (is_question a x) me ls ≡ 0
  letters_ask me [] n = refl
  letters_ask me (l ∷ ls) n = omega (arith, no_question l.from me l.message n.0, letters_ask me ls n.1)

-- ---- the law

pub shares_stay : laws.SharesStay
shares_stay given names more L M w me got e hold here leaves left v acts =
    let A = bodies w in
    let free = units_free given names w L hold in
    let still : (us : List WorkUnit) → Each (UnitShares given names L) us → Each (IsFree L) us → Each (UnitShares given more M) us
    = Each-weaker (UnitShares given names L) (IsFree L) (UnitShares given more M) (unit_still given names more L M left.keeps) in
    shares_kept given names more L M w v me got e acts (record {
      private = same_share given more M (A me).work.private e.body.work.private leaves.private (still (A me).work.private (hold.private me here) (free.private me here));
      public = same_share given more M (A me).work.public e.body.work.public leaves.public (still (A me).work.public (hold.public me here) (free.public me here));
      sends = sends_share given more M me e.sends leaves.sends;
      waiting = subst (λ (s : Steals). Each (λ core. core < given.setup.cores) s.waiting) (sym leaves.steals) (hold.waiting me);
      keeps = left.keeps;
      chunks = λ owner index. omega (
        arith,
        left.left owner index,
        same_weigh owner index (A me).work.private e.body.work.private leaves.private,
        same_weigh owner index (A me).work.public e.body.work.public leaves.public,
        sends_carry owner index me e.sends leaves.sends,
        letters_carry owner index me got leaves.letters,
      );
      questions = λ a x. omega (
        arith,
        asked_same A me e.body (ap (λ (s : Steals). s.asked) leaves.steals) a x,
        waits_same A me e.body (ap (λ (s : Steals). s.waiting) leaves.steals) a x,
        sends_ask a x me e.sends leaves.sends,
        letters_ask a x me got leaves.letters,
      );
    }) hold

-- ---- a single task starts

module _ (target : ℕ) (args : List ℕ) (scope : ScopeId) (origin : ℕ) (id : TaskId) where
  abbrev single : WorkUnit
  single = unit.Single target args scope origin id

  same_unit : (x y : WorkUnit) → Some x ≡ Some y → x ≡ y
  same_unit x y e = cc

  none_some : (x : WorkUnit) → None ≡ Some x → ⊥
  none_some x e = cc

  shorter : (x : WorkUnit) (xs : List WorkUnit) → length (x ∷ xs) - 1 ≡ length xs
  shorter x xs = omega arith

  last_single : (first : WorkUnit) (us : List WorkUnit) → last_or (Some first) us ≡ Some single → chunks_in (take (length us) (first ∷ us)) ≡ chunks_in (first ∷ us)
  last_single first [] e = sym (ap (λ (u : WorkUnit). with_chunk u []) (same_unit first single e))
  last_single first (next ∷ us) e = ap (with_chunk first) (last_single next us e)

  pub private_same : (private public : List WorkUnit) → next_unit private public ≡ Some single → chunks_in (after_next private public).private ≡ chunks_in private
  private_same [] public e = refl
  private_same (first ∷ rest) public e = sym (ap (λ (u : WorkUnit). with_chunk u (chunks_in rest)) (same_unit first single e))

  pub public_same : (private public : List WorkUnit) → next_unit private public ≡ Some single → chunks_in (after_next private public).public ≡ chunks_in public
  public_same [] [] e = absurd (none_some single e)
  public_same [] (first ∷ rest) e = ap (λ (n : ℕ). chunks_in (take n (first ∷ rest))) (shorter first rest) ∙ last_single first rest e
  public_same (first ∷ rest) public e = refl

pub singles_share : laws.SinglesShare
singles_share given w me slot target args scope origin id is = record {
  private = private_same target args scope origin id (bodies w me).work.private (bodies w me).work.public is;
  public = public_same target args scope origin id (bodies w me).work.private (bodies w me).work.public is;
  steals = refl;
  letters = tt;
  sends = tt;
}
