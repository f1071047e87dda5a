-- Units are given to the cores that wait, and then there is nothing more to give.
use Rattle.std.proofs.Common.{◌≡◌, ◌≢◌, ◌⊎◌, ℕ, zero, ◌+◌, ◌<◌, List, [], ◌∷◌, inl, inr, sym, ◌∙◌, ap, subst, refl, arith}
use Rattle.std.proofs.lemmas.Bool.{cases_eq}
use Rattle.std.proofs.lemmas.Bool.Decides.{nat_tests}
use Rattle.gr_view.specs.Places.{put}
use Rattle.gr_msg.specs.declared.message.Unit.{Unit as WorkUnit}
use Rattle.gr_net.specs.Sums.{weigh, Each}
use Rattle.gr_net.proofs.Spreads.{put_same, put_other, put_each}
use Rattle.gr_machine.specs.States.{Body}
use Rattle.gr_machine.specs.Outcomes.{Outcome, Send}
use Rattle.gr_machine.specs.Events.{gives, gifts, still_waiting, still_public}
use Rattle.gr_machine.specs.Nets.{world_in}
use Rattle.gr_stands.specs.Worlds.{Given, bodies, of_sends}
use Rattle.gr_stands.specs.Censuses.{carried}
use Rattle.gr_stands.specs.Calls.{times}
use Rattle.gr_stands.proofs.Worlds.{acted_bodies}
use Rattle.gr_scopes.specs.Trees.{Names}
use Rattle.gr_shares.specs.Loops.{Loops}
use Rattle.gr_shares.specs.Shares.{covers, if_between, is_question, UnitShares, MessageShares, SharesHold, KeepsNothing}
use Rattle.gr_shares.specs.ShareActs.{asked_by, waits_for}
use Rattle.gr_shares.proofs.Kept.{shares_kept}
use Rattle.gr_shares_steals.specs.Laws as laws
use Rattle.gr_shares_steals.proofs.Common.{keeps_same, between_not, asked_same}

-- ---- the two lists

given_weigh : (h : WorkUnit → ℕ) (me : ℕ) (cores : List ℕ) (us : List WorkUnit) → weigh h (still_public cores us) + of_sends (carried h) me (gifts cores us) ≡ weigh h us
given_weigh h me [] us = omega arith
given_weigh h me (core ∷ cores) [] = refl
given_weigh h me (core ∷ cores) (u ∷ us) = omega (arith, given_weigh h me cores us)

answers : (a me core : ℕ) → if_between me a me core ≡ times a (core ∷ [])
unfolding if_between
answers a me core = grind (arith, nat_tests)

given_waits : (a me : ℕ) (cores : List ℕ) (us : List WorkUnit) → times a (still_waiting cores us) + of_sends (is_question a me) me (gifts cores us) ≡ times a cores
given_waits a me [] us = refl
given_waits a me (core ∷ cores) [] = omega arith
given_waits a me (core ∷ cores) (u ∷ us) = omega (arith, given_waits a me cores us, answers a me core)

given_elsewhere : (a x me : ℕ) → x ≢ me → (cores : List ℕ) (us : List WorkUnit) → of_sends (is_question a x) me (gifts cores us) ≡ 0
given_elsewhere a x me ne [] us = refl
given_elsewhere a x me ne (core ∷ cores) [] = refl
given_elsewhere a x me ne (core ∷ cores) (u ∷ us) = omega (arith, given_elsewhere a x me ne cores us, between_not x a me core (λ z. ne (sym z)))

given_nothing : (cores : List ℕ) (us : List WorkUnit) → (still_waiting cores us ≡ []) ⊎ (still_public cores us ≡ [])
given_nothing [] us = inl refl
given_nothing (core ∷ cores) [] = inr refl
given_nothing (core ∷ cores) (u ∷ us) = given_nothing cores us

still_cores : (n : ℕ) (cores : List ℕ) (us : List WorkUnit) → Each (λ core. core < n) cores → Each (λ core. core < n) (still_waiting cores us)
still_cores n [] us e = tt
still_cores n (core ∷ cores) [] e = e
still_cores n (core ∷ cores) (u ∷ us) e = still_cores n cores us e.1

gifts_go : (n : ℕ) (cores : List ℕ) (us : List WorkUnit) → Each (λ core. core < n) cores → Each (λ (send : Send). send.to < n) (gifts cores us)
gifts_go n [] us e = tt
gifts_go n (core ∷ cores) [] e = tt
gifts_go n (core ∷ cores) (u ∷ us) e = (e.0, gifts_go n cores us e.1)

given_share : (given : Given) (names : Names) (L : Loops) (me : ℕ) (cores : List ℕ) (us : List WorkUnit) → Each (UnitShares given names L) us
    → Each (λ (send : Send). MessageShares given names L me send.to send.message) (gifts cores us) × Each (UnitShares given names L) (still_public cores us)
given_share given names L me [] us f = (tt, f)
given_share given names L me (core ∷ cores) [] f = (tt, tt)
given_share given names L me (core ∷ cores) (u ∷ us) f = let r = given_share given names L me cores us f.1 in ((f.0, r.0), r.1)

-- ---- the outcome

pub gifts_keep_shares : laws.GiftsKeepShares
gifts_keep_shares given names L w me hold here v acts =
    let r = given_share given names L me waiting public (hold.public me here) in
    shares_kept given names names L L w v me [] e acts (record {
      private = hold.private me here;
      public = r.1;
      sends = r.0;
      waiting = still_cores given.setup.cores waiting public (hold.waiting me);
      keeps = keeps_same names L hold.ranges;
      chunks = λ owner index. omega (arith, given_weigh (covers owner index) me waiting public);
      questions = questions;
    }) hold
  where
    A : ℕ → Body
    A = bodies w

    e : Outcome
    e = gives (A me)

    B : ℕ → Body
    B = put A me e.body

    waiting : List ℕ
    waiting = (A me).steals.waiting

    public : List WorkUnit
    public = (A me).work.public

    questions : (a x : ℕ) → asked_by B a x + (waits_for A a x + zero) ≡ asked_by A a x + (waits_for B a x + of_sends (is_question a x) me e.sends)
    questions a x = elim (cases_eq x me) [
      | inl p ↦ omega (
        arith,
        asked_same A me e.body refl a x,
        ap (waits_for A a) p,
        ap (waits_for B a) p,
        ap (λ (b : Body). times a b.steals.waiting) (put_same A me e.body),
        ap (λ (i : ℕ). of_sends (is_question a i) me e.sends) p,
        given_waits a me waiting public,
      )
      | inr p ↦ omega (
        arith,
        asked_same A me e.body refl a x,
        ap (λ (b : Body). times a b.steals.waiting) (put_other A me e.body x p),
        given_elsewhere a x me p waiting public,
      )
    ]

-- ---- whole events

pub gifts_end_events : laws.GiftsEndEvents
gifts_end_events given names more L M before after me clock got e a sends st keeps =
    let n = given.setup.cores in
    let acts = a.acts sends in
    let middle : SharesHold given more a.middle M = keeps a.middle acts in
    let b = bodies a.middle me in
    let last = a.gives (gifts_go n b.steals.waiting b.work.public (middle.waiting me)) in
    let first_same = acted_bodies n (world_in before) a.middle me got e acts in
    let last_same = acted_bodies n a.middle (world_in after) me [] (gives b) last in
    record {
      hold = gifts_keep_shares given more M a.middle me middle a.here (world_in after) last;
      gives = λ i. subst (λ (X : ℕ → Body). KeepsNothing (X i)) (sym last_same)
          (put_each (λ (i : ℕ) (y : Body). KeepsNothing y) (bodies a.middle) me (gives b).body i
          (λ q. given_nothing b.steals.waiting b.work.public)
          (λ q. subst (λ (X : ℕ → Body). KeepsNothing (X i)) (sym first_same) (subst KeepsNothing (sym (put_other (bodies (world_in before)) me e.body i q)) (st.gives i))));
    }

pub events_without_gifts : laws.EventsWithoutGifts
events_without_gifts given names more L M w v me got e acts public waiting st keeps = record {
  hold = keeps v acts;
  gives = λ i. subst (λ (X : ℕ → Body). KeepsNothing (X i)) (sym (acted_bodies given.setup.cores w v me got e acts))
      (put_each (λ (i : ℕ) (y : Body). KeepsNothing y) (bodies w) me e.body i
      (λ q. here (st.gives me))
      (λ q. st.gives i));
}
  where
    here : KeepsNothing (bodies w me) → KeepsNothing e.body
    here (inl z) = inl (waiting ∙ z)
    here (inr z) = inr (public ∙ z)
