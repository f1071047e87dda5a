-- Units come and go with messages: the part of scopes is kept.
use Rattle.std.proofs.Common.{◌≡◌, ◌⊎◌, ℕ, zero, suc, ◌+◌, ◌<◌, Bool, true, false, if◌then◌else◌, List, [], ◌∷◌, ◌++◌, inl, inr, sym, ◌∙◌, ap, subst, refl, arith, Option, Some, None}
use Rattle.gr_lang.specs.States.{State}
use Rattle.gr_msg.specs.declared.message.ScopeId.{ScopeId}
use Rattle.gr_msg.specs.declared.message.Msg.{Msg}
use Rattle.gr_msg.specs.declared.message.Msg.TheVariants as msg
use Rattle.gr_msg.specs.declared.message.Unit.{Unit as WorkUnit}
use Rattle.gr_view.specs.Places.{put}
use Rattle.gr_net.specs.Sums.{weigh, Each}
use Rattle.gr_net.proofs.Spreads.{weigh-append, Each-append}
use Rattle.gr_machine.specs.States.{Letter, Body}
use Rattle.gr_machine.specs.Outcomes.{Outcome, Send, quietly}
use Rattle.gr_machine.specs.Spawns.{private_first}
use Rattle.gr_machine.specs.Events.{gifts, still_waiting, still_public, gives, asks}
use Rattle.gr_machine.specs.ScopeServes.{spawned}
use Rattle.gr_stands.specs.Worlds.{Given, machine_in, World, bodies, of_sends}
use Rattle.gr_stands.specs.Censuses.{carried}
use Rattle.gr_stands_calls.specs.Acting.{letter, IsFirstLetter}
use Rattle.gr_scopes.specs.Trees.{Tree, tree_of, Names}
use Rattle.gr_scopes.specs.Sums.{of_unit}
use Rattle.gr_scopes.specs.Scopes.{UnitStands, MessageStands, ScopesStand}
use Rattle.gr_scopes_opens.specs.Keeping.{KeepsScopes, StandsWith}
use Rattle.gr_scopes_stays.specs.Stays.{IsOfNoScope}
use Rattle.gr_scopes_stays.proofs.Stays.{scopes_stay_put}
use Rattle.gr_scopes_units.specs.Laws as laws

-- The first letter stands as it should.
first_stands : (given : Given) (names : Names) (w : World) (tree : Tree) (me from : ℕ) (m : Msg) → ScopesStand given names w tree → IsFirstLetter given w me from m → MessageStands given names tree from me m
first_stands given names w tree me from m sc first = (subst (Each (λ (l : Letter). MessageStands given names tree l.from me l.message)) first.without.inbox (sc.messages.inboxes me first.here)).0

pub spawns_arrive : laws.SpawnsArrive
spawns_arrive given names w S me from u st first =
    let a = bodies w me in
    let stands : UnitStands given names (tree_of S) u = first_stands given names w (tree_of S) me from (msg.Spawn u) st.scopes first in
    scopes_stay_put given names w S me (letter from (msg.Spawn u) ∷ []) (spawned a u) st first.here (record {
      slots = λ l. inl refl;
      scopes = refl;
      passed = refl;
      private = Each-append (UnitStands given names (tree_of S)) a.work.private (u ∷ []) (st.scopes.private me first.here) (stands, tt);
      public = st.scopes.public me first.here;
      letters = (tt, tt);
      sends = tt;
      units = λ q i. omega (arith, weigh-append (of_unit q i) a.work.private (u ∷ []));
    })

same_some : (x y : Outcome) → Some x ≡ Some y → x ≡ y
same_some x y e = cc

pub gifts_arrive : laws.GiftsArrive
gifts_arrive given names w S me from u e st first h = by ((bodies w me).steals.asked from) h
  where
    a : Body
    a = bodies w me

    so : Outcome
    so = quietly (record (private_first (bodies w me) u) { steals = record (bodies w me).steals { asked = put (bodies w me).steals.asked from false } })

    stands : UnitStands given names (tree_of S) u
    stands = first_stands given names w (tree_of S) me from (msg.StealGive u) st.scopes first

    by : (b : Bool) → (if b then Some so else None) ≡ Some e → KeepsScopes given w me (letter from (msg.StealGive u) ∷ []) e names (tree_of S)
    by false h = absurd (cc)
    by true h = subst (λ (x : Outcome). KeepsScopes given w me (letter from (msg.StealGive u) ∷ []) x names (tree_of S)) (same_some so e h)
        (scopes_stay_put given names w S me (letter from (msg.StealGive u) ∷ []) so st first.here (record {
          slots = λ l. inl refl;
          scopes = refl;
          passed = refl;
          private = (stands, st.scopes.private me first.here);
          public = st.scopes.public me first.here;
          letters = (tt, tt);
          sends = tt;
          units = λ q i. omega arith;
        }))

-- ---- gifts

module _ (given : Given) (names : Names) (tree : Tree) (me : ℕ) where
  public_left : (cores : List ℕ) (us : List WorkUnit) → Each (UnitStands given names tree) us → Each (UnitStands given names tree) (still_public cores us)
  public_left [] us f = f
  public_left (c ∷ cores) [] f = f
  public_left (c ∷ cores) (u ∷ us) f = public_left cores us f.1

  gifts_stand : (cores : List ℕ) (us : List WorkUnit) → Each (UnitStands given names tree) us → Each (λ (s : Send). IsOfNoScope s.message × MessageStands given names tree me s.to s.message) (gifts cores us)
  gifts_stand [] us f = tt
  gifts_stand (c ∷ cores) [] f = tt
  gifts_stand (c ∷ cores) (u ∷ us) f = ((tt, f.0), gifts_stand cores us f.1)

  gifts_weigh : (h : WorkUnit → ℕ) (cores : List ℕ) (us : List WorkUnit) → weigh h (still_public cores us) + of_sends (carried h) me (gifts cores us) ≡ weigh h us
  gifts_weigh h [] us = omega arith
  gifts_weigh h (c ∷ cores) [] = refl
  gifts_weigh h (c ∷ cores) (u ∷ us) = omega (arith, gifts_weigh h cores us)

pub gifts_go_off : laws.GiftsGoOff
gifts_go_off given names w S me st here =
    let a = bodies w me in
    scopes_stay_put given names w S me [] (gives a) st here (record {
      slots = λ l. inl refl;
      scopes = refl;
      passed = refl;
      private = st.scopes.private me here;
      public = public_left given names (tree_of S) me a.steals.waiting a.work.public (st.scopes.public me here);
      letters = tt;
      sends = gifts_stand given names (tree_of S) me a.steals.waiting a.work.public (st.scopes.public me here);
      units = λ q i. omega (arith, gifts_weigh given names (tree_of S) me (of_unit q i) a.steals.waiting a.work.public);
    })

pub steals_go_off : laws.StealsGoOff
steals_go_off given names w S me victim st here = scopes_stay_put given names w S me [] (asks victim (bodies w me)) st here (record {
  slots = λ l. inl refl;
  scopes = refl;
  passed = refl;
  private = st.scopes.private me here;
  public = st.scopes.public me here;
  letters = tt;
  sends = ((tt, tt), tt);
  units = λ q i. omega arith;
})
