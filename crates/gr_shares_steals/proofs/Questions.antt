-- A core asks another for work, the other keeps the question, and a unit comes that was asked for.
use Rattle.std.proofs.Common.{◌≡◌, ◌≢◌, ℕ, zero, ◌+◌, ◌<◌, ◌≤◌, ◌==◌, if◌then◌else◌, Bool, true, false, [], ◌∷◌, inl, inr, sym, ◌∙◌, ap, refl, arith, Some, None}
use Rattle.std.proofs.lemmas.Bool.{cases_eq}
use Rattle.std.proofs.lemmas.Bool.Decides.{nat_tests}
use Rattle.gr_view.specs.Places.{put}
use Rattle.gr_msg.specs.declared.message.Msg.TheVariants as msg
use Rattle.gr_net.proofs.Spreads.{put_same, put_at, put_other, weigh-append, Each-append}
use Rattle.gr_machine.specs.States.{Body}
use Rattle.gr_machine.specs.Outcomes.{Outcome, quietly}
use Rattle.gr_machine.specs.Spawns.{private_first}
use Rattle.gr_machine.specs.ScopeServes.{waits_here}
use Rattle.gr_machine.specs.Events.{asks}
use Rattle.gr_stands.specs.Worlds.{bodies, of_letters, of_sends}
use Rattle.gr_stands.specs.Calls.{times}
use Rattle.gr_stands_calls.specs.Acting.{letter}
use Rattle.gr_shares.specs.Shares.{if_between, is_question, one_if, MessageShares}
use Rattle.gr_shares.specs.ShareActs.{asked_by, waits_for}
use Rattle.gr_shares.proofs.Kept.{shares_kept}
use Rattle.gr_shares_steals.specs.Laws as laws
use Rattle.gr_shares_steals.proofs.Common.{keeps_same, between_at, between_not, between_nor, asked_same, waits_same, first_weighs, first_has}

-- ---- a question is asked

pub questions_are_asked : laws.QuestionsAreAsked
questions_are_asked given names L w me victim hold here free v acts =
    shares_kept given names names L L w v me [] e acts (record {
      private = hold.private me here;
      public = hold.public me here;
      sends = (here, tt);
      waiting = hold.waiting me;
      keeps = keeps_same names L hold.ranges;
      chunks = λ owner index. omega arith;
      questions = questions;
    }) hold
  where
    A : ℕ → Body
    A = bodies w

    e : Outcome
    e = asks victim (A me)

    B : ℕ → Body
    B = put A me e.body

    here_after : (a x : ℕ) → a ≡ me → asked_by B a x ≡ one_if (put (A me).steals.asked victim true x)
    here_after a x p = ap (λ (i : ℕ). asked_by B i x) p ∙ ap (λ (b : Body). one_if (b.steals.asked x)) (put_same A me e.body)

    here_before : (a x : ℕ) → a ≡ me → asked_by A a x ≡ one_if ((A me).steals.asked x)
    here_before a x p = ap (λ (i : ℕ). asked_by A i x) p

    other_after : (a x : ℕ) → a ≢ me → asked_by B a x ≡ asked_by A a x
    other_after a x p = ap (λ (b : Body). one_if (b.steals.asked x)) (put_other A me e.body a p)

    questions : (a x : ℕ) → asked_by B a x + (waits_for A a x + zero) ≡ asked_by A a x + (waits_for B a x + of_sends (is_question a x) me e.sends)
    questions a x = elim (cases_eq a me) [
      | inl p ↦ elim (cases_eq x victim) [
        | inl q ↦ omega (
          arith,
          waits_same A me e.body refl a x,
          here_after a x p,
          ap one_if (put_at (A me).steals.asked victim true x q),
          here_before a x p,
          ap (λ (i : ℕ). one_if ((A me).steals.asked i)) q,
          ap one_if free,
          between_at a x me victim (sym p) (sym q),
        )
        | inr q ↦ omega (
          arith,
          waits_same A me e.body refl a x,
          here_after a x p,
          ap one_if (put_other (A me).steals.asked victim true x q),
          here_before a x p,
          between_nor a x me victim (λ z. q (sym z)),
        )
      ]
      | inr p ↦ omega (arith, waits_same A me e.body refl a x, other_after a x p, between_not a x me victim (λ z. p (sym z)))
    ]

-- ---- a question is kept

one_time : (a b from : ℕ) → if_between a b from b ≡ times a (from ∷ [])
unfolding if_between
one_time a b from = grind (arith, nat_tests)

pub questions_wait : laws.QuestionsWait
questions_wait given names L w me from hold first v acts =
    shares_kept given names names L L w v me (letter from msg.StealAsk ∷ []) e acts (record {
      private = hold.private me first.here;
      public = hold.public me first.here;
      sends = tt;
      waiting = Each-append (λ (core : ℕ). core < given.setup.cores) (A me).steals.waiting (from ∷ []) (hold.waiting me)
          (first_has given w me from msg.StealAsk first (MessageShares given names L) hold.messages, tt);
      keeps = keeps_same names L hold.ranges;
      chunks = λ owner index. omega arith;
      questions = questions;
    }) hold
  where
    A : ℕ → Body
    A = bodies w

    e : Outcome
    e = waits_here (A me) from

    B : ℕ → Body
    B = put A me e.body

    questions : (a x : ℕ) → asked_by B a x + (waits_for A a x + of_letters (is_question a x) me (letter from msg.StealAsk ∷ [])) ≡ asked_by A a x + (waits_for B a x + zero)
    questions a x = elim (cases_eq x me) [
      | inl p ↦ omega (
        arith,
        asked_same A me e.body refl a x,
        ap (waits_for A a) p,
        ap (waits_for B a) p,
        ap (λ (b : Body). times a b.steals.waiting) (put_same A me e.body),
        weigh-append (λ (one : ℕ). if one == a then 1 else 0) (A me).steals.waiting (from ∷ []),
        ap (λ (i : ℕ). if_between a i from me) p,
        one_time a me from,
      )
      | inr p ↦ omega (
        arith,
        asked_same A me e.body refl a x,
        ap (λ (b : Body). times a b.steals.waiting) (put_other A me e.body x p),
        between_nor a x from me (λ z. p (sym z)),
      )
    ]

-- ---- a unit comes that was asked for

has_asked : (b : Bool) → 1 ≤ one_if b → b ≡ true
has_asked true l = refl
has_asked false l = absurd (omega arith)

pub gifts_are_expected : laws.GiftsAreExpected
gifts_are_expected given names L w me from u hold first = (
  asked,
  record {
    outcome = e;
    acts = ap (λ (b : Bool). if b then Some e else None) asked;
    keeps = λ v acts. shares_kept given names names L L w v me (letter from (msg.StealGive u) ∷ []) e acts (record {
      private = (first_has given w me from (msg.StealGive u) first (MessageShares given names L) hold.messages, hold.private me first.here);
      public = hold.public me first.here;
      sends = tt;
      waiting = hold.waiting me;
      keeps = keeps_same names L hold.ranges;
      chunks = λ owner index. omega arith;
      questions = questions;
    }) hold;
  },
)
  where
    A : ℕ → Body
    A = bodies w

    e : Outcome
    e = quietly (record (private_first (A me) u) { steals = record (A me).steals { asked = put (A me).steals.asked from false } })

    B : ℕ → Body
    B = put A me e.body

    asked : (A me).steals.asked from ≡ true
    asked = has_asked ((A me).steals.asked from) (omega (
      arith,
      first_weighs given w me from (msg.StealGive u) first (is_question me from),
      between_at from me from me refl refl,
      hold.questions me from,
    ))

    here_after : (a x : ℕ) → a ≡ me → asked_by B a x ≡ one_if (put (A me).steals.asked from false x)
    here_after a x p = ap (λ (i : ℕ). asked_by B i x) p ∙ ap (λ (b : Body). one_if (b.steals.asked x)) (put_same A me e.body)

    here_before : (a x : ℕ) → a ≡ me → asked_by A a x ≡ one_if ((A me).steals.asked x)
    here_before a x p = ap (λ (i : ℕ). asked_by A i x) p

    other_after : (a x : ℕ) → a ≢ me → asked_by B a x ≡ asked_by A a x
    other_after a x p = ap (λ (b : Body). one_if (b.steals.asked x)) (put_other A me e.body a p)

    questions : (a x : ℕ) → asked_by B a x + (waits_for A a x + of_letters (is_question a x) me (letter from (msg.StealGive u) ∷ [])) ≡ asked_by A a x + (waits_for B a x + zero)
    questions a x = elim (cases_eq a me) [
      | inl p ↦ elim (cases_eq x from) [
        | inl q ↦ omega (
          arith,
          waits_same A me e.body refl a x,
          here_after a x p,
          ap one_if (put_at (A me).steals.asked from false x q),
          here_before a x p,
          ap (λ (i : ℕ). one_if ((A me).steals.asked i)) q,
          ap one_if asked,
          between_at x a from me (sym q) (sym p),
        )
        | inr q ↦ omega (
          arith,
          waits_same A me e.body refl a x,
          here_after a x p,
          ap one_if (put_other (A me).steals.asked from false x q),
          here_before a x p,
          between_not x a from me (λ z. q (sym z)),
        )
      ]
      | inr p ↦ omega (arith, waits_same A me e.body refl a x, other_after a x p, between_nor x a from me (λ z. p (sym z)))
    ]
