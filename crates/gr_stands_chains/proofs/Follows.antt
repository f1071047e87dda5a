-- An outcome, and another one after it, at a core.
use Rattle.std.proofs.Common.{◌≡◌, ◌≢◌, ◌<◌, ◌==◌, ℕ, Bool, true, false, if◌then◌else◌, List, [], ◌∷◌, ◌++◌, inl, inr, sym, ◌∙◌, ap, subst, refl, Option, Some, None}
use Rattle.std.specs.Option.{option_and_then}
use Rattle.std.proofs.lemmas.Bool.{cases_eq}
use mathlib.Core.Path.{fun_ext}
use Rattle.gr_lang.specs.States.{State}
use Rattle.gr_view.specs.Places.{put}
use Rattle.gr_msg.specs.declared.message.Msg.{Msg}
use Rattle.gr_agg.specs.Buffers.{add_last}
use Rattle.gr_net.specs.Sums.{Each}
use Rattle.gr_net.specs.Worlds.{put_core, with_body, with_inbox, with_buffer, sent, sent_all, acted}
use Rattle.gr_net.proofs.Spreads.{put_same, put_at, put_other}
use Rattle.gr_machine.specs.States.{Letter, Body}
use Rattle.gr_machine.specs.Outcomes.{Send, Outcome, followed}
use Rattle.gr_stands.specs.Worlds.{Given, machine_in, Core, World, bodies, Acts}
use Rattle.gr_stands.specs.Stands.{Stands}
use Rattle.gr_stands.proofs.Worlds.{acted_bodies}
use Rattle.gr_stands_calls.specs.Acting.{Keeps, ActsQuietly, ActsWithEntry}
use Rattle.gr_stands_chains.specs.Chains.{ActsWithEntries}
use Rattle.gr_stands_chains.specs.Laws as laws

-- ---- cores

put_twice : {X : Type 0} (f : ℕ → X) (k : ℕ) (x y : X) → put (put f k x) k y ≡ put f k y
put_twice f k x y = fun_ext (λ i. elim (cases_eq i k) [
  | inl e ↦ put_at (put f k x) k y i e ∙ sym (put_at f k y i e)
  | inr n ↦ put_other (put f k x) k y i n ∙ put_other f k x i n ∙ sym (put_other f k y i n)
])

-- A body in the place of another one, before messages are sent or after.
body_sent : (me : ℕ) (core : Core) (b : Body) (s : Send) → with_body (sent add_last me core s) b ≡ sent add_last me (with_body core b) s
body_sent me core b s = by (s.to == me)
  where
    by : (t : Bool)
        → with_body (if t then with_inbox core (core.inbox ++ record { from = me; message = s.message } ∷ []) else with_buffer core s.to (add_last (core.buffers s.to) s.message)) b
        ≡ (if t then with_inbox (with_body core b) (core.inbox ++ record { from = me; message = s.message } ∷ []) else with_buffer (with_body core b) s.to (add_last (core.buffers s.to) s.message))
    by true = refl
    by false = refl

body_sent_all : (me : ℕ) (core : Core) (b : Body) (ss : List Send) → with_body (sent_all add_last me core ss) b ≡ sent_all add_last me (with_body core b) ss
body_sent_all me core b [] = refl
body_sent_all me core b (s ∷ ss) = body_sent_all me (sent add_last me core s) b ss ∙ ap (λ (x : Core). sent_all add_last me x ss) (body_sent me core b s)

sent_both : (me : ℕ) (core : Core) (xs ys : List Send) → sent_all add_last me core (xs ++ ys) ≡ sent_all add_last me (sent_all add_last me core xs) ys
sent_both me core [] ys = refl
sent_both me core (x ∷ xs) ys = sent_both me (sent add_last me core x) xs ys

-- ---- outcomes

both_each : {X : Type 0} (P : X → Type 0) (xs ys : List X) → Each P (xs ++ ys) → Each P xs × Each P ys
both_each P [] ys e = (tt, e)
both_each P (x ∷ xs) ys e = let r = both_each P xs ys e.1 in ((e.0, r.0), r.1)

module _ (n : ℕ) (w v : World) (c : ℕ) (got : List Letter) (e f : Outcome) (a : Acts n w v c got (followed e f)) where
  abbrev first : Core
  first = acted add_last c a.core (Some e)

  abbrev between : World
  between = put_core w c first

  bounds : Each (λ s. s.to < n) e.sends × Each (λ s. s.to < n) f.sends
  bounds = both_each (λ (s : Send). s.to < n) e.sends f.sends a.sends

  pub first_acts : Acts n w between c got e
  first_acts = record { here = a.here; core = a.core; without = a.without; sends = bounds.0; world = refl }

  last : acted add_last c a.core (Some (followed e f)) ≡ acted add_last c first (Some f)
  last = sent_both c (with_body a.core f.body) e.sends f.sends
      ∙ sym (ap (λ (x : Core). sent_all add_last c x f.sends) (body_sent_all c (with_body a.core e.body) f.body e.sends))

  pub then_acts : Acts n between v c [] f
  then_acts = record {
    here = a.here;
    core = first;
    without = record {
      body = ap (λ (x : Core). x.body) (sym (put_same w.cores c first));
      inbox = ap (λ (x : Core). x.inbox) (put_same w.cores c first);
      buffers = ap (λ (x : Core). x.buffers) (sym (put_same w.cores c first));
    };
    sends = bounds.1;
    world = a.world ∙ ap (put_core w c) last ∙ ap (λ (cores : ℕ → Core). record w { cores = cores }) (sym (put_twice w.cores c first (acted add_last c first (Some f))));
  }

pub outcomes_follow_on : laws.OutcomesFollowOn
outcomes_follow_on given w c got e f S T keeps later next a =
    let n = given.setup.cores in
    let one = first_acts n w next c got e f a in
    let both = keeps (between n w next c got e f a) one in
    later (between n w next c got e f a) (acted_bodies n w (between n w next c got e f a) c got e one) (record { words = both.1; calls = both.0 }) next (then_acts n w next c got e f a)

pub quiet_outcomes_act : laws.QuietOutcomesAct
quiet_outcomes_act given w S c got made q = record {
  outcome = q.outcome;
  acts = q.acts;
  sends = q.sends;
  entries = [];
  marks = q.marks;
  next = S;
  leads = refl;
  keeps = q.keeps;
}

pub entries_act : laws.EntriesAct
entries_act given w S c got made q = record {
  outcome = q.outcome;
  acts = q.acts;
  sends = q.sends;
  entries = q.entry ∷ [];
  marks = q.marks;
  next = q.after;
  leads = ap (option_and_then (λ (x : State). Some x)) q.leads;
  keeps = q.keeps;
}
