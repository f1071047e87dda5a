-- What happens to a world: its bodies, the messages in flight, and the tasks and units.
use Rattle.std.proofs.Common.{◌≡◌, ℕ, zero, suc, ◌+◌, ◌<◌, ◌⊎◌, inl, inr, List, [], ◌∷◌, ◌++◌, length, All, slice_index_or, sym, ◌∙◌, ap, subst, refl, arith, Some}
use mathlib.Core.Path.{fun_ext}
use Rattle.std.proofs.lemmas.Bool.{cases_eq}
use Rattle.gr_view.specs.Places.{put}
use Rattle.gr_msg.specs.declared.message.Msg.{Msg}
use Rattle.gr_agg.specs.Buffers.{add_last}
use Rattle.gr_agg.specs.Laws.{Adds, Merges}
use Rattle.gr_agg.proofs.Weights.{each_added}
use Rattle.gr_net.specs.Sums.{total, weigh, Each}
use Rattle.gr_net.specs.Worlds.{put_core, acted, shipped, taken, with_body, with_buffer, with_inbox, letters}
use Rattle.gr_net.specs.Flights.{Everywhere, KeepsFact}
use Rattle.gr_net.proofs.Spreads.{put_same, put_at, put_other, put_each, total_put, weigh-append}
use Rattle.gr_net.proofs.Flights.{body_send_all, flight_put_core, flight_shipped, flight_taken, flight_send_all, has_send_all, every_at, every_put_core, every_drop_core, every_shipped, every_taken}
use Rattle.gr_machine.specs.States.{Letter, Body}
use Rattle.gr_machine.specs.Outcomes.{Outcome, Send}
use Rattle.gr_machine.specs.Events.{Packet}
use Rattle.gr_machine.specs.Nets.{messages_in}
use Rattle.gr_machine.proofs.Nets.{adds_up}
use Rattle.gr_stands.specs.Worlds.{Given, Core, World, Weight, bodies, in_flight, of_letters, of_sends, Acts, Ships, Takes, Moves}
use Rattle.gr_stands.specs.Censuses.{Weights, body_census, carried, census}
use Rattle.gr_stands.specs.Laws as laws

-- ---- facts of messages that join a buffer

all_each : {X : Type 0} (P : X → Type 0) (xs : List X) → Each P xs → All P xs
all_each P [] e i d l = absurd (omega arith)
all_each P (x ∷ xs) e zero d l = e.0
all_each P (x ∷ xs) e (suc i) d l = all_each P xs e.1 i d (omega arith)

each_all : {X : Type 0} (P : X → Type 0) (xs : List X) → All P xs → Each P xs
each_all P [] a = tt
each_all P (x ∷ xs) a = (a zero x (omega arith), each_all P xs (λ i d l. a (suc i) d (omega (arith, l))))

pub keeps_fact : (P : Msg → Type 0) → Merges P → KeepsFact add_last P
keeps_fact P m xs y e p = each_all P (add_last xs y) (each_added P m xs y (all_each P xs e) p)

-- ---- bodies

pub bodies_put : (w : World) (c : ℕ) (core : Core) (b : Body) → core.body ≡ b → bodies (put_core w c core) ≡ put (bodies w) c b
bodies_put w c core b e = fun_ext (λ i. elim (cases_eq i c) [
  | inl q ↦ ap (λ (x : Core). x.body) (put_at w.cores c core i q) ∙ e ∙ sym (put_at (bodies w) c b i q)
  | inr q ↦ ap (λ (x : Core). x.body) (put_other w.cores c core i q) ∙ sym (put_other (bodies w) c b i q)
])

-- ---- an outcome

module _ (n : ℕ) (w v : World) (c : ℕ) (got : List Letter) (e : Outcome) (a : Acts n w v c got e) where
  pub acted_bodies : bodies v ≡ put (bodies w) c e.body
  acted_bodies = ap bodies a.world ∙ bodies_put w c (acted add_last c a.core (Some e)) e.body (body_send_all add_last c (with_body a.core e.body) e.sends)

  -- The world without the letters that were taken up.
  abbrev pub without : World
  without = put_core w c a.core

  module _ (h : Weight) where
    pub flow_off : in_flight h n without + of_letters h c got ≡ in_flight h n w
    flow_off = omega (
      arith,
      flight_put_core messages_in h n w c a.here a.core,
      ap (weigh (λ (l : Letter). h l.from c l.message)) a.without.inbox,
      weigh-append (λ (l : Letter). h l.from c l.message) got a.core.inbox,
      ap (λ (b : ℕ → List Msg). total n (λ d. weigh (h c d) (b d))) a.without.buffers,
    )

    flow_on : ((from to : ℕ) → Adds (h from to)) → in_flight h n (put_core w c (acted add_last c a.core (Some e))) ≡ in_flight h n without + of_sends h c e.sends
    flow_on adds = omega (
      arith,
      flight_put_core messages_in h n w c a.here a.core,
      flight_put_core messages_in h n w c a.here (acted add_last c a.core (Some e)),
      flight_send_all add_last h n c (λ d. adds_up (h c d) (adds c d)) (with_body a.core e.body) e.sends a.sends,
    )

    pub flow : ((from to : ℕ) → Adds (h from to)) → in_flight h n v + of_letters h c got ≡ in_flight h n w + of_sends h c e.sends
    flow adds = omega (arith, flow_on adds, flow_off, ap (λ (x : World). in_flight h n x) a.world)

  module _ (P : ℕ → ℕ → Msg → Type 0) where
    parts : (Q : Letter → Type 0) (xs ys : List Letter) → Each Q (xs ++ ys) → Each Q xs × Each Q ys
    parts Q [] ys e = (tt, e)
    parts Q (x ∷ xs) ys e = let r = parts Q xs ys e.1 in ((e.0, r.0), r.1)

    -- What holds of each message holds of the letters that were taken up, and of the other messages.
    pub facts_off : Everywhere messages_in P n w → Each (λ l. P l.from c l.message) got × Everywhere messages_in P n without
    facts_off f =
        let both = parts (λ (l : Letter). P l.from c l.message) got a.core.inbox (subst (Each (λ (l : Letter). P l.from c l.message)) a.without.inbox (f.inboxes c a.here)) in
        (both.0, every_drop_core messages_in P n w c a.here a.core f (both.1, λ d l. subst (λ (b : ℕ → List Msg). Each (P c d) (b d)) (sym a.without.buffers) (f.buffers c d a.here l)))

    pub facts_on : ((from to : ℕ) → Merges (P from to)) → Everywhere messages_in P n without → Each (λ s. P c s.to s.message) e.sends → Everywhere messages_in P n v
    facts_on merges f p =
        let has = every_at messages_in P n without c a.here f in
        let old = subst (λ (x : Core). Each (λ l. P l.from c l.message) x.inbox × ((d : ℕ) → d < n → Each (P c d) (x.buffers d))) (put_same w.cores c a.core) has in
        subst (Everywhere messages_in P n) (sym a.world)
        (every_put_core messages_in P n w c a.here a.core (acted add_last c a.core (Some e)) f
        (has_send_all add_last P n (λ i d. keeps_fact (P i d) (merges i d)) c (with_body a.core e.body) e.sends p old))

pub outcomes_put_bodies : laws.OutcomesPutBodies
outcomes_put_bodies = acted_bodies

pub outcomes_flow : laws.OutcomesFlow
outcomes_flow n w v c got e a h adds = flow n w v c got e a h adds

-- Units are in no Complete.
pub carried_adds : (h : Weights) (from to : ℕ) → Adds (carried h.of_unit from to)
carried_adds h from to scope one other = refl

pub census_law : laws.OutcomesMoveTasks
unfolding census
census_law given w v c got e a h = omega (
  arith,
  flow given.setup.cores w v c got e a (carried h.of_unit) (carried_adds h),
  total_put (λ (i : ℕ) (b : Body). body_census h given.slots b) (bodies w) c e.body given.setup.cores a.here,
  ap (λ (b : ℕ → Body). total given.setup.cores (λ i. body_census h given.slots (b i))) (acted_bodies given.setup.cores w v c got e a),
)

-- ---- a Ship or a Take

module _ (n : ℕ) (w v : World) where
  same_at : (c : ℕ) (core : Core) → core.body ≡ bodies w c → bodies (put_core w c core) ≡ bodies w
  same_at c core e = bodies_put w c core (bodies w c) e ∙ fun_ext (λ i. put_each (λ (i : ℕ) (b : Body). b ≡ bodies w i) (bodies w) c (bodies w c) i (λ q. ap (bodies w) (sym q)) (λ q. refl))

  taken_bodies : (c from : ℕ) (packets : List Packet) → bodies (taken messages_in w c from packets) ≡ bodies w
  taken_bodies c from [] = refl
  taken_bodies c from (packet ∷ packets) = same_at c (with_inbox (w.cores c) ((w.cores c).inbox ++ letters from (messages_in packet))) refl

  pub moved_bodies : Moves n w v → bodies v ≡ bodies w
  moved_bodies (inl s) = ap bodies s.world ∙ same_at s.me _ refl
  moved_bodies (inr t) = ap bodies t.world ∙ taken_bodies t.me t.from t.packets

  pub moved_flow : Moves n w v → (h : Weight) → in_flight h n v ≡ in_flight h n w
  moved_flow (inl s) h = ap (in_flight h n) s.world ∙ flight_shipped messages_in h n w s.me s.here s.size s.dest s.there s.packet s.messages
  moved_flow (inr t) h = ap (in_flight h n) t.world ∙ flight_taken messages_in h n w t.me t.here t.from t.there t.packets t.under_way

  pub moved_facts : Moves n w v → (P : ℕ → ℕ → Msg → Type 0) → Everywhere messages_in P n w → Everywhere messages_in P n v
  moved_facts (inl s) P f = subst (Everywhere messages_in P n) (sym s.world) (every_shipped messages_in P n w s.me s.here s.size s.dest s.there s.packet s.messages f)
  moved_facts (inr t) P f = subst (Everywhere messages_in P n) (sym t.world) (every_taken messages_in P n w t.me t.here t.from t.there t.packets t.under_way f)

pub moved_census : (given : Given) (w v : World) → Moves given.setup.cores w v → (h : Weights) → census h given v ≡ census h given w
unfolding census
moved_census given w v m h = omega (
  arith,
  moved_flow given.setup.cores w v m (carried h.of_unit),
  ap (λ (b : ℕ → Body). total given.setup.cores (λ i. body_census h given.slots (b i))) (moved_bodies given.setup.cores w v m),
)
