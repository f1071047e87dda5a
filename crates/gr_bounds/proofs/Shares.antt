-- What is shared out grows by one at most with each step, where each outcome at a core raises its share, and what it sends, by so much at most.
use Rattle.std.proofs.Common.{◌≡◌, ◌<◌, ◌≤◌, ◌⊎◌, ℕ, ◌+◌, ◌==◌, List, [], ◌∷◌, refl, sym, ap, ◌∙◌, subst, arith, inl, inr}
use Rattle.std.specs.Prelude.{Option, Some, None}
use Rattle.std.proofs.lemmas.Bool.{cond_both, eqb-true}
use Rattle.gr_view.specs.Places.{put}
use Rattle.gr_msg.specs.declared.message.Msg.{Msg}
use Rattle.gr_agg.specs.Buffers.{add_last}
use Rattle.gr_agg.specs.Laws.{Adds}
use Rattle.gr_net.specs.Sums.{total, weigh}
use Rattle.gr_net.specs.Worlds as net
use Rattle.gr_net.specs.Worlds.{put_core}
use Rattle.gr_net.specs.Flights.{core_flight}
use Rattle.gr_net.proofs.Spreads.{put_each, total_put, total_put_past, weigh-append}
use Rattle.gr_net.proofs.Flights.{flight_put_core}
use Rattle.gr_machine.specs.declared.journal.Stamped.{Stamped}
use Rattle.gr_machine.specs.Machines.{Machine}
use Rattle.gr_machine.specs.States.{Letter, Body, Core}
use Rattle.gr_machine.specs.Outcomes.{Send, Outcome, acted}
use Rattle.gr_machine.specs.Runs.{acts, without_ready, without_unit, taken_up}
use Rattle.gr_machine.specs.Closes.{closes}
use Rattle.gr_machine.specs.Serves.{serves, settles}
use Rattle.gr_machine.specs.Events.{with_body, gives, asks, ticked, happens, slot_of}
use Rattle.gr_machine.specs.GlobalRuns as runs
use Rattle.gr_machine.specs.Nets.{messages_in, core_in, world_in}
use Rattle.gr_machine.proofs.Nets.{adds_up, outcomes_are}
use Rattle.gr_stands.specs.Worlds.{World, Weight, bodies, in_flight, of_sends, Moves}
use Rattle.gr_stands.proofs.Worlds.{bodies_put, moved_bodies, moved_flow}
use Rattle.gr_bounds.specs.Shares.{Shared, Steps}
use Rattle.gr_bounds.specs.Outcomes.{Raised, RaisesIf, Rules}
use Rattle.gr_bounds.proofs.Events.{Loads, happens_loaded}
use Rattle.gr_bounds.proofs.Steps.{IsActing, stepped}

pub cases_below : (k n : ℕ) → (k < n) ⊎ (n ≤ k)
cases_below k n = grind arith

pub total_rises : {X : Type 0} (F : ℕ → X → ℕ) (f : ℕ → X) (k : ℕ) (x : X) (n d : ℕ) → F k x ≤ F k (f k) + d → total n (λ i. F i (put f k x i)) ≤ total n (λ i. F i (f i)) + d
total_rises F f k x n d l = elim (cases_below k n) [
  | inl q ↦ omega (arith, total_put F f k x n q, l)
  | inr q ↦ omega (arith, total_put_past F f k x n q)
]

-- ---- what is sent

module _ (weight : Weight) (adds : (from to : ℕ) → Adds (weight from to)) (n me : ℕ) where
  send_weighs : (core : net.Core Body Msg) (send : Send) → core_flight weight n me (net.sent add_last me core send) ≤ core_flight weight n me core + weight me send.to send.message
  send_weighs core send = cond_both (send.to == me) _ _ (λ (x : net.Core Body Msg). core_flight weight n me x ≤ core_flight weight n me core + weight me send.to send.message)
      (λ e. omega (arith, weigh-append (λ (l : Letter). weight l.from me l.message) core.inbox (record { from = me; message = send.message } ∷ []), ap (λ (t : ℕ). weight me t send.message) (eqb-true send.to me e)))
      (λ e. omega (
        arith,
        total_rises (λ (d : ℕ) (ms : List Msg). weigh (weight me d) ms) core.buffers send.to (add_last (core.buffers send.to) send.message) n (weight me send.to send.message)
            (omega (arith, adds_up (weight me send.to) (adds me send.to) (core.buffers send.to) send.message)),
      ))

  pub sends_weigh : (core : net.Core Body Msg) (sends : List Send) → core_flight weight n me (net.sent_all add_last me core sends) ≤ core_flight weight n me core + of_sends weight me sends
  sends_weigh core [] = omega arith
  sends_weigh core (send ∷ sends) = omega (arith, sends_weigh (net.sent add_last me core send) sends, send_weighs core send)

  body_stays : (core : net.Core Body Msg) (sends : List Send) → (net.sent_all add_last me core sends).body ≡ core.body
  body_stays core [] = refl
  body_stays core (send ∷ sends) = body_stays (net.sent add_last me core send) sends
      ∙ cond_both (send.to == me) _ _ (λ (x : net.Core Body Msg). x.body ≡ core.body) (λ e. refl) (λ e. refl)

-- ---- outcomes

module _ (AtMost : ℕ → Body → ℕ → Type 0) (weight : Weight) where
  module _ (n me : ℕ) where
    -- A core has a share, and with what its messages weigh it is at most so much.
    pub record Loaded (core : Core) (load : ℕ) : Type 0 where
      pub share : ℕ
      pub body : AtMost me core.body share
      pub all : share + core_flight weight n me (core_in core) ≤ load

    load_is : (core : Core) (body : Body) → core.body ≡ body → (share load : ℕ) → AtMost me body share → share + core_flight weight n me (core_in core) ≤ load → Loaded core load
    load_is core body same share load fact all = record { share = share; body = subst (λ (b : Body). AtMost me b share) (sym same) fact; all = all }

    module _ (machine : Machine) (Known : ℕ → Body → Type 0) (rules : Rules AtMost weight machine Known) where
      after_outcome : (core : Core) (outcome : Outcome) (most load : ℕ) → Raised AtMost weight me outcome most → most + core_flight weight n me (core_in core) ≤ load → Loaded (acted me core (Some outcome)) load
      after_outcome core outcome most load r l =
          let is = outcomes_are me core outcome in
          load_is (acted me core (Some outcome)) outcome.body
          (ap (λ (c : net.Core Body Msg). c.body) is ∙ body_stays weight rules.adds n me (net.with_body (core_in core) outcome.body) outcome.sends) r.share load r.body
          (omega (arith, r.all, l, ap (core_flight weight n me) is, sends_weigh weight rules.adds n me (net.with_body (core_in core) outcome.body) outcome.sends))

      after_first : (core : Core) (body : Body) (x more load : ℕ) (first : Option Outcome) → RaisesIf AtMost weight me body first more → core.body ≡ body → AtMost me body x → (x + more) + core_flight weight n me (core_in core) ≤ load
          → Loaded (acted me core first) load
      after_first core body x more load None r same fact l = load_is core body same x load fact (omega (arith, l))
      after_first core body x more load (Some outcome) r same fact l = after_outcome core outcome (x + more) load (r x fact) l

      after_more : (core : Core) (load : ℕ) (next : Option Outcome) → RaisesIf AtMost weight me core.body next 0 → Loaded core load → Loaded (acted me core next) load
      after_more core load next r old = after_first core core.body old.share 0 load next r refl old.body (omega (arith, old.all))

      loads_of : (start : Core) (x : ℕ) → Known me start.body → AtMost me start.body x → Loads machine me Loaded start (x + core_flight weight n me (core_in start))
      loads_of start x known fact =
          let ready = with_body start (without_ready start.body) in
          let taken = with_body start (without_unit start.body) in
          let load : ℕ = (x + core_flight weight n me (core_in start)) + 1 in
          record {
            nothing = load_is start start.body refl x load fact (omega arith);
            run = λ slot task e. after_outcome ready (acts machine me (without_ready start.body) slot task task.action) (x + 1) load
                (rules.run me start.body known slot task e x (rules.not_ready me start.body x fact)) (omega arith);
            run_nothing = load_is ready (without_ready start.body) refl x load (rules.not_ready me start.body x fact) (omega arith);
            unit = λ slot work e. after_outcome taken (taken_up machine me (without_unit start.body) slot work) (x + 1) load (rules.unit me start.body known slot work e x fact) (omega arith);
            unit_nothing = load_is taken (without_unit start.body) refl x load (rules.no_unit me start.body x fact) (omega arith);
            serve = λ letter letters e. after_first (record start { inbox = letters }) start.body x (weight letter.from me letter.message + 1) load
                (serves machine me start.body letter.from letter.message) (rules.serve me start.body known letter.from letter.message) refl fact
                (omega (arith, ap (weigh (λ (l : Letter). weight l.from me l.message)) e));
            close = λ object. after_outcome start (closes machine start.body object) (x + 1) load (rules.close me start.body known object x fact) (omega arith);
            steal = λ victim. after_outcome start (asks victim start.body) (x + 1) load (rules.steal me start.body victim x fact) (omega arith);
            settle = λ core y message old. after_more core y (settles machine core.body message) (rules.settle me core.body message) old;
            give = λ core y old. after_more core y (Some (gives core.body)) (rules.give me core.body) old;
          }

  -- ---- worlds

  pub shared_less : (n less more : ℕ) (world : World) → less ≤ more → Shared AtMost weight n less world → Shared AtMost weight n more world
  shared_less n less more world l s = record { shares = s.shares; each = s.each; all = omega (arith, l, s.all) }

  module _ (machine : Machine) (Known : ℕ → Body → Type 0) (rules : Rules AtMost weight machine Known) (n most : ℕ) (before after : World) where
    moved : Moves n before after → Shared AtMost weight n most before → Shared AtMost weight n (most + 1) after
    moved moves old = record {
      shares = old.shares;
      each = λ core l. subst (λ (b : ℕ → Body). AtMost core (b core) (old.shares core)) (sym (moved_bodies n before after moves)) (old.each core l);
      all = omega (arith, old.all, moved_flow n before after moves weight);
    }

    acted_one : (me : ℕ) (here : me < n) (made : Core) → after ≡ put_core before me (core_in made) → (old : Shared AtMost weight n most before)
        → Loaded n me made ((old.shares me + core_flight weight n me (before.cores me)) + 1) → Shared AtMost weight n (most + 1) after
    acted_one me here made is old loaded =
        let bodies_are : bodies after ≡ put (bodies before) me made.body = ap bodies is ∙ bodies_put before me (core_in made) made.body refl in
        record {
          shares = put old.shares me loaded.share;
          each = λ core l. subst (λ (b : ℕ → Body). AtMost core (b core) (put old.shares me loaded.share core)) (sym bodies_are) (pointwise core l);
          all = omega (arith, loaded.all, old.all, total_put (λ (i x : ℕ). x) old.shares me loaded.share n here, flight_put_core messages_in weight n before me here (core_in made), ap (in_flight weight n) is);
        }
      where
        pointwise : (core : ℕ) → core < n → AtMost core (put (bodies before) me made.body core) (put old.shares me loaded.share core)
        pointwise core l = put_each (λ (i : ℕ) (b : Body). AtMost i b (put old.shares me loaded.share i)) (bodies before) me made.body core
            (λ q. put_each (λ (i x : ℕ). AtMost i made.body x) old.shares me loaded.share core (λ p. subst (λ (i : ℕ). AtMost i made.body loaded.share) (sym q) loaded.body) (λ p. absurd (p q)))
            (λ q. put_each (λ (i x : ℕ). AtMost i (bodies before i) x) old.shares me loaded.share core (λ p. absurd (q p)) (λ p. old.each core l))

  pub step_grows : (machine : Machine) (Known : ℕ → Body → Type 0) (rules : Rules AtMost weight machine Known) (before after : runs.World) (me : ℕ) (entry : Stamped) (most : ℕ)
      → ((core : ℕ) → core < machine.setup.cores → Known core (bodies (world_in before) core)) → Steps machine before after me entry
      → Shared AtMost weight machine.setup.cores most (world_in before) → Shared AtMost weight machine.setup.cores (most + 1) (world_in after)
  step_grows machine Known rules before after me entry most known h old = either (stepped machine before after me entry.clock entry.slots entry.event h)
    where
      start : Core
      start = ticked (before.states me).core (before.states me).core.clock

      either : IsActing machine before after me entry ⊎ Moves machine.setup.cores (world_in before) (world_in after) → Shared AtMost weight machine.setup.cores (most + 1) (world_in after)
      either (inl a) = acted_one machine Known rules machine.setup.cores most (world_in before) (world_in after) me a.here (happens machine me start (slot_of entry.slots) entry.event).core a.world old
          (happens_loaded machine me (Loaded machine.setup.cores me) start (old.shares me + core_flight weight machine.setup.cores me (core_in start))
          (loads_of machine.setup.cores me machine Known rules start (old.shares me) (known me a.here) (old.each me a.here)) (slot_of entry.slots) entry.event a.inner)
      either (inr m) = moved machine Known rules machine.setup.cores most (world_in before) (world_in after) m old
