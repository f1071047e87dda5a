-- Where words are, is kept by an outcome, from what is asked of it; and by Ships and Takes.
use Rattle.std.proofs.Common.{◌≡◌, ◌≢◌, ◌⊎◌, ℕ, zero, ◌+◌, ◌<◌, List, [], sym, ◌∙◌, ap, subst, refl, arith, inl, inr, Option, Some}
use mathlib.Core.Path.{fun_ext}
use Rattle.std.specs.Option.{option_len}
use Rattle.gr_view.specs.Places.{put}
use Rattle.gr_agg.specs.Buffers.{add_last}
use Rattle.gr_msg.specs.declared.message.Msg.{Msg}
use Rattle.gr_vector.specs.declared.ends.Ends.{Ends}
use Rattle.gr_net.specs.Sums.{total, weigh, Each}
use Rattle.gr_net.specs.Worlds.{put_core, acted}
use Rattle.gr_net.specs.Flights.{Everywhere}
use Rattle.gr_net.proofs.Spreads.{put_each, put_field, total_put, weigh_none, Each-map}
use Rattle.gr_machine.specs.Machines.{home}
use Rattle.gr_machine.specs.States.{Letter, Turn, Body}
use Rattle.gr_machine.specs.Outcomes.{Send, Outcome}
use Rattle.gr_machine.specs.Nets.{messages_in}
use Rattle.gr_machine.proofs.Nets.{adds_up}
use Rattle.gr_stands.specs.Worlds.{Given, machine_in, World, Weight, bodies, in_flight, of_letters, of_sends, Acts, Moves}
use Rattle.gr_stands.proofs.Worlds.{acted_bodies, flow, facts_off, facts_on, moved_bodies, moved_flow, moved_facts}
use Rattle.gr_lines.specs.Lines.{vector_in}
use Rattle.gr_lines_turns.specs.Tokens.{vector_at, turn_at}
use Rattle.gr_elements_orders.specs.Orders.{went, channel, InOrder, OwnAreIn}
use Rattle.gr_elements_orders.proofs.Lists.{none_late, went_none}
use Rattle.gr_elements_orders.proofs.Channels as channels
use Rattle.gr_elements_orders.proofs.Moves as moves
use Rattle.gr_elements_plans.specs.Positions.{standing}
use Rattle.gr_elements.specs.Weights.{elements, putting, getting, carrying, is_put, is_get, of_turn, left_in, puts_in, gets_in, answers_in}
use Rattle.gr_elements.specs.Elements.{ElementFits, IsTurnOf, in_turns, ElementsStand}
use Rattle.gr_elements.specs.ElementActs.{ElementsAct, IsOfNoElement, LeavesElements}
use Rattle.gr_elements.specs.Laws as laws
use Rattle.gr_elements.proofs.Weights.{elements_add, putting_adds, getting_adds, carrying_adds, puts_add, gets_add, fits_merge, elements_off, putting_off, getting_off, carrying_off, put_off, get_off, fits_off, letters_none, sends_none}
use Rattle.gr_elements.proofs.Orders.{buffers_keep_order}

-- ---- an outcome

module _ (given : Given) (w : World) (number c : ℕ) (e : Outcome) (here : c < given.setup.cores) where
  -- The sum over all turns changes as that of this core does.
  turns_put : (f : Turn → ℕ) → in_turns given number (put (bodies w) c e.body) f + of_turn f (vector_at number (bodies w) c).turn
      ≡ in_turns given number (bodies w) f + of_turn f (vector_in (e.body.vectors.vectors number)).turn
  turns_put f = total_put (λ (i : ℕ) (b : Body). of_turn f (vector_in (b.vectors.vectors number)).turn) (bodies w) c e.body given.setup.cores here

  parts_put : (p : ℕ) → total given.setup.cores (λ i. option_len ((vector_at number (put (bodies w) c e.body) i).part p)) + option_len ((vector_at number (bodies w) c).part p)
      ≡ total given.setup.cores (λ i. option_len ((vector_at number (bodies w) i).part p)) + option_len ((vector_in (e.body.vectors.vectors number)).part p)
  parts_put p = total_put (λ (i : ℕ) (b : Body). option_len ((vector_in (b.vectors.vectors number)).part p)) (bodies w) c e.body given.setup.cores here

pub elements_kept : laws.ElementsAreKept
elements_kept given w v number c got e ends words held next more now acts own a carry old =
    let n = given.setup.cores in
    let same : bodies v ≡ put (bodies w) c e.body = acted_bodies n w v c got e acts in
    let here = acts.here in
    record {
      long = a.long;
      turn = λ i t. subst (λ (X : ℕ → Body). (vector_at number X i).turn ≡ Some t → IsTurnOf next more now t) (sym same) (a.turn i t);
      idle = subst (λ (X : ℕ → Body). ((i : ℕ) → turn_at number X i ≡ 0) → (p : ℕ) → now p ≡ standing next.head more p) (sym same) a.idle;
      left = subst (λ (X : ℕ → Body). in_flight (elements number) n v ≡ in_turns given number X left_in) (sym same)
          (omega (arith, a.left, old.left, flow n w v c got e acts (elements number) (elements_add number), turns_put given w number c e here left_in));
      puts = λ p. subst (λ (X : ℕ → Body). in_flight (putting number p) n v ≡ in_turns given number X (puts_in p)) (sym same)
          (omega (arith, a.puts p, old.puts p, flow n w v c got e acts (putting number p) (putting_adds number p), turns_put given w number c e here (puts_in p)));
      gets = λ p. subst (λ (X : ℕ → Body). in_flight (getting number p) n v ≡ in_turns given number X (gets_in p)) (sym same)
          (omega (arith, a.gets p, old.gets p, flow n w v c got e acts (getting number p) (getting_adds number p), turns_put given w number c e here (gets_in p)));
      each = λ p. subst (λ (X : ℕ → Body). total n (λ i. option_len ((vector_at number X i).part p)) + in_flight (carrying number p) n v + in_turns given number X (answers_in p) ≡ option_len (now p)) (sym same)
          (omega (arith, a.each p, old.each p, flow n w v c got e acts (carrying number p) (carrying_adds number p), turns_put given w number c e here (answers_in p), parts_put given w number c e here p));
      parts = λ i p x. subst (λ (X : ℕ → Body). (vector_at number X i).part p ≡ Some x → (home (machine_in given) p ≡ i) × (now p ≡ Some x)) (sym same) (a.parts i p x);
      messages =
          let fit : ℕ → ℕ → Msg → Type 0 = ElementFits given number (turn_at number (put (bodies w) c e.body)) now in
          subst (λ (X : ℕ → Body). Everywhere messages_in (ElementFits given number (turn_at number X) now) n v) (sym same)
          (facts_on n w v c got e acts fit (fits_merge given number (turn_at number (put (bodies w) c e.body)) now) (facts_off n w v c got e acts fit (carry old.messages)).1 a.sends);
      ordered = λ i d li ld. subst (λ (x : World). InOrder (is_put number) (is_get number) (channel messages_in x i d)) (sym acts.world)
          (channels.order_kept messages_in add_last (is_put number) (is_get number) (adds_up (is_put number) (puts_add number)) (adds_up (is_get number) (gets_add number)) (buffers_keep_order number)
          w c acts.core got acts.without e own i d (old.ordered i d li ld)
          (λ q. subst (λ (j : ℕ). InOrder (is_put number) (is_get number) (went d e.sends) × ((weigh (is_get number) (channel messages_in w j d) ≡ 0) ⊎ (weigh (is_put number) (went d e.sends) ≡ 0))) (sym q) (a.order d ld)));
    }

module _ (given : Given) (w : World) (number c : ℕ) (got : List Letter) (e : Outcome) (ends : Ends) (words : List ℕ) (held : ℕ → Option ℕ)
    (l : LeavesElements number (bodies w c) got e) (old : ElementsStand given w number ends words held) where
  got_none : (h : Weight) → ((from to : ℕ) (m : Msg) → IsOfNoElement number m → h from to m ≡ 0) → of_letters h c got ≡ 0
  got_none h off = letters_none number h off c got l.letters

  none_sent : (h : Weight) → ((from to : ℕ) (m : Msg) → IsOfNoElement number m → h from to m ≡ 0) → of_sends h c e.sends ≡ 0
  none_sent h off = sends_none number h off c e.sends l.sends

  turns_same : turn_at number (put (bodies w) c e.body) ≡ turn_at number (bodies w)
  turns_same = fun_ext (λ i. put_field (λ (b : Body). option_len (vector_in (b.vectors.vectors number)).turn) (bodies w) c e.body (ap option_len l.turn) i)

  -- What leaves the elements does what is asked.
  leaves_act : ElementsAct given w number c got e held ends words held
  leaves_act = record {
    long = old.long;
    turn = λ i t. put_each (λ (i : ℕ) (b : Body). (vector_in (b.vectors.vectors number)).turn ≡ Some t → IsTurnOf ends words held t) (bodies w) c e.body i (λ q h. old.turn c t (sym l.turn ∙ h)) (λ q. old.turn i t);
    idle = λ none. old.idle (λ i. ap (λ (f : ℕ → ℕ). f i) (sym turns_same) ∙ none i);
    left = omega (arith, got_none (elements number) (elements_off number), none_sent (elements number) (elements_off number), ap (of_turn left_in) l.turn);
    puts = λ p. omega (arith, got_none (putting number p) (putting_off number p), none_sent (putting number p) (putting_off number p), ap (of_turn (puts_in p)) l.turn);
    gets = λ p. omega (arith, got_none (getting number p) (getting_off number p), none_sent (getting number p) (getting_off number p), ap (of_turn (gets_in p)) l.turn);
    each = λ p. omega (
      arith,
      got_none (carrying number p) (carrying_off number p),
      none_sent (carrying number p) (carrying_off number p),
      ap (of_turn (answers_in p)) l.turn,
      ap (λ (f : ℕ → Option ℕ). option_len (f p)) l.part,
    );
    parts = λ i p x h. old.parts i p x (sym (put_field (λ (b : Body). (vector_in (b.vectors.vectors number)).part p) (bodies w) c e.body (ap (λ (f : ℕ → Option ℕ). f p) l.part) i) ∙ h);
    sends = Each-map (λ (s : Send). IsOfNoElement number s.message) (λ (s : Send). ElementFits given number (turn_at number (put (bodies w) c e.body)) held c s.to s.message)
        (λ s o. fits_off given number (turn_at number (put (bodies w) c e.body)) held c s.to s.message o) e.sends l.sends;
    order = λ d ld. (
      none_late (is_put number) (is_get number) (went d e.sends) (went_none (is_get number) d e.sends (weigh_none (λ (s : Send). is_get number s.message) e.sends
          (Each-map (λ (s : Send). IsOfNoElement number s.message) (λ (s : Send). is_get number s.message ≡ 0) (λ s o. get_off number s.message o) e.sends l.sends))),
      inr (went_none (is_put number) d e.sends (weigh_none (λ (s : Send). is_put number s.message) e.sends
          (Each-map (λ (s : Send). IsOfNoElement number s.message) (λ (s : Send). is_put number s.message ≡ 0) (λ s o. put_off number s.message o) e.sends l.sends))),
    );
  }

pub others_keep : laws.OthersKeepElements
others_keep given w v number c got e ends words held acts own l old = elements_kept given w v number c got e ends words held ends words held acts own
    (leaves_act given w number c got e ends words held l old)
    (subst (λ (f : ℕ → ℕ). Everywhere messages_in (ElementFits given number f held) given.setup.cores w) (sym (turns_same given w number c got e ends words held l old))) old

pub own_kept : laws.OutcomesKeepOwn
own_kept given w v c got e acts own = subst (λ (x : World). OwnAreIn messages_in x) (sym acts.world) (channels.own_kept messages_in add_last w c acts.core got acts.without e own)

-- ---- a Ship or a Take

pub own_moved : laws.MovesKeepOwn
own_moved given w v (inl s) own = subst (λ (x : World). OwnAreIn messages_in x) (sym s.world) (moves.ships_own messages_in w s.me s.dest s.size s.packet s.messages own)
own_moved given w v (inr t) own = subst (λ (x : World). OwnAreIn messages_in x) (sym t.world) (moves.takes_own messages_in w t.me t.from t.packets t.under_way own)

pub elements_moved : laws.MovesKeepElements
elements_moved given w v number ends words held m old =
    let n = given.setup.cores in
    let same : bodies v ≡ bodies w = moved_bodies n w v m in
    record {
      long = old.long;
      turn = λ i t. subst (λ (X : ℕ → Body). (vector_at number X i).turn ≡ Some t → IsTurnOf ends words held t) (sym same) (old.turn i t);
      idle = subst (λ (X : ℕ → Body). ((i : ℕ) → turn_at number X i ≡ 0) → (p : ℕ) → held p ≡ standing ends.head words p) (sym same) old.idle;
      left = subst (λ (X : ℕ → Body). in_flight (elements number) n v ≡ in_turns given number X left_in) (sym same) (moved_flow n w v m (elements number) ∙ old.left);
      puts = λ p. subst (λ (X : ℕ → Body). in_flight (putting number p) n v ≡ in_turns given number X (puts_in p)) (sym same) (moved_flow n w v m (putting number p) ∙ old.puts p);
      gets = λ p. subst (λ (X : ℕ → Body). in_flight (getting number p) n v ≡ in_turns given number X (gets_in p)) (sym same) (moved_flow n w v m (getting number p) ∙ old.gets p);
      each = λ p. subst (λ (X : ℕ → Body). total n (λ i. option_len ((vector_at number X i).part p)) + in_flight (carrying number p) n v + in_turns given number X (answers_in p) ≡ option_len (held p)) (sym same)
          (omega (arith, old.each p, moved_flow n w v m (carrying number p)));
      parts = λ i p x. subst (λ (X : ℕ → Body). (vector_at number X i).part p ≡ Some x → (home (machine_in given) p ≡ i) × (held p ≡ Some x)) (sym same) (old.parts i p x);
      messages = subst (λ (X : ℕ → Body). Everywhere messages_in (ElementFits given number (turn_at number X) held) n v) (sym same)
          (moved_facts n w v m (ElementFits given number (turn_at number (bodies w)) held) old.messages);
      ordered = λ i d li ld. subst (InOrder (is_put number) (is_get number)) (sym (channel_same i d)) (old.ordered i d li ld);
    }
  where
    channel_by : Moves given.setup.cores w v → (i d : ℕ) → channel messages_in v i d ≡ channel messages_in w i d
    channel_by (inl s) i d = ap (λ (x : World). channel messages_in x i d) s.world ∙ moves.ships_keep messages_in w s.me s.dest s.size s.packet s.messages i d
    channel_by (inr t) i d = ap (λ (x : World). channel messages_in x i d) t.world ∙ moves.takes_keep messages_in w t.me t.from t.packets t.under_way i d

    channel_same : (i d : ℕ) → channel messages_in v i d ≡ channel messages_in w i d
    channel_same = channel_by m
