-- What each event does to the messages in flight, at any weights and at any fact.
use Rattle.std.proofs.Common.{◌≡◌, ℕ, ◌+◌, ◌<◌, ◌==◌, List, [], ◌∷◌, ◌++◌, take, drop, sym, ◌∙◌, ap, subst, refl, arith}
use Rattle.std.proofs.lemmas.Bool.{cond_both, eqb-true}
use Rattle.gr_view.specs.Places.{put}
use Rattle.gr_net.specs.Messages.{Letter, Send}
use Rattle.gr_net.specs.Sums.{total, weigh, Each}
use Rattle.gr_net.specs.Worlds.{Core, World, Joining, sent, sent_all, letters, put_core, shipped, taken, with_inbox, with_buffer}
use Rattle.gr_net.specs.Flights.{core_flight, ring_flight, flight, Everywhere, AddsUp, KeepsFact}
use Rattle.gr_net.proofs.Spreads.{put_other, total_put, total_zero, weigh-append, weigh-take-drop, Each-append, Each-take, Each-drop, Each-weaker, Each-zero, Each-map, put_each, Each-all, total_none, weigh_none}

-- sends

pub flight_letters : {M : Type 0} (h : ℕ → ℕ → M → ℕ) (c from : ℕ) (ms : List M) → weigh (λ l. h l.from c l.message) (letters from ms) ≡ weigh (h from c) ms
flight_letters h c from [] = refl
flight_letters h c from (m ∷ ms) = omega (arith, flight_letters h c from ms)

pub has_letters : {M : Type 0} (P : ℕ → ℕ → M → Type 0) (c from : ℕ) (ms : List M) → Each (P from c) ms → Each (λ l. P l.from c l.message) (letters from ms)
has_letters P c from [] p = tt
has_letters P c from (m ∷ ms) p = (p.0, has_letters P c from ms p.1)

module _ {B M : Type 0} (join : Joining M) where
  pub body_send : (c : ℕ) (core : Core B M) (s : Send M) → (sent join c core s).body ≡ core.body
  body_send c core s = cond_both (s.to == c) _ _ (λ (x : Core B M). x.body ≡ core.body) (λ e. refl) (λ e. refl)

  pub body_send_all : (c : ℕ) (core : Core B M) (ss : List (Send M)) → (sent_all join c core ss).body ≡ core.body
  body_send_all c core [] = refl
  body_send_all c core (s ∷ ss) = body_send_all c (sent join c core s) ss ∙ body_send c core s

  module _ (h : ℕ → ℕ → M → ℕ) (n c : ℕ) (adds : (d : ℕ) → AddsUp join (h c d)) where
    pub flight_send : (core : Core B M) (s : Send M) → s.to < n → core_flight h n c (sent join c core s) ≡ core_flight h n c core + h c s.to s.message
    flight_send core s l =
        cond_both (s.to == c) _ _ (λ (x : Core B M). core_flight h n c x ≡ core_flight h n c core + h c s.to s.message)
        (λ e. omega (arith, weigh-append (λ (l : Letter M). h l.from c l.message) core.inbox (record { from = c; message = s.message } ∷ []), ap (λ (t : ℕ). h c t s.message) (eqb-true s.to c e)))
        (λ e. omega (arith, total_put (λ (d : ℕ) (ms : List M). weigh (h c d) ms) core.buffers s.to (join (core.buffers s.to) s.message) n l, adds s.to (core.buffers s.to) s.message))

    pub flight_send_all : (core : Core B M) (ss : List (Send M)) → Each (λ s. s.to < n) ss → core_flight h n c (sent_all join c core ss) ≡ core_flight h n c core + weigh (λ s. h c s.to s.message) ss
    flight_send_all core [] l = omega arith
    flight_send_all core (s ∷ ss) l = omega (arith, flight_send_all (sent join c core s) ss l.1, flight_send core s l.0)

  -- P holds of each message that a core keeps
  abbrev pub CoreHas : (ℕ → ℕ → M → Type 0) → ℕ → ℕ → Core B M → Type 0
  CoreHas P n c core = Each (λ l. P l.from c l.message) core.inbox × ((d : ℕ) → d < n → Each (P c d) (core.buffers d))

  module _ (P : ℕ → ℕ → M → Type 0) (n : ℕ) (keeps : (c d : ℕ) → KeepsFact join (P c d)) where
    pub has_send : (c : ℕ) (core : Core B M) (s : Send M) → P c s.to s.message → CoreHas P n c core → CoreHas P n c (sent join c core s)
    has_send c core s p has =
        cond_both (s.to == c) _ _ (λ (x : Core B M). CoreHas P n c x)
        (λ e. (Each-append (λ (l : Letter M). P l.from c l.message) core.inbox (record { from = c; message = s.message } ∷ []) has.0 (subst (λ (t : ℕ). P c t s.message) (eqb-true s.to c e) p, tt), has.1))
        (λ e. (
          has.0,
          λ d l. put_each (λ (d : ℕ) (ms : List M). Each (P c d) ms) core.buffers s.to _ d
              (λ q. subst (λ (t : ℕ). Each (P c t) (join (core.buffers s.to) s.message)) (sym q) (keeps c s.to (core.buffers s.to) s.message (has.1 s.to (subst (λ (t : ℕ). t < n) q l)) p))
              (λ q. has.1 d l),
        ))

    pub has_send_all : (c : ℕ) (core : Core B M) (ss : List (Send M)) → Each (λ s. P c s.to s.message) ss → CoreHas P n c core → CoreHas P n c (sent_all join c core ss)
    has_send_all c core [] p has = has
    has_send_all c core (s ∷ ss) p has = has_send_all c (sent join c core s) ss p.1 (has_send c core s p.0 has)

module _ {B M Q : Type 0} (messages : Q → List M) where
  -- the world

  module _ (h : ℕ → ℕ → M → ℕ) (n : ℕ) (w : World B M Q) (c : ℕ) (here : c < n) where
    pub flight_put_core : (core : Core B M) → flight messages h n (put_core w c core) + core_flight h n c (w.cores c) ≡ flight messages h n w + core_flight h n c core
    unfolding flight
    flight_put_core core = omega (arith, total_put (core_flight h n) w.cores c core n here)

    pub flight_shipped : (g d : ℕ) → d < n → (p : Q) → messages p ≡ take g ((w.cores c).buffers d) → flight messages h n (shipped g p w c d) ≡ flight messages h n w
    unfolding flight
    flight_shipped g d there p is =
        let core = w.cores c in
        let buffer = core.buffers d in
        let ring = w.transit c d in
        let rest : Core B M = with_buffer core d (drop g buffer) in
        let rings = put (w.transit c) d (ring ++ p ∷ []) in
        omega (
          arith,
          total_put (core_flight h n) w.cores c rest n here,
          total_put (λ (d : ℕ) (ms : List M). weigh (h c d) ms) core.buffers d (drop g buffer) n there,
          total_put (ring_flight messages h n) w.transit c rings n here,
          total_put (λ (d : ℕ) (ps : List Q). weigh (λ p. weigh (h c d) (messages p)) ps) (w.transit c) d (ring ++ p ∷ []) n there,
          weigh-append (λ (p : Q). weigh (h c d) (messages p)) ring (p ∷ []),
          ap (weigh (h c d)) is,
          weigh-take-drop (h c d) g buffer,
        )

    pub flight_taken : (from : ℕ) → from < n → (ps : List Q) → w.transit from c ≡ ps → flight messages h n (taken messages w c from ps) ≡ flight messages h n w
    unfolding flight
    flight_taken from there [] e = refl
    flight_taken from there (p ∷ ps) e =
        let core = w.cores c in
        let full : Core B M = with_inbox core (core.inbox ++ letters from (messages p)) in
        omega (
          arith,
          total_put (core_flight h n) w.cores c full n here,
          weigh-append (λ (l : Letter M). h l.from c l.message) core.inbox (letters from (messages p)),
          flight_letters h c from (messages p),
          total_put (ring_flight messages h n) w.transit from (put (w.transit from) c ps) n there,
          total_put (λ (d : ℕ) (ps : List Q). weigh (λ p. weigh (h from d) (messages p)) ps) (w.transit from) c ps n here,
          ap (weigh (λ (p : Q). weigh (h from c) (messages p))) e,
        )

  -- facts of each message

  -- P holds of each message that a core keeps
  abbrev pub Keeps : (ℕ → ℕ → M → Type 0) → ℕ → ℕ → Core B M → Type 0
  Keeps P n c core = Each (λ l. P l.from c l.message) core.inbox × ((d : ℕ) → d < n → Each (P c d) (core.buffers d))

  module _ (P : ℕ → ℕ → M → Type 0) (n : ℕ) where
    module _ (w : World B M Q) (c : ℕ) (here : c < n) where
      pub every_at : Everywhere messages P n w → Keeps P n c (w.cores c)
      every_at v = (v.inboxes c here, λ d l. v.buffers c d here l)

      -- core c's messages may be others, if P holds of them too
      pub every_put_core : (a b : Core B M) → Everywhere messages P n (put_core w c a) → Keeps P n c b → Everywhere messages P n (put_core w c b)
      every_put_core a b v has = record {
        inboxes = λ i l. put_each (λ (i : ℕ) (x : Core B M). Each (λ m. P m.from i m.message) x.inbox) w.cores c b i
            (λ q. subst (λ (j : ℕ). Each (λ m. P m.from j m.message) b.inbox) (sym q) has.0)
            (λ q. subst (λ (x : Core B M). Each (λ m. P m.from i m.message) x.inbox) (put_other w.cores c a i q) (v.inboxes i l));
        buffers = λ i d l m. put_each (λ (i : ℕ) (x : Core B M). Each (P i d) (x.buffers d)) w.cores c b i
            (λ q. subst (λ (j : ℕ). Each (P j d) (b.buffers d)) (sym q) (has.1 d m))
            (λ q. subst (λ (x : Core B M). Each (P i d) (x.buffers d)) (put_other w.cores c a i q) (v.buffers i d l m));
        transits = v.transits;
      }

      pub every_drop_core : (b : Core B M) → Everywhere messages P n w → Keeps P n c b → Everywhere messages P n (put_core w c b)
      every_drop_core b v has = record {
        inboxes = λ i l. put_each (λ (i : ℕ) (x : Core B M). Each (λ m. P m.from i m.message) x.inbox) w.cores c b i
            (λ q. subst (λ (j : ℕ). Each (λ m. P m.from j m.message) b.inbox) (sym q) has.0)
            (λ q. v.inboxes i l);
        buffers = λ i d l m. put_each (λ (i : ℕ) (x : Core B M). Each (P i d) (x.buffers d)) w.cores c b i
            (λ q. subst (λ (j : ℕ). Each (P j d) (b.buffers d)) (sym q) (has.1 d m))
            (λ q. v.buffers i d l m);
        transits = v.transits;
      }

      pub every_shipped : (g d : ℕ) → d < n → (p : Q) → messages p ≡ take g ((w.cores c).buffers d) → Everywhere messages P n w → Everywhere messages P n (shipped g p w c d)
      every_shipped g d there p is v =
          let core = w.cores c in
          let rest : Core B M = with_buffer core d (drop g (core.buffers d)) in
          let kept = every_drop_core rest v (
            v.inboxes c here,
            λ e l. put_each (λ (e : ℕ) (ms : List M). Each (P c e) ms) core.buffers d _ e
                (λ q. subst (λ (t : ℕ). Each (P c t) (drop g (core.buffers d))) (sym q) (Each-drop (P c d) g (core.buffers d) (v.buffers c d here there)))
                (λ q. v.buffers c e here l),
          ) in
          record {
            inboxes = kept.inboxes;
            buffers = kept.buffers;
            transits = λ i e l m. put_each (λ (i : ℕ) (r : ℕ → List Q). Each (λ p. Each (P i e) (messages p)) (r e)) w.transit c _ i
                (λ q. subst (λ (j : ℕ). Each (λ p. Each (P j e) (messages p)) (put (w.transit c) d (w.transit c d ++ p ∷ []) e)) (sym q) (put_each (λ (e : ℕ) (ps : List Q). Each (λ p. Each (P c e) (messages p)) ps) (w.transit c) d _ e
                (λ r. subst (λ (t : ℕ). Each (λ p. Each (P c t) (messages p)) (w.transit c d ++ p ∷ [])) (sym r)
                (Each-append (λ (p : Q). Each (P c d) (messages p)) (w.transit c d) (p ∷ []) (v.transits c d here there) (subst (Each (P c d)) (sym is) (Each-take (P c d) g (core.buffers d) (v.buffers c d here there)), tt)))
                (λ r. v.transits c e here m)))
                (λ q. v.transits i e l m);
          }

      pub every_taken : (from : ℕ) → from < n → (ps : List Q) → w.transit from c ≡ ps → Everywhere messages P n w → Everywhere messages P n (taken messages w c from ps)
      every_taken from there [] e v = v
      every_taken from there (p ∷ ps) e v =
          let core = w.cores c in
          let full : Core B M = with_inbox core (core.inbox ++ letters from (messages p)) in
          let came = subst (Each (λ (p : Q). Each (P from c) (messages p))) e (v.transits from c there here) in
          let kept = every_drop_core full v (Each-append (λ (l : Letter M). P l.from c l.message) core.inbox (letters from (messages p)) (v.inboxes c here) (has_letters P c from (messages p) came.0), λ d l. v.buffers c d here l) in
          record {
            inboxes = kept.inboxes;
            buffers = kept.buffers;
            transits = λ i d l m. put_each (λ (i : ℕ) (r : ℕ → List Q). Each (λ p. Each (P i d) (messages p)) (r d)) w.transit from _ i
                (λ q. subst (λ (j : ℕ). Each (λ p. Each (P j d) (messages p)) (put (w.transit from) c ps d)) (sym q) (put_each (λ (d : ℕ) (ps : List Q). Each (λ p. Each (P from d) (messages p)) ps) (w.transit from) c ps d
                (λ r. subst (λ (t : ℕ). Each (λ p. Each (P from t) (messages p)) ps) (sym r) came.1)
                (λ r. v.transits from d there m)))
                (λ q. v.transits i d l m);
          }

  -- two facts make a third
  pub every_with : (P S R : ℕ → ℕ → M → Type 0) (n : ℕ) (w : World B M Q) → ((from to : ℕ) (m : M) → P from to m → S from to m → R from to m) → Everywhere messages P n w → Everywhere messages S n w → Everywhere messages R n w
  every_with P S R n w f p q = record {
    inboxes = λ c l. Each-weaker (λ (x : Letter M). P x.from c x.message) (λ x. S x.from c x.message) (λ x. R x.from c x.message) (λ x. f x.from c x.message) (w.cores c).inbox (p.inboxes c l) (q.inboxes c l);
    buffers = λ c d l m. Each-weaker (P c d) (S c d) (R c d) (f c d) ((w.cores c).buffers d) (p.buffers c d l m) (q.buffers c d l m);
    transits = λ c d l m. Each-weaker (λ (p : Q). Each (P c d) (messages p)) (λ p. Each (S c d) (messages p)) (λ p. Each (R c d) (messages p)) (λ p. Each-weaker (P c d) (S c d) (R c d) (f c d) (messages p)) (w.transit c d) (p.transits c d l m) (q.transits c d l m);
  }

  -- where the weights add up to 0, each is 0
  pub every_zero : (h : ℕ → ℕ → M → ℕ) (n : ℕ) (w : World B M Q) → flight messages h n w ≡ 0 → Everywhere messages (λ from to m. h from to m ≡ 0) n w
  unfolding flight
  every_zero h n w e =
      let cores : (c : ℕ) → c < n → core_flight h n c (w.cores c) ≡ 0 = total_zero (λ c. core_flight h n c (w.cores c)) n (omega arith) in
      let rings : (c : ℕ) → c < n → ring_flight messages h n c (w.transit c) ≡ 0 = total_zero (λ c. ring_flight messages h n c (w.transit c)) n (omega arith) in
      record {
        inboxes = λ c l. Each-zero (λ (x : Letter M). h x.from c x.message) (w.cores c).inbox (omega (arith, cores c l));
        buffers = λ c d l m. Each-zero (h c d) ((w.cores c).buffers d) (total_zero (λ d. weigh (h c d) ((w.cores c).buffers d)) n (omega (arith, cores c l)) d m);
        transits = λ c d l m. Each-map (λ (p : Q). weigh (h c d) (messages p) ≡ 0) (λ p. Each (λ x. h c d x ≡ 0) (messages p)) (λ p. Each-zero (h c d) (messages p)) (w.transit c d) (Each-zero (λ (p : Q). weigh (h c d) (messages p)) (w.transit c d) (total_zero (λ d. weigh (λ p. weigh (h c d) (messages p)) (w.transit c d)) n (rings c l) d m));
      }

  pub every_all : (n : ℕ) (P : ℕ → ℕ → ℕ → M → Type 0) (w : World B M Q) → ((i : ℕ) → i < n → Everywhere messages (P i) n w) → Everywhere messages (λ from to m. (i : ℕ) → i < n → P i from to m) n w
  every_all n P w v = record {
    inboxes = λ c l. Each-all n (λ (i : ℕ) (x : Letter M). P i x.from c x.message) (w.cores c).inbox (λ i b. (v i b).inboxes c l);
    buffers = λ c d l m. Each-all n (λ (i : ℕ) (x : M). P i c d x) ((w.cores c).buffers d) (λ i b. (v i b).buffers c d l m);
    transits = λ c d l m. Each-map (λ (p : Q). (i : ℕ) → i < n → Each (P i c d) (messages p)) (λ p. Each (λ x. (i : ℕ) → i < n → P i c d x) (messages p)) (λ p. Each-all n (λ (i : ℕ) (x : M). P i c d x) (messages p)) (w.transit c d)
        (Each-all n (λ (i : ℕ) (p : Q). Each (P i c d) (messages p)) (w.transit c d) (λ i b. (v i b).transits c d l m));
  }

  pub flight_none : (h : ℕ → ℕ → M → ℕ) (n : ℕ) (w : World B M Q) → Everywhere messages (λ from to m. h from to m ≡ 0) n w → flight messages h n w ≡ 0
  unfolding flight
  flight_none h n w v =
      let cores : total n (λ c. core_flight h n c (w.cores c)) ≡ 0 = total_none (λ c. core_flight h n c (w.cores c)) n (λ c l.
      omega (arith, weigh_none (λ (x : Letter M). h x.from c x.message) (w.cores c).inbox (v.inboxes c l), total_none (λ d. weigh (h c d) ((w.cores c).buffers d)) n (λ d m. weigh_none (h c d) ((w.cores c).buffers d) (v.buffers c d l m)))) in
      let rings : total n (λ c. ring_flight messages h n c (w.transit c)) ≡ 0 = total_none (λ c. ring_flight messages h n c (w.transit c)) n (λ c l.
      total_none (λ d. weigh (λ p. weigh (h c d) (messages p)) (w.transit c d)) n (λ d m. weigh_none (λ (p : Q). weigh (h c d) (messages p)) (w.transit c d) (Each-map (λ (p : Q). Each (λ x. h c d x ≡ 0) (messages p)) (λ p. weigh (h c d) (messages p) ≡ 0) (λ p. weigh_none (h c d) (messages p)) (w.transit c d) (v.transits c d l m)))) in
      omega arith
