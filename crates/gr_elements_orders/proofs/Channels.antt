-- What an outcome at a core does to the order of messages.
use Rattle.std.proofs.Common.{◌≡◌, ◌≢◌, ◌⊎◌, ℕ, zero, suc, ◌+◌, ◌<◌, ◌==◌, List, [], ◌∷◌, ◌++◌, sym, ◌∙◌, ap, subst, refl, arith, inl, inr, false}
use Rattle.std.specs.Prelude.{Some}
use Rattle.std.proofs.lemmas.Bool.{cases_eq, cond_both, eqb-true}
use Rattle.std.proofs.lemmas.Bool.Decides.{nat_tests}
use Rattle.gr_view.specs.Places.{put}
use Rattle.gr_net.specs.Messages.{Letter, Send}
use Rattle.gr_net.specs.Sums.{weigh}
use Rattle.gr_net.specs.Worlds.{Core, World, Joining, sent, sent_all, with_inbox, with_buffer, with_body, put_core, acted, Without}
use Rattle.gr_net.specs.Flights.{AddsUp}
use Rattle.gr_net.proofs.Spreads.{put_at, put_other, put_each, put_field, weigh-append, Each-zero}
use Rattle.gr_elements_orders.specs.Orders.{came, went, unpacked, channel, InOrder, KeepsOrder}
use Rattle.gr_elements_orders.specs.Laws as laws
use Rattle.gr_elements_orders.proofs.Lists.{append_assoc, append_nil, order_append, order_drop, came-append, came_one, came_other, channel_every}

never : (a b : ℕ) → b ≡ a → (a == b) ≡ false → ⊥
never a b e q = grind (arith, nat_tests)

some_or_none : (a : ℕ) → (a ≡ 0) ⊎ (0 < a)
some_or_none zero = inl refl
some_or_none (suc a) = inr (omega arith)

-- ---- messages that are sent behind others

module _ {M : Type 0} (early late : M → ℕ) where
  record Follows (xs ys ms : List M) : Type 0 where
    first : weigh early ys ≡ weigh early xs + weigh early ms
    last : weigh late ys ≡ weigh late xs + weigh late ms
    order : InOrder early late xs → InOrder early late ms → (weigh late xs ≡ 0) ⊎ (weigh early ms ≡ 0) → InOrder early late ys

  none_follow : (xs : List M) → Follows xs xs []
  none_follow xs = record { first = omega arith; last = omega arith; order = λ a b z. a }

  one_follows : (xs : List M) (m : M) → Follows xs (xs ++ m ∷ []) (m ∷ [])
  one_follows xs m = record { first = weigh-append early xs (m ∷ []); last = weigh-append late xs (m ∷ []); order = λ a b z. order_append early late xs (m ∷ []) a b z }

  more_follow : (xs ys zs : List M) (m : M) (ms : List M) → Follows xs ys (m ∷ []) → Follows ys zs ms → Follows xs zs (m ∷ ms)
  more_follow xs ys zs m ms one more = record {
    first = omega (arith, one.first, more.first);
    last = omega (arith, one.last, more.last);
    order = λ a b z. more.order (one.order a (λ l. refl, tt) (begins z)) b.1 (goes z b.0 (some_or_none (late m)));
  }
    where
      begins : (weigh late xs ≡ 0) ⊎ (weigh early (m ∷ ms) ≡ 0) → (weigh late xs ≡ 0) ⊎ (weigh early (m ∷ []) ≡ 0)
      begins (inl z) = inl z
      begins (inr z) = inr (omega (arith, z))

      goes : (weigh late xs ≡ 0) ⊎ (weigh early (m ∷ ms) ≡ 0) → (0 < late m → weigh early ms ≡ 0) → (late m ≡ 0) ⊎ (0 < late m) → (weigh late ys ≡ 0) ⊎ (weigh early ms ≡ 0)
      goes z f (inr l) = inr (f l)
      goes (inr z) f (inl q) = inr (omega (arith, z))
      goes (inl z) f (inl q) = inl (omega (arith, z, q, one.last))

  module _ (join : Joining M) (adds : AddsUp join early) (adds_late : AddsUp join late) (keeps : KeepsOrder join early late) where
    order_join : (front xs : List M) (m : M) → InOrder early late (front ++ xs) → (weigh late (front ++ xs) ≡ 0) ⊎ (early m ≡ 0) → InOrder early late (front ++ join xs m)
    order_join [] xs m a z = keeps xs m a z
    order_join (f ∷ front) xs m a z = (head z, order_join front xs m a.1 (rest z))
      where
        rest : (weigh late (f ∷ (front ++ xs)) ≡ 0) ⊎ (early m ≡ 0) → (weigh late (front ++ xs) ≡ 0) ⊎ (early m ≡ 0)
        rest (inl z) = inl (omega (arith, z))
        rest (inr z) = inr z

        head : (weigh late (f ∷ (front ++ xs)) ≡ 0) ⊎ (early m ≡ 0) → 0 < late f → weigh early (front ++ join xs m) ≡ 0
        head (inl z) l = absurd (omega (arith, z, l))
        head (inr z) l = omega (arith, a.0 l, z, weigh-append early front xs, weigh-append early front (join xs m), adds xs m)

    joined_follows : (front xs : List M) (m : M) → Follows (front ++ xs) (front ++ join xs m) (m ∷ [])
    joined_follows front xs m = record {
      first = omega (arith, weigh-append early front xs, weigh-append early front (join xs m), adds xs m);
      last = omega (arith, weigh-append late front xs, weigh-append late front (join xs m), adds_late xs m);
      order = λ a b z. order_join front xs m a (only z);
    }
      where
        only : (weigh late (front ++ xs) ≡ 0) ⊎ (weigh early (m ∷ []) ≡ 0) → (weigh late (front ++ xs) ≡ 0) ⊎ (early m ≡ 0)
        only (inl z) = inl z
        only (inr z) = inr (omega (arith, z))

-- ---- another core in the place of one

module _ {B M Q : Type 0} (messages : Q → List M) (w : World B M Q) (c : ℕ) where
  pub channel_core : (a b : Core B M) (i d : ℕ) → (d ≡ c → came i b.inbox ≡ came i a.inbox) → (i ≡ c → b.buffers d ≡ a.buffers d) → channel messages (put_core w c b) i d ≡ channel messages (put_core w c a) i d
  channel_core a b i d inbox buffer =
      ap (λ xs. xs ++ (unpacked messages (w.transit i d) ++ (put w.cores c b i).buffers d)) came_same ∙ ap (λ xs. came i (put w.cores c a d).inbox ++ (unpacked messages (w.transit i d) ++ xs)) buffer_same
    where
      came_same : came i (put w.cores c b d).inbox ≡ came i (put w.cores c a d).inbox
      came_same = elim (cases_eq d c) [
        | inl q ↦ ap (λ (x : Core B M). came i x.inbox) (put_at w.cores c b d q) ∙ inbox q ∙ ap (λ (x : Core B M). came i x.inbox) (sym (put_at w.cores c a d q))
        | inr q ↦ ap (λ (x : Core B M). came i x.inbox) (put_other w.cores c b d q ∙ sym (put_other w.cores c a d q))
      ]

      buffer_same : (put w.cores c b i).buffers d ≡ (put w.cores c a i).buffers d
      buffer_same = elim (cases_eq i c) [
        | inl q ↦ ap (λ (x : Core B M). x.buffers d) (put_at w.cores c b i q) ∙ buffer q ∙ ap (λ (x : Core B M). x.buffers d) (sym (put_at w.cores c a i q))
        | inr q ↦ ap (λ (x : Core B M). x.buffers d) (put_other w.cores c b i q ∙ sym (put_other w.cores c a i q))
      ]

  module _ (join : Joining M) where
    channel_kept : (core : Core B M) (s : Send M) (i d : ℕ) → (i ≡ c → d ≡ s.to → ⊥) → channel messages (put_core w c (sent join c core s)) i d ≡ channel messages (put_core w c core) i d
    channel_kept core s i d ne = cond_both (s.to == c) _ _ (λ (x : Core B M). channel messages (put_core w c x) i d ≡ channel messages (put_core w c core) i d)
        (λ e. channel_core core (with_inbox core (core.inbox ++ record { from = c; message = s.message } ∷ [])) i d
        (λ q. came-append i core.inbox (record { from = c; message = s.message } ∷ []) ∙ ap (λ xs. came i core.inbox ++ xs) (came_other i (record { from = c; message = s.message }) [] (λ r. ne (sym r) (q ∙ sym (eqb-true s.to c e)))) ∙ append_nil (came i core.inbox))
        (λ q. refl))
        (λ e. channel_core core (with_buffer core s.to (join (core.buffers s.to) s.message)) i d
        (λ q. refl)
        (λ q. put_other core.buffers s.to (join (core.buffers s.to) s.message) d (ne q)))

    own_send : (core : Core B M) (s : Send M) → (sent join c core s).buffers c ≡ core.buffers c
    own_send core s = cond_both (s.to == c) _ _ (λ (x : Core B M). x.buffers c ≡ core.buffers c) (λ e. refl) (λ e. put_other core.buffers s.to (join (core.buffers s.to) s.message) c (λ q. never s.to c q e))

    own_send_all : (core : Core B M) (ss : List (Send M)) → (sent_all join c core ss).buffers c ≡ core.buffers c
    own_send_all core [] = refl
    own_send_all core (s ∷ ss) = own_send_all (sent join c core s) ss ∙ own_send core s

    channel_kept_all : (core : Core B M) (ss : List (Send M)) (i d : ℕ) → i ≢ c → channel messages (put_core w c (sent_all join c core ss)) i d ≡ channel messages (put_core w c core) i d
    channel_kept_all core [] i d ne = refl
    channel_kept_all core (s ∷ ss) i d ne = channel_kept_all (sent join c core s) ss i d ne ∙ channel_kept core s i d (λ q r. ne q)

    module _ (early late : M → ℕ) (adds : AddsUp join early) (adds_late : AddsUp join late) (keeps : KeepsOrder join early late) (ring : unpacked messages (w.transit c c) ≡ []) where
      -- A message to the core itself is the last of its channel.
      to_self : (core : Core B M) (m : M) → core.buffers c ≡ [] → channel messages (put_core w c (with_inbox core (core.inbox ++ record { from = c; message = m } ∷ []))) c c ≡ channel messages (put_core w c core) c c ++ m ∷ []
      to_self core m buffer =
          let full : Core B M = with_inbox core (core.inbox ++ record { from = c; message = m } ∷ []) in
          let bare : (x : Core B M) → x.buffers ≡ core.buffers → channel messages (put_core w c x) c c ≡ came c x.inbox = λ x same.
          ap (λ (y : Core B M). came c y.inbox ++ (unpacked messages (w.transit c c) ++ y.buffers c)) (put_at w.cores c x c refl)
          ∙ ap (λ (r : List M). came c x.inbox ++ (r ++ x.buffers c)) ring ∙ ap (λ (f : ℕ → List M). came c x.inbox ++ f c) same ∙ ap (λ (r : List M). came c x.inbox ++ r) buffer ∙ append_nil (came c x.inbox) in
          bare full refl ∙ came-append c core.inbox (record { from = c; message = m } ∷ []) ∙ ap (λ xs. came c core.inbox ++ xs) (came_one c (record { from = c; message = m }) [] refl)
          ∙ ap (λ xs. xs ++ m ∷ []) (sym (bare core refl))

      -- A message to another core joins the buffer, which is the end of its channel.
      parted : (x : Core B M) (d : ℕ) → channel messages (put_core w c x) c d ≡ (came c (put w.cores c x d).inbox ++ unpacked messages (w.transit c d)) ++ x.buffers d
      parted x d = sym (append_assoc (came c (put w.cores c x d).inbox) (unpacked messages (w.transit c d)) ((put w.cores c x c).buffers d))
          ∙ ap (λ (y : Core B M). (came c (put w.cores c x d).inbox ++ unpacked messages (w.transit c d)) ++ y.buffers d) (put_at w.cores c x c refl)

      to_other : (core : Core B M) (d : ℕ) (m : M) → Follows early late (channel messages (put_core w c core) c d) (channel messages (put_core w c (with_buffer core d (join (core.buffers d) m))) c d) (m ∷ [])
      to_other core d m =
          let full : Core B M = with_buffer core d (join (core.buffers d) m) in
          let front : List M = came c (put w.cores c core d).inbox ++ unpacked messages (w.transit c d) in
          let inbox : came c (put w.cores c full d).inbox ≡ came c (put w.cores c core d).inbox = put_same_inbox full core refl d in
          let now : channel messages (put_core w c full) c d ≡ front ++ join (core.buffers d) m
          = parted full d ∙ ap (λ (xs : List M). (xs ++ unpacked messages (w.transit c d)) ++ full.buffers d) inbox ∙ ap (λ (xs : List M). front ++ xs) (put_at core.buffers d (join (core.buffers d) m) d refl) in
          subst (λ (xs : List M). Follows early late xs (channel messages (put_core w c full) c d) (m ∷ [])) (sym (parted core d))
          (subst (λ (ys : List M). Follows early late (front ++ core.buffers d) ys (m ∷ [])) (sym now) (joined_follows early late join adds adds_late keeps front (core.buffers d) m))
        where
          put_same_inbox : (a b : Core B M) → a.inbox ≡ b.inbox → (d : ℕ) → came c (put w.cores c a d).inbox ≡ came c (put w.cores c b d).inbox
          put_same_inbox a b e d = elim (cases_eq d c) [
            | inl q ↦ ap (λ (x : Core B M). came c x.inbox) (put_at w.cores c a d q) ∙ ap (came c) e ∙ ap (λ (x : Core B M). came c x.inbox) (sym (put_at w.cores c b d q))
            | inr q ↦ ap (λ (x : Core B M). came c x.inbox) (put_other w.cores c a d q ∙ sym (put_other w.cores c b d q))
          ]

      channel_sent : (core : Core B M) (s : Send M) → core.buffers c ≡ [] → Follows early late (channel messages (put_core w c core) c s.to) (channel messages (put_core w c (sent join c core s)) c s.to) (s.message ∷ [])
      channel_sent core s buffer = cond_both (s.to == c) _ _ (λ (x : Core B M). Follows early late (channel messages (put_core w c core) c s.to) (channel messages (put_core w c x) c s.to) (s.message ∷ []))
          (λ e. subst (λ (d : ℕ). Follows early late (channel messages (put_core w c core) c d) (channel messages (put_core w c (with_inbox core (core.inbox ++ record { from = c; message = s.message } ∷ []))) c d) (s.message ∷ [])) (sym (eqb-true s.to c e))
          (subst (λ (ys : List M). Follows early late (channel messages (put_core w c core) c c) ys (s.message ∷ [])) (sym (to_self core s.message buffer)) (one_follows early late (channel messages (put_core w c core) c c) s.message)))
          (λ e. to_other core s.to s.message)

      channel_sent_all : (core : Core B M) (ss : List (Send M)) (d : ℕ) → core.buffers c ≡ [] → Follows early late (channel messages (put_core w c core) c d) (channel messages (put_core w c (sent_all join c core ss)) c d) (went d ss)
      channel_sent_all core [] d buffer = none_follow early late (channel messages (put_core w c core) c d)
      channel_sent_all core (s ∷ ss) d buffer =
          let next : Core B M = sent join c core s in
          let rest = channel_sent_all next ss d (own_send core s ∙ buffer) in
          cond_both (s.to == d) _ _ (λ (ms : List M). Follows early late (channel messages (put_core w c core) c d) (channel messages (put_core w c (sent_all join c next ss)) c d) ms)
          (λ e. more_follow early late (channel messages (put_core w c core) c d) (channel messages (put_core w c next) c d) (channel messages (put_core w c (sent_all join c next ss)) c d) s.message (went d ss)
          (subst (λ (t : ℕ). Follows early late (channel messages (put_core w c core) c t) (channel messages (put_core w c next) c t) (s.message ∷ [])) (eqb-true s.to d e) (channel_sent core s buffer)) rest)
          (λ e. subst (λ (xs : List M). Follows early late xs (channel messages (put_core w c (sent_all join c next ss)) c d) (went d ss)) (channel_kept core s c d (λ q r. never s.to d r e)) rest)

-- ---- letters that are taken up

module _ {B M Q : Type 0} (messages : Q → List M) (w : World B M Q) (c : ℕ) (core : Core B M) (got : List (Letter M)) (t : Without w c core got) where
  buffers_same : (i d : ℕ) → (put w.cores c core i).buffers d ≡ (w.cores i).buffers d
  buffers_same i d = put_field (λ (x : Core B M). x.buffers d) w.cores c core (ap (λ (f : ℕ → List M). f d) t.buffers) i

  pub channel_off : (i : ℕ) → channel messages w i c ≡ came i got ++ channel messages (put_core w c core) i c
  channel_off i = ap (λ xs. came i xs ++ (unpacked messages (w.transit i c) ++ (w.cores i).buffers c)) t.inbox
      ∙ ap (λ xs. xs ++ (unpacked messages (w.transit i c) ++ (w.cores i).buffers c)) (came-append i got core.inbox)
      ∙ append_assoc (came i got) (came i core.inbox) (unpacked messages (w.transit i c) ++ (w.cores i).buffers c)
      ∙ ap (λ (x : Core B M). came i got ++ (came i x.inbox ++ (unpacked messages (w.transit i c) ++ (w.cores i).buffers c))) (sym (put_at w.cores c core c refl))
      ∙ ap (λ xs. came i got ++ (came i (put w.cores c core c).inbox ++ (unpacked messages (w.transit i c) ++ xs))) (sym (buffers_same i c))

  channel_else : (i d : ℕ) → d ≢ c → channel messages w i d ≡ channel messages (put_core w c core) i d
  channel_else i d q = ap (λ xs. came i xs ++ (unpacked messages (w.transit i d) ++ (w.cores i).buffers d)) (sym (ap (λ (x : Core B M). x.inbox) (put_other w.cores c core d q)))
      ∙ ap (λ xs. came i (put w.cores c core d).inbox ++ (unpacked messages (w.transit i d) ++ xs)) (sym (buffers_same i d))

  module _ (early late : M → ℕ) (i d : ℕ) where
    order_off : InOrder early late (channel messages w i d) → InOrder early late (channel messages (put_core w c core) i d)
    order_off s = elim (cases_eq d c) [
      | inl q ↦ subst (λ d. InOrder early late (channel messages (put_core w c core) i d)) (sym q) (order_drop early late (came i got) (channel messages (put_core w c core) i c) (subst (InOrder early late) (channel_off i) (subst (λ d. InOrder early late (channel messages w i d)) q s)))
      | inr q ↦ subst (InOrder early late) (channel_else i d q) s
    ]

    none_off : weigh late (channel messages w i d) ≡ 0 → weigh late (channel messages (put_core w c core) i d) ≡ 0
    none_off s = elim (cases_eq d c) [
      | inl q ↦ subst (λ d. weigh late (channel messages (put_core w c core) i d) ≡ 0) (sym q)
          (omega (arith, weigh-append late (came i got) (channel messages (put_core w c core) i c), ap (weigh late) (channel_off i), subst (λ d. weigh late (channel messages w i d) ≡ 0) q s))
      | inr q ↦ subst (λ (xs : List M). weigh late xs ≡ 0) (channel_else i d q) s
    ]

-- ---- the laws

pub own_kept : {S M P E : Type 0} → laws.OutcomesKeepOwn S M P E
own_kept {S} {M} {P} {E} messages join w c core got t e own i = (
  put_each (λ (i : ℕ) (x : Core S M). x.buffers i ≡ []) w.cores c (acted join c core (Some e)) i
      (λ q. subst (λ (i : ℕ). (acted join c core (Some e)).buffers i ≡ []) (sym q) (own_send_all messages w c join (with_body core e.body) e.sends ∙ ap (λ (f : ℕ → List M). f c) t.buffers ∙ (own c).0))
      (λ q. (own i).0),
  (own i).1,
)

pub order_kept : {S M P E : Type 0} → laws.OutcomesKeepOrder S M P E
order_kept {S} {M} {P} {E} messages join early late adds adds_late keeps w c core got t e own i d old new = elim (cases_eq i c) [
  | inl q ↦ subst (λ (i : ℕ). InOrder early late (channel messages (put_core w c (acted join c core (Some e))) i d)) (sym q) (from_here (subst (λ (i : ℕ). InOrder early late (channel messages w i d)) q old) (new q).0 (here q (new q).1))
  | inr q ↦ subst (InOrder early late) (sym (channel_kept_all messages w c join bare e.sends i d q ∙ same_bare i)) (order_off messages w c core got t early late i d old)
]
  where
    bare : Core S M
    bare = with_body core e.body

    same_bare : (i : ℕ) → channel messages (put_core w c bare) i d ≡ channel messages (put_core w c core) i d
    same_bare i = channel_core messages w c core bare i d (λ q. refl) (λ q. refl)

    here : i ≡ c → (weigh late (channel messages w i d) ≡ 0) ⊎ (weigh early (went d e.sends) ≡ 0) → (weigh late (channel messages w c d) ≡ 0) ⊎ (weigh early (went d e.sends) ≡ 0)
    here q (inl z) = inl (subst (λ (i : ℕ). weigh late (channel messages w i d) ≡ 0) q z)
    here q (inr z) = inr z

    off : (weigh late (channel messages w c d) ≡ 0) ⊎ (weigh early (went d e.sends) ≡ 0) → (weigh late (channel messages (put_core w c bare) c d) ≡ 0) ⊎ (weigh early (went d e.sends) ≡ 0)
    off (inl z) = inl (ap (weigh late) (same_bare c) ∙ none_off messages w c core got t early late c d z)
    off (inr z) = inr z

    from_here : InOrder early late (channel messages w c d) → InOrder early late (went d e.sends) → (weigh late (channel messages w c d) ≡ 0) ⊎ (weigh early (went d e.sends) ≡ 0) → InOrder early late (channel messages (put_core w c (acted join c core (Some e))) c d)
    from_here s f z = (channel_sent_all messages w c join early late adds adds_late keeps (own c).1 bare e.sends d (ap (λ (f : ℕ → List M). f c) t.buffers ∙ (own c).0)).order
        (subst (InOrder early late) (sym (same_bare c)) (order_off messages w c core got t early late c d s)) f (off z)

pub none_behind : {S M P : Type 0} → laws.NoneIsBehind S M P
none_behind messages early late n w c core l t s g = channel_every messages (λ m. early m ≡ 0) n (put_core w c core) l.from c (Each-zero early (channel messages (put_core w c core) l.from c) none)
  where
    none : weigh early (channel messages (put_core w c core) l.from c) ≡ 0
    none = (subst (InOrder early late) (channel_off messages w c core (l ∷ []) t l.from ∙ ap (λ xs. xs ++ channel messages (put_core w c core) l.from c) (came_one l.from l [] refl)) s).0 g
