-- What stands between the mails of two cores after calls on them.
use Rattle.std.proofs.Common.{◌≡◌, ℕ, ◌++◌, ◌∷◌, [], List, length, Option, Some, None, ap, ◌∙◌, sym, refl, subst, arith, append_assoc}
use mathlib.Core.List.{IsPrefix}
use Rattle.rtrb.specs.Ring.{IsPair, SameConsumer, SameProducer}
use Rattle.gr_msg.specs.declared.packet.Packet.{Packet}
use Rattle.gr_view.specs.Places.{at_place, put}
use Rattle.gr_view.proofs.Puts.{put_put}
use Rattle.gr_mail.specs.declared.mail.Mail.{Mail}
use Rattle.gr_mail.specs.Ends.{AreBoth, ReceivingEnd, SendingEnd}
use Rattle.gr_mail.proofs.Ends.{all_same_consumers, all_same_producers}
use Rattle.gr_mail.specs.Rings.{AreJoined, HaveMet, IsOther, LookedAt, RingFrom, SameReceived, SameRings, SameSent, free_to, known_from, owner, received_from, sent_to}

producers_twice : (x y z : Option SendingEnd) → AreBoth SameProducer x y → AreBoth SameProducer y z → AreBoth SameProducer x z
producers_twice None None None s t = tt
producers_twice None None (Some c) s t = t
producers_twice None (Some b) z s t = absurd s
producers_twice (Some a) None z s t = absurd s
producers_twice (Some a) (Some b) None s t = t
producers_twice (Some a) (Some b) (Some c) s t =
    ((t.0.0 ∙ s.0.0, t.0.1 ∙ s.0.1, t.0.2 ∙ s.0.2, t.0.3 ∙ s.0.3), t.1 ∙ s.1)

consumers_twice : (x y z : Option ReceivingEnd) → AreBoth SameConsumer x y → AreBoth SameConsumer y z → AreBoth SameConsumer x z
consumers_twice None None None s t = tt
consumers_twice None None (Some c) s t = t
consumers_twice None (Some b) z s t = absurd s
consumers_twice (Some a) None z s t = absurd s
consumers_twice (Some a) (Some b) None s t = t
consumers_twice (Some a) (Some b) (Some c) s t =
    ((t.0.0 ∙ s.0.0, t.0.1 ∙ s.0.1, t.0.2 ∙ s.0.2, t.0.3 ∙ s.0.3), t.1 ∙ s.1)

pub rings_twice : (a b c : Mail) → SameRings a b → SameRings b c → SameRings a c
rings_twice a b c s t = record {
  owner = t.owner ∙ s.owner;
  cores = t.cores ∙ s.cores;
  outs = λ k. producers_twice _ _ _ (s.outs k) (t.outs k);
  ins = λ k. consumers_twice _ _ _ (s.ins k) (t.ins k);
}

prefix_twice : {X : Type 0} (xs ys zs : List X) → IsPrefix xs ys → IsPrefix ys zs → IsPrefix xs zs
prefix_twice xs ys zs s t = (s.0 ++ t.0, sym (append_assoc xs s.0 t.0) ∙ ap (λ ws. ws ++ t.0) s.1 ∙ t.1)

others_twice : {X : Type 0} (f g h : ℕ → X) (k : ℕ) → g ≡ put f k (g k) → h ≡ put g k (h k) → h ≡ put f k (h k)
others_twice f g h k s t = t ∙ ap (λ j. put j k (h k)) s ∙ put_put f k (g k) (h k)

pub looked_twice : (k : ℕ) (a b c : Mail) → LookedAt k a b → LookedAt k b c → LookedAt k a c
looked_twice k a b c s t = record {
  rings = rings_twice a b c s.rings t.rings;
  sent = t.sent ∙ s.sent;
  received = t.received ∙ s.received;
  free = others_twice (free_to a) (free_to b) (free_to c) k s.free t.free;
  known = others_twice (known_from a) (known_from b) (known_from c) k s.known t.known;
  no_fewer = omega (arith, s.no_fewer, t.no_fewer);
  still = prefix_twice (known_from a k) (known_from b k) (known_from c k) s.still t.still;
}

pair_still : (x x' : Option SendingEnd) (y y' : Option ReceivingEnd) → AreBoth SameProducer x x' → AreBoth SameConsumer y y' → AreBoth IsPair x y → AreBoth IsPair x' y'
pair_still None None None None s t e = tt
pair_still None None None (Some b') s t e = t
pair_still None None (Some b) y' s t e = absurd e
pair_still None (Some a') y y' s t e = absurd s
pair_still (Some a) None y y' s t e = absurd s
pair_still (Some a) (Some a') None y' s t e = absurd e
pair_still (Some a) (Some a') (Some b) None s t e = absurd t
pair_still (Some a) (Some a') (Some b) (Some b') s t e =
    (t.0.0 ∙ e.0 ∙ sym s.0.0, t.0.1 ∙ e.1 ∙ sym s.0.1, t.0.2 ∙ e.2 ∙ sym s.0.2, t.0.3 ∙ e.3 ∙ sym s.0.3)

pub ring_still : (a b c d : Mail) → SameRings a c → SameRings b d → RingFrom a b → RingFrom c d
ring_still a b c d s t e =
    subst (λ k. AreBoth IsPair (at_place None c.outs.items (owner d)) (at_place None d.ins.items k)) (sym s.owner)
    (subst (λ k. AreBoth IsPair (at_place None c.outs.items k) (at_place None d.ins.items (owner a))) (sym t.owner)
    (pair_still _ _ _ _ (s.outs (owner b)) (t.ins (owner a)) e))

pub joined_still : (a b c d : Mail) → SameRings a c → SameRings b d → AreJoined a b → AreJoined c d
joined_still a b c d s t e = record {
  differ = λ same. e.differ (sym s.owner ∙ same ∙ t.owner);
  cores = s.cores ∙ e.cores ∙ sym t.cores;
  there = ring_still a b c d s t e.there;
  back = ring_still b a d c t s e.back;
}

pub met_still : (a b c d : Mail) → owner c ≡ owner a → owner d ≡ owner b → SameSent a c → SameReceived b d → HaveMet a b → HaveMet c d
met_still a b c d i j s r e = record {
  known = ap (λ k. received_from d k ++ known_from d k) i ∙ ap (λ f. f (owner a) ++ known_from d (owner a)) r.0 ∙ ap (λ f. received_from b (owner a) ++ f (owner a)) r.1
      ∙ e.known ∙ ap (λ f. f (owner b)) (sym s.0) ∙ ap (sent_to c) (sym j);
  free = omega (arith, e.free, ap (free_to c) j, ap (λ f. f (owner b)) s.1, ap (λ k. length (known_from d k)) i, ap (λ f. length (f (owner a))) r.1);
}

pub received_first : (a b : Mail) → HaveMet a b → IsPrefix (received_from b (owner a)) (sent_to a (owner b))
received_first a b e = (known_from b (owner a), e.known)

grows : {X : Type 0} (old known new later : List X) (x : X) → new ≡ old ++ x ∷ [] → IsPrefix known (x ∷ later) → IsPrefix (old ++ known) (new ++ later)
grows old known new later x e p = (p.0, append_assoc old known p.0 ∙ ap (λ ys. old ++ ys) p.1 ∙ sym (append_assoc old (x ∷ []) later) ∙ ap (λ ys. ys ++ later) (sym e))

pub known_received : (before after : Mail) (from : ℕ) (packet : Packet) → received_from after from ≡ received_from before from ++ packet ∷ []
    → IsPrefix (known_from before from) (packet ∷ known_from after from)
    → IsPrefix (received_from before from ++ known_from before from) (received_from after from ++ known_from after from)
known_received before after from packet = grows (received_from before from) (known_from before from) (received_from after from) (known_from after from) packet

pub rings_self : (a : Mail) → SameRings a a
rings_self a = record { owner = refl; cores = refl; outs = λ k. all_same_producers a.outs.items k; ins = λ k. all_same_consumers a.ins.items k }

pub other_still : (a b : Mail) (k : ℕ) → SameRings a b → IsOther a k → IsOther b k
other_still a b k s o = (omega (arith, s.cores, o.0), λ e. o.1 (e ∙ s.owner))

pub ruleset after_calls = (rings_self, rings_twice, other_still, joined_still)
