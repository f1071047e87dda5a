-- Mails from rings.
use Rattle.std.proofs.Common.{◌≡◌, ℕ, ◌<◌, ◌≤◌, ◌⊎◌, List, [], length, get_or, inl, inr, ap, sym, ◌∙◌, refl, subst, arith, Vec, Option, Some, None, IsSome}
use mathlib.Core.Path.{fun_ext}
use Rattle.std.proofs.lemmas.List.{get_or_past}
use Rattle.rtrb.specs.Ring.{IsPair, producer_capacity}
use Rattle.gr_view.specs.Places.{at_place}
use Rattle.gr_view.proofs.Puts.{place_is}
use Rattle.gr_mail.specs.declared.mail.Mail.{Mail}
use Rattle.gr_mail.specs.declared.mail.TheConstants.{RING_PACKETS}
use Rattle.gr_mail.specs.Ends.{AreBoth, ReceivingEnd, SendingEnd, free_on, known_on, received_on, sent_on}
use Rattle.gr_mail.specs.EndsView.{AreEnds, HaveRoom, IsBetween, IsFresh}
use Rattle.gr_mail.specs.BoxesView.{AreAssembled, AreEndsOfMails, AreGrid}
use Rattle.gr_mail.specs.Boxes.{AreMailboxes, IsNew}
use Rattle.gr_mail.specs.Rings.{RingFrom, owner}
use Rattle.gr_mail.proofs.Grids.{some_item}

none_sent : (x : Option SendingEnd) (y : Option ReceivingEnd) → AreBoth IsFresh x y → sent_on x ≡ []
none_sent None y f = refl
none_sent (Some p) None f = absurd f
none_sent (Some p) (Some q) f = f.sent

none_received : (x : Option SendingEnd) (y : Option ReceivingEnd) → AreBoth IsFresh x y → received_on y ≡ []
none_received None None f = refl
none_received None (Some q) f = absurd f
none_received (Some p) None f = absurd f
none_received (Some p) (Some q) f = f.received

none_known : (x : Option SendingEnd) (y : Option ReceivingEnd) → AreBoth IsFresh x y → known_on y ≡ []
none_known None None f = refl
none_known None (Some q) f = absurd f
none_known (Some p) None f = absurd f
none_known (Some p) (Some q) f = f.known

all_free : (x : Option SendingEnd) (y : Option ReceivingEnd) → AreBoth IsFresh x y → IsSome x → free_on x ≡ RING_PACKETS
all_free None y f s = absurd (cc)
all_free (Some p) None f s = absurd f
all_free (Some p) (Some q) f s = f.free

has_room : (x : Option SendingEnd) (y : Option ReceivingEnd) (end : SendingEnd) → AreBoth IsFresh x y → x ≡ Some end → producer_capacity end ≡ RING_PACKETS
has_room None y end f e = absurd (cc)
has_room (Some p) None end f e = absurd f
has_room (Some p) (Some q) end f e = let w : p ≡ end = cc in subst (λ s. producer_capacity s ≡ RING_PACKETS) w f.room

are_pair : (x : Option SendingEnd) (y : Option ReceivingEnd) → AreBoth IsFresh x y → AreBoth IsPair x y
are_pair None None f = tt
are_pair None (Some q) f = absurd f
are_pair (Some p) None f = absurd f
are_pair (Some p) (Some q) f = f.pair

both_there : (x : Option SendingEnd) (y : Option ReceivingEnd) → AreBoth IsFresh x y → IsSome x → IsSome y
both_there None y f s = absurd (cc)
both_there (Some p) None f s = absurd f
both_there (Some p) (Some q) f s = refl

no_end : {X : Type 0} (x : Option X) (y : X) → x ≡ None → x ≡ Some y → ⊥
no_end x y e f = cc

beyond : {X : Type 0} (xs : List (Option X)) (n k : ℕ) → length xs ≡ n → n ≤ k → at_place None xs k ≡ None
beyond xs n k l h = place_is None xs k ∙ get_or_past xs k None (omega arith)

module _ {A B : Type 0} (count : ℕ) (outs : List (Vec (Option SendingEnd) A)) (ins : List (Vec (Option ReceivingEnd) B)) (g : AreGrid count count outs ins) where
  an_out : (k : ℕ) → k < count → Vec (Option SendingEnd) A
  an_out k h = some_item outs k (omega (arith, g.outs_len))

  an_in : (k : ℕ) → k < count → Vec (Option ReceivingEnd) B
  an_in k h = some_item ins k (omega (arith, g.ins_len))

  placed : (from to : ℕ) (d : Vec (Option SendingEnd) A) (e : Vec (Option ReceivingEnd) B) → from < count → to < count
      → IsBetween from to (at_place None (get_or outs from d).items to) (at_place None (get_or ins to e).items from)
  placed from to d e h k = rw (place_is None (get_or outs from d).items to, place_is None (get_or ins to e).items from) (g.rings from to d e h k)

  sends : (k : ℕ) (d : Vec (Option SendingEnd) A) → k < count → AreEnds count k (get_or outs k d).items
  sends k d h = record {
    there = λ core l n. (placed k core d (an_in core l) h l).there (λ e. n (sym e));
    own = ((placed k k d (an_in k h) h h).own refl).0;
  }

  receives : (k : ℕ) (d : Vec (Option ReceivingEnd) B) → k < count → AreEnds count k (get_or ins k d).items
  receives k d h = record {
    there = λ core l n. let b = placed core k (an_out core l) d l h in both_there _ _ b.ring (b.there n);
    own = ((placed k k (an_out k h) d h h).own refl).1;
  }

  rooms : (k : ℕ) (d : Vec (Option SendingEnd) A) → k < count → HaveRoom (get_or outs k d).items
  rooms k d h core end e =
      let t : (core < count) ⊎ (count ≤ core) = grind arith in
      elim t [
        | inl l ↦ has_room _ _ end (placed k core d (an_in core l) h l).ring e
        | inr l ↦ absurd (no_end _ end (beyond (get_or outs k d).items count core (g.out_len k d h) l) e)
      ]

  pub are_ends : AreEndsOfMails count outs ins
  are_ends = record {
    same = g.outs_len ∙ sym g.ins_len;
    few = omega (arith, g.outs_len);
    out_len = λ k d h. omega (arith, g.outs_len, g.out_len k d (omega (arith, g.outs_len)), (get_or outs k d).ok.0);
    in_len = λ k d h. omega (arith, g.ins_len, g.in_len k d (omega (arith, g.ins_len)), (get_or ins k d).ok.0);
    sends = λ k d h. sends k d (omega (arith, g.outs_len));
    receives = λ k d h. receives k d (omega (arith, g.ins_len));
    rooms = λ k d h. rooms k d (omega (arith, g.outs_len));
  }

  module _ (ms : List Mail) (a : AreAssembled outs ins ms) where
    all_len : length ms ≡ count
    all_len = a.len ∙ g.outs_len

    outs_are : (i : ℕ) (d : Mail) (h : i < count) → (get_or ms i d).outs.items ≡ (get_or outs i (an_out i h)).items
    outs_are i d h = a.outs i d (an_out i h) (omega (arith, all_len))

    ins_are : (i : ℕ) (d : Mail) (h : i < count) → (get_or ms i d).ins.items ≡ (get_or ins i (an_in i h)).items
    ins_are i d h = a.ins i d (an_in i h) (omega (arith, all_len))

    ring : (i j : ℕ) (d e : Mail) → i < count → j < count → IsBetween i j (at_place None (get_or ms i d).outs.items j) (at_place None (get_or ms j e).ins.items i)
    ring i j d e h k =
        subst (λ xs. IsBetween i j (at_place None xs j) (at_place None (get_or ms j e).ins.items i)) (sym (outs_are i d h))
        (subst (λ ys. IsBetween i j (at_place None (get_or outs i (an_out i h)).items j) (at_place None ys i)) (sym (ins_are j e k)) (placed i j (an_out i h) (an_in j k) h k))

    out_beyond : (i j : ℕ) (d : Mail) → i < count → count ≤ j → at_place None (get_or ms i d).outs.items j ≡ None
    out_beyond i j d h l = beyond (get_or ms i d).outs.items count j (ap length (outs_are i d h) ∙ g.out_len i (an_out i h) h) l

    in_beyond : (j i : ℕ) (d : Mail) → j < count → count ≤ i → at_place None (get_or ms j d).ins.items i ≡ None
    in_beyond j i d h l = beyond (get_or ms j d).ins.items count i (ap length (ins_are j d h) ∙ g.in_len j (an_in j h) h) l

    cores_are : (k : ℕ) (d : Mail) → k < count → (get_or ms k d).outs.len ≡ count
    cores_are k d h = omega (arith, (get_or ms k d).outs.ok.0, ap length (outs_are k d h), g.out_len k (an_out k h) h)

    owner_is : (k : ℕ) (d : Mail) → k < count → owner (get_or ms k d) ≡ k
    owner_is k d h = a.owner k d (omega (arith, all_len))

    seen_out : {Y : Type 0} (f : Option SendingEnd → Y) (y : Y) → f None ≡ y → ((x : Option SendingEnd) (z : Option ReceivingEnd) → AreBoth IsFresh x z → f x ≡ y)
        → (k : ℕ) (d : Mail) → k < count → ◌≡◌ {A = ℕ → Y} (λ core. f (at_place None (get_or ms k d).outs.items core)) (λ core. y)
    seen_out f y n s k d h = fun_ext (λ core.
        let t : (core < count) ⊎ (count ≤ core) = grind arith in
        elim t [
          | inl l ↦ s _ _ (ring k core d d h l).ring
          | inr l ↦ ap f (out_beyond k core d h l) ∙ n
        ])

    seen_in : {Y : Type 0} (f : Option ReceivingEnd → Y) (y : Y) → f None ≡ y → ((x : Option SendingEnd) (z : Option ReceivingEnd) → AreBoth IsFresh x z → f z ≡ y)
        → (k : ℕ) (d : Mail) → k < count → ◌≡◌ {A = ℕ → Y} (λ core. f (at_place None (get_or ms k d).ins.items core)) (λ core. y)
    seen_in f y n s k d h = fun_ext (λ core.
        let t : (core < count) ⊎ (count ≤ core) = grind arith in
        elim t [
          | inl l ↦ s _ _ (ring core k d d l h).ring
          | inr l ↦ ap f (in_beyond k core d h l) ∙ n
        ])

    is_new : (k : ℕ) (d : Mail) → k < count → IsNew (get_or ms k d)
    is_new k d h = record {
      sent = seen_out sent_on [] refl none_sent k d h;
      free = λ core o.
          let l : core < count = omega (arith, cores_are k d h, o.0) in
          let b = ring k core d d h l in
          all_free _ _ b.ring (b.there (λ e. o.1 (sym e ∙ sym (owner_is k d h))));
      received = seen_in received_on [] refl none_received k d h;
      known = seen_in known_on [] refl none_known k d h;
    }

    ring_from : (i j : ℕ) (d e : Mail) → i < count → j < count → RingFrom (get_or ms i d) (get_or ms j e)
    ring_from i j d e h k =
        subst (λ to. AreBoth IsPair (at_place None (get_or ms i d).outs.items to) (at_place None (get_or ms j e).ins.items (owner (get_or ms i d)))) (sym (owner_is j e k))
        (subst (λ from. AreBoth IsPair (at_place None (get_or ms i d).outs.items j) (at_place None (get_or ms j e).ins.items from)) (sym (owner_is i d h))
        (are_pair _ _ (ring i j d e h k).ring))

    pub are_mailboxes : AreMailboxes count ms
    are_mailboxes = record {
      len = all_len;
      owner = owner_is;
      cores = cores_are;
      new = is_new;
      joined = λ i j d h k n. record {
        differ = λ e. n (sym (owner_is i d h) ∙ e ∙ owner_is j d k);
        cores = cores_are i d h ∙ sym (cores_are j d k);
        there = ring_from i j d d h k;
        back = ring_from j i d d k h;
      };
    }
