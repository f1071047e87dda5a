-- What stays between the mails of two cores while they meet others.
use Rattle.std.proofs.Common.{◌≡◌, ◌≢◌, ◌++◌, ℕ, List, length, ap, ◌∙◌, sym, refl, subst, arith, inl, inr, append_assoc}
use Rattle.std.proofs.lemmas.Bool.{cases_eq}
use mathlib.Core.List.{IsPrefix}
use Rattle.gr_view.proofs.Puts.{put_other}
use Rattle.gr_mail.proofs.Ends.{prefix_self}
use Rattle.gr_mail.specs.declared.mail.Mail.{Mail}
use Rattle.gr_mail.specs.Rings.{HaveMet, LookedAt, free_to, known_from, owner, received_from, sent_to}

-- All that is known of the rings between it and that core is as it was.
pub record SameAt (core : ℕ) (before after : Mail) : Type 0 where
  pub owner : owner after ≡ owner before
  pub sent : sent_to after ≡ sent_to before
  pub free : free_to after core ≡ free_to before core
  pub received : received_from after ≡ received_from before
  pub known : known_from after core ≡ known_from before core

pub same_self : (core : ℕ) (mail : Mail) → SameAt core mail mail
same_self core mail = record { owner = refl; sent = refl; free = refl; received = refl; known = refl }

-- A look at the rings of another core leaves it.
pub same_looked : (there core : ℕ) (before after : Mail) → core ≢ there → LookedAt there before after → SameAt core before after
same_looked there core before after other looked = record {
  owner = looked.rings.owner;
  sent = looked.sent;
  free = ap (λ f. f core) looked.free ∙ put_other (free_to before) there (free_to after there) core other;
  received = looked.received;
  known = ap (λ f. f core) looked.known ∙ put_other (known_from before) there (known_from after there) core other;
}

-- Two that have met still have.
pub met_same : (one other one_after other_after : Mail) → SameAt (owner other) one one_after → SameAt (owner one) other other_after → HaveMet one other
    → HaveMet one_after other_after
met_same one other one_after other_after s t met = record {
  known = ap (λ core. received_from other_after core ++ known_from other_after core) s.owner
      ∙ ap (λ f. f (owner one) ++ known_from other_after (owner one)) t.received
      ∙ ap (λ packets. received_from other (owner one) ++ packets) t.known
      ∙ met.known ∙ ap (λ f. f (owner other)) (sym s.sent) ∙ ap (sent_to one_after) (sym t.owner);
  free = omega (arith, met.free, ap (free_to one_after) t.owner, s.free, ap (λ core. length (known_from other_after core)) s.owner, ap length t.known);
}

prefix_after : {X : Type 0} (first xs ys : List X) → IsPrefix xs ys → IsPrefix (first ++ xs) (first ++ ys)
prefix_after first xs ys p = (p.0, append_assoc first xs p.0 ∙ ap (λ zs. first ++ zs) p.1)

pub prefix_twice : {X : Type 0} (xs ys zs : List X) → IsPrefix xs ys → IsPrefix ys zs → IsPrefix xs zs
prefix_twice xs ys zs s t = (s.0 ++ t.0, sym (append_assoc xs s.0 t.0) ∙ ap (λ ws. ws ++ t.0) s.1 ∙ t.1)

-- What was known at a look is still known.
still_known : (there core : ℕ) (before after : Mail) → LookedAt there before after → IsPrefix (known_from before core) (known_from after core)
still_known there core before after looked = elim (cases_eq core there) [
  | inl e ↦ subst (λ k. IsPrefix (known_from before k) (known_from after k)) (sym e) looked.still
  | inr n ↦ subst (IsPrefix (known_from before core)) (sym (same_looked there core before after n looked).known) (prefix_self (known_from before core))
]

pub kept_looked : (there core : ℕ) (before after : Mail) → LookedAt there before after
    → IsPrefix (received_from before core ++ known_from before core) (received_from after core ++ known_from after core)
kept_looked there core before after looked =
    subst (λ f. IsPrefix (received_from before core ++ known_from before core) (f core ++ known_from after core)) (sym looked.received)
    (prefix_after (received_from before core) (known_from before core) (known_from after core) (still_known there core before after looked))
