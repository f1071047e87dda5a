-- The rings that are made, by sender and by receiver.
use Rattle.std.proofs.Common.{◌≡◌, ◌≢◌, ℕ, ◌+◌, ◌<◌, ◌⊎◌, List, [], ◌∷◌, ◌++◌, length, get_or, inl, inr, ap, ◌∙◌, refl, subst, arith, Vec, Option, Some, None}
use Rattle.std.proofs.lemmas.List.{get_or_push, get_or_append_left, length_push}
use Rattle.gr_mail.specs.Ends.{ReceivingEnd, SendingEnd}
use Rattle.gr_mail.specs.EndsView.{IsBetween, IsFresh}
use Rattle.gr_mail.specs.BoxesView.{AreDealt, AreGrid, AreRow}

pub no_ring : (from to : ℕ) → from ≡ to → IsBetween from to None None
no_ring from to e = record { own = λ _. (refl, refl); there = λ n. absurd (n e); ring = tt }

pub a_ring : (from to : ℕ) (sender : SendingEnd) (receiver : ReceivingEnd) → from ≢ to → IsFresh sender receiver → IsBetween from to (Some sender) (Some receiver)
a_ring from to sender receiver n f = record { own = λ e. absurd (n e); there = λ _. refl; ring = f }

pub row_grows : (from n : ℕ) (outs : List (Option SendingEnd)) (ins : List (Option ReceivingEnd)) (p : Option SendingEnd) (q : Option ReceivingEnd)
    → AreRow from n outs ins → IsBetween from n p q → AreRow from (n + 1) (outs ++ p ∷ []) (ins ++ q ∷ [])
row_grows from n outs ins p q r f = record {
  outs_len = omega (arith, length_push outs p, r.outs_len);
  ins_len = omega (arith, length_push ins q, r.ins_len);
  rings = λ k h.
      let t : (k < n) ⊎ (n ≡ k) = grind arith in
      elim t [
        | inl lt ↦ let e1 : get_or (outs ++ p ∷ []) k None ≡ get_or outs k None = get_or_append_left outs (p ∷ []) None k (omega (arith, r.outs_len)) in
            let e2 : get_or (ins ++ q ∷ []) k None ≡ get_or ins k None = get_or_append_left ins (q ∷ []) None k (omega (arith, r.ins_len)) in
            rw (e1, e2) (r.rings k lt)
        | inr eq ↦ let e1 : get_or (outs ++ p ∷ []) k None ≡ p = get_or_push outs p None k (r.outs_len ∙ eq) in
            let e2 : get_or (ins ++ q ∷ []) k None ≡ q = get_or_push ins q None k (r.ins_len ∙ eq) in
            rw (e1, e2) (subst (λ j. IsBetween from j p q) eq f)
      ];
}

-- An item of a list that has one.
pub some_item : {X : Type 0} (xs : List X) (k : ℕ) → k < length xs → X
some_item [] k h = absurd (omega arith)
some_item (x ∷ xs) k h = x

pub grid_grows : {A B : Type 0} (n count : ℕ) (outs : List (Vec (Option SendingEnd) A)) (ins more : List (Vec (Option ReceivingEnd) B)) (row : Vec (Option SendingEnd) A) (ends : List (Option ReceivingEnd))
    → AreGrid n count outs ins → AreRow n count row.items ends → AreDealt 0 count ins ends more → AreGrid (n + 1) count (outs ++ row ∷ []) more
grid_grows n count outs ins more row ends g r d = record {
  outs_len = omega (arith, length_push outs row, g.outs_len);
  ins_len = d.len ∙ g.ins_len;
  out_len = λ a w h.
      let t : (a < n) ⊎ (n ≡ a) = grind arith in
      elim t [
        | inl lt ↦ rw (get_or_append_left outs (row ∷ []) w a (omega (arith, g.outs_len))) (g.out_len a w lt)
        | inr eq ↦ rw (get_or_push outs row w a (g.outs_len ∙ eq)) r.outs_len
      ];
  in_len = λ b w h.
      rw (d.more b w None (omega arith) h) (length_push (get_or ins b w).items (get_or ends b None) ∙ ap (λ k. k + 1) (g.in_len b w h));
  rings = λ a b w e h k.
      let i = get_or ins b e in
      let t : (a < n) ⊎ (n ≡ a) = grind arith in
      elim t [
        | inl lt ↦ rw (get_or_append_left outs (row ∷ []) w a (omega (arith, g.outs_len)), d.more b e None (omega arith) k, get_or_append_left i.items (get_or ends b None ∷ []) None a (omega (arith, g.in_len b e k)))
            (g.rings a b w e lt k)
        | inr eq ↦ rw (get_or_push outs row w a (g.outs_len ∙ eq), d.more b e None (omega arith) k, get_or_push i.items (get_or ends b None) None a (g.in_len b e k ∙ eq))
            (subst (λ j. IsBetween j b (get_or row.items b None) (get_or ends b None)) eq (r.rings b k))
      ];
}
