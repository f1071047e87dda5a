-- Points that are added stay, and lead where they led.
use Rattle.std.proofs.Common.{◌≡◌, ℕ, ◌<◌, ◌≤◌, List, [], ◌∷◌, ◌++◌, length, refl, ap, sym, ◌∙◌, subst, arith, ⊎_elim, slice_get, slice_set, Some, append_assoc, length-append, get_or, length-set, append-nil, Option}
use Rattle.std.specs.Prelude.{unwrap_or}
use Rattle.std.proofs.Math.Seq.{get_or-append_seam, set-append_seam}
use Rattle.std.proofs.Math.ListN.{get_or-append}
use Rattle.std.proofs.lemmas.List.{get_or-set_other}
use Rattle.std.proofs.lemmas.Bool.{cases_eq, cases_lt}
use Rattle.std.proofs.lemmas.Option.{slice_get-get_or, slice_get_within, get_or_from_slice_get, unwrap_or-slice_get}
use Rattle.gr_syntax.specs.declared.syntax.Program.{Program}
use Rattle.gr_code.specs.declared.instructions.Instruction.{Instruction}
use Rattle.gr_code.specs.PointView.{Laid}
use Rattle.gr_code.specs.Points.{Point, nowhere, point_at}
use Rattle.gr_code.specs.Instructions.{Agrees, Begins}
use Rattle.gr_code.specs.EmitWords.{Grown, AllAgree}

pub begins_same : {A : Type 0} (a : List A) → Begins a a
begins_same a = ([], sym (append-nil a))

pub begins_trans : {A : Type 0} (a b c : List A) → Begins a b → Begins b c → Begins a c
begins_trans a b c g h = (g.0 ++ h.0, h.1 ∙ ap (λ l. l ++ h.0) g.1 ∙ append_assoc a g.0 h.0)

pub get_begins : {A : Type 0} (a b : List A) (k : ℕ) (x : A) → Begins a b → slice_get a k ≡ Some x → slice_get b k ≡ Some x
get_begins a b k x g h =
    let lt : k < length a = slice_get_within a k x h in
    let within : k < length (a ++ g.0) = omega (arith, length-append a g.0) in
    rw g.1 (slice_get-get_or (a ++ g.0) k x within ∙ ap Some (get_or-append a g.0 x k lt ∙ get_or_from_slice_get a k x x h))

pub get_last : {A : Type 0} (a : List A) (x : A) (b : List A) (at : ℕ) → at ≡ length a → slice_get (a ++ x ∷ b) at ≡ Some x
get_last a x b at e =
    let within : at < length (a ++ x ∷ b) = omega (arith, length-append a (x ∷ b)) in
    slice_get-get_or (a ++ x ∷ b) at x within ∙ ap Some (ap (λ k. get_or (a ++ x ∷ b) k x) e ∙ get_or-append_seam a x b x)

pub point_is : (a b : List Point) (k : ℕ) (t : Point) → Begins a b → slice_get a k ≡ Some t → point_at b k ≡ t
point_is a b k t g h = ap (λ o. unwrap_or o nowhere) (get_begins a b k t g h)

pub point_here : (a : List Point) (k : ℕ) (t : Point) → slice_get a k ≡ Some t → point_at a k ≡ t
point_here a k t h = ap (λ o. unwrap_or o nowhere) h

pub get_point : (a : List Point) (k : ℕ) → k < length a → slice_get a k ≡ Some (point_at a k)
get_point a k lt = slice_get-get_or a k nowhere lt ∙ ap Some (sym (unwrap_or-slice_get a k nowhere))

pub point_stays : (a b : List Point) (k : ℕ) → Begins a b → k < length a → point_at b k ≡ point_at a k
point_stays a b k g lt = point_is a b k (point_at a k) g (get_point a k lt)

pub agrees_later : (p : Program) (a b : List Point) (k : ℕ) (x : Instruction) → Begins a b → Agrees p a k x → Agrees p b k x
agrees_later p a b k x g h = record {
  looks = λ all later ws e. h.looks all (begins_trans a b all g later) ws e;
  moves = λ all later w. h.moves all (begins_trans a b all g later) w;
  goes = λ all later. h.goes all (begins_trans a b all g later);
}

pub grown_same : (p : Program) (a : Laid) → Grown p a a
grown_same p a = record {
  points = begins_same a.points;
  instructions = begins_same a.instructions;
  agree = λ k x low h. let lt = slice_get_within a.instructions k x h in absurd (omega arith);
}

pub grown_trans : (p : Program) (a b c : Laid) → Grown p a b → Grown p b c → Grown p a c
grown_trans p a b c g h = record {
  points = begins_trans _ _ _ g.points h.points;
  instructions = begins_trans _ _ _ g.instructions h.instructions;
  agree = λ k x low at. ⊎_elim
      (λ (lt : k < length b.instructions).
      let there : slice_get b.instructions k ≡ Some (get_or b.instructions k x) = slice_get-get_or b.instructions k x lt in
      let same : Some (get_or b.instructions k x) ≡ Some x = sym (get_begins b.instructions c.instructions k _ h.instructions there) ∙ at in
      agrees_later p b.points c.points k x h.points (g.agree k x low (there ∙ same)))
      (λ (le : length b.instructions ≤ k). h.agree k x le at)
      (cases_lt k (length b.instructions));
}

-- What agreed before still does.
pub all_agree : (p : Program) (a b : Laid) → AllAgree p a → Grown p a b → AllAgree p b
all_agree p a b f g = λ k x at. ⊎_elim
    (λ (lt : k < length a.instructions).
    let there : slice_get a.instructions k ≡ Some (get_or a.instructions k x) = slice_get-get_or a.instructions k x lt in
    let same : Some (get_or a.instructions k x) ≡ Some x = sym (get_begins a.instructions b.instructions k _ g.instructions there) ∙ at in
    agrees_later p a.points b.points k x g.points (f k x (there ∙ same)))
    (λ (le : length a.instructions ≤ k). g.agree k x le at)
    (cases_lt k (length a.instructions))

pub put_grown : (p : Program) (a : Laid) (x : Instruction) (t : Point) (at : ℕ) → at ≡ length a.instructions
    → Agrees p (a.points ++ t ∷ []) at x → Grown p a (record { instructions = a.instructions ++ x ∷ []; points = a.points ++ t ∷ [] })
put_grown p a x t at e h = record {
  points = (t ∷ [], refl);
  instructions = (x ∷ [], refl);
  agree = λ k y low get.
      let lt : k < length (a.instructions ++ x ∷ []) = slice_get_within _ k y get in
      let is : k ≡ at = omega (arith, length-append a.instructions (x ∷ [])) in
      let same : Some x ≡ Some y = sym (get_last a.instructions x [] k (is ∙ e)) ∙ get in
      subst (λ k. Agrees p (a.points ++ t ∷ []) k y) (sym is) (subst (λ (o : Option Instruction). Agrees p (a.points ++ t ∷ []) at (unwrap_or o x)) same h);
}

-- A point whose instruction was left open, then more, and then its own instruction.
pub patch_grown : (p : Program) (a c : Laid) (x y : Instruction) (t : Point) (at : ℕ) → at ≡ length a.instructions
    → Grown p (record { instructions = a.instructions ++ x ∷ []; points = a.points ++ t ∷ [] }) c → Agrees p c.points at y
    → Grown p a (record { instructions = slice_set c.instructions at y; points = c.points })
patch_grown p a c x y t at e g h =
    let whole : c.instructions ≡ a.instructions ++ x ∷ g.instructions.0 = g.instructions.1 ∙ append_assoc a.instructions (x ∷ []) g.instructions.0 in
    let set : slice_set c.instructions at y ≡ a.instructions ++ y ∷ g.instructions.0 = rw (whole, e) (set-append_seam a.instructions x g.instructions.0 y) in
    record {
      points = begins_trans a.points (a.points ++ t ∷ []) c.points (t ∷ [], refl) g.points;
      instructions = (y ∷ g.instructions.0, set);
      agree = λ k z low get. ⊎_elim
          (λ (is : k ≡ at).
          let same : Some y ≡ Some z = sym (get_last a.instructions y g.instructions.0 k (is ∙ e)) ∙ sym (ap (λ l. slice_get l k) set) ∙ get in
          subst (λ k. Agrees p c.points k z) (sym is) (subst (λ (o : Option Instruction). Agrees p c.points at (unwrap_or o y)) same h))
          (λ ne.
          let lt : k < length (slice_set c.instructions at y) = slice_get_within _ k z get in
          let lt' : k < length c.instructions = omega (arith, length-set c.instructions at y) in
          let there : slice_get c.instructions k ≡ Some z = slice_get-get_or c.instructions k z lt' ∙ ap Some (sym (get_or-set_other c.instructions at k y z ne) ∙ get_or_from_slice_get _ k z z get) in
          g.agree k z (omega (arith, length-append a.instructions (x ∷ []))) there)
          (cases_eq k at);
    }
