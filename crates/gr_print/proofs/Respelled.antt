-- What holds of all tokens that are some given ones but for places, token by token; and what such tokens spell.
use Rattle.std.proofs.Common.{◌≡◌, ℕ, Bool, true, false, List, [], ◌∷◌, ◌++◌, map, refl, sym, ap, subst}
use Rattle.std.specs.Prelude.{codes, if◌then◌else◌}
use Rattle.std.specs.Str.{bytes_eq}
use Rattle.std.proofs.lemmas.Slice.Eq.{bytes_eq-Decides}
use Rattle.gr_syntax.specs.declared.syntax.Place.{Place}
use Rattle.gr_syntax.specs.declared.syntax.Name.{Name}
use Rattle.gr_syntax.specs.declared.syntax.Number.{Number}
use Rattle.gr_text.specs.declared.token.Keyword.{Keyword}
use Rattle.gr_text.specs.declared.token.Sign.{Sign}
use Rattle.gr_expressions.specs.Tok.{Tok, heap_name, Toks}
use Rattle.gr_expressions.specs.Expressions.{IsObject}
use Rattle.gr_print.specs.Unplaced.{nowhere, unplaced_name, unplaced_number, unplaced_tok}
use Rattle.gr_print.specs.Pieces.{object_tok}

-- ---- tokens that are the same but for places

sign_only : (t : Tok) (g : Sign) → unplaced_tok t ≡ Tok.sign g → Tok.sign g ≡ t
sign_only (Tok.name n) g e = absurd cc
sign_only (Tok.number n) g e = absurd cc
sign_only (Tok.heap at) g e = absurd cc
sign_only (Tok.key word) g e = absurd cc
sign_only (Tok.sign h) g e = sym e
sign_only Tok.missing g e = absurd cc

key_only : (t : Tok) (word : Keyword) → unplaced_tok t ≡ Tok.key word → Tok.key word ≡ t
key_only (Tok.name n) word e = absurd cc
key_only (Tok.number n) word e = absurd cc
key_only (Tok.heap at) word e = absurd cc
key_only (Tok.key v) word e = sym e
key_only (Tok.sign h) word e = absurd cc
key_only Tok.missing word e = absurd cc

-- ---- each list of tokens

-- This holds of each list of tokens that is the given one but for places.
pub record Each (K : Toks → Type 0) (ws : Toks) : Type 0 where
  pub at : (ts : Toks) → map unplaced_tok ts ≡ ws → K ts

pub each_nil : {K : Toks → Type 0} → K [] → Each K []
each_nil {K} k = record { at = λ ts e. by ts e }
  where
    by : (ts : Toks) → map unplaced_tok ts ≡ [] → K ts
    by [] e = k
    by (t ∷ ts) e = absurd cc

-- By the first token and the others.
pub record Headed (K : Toks → Type 0) (w : Tok) (ws : Toks) : Type 0 where
  pub at : (t : Tok) (ts : Toks) → unplaced_tok t ≡ w → map unplaced_tok ts ≡ ws → K (t ∷ ts)

each_head : {K : Toks → Type 0} {w : Tok} {ws : Toks} → Headed K w ws → Each K (w ∷ ws)
each_head {K} {w} {ws} h = record { at = λ ts e. by ts e }
  where
    by : (ts : Toks) → map unplaced_tok ts ≡ w ∷ ws → K ts
    by [] e = absurd cc
    by (t ∷ ts) e = let same : unplaced_tok t ≡ w = cc in let rest : map unplaced_tok ts ≡ ws = cc in h.at t ts same rest

pub each_sign : {K : Toks → Type 0} {ws : Toks} (g : Sign) → Each (λ r. K (Tok.sign g ∷ r)) ws → Each K (Tok.sign g ∷ ws)
each_sign {K} g h = each_head (record { at = λ t ts e f. subst (λ (u : Tok). K (u ∷ ts)) (sign_only t g e) (h.at ts f) })

pub each_key : {K : Toks → Type 0} {ws : Toks} (word : Keyword) → Each (λ r. K (Tok.key word ∷ r)) ws → Each K (Tok.key word ∷ ws)
each_key {K} word h = each_head (record { at = λ t ts e f. subst (λ (u : Tok). K (u ∷ ts)) (key_only t word e) (h.at ts f) })

pub each_name : {K : Toks → Type 0} {ws : Toks} (n : Name) → ((m : Name) → unplaced_name m ≡ unplaced_name n → Each (λ r. K (Tok.name m ∷ r)) ws) → Each K (Tok.name (unplaced_name n) ∷ ws)
each_name {K} {ws} n h = each_head (record { at = λ t ts e f. by t ts e f })
  where
    by : (t : Tok) (ts : Toks) → unplaced_tok t ≡ Tok.name (unplaced_name n) → map unplaced_tok ts ≡ ws → K (t ∷ ts)
    by (Tok.name m) ts e f = let same : unplaced_name m ≡ unplaced_name n = cc in (h m same).at ts f
    by (Tok.number m) ts e f = absurd cc
    by (Tok.heap at) ts e f = absurd cc
    by (Tok.key word) ts e f = absurd cc
    by (Tok.sign g) ts e f = absurd cc
    by Tok.missing ts e f = absurd cc

pub each_number : {K : Toks → Type 0} {ws : Toks} (n : Number) → ((m : Number) → unplaced_number m ≡ unplaced_number n → Each (λ r. K (Tok.number m ∷ r)) ws) → Each K (Tok.number (unplaced_number n) ∷ ws)
each_number {K} {ws} n h = each_head (record { at = λ t ts e f. by t ts e f })
  where
    by : (t : Tok) (ts : Toks) → unplaced_tok t ≡ Tok.number (unplaced_number n) → map unplaced_tok ts ≡ ws → K (t ∷ ts)
    by (Tok.name m) ts e f = absurd cc
    by (Tok.number m) ts e f = let same : unplaced_number m ≡ unplaced_number n = cc in (h m same).at ts f
    by (Tok.heap at) ts e f = absurd cc
    by (Tok.key word) ts e f = absurd cc
    by (Tok.sign g) ts e f = absurd cc
    by Tok.missing ts e f = absurd cc

pub each_heap : {K : Toks → Type 0} {ws : Toks} → ((at : Place) → Each (λ r. K (Tok.heap at ∷ r)) ws) → Each K (Tok.heap nowhere ∷ ws)
each_heap {K} {ws} h = each_head (record { at = λ t ts e f. by t ts e f })
  where
    by : (t : Tok) (ts : Toks) → unplaced_tok t ≡ Tok.heap nowhere → map unplaced_tok ts ≡ ws → K (t ∷ ts)
    by (Tok.name m) ts e f = absurd cc
    by (Tok.number m) ts e f = absurd cc
    by (Tok.heap at) ts e f = (h at).at ts f
    by (Tok.key word) ts e f = absurd cc
    by (Tok.sign g) ts e f = absurd cc
    by Tok.missing ts e f = absurd cc

pub each_object : {K : Toks → Type 0} {ws : Toks} (n : Name) → ((t : Tok) (m : Name) → IsObject t m → unplaced_name m ≡ unplaced_name n → Each (λ r. K (t ∷ r)) ws) → Each K (object_tok n ∷ ws)
each_object {K} {ws} n h = by (bytes_eq n.text (codes "heap")) refl
  where
    by : (v : Bool) → bytes_eq n.text (codes "heap") ≡ v → Each K ((if v then Tok.heap nowhere else Tok.name (unplaced_name n)) ∷ ws)
    by true e = each_heap (λ at. h (Tok.heap at) (heap_name at) IsObject.heap (ap (λ (text : List ℕ). record { text = text; at = nowhere }) (sym ((bytes_eq-Decides n.text (codes "heap")).0 e))))
    by false e = each_name n (λ m same. h (Tok.name m) m IsObject.named same)

-- ---- parts

record Split (ts ws vs : Toks) : Type 0 where
  front : Toks
  rest : Toks
  parts : front ++ rest ≡ ts
  first : map unplaced_tok front ≡ ws
  second : map unplaced_tok rest ≡ vs

split : (ts ws vs : Toks) → map unplaced_tok ts ≡ ws ++ vs → Split ts ws vs
split ts [] vs e = record { front = []; rest = ts; parts = refl; first = refl; second = e }
split [] (w ∷ ws) vs e = absurd cc
split (t ∷ ts) (w ∷ ws) vs e =
    let same : unplaced_tok t ≡ w = cc in
    let others : map unplaced_tok ts ≡ ws ++ vs = cc in
    let s = split ts ws vs others in
    let rest = s.first in
    record { front = t ∷ s.front; rest = s.rest; parts = ap (λ (u : Toks). t ∷ u) s.parts; first = cc; second = s.second }

-- The tokens spell something that is the same but for places, where `bare` takes the places away.
pub record Respelled {A : Type 0} (bare : A → A) (L : Toks → A → Type 0) (ts : Toks) (x : A) : Type 0 where
  pub tree : A
  pub spelled : L ts tree
  pub same : bare tree ≡ bare x

-- Each list of tokens that is this one but for places spells x, but for places.
pub record Freely {A : Type 0} (bare : A → A) (L : Toks → A → Type 0) (ws : Toks) (x : A) : Type 0 where
  pub each : Each (λ ts. Respelled bare L ts x) ws

pub each_part : {A : Type 0} {bare : A → A} {L : Toks → A → Type 0} {K : Toks → Type 0} {ws vs : Toks} {x : A} → Freely bare L ws x
    → ((f : Toks) (y : A) → L f y → bare y ≡ bare x → Each (λ r. K (f ++ r)) vs) → Each K (ws ++ vs)
each_part {K} {ws} {vs} h go = record {
  at = λ ts e.
      let s = split ts ws vs e in
      let r = h.each.at s.front s.first in
      subst K s.parts ((go s.front r.tree r.spelled r.same).at s.rest s.second);
}

pub each_last : {A : Type 0} {bare : A → A} {L : Toks → A → Type 0} {K : Toks → Type 0} {ws : Toks} {x : A} → Freely bare L ws x → ((f : Toks) (y : A) → L f y → bare y ≡ bare x → K f) → Each K ws
each_last h go = record { at = λ ts e. let r = h.each.at ts e in go ts r.tree r.spelled r.same }

pub weaken : {A : Type 0} {bare : A → A} {L M : Toks → A → Type 0} {ws : Toks} {x : A} → ((ts : Toks) (y : A) → L ts y → M ts y) → Freely bare L ws x → Freely bare M ws x
weaken f h = record { each = record { at = λ ts e. let r = h.each.at ts e in record { tree = r.tree; spelled = f ts r.tree r.spelled; same = r.same } } }
