-- A text reads as one thing: one accepted program, or one first fault.
use Rattle.std.proofs.Common.{◌≡◌, ◌≢◌, ℕ, List, Ok, Err, refl, sym, ap, subst}
use Rattle.gr_syntax.specs.declared.syntax.Program.{Program}
use Rattle.gr_syntax.specs.declared.syntax.Place.{Place}
use Rattle.gr_syntax.specs.declared.refusal.Kind.{Kind}
use Rattle.gr_syntax.specs.declared.refusal.Kind.TheVariants as k
use Rattle.gr_syntax.specs.declared.refusal.Fault.{Fault}
use Rattle.gr_syntax.specs.Faults.{fault, IsFirst}
use Rattle.gr_accept.specs.Accepted.{faults, IsAccepted}
use Rattle.gr_text.specs.declared.token.Token.{Token}
use Rattle.gr_text.specs.declared.fault.TextError.TheVariants as text_errors
use Rattle.gr_text.specs.Text.{Outcome, Reads, AreTokens}
use Rattle.gr_text.specs.Places.{place_of}
use Rattle.gr_text.proofs.Well.{well}
use Rattle.gr_parse.specs.declared.fault.ParseError.TheVariants as parse_errors
use Rattle.gr_parse.specs.Grammar.{IsProgramOf, Says}
use Rattle.gr_checker.proofs.Firsts.{first-unique, first-some}
use Rattle.gr_top.specs.Readings.{ReadsAs}
use Rattle.gr_top.specs.Due.{Reading, accepted, refused}
use Rattle.gr_top.proofs.TextOnce.{text_once}
use Rattle.gr_parse.proofs.Unique.{one_program, one_fault, no_program}

-- What the tokens of a text lead to.
data FromTokens (text : List ℕ) (tokens : List Token) : Reading → Type 0 where
  unexpected : {l c : ℕ} → Says (parse_errors.Unexpected l c) text tokens → FromTokens text tokens (refused (fault k.Unexpected (record { line = l; column = c })))
  ended : {l c : ℕ} → Says (parse_errors.UnexpectedEnd l c) text tokens → FromTokens text tokens (refused (fault k.UnexpectedEnd (record { line = l; column = c })))
  checked : {p : Program} {f : Fault} → IsProgramOf text tokens p → IsFirst f (faults p) → FromTokens text tokens (refused f)
  program : {p : Program} → IsProgramOf text tokens p → IsAccepted p → FromTokens text tokens (accepted p)

same_place : (kind : Kind) (p q : Place) → p ≡ q → ◌≡◌ {A = Reading} (refused (fault kind p)) (refused (fault kind q))
same_place kind p q e = ap (λ (x : Place). refused (fault kind x)) e

no_first : (p : Program) (f : Fault) → IsAccepted p → IsFirst f (faults p) → ⊥
no_first p f a h = first-some (faults p) f h a.no_faults

memory_apart : (l c : ℕ) → parse_errors.Unexpected l c ≢ parse_errors.OutOfMemory
memory_apart l c e = cc

end_memory_apart : (l c : ℕ) → parse_errors.UnexpectedEnd l c ≢ parse_errors.OutOfMemory
end_memory_apart l c e = cc

ends_apart : (l c m d : ℕ) → parse_errors.Unexpected l c ≡ parse_errors.UnexpectedEnd m d → ⊥
ends_apart l c m d e = cc

same_unexpected : (l c m d : ℕ) → parse_errors.Unexpected l c ≡ parse_errors.Unexpected m d → ◌≡◌ {A = Place} (record { line = l; column = c }) (record { line = m; column = d })
same_unexpected l c m d e = let x : l ≡ m = cc in let y : c ≡ d = cc in λ i. record { line = x i; column = y i }

same_end : (l c m d : ℕ) → parse_errors.UnexpectedEnd l c ≡ parse_errors.UnexpectedEnd m d → ◌≡◌ {A = Place} (record { line = l; column = c }) (record { line = m; column = d })
same_end l c m d e = let x : l ≡ m = cc in let y : c ≡ d = cc in λ i. record { line = x i; column = y i }

module _ (text : List ℕ) (tokens : List Token) (are : AreTokens text tokens) where
  tokens_once : (r q : Reading) → FromTokens text tokens r → FromTokens text tokens q → r ≡ q
  tokens_once _ _ (FromTokens.unexpected {l} {c} x) (FromTokens.unexpected {l = m} {c = d} y) = same_place k.Unexpected _ _ (same_unexpected l c m d (one_fault text tokens are _ _ (memory_apart l c) (memory_apart m d) x y))
  tokens_once _ _ (FromTokens.unexpected {l} {c} x) (FromTokens.ended {l = m} {c = d} y) = absurd (ends_apart l c m d (one_fault text tokens are _ _ (memory_apart l c) (end_memory_apart m d) x y))
  tokens_once _ _ (FromTokens.unexpected {l} {c} x) (FromTokens.checked {p} y f) = absurd (no_program text tokens are _ (memory_apart l c) x p y)
  tokens_once _ _ (FromTokens.unexpected {l} {c} x) (FromTokens.program {p} y a) = absurd (no_program text tokens are _ (memory_apart l c) x p y)
  tokens_once _ _ (FromTokens.ended {l} {c} x) (FromTokens.unexpected {l = m} {c = d} y) = absurd (ends_apart m d l c (one_fault text tokens are _ _ (memory_apart m d) (end_memory_apart l c) y x))
  tokens_once _ _ (FromTokens.ended {l} {c} x) (FromTokens.ended {l = m} {c = d} y) = same_place k.UnexpectedEnd _ _ (same_end l c m d (one_fault text tokens are _ _ (end_memory_apart l c) (end_memory_apart m d) x y))
  tokens_once _ _ (FromTokens.ended {l} {c} x) (FromTokens.checked {p} y f) = absurd (no_program text tokens are _ (end_memory_apart l c) x p y)
  tokens_once _ _ (FromTokens.ended {l} {c} x) (FromTokens.program {p} y a) = absurd (no_program text tokens are _ (end_memory_apart l c) x p y)
  tokens_once _ _ (FromTokens.checked {p} x f) (FromTokens.unexpected {l = m} {c = d} y) = absurd (no_program text tokens are _ (memory_apart m d) y p x)
  tokens_once _ _ (FromTokens.checked {p} x f) (FromTokens.ended {l = m} {c = d} y) = absurd (no_program text tokens are _ (end_memory_apart m d) y p x)
  tokens_once _ _ (FromTokens.checked {p} {f} x h) (FromTokens.checked {p = q} {f = g} y i) =
      ap (λ (z : Fault). refused z) (first-unique (faults q) f g (subst (λ (z : Program). IsFirst f (faults z)) (one_program text tokens p q x y) h) i)
  tokens_once _ _ (FromTokens.checked {p} {f} x h) (FromTokens.program {p = q} y a) = absurd (no_first q f a (subst (λ (z : Program). IsFirst f (faults z)) (one_program text tokens p q x y) h))
  tokens_once _ _ (FromTokens.program {p} x a) (FromTokens.unexpected {l = m} {c = d} y) = absurd (no_program text tokens are _ (memory_apart m d) y p x)
  tokens_once _ _ (FromTokens.program {p} x a) (FromTokens.ended {l = m} {c = d} y) = absurd (no_program text tokens are _ (end_memory_apart m d) y p x)
  tokens_once _ _ (FromTokens.program {p} x a) (FromTokens.checked {p = q} {f = g} y i) = absurd (no_first p g a (subst (λ (z : Program). IsFirst g (faults z)) (sym (one_program text tokens p q x y)) i))
  tokens_once _ _ (FromTokens.program {p} x a) (FromTokens.program {p = q} y b) = ap (λ (z : Program). accepted z) (one_program text tokens p q x y)

-- A text has a fault in its tokens, or tokens that lead to something.
data ByTokens (text : List ℕ) : Outcome → Reading → Type 0 where
  bad_byte : {at : ℕ} → ByTokens text (Err (text_errors.BadByte at)) (refused (fault k.BadByte (place_of text at)))
  wide_number : {at : ℕ} → ByTokens text (Err (text_errors.NumberTooWide at)) (refused (fault k.NumberTooWide (place_of text at)))
  long_name : {at : ℕ} → ByTokens text (Err (text_errors.NameTooLong at)) (refused (fault k.NameTooLong (place_of text at)))
  tokens : {ts : List Token} {r : Reading} → FromTokens text ts r → ByTokens text (Ok ts) r

record Sorted (text : List ℕ) (r : Reading) : Type 0 where
  pub outcome : Outcome
  pub reads : Reads text outcome
  pub by : ByTokens text outcome r

sorted : (text : List ℕ) (r : Reading) → ReadsAs text r → Sorted text r
sorted text _ (ReadsAs.bad_byte h) = record { outcome = _; reads = h; by = ByTokens.bad_byte }
sorted text _ (ReadsAs.wide_number h) = record { outcome = _; reads = h; by = ByTokens.wide_number }
sorted text _ (ReadsAs.long_name h) = record { outcome = _; reads = h; by = ByTokens.long_name }
sorted text _ (ReadsAs.unexpected h x) = record { outcome = _; reads = h; by = ByTokens.tokens (FromTokens.unexpected x) }
sorted text _ (ReadsAs.unexpected_end h x) = record { outcome = _; reads = h; by = ByTokens.tokens (FromTokens.ended x) }
sorted text _ (ReadsAs.checked h x f) = record { outcome = _; reads = h; by = ByTokens.tokens (FromTokens.checked x f) }
sorted text _ (ReadsAs.program h x a) = record { outcome = _; reads = h; by = ByTokens.tokens (FromTokens.program x a) }

same_reading : (text : List ℕ) (o : Outcome) (r q : Reading) → Reads text o → ByTokens text o r → ByTokens text o q → r ≡ q
same_reading text _ _ _ h ByTokens.bad_byte ByTokens.bad_byte = refl
same_reading text _ _ _ h ByTokens.wide_number ByTokens.wide_number = refl
same_reading text _ _ _ h ByTokens.long_name ByTokens.long_name = refl
same_reading text _ r q h (ByTokens.tokens {ts} x) (ByTokens.tokens y) = tokens_once text ts (well text ts h) r q x y

pub once : (text : List ℕ) (r q : Reading) → ReadsAs text r → ReadsAs text q → r ≡ q
once text r q h i =
    let x = sorted text r h in let y = sorted text q i in
    same_reading text y.outcome r q y.reads (subst (λ (o : Outcome). ByTokens text o r) (text_once text x.outcome y.outcome x.reads y.reads) x.by) y.by
