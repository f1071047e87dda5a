-- A line is its first field, the others with a space before each, and a line feed.
use Rattle.std.proofs.Common.{◌≡◌, ◌∙◌, ap, refl, sym, List, [], ◌∷◌, ◌++◌, codes}
use Rattle.std.proofs.lemmas.List.{append_assoc, append-nil}
use Rattle.std.specs.List.{join_with_byte}
use Rattle.gr_hist.specs.Names.{Bytes}
use Rattle.gr_hist.specs.Spelling.{line_of}
use Rattle.gr_hist.specs.WritingWords.{trail}

join_trail : (p : Bytes) (fields : List Bytes) → join_with_byte 32 (p ∷ fields) ≡ p ++ trail fields
join_trail p [] = simp append-nil
join_trail p (q ∷ fields) = ap (λ (x : Bytes). p ++ 32 ∷ x) (join_trail q fields)

trail_append : (fields qs : List Bytes) → trail (fields ++ qs) ≡ trail fields ++ trail qs
trail_append [] qs = refl
trail_append (p ∷ fields) qs = ap (λ (x : Bytes). 32 ∷ (p ++ x)) (trail_append fields qs) ∙ ap (λ (x : Bytes). 32 ∷ x) (sym (append_assoc p (trail fields) (trail qs)))

line_trail : (p : Bytes) (fields : List Bytes) → line_of (p ∷ fields) ≡ p ++ (trail fields ++ 10 ∷ [])
line_trail p fields = ap (λ (x : Bytes). x ++ 10 ∷ []) (join_trail p fields) ∙ append_assoc p (trail fields) (10 ∷ [])

-- What stands in the text before, and then the fields and a line feed, is the text with the line.
from_trail : (old id : Bytes) (fields : List Bytes) → old ++ (id ++ (trail fields ++ 10 ∷ [])) ≡ old ++ line_of (id ∷ fields)
from_trail old id fields = ap (λ (x : Bytes). old ++ x) (sym (line_trail id fields))

-- Pieces, added one after another.

flat_seven : (o a b c d e f g : Bytes) → ((((((o ++ a) ++ b) ++ c) ++ d) ++ e) ++ f) ++ g ≡ o ++ (a ++ ((b ++ (c ++ (d ++ (e ++ f)))) ++ g))
flat_seven o a b c d e f g = simp append_assoc

flat_six : (o a b c d e f : Bytes) → (((((o ++ a) ++ b) ++ c) ++ d) ++ e) ++ f ≡ o ++ (a ++ ((b ++ (c ++ (d ++ e))) ++ f))
flat_six o a b c d e f = simp append_assoc

flat_five : (o a b c d e : Bytes) → ((((o ++ a) ++ b) ++ c) ++ d) ++ e ≡ o ++ (a ++ ((b ++ (c ++ d)) ++ e))
flat_five o a b c d e = simp append_assoc

-- The line of a call, from what each step adds.
pub call_written : (old id object op : Bytes) (rs ns ws : List Bytes) (a b d r n w : Bytes)
    → a ≡ old ++ id → b ≡ a ++ 32 ∷ object → d ≡ b ++ 32 ∷ op → r ≡ d ++ trail rs → n ≡ r ++ trail ns → w ≡ n ++ trail ws
    → w ++ 10 ∷ [] ≡ old ++ line_of (id ∷ object ∷ op ∷ (rs ++ (ns ++ ws)))
call_written old id object op rs ns ws a b d r n w ea eb ed er en ew =
    let tail : trail rs ++ (trail ns ++ trail ws) ≡ trail (rs ++ (ns ++ ws)) = ap (λ (x : Bytes). trail rs ++ x) (sym (trail_append ns ws)) ∙ sym (trail_append rs (ns ++ ws)) in
    rw (ew, en, er, ed, eb, ea)
    (flat_seven old id (32 ∷ object) (32 ∷ op) (trail rs) (trail ns) (trail ws) (10 ∷ [])
    ∙ ap (λ (x : Bytes). old ++ (id ++ ((32 ∷ (object ++ 32 ∷ (op ++ x))) ++ 10 ∷ []))) tail
    ∙ from_trail old id (object ∷ op ∷ (rs ++ (ns ++ ws))))

-- The line of a start, from what each step adds.
pub start_written : (old id target : Bytes) (hs ns cs : List Bytes) (a h t n d : Bytes)
    → a ≡ old ++ id → h ≡ a ++ trail hs → t ≡ h ++ 32 ∷ target → n ≡ t ++ trail ns → d ≡ n ++ trail cs
    → d ++ 10 ∷ [] ≡ old ++ line_of (id ∷ (hs ++ target ∷ (ns ++ cs)))
start_written old id target hs ns cs a h t n d ea eh et en ed =
    let tail : trail hs ++ 32 ∷ (target ++ (trail ns ++ trail cs)) ≡ trail (hs ++ target ∷ (ns ++ cs)) =
    ap (λ (x : Bytes). trail hs ++ 32 ∷ (target ++ x)) (sym (trail_append ns cs)) ∙ sym (trail_append hs (target ∷ (ns ++ cs))) in
    rw (ed, en, et, eh, ea)
    (flat_six old id (trail hs) (32 ∷ target) (trail ns) (trail cs) (10 ∷ [])
    ∙ ap (λ (x : Bytes). old ++ (id ++ (x ++ 10 ∷ []))) tail
    ∙ from_trail old id (hs ++ target ∷ (ns ++ cs)))

-- The line of a loop, from what each step adds.
pub loop_written : (old id target : Bytes) (hs ns : List Bytes) (a h t n : Bytes)
    → a ≡ old ++ id → h ≡ a ++ trail hs → t ≡ h ++ 32 ∷ target → n ≡ t ++ trail ns
    → n ++ 10 ∷ [] ≡ old ++ line_of (id ∷ (hs ++ target ∷ ns))
loop_written old id target hs ns a h t n ea eh et en =
    rw (en, et, eh, ea)
    (flat_five old id (trail hs) (32 ∷ target) (trail ns) (10 ∷ [])
    ∙ ap (λ (x : Bytes). old ++ (id ++ (x ++ 10 ∷ []))) (sym (trail_append hs (target ∷ ns)))
    ∙ from_trail old id (hs ++ target ∷ ns))

-- The first line, from what each step adds.
pub header_written : (old cores steps : Bytes) (a b c d : Bytes)
    → a ≡ old ++ codes "history 1 cores " → b ≡ a ++ cores → c ≡ b ++ codes " steps " → d ≡ c ++ steps
    → d ++ 10 ∷ [] ≡ old ++ line_of (codes "history" ∷ codes "1" ∷ codes "cores" ∷ cores ∷ codes "steps" ∷ steps ∷ [])
header_written old cores steps a b c d ea eb ec ed =
    rw (ed, ec, eb, ea) (flat_line old (codes "history 1 cores ") cores (codes " steps ") steps (10 ∷ []))
  where
    flat_line : (o a b c d e : Bytes) → ((((o ++ a) ++ b) ++ c) ++ d) ++ e ≡ o ++ ((a ++ (b ++ (c ++ d))) ++ e)
    flat_line o a b c d e = simp append_assoc
