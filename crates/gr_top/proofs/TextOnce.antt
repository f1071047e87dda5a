-- A text reads as its tokens, or as its first fault, in one way.
use Rattle.std.proofs.Common.{◌≡◌, ℕ, ◌+◌, ◌<◌, ◌≤◌, [], ◌∷◌, length, drop, Ok, Err, refl, sym, ap, ◌∙◌, arith}
use Rattle.gr_text.specs.declared.front.Front.TheVariants as fronts
use Rattle.std.proofs.lemmas.List.{length-drop}
use Rattle.gr_text.specs.declared.fault.TextError.TheVariants as faults
use Rattle.gr_text.specs.declared.token.Token.{Token}
use Rattle.gr_text.specs.declared.token.TokenKind.{TokenKind}
use Rattle.gr_text.specs.declared.token.TokenKind.TheVariants as kinds
use Rattle.gr_text.specs.Text.{Text, Outcome, ReadsFrom, Reads, IsLongest, with_front, token_at, blank_len}
use Rattle.gr_text.proofs.Found.{blank_fits}
use Rattle.gr_text.proofs.Longest.{some_token}
use Rattle.gr_text.proofs.Steps.{Then, backward}

longer : (kind : TokenKind) (len : ℕ) (text : Text) → IsLongest kind len text → 0 < length text
longer kind len text t = omega (arith, some_token kind len text t.token, t.within)

ends_once : (whole : Text) (at : ℕ) (s : Outcome) → ReadsFrom whole at [] s → s ≡ Ok (token_at whole kinds.End at 0 ∷ [])
ends_once whole at _ ReadsFrom.ends = refl
ends_once whole at s (ReadsFrom.blank some h) = absurd (omega (arith, some))
ends_once whole at _ (ReadsFrom.token {len = l} {kind = k} t fit h) = absurd (omega (arith, longer k l [] t))
ends_once whole at _ (ReadsFrom.too_wide {n = n} {len = l} t wide) = absurd (omega (arith, longer (kinds.Number n) l [] t))
ends_once whole at _ (ReadsFrom.too_long {len = l} t long) = absurd (omega (arith, longer kinds.Name l [] t))
ends_once whole at _ (ReadsFrom.bad some dark none) = absurd (omega (arith, some))

reads_once : (whole : Text) (at : ℕ) (text : Text) (r s : Outcome) → ReadsFrom whole at text r → ReadsFrom whole at text s → r ≡ s
reads_once whole at [] _ s ReadsFrom.ends k = sym (ends_once whole at s k)
reads_once whole at text r s (ReadsFrom.blank some h) k =
    reads_once whole (at + blank_len text) (drop (blank_len text) text) r s h
    (backward (fronts.Blank (blank_len text)) whole at text s (omega (arith, some, blank_fits text)) (some, blank_fits text, refl) k)
reads_once whole at text _ s (ReadsFrom.token {len = l} {kind = kind} {r = r} t fit h) k =
    let onward : Then whole kind at l text s = backward (fronts.Token kind l) whole at text s (longer kind l text t) (t, fit) k in
    ap (with_front (token_at whole kind at l)) (reads_once whole (at + l) (drop l text) r onward.tail h onward.reads) ∙ sym onward.joins
reads_once whole at text _ s (ReadsFrom.too_wide {n = n} {len = l} t wide) k =
    sym (backward fronts.TooWide whole at text s (longer (kinds.Number n) l text t) (n, l, t, wide) k)
reads_once whole at text _ s (ReadsFrom.too_long {len = l} t long) k =
    sym (backward fronts.TooLong whole at text s (longer kinds.Name l text t) (l, t, long) k)
reads_once whole at text _ s (ReadsFrom.bad some dark none) k = sym (backward fronts.Bad whole at text s some (some, dark, none) k)

pub text_once : (text : Text) (r s : Outcome) → Reads text r → Reads text s → r ≡ s
text_once text r s h k = reads_once text 0 text r s h k

-- ---- where a fault is

abbrev place_of_fault : Outcome → ℕ
place_of_fault (Ok ts) = 0
place_of_fault (Err (faults.BadByte at)) = at
place_of_fault (Err (faults.NumberTooWide at)) = at
place_of_fault (Err (faults.NameTooLong at)) = at
place_of_fault (Err faults.OutOfMemory) = 0

behind_front : (t : Token) (r : Outcome) → place_of_fault (with_front t r) ≡ place_of_fault r
behind_front t (Ok ts) = refl
behind_front t (Err e) = refl

fault_below : (whole : Text) (at m : ℕ) (text : Text) (r : Outcome) → ReadsFrom whole at text r → at + length text ≤ m → place_of_fault r ≤ m
fault_below whole at m [] _ ReadsFrom.ends h = omega arith
fault_below whole at m text r (ReadsFrom.blank some k) h =
    fault_below whole (at + blank_len text) m (drop (blank_len text) text) r k (omega (arith, h, blank_fits text, length-drop (blank_len text) text))
fault_below whole at m text _ (ReadsFrom.token {len = l} {kind = kind} {r = r} t fit k) h =
    let below : place_of_fault r ≤ m = fault_below whole (at + l) m (drop l text) r k (omega (arith, h, t.within, length-drop l text)) in
    omega (arith, below, behind_front (token_at whole kind at l) r)
fault_below whole at m text _ (ReadsFrom.too_wide t wide) h = omega (arith, h)
fault_below whole at m text _ (ReadsFrom.too_long t long) h = omega (arith, h)
fault_below whole at m text _ (ReadsFrom.bad some dark none) h = omega (arith, h)

pub bad_within : (text : Text) (at : ℕ) → Reads text (Err (faults.BadByte at)) → at ≤ length text
bad_within text at h = fault_below text 0 (length text) text (Err (faults.BadByte at)) h (omega arith)

pub wide_within : (text : Text) (at : ℕ) → Reads text (Err (faults.NumberTooWide at)) → at ≤ length text
wide_within text at h = fault_below text 0 (length text) text (Err (faults.NumberTooWide at)) h (omega arith)

pub long_within : (text : Text) (at : ℕ) → Reads text (Err (faults.NameTooLong at)) → at ≤ length text
long_within text at h = fault_below text 0 (length text) text (Err (faults.NameTooLong at)) h (omega arith)
