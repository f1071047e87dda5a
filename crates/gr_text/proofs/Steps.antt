-- One step of reading a text: what stands at the front decides what the text reads as.
use Rattle.std.proofs.Common.{◌≡◌, ℕ, ◌+◌, ◌^◌, ◌≤◌, ◌<◌, [], length, drop, Err, refl, sym, ap, subst, ◌∙◌, arith}
use Rattle.gr_text.specs.declared.fault.TextError.TheVariants as faults
use Rattle.gr_text.specs.declared.front.Front.{Front}
use Rattle.gr_text.specs.declared.front.Front.TheVariants as fronts
use Rattle.gr_text.specs.declared.token.TokenKind.{TokenKind}
use Rattle.gr_text.specs.declared.token.TokenKind.TheVariants as kinds
use Rattle.gr_text.specs.FrontWords.{IsFront}
use Rattle.gr_syntax.specs.declared.limits.TheConstants.{MAX_NAME}
use Rattle.gr_text.specs.Text.{Text, Outcome, ReadsFrom, IsLongest, Fits, with_front, token_at, blank_len}
use Rattle.gr_text.proofs.Longest.{same_longest, not_blank}

-- ---- what follows

-- The text reads as this token, and then as what is behind it.
pub record Then (whole : Text) (kind : TokenKind) (at len : ℕ) (text : Text) (r : Outcome) : Type 0 where
  pub tail : Outcome
  pub reads : ReadsFrom whole (at + len) (drop len text) tail
  pub joins : r ≡ with_front (token_at whole kind at len) tail

abbrev pub Onward : Front → Text → ℕ → Text → Outcome → Type 0
Onward (fronts.Blank len) whole at text r = ReadsFrom whole (at + len) (drop len text) r
Onward (fronts.Token kind len) whole at text r = Then whole kind at len text r
Onward fronts.TooWide whole at text r = r ≡ Err (faults.NumberTooWide at)
Onward fronts.TooLong whole at text r = r ≡ Err (faults.NameTooLong at)
Onward fronts.Bad whole at text r = r ≡ Err (faults.BadByte at)

pub forward : (f : Front) (whole : Text) (at : ℕ) (text : Text) (r : Outcome) → IsFront f text → Onward f whole at text r → ReadsFrom whole at text r
forward (fronts.Blank len) whole at text r f h =
    let some : 0 < blank_len text = omega (arith, f.0, f.2) in
    ReadsFrom.blank some (subst (λ (n : ℕ). ReadsFrom whole (at + n) (drop n text) r) f.2 h)
forward (fronts.Token kind len) whole at text r f h = subst (λ (x : Outcome). ReadsFrom whole at text x) (sym h.joins) (ReadsFrom.token f.0 f.1 h.reads)
forward fronts.TooWide whole at text r f h = subst (λ (x : Outcome). ReadsFrom whole at text x) (sym h) (ReadsFrom.too_wide f.2 f.3)
forward fronts.TooLong whole at text r f h = subst (λ (x : Outcome). ReadsFrom whole at text x) (sym h) (ReadsFrom.too_long f.1 f.2)
forward fronts.Bad whole at text r f h = subst (λ (x : Outcome). ReadsFrom whole at text x) (sym h) (ReadsFrom.bad f.0 f.1 f.2)

-- ---- and nothing else does

wide_not : (kind : TokenKind) (len n : ℕ) → Fits kind len → kind ≡ kinds.Number n → 2 ^ 64 ≤ n → ⊥
wide_not kind len n fits e wide = let k : Fits (kinds.Number n) len = subst (λ (x : TokenKind). Fits x len) e fits in omega arith

long_not : (kind : TokenKind) (len other : ℕ) → Fits kind len → kind ≡ kinds.Name → len ≡ other → MAX_NAME < other → ⊥
long_not kind len other fits e same long = let k : Fits kinds.Name len = subst (λ (x : TokenKind). Fits x len) e fits in omega arith

name_not : (n : ℕ) → kinds.Name ≡ kinds.Number n → ⊥
name_not n e = cc

backward_blank : (len : ℕ) (whole : Text) (at : ℕ) (text : Text) (r : Outcome) → IsFront (fronts.Blank len) text → ReadsFrom whole at text r → ReadsFrom whole (at + len) (drop len text) r
backward_blank len whole at [] r f (ReadsFrom.ends) = absurd (omega (arith, f.0, f.1))
backward_blank len whole at text r f (ReadsFrom.blank some h) = subst (λ (n : ℕ). ReadsFrom whole (at + n) (drop n text) r) (sym f.2) h
backward_blank len whole at text r f (ReadsFrom.token {len = l} {kind = k} t fits h) = absurd (omega (arith, f.0, f.2, not_blank k l text t.token))
backward_blank len whole at text r f (ReadsFrom.too_wide {n = n} {len = l} t wide) = absurd (omega (arith, f.0, f.2, not_blank (kinds.Number n) l text t.token))
backward_blank len whole at text r f (ReadsFrom.too_long {len = l} t long) = absurd (omega (arith, f.0, f.2, not_blank kinds.Name l text t.token))
backward_blank len whole at text r f (ReadsFrom.bad some dark none) = absurd (omega (arith, f.0, f.2, dark))

-- A text that begins with a longest token of a kind and a length: each way to read it is by this token.
pub data ByToken (whole : Text) (kind : TokenKind) (at len : ℕ) (text : Text) : Outcome → Type 0 where
  of_fit : {r : Outcome} → Fits kind len → Then whole kind at len text r → ByToken whole kind at len text r
  of_wide : (n : ℕ) → kind ≡ kinds.Number n → 2 ^ 64 ≤ n → ByToken whole kind at len text (Err (faults.NumberTooWide at))
  of_long : kind ≡ kinds.Name → MAX_NAME < len → ByToken whole kind at len text (Err (faults.NameTooLong at))

by_token : (kind : TokenKind) (len : ℕ) (whole : Text) (at : ℕ) (text : Text) (r : Outcome) → IsLongest kind len text → 0 < length text → ReadsFrom whole at text r → ByToken whole kind at len text r
by_token kind len whole at [] r f some ReadsFrom.ends = absurd (omega arith)
by_token kind len whole at text r f some (ReadsFrom.blank more h) = absurd (omega (arith, not_blank kind len text f.token))
by_token kind len whole at text _ f some (ReadsFrom.token {len = l} {kind = k} {r = tail} t fit h) =
    let same = same_longest k kind l len text t f in
    ByToken.of_fit (subst (λ (n : ℕ). Fits kind n) same.len (subst (λ (x : TokenKind). Fits x l) same.kind fit)) (record {
      tail = tail;
      reads = subst (λ (n : ℕ). ReadsFrom whole (at + n) (drop n text) tail) same.len h;
      joins = ap (λ (x : TokenKind). with_front (token_at whole x at l) tail) same.kind ∙ ap (λ (n : ℕ). with_front (token_at whole kind at n) tail) same.len;
    })
by_token kind len whole at text _ f some (ReadsFrom.too_wide {n = n} {len = l} t above) = ByToken.of_wide n (sym (same_longest (kinds.Number n) kind l len text t f).kind) above
by_token kind len whole at text _ f some (ReadsFrom.too_long {len = l} t over) =
    let same = same_longest kinds.Name kind l len text t f in
    ByToken.of_long (sym same.kind) (subst (λ (n : ℕ). MAX_NAME < n) same.len over)
by_token kind len whole at text _ f some (ReadsFrom.bad more dark none) = absurd (none kind len f.within f.token)

backward_token : (kind : TokenKind) (len : ℕ) (whole : Text) (at : ℕ) (text : Text) (r : Outcome) → Fits kind len → ByToken whole kind at len text r → Then whole kind at len text r
backward_token kind len whole at text r fits (ByToken.of_fit same h) = h
backward_token kind len whole at text _ fits (ByToken.of_wide n e wide) = absurd (wide_not kind len n fits e wide)
backward_token kind len whole at text _ fits (ByToken.of_long e long) = absurd (long_not kind len len fits e refl long)

backward_wide : (n len : ℕ) (whole : Text) (at : ℕ) (text : Text) (r : Outcome) → 2 ^ 64 ≤ n → ByToken whole (kinds.Number n) at len text r → r ≡ Err (faults.NumberTooWide at)
backward_wide n len whole at text r wide (ByToken.of_fit fits h) = absurd (omega arith)
backward_wide n len whole at text _ wide (ByToken.of_wide m e more) = refl
backward_wide n len whole at text _ wide (ByToken.of_long e long) = absurd (name_not n (sym e))

backward_long : (len : ℕ) (whole : Text) (at : ℕ) (text : Text) (r : Outcome) → MAX_NAME < len → ByToken whole kinds.Name at len text r → r ≡ Err (faults.NameTooLong at)
backward_long len whole at text r long (ByToken.of_fit fits h) = absurd (omega arith)
backward_long len whole at text _ long (ByToken.of_wide n e wide) = absurd (name_not n e)
backward_long len whole at text _ long (ByToken.of_long e more) = refl

backward_bad : (whole : Text) (at : ℕ) (text : Text) (r : Outcome) → IsFront fronts.Bad text → ReadsFrom whole at text r → r ≡ Err (faults.BadByte at)
backward_bad whole at [] r f ReadsFrom.ends = absurd (omega (arith, f.0))
backward_bad whole at text r f (ReadsFrom.blank some h) = absurd (omega (arith, f.1))
backward_bad whole at text _ f (ReadsFrom.token {len = l} {kind = k} t fit h) = absurd (f.2 k l t.within t.token)
backward_bad whole at text _ f (ReadsFrom.too_wide {n = n} {len = l} t above) = absurd (f.2 (kinds.Number n) l t.within t.token)
backward_bad whole at text _ f (ReadsFrom.too_long {len = l} t over) = absurd (f.2 kinds.Name l t.within t.token)
backward_bad whole at text _ f (ReadsFrom.bad some dark none) = refl

pub backward : (f : Front) (whole : Text) (at : ℕ) (text : Text) (r : Outcome) → 0 < length text → IsFront f text → ReadsFrom whole at text r → Onward f whole at text r
backward (fronts.Blank len) whole at text r some f h = backward_blank len whole at text r f h
backward (fronts.Token kind len) whole at text r some f h = backward_token kind len whole at text r f.1 (by_token kind len whole at text r f.0 some h)
backward fronts.TooWide whole at text r some f h = backward_wide f.0 f.1 whole at text r f.3 (by_token (kinds.Number f.0) f.1 whole at text r f.2 some h)
backward fronts.TooLong whole at text r some f h = backward_long f.0 whole at text r f.2 (by_token kinds.Name f.0 whole at text r f.1 some h)
backward fronts.Bad whole at text r some f h = backward_bad whole at text r f h
