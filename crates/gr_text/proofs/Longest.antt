-- The longest token at the front of a text, and that it is the only one.
use Rattle.std.proofs.Common.{◌≡◌, ◌≢◌, ℕ, zero, suc, ◌≤◌, ◌<◌, Bool, true, false, cond, [], ◌∷◌, length, get_or, take, Some, None, refl, sym, ap, subst, ◌∙◌, arith}
use Rattle.std.specs.Prelude.{◌||◌, ◌==◌}
use Rattle.std.specs.List.{list_all, prefix_len}
use Rattle.std.specs.Str.Parse.{digits_value}
use Rattle.std.proofs.lemmas.List.{length-take}
use Rattle.std.proofs.lemmas.List.Sums.{prefix_len-le-length}
use Rattle.std.proofs.lemmas.Bool.Decides.{nat_tests}
use Rattle.gr_text.specs.declared.token.Keyword.{Keyword}
use Rattle.gr_text.specs.declared.token.Sign.{Sign}
use Rattle.gr_text.specs.declared.token.TokenKind.{TokenKind}
use Rattle.gr_text.specs.declared.token.TokenKind.TheVariants as kinds
use Rattle.gr_text.specs.Spelling.{keyword_bytes, sign_bytes}
use Rattle.gr_syntax.specs.declared.limits.TheConstants.{MAX_NAME}
use Rattle.gr_syntax.specs.Names.{is_letter, is_digit, is_word}
use Rattle.gr_text.specs.Text.{Text, IsLongest, IsToken, BeginsNoToken, is_white, blank_len, not_newline}
use Rattle.gr_text.specs.FrontWords.{HasHead, front_sign}
use Rattle.gr_text.proofs.Runs.{and_first, and_both, all_pass, run_more, most}
use Rattle.gr_text.proofs.Signs.{sign_head, some_sign, same_sign, sign_longest, no_sign}
use Rattle.gr_text.proofs.Words.{keyword_head, keyword_letters, keyword_short, same_keyword}

-- ---- the first byte tells what kinds a token may have

abbrev class_of : ℕ → ℕ
class_of b = cond (is_letter b) 0 (cond (is_digit b) 1 2)

abbrev class : TokenKind → ℕ
class kinds.Name = 0
class (kinds.Number n) = 1
class (kinds.Keyword k) = 0
class (kinds.Sign s) = 2
class kinds.End = 3

letter_class : (b : ℕ) → is_letter b ≡ true → class_of b ≡ 0
letter_class b h = ap (λ (v : Bool). cond v 0 (cond (is_digit b) 1 2)) h

not_both : (b : ℕ) → is_letter b ≡ true → is_digit b ≡ true → ⊥
not_both b h k = grind arith

digit_class : (b : ℕ) → is_digit b ≡ true → class_of b ≡ 1
digit_class b h = go (is_letter b) refl
  where
    go : (v : Bool) → is_letter b ≡ v → class_of b ≡ 1
    go true k = absurd (not_both b k h)
    go false k = ap (λ (v : Bool). cond v 0 (cond (is_digit b) 1 2)) k ∙ ap (λ (v : Bool). cond v 1 2) h

other_class : (b : ℕ) → is_letter b ≡ false → is_digit b ≡ false → class_of b ≡ 2
other_class b k h = ap (λ (v : Bool). cond v 0 (cond (is_digit b) 1 2)) k ∙ ap (λ (v : Bool). cond v 1 2) h

first_byte : (b : ℕ) (bytes word : Text) → b ∷ bytes ≡ word → b ≡ get_or word 0 0
first_byte b bytes word e = ap (λ (x : Text). get_or x 0 0) e

headed : (k : TokenKind) (b : ℕ) (bytes : Text) → IsToken k (b ∷ bytes) → class_of b ≡ class k
headed kinds.Name b bytes t = letter_class b t.0
headed (kinds.Number n) b bytes t = digit_class b (and_first (is_digit b) (list_all is_digit bytes) t.0)
headed (kinds.Keyword k) b bytes t = letter_class b (ap is_letter (first_byte b bytes (keyword_bytes k) t) ∙ keyword_head k)
headed (kinds.Sign s) b bytes t =
    let same = first_byte b bytes (sign_bytes s) t in
    other_class b (ap is_letter same ∙ (sign_head s).letter) (ap is_digit same ∙ (sign_head s).digit)
headed kinds.End b bytes t = absurd t

pub letter_word : (b : ℕ) → is_letter b ≡ true → is_word b ≡ true
letter_word b h = ap (λ (v : Bool). v || is_digit b) h

word_token : (k : TokenKind) (b : ℕ) (bytes : Text) → is_letter b ≡ true → IsToken k (b ∷ bytes) → list_all is_word (b ∷ bytes) ≡ true
word_token kinds.Name b bytes l t = and_both (is_word b) (list_all is_word bytes) (letter_word b l) t.1
word_token (kinds.Number n) b bytes l t = let e = sym (letter_class b l) ∙ headed (kinds.Number n) b bytes t in absurd (omega arith)
word_token (kinds.Keyword k) b bytes l t = ap (list_all is_word) t ∙ keyword_letters k
word_token (kinds.Sign s) b bytes l t = let e = sym (letter_class b l) ∙ headed (kinds.Sign s) b bytes t in absurd (omega arith)
word_token kinds.End b bytes l t = absurd t

digit_token : (k : TokenKind) (b : ℕ) (bytes : Text) → is_digit b ≡ true → IsToken k (b ∷ bytes) → list_all is_digit (b ∷ bytes) ≡ true
digit_token kinds.Name b bytes d t = let e = sym (digit_class b d) ∙ headed kinds.Name b bytes t in absurd (omega arith)
digit_token (kinds.Number n) b bytes d t = t.0
digit_token (kinds.Keyword k) b bytes d t = let e = sym (digit_class b d) ∙ headed (kinds.Keyword k) b bytes t in absurd (omega arith)
digit_token (kinds.Sign s) b bytes d t = let e = sym (digit_class b d) ∙ headed (kinds.Sign s) b bytes t in absurd (omega arith)
digit_token kinds.End b bytes d t = absurd t

pub record SignToken (b : ℕ) (bytes : Text) : Type 0 where
  sign : Sign
  spelled : b ∷ bytes ≡ sign_bytes sign

sign_token : (k : TokenKind) (b : ℕ) (bytes : Text) → class_of b ≡ 2 → IsToken k (b ∷ bytes) → SignToken b bytes
sign_token kinds.Name b bytes d t = let e = sym d ∙ headed kinds.Name b bytes t in absurd (omega arith)
sign_token (kinds.Number n) b bytes d t = let e = sym d ∙ headed (kinds.Number n) b bytes t in absurd (omega arith)
sign_token (kinds.Keyword k) b bytes d t = let e = sym d ∙ headed (kinds.Keyword k) b bytes t in absurd (omega arith)
sign_token (kinds.Sign s) b bytes d t = record { sign = s; spelled = t }
sign_token kinds.End b bytes d t = absurd t

-- ---- a token isn't blank

dark : (b : ℕ) (rest : Text) → is_white b ≡ false → (b == 35) ≡ false → blank_len (b ∷ rest) ≡ 0
dark b rest w h = ap (λ (v : Bool). cond v 1 (cond (b == 35) (prefix_len not_newline (b ∷ rest)) 0)) w ∙ ap (λ (v : Bool). cond v (prefix_len not_newline (b ∷ rest)) 0) h

letter_white : (b : ℕ) → is_letter b ≡ true → is_white b ≡ false
letter_white b h = grind (arith, nat_tests)

letter_hash : (b : ℕ) → is_letter b ≡ true → (b == 35) ≡ false
letter_hash b h = grind (arith, nat_tests)

digit_white : (b : ℕ) → is_digit b ≡ true → is_white b ≡ false
digit_white b h = grind (arith, nat_tests)

digit_hash : (b : ℕ) → is_digit b ≡ true → (b == 35) ≡ false
digit_hash b h = grind (arith, nat_tests)

token_dark : (k : TokenKind) (b : ℕ) (bytes rest : Text) → IsToken k (b ∷ bytes) → blank_len (b ∷ rest) ≡ 0
token_dark kinds.Name b bytes rest t = dark b rest (letter_white b t.0) (letter_hash b t.0)
token_dark (kinds.Number n) b bytes rest t =
    let d = and_first (is_digit b) (list_all is_digit bytes) t.0 in
    dark b rest (digit_white b d) (digit_hash b d)
token_dark (kinds.Keyword k) b bytes rest t =
    let l = ap is_letter (first_byte b bytes (keyword_bytes k) t) ∙ keyword_head k in
    dark b rest (letter_white b l) (letter_hash b l)
token_dark (kinds.Sign s) b bytes rest t =
    let same = first_byte b bytes (sign_bytes s) t in
    dark b rest (ap is_white same ∙ (sign_head s).white) (ap (λ (v : ℕ). v == 35) same ∙ (sign_head s).hash)
token_dark kinds.End b bytes rest t = absurd t

pub not_blank : (k : TokenKind) (len : ℕ) (text : Text) → IsToken k (take len text) → blank_len text ≡ 0
not_blank k len [] t = refl
not_blank k zero (b ∷ rest) t = absurd t
not_blank k (suc len) (b ∷ rest) t = token_dark k b (take len rest) rest t

pub some_token : (k : TokenKind) (len : ℕ) (text : Text) → IsToken k (take len text) → 0 < len
some_token k zero text t = absurd t
some_token k (suc len) text t = omega arith

-- ---- one kind

same_kind : (j k : TokenKind) (b : ℕ) (bytes : Text) → IsToken j (b ∷ bytes) → IsToken k (b ∷ bytes) → j ≡ k
same_kind j k b bytes s t = go j k s t (sym (headed j b bytes s) ∙ headed k b bytes t)
  where
    go : (j k : TokenKind) → IsToken j (b ∷ bytes) → IsToken k (b ∷ bytes) → class j ≡ class k → j ≡ k
    go kinds.Name kinds.Name s t e = refl
    go kinds.Name (kinds.Number m) s t e = absurd (omega arith)
    go kinds.Name (kinds.Keyword w) s t e = absurd (s.2 w t)
    go kinds.Name (kinds.Sign g) s t e = absurd (omega arith)
    go (kinds.Number n) kinds.Name s t e = absurd (omega arith)
    go (kinds.Number n) (kinds.Number m) s t e = ap (λ (v : ℕ). kinds.Number v) (s.1 ∙ sym t.1)
    go (kinds.Number n) (kinds.Keyword w) s t e = absurd (omega arith)
    go (kinds.Number n) (kinds.Sign g) s t e = absurd (omega arith)
    go (kinds.Keyword w) kinds.Name s t e = absurd (t.2 w s)
    go (kinds.Keyword w) (kinds.Number m) s t e = absurd (omega arith)
    go (kinds.Keyword w) (kinds.Keyword v) s t e = ap (λ (x : Keyword). kinds.Keyword x) (same_keyword w v (sym s ∙ t))
    go (kinds.Keyword w) (kinds.Sign g) s t e = absurd (omega arith)
    go (kinds.Sign g) kinds.Name s t e = absurd (omega arith)
    go (kinds.Sign g) (kinds.Number m) s t e = absurd (omega arith)
    go (kinds.Sign g) (kinds.Keyword w) s t e = absurd (omega arith)
    go (kinds.Sign g) (kinds.Sign h) s t e = ap (λ (x : Sign). kinds.Sign x) (same_sign g h (sym s ∙ t))
    go j kinds.End s t e = absurd t
    go kinds.End k s t e = absurd s

one_kind : (j k : TokenKind) (bytes : Text) → IsToken j bytes → IsToken k bytes → j ≡ k
one_kind j k [] s t = absurd s
one_kind j k (b ∷ bytes) s t = same_kind j k b bytes s t

pub record Same (j k : TokenKind) (a b : ℕ) : Type 0 where
  pub kind : j ≡ k
  pub len : a ≡ b

-- A text begins with one longest token.
pub same_longest : (j k : TokenKind) (a b : ℕ) (text : Text) → IsLongest j a text → IsLongest k b text → Same j k a b
same_longest j k a b text s t =
    let least = s.longest k b t.within t.token in
    let greatest = t.longest j a s.within s.token in
    let len : a ≡ b = omega arith in
    record { kind = one_kind j k (take a text) s.token (subst (λ (n : ℕ). IsToken k (take n text)) (sym len) t.token); len = len }

-- ---- words

pub keyword_token : (k : Keyword) (bytes : Text) → bytes ≡ keyword_bytes k → IsToken (kinds.Keyword k) bytes
keyword_token k [] e = let l : is_letter 0 ≡ true = ap (λ (x : Text). is_letter (get_or x 0 0)) e ∙ keyword_head k in absurd cc
keyword_token k (b ∷ bytes) e = e

word_longest : (b : ℕ) (z : Text) → is_letter b ≡ true → (kind : TokenKind) → IsToken kind (take (prefix_len is_word (b ∷ z)) (b ∷ z)) → IsLongest kind (prefix_len is_word (b ∷ z)) (b ∷ z)
word_longest b z l kind t = record {
  within = prefix_len-le-length is_word (b ∷ z);
  token = t;
  longest = λ other more within k. most is_word (b ∷ z) more within (all other more k);
}
  where
    all : (other : TokenKind) (more : ℕ) → IsToken other (take more (b ∷ z)) → list_all is_word (take more (b ∷ z)) ≡ true
    all other zero k = absurd k
    all other (suc more) k = word_token other b (take more z) l k

pub keyword_front : (text : Text) (k : Keyword) → HasHead (λ b. is_letter b ≡ true) text → take (prefix_len is_word text) text ≡ keyword_bytes k → IsLongest (kinds.Keyword k) (prefix_len is_word text) text
keyword_front [] k l e = absurd l
keyword_front (b ∷ z) k l e = word_longest b z l (kinds.Keyword k) (keyword_token k _ e)

pub name_front : (text : Text) → HasHead (λ b. is_letter b ≡ true) text → ((k : Keyword) → take (prefix_len is_word text) text ≢ keyword_bytes k) → IsLongest kinds.Name (prefix_len is_word text) text
name_front [] l h = absurd l
name_front (b ∷ z) l h = word_longest b z l kinds.Name (subst (λ (n : ℕ). IsToken kinds.Name (take n (b ∷ z))) (sym one) (l, all_pass is_word z, subst (λ (n : ℕ). (k : Keyword) → take n (b ∷ z) ≢ keyword_bytes k) one h))
  where
    one : prefix_len is_word (b ∷ z) ≡ suc (prefix_len is_word z)
    one = run_more is_word b z (letter_word b l)

pub long_front : (text : Text) → HasHead (λ b. is_letter b ≡ true) text → MAX_NAME < prefix_len is_word text → IsLongest kinds.Name (prefix_len is_word text) text
long_front text l h = name_front text l (λ k e. let size : length (take (prefix_len is_word text) text) ≡ length (keyword_bytes k) = ap length e in let short = keyword_short k in let all = prefix_len-le-length is_word text in omega (arith, length-take (prefix_len is_word text) text))

-- ---- numbers

pub number_front : (text : Text) → HasHead (λ b. is_digit b ≡ true) text → IsLongest (kinds.Number (digits_value 10 (take (prefix_len is_digit text) text))) (prefix_len is_digit text) text
number_front [] d = absurd d
number_front (b ∷ z) d = record {
  within = prefix_len-le-length is_digit (b ∷ z);
  token = subst (λ (n : ℕ). IsToken (kinds.Number (digits_value 10 (take n (b ∷ z)))) (take n (b ∷ z))) (sym (run_more is_digit b z d)) (and_both (is_digit b) (list_all is_digit (take (prefix_len is_digit z) z)) d (all_pass is_digit z), refl);
  longest = λ other more within k. most is_digit (b ∷ z) more within (all other more k);
}
  where
    all : (other : TokenKind) (more : ℕ) → IsToken other (take more (b ∷ z)) → list_all is_digit (take more (b ∷ z)) ≡ true
    all other zero k = absurd k
    all other (suc more) k = digit_token other b (take more z) d k

-- ---- signs

abbrev pub IsOther : ℕ → Type 0
IsOther b = (is_letter b || is_digit b) ≡ false

other_two : (b : ℕ) → IsOther b → class_of b ≡ 2
other_two b h = go (is_letter b) refl
  where
    go : (v : Bool) → is_letter b ≡ v → class_of b ≡ 2
    go true k = let e : true ≡ false = sym (ap (λ (v : Bool). v || is_digit b) k) ∙ h in absurd cc
    go false k = other_class b k (sym (ap (λ (v : Bool). v || is_digit b) k) ∙ h)

sign_of : (s : Sign) (bytes : Text) → 0 < length bytes → bytes ≡ sign_bytes s → IsToken (kinds.Sign s) bytes
sign_of s [] some e = absurd (omega arith)
sign_of s (b ∷ bytes) some e = e

pub sign_front : (text : Text) (s : Sign) → HasHead IsOther text → front_sign text ≡ Some s → IsLongest (kinds.Sign s) (length (sign_bytes s)) text
sign_front [] s h e = absurd h
sign_front (b ∷ z) s h e =
    let spelled = sign_longest (b ∷ z) s e in
    record {
      within = spelled.within;
      token = sign_of s _ (omega (arith, ap length spelled.bytes, some_sign s)) spelled.bytes;
      longest = λ other more within k. go other more within k (λ r f. spelled.longest r more within f);
    }
  where
    go : (other : TokenKind) (more : ℕ) → more ≤ length (b ∷ z) → IsToken other (take more (b ∷ z)) → ((r : Sign) → take more (b ∷ z) ≡ sign_bytes r → more ≤ length (sign_bytes s)) → more ≤ length (sign_bytes s)
    go other zero within k f = absurd k
    go other (suc more) within k f = let found = sign_token other b (take more z) (other_two b h) k in f found.sign found.spelled

pub bad_front : (text : Text) → HasHead IsOther text → front_sign text ≡ None → BeginsNoToken text
bad_front [] h e = absurd h
bad_front (b ∷ z) h e = λ kind len within k. go kind len within k
  where
    go : (kind : TokenKind) (len : ℕ) → len ≤ length (b ∷ z) → IsToken kind (take len (b ∷ z)) → ⊥
    go kind zero within k = k
    go kind (suc len) within k = let found = sign_token kind b (take len z) (other_two b h) k in no_sign (b ∷ z) e found.sign (suc len) within found.spelled
