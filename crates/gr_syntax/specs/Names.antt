-- Names: how they are spelled, and sets of them.
use Rattle.std.specs.Prelude.{ℕ, Bool, false, not, if◌then◌else◌, ◌&&◌, ◌||◌, ◌==◌, nat_le, List, [], ◌∷◌, ◌++◌, length, codes}
use Rattle.std.specs.List.{list_all, list_any}
use Rattle.std.specs.Str.{bytes_eq}
use Rattle.gr_syntax.specs.declared.limits.TheConstants.{MAX_NAME}

-- Sets of names are lists in which each name stands once.

-- Whether the name is one of these.
abbrev pub has : List (List ℕ) → List ℕ → Bool
has names name = list_any (bytes_eq name) names

-- These names and this one, which is added last unless it is there already.
abbrev pub with_name : List (List ℕ) → List ℕ → List (List ℕ)
with_name names name = if has names name then names else names ++ name ∷ []

-- Which texts are names. A text is seen as its bytes.

-- A letter of ASCII or `_`, with which a name begins.
abbrev pub is_letter : ℕ → Bool
is_letter b = (nat_le 97 b && nat_le b 122) || (nat_le 65 b && nat_le b 90) || b == 95

abbrev pub is_digit : ℕ → Bool
is_digit b = nat_le 48 b && nat_le b 57

-- A letter, `_` or a digit, with which a name goes on.
abbrev pub is_word : ℕ → Bool
is_word b = is_letter b || is_digit b

-- A letter or `_`, then letters, digits and `_`.
abbrev pub is_spelled : List ℕ → Bool
is_spelled [] = false
is_spelled (b ∷ bytes) = is_letter b && list_all is_word bytes

-- The words of the language, which name nothing.
abbrev pub keywords : List (List ℕ)
keywords = codes "array" ∷ codes "set" ∷ codes "map" ∷ codes "vector" ∷ codes "heap" ∷ codes "input" ∷ codes "show" ∷ codes "task" ∷ codes "let" ∷ codes "if"
    ∷ codes "else" ∷ codes "while" ∷ codes "print" ∷ codes "spawn" ∷ codes "at" ∷ codes "offer" ∷ codes "finish" ∷ codes "forall" ∷ codes "grain" ∷ []

-- A name: spelled as one, of at most so many bytes, and no keyword.
abbrev pub is_name : List ℕ → Bool
is_name bytes = is_spelled bytes && nat_le (length bytes) MAX_NAME && not (has keywords bytes)
