-- What the words of the language mean as tokens.
use Rattle.std.proofs.Common.{◌≡◌, ℕ, false, None, List, [], ◌∷◌, refl}
use Rattle.std.proofs.lemmas.List.Elements.{All-head}
use Rattle.gr_meets.specs.Parsers.{sees}
use Rattle.gr_syntax.specs.declared.syntax.Place.{Place}
use Rattle.gr_text.specs.declared.token.Keyword.{Keyword}
use Rattle.gr_text.specs.declared.token.Keyword.TheVariants as k
use Rattle.gr_text.specs.declared.token.Sign.{Sign}
use Rattle.gr_text.specs.declared.token.Token.{Token}
use Rattle.gr_text.specs.declared.token.TokenKind.{TokenKind}
use Rattle.gr_text.specs.declared.token.TokenKind.TheVariants as kinds
use Rattle.gr_expressions.specs.SoundWords.{IsSound, AreSound}
use Rattle.gr_expressions.specs.Tok.{tok_of_word, tok_of_kind, toks, is_sign}
use Rattle.gr_expressions.specs.TokWords.{is_missing, name_of, number_of, atom_of, operator}

pub word_no_sign : (want : Sign) (at : Place) (w : Keyword) → is_sign want (tok_of_word at w) ≡ false
word_no_sign want at k.Heap = refl
word_no_sign want at _ = refl

pub word_no_name : (at : Place) (w : Keyword) → name_of (tok_of_word at w) ≡ None
word_no_name at k.Heap = refl
word_no_name at _ = refl

pub word_no_number : (at : Place) (w : Keyword) → number_of (tok_of_word at w) ≡ None
word_no_number at k.Heap = refl
word_no_number at _ = refl

pub word_no_operator : (level : ℕ) (at : Place) (w : Keyword) → operator level (tok_of_word at w) ≡ None
unfolding operator
word_no_operator level at k.Heap = refl
word_no_operator level at _ = refl

pub word_no_atom : (at : Place) (w : Keyword) → atom_of (tok_of_word at w) ≡ None
word_no_atom at k.Heap = refl
word_no_atom at _ = refl

word_not_missing : (at : Place) (w : Keyword) → is_missing (tok_of_word at w) ≡ false
word_not_missing at k.Heap = refl
word_not_missing at _ = refl

not_missing : (word : List ℕ) (at : Place) (kind : TokenKind) → (kind ≡ kinds.End → ⊥) → is_missing (tok_of_kind word at kind) ≡ false
not_missing word at kinds.Name h = refl
not_missing word at (kinds.Number n) h = refl
not_missing word at (kinds.Keyword w) h = word_not_missing at w
not_missing word at (kinds.Sign g) h = refl
not_missing word at kinds.End h = absurd (h refl)

-- Tokens of a text stand for no part that finds no room.
pub sound_sees : (text : List ℕ) (tokens : List Token) → AreSound text tokens → sees is_missing (toks text tokens) ≡ false
unfolding sees toks
sound_sees text [] h = refl
sound_sees text (t ∷ tokens) h = not_missing _ t.at t.kind (All-head (IsSound text) t tokens h).no_end
