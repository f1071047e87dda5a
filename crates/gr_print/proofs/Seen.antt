-- The tokens of a layout.
use Rattle.std.proofs.Common.{◌≡◌, ℕ, zero, suc, [], ◌∷◌, ◌++◌, replicate, refl, sym, ap, ◌∙◌, append_assoc}
use Rattle.gr_expressions.specs.Tok.{Toks}
use Rattle.gr_print.specs.Pieces.{Piece, Layout}
use Rattle.gr_print.specs.Layout.{line}

abbrev pub piece_tokens : Piece → Toks
piece_tokens (Piece.token t) = t ∷ []
piece_tokens Piece.blank = []
piece_tokens Piece.newline = []

abbrev pub tokens_of : Layout → Toks
tokens_of [] = []
tokens_of (p ∷ ps) = piece_tokens p ++ tokens_of ps

pub tokens_of-append : (ps qs : Layout) → tokens_of (ps ++ qs) ≡ tokens_of ps ++ tokens_of qs
tokens_of-append [] qs = refl
tokens_of-append (p ∷ ps) qs = ap (λ (ts : Toks). piece_tokens p ++ ts) (tokens_of-append ps qs) ∙ sym (append_assoc (piece_tokens p) (tokens_of ps) (tokens_of qs))

-- A margin has no tokens.
pub tokens_of-margin : (n : ℕ) (ps : Layout) → tokens_of (replicate n Piece.blank ++ ps) ≡ tokens_of ps
tokens_of-margin zero ps = refl
tokens_of-margin (suc n) ps = tokens_of-margin n ps

pub tokens_of-line : (n : ℕ) (ps qs : Layout) → tokens_of (line n ps ++ qs) ≡ tokens_of ps ++ tokens_of qs
tokens_of-line n ps qs = ap tokens_of (append_assoc (replicate n Piece.blank) (ps ++ Piece.newline ∷ []) qs) ∙ tokens_of-margin n ((ps ++ Piece.newline ∷ []) ++ qs)
    ∙ ap tokens_of (append_assoc ps (Piece.newline ∷ []) qs) ∙ tokens_of-append ps (Piece.newline ∷ qs)
