-- The tokens of a text that is read as a program spell the program.
use Rattle.std.proofs.Common.{◌≡◌, ◌≢◌, ℕ, ◌-◌, ◌≤◌, List, [], ◌∷◌, length, drop, All, Ok, refl, sym, ap, subst, ◌∙◌, arith}
use Rattle.std.specs.Prelude.{slice_range}
use Rattle.std.proofs.lemmas.List.{length-append, length-take, length-drop}
use Rattle.std.proofs.lemmas.List.Elements.{All-head, All-tail}
use Rattle.gr_syntax.specs.declared.syntax.Place.{Place}
use Rattle.gr_syntax.specs.declared.syntax.Program.{Program}
use Rattle.gr_text.specs.declared.token.Keyword.{Keyword}
use Rattle.gr_text.specs.declared.token.Keyword.TheVariants as k
use Rattle.gr_text.specs.declared.token.Token.{Token}
use Rattle.gr_text.specs.declared.token.TokenKind.{TokenKind}
use Rattle.gr_text.specs.declared.token.TokenKind.TheVariants as kinds
use Rattle.gr_text.specs.Text.{Text, IsToken, Fits, Reads, IsTokenOf, token_at}
use Rattle.gr_text.proofs.Well.{well}
use Rattle.gr_expressions.specs.Tok.{tok_of, tok_of_kind, toks}
use Rattle.gr_parse.specs.Grammar.{IsProgramOf}
use Rattle.gr_parse.proofs.Whole.{Cut, cut, toks_more, toks_none}
use Rattle.gr_print.specs.Unplaced.{SameButForPlaces}
use Rattle.gr_print.specs.Printed.{IsWritten, AreWritten, IsSpelling, IsSpelled}

word_written : (word : Keyword) (bytes : Text) (at : Place) → IsWritten (tok_of_kind bytes at (kinds.Keyword word))
word_written k.Heap bytes at = tt
word_written k.Array bytes at = λ e. cc
word_written k.Set bytes at = λ e. cc
word_written k.Map bytes at = λ e. cc
word_written k.Vector bytes at = λ e. cc
word_written k.Input bytes at = λ e. cc
word_written k.Show bytes at = λ e. cc
word_written k.Task bytes at = λ e. cc
word_written k.Let bytes at = λ e. cc
word_written k.If bytes at = λ e. cc
word_written k.Else bytes at = λ e. cc
word_written k.While bytes at = λ e. cc
word_written k.Print bytes at = λ e. cc
word_written k.Spawn bytes at = λ e. cc
word_written k.At bytes at = λ e. cc
word_written k.Offer bytes at = λ e. cc
word_written k.Finish bytes at = λ e. cc
word_written k.Forall bytes at = λ e. cc
word_written k.Grain bytes at = λ e. cc

kind_written : (kind : TokenKind) (bytes : Text) (at : Place) → IsToken kind bytes → Fits kind (length bytes) → kind ≢ kinds.End → IsWritten (tok_of_kind bytes at kind)
kind_written kinds.Name bytes at t f n = (t, f)
kind_written (kinds.Number v) bytes at t f n = f
kind_written (kinds.Keyword word) bytes at t f n = word_written word bytes at
kind_written (kinds.Sign g) bytes at t f n = tt
kind_written kinds.End bytes at t f n = absurd (n refl)

span_length : (text : Text) (from to : ℕ) → to ≤ length text → length (slice_range text from to) ≡ to - from
span_length text from to h = omega (arith, length-take (to - from) (drop from text), length-drop from text)

token_written : (text : Text) (t : Token) → IsTokenOf text t → t.kind ≢ kinds.End → IsWritten (tok_of text t)
token_written text t h n = kind_written t.kind (slice_range text t.from t.to) t.at h.token (subst (λ (len : ℕ). Fits t.kind len) (sym (span_length text t.from t.to h.within)) h.fits) n

tokens_written : (text : Text) (ts : List Token) → All (IsTokenOf text) ts → All (λ t. t.kind ≢ kinds.End) ts → AreWritten (toks text ts)
tokens_written text [] h n = subst AreWritten (sym (toks_none text)) tt
tokens_written text (t ∷ ts) h n = subst AreWritten (sym (toks_more text t ts))
    (token_written text t (All-head (IsTokenOf text) t ts h) (All-head (λ t. t.kind ≢ kinds.End) t ts n), tokens_written text ts (All-tail (IsTokenOf text) t ts h) (All-tail (λ t. t.kind ≢ kinds.End) t ts n))

fronts_alike : (f g : List Token) (end last : Token) → Cut f end g last [] → f ≡ g
fronts_alike f g end last (Cut.at_end p q r) = p
fronts_alike f g end last (Cut.inside b p q) = absurd (omega (arith, ap length q, length-append b (end ∷ [])))

-- The tokens of a text that is read so spell the program.
pub text_spells : (text : List ℕ) (tokens : List Token) (read program : Program) → Reads text (Ok tokens) → (h : IsProgramOf text tokens read) → SameButForPlaces read program → IsSpelling (toks text h.front) program
text_spells text tokens read program reads h same =
    let a = well text tokens reads in
    let last = token_at text kinds.End (length text) 0 in
    let alike = fronts_alike a.front h.front last h.end (cut a.front last h.front h.end [] (sym a.parts ∙ h.parts)) in
    record {
      written = subst (λ (f : List Token). AreWritten (toks text f)) alike (tokens_written text a.front a.tokens_of a.no_end);
      items = read.items;
      spelled = h.spelled;
      same = ap (λ (p : Program). p.items) same;
    }

-- What a text is read as is spelled.
pub read_spelled : (text : List ℕ) (tokens : List Token) (program : Program) → Reads text (Ok tokens) → IsProgramOf text tokens program → IsSpelled program
read_spelled text tokens program reads h = record { tokens = toks text h.front; spelling = text_spells text tokens program program reads h refl }
