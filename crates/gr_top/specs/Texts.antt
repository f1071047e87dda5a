-- The texts that are written, each a line or more that ends with a newline.
use Rattle.std.specs.Prelude.{ℕ, Bool, true, false, List, ◌++◌, codes}
use Rattle.std.specs.Fmt.{decimal}
use Rattle.gr_syntax.specs.declared.refusal.Fault.{Fault}
use Rattle.gr_syntax.specs.Faults.{words_of}

abbrev pub usage_text : List ℕ
usage_text = codes "usage: grappa run|check|replay|bench [--cores N] [--block N] [--limit N] [--steps N] [--slice N] [--events N] [--history] [--counts] [--kind WORD] [--size N] [--seed N]\n"

abbrev pub accepted_text : List ℕ
accepted_text = codes "accepted\n"

abbrev pub too_long_text : List ℕ
too_long_text = codes "input too long\n"

abbrev pub legal_text : Bool → List ℕ
legal_text true = codes "legal complete\n"
legal_text false = codes "legal open\n"

abbrev pub not_legal_text : ℕ → List ℕ
not_legal_text entry = codes "not legal at entry " ++ (decimal entry ++ codes "\n")

abbrev pub bad_line_text : ℕ → List ℕ
bad_line_text line = codes "bad history line " ++ (decimal line ++ codes "\n")

abbrev pub stalled_text : List ℕ
stalled_text = codes "stalled\n"

-- Where a text is refused, and why.
abbrev pub refused_text : Fault → List ℕ
refused_text f = codes "refused line " ++ (decimal f.at.line ++ (codes " column " ++ (decimal f.at.column ++ (codes ": " ++ (words_of f.kind ++ codes "\n")))))
