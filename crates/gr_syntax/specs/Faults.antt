-- A fault is a condition at a place; this file says which of two faults comes first, and what the first of many is.
use Rattle.std.specs.Prelude.{◌≡◌, ℕ, ◌==◌, Bool, false, nat_lt, if◌then◌else◌, List, [], ◌∷◌, Contains, All, codes}
use Rattle.gr_syntax.specs.declared.syntax.Place.{Place}
use Rattle.gr_syntax.specs.declared.refusal.Kind.{Kind}
use Rattle.gr_syntax.specs.declared.refusal.Kind.TheVariants as kind
use Rattle.gr_syntax.specs.declared.refusal.Fault.{Fault}

-- The kind's place in the list of all kinds.
abbrev pub rank : Kind → ℕ
rank kind.BadByte = 1
rank kind.NumberTooWide = 2
rank kind.NameTooLong = 3
rank kind.Unexpected = 4
rank kind.UnexpectedEnd = 5
rank kind.NoMain = 6
rank kind.MainHasParams = 7
rank kind.Duplicate = 8
rank kind.Unknown = 9
rank kind.WrongKind = 10
rank kind.WrongArity = 11
rank kind.TooMany = 12
rank kind.HeapTooLarge = 13
rank kind.InputTooLong = 14
rank kind.InputUnknown = 15

-- The words that a refusal is written with.
abbrev pub words_of : Kind → List ℕ
words_of kind.BadByte = codes "bad byte"
words_of kind.NumberTooWide = codes "number too wide"
words_of kind.NameTooLong = codes "name too long"
words_of kind.Unexpected = codes "unexpected"
words_of kind.UnexpectedEnd = codes "unexpected end"
words_of kind.NoMain = codes "no main"
words_of kind.MainHasParams = codes "main has parameters"
words_of kind.Duplicate = codes "duplicate name"
words_of kind.Unknown = codes "unknown name"
words_of kind.WrongKind = codes "wrong kind"
words_of kind.WrongArity = codes "wrong number"
words_of kind.TooMany = codes "too many"
words_of kind.HeapTooLarge = codes "heap too large"
words_of kind.InputTooLong = codes "input too long for its array"
words_of kind.InputUnknown = codes "input of no array"

abbrev pub fault : Kind → Place → Fault
fault kind at = record { kind = kind; at = at }

-- One fault where the condition holds, else none.
abbrev pub when : Bool → Kind → Place → List Fault
when broken kind at = if broken then fault kind at ∷ [] else []

-- By line, then by column, then by the list of kinds.
abbrev pub comes_before : Fault → Fault → Bool
comes_before f g =
    if f.at.line == g.at.line
    then (if f.at.column == g.at.column then nat_lt (rank f.kind) (rank g.kind) else nat_lt f.at.column g.at.column)
    else nat_lt f.at.line g.at.line

-- The fault is one of these, and none of them comes before it.
pub record IsFirst (f : Fault) (fs : List Fault) : Type 0 where
  pub among : Contains fs f
  pub first : All (λ g. comes_before g f ≡ false) fs
