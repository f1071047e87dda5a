-- Laws of the operations and reducers.
use Rattle.std.specs.Prelude.{◌≡◌, ℕ}
use Rattle.gr_lang.specs.declared.action.Op.{Op}
use Rattle.gr_lang.specs.Effects.{reduced}
use Rattle.gr_lang.specs.Parts.{parts_of, op_in}

-- Each operation is the one that its parts make.
abbrev pub OperationsAreTheirParts : Type 0
OperationsAreTheirParts = (op : Op) → op_in (parts_of op) ≡ op

-- Each reducer is associative.
abbrev pub ReducersAreAssociative : Type 0
ReducersAreAssociative = (reducer one two three : ℕ) → reduced reducer (reduced reducer one two) three ≡ reduced reducer one (reduced reducer two three)
