-- Operations on one word, by the calls of objects that they stand for.
use Rattle.std.specs.Prelude.{ℕ}
use Rattle.gr_lang.specs.declared.action.Op.{Op}
use Rattle.gr_lang.specs.declared.action.Op.TheVariants as call
use Rattle.gr_lang.specs.Effects.{word_after}
use Rattle.gr_addr.specs.declared.word.WordOp.{WordOp}
use Rattle.gr_addr.specs.declared.word.WordOp.TheVariants as op

-- The call that an operation on the word at a place of an object stands for.
abbrev pub call_of : ℕ → ℕ → WordOp → Op
call_of object place op.Read = call.Read object place
call_of object place (op.Write word) = call.Write object place word
call_of object place (op.Add word) = call.Add object place word
call_of object place (op.Cas old new) = call.Cas object place old new

-- The word after an operation on it: after its call, whatever the object and the place.
abbrev pub stored : WordOp → ℕ → ℕ
stored op before = word_after (call_of 0 0 op) before
