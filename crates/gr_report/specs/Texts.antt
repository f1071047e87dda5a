-- The texts that tell of a history, each a line or more that ends with a newline.
use Rattle.std.specs.Prelude.{ℕ, List, [], ◌∷◌, ◌++◌, Option, Some, None, codes}
use Rattle.std.specs.Fmt.{decimal}
use Rattle.gr_lang.specs.declared.action.Entry.{Entry}
use Rattle.gr_lang.specs.declared.action.Entry.TheVariants as e
use Rattle.gr_lang.specs.declared.action.Op.TheVariants as o
use Rattle.gr_lang.specs.Traps.{trap_word}
use Rattle.gr_report.specs.declared.texts.TrapAt.{TrapAt}

-- The word that an entry prints.
abbrev pub printed_by : Entry → Option ℕ
printed_by (e.Call task (o.Print word) reply) = Some word
printed_by _ = None

-- A printed word in decimal, on a line of its own.
abbrev pub line_of : Option ℕ → List ℕ
line_of None = []
line_of (Some word) = decimal word ++ codes "\n"

-- The prints of a history, in its order.
unfoldable pub prints : List Entry → List ℕ
prints [] = []
prints (x ∷ xs) = line_of (printed_by x) ++ prints xs

abbrev pub trap_of : Entry → Option TrapAt
trap_of (e.Trap task kind) = Some (record { kind = kind; task = task })
trap_of _ = None

abbrev pub first_of : Option TrapAt → Option TrapAt → Option TrapAt
first_of (Some t) rest = Some t
first_of None rest = rest

-- The first trap of a history.
unfoldable pub first_trap : List Entry → Option TrapAt
first_trap [] = None
first_trap (x ∷ xs) = first_of (trap_of x) (first_trap xs)

abbrev pub trap_text : TrapAt → List ℕ
trap_text t = codes "trap " ++ (trap_word t.kind ++ (codes " task " ++ (decimal t.task.core ++ (codes "." ++ (decimal t.task.number ++ codes "\n")))))
