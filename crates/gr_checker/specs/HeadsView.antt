-- What the pass over the heads of the items keeps, item by item. Counts and the sum of words stop at the greatest word.
use Rattle.std.specs.Prelude.{Option, None, ℕ, ◌+◌, ◌-◌, ◌^◌, ◌==◌, min, Bool, ◌&&◌, nat_le, nat_lt, is_some, List, [], ◌∷◌, length, codes}
use Rattle.gr_syntax.specs.declared.limits.TheConstants.{MAX_OBJECTS, MAX_TASKS, MAX_WORDS}
use Rattle.gr_syntax.specs.declared.syntax.Item.{Item}
use Rattle.gr_syntax.specs.declared.syntax.Item.TheVariants as item
use Rattle.gr_syntax.specs.declared.syntax.Name.{Name}
use Rattle.gr_syntax.specs.declared.syntax.Number.{Number}
use Rattle.gr_syntax.specs.declared.syntax.Place.{Place}
use Rattle.gr_syntax.specs.declared.refusal.Kind.TheVariants as kind
use Rattle.gr_syntax.specs.Faults.{when}
use Rattle.gr_syntax.specs.Names.{has, with_name}
use Rattle.gr_syntax.specs.declared.refusal.Fault.{Fault}
use Rattle.gr_accept.specs.Declarations.{Meaning}
use Rattle.gr_accept.specs.declared.operation.Declared.{Declared}
use Rattle.gr_accept.specs.declared.operation.Declared.TheVariants as declared
use Rattle.gr_checker.specs.EarliestWords.{least}
use Rattle.gr_checker.specs.MeaningView.{meaning_of, no_meaning, with_meaning}
use Rattle.gr_checker.specs.declared.heads.Heads.{Heads}

-- The earliest fault so far, and what the items so far declare.
pub record Kept : Type 0 where
  pub found : Option Fault
  pub meaning : Meaning  -- of each name of an object or a task
  pub inputs : List (List ℕ)  -- the names that have an `input`
  pub objects : ℕ  -- the number of objects, the heap not counted
  pub tasks : ℕ  -- the number of tasks
  pub words : ℕ  -- the words of the arrays and the heap together

-- What the code keeps.
abbrev pub kept_by : Heads → Kept
kept_by heads = record {
  found = heads.found;
  meaning = meaning_of heads.meanings;
  inputs = heads.inputs;
  objects = heads.objects;
  tasks = heads.tasks;
  words = heads.words;
}

-- A sum that stops at the greatest word.
abbrev pub saturated : ℕ → ℕ → ℕ
saturated sum more = min (sum + more) (2 ^ 64 - 1)

abbrev pub declare_name : List ℕ → Place → Declared → Kept → Kept
declare_name name at declared kept = record kept {
  found = least kept.found (when (is_some (kept.meaning name)) kind.Duplicate at);
  meaning = with_meaning kept.meaning name declared;
}

abbrev pub count_object : Place → Kept → Kept
count_object at kept = record kept {
  found = least kept.found (when (kept.objects == MAX_OBJECTS) kind.TooMany at);
  objects = saturated kept.objects 1;
}

abbrev pub count_task : Place → Kept → Kept
count_task at kept = record kept {
  found = least kept.found (when (kept.tasks == MAX_TASKS) kind.TooMany at);
  tasks = saturated kept.tasks 1;
}

-- With this number the words first exceed their limit.
abbrev pub exceeds : Kept → ℕ → Bool
exceeds kept words = nat_le kept.words MAX_WORDS && nat_lt MAX_WORDS (saturated kept.words words)

abbrev pub enlarge : Number → Kept → Kept
enlarge words kept = record kept {
  found = least kept.found (when (exceeds kept words.value) kind.HeapTooLarge words.at);
  words = saturated kept.words words.value;
}

abbrev pub take_input : Name → Kept → Kept
take_input name kept = record kept {
  found = least kept.found (when (has kept.inputs name.text) kind.Duplicate name.at);
  inputs = with_name kept.inputs name.text;
}

abbrev pub declare_object : Name → Declared → Kept → Kept
declare_object name declared kept = declare_name name.text name.at declared (count_object name.at kept)

abbrev pub item_declared : Item → Kept → Kept
item_declared (item.Array name words) kept = declare_object name (declared.Array words.value) (enlarge words kept)
item_declared (item.Set name) kept = declare_object name declared.Set kept
item_declared (item.Map name) kept = declare_object name declared.Map kept
item_declared (item.Vector name) kept = declare_object name declared.Vector kept
item_declared (item.Heap words) kept = declare_name (codes "heap") words.at declared.Heap (enlarge words kept)
item_declared (item.Show name) kept = kept
item_declared (item.Input name values) kept = take_input name kept
item_declared (item.Task name params body) kept = declare_name name.text name.at (declared.Task (length params)) (count_task name.at kept)

abbrev pub all_declared : List Item → Kept → Kept
all_declared [] kept = kept
all_declared (item ∷ more) kept = all_declared more (item_declared item kept)

abbrev pub none : Kept
none = record { found = None; meaning = no_meaning; inputs = []; objects = 0; tasks = 0; words = 0 }
