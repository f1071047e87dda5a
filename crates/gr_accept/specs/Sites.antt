-- The sites of a program: the parts of it at which a condition may hold, each with all that it takes to tell.
use Rattle.std.specs.Prelude.{ℕ, List}
use Rattle.gr_syntax.specs.declared.syntax.Item.{Item}
use Rattle.gr_syntax.specs.declared.syntax.Name.{Name}
use Rattle.gr_syntax.specs.declared.syntax.Number.{Number}
use Rattle.gr_syntax.specs.declared.syntax.Place.{Place}
use Rattle.gr_syntax.specs.declared.syntax.CallText.{CallText}

-- The items before a site are listed backwards: the nearest comes first.
pub data Site : Type 0 where
  declares : (name : List ℕ) (at : Place) (before : List Item) → Site  -- an object, the heap or a task gets its name, after these items
  object : (name : Name) (before : List Item) → Site  -- an array, set, map or vector, after these items
  task : (name : Name) (before : List Item) → Site  -- a task, after these items
  sizes : (words : Number) (before : List Item) → Site  -- the words of an array or the heap, after these items
  input : (name : Name) (before : List Item) → Site  -- an `input`'s name, after these items
  fills : (name : Name) (values : List Number) → Site  -- an `input` with its numbers
  shows : (name : Name) → Site  -- a `show`
  begins : (name : Name) (params : List Name) → Site  -- a task's head
  gives : (name : Name) (before : List (List ℕ)) → Site  -- a parameter or `let` target, after these locals of the task
  mentions : (name : Name) (visible : List (List ℕ)) → Site  -- a local that is read or assigned, where these are visible
  calls : (call : CallText) (targets : List Name) → Site  -- a call, with the targets of its result words; a bare call has none
  starts : (name : Name) (count : ℕ) → Site  -- a task is started with as many words
  ends : (at : Place) (items : List Item) → Site  -- the end of the text, with all items
