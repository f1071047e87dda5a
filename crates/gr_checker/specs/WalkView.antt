-- A walk through a task's text after one more part of it.
use Rattle.gr_accept.specs.Walks.{Part, LexicalScope}
use Rattle.gr_checker.specs.EarliestWords.{seen}
use Rattle.gr_checker.specs.MeaningView.{meaning_of}
use Rattle.gr_checker.specs.declared.walk.Walk.{Walk}

-- The names that the task has, and those that are visible.
abbrev pub scope_of : Walk → LexicalScope
scope_of walk = record { named = walk.scope.named; visible = walk.scope.visible }

abbrev pub after : Walk → Part → Walk
after walk part = record {
  found = seen (meaning_of walk.scope.meanings.now) walk.found (part (scope_of walk)).sites;
  scope = record {
    meanings = walk.scope.meanings;
    named = (part (scope_of walk)).scope.named;
    visible = (part (scope_of walk)).scope.visible;
  };
}
