use Rattle.std.proofs.Common.{◌≡◌, take, drop, ◌++◌}
use Rattle.gr_lang.specs.Locals.{set_word}
use Rattle.gr_steps.specs.LocalView.{locals_of}
use Rattle.gr_steps.proofs.locals.LocalWords.set.Given as goal

abbrev pub invariant-loop-local : goal.invariant-loop-local
invariant-loop-local l = record {
  same : l.local-items ≡ l.initial.local-items;
  step : set_word (locals_of l.local-items) l.name l.word ≡ locals_of (take l.local-index l.local-items) ++ set_word (locals_of (drop l.local-index l.local-items)) l.name l.word;
}
