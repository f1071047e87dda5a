-- Where there is no memory, what was found is written back.
use Rattle.std.proofs.Common.{◌∙◌, ap, sym, OnErr, Result, Ok, Err}
use Rattle.std.proofs.lemmas.Map.Steps.{set_value_same}
use Rattle.std.specs.BTreeMap.{is_at}
use Rattle.std.specs.Map.{set_value}
use Rattle.gr_event.specs.Scopes.{at_scope, scope_cmp}
use Rattle.gr_event.specs.declared.counts.LocalCount.{LocalCount}
use Rattle.gr_event.proofs.counts.count_one.Goals as goal

on_err : {A E P : Type 0} (r : Result A E) → P → OnErr r P
on_err (Ok x) p = tt
on_err (Err e) p = p

pub returns-in_err-answer-in-Some-clause-err : goal.returns-in_err-answer-in-Some-clause-err
returns-in_err-answer-in-Some-clause-err c =
    let old = c.args.map.now.entries in
    let test = is_at (scope_cmp c.args.scope) in
    let written = (c.get_mut.follows.holds c.enrol.new.self).0 in
    let before = c.in_err-answer-in-Some.ensures.err in
    let same = set_value_same test old c.in-Some.count.now (sym c.in-Some.ensures.value) in
    on_err c.from_residual.result (ap at_scope (written ∙ ap (λ (x : LocalCount). set_value test old x) before ∙ same))
