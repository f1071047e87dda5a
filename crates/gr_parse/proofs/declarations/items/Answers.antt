use Rattle.std.proofs.Common.{rules, arith, ◌≡◌, ◌-◌, [], ◌∷◌, ◌++◌, List, Ok, sym, ◌∙◌, ap, refl}
use Rattle.std.proofs.lemmas.Grind.{common_steps}
use Rattle.gr_syntax.specs.declared.syntax.Item.{Item}
use Rattle.gr_meets.specs.Parsers as read
use Rattle.gr_meets.proofs.Runs.{run_end, run_go}
use Rattle.gr_expressions.specs.TokWords as tok
use Rattle.gr_expressions.proofs.Steps.{plenty_is}
use Rattle.gr_parse.specs.ParsingWords as spec
use Rattle.gr_parse.specs.ParsingWords.{program}
use Rattle.gr_parse.proofs.Steps.{never_end}
use Rattle.gr_parse.proofs.Takes.{item_takes}
use Rattle.gr_parse.proofs.declarations.items.Goals as goal

pub each-init : goal.each-init
each-init c = (spec.plenty, λ few. omega (arith, plenty_is, few), ap (λ (xs : List Item). read.run tok.never (spec.item spec.plenty) spec.plenty xs c.args.tokens) (sym c.new-found.ensures))

pub returns-in_err-one : goal.returns-in_err-one
unfolding program
returns-in_err-one c =
    let i = c.each.invariant in
    let e = i.2 ∙ run_go tok.never (spec.item spec.plenty) i.0 c.each.found c.each.rest (sym c.is_empty.ensures.ends ∙ c.each-test.true) (omega (arith, i.1 c.is_empty.ensures.few)) in
    first_of (search rules, grind (arith, common_steps))

-- What the call says.
got : (c : goal.In_ok-push) → ◌≡◌ {A = read.Outcome tok.Tok Item} (spec.item spec.plenty c.each.rest) (Ok (c.in_ok-one.one, c.in_ok-one.after))
got c = first_of (search rules, grind (arith, common_steps))

pub each-smaller : goal.each-smaller
each-smaller c = (item_takes spec.plenty).less c.each.rest c.in_ok-one.one c.in_ok-one.after (got c)

pub each-preserved : goal.each-preserved
each-preserved c =
    let i = c.each.invariant in
    let p = spec.item spec.plenty in
    let some = i.1 c.is_empty.ensures.few in
    let e = run_go tok.never p i.0 c.each.found c.each.rest (sym c.is_empty.ensures.ends ∙ c.each-test.true) (omega (arith, some)) in
    let less = (item_takes spec.plenty).less c.each.rest c.in_ok-one.one c.in_ok-one.after (got c) in (
      i.0 - 1,
      λ few. omega (arith, less, some),
      i.2 ∙ e ∙ ap (λ (o : read.Outcome tok.Tok Item). read.and_then o (λ x. read.run tok.never p (i.0 - 1) (c.each.found ++ x ∷ []))) (got c)
          ∙ ap (λ (xs : List Item). read.run tok.never p (i.0 - 1) xs c.in_ok-one.after) (sym c.in_ok-push.ensures.ok),
    )

pub returns : goal.returns
unfolding program
returns c =
    let i = c.each.invariant in
    let none : c.each.rest ≡ [] = never_end tok.never c.each.rest (λ t. refl) (sym c.is_empty.ensures.ends ∙ c.each-test.false) in
    i.2 ∙ run_end tok.never (spec.item spec.plenty) i.0 c.each.found c.each.rest (sym c.is_empty.ensures.ends ∙ c.each-test.false) (omega (arith, i.1 c.is_empty.ensures.few)) ∙ ap (λ (ts : tok.Toks). Ok (c.each.found, ts)) none
