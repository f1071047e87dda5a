use Rattle.std.proofs.Common.{rules, arith, ◌≡◌, ℕ, ◌-◌, Bool, [], ◌∷◌, ◌++◌, List, Ok, sym, ◌∙◌, ap}
use Rattle.std.proofs.lemmas.Grind.{common_steps}
use Rattle.gr_syntax.specs.declared.syntax.Stmt.{Stmt}
use Rattle.gr_text.specs.declared.token.Sign.TheVariants as signs
use Rattle.gr_meets.specs.Parsers as read
use Rattle.gr_meets.proofs.Runs.{run_end, run_go}
use Rattle.gr_expressions.specs.TokWords as tok
use Rattle.gr_expressions.proofs.Steps.{plenty_is}
use Rattle.gr_parse.specs.ParsingWords as spec
use Rattle.gr_parse.proofs.Steps.{statement_named, statement_other, block_zero, block_step}
use Rattle.gr_parse.proofs.Takes.{statement_takes}
use Rattle.gr_parse.proofs.blocks.+statement.Goals as goal

pub statement-returns-in-Some : goal.statement-returns-in-Some
statement-returns-in-Some t c =
    let e = statement_named spec.plenty c.args.depth c.in-Some.first c.args.rest (sym c.in_ok-ahead.ensures ∙ c.in-Some.is) in
    first_of (search rules, grind (arith, common_steps))

pub statement-returns-in-None : goal.statement-returns-in-None
statement-returns-in-None t c =
    let e = statement_other spec.plenty c.args.depth c.args.rest (sym c.in_ok-ahead.ensures ∙ c.in-None.is) in
    first_of (search rules, grind (arith, common_steps))

pub block-returns-then-depth-eq0 : goal.block-returns-then-depth-eq0
block-returns-then-depth-eq0 t c =
    let e = block_zero spec.plenty c.args.depth c.args.rest (omega arith) c.refusal.ensures.room in
    first_of (search rules, grind (arith, common_steps))

pub block-returns-in_err-rest : goal.block-returns-in_err-rest
block-returns-in_err-rest t c =
    let e = block_step spec.plenty c.args.depth c.args.rest (omega arith) in
    first_of (search rules, grind (arith, common_steps))

pub block-returns-in_err-body : goal.block-returns-in_err-body
block-returns-in_err-body t c =
    let e = block_step spec.plenty c.args.depth c.args.rest (omega arith) in
    first_of (search rules, grind (arith, common_steps))

pub block-returns-in_err-rest-2 : goal.block-returns-in_err-rest-2
block-returns-in_err-rest-2 t c =
    let e = block_step spec.plenty c.args.depth c.args.rest (omega arith) in
    first_of (search rules, grind (arith, common_steps))

pub block-returns : goal.block-returns
block-returns t c =
    let e = block_step spec.plenty c.args.depth c.args.rest (omega arith) in
    first_of (search rules, grind (arith, common_steps))

stop : tok.Tok → Bool
stop = tok.is_sign signs.RightBrace

pub statements-each-init : goal.statements-each-init
unfolding stop
statements-each-init t c = (spec.plenty, λ few. omega (arith, plenty_is, few), ap (λ (xs : List Stmt). read.run stop (spec.statement spec.plenty c.args.depth) spec.plenty xs c.args.rest) (sym c.new-found.ensures))

pub statements-returns-in_err-one : goal.statements-returns-in_err-one
unfolding stop
statements-returns-in_err-one t c =
    let i = c.each.invariant in
    let e = i.2 ∙ run_go stop (spec.statement spec.plenty c.args.depth) i.0 c.each.found c.each.rest (sym c.halts.ensures.ends ∙ c.each-test.true) (omega (arith, i.1 c.halts.ensures.few)) in
    first_of (search rules, grind (arith, common_steps))

-- What the call says.
got : (t : ℕ) (c : goal.statements-In_ok-push t) → ◌≡◌ {A = read.Outcome tok.Tok Stmt} (spec.statement spec.plenty c.args.depth c.each.rest) (Ok (c.in_ok-one.one, c.in_ok-one.after))
got t c = first_of (search rules, grind (arith, common_steps))

pub statements-each-smaller : goal.statements-each-smaller
statements-each-smaller t c = (statement_takes spec.plenty c.args.depth).less c.each.rest c.in_ok-one.one c.in_ok-one.after (got t c)

pub statements-each-preserved : goal.statements-each-preserved
unfolding stop
statements-each-preserved t c =
    let i = c.each.invariant in
    let p = spec.statement spec.plenty c.args.depth in
    let some = i.1 c.halts.ensures.few in
    let e = run_go stop p i.0 c.each.found c.each.rest (sym c.halts.ensures.ends ∙ c.each-test.true) (omega (arith, some)) in
    let less = (statement_takes spec.plenty c.args.depth).less c.each.rest c.in_ok-one.one c.in_ok-one.after (got t c) in (
      i.0 - 1,
      λ few. omega (arith, less, some),
      i.2 ∙ e ∙ ap (λ (o : read.Outcome tok.Tok Stmt). read.and_then o (λ x. read.run stop p (i.0 - 1) (c.each.found ++ x ∷ []))) (got t c)
          ∙ ap (λ (xs : List Stmt). read.run stop p (i.0 - 1) xs c.in_ok-one.after) (sym c.in_ok-push.ensures.ok),
    )

pub statements-returns : goal.statements-returns
unfolding stop
statements-returns t c =
    let i = c.each.invariant in
    i.2 ∙ run_end stop (spec.statement spec.plenty c.args.depth) i.0 c.each.found c.each.rest (sym c.halts.ensures.ends ∙ c.each-test.false) (omega (arith, i.1 c.halts.ensures.few))
