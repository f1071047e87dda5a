use Rattle.std.proofs.Common.{rules, arith, ◌≡◌, ◌<◌, ◌-◌, Bool, List, [], ◌∷◌, ◌++◌, length, Ok, sym, ◌∙◌, ap}
use Rattle.std.proofs.lemmas.Grind.{common_steps}
use Rattle.gr_text.specs.declared.token.Sign.TheVariants as signs
use Rattle.gr_meets.specs.Parsers as read
use Rattle.gr_meets.proofs.Commas.{commas_end, commas_go}
use Rattle.gr_expressions.specs.TokWords as tok
use Rattle.gr_expressions.specs.OperandsWords as spec
use Rattle.gr_expressions.proofs.Steps.{plenty_is, separated_step, next_less}
use Rattle.gr_expressions.proofs.lists.separated.Goals as goal

comma : tok.Tok → Bool
comma = tok.is_sign signs.Comma

pub returns-in_err-first : goal.returns-in_err-first
unfolding comma
returns-in_err-first g c =
    let e = separated_step comma (g.E.Element.read_one c.args.depth) spec.plenty c.args.rest in
    first_of (search rules, grind (arith, common_steps))

pub each-init : goal.each-init
unfolding comma
each-init g c =
    let p = g.E.Element.read_one c.args.depth in
    let f : ◌≡◌ {A = read.Outcome tok.Tok g.row.E.Denot} (p c.args.rest) (Ok (c.in_ok-first.first, c.in_ok-first.rest)) = first_of (search rules, grind (arith, common_steps)) in
    let found : ◌≡◌ {A = List g.row.E.Denot} (c.in_ok-first.first ∷ []) c.push.new.self = first_of (search rules, grind (arith, common_steps)) in (
      spec.plenty,
      λ few. omega (arith, plenty_is, few),
      separated_step comma p spec.plenty c.args.rest ∙ ap (λ (o : read.Outcome tok.Tok g.row.E.Denot). read.and_then o (λ x. read.commas comma p spec.plenty (x ∷ []))) f
          ∙ ap (λ (xs : List g.row.E.Denot). read.commas comma p spec.plenty xs c.in_ok-first.rest) found,
    )

pub returns-in_err-one : goal.returns-in_err-one
unfolding comma
returns-in_err-one g c =
    let i = c.each.invariant in
    let e = i.2 ∙ commas_go comma (g.E.Element.read_one c.args.depth) i.0 c.each.found c.each.rest (sym c.sees.ensures.is ∙ c.each-test.true) (omega (arith, i.1 c.sees.ensures.few)) in
    first_of (search rules, grind (arith, common_steps))

pub each-smaller : goal.each-smaller
unfolding comma
each-smaller g c =
    let less = next_less comma c.each.rest (sym c.sees.ensures.is ∙ c.each-test.true) in
    let shorter : length c.in_ok-one.after < length c.each.rest = omega (arith, less, ap length c.next.ensures, c.in_ok-one.ensures.shorter) in
    shorter

pub each-preserved : goal.each-preserved
unfolding comma
each-preserved g c =
    let i = c.each.invariant in
    let p = g.E.Element.read_one c.args.depth in
    let some = i.1 c.sees.ensures.few in
    let less = next_less comma c.each.rest (sym c.sees.ensures.is ∙ c.each-test.true) in
    let e = commas_go comma p i.0 c.each.found c.each.rest (sym c.sees.ensures.is ∙ c.each-test.true) (omega (arith, some)) in
    let f : ◌≡◌ {A = read.Outcome tok.Tok g.row.E.Denot} (p (read.next c.each.rest)) (Ok (c.in_ok-one.one, c.in_ok-one.after)) = first_of (search rules, grind (arith, common_steps)) in
    let found : ◌≡◌ {A = List g.row.E.Denot} (c.each.found ++ c.in_ok-one.one ∷ []) c.push-in-each.new.self = first_of (search rules, grind (arith, common_steps)) in (
      i.0 - 1,
      λ few. omega (arith, less, some, ap length c.next.ensures, c.in_ok-one.ensures.shorter),
      i.2 ∙ e ∙ ap (λ (o : read.Outcome tok.Tok g.row.E.Denot). read.and_then o (λ x. read.commas comma p (i.0 - 1) (c.each.found ++ x ∷ []))) f
          ∙ ap (λ (xs : List g.row.E.Denot). read.commas comma p (i.0 - 1) xs c.in_ok-one.after) found,
    )

pub returns : goal.returns
unfolding comma
returns g c =
    let i = c.each.invariant in
    i.2 ∙ commas_end comma (g.E.Element.read_one c.args.depth) i.0 c.each.found c.each.rest (sym c.sees.ensures.is ∙ c.each-test.false) (omega (arith, i.1 c.sees.ensures.few))
