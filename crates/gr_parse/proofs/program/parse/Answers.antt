use Rattle.std.proofs.Common.{sym, ap, ◌∙◌, subst, ◌-◌, ◌<◌, ◌^◌, List, length, take, arith}
use Rattle.gr_text.specs.declared.token.Token.{Token}
use Rattle.gr_expressions.specs.Tok.{toks}
use Rattle.gr_expressions.specs.SoundWords.{AreSound}
use Rattle.gr_parse.specs.ReportsWords.{IsWithin, Reports, Stands}
use Rattle.gr_parse.proofs.Reported.{body_sound, gave_stop, gave_items, reported_found, reported_only, stop_within, stop_only, stop_says}
use Rattle.gr_parse.proofs.Shaped.{program_fits}
use Rattle.gr_parse.proofs.program.parse.Goals as goal

-- src/program.rt:56:29
pub new-requires : goal.new-requires
new-requires c = subst (λ (all : List Token). AreSound c.args.text.now (take (length all - 1) all)) (sym c.as_slice-all.ensures) (body_sound c.args.text.now c.args.tokens.now c.requires)

pub report-requires : goal.report-requires
report-requires c =
    let view = c.new.ensures ∙ ap (λ (all : List Token). toks c.args.text.now (take (length all - 1) all)) c.as_slice-all.ensures in
    subst (λ (all : List Token). IsWithin c.in-Err.stop (length all)) (sym c.as_slice-all.ensures)
    (stop_within c.args.text.now c.args.tokens.now c.requires _ view c.in-Err.stop (gave_stop _ _ c.in-Err.stop c.items-read.ensures c.in-Err.is))

-- src/program.rt:47:1
pub returns-in-Ok-clause-found : goal.returns-in-Ok-clause-found
returns-in-Ok-clause-found c =
    let view = c.new.ensures ∙ ap (λ (all : List Token). toks c.args.text.now (take (length all - 1) all)) c.as_slice-all.ensures in
    let e = gave_items _ _ c.items-read.ensures c.in-Ok.is in
    reported_found c.args.text.now c.args.tokens.now c.requires _ view _ c.token_before.result e (subst (λ (all : List Token). Stands c.token_before.result all 0) c.as_slice-all.ensures c.token_before.ensures.stands)

-- src/program.rt:47:1
pub returns-in-Ok-clause-only : goal.returns-in-Ok-clause-only
returns-in-Ok-clause-only c = λ p h.
    let view = c.new.ensures ∙ ap (λ (all : List Token). toks c.args.text.now (take (length all - 1) all)) c.as_slice-all.ensures in
    let e = gave_items _ _ c.items-read.ensures c.in-Ok.is in
    let few : length c.args.tokens.now < 2 ^ 64 = omega (arith, c.token_before.ensures.few, ap length c.as_slice-all.ensures) in
    reported_only c.args.text.now c.args.tokens.now c.requires _ view few _ c.token_before.result e (subst (λ (all : List Token). Stands c.token_before.result all 0) c.as_slice-all.ensures c.token_before.ensures.stands) p h

-- src/program.rt:47:1
pub returns-in-Ok-clause-shaped : goal.returns-in-Ok-clause-shaped
returns-in-Ok-clause-shaped c = program_fits (record { items = c.in-Ok.items; end = c.token_before.result.at }) (returns-in-Ok-clause-found c).spelled

pub returns-in-Err-clause-only : goal.returns-in-Err-clause-only
returns-in-Err-clause-only c = λ p h.
    let view = c.new.ensures ∙ ap (λ (all : List Token). toks c.args.text.now (take (length all - 1) all)) c.as_slice-all.ensures in
    let few : length c.args.tokens.now < 2 ^ 64 = omega (arith, c.report.ensures.few, ap length c.as_slice-all.ensures) in
    let told = subst (λ (all : List Token). Reports c.in-Err.stop all c.report.result) c.as_slice-all.ensures c.report.ensures.reports in
    stop_only c.args.text.now c.args.tokens.now c.requires _ view few c.in-Err.stop c.report.result (gave_stop _ _ c.in-Err.stop c.items-read.ensures c.in-Err.is) told p h

pub returns-in-Err-clause-fault : goal.returns-in-Err-clause-fault
returns-in-Err-clause-fault c =
    let view = c.new.ensures ∙ ap (λ (all : List Token). toks c.args.text.now (take (length all - 1) all)) c.as_slice-all.ensures in
    let few : length c.args.tokens.now < 2 ^ 64 = omega (arith, c.report.ensures.few, ap length c.as_slice-all.ensures) in
    let told = subst (λ (all : List Token). Reports c.in-Err.stop all c.report.result) c.as_slice-all.ensures c.report.ensures.reports in
    stop_says c.args.text.now c.args.tokens.now c.requires _ view few c.in-Err.stop c.report.result (gave_stop _ _ c.in-Err.stop c.items-read.ensures c.in-Err.is) told
