use Rattle.std.proofs.Common.{◌∙◌, ap, sym}
use Rattle.std.specs.Option.{option_map}
use Rattle.gr_code.proofs.Entries.{params_are}
use Rattle.gr_code.proofs.code.Code.params.Goals as goal

pub returns-in-Some : goal.returns-in-Some
returns-in-Some c = ap (option_map (λ e. e.params)) (sym c.in-Some.is ∙ c.entry_in.ensures) ∙ params_are _ _ _ c.args.target c.entries.ensures

pub returns-in-None : goal.returns-in-None
returns-in-None c = ap (option_map (λ e. e.params)) (sym c.in-None.is ∙ c.entry_in.ensures) ∙ params_are _ _ _ c.args.target c.entries.ensures
