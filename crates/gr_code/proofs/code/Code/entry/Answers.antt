use Rattle.std.proofs.Common.{◌∙◌, ap, sym, length}
use Rattle.gr_code.proofs.Entries.{entry_is, no_entry, no_point}
use Rattle.gr_code.proofs.code.Code.entry.Goals as goal

pub returns-in-Some-clause-point : goal.returns-in-Some-clause-point
returns-in-Some-clause-point c = (entry_is _ _ _ c.args.target _ c.entries.ensures (sym c.entry_in.ensures ∙ c.in-Some.is)).0

pub returns-in-Some-clause-locals : goal.returns-in-Some-clause-locals
returns-in-Some-clause-locals c = (entry_is _ _ _ c.args.target _ c.entries.ensures (sym c.entry_in.ensures ∙ c.in-Some.is)).1

pub returns-in-None-clause-point : goal.returns-in-None-clause-point
returns-in-None-clause-point c = no_point _ _ (c.len.ensures ∙ ap (λ v. length v.points) c.self.view_is) ∙ sym (no_entry _ _ _ c.args.target c.entries.ensures (sym c.entry_in.ensures ∙ c.in-None.is))
