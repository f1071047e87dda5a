use Rattle.std.proofs.Common.{◌∙◌, sym}
use Rattle.gr_plain.proofs.Kept.{blocks_over, blocks_pass}
use Rattle.gr_plain.proofs.plain.is_blocked.Goals as goal

pub returns-in-Some : goal.returns-in-Some
returns-in-Some c = blocks_pass c.work_is_direct.ensures _ _ _ _ _ _ _ c.requires c.in-Pass.is (sym c.passes.ensures ∙ c.in-Some.is) c.is_work_in.ensures

pub returns-in-Over : goal.returns-in-Over
returns-in-Over c = blocks_over c.work_is_direct.ensures _ _ _ _ _ c.requires c.in-Over.is c.is_work_in-in-Over.ensures
