use Rattle.gr_stands_opening.proofs.Laid as laid
use Rattle.gr_stands_opening.proofs.laws.programs_are_sound.Goals as goal

pub returns : goal.returns
returns c = laid.programs_are_sound
