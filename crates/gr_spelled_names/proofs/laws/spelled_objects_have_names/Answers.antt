use Rattle.gr_spelled_names.proofs.Named as named
use Rattle.gr_spelled_names.proofs.laws.spelled_objects_have_names.Goals as goal

pub returns : goal.returns
returns c = named.objects_named
