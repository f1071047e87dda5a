use Rattle.gr_fits_objects.proofs.Few as few
use Rattle.gr_fits_objects.proofs.laws.objects_are_few.Goals as goal

pub returns-clause-few : goal.returns-clause-few
returns-clause-few c = few.objects_few

pub returns-clause-heap : goal.returns-clause-heap
returns-clause-heap c = few.heap_apart
