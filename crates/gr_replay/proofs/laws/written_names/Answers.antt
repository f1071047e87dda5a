use Rattle.gr_lang.specs.States.{opening_state}
use Rattle.gr_replay.proofs.RoundTrips.{history_back}
use Rattle.gr_replay.proofs.Uniques.{objects_once, tasks_once}
use Rattle.gr_replay.proofs.laws.written_names.Goals as goal

pub returns : goal.returns
returns c = λ p N L history S accepted no_heap is_after namable.
    history_back p (objects_once p accepted) (tasks_once p accepted) no_heap N L history (opening_state p L) S is_after namable
