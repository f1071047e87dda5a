use Rattle.gr_courses.proofs.Steps.{counted_is, inner_entry, take_entry, ship_entry}
use Rattle.gr_courses.proofs.laws.steps_are_entries.Goals as goal

pub returns-clause-counted : goal.returns-clause-counted
returns-clause-counted c = counted_is

pub returns-clause-inner : goal.returns-clause-inner
returns-clause-inner c = inner_entry

pub returns-clause-takes : goal.returns-clause-takes
returns-clause-takes c = take_entry

pub returns-clause-ships : goal.returns-clause-ships
returns-clause-ships c = ship_entry
