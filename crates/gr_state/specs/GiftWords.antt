-- What one gift is.
use Rattle.std.specs.Prelude.{◌≡◌, ◌<◌, Bool, true, false, length}
use Rattle.gr_courses.specs.Seen.{Seen}
use Rattle.gr_courses.specs.Courses.{gives_to}

-- One of the gifts was made, and one core less waits; or there was none to make.
abbrev pub Gave : Bool → Seen → Seen → Type 0
Gave true before after = (gives_to after ≡ gives_to before) × (length after.core.body.steals.waiting < length before.core.body.steals.waiting)
Gave false before after = after ≡ gives_to before
