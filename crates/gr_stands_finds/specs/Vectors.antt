-- Messages of turns and of elements name vectors that there are.
use Rattle.std.specs.Prelude.{◌≡◌, ℕ, false}
use Rattle.gr_net.specs.Flights.{Everywhere}
use Rattle.gr_machine.specs.Machines.{thing}
use Rattle.gr_machine.specs.Openings.{is_vector}
use Rattle.gr_machine.specs.Nets.{messages_in}
use Rattle.gr_stands.specs.Worlds.{Given, machine_in, World}
use Rattle.gr_lines_turns.specs.TokenActs.{IsOfOther}
use Rattle.gr_elements.specs.ElementActs.{IsOfNoElement}

-- No message in flight is of the turns, or of an element, of a vector that there isn't.
abbrev pub NamesVectors : Given → World → Type 0
NamesVectors given world =
    (number : ℕ) → is_vector (thing (machine_in given) number) ≡ false
    → Everywhere messages_in (λ from to message. IsOfOther number message × IsOfNoElement number message) given.setup.cores world
