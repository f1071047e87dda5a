-- The laws of questions for work and of the units that answer them.
use Rattle.std.specs.Prelude.{◌≡◌, ℕ, ◌<◌, true, false, List, [], ◌∷◌}
use Rattle.gr_net.specs.Sums.{Each}
use Rattle.gr_msg.specs.declared.message.Msg.TheVariants as msg
use Rattle.gr_msg.specs.declared.message.Unit.{Unit as WorkUnit}
use Rattle.gr_machine.specs.States.{Letter}
use Rattle.gr_machine.specs.Outcomes.{Outcome}
use Rattle.gr_machine.specs.ScopeServes.{waits_here}
use Rattle.gr_machine.specs.Serves.{serves}
use Rattle.gr_machine.specs.Events.{asks, gives}
use Rattle.gr_machine.specs.GlobalRuns as runs
use Rattle.gr_machine.specs.Nets.{world_in}
use Rattle.gr_stands.specs.Worlds.{Given, machine_in, World, bodies, Acts}
use Rattle.gr_stands_calls.specs.Acting.{letter, IsFirstLetter}
use Rattle.gr_stands_events.specs.Laws.{ActsThenGives}
use Rattle.gr_scopes.specs.Trees.{Names}
use Rattle.gr_shares.specs.Loops.{Loops}
use Rattle.gr_shares.specs.Shares.{SharesHold, SharesStand}
use Rattle.gr_shares_steals.specs.Sharing.{KeepsShares, ActsSharing}

-- Steal: a core is asked for work that hasn't been asked yet, as the event needs.
abbrev pub QuestionsAreAsked : Type 0
QuestionsAreAsked =
    (given : Given) (names : Names) (loops : Loops) (world : World) (me victim : ℕ)
    → SharesHold given names world loops → me < given.setup.cores → (bodies world me).steals.asked victim ≡ false
    → KeepsShares given world me [] (asks victim (bodies world me)) names loops

-- Serve: the core that asks waits here.
abbrev pub QuestionsWait : Type 0
QuestionsWait =
    (given : Given) (names : Names) (loops : Loops) (world : World) (me from : ℕ)
    → SharesHold given names world loops → IsFirstLetter given world me from msg.StealAsk
    → KeepsShares given world me (letter from msg.StealAsk ∷ []) (waits_here (bodies world me) from) names loops

-- Serve: a unit comes that this core has asked for, so it is taken.
abbrev pub GiftsAreExpected : Type 0
GiftsAreExpected =
    (given : Given) (names : Names) (loops : Loops) (world : World) (me from : ℕ) (work : WorkUnit)
    → SharesHold given names world loops → IsFirstLetter given world me from (msg.StealGive work)
    → ((bodies world me).steals.asked from ≡ true)
    × ActsSharing given world me (letter from (msg.StealGive work) ∷ []) (serves (machine_in given) me (bodies world me) from (msg.StealGive work)) names loops

-- At the end of a Run or a Serve units are given to the cores that wait.
abbrev pub GiftsKeepShares : Type 0
GiftsKeepShares =
    (given : Given) (names : Names) (loops : Loops) (world : World) (me : ℕ)
    → SharesHold given names world loops → me < given.setup.cores → KeepsShares given world me [] (gives (bodies world me)) names loops

-- An event that ends with gifts: while a core waits, there is nothing more to give.
abbrev pub GiftsEndEvents : Type 0
GiftsEndEvents =
    (given : Given) (names more : Names) (loops next : Loops) (before after : runs.World) (me clock : ℕ) (got : List Letter) (outcome : Outcome)
    → ActsThenGives (machine_in given) before after me clock got outcome → Each (λ send. send.to < given.setup.cores) outcome.sends
    → SharesStand given names (world_in before) loops → KeepsShares given (world_in before) me got outcome more next
    → SharesStand given more (world_in after) next

-- An event without gifts, a Close or a Steal, that leaves the units that others may take and the cores that wait.
abbrev pub EventsWithoutGifts : Type 0
EventsWithoutGifts =
    (given : Given) (names more : Names) (loops next : Loops) (before after : World) (me : ℕ) (got : List Letter) (outcome : Outcome)
    → Acts given.setup.cores before after me got outcome
    → outcome.body.work.public ≡ (bodies before me).work.public → outcome.body.steals.waiting ≡ (bodies before me).steals.waiting
    → SharesStand given names before loops → KeepsShares given before me got outcome more next
    → SharesStand given more after next
