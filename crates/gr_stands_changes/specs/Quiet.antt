-- The kinds of messages that tell of no task, and a fact of the part of turns.
use Rattle.std.specs.Prelude.{◌≡◌, ℕ, ◌<◌, Some}
use Rattle.gr_msg.specs.declared.message.Msg.{Msg}
use Rattle.gr_msg.specs.declared.message.Msg.TheVariants as msg
use Rattle.gr_net.specs.Sums.{Each}
use Rattle.gr_vector.specs.Turns.{Turns}
use Rattle.gr_stands.specs.Worlds.{Given, World, bodies}

-- Enrolments, ends that are counted, questions for work, turns and their words. What a Leave, an EnrolAck and the end of a turn do is told elsewhere.
abbrev pub IsQuiet : Msg → Type 0
IsQuiet (msg.Enrol scope) = Unit
IsQuiet (msg.Complete scope count) = Unit
IsQuiet msg.StealAsk = Unit
IsQuiet (msg.Turn vector) = Unit
IsQuiet (msg.Grant vector head tail) = Unit
IsQuiet (msg.Done vector head tail) = Unit
IsQuiet (msg.ElemPut vector position word) = Unit
IsQuiet (msg.ElemGet vector position) = Unit
IsQuiet (msg.ElemAck vector position got) = Unit
IsQuiet _ = ⊥

-- A fact of the part of turns: the cores that asked for a turn of a vector are cores that there are.
abbrev pub TurnsAreOfCores : Given → World → Type 0
TurnsAreOfCores given world = (core vector : ℕ) (turns : Turns) → (bodies world core).vectors.masters vector ≡ Some turns → Each (λ asker. asker < given.setup.cores) turns.cores
