-- Worked rows of packets.
use Rattle.std.specs.Prelude.{◌≡◌, ℕ, List, [], ◌∷◌, ◌++◌, Ok, Err}
use Rattle.gr_msg.specs.declared.message.Msg.TheVariants as msg
use Rattle.gr_format.specs.Formats.{opened}
use Rattle.gr_msg.specs.Messages.{packet}

-- The clock 5 and one message.
abbrev pub head : List ℕ
head = 0 ∷ 0 ∷ 0 ∷ 0 ∷ 0 ∷ 0 ∷ 0 ∷ 5 ∷ 0 ∷ 1 ∷ []

-- A question for work alone.
abbrev pub OneIsRead : Type 0
OneIsRead = opened packet (head ++ 8 ∷ []) ≡ Ok (record { clock = 5; messages = msg.StealAsk ∷ [] })

-- A byte more; no bytes; a packet of no messages; a kind that there isn't, and none.
abbrev pub FaultsAreFound : Type 0
FaultsAreFound = (opened packet (head ++ 8 ∷ 0 ∷ []) ≡ Err 11) × (opened packet [] ≡ Err 0)
    × (opened packet (0 ∷ 0 ∷ 0 ∷ 0 ∷ 0 ∷ 0 ∷ 0 ∷ 5 ∷ 0 ∷ 0 ∷ []) ≡ Err 8) × (opened packet (head ++ 0 ∷ []) ≡ Err 10) × (opened packet head ≡ Err 10)
