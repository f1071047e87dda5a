-- The laws of packets.
use Rattle.std.specs.Prelude.{◌≡◌, ℕ, List, ◌++◌, []}
use Rattle.gr_format.specs.Formats.{Spells}
use Rattle.gr_format.specs.Laws.{AreBytes}
use Rattle.gr_msg.specs.declared.opened.Opened.{Opened}
use Rattle.gr_msg.specs.Messages.{packet}
use Rattle.gr_msg.specs.Ranges.{IsPacket}

-- Bytes spell one packet at most.
abbrev pub BytesSayOne : Type 0
BytesSayOne = (bytes : List ℕ) (one other : Opened) → Spells packet bytes one → Spells packet bytes other → one ≡ other

-- A packet has one spelling at most.
abbrev pub PacketsAreSpelledOnce : Type 0
PacketsAreSpelledOnce = (one other : List ℕ) (opened : Opened) → AreBytes one → AreBytes other → Spells packet one opened → Spells packet other opened → one ≡ other

-- No spelling of a packet is the beginning of another's.
abbrev pub PacketsAreApart : Type 0
PacketsAreApart = (bytes more : List ℕ) (one other : Opened) → Spells packet bytes one → Spells packet (bytes ++ more) other → more ≡ []

-- What is spelled is a packet: all that it says is in its range.
abbrev pub SpelledAreInRange : Type 0
SpelledAreInRange = (bytes : List ℕ) (opened : Opened) → Spells packet bytes opened → IsPacket opened
