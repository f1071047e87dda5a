-- Where the words of a vector are, whatever is held by position; its messages; and its words once a turn has ended.
use Rattle.std.specs.Prelude.{◌≡◌, ℕ, ◌==◌, if◌then◌else◌, List, Option, Some, None}
use Rattle.gr_msg.specs.declared.message.Msg.{Msg}
use Rattle.gr_msg.specs.declared.message.Msg.TheVariants as msg
use Rattle.gr_vector.specs.declared.ends.Ends.{Ends}
use Rattle.gr_vector.specs.Laws.{words_after}
use Rattle.gr_machine.specs.States.{Turn}
use Rattle.gr_stands.specs.Worlds.{Given, World}
use Rattle.gr_elements.specs.Elements.{ElementsStand}

-- The elements of a vector stand, that has these words before its turn; with what the turn puts some are held by position.
pub record HasElements (given : Given) (world : World) (number : ℕ) (ends : Ends) (words : List ℕ) : Type 0 where
  pub held : ℕ → Option ℕ
  pub stand : ElementsStand given world number ends words held

-- The message is of an element of the vector.
abbrev pub IsElement : ℕ → Msg → Type 0
IsElement number (msg.ElemPut vector position word) = vector ≡ number
IsElement number (msg.ElemGet vector position) = vector ≡ number
IsElement number (msg.ElemAck vector position got) = vector ≡ number
IsElement number _ = ⊥

-- The words once a turn of which nothing is left has ended: those that its calls leave.
abbrev pub words_behind : Option Turn → List ℕ → List ℕ
words_behind None words = words
words_behind (Some turn) words = if turn.left == 0 then words_after turn.calls words else words
