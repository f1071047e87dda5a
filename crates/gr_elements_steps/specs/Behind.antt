-- Where the words of all vectors are, and which words these are behind a message.
use Rattle.std.specs.Prelude.{◌≡◌, ℕ, ◌==◌, if◌then◌else◌, true, List}
use Rattle.gr_msg.specs.declared.message.Msg.{Msg}
use Rattle.gr_msg.specs.declared.message.Msg.TheVariants as msg
use Rattle.gr_vector.specs.declared.ends.Ends.{Ends}
use Rattle.gr_machine.specs.Machines.{thing}
use Rattle.gr_machine.specs.States.{Body}
use Rattle.gr_machine.specs.Openings.{is_vector}
use Rattle.gr_machine.specs.Nets.{messages_in}
use Rattle.gr_stands.specs.Worlds.{Given, machine_in, World}
use Rattle.gr_lines.specs.Lines.{vector_in}
use Rattle.gr_elements_orders.specs.Orders.{OwnAreIn}
use Rattle.gr_elements_acts.specs.Holding.{HasElements, words_behind}

-- The words of each vector are somewhere, where they stand from a head to before a tail; and what a core sends to itself is at once in its inbox.
pub record ElementsHold (given : Given) (world : World) (ends : ℕ → Ends) (words : ℕ → List ℕ) : Type 0 where
  pub own : OwnAreIn messages_in world
  pub vectors : (number : ℕ) → is_vector (thing (machine_in given) number) ≡ true → HasElements given world number (ends number) (words number)

-- A turn of one vector may have ended.
abbrev pub words_of_one : Body → ℕ → (ℕ → List ℕ) → ℕ → List ℕ
words_of_one body vector words number = if vector == number then words_behind (vector_in (body.vectors.vectors number)).turn (words number) else words number

-- Behind a Grant and an ElemAck a turn of their vector may end.
abbrev pub words_settled : Body → Msg → (ℕ → List ℕ) → ℕ → List ℕ
words_settled body (msg.Grant vector head tail) words = words_of_one body vector words
words_settled body (msg.ElemAck vector position got) words = words_of_one body vector words
words_settled body _ words = words

-- A turn may be at its end behind the message.
abbrev pub IsLast : ℕ → Msg → Type 0
IsLast number (msg.Grant vector head tail) = vector ≡ number
IsLast number (msg.ElemAck vector position got) = vector ≡ number
IsLast number _ = ⊥
