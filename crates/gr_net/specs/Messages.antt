-- Messages between cores, for any kind of message, of state and of mark.
use Rattle.std.specs.Prelude.{ℕ, List}

-- A message in an inbox, with the core that sent it.
pub record Letter (Message : Type 0) : Type 0 where
  pub from : ℕ
  pub message : Message

-- A message that is sent, with the core that gets it.
pub record Send (Message : Type 0) : Type 0 where
  pub to : ℕ
  pub message : Message

-- What is done at a core: its state afterwards, the messages that are sent and the marks that are left, each in order.
pub record Outcome (State Message Mark : Type 0) : Type 0 where
  pub body : State
  pub sends : List (Send Message)
  pub marks : List Mark
