-- Outcomes that leave the tasks in slots and the words of their core; units may come, go, or be given away.
use Rattle.std.specs.Prelude.{◌≡◌, ℕ, ◌+◌, ◌<◌, List, [], ◌∷◌}
use Rattle.gr_lang.specs.declared.action.TaskId.{TaskId}
use Rattle.gr_lang.specs.States.{State}
use Rattle.gr_msg.specs.declared.message.Msg.{Msg}
use Rattle.gr_msg.specs.declared.message.Msg.TheVariants as msg
use Rattle.gr_net.specs.Sums.{weigh, Each}
use Rattle.gr_machine.specs.States.{Letter, Body}
use Rattle.gr_machine.specs.Outcomes.{Outcome}
use Rattle.gr_stands.specs.Worlds.{Given, World, bodies, of_letters, of_sends}
use Rattle.gr_stands.specs.Censuses.{is_single, carried}
use Rattle.gr_stands.specs.Calls.{UnitFits}

-- A message that is no request or reply.
abbrev pub IsOfNoSlot : Msg → Type 0
IsOfNoSlot (msg.Request slot id operation x y z) = ⊥
IsOfNoSlot (msg.Reply slot id first second) = ⊥
IsOfNoSlot _ = Unit

-- The unit that a message carries fits.
abbrev pub CarriesFit : Given → State → Msg → Type 0
CarriesFit given state (msg.Spawn unit) = UnitFits given state unit
CarriesFit given state (msg.StealGive unit) = UnitFits given state unit
CarriesFit given state _ = Unit

-- The units of a body and of messages that are singles of this name.
abbrev pub singles_in : TaskId → Body → ℕ
singles_in id body = weigh (is_single id) body.work.private + weigh (is_single id) body.work.public

-- Tasks in slots and words stay, no letter is a request or a reply, nor is what is sent, and each single is where it was, or has come or gone with a message.
pub record TasksStay (given : Given) (world : World) (state : State) (me : ℕ) (got : List Letter) (outcome : Outcome) : Type 0 where
  pub tasks : outcome.body.tasks ≡ (bodies world me).tasks
  pub words : outcome.body.words ≡ (bodies world me).words
  pub letters : Each (λ letter. IsOfNoSlot letter.message) got
  pub sends : Each (λ send. IsOfNoSlot send.message × CarriesFit given state send.message) outcome.sends
  pub private : Each (UnitFits given state) outcome.body.work.private
  pub public : Each (UnitFits given state) outcome.body.work.public
  pub singles : (id : TaskId) → singles_in id outcome.body + of_sends (carried (is_single id)) me outcome.sends
      ≡ singles_in id (bodies world me) + of_letters (carried (is_single id)) me got
