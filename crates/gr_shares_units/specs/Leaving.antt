-- Outcomes that leave the chunks and the questions of a core. Single tasks may come and go.
use Rattle.std.specs.Prelude.{◌≡◌, ℕ, List, [], ◌∷◌}
use Rattle.gr_lang.specs.declared.action.TaskId.{TaskId}
use Rattle.gr_msg.specs.declared.message.Msg.{Msg}
use Rattle.gr_msg.specs.declared.message.Msg.TheVariants as msg
use Rattle.gr_msg.specs.declared.message.Unit.{Unit as WorkUnit}
use Rattle.gr_msg.specs.declared.message.Unit.TheVariants as unit
use Rattle.gr_net.specs.Sums.{Each}
use Rattle.gr_machine.specs.States.{Letter, Body}
use Rattle.gr_machine.specs.Outcomes.{Outcome}
use Rattle.gr_scopes.specs.Trees.{Names}
use Rattle.gr_shares.specs.Loops.{Loops, left_at}
use Rattle.gr_shares.specs.Shares.{IsSingle}
use Rattle.gr_shares.specs.ShareActs.{KeepsLoops}

-- A message that carries no chunk, and no question or answer to one.
abbrev pub IsOfNoShare : Msg → Type 0
IsOfNoShare (msg.Spawn work) = IsSingle work
IsOfNoShare msg.StealAsk = ⊥
IsOfNoShare (msg.StealGive work) = ⊥
IsOfNoShare _ = Unit

-- The chunks of some units, in order.
abbrev pub with_chunk : WorkUnit → List WorkUnit → List WorkUnit
with_chunk (unit.Single target args scope origin id) units = units
with_chunk (unit.Chunk target args scope origin owner lo hi grain) units = unit.Chunk target args scope origin owner lo hi grain ∷ units

abbrev pub chunks_in : List WorkUnit → List WorkUnit
chunks_in [] = []
chunks_in (unit ∷ units) = with_chunk unit (chunks_in units)

-- The core has the same chunks, has asked the same cores and lets the same wait, and no message is about that.
pub record LeavesShares (body : Body) (got : List Letter) (outcome : Outcome) : Type 0 where
  pub private : chunks_in outcome.body.work.private ≡ chunks_in body.work.private
  pub public : chunks_in outcome.body.work.public ≡ chunks_in body.work.public
  pub steals : outcome.body.steals ≡ body.steals
  pub letters : Each (λ letter. IsOfNoShare letter.message) got
  pub sends : Each (λ send. IsOfNoShare send.message) outcome.sends

-- Loops change so that the same indices are left.
pub record LeavesLeft (names more : Names) (before after : Loops) : Type 0 where
  pub keeps : KeepsLoops names more before after
  pub left : (owner : TaskId) (index : ℕ) → left_at (after owner) index ≡ left_at (before owner) index
