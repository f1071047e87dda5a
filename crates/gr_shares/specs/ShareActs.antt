-- What part 4 of 'stands for' asks of an outcome at a core.
use Rattle.std.specs.Prelude.{◌≡◌, ◌⊎◌, ℕ, ◌+◌, List, Some}
use Rattle.gr_lang.specs.declared.action.TaskId.{TaskId}
use Rattle.gr_view.specs.Places.{put}
use Rattle.gr_msg.specs.declared.message.ScopeId.{ScopeId}
use Rattle.gr_net.specs.Sums.{weigh, Each}
use Rattle.gr_machine.specs.States.{Letter, Body}
use Rattle.gr_machine.specs.Outcomes.{Outcome}
use Rattle.gr_stands.specs.Worlds.{Given, World, bodies, of_letters, of_sends, Acts, Moves}
use Rattle.gr_stands.specs.Censuses.{carried}
use Rattle.gr_stands.specs.Calls.{times}
use Rattle.gr_stands_events.specs.Laws.{WaitersAreCores}
use Rattle.gr_scopes.specs.Trees.{Names, NamesGrow}
use Rattle.gr_shares.specs.Loops.{Loop, Loops, left_in, left_at, LoopsStand}
use Rattle.gr_shares.specs.Shares.{covers, is_question, one_if, UnitShares, MessageShares, SharesHold, SharesStand}

-- The owner waits at the same loop, of which more may have begun.
pub record GoesOn (loops : Loops) (owner : TaskId) (loop : Loop) : Type 0 where
  pub next : Loop
  pub there : loops owner ≡ Some next
  pub number : next.number ≡ loop.number
  pub target : next.range.target ≡ loop.range.target
  pub args : next.range.args ≡ loop.range.args

-- No index of the loop is left.
abbrev pub AllBegun : Loop → Type 0
AllBegun loop = (index : ℕ) → left_in loop.range index ≡ 0

-- Each loop goes on, or all of it has begun; and scopes keep their names.
pub record KeepsLoops (names more : Names) (before after : Loops) : Type 0 where
  pub named : NamesGrow names more
  pub kept : (owner : TaskId) (loop : Loop) → before owner ≡ Some loop → GoesOn after owner loop ⊎ AllBegun loop
  pub stands : LoopsStand after

-- The chunks of a core that have the index of a task's loop.
abbrev pub chunks_at : TaskId → ℕ → Body → ℕ
chunks_at owner index body = weigh (covers owner index) body.work.private + weigh (covers owner index) body.work.public

abbrev pub asked_by : (ℕ → Body) → ℕ → ℕ → ℕ
asked_by body asker victim = one_if ((body asker).steals.asked victim)

abbrev pub waits_for : (ℕ → Body) → ℕ → ℕ → ℕ
waits_for body asker victim = times asker (body victim).steals.waiting

-- The units of the core and what is sent stand as they should, and the sums rise and fall together.
pub record SharesAct (given : Given) (names more : Names) (before after : Loops) (world : World) (me : ℕ) (got : List Letter) (outcome : Outcome) : Type 0 where
  pub private : Each (UnitShares given more after) outcome.body.work.private
  pub public : Each (UnitShares given more after) outcome.body.work.public
  pub sends : Each (λ send. MessageShares given more after me send.to send.message) outcome.sends
  pub waiting : WaitersAreCores given outcome.body
  pub keeps : KeepsLoops names more before after
  pub chunks : (owner : TaskId) (index : ℕ)
      → left_at (after owner) index + (chunks_at owner index (bodies world me) + of_letters (carried (covers owner index)) me got)
      ≡ left_at (before owner) index + (chunks_at owner index outcome.body + of_sends (carried (covers owner index)) me outcome.sends)
  pub questions : (asker victim : ℕ)
      → asked_by (put (bodies world) me outcome.body) asker victim + (waits_for (bodies world) asker victim + of_letters (is_question asker victim) me got)
      ≡ asked_by (bodies world) asker victim + (waits_for (put (bodies world) me outcome.body) asker victim + of_sends (is_question asker victim) me outcome.sends)

-- Such an outcome keeps part 4, but for the units that others wait for.
abbrev pub SharesAreKept : Type 0
SharesAreKept =
    (given : Given) (names more : Names) (before after : Loops) (world next : World) (me : ℕ) (got : List Letter) (outcome : Outcome)
    → Acts given.setup.cores world next me got outcome → SharesAct given names more before after world me got outcome
    → SharesHold given names world before → SharesHold given more next after

-- A Ship and a Take keep it.
abbrev pub MovesKeepShares : Type 0
MovesKeepShares =
    (given : Given) (names : Names) (loops : Loops) (world next : World) → Moves given.setup.cores world next
    → SharesStand given names world loops → SharesStand given names next loops
