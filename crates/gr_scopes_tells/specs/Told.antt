-- What the part of scopes needs of the others, so that it tells what steps must know.
use Rattle.std.specs.Prelude.{◌≡◌, ℕ, ◌^◌, true, nat_lt, unwrap_or}
use Rattle.gr_lang.specs.States.{State}
use Rattle.gr_valid.specs.Valid.{IsValid}
use Rattle.gr_msg.specs.declared.message.ScopeId.{ScopeId}
use Rattle.gr_event.specs.Counts.{active_count}
use Rattle.gr_stands.specs.Worlds.{Given, World, bodies}
use Rattle.gr_stands.specs.Actions.{ActionsFit}
use Rattle.gr_scopes.specs.Trees.{Names}
use Rattle.gr_scopes_opens.specs.Keeping.{StandsWith}
use Rattle.gr_scopes_finished.specs.Counted.{IndicesTell}

-- A fact of the part of bounds: each count of a scope is below 2^127.
abbrev pub CountsFit : World → Type 0
CountsFit world = (core : ℕ) (scope : ScopeId) → nat_lt (unwrap_or (active_count ((bodies world core).scopes.counts scope)) 0) (2 ^ 127) ≡ true

-- The world stands for a plain state to which a history leads, with the scopes of these names; its counts fit; what isn't begun of a loop is counted, and the
-- next action of each task fits.
pub record StandsTold (given : Given) (names : Names) (world : World) (state : State) : Type 0 where
  pub stands : StandsWith given names world state
  pub valid : IsValid given.program state
  pub counts : CountsFit world
  pub indices : IndicesTell given names world state
  pub actions : ActionsFit given state
