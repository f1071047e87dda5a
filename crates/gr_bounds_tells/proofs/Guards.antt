-- After few steps no guard of the machine drops anything.
use Rattle.std.proofs.Common.{◌<◌, ℕ, ◌+◌, ◌^◌, arith}
use Rattle.gr_msg.specs.declared.message.Msg.{Msg}
use Rattle.gr_msg.specs.declared.message.Msg.TheVariants as msg
use Rattle.gr_stands.specs.Worlds.{Given, World}
use Rattle.gr_stands_calls.specs.Acting.{IsFirstLetter}
use Rattle.gr_lines_steps.specs.Behind.{GrantTells}
use Rattle.gr_bounds_tails.proofs.Grants.{grants_fit}
use Rattle.gr_bounds_stands.specs.Standing.{BoundsStand}
use Rattle.gr_bounds_stands.proofs.Telling.{bounds_told, spawns_count, cores_enrol}
use Rattle.gr_bounds_tells.specs.Laws as laws

module _ (given : Given) (world : World) (steps : ℕ) (few : steps + 1 < 2 ^ 63) (old : BoundsStand given world steps) (core from : ℕ) where
  of_message : (message : Msg) → IsFirstLetter given world core from message → GrantTells given world core message
  of_message (msg.Grant number head tail) first = λ vector calls more there turn groups. grants_fit given.setup.cores (steps + 1) number core from head tail world
      first.core.inbox vector calls more first.here (omega (arith, few)) (old.tails number) first.without.inbox there turn groups
  of_message _ first = tt

pub grants_told : laws.GrantsAreTold
grants_told given world steps few old core from message first = of_message given world steps few old core from message first

pub guards_open : laws.GuardsStandOpen
guards_open given world steps some few old =
    let told = bounds_told given world steps some few old in
    record {
      numbers = told;
      counts = λ core scope l. spawns_count given world core scope told l;
      masters = λ core scope there. cores_enrol given world core scope told there;
      grants = grants_told given world steps few old;
    }
