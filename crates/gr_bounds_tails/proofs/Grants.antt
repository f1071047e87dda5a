-- A Grant tells of an end that, with the pushes of the oldest group, fits a word.
use Rattle.std.proofs.Common.{◌≡◌, ◌≤◌, ◌<◌, ℕ, List, ap, arith}
use Rattle.std.specs.Prelude.{true, nat_lt, Option, Some, None}
use Rattle.std.proofs.lemmas.Bool.Decides.{nat_tests}
use Rattle.gr_lang.specs.declared.action.WaitingCall.{WaitingCall}
use Rattle.gr_net.specs.Sums.{weigh}
use Rattle.gr_net.specs.Flights.{core_flight, flight}
use Rattle.gr_net.proofs.Spreads.{total_one}
use Rattle.gr_machine.specs.States.{Letter, Turn}
use Rattle.gr_stands.specs.Worlds.{World, in_flight}
use Rattle.gr_bounds.proofs.Measures.{share_few}
use Rattle.gr_bounds_tails.specs.Tails.{line_tail, TailAtMost, tails_told}
use Rattle.gr_bounds_tails.specs.Laws as laws
use Rattle.gr_bounds_tails.proofs.Lines.{push_length, line_same}

lower : (a b : ℕ) → a < b → nat_lt a b ≡ true
lower a b l = grind (arith, nat_tests)

inbox_few : (number count me : ℕ) (world : World) → me < count → weigh (λ (l : Letter). tails_told number l.from me l.message) (world.cores me).inbox ≤ in_flight (tails_told number) count world
unfolding flight
inbox_few number count me world l = omega (arith, total_one (λ i. core_flight (tails_told number) count i (world.cores i)) count me l)

pub grants_fit : laws.GrantsFit
grants_fit count most number me from head tail world letters vector calls more l few s first there turn groups = lower _ _ (omega (
  arith,
  few,
  push_length calls,
  s.each me l,
  share_few (TailAtMost number) (tails_told number) count most me world l s,
  inbox_few number count me world l,
  ap (weigh (λ (it : Letter). tails_told number it.from me it.message)) first,
  line_same number tail,
  ap line_tail there,
  ap (λ (it : Option Turn). line_tail (Some (record vector { turn = it }))) turn,
  ap (λ (gs : List (List WaitingCall)). line_tail (Some (record vector { turn = None; groups = gs }))) groups,
))
