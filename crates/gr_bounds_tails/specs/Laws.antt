-- The laws of the ends of vectors.
use Rattle.std.specs.Prelude.{◌≡◌, ℕ, ◌+◌, ◌<◌, ◌^◌, true, nat_lt, List, ◌∷◌, length, Some, None}
use Rattle.gr_lang.specs.declared.action.WaitingCall.{WaitingCall}
use Rattle.gr_msg.specs.declared.message.Msg.TheVariants as msg
use Rattle.gr_vector.specs.declared.kind.Kind.TheVariants as kind
use Rattle.gr_vector.specs.Groups.{calls_of}
use Rattle.gr_machine.specs.States.{Letter, Vector}
use Rattle.gr_stands.specs.Worlds.{World, bodies}
use Rattle.gr_bounds.specs.Shares.{Shared, GrowsByOne}
use Rattle.gr_bounds_tails.specs.Tails.{TailAtMost, tails_told}

-- The end of a vector's words, with the pushes that wait.
abbrev pub TailsGrow : Type 0
TailsGrow = (number : ℕ) → GrowsByOne (TailAtMost number) (tails_told number)

-- Where that fits a word: a Grant that a core takes up gives its oldest group a turn in which all that it pushes has a position that fits a word.
abbrev pub GrantsFit : Type 0
GrantsFit =
    (count most number me from head tail : ℕ) (world : World) (letters : List Letter) (vector : Vector) (calls : List WaitingCall) (more : List (List WaitingCall))
    → me < count → most < 2 ^ 64 → Shared (TailAtMost number) (tails_told number) count most world
    → (world.cores me).inbox ≡ record { from = from; message = msg.Grant number head tail } ∷ letters
    → (bodies world me).vectors.vectors number ≡ Some vector → vector.turn ≡ None → vector.groups ≡ calls ∷ more
    → nat_lt (tail + length (calls_of kind.Push calls)) (2 ^ 64) ≡ true
