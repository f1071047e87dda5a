-- The command is one whose faults and matches `clap` states.
use Rattle.std.proofs.Common.{◌≡◌, ◌∙◌, ap, refl, sym, true, List, [], ◌∷◌, inl, inr}
use Rattle.clap.specs.Words.{App, HasKind, HasMatchesOf, IsAmong, Kinds, Text, fault_of, is_simple, is_simple_and_free, kind_of, matches_of}
use Rattle.clap.specs.declared.error.Error.{Error}
use Rattle.clap.specs.declared.error.kind.ErrorKind.{ErrorKind}
use Rattle.clap.specs.declared.error.kind.ErrorKind.TheVariants as fault
use Rattle.clap.specs.declared.parser.matches.ArgMatches.{ArgMatches}
use Rattle.clap.proofs.OnLiterals.{clap_on_literals}
use Rattle.gr_cli.specs.Arguments.{simple_command}
use Rattle.gr_cli.specs.ClapWords.{IsMatchOf, refusal_of}
use Rattle.gr_cli.specs.Options.{has_some, is_refused}
use Rattle.gr_cli.specs.declared.error.OptionsError.TheVariants as error

simple_command_is_simple : is_simple simple_command ≡ true
unfolding simple_command clap_on_literals
simple_command_is_simple = refl

simple_command_is_free : is_simple_and_free simple_command ≡ true
unfolding simple_command clap_on_literals
simple_command_is_free = refl

-- A list that has a kind has some.
has_some-among : (k : ErrorKind) (kinds : Kinds) → IsAmong k kinds → has_some kinds ≡ true
has_some-among k [] h = absurd h
has_some-among k (x ∷ xs) h = refl

-- Where `clap` takes the words it states no fault for them.
pub taken : (a : App) (words : List Text) (m : ArgMatches) → a ≡ simple_command
    → HasMatchesOf a words m → (is_simple_and_free a ≡ true → fault_of a words ≡ []) → IsMatchOf words m
taken a words m same has none =
    let simple : is_simple a ≡ true = ap is_simple same ∙ simple_command_is_simple in
    let free : is_simple_and_free a ≡ true = ap is_simple_and_free same ∙ simple_command_is_free in
    let empty : fault_of simple_command words ≡ [] = sym (ap (λ (b : App). fault_of b words) same) ∙ none free in
    (ap has_some empty, (has simple).0 ∙ ap (λ (b : App). matches_of b words) same)

-- Where `clap` refuses the words for another cause than memory it states a fault for them.
pub refused : (a : App) (words : List Text) (e : Error) → a ≡ simple_command
    → (is_simple_and_free a ≡ true → HasKind (fault_of a words) e)
    → refusal_of (kind_of e) ≡ error.Usage → is_refused words ≡ true
refused a words e same has usage = elim (has (ap is_simple_and_free same ∙ simple_command_is_free)) [
  | inl memory ↦
      let bad : refusal_of fault.OutOfMemory ≡ error.Usage = rw memory at usage in
      cc
  | inr among ↦ ap (λ (b : App). has_some (fault_of b words)) (sym same) ∙ has_some-among (kind_of e) (fault_of a words) among
]
