-- Reads and changes of a list at a number, where something stands there.
use Rattle.std.proofs.Common.{◌≡◌, ℕ, ◌<◌, ◌≤◌, List, length, get_or, set, ap, ◌∙◌, sym, refl, Option, Some, None, slice_index_or, slice_set}
use Rattle.std.specs.Option.{option_map}
use Rattle.std.proofs.lemmas.List.{get_or-set_same, get_or-set_other, get_or_default, get_or_past}
use Rattle.gr_view.specs.Places.{put}
use Rattle.gr_view.proofs.Puts.{put_by}
use Rattle.gr_turns.proofs.Puts.{put_same}
use Rattle.gr_turns.specs.LineView.{seen_at}
use Rattle.gr_turns.specs.LineWords.{changed_there, changed_at}

module _ {Data Seen : Type 0} (view : Data → Seen) where
  pub seen_is : (items : List (Option Data)) (number : ℕ) → seen_at view items number ≡ option_map view (slice_index_or items number None)
  unfolding seen_at
  seen_is items number = refl

  pub seen_put : (items : List (Option Data)) (number : ℕ) (item : Option Data) → number < length items
      → seen_at view (slice_set items number item) ≡ put (seen_at view items) number (option_map view item)
  unfolding seen_at
  seen_put items number item inside =
      put_by (λ k. option_map view (get_or items k None)) (λ k. option_map view (get_or (set items number item) k None)) number (option_map view item)
      (ap (option_map view) (get_or-set_same items number item None inside))
      (λ other apart. ap (option_map view) (get_or-set_other items number other item None apart))

  read : (items : List (Option Data)) (number : ℕ) (default there : Option Data) → number < length items → slice_index_or items number default ≡ there
      → seen_at view items number ≡ option_map view there
  read items number default there inside e = seen_is items number ∙ ap (option_map view) (get_or_default items number None default inside ∙ e)

  pub seen_past : (items : List (Option Data)) (number : ℕ) → length items ≤ number → seen_at view items number ≡ None
  seen_past items number past = seen_is items number ∙ ap (option_map view) (get_or_past items number None past)

  module _ (change : Seen → Seen) where
    there_changed : (held : ℕ → Option Seen) (number : ℕ) (there : Option Seen) (one : Seen) → there ≡ Some one
        → changed_there change held number there ≡ put held number (Some (change one))
    there_changed held number there one e = ap (changed_there change held number) e

    none_changed : (held : ℕ → Option Seen) (number : ℕ) (there : Option Seen) → there ≡ None → changed_there change held number there ≡ held
    none_changed held number there e = ap (changed_there change held number) e

    pub one_changed : (items : List (Option Data)) (number : ℕ) (default : Option Data) (before after : Data)
        → number < length items → slice_index_or items number default ≡ Some before → view after ≡ change (view before)
        → seen_at view (slice_set items number (Some after)) ≡ changed_at change (seen_at view items) number
    one_changed items number default before after inside there e =
        seen_put items number (Some after) inside
        ∙ ap (λ (now : Seen). put (seen_at view items) number (Some now)) e
        ∙ sym (there_changed (seen_at view items) number (seen_at view items number) (view before) (read items number default (Some before) inside there))

    not_some : (there : Option Data) → ((item : Data) → there ≡ Some item → ⊥) → there ≡ None
    not_some None h = refl
    not_some (Some item) h = absurd (h item refl)

    pub none_there : (items : List (Option Data)) (number : ℕ) (default : Option Data)
        → number < length items → ((item : Data) → slice_index_or items number default ≡ Some item → ⊥)
        → seen_at view (slice_set items number (slice_index_or items number default)) ≡ changed_at change (seen_at view items) number
    none_there items number default inside none =
        let gone : slice_index_or items number default ≡ None = not_some (slice_index_or items number default) none in
        let here : seen_at view items number ≡ None = read items number default None inside gone in
        seen_put items number (slice_index_or items number default) inside
        ∙ ap (λ (there : Option Data). put (seen_at view items) number (option_map view there)) gone
        ∙ sym (put_same (seen_at view items) number None here)
        ∙ sym (none_changed (seen_at view items) number (seen_at view items number) here)

    pub past_all : (items : List (Option Data)) (number : ℕ) → length items ≤ number → seen_at view items ≡ changed_at change (seen_at view items) number
    past_all items number past =
        sym (none_changed (seen_at view items) number (seen_at view items number) (seen_past items number past))

pub ruleset at_numbers = (seen_is, seen_put, seen_past, one_changed, none_there, past_all)
