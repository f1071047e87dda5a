-- Sets of positions as functions of the position.
use Rattle.std.proofs.Common.{◌≡◌, ℕ, ◌+◌, ◌<◌, List, [], length, drop, get_or, Bool, true, false, if◌then◌else◌, refl, sym, ap, ◌∙◌, cond, inl, inr, eq-eqb, ne_eqb, ◌==◌}
use Rattle.std.specs.Prelude.{◌||◌}
use Rattle.std.proofs.lemmas.Bool.{cases_eq}
use Rattle.std.proofs.lemmas.List.{drop_more}
use Rattle.std.specs.List.{list_any}
use Rattle.std.specs.Ordering.{nat_cmp}
use Rattle.std.specs.Cmp.{unsigned_tied}
use Rattle.std.specs.BTreeMap.{is_at}
use Rattle.gr_view.specs.Places.{put}
use Rattle.gr_view.proofs.Puts.{put_by}
use Rattle.gr_turns.specs.LineView.{is_among}

pub among_is : (positions : List ℕ) (position : ℕ) → is_among positions position ≡ list_any (is_at (nat_cmp position)) positions
unfolding is_among
among_is positions position = refl

pub among_put : (before after : List ℕ) (position : ℕ) (now : Bool)
    → ((other : ℕ) → list_any (is_at (nat_cmp other)) after ≡ cond (is_at (nat_cmp position) other) now (list_any (is_at (nat_cmp other)) before))
    → is_among after ≡ put (is_among before) position now
unfolding is_among
among_put before after position now h = put_by (λ p. list_any (is_at (nat_cmp p)) before) (λ p. list_any (is_at (nat_cmp p)) after) position now
    (h position ∙ ap (λ b. cond b now (list_any (is_at (nat_cmp position)) before)) (unsigned_tied position position ∙ eq-eqb position position refl))
    (λ other n. h other ∙ ap (λ b. cond b now (list_any (is_at (nat_cmp other)) before)) (unsigned_tied position other ∙ ne_eqb position other (λ q. n (sym q))))

pub ruleset at_positions = (among_is, among_put)

-- Loops that add the positions of a list.

pub none_among : (positions : List ℕ) (position : ℕ) (more : Bool) → positions ≡ [] → (is_among positions position || more) ≡ more
unfolding is_among
none_among positions position more e = ap (λ held. list_any (is_at (nat_cmp position)) held || more) e

chosen : (here there more : Bool) → ((if here then true else there) || more) ≡ (there || (here || more))
chosen true true more = refl
chosen true false more = refl
chosen false there more = refl

module _ {X : Type 0} (position_of : X → ℕ) where
  abbrev any_at : ℕ → List X → Bool
  any_at position items = list_any (λ item. position_of item == position) items

  one_more : (held : ℕ → Bool) (added position : ℕ) (more : Bool) → (put held added true position || more) ≡ (held position || ((added == position) || more))
  unfolding put
  one_more held added position more = ap (λ b. (if b then true else held position) || more) (same added position) ∙ chosen (added == position) (held position) more
    where
      same : (one other : ℕ) → (other == one) ≡ (one == other)
      same one other = elim (cases_eq one other) [
        | inl e ↦ eq-eqb other one (sym e) ∙ sym (eq-eqb one other e)
        | inr n ↦ ne_eqb other one (λ e. n (sym e)) ∙ sym (ne_eqb one other n)
      ]

  pub among_more : (items : List X) (at : ℕ) (default : X) (before after : List ℕ) → at < length items
      → is_among after ≡ put (is_among before) (position_of (get_or items at default)) true
      → ((position : ℕ) → (is_among before position || any_at position (drop at items)) ≡ any_at position items)
      → (position : ℕ) → (is_among after position || any_at position (drop (at + 1) items)) ≡ any_at position items
  among_more items at default before after inside added held position =
      ap (λ (now : ℕ → Bool). now position || any_at position (drop (at + 1) items)) added
      ∙ one_more (is_among before) (position_of (get_or items at default)) position (any_at position (drop (at + 1) items))
      ∙ ap (λ (left : List X). is_among before position || any_at position left) (sym (drop_more items at default inside))
      ∙ held position
