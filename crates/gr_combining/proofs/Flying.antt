-- Batches under way, by the entries of a tree map.
use Rattle.std.proofs.Common.{◌≡◌, ◌==◌, ℕ, List, [], Option, None, refl, ap, ◌∙◌, arith, cond}
use mathlib.Core.Path.{fun_ext}
use Rattle.std.proofs.lemmas.Bool.Decides.{nat_tests}
use Rattle.std.specs.Ordering.{nat_cmp}
use Rattle.std.specs.Cmp.{unsigned_tied}
use Rattle.std.specs.Map.{lookup}
use Rattle.std.specs.BTreeMap.{is_at}
use Rattle.gr_lang.specs.declared.action.WaitingCall.{WaitingCall}
use Rattle.gr_view.specs.Places.{put}
use Rattle.gr_combining.specs.CombiningView.{flying_in}

found_at : (batch other : ℕ) → is_at (nat_cmp batch) other ≡ (other == batch)
found_at batch other = unsigned_tied batch other ∙ grind (arith, nat_tests)

pub flying_put : (before after : List (ℕ × List WaitingCall)) (batch : ℕ) (calls : Option (List WaitingCall))
    → ((other : ℕ) → lookup (is_at (nat_cmp other)) after ≡ cond (is_at (nat_cmp batch) other) calls (lookup (is_at (nat_cmp other)) before))
    → flying_in after ≡ put (flying_in before) batch calls
unfolding flying_in put
flying_put before after batch calls h =
    fun_ext (λ other. h other ∙ ap (λ b. cond b calls (lookup (is_at (nat_cmp other)) before)) (found_at batch other))

pub flying_is : (entries : List (ℕ × List WaitingCall)) (batch : ℕ) → flying_in entries batch ≡ lookup (is_at (nat_cmp batch)) entries
unfolding flying_in
flying_is entries batch = refl

pub flying_none : (entries : List (ℕ × List WaitingCall)) → entries ≡ [] → flying_in entries ≡ (λ batch. None)
unfolding flying_in
flying_none entries e = let read : List (ℕ × List WaitingCall) → ℕ → Option (List WaitingCall) = λ es batch. lookup (is_at (nat_cmp batch)) es in ap read e

pub ruleset at_batches = (flying_put, flying_is, flying_none)
