-- Lists of the pairs of a finite map.
use Rattle.std.proofs.Common.{◌≡◌, ℕ, ◌≤◌, Bool, true, false, List, [], length, refl, sym, ◌∙◌, subst}
use Rattle.std.specs.Prelude.{T}
use Rattle.std.specs.FinMap.{FinMap, entries, entries_sorted, get, get-entries, is_sorted}
use Rattle.std.specs.Ordering.{nat_cmp}
use Rattle.gr_hash.specs.Shards.{nothing_held, under_of}
use Rattle.gr_store.specs.declared.shard.Shard.{Shard}
use Rattle.gr_store.specs.Stores.{Lists}
use Rattle.gr_store.specs.StoreView.{shards_of}
use Rattle.gr_store.proofs.Shards.{shards_past}

is_true : (b : Bool) → T b → b ≡ true
is_true true h = refl
is_true false h = absurd h

under_is : (part : FinMap nat_cmp ℕ) (key : ℕ) → under_of part key ≡ get part key
unfolding under_of
under_is part key = refl

entries_listed : (part : FinMap nat_cmp ℕ) → Lists (entries part) (under_of part)
entries_listed part = record {
  rising = is_true (is_sorted nat_cmp (entries part)) (entries_sorted part);
  each = λ key. sym (get-entries part key) ∙ sym (under_is part key);
}

pub part_listed : (pairs : List (ℕ × ℕ)) (part : FinMap nat_cmp ℕ) → pairs ≡ entries part → Lists pairs (under_of part)
part_listed pairs part e = subst (λ (p : List (ℕ × ℕ)). Lists p (under_of part)) (sym e) (entries_listed part)

pub none_listed : (pairs : List (ℕ × ℕ)) → pairs ≡ [] → Lists pairs nothing_held
none_listed pairs e = subst (λ (p : List (ℕ × ℕ)). Lists p nothing_held) (sym e) (record { rising = refl; each = λ key. refl })

-- Where there is no object of that number, nothing is listed.
pub past_listed : (pairs : List (ℕ × ℕ)) (shards : List Shard) (object : ℕ) → length shards ≤ object → pairs ≡ [] → Lists pairs (shards_of shards object)
past_listed pairs shards object past e = subst (Lists pairs) (sym (shards_past shards object past)) (none_listed pairs e)

pub ruleset are_listed = (part_listed, none_listed)
