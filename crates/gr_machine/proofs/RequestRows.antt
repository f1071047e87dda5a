-- The worked rows of requests hold, by computation; those of the heap by the laws of finite maps.
use Rattle.std.proofs.Common.{◌≡◌, ℕ, List, [], ◌∷◌, refl, rules, sym, ◌∙◌, arith}
use Rattle.std.specs.Prelude.{length, None}
use Rattle.std.specs.FinMap.{gets, entries, empty, get, len-entries, len-empty}
use Rattle.std.specs.Ordering.{nat_cmp}
use Rattle.gr_lang.specs.Objects.{least_start}
use Rattle.gr_view.specs.Places.{put}
use Rattle.gr_event.specs.Scopes.{put_scope}
use Rattle.gr_machine.specs.RequestRows as rows

pub words_called : rows.WordsAreCalled
unfolding put put_scope
words_called = record {
  read = refl;
  read_reply = refl;
  write = refl;
  write_mark = refl;
  write_reply = refl;
  add = refl;
  add_mark = refl;
  cas = refl;
  cas_other = refl;
  cas_mark = refl;
  in_heap = refl;
  in_heap_mark = refl;
}

nothing_in : {A : Type 0} (xs : List A) → length xs ≡ 0 → xs ≡ []
nothing_in [] none = refl
nothing_in (x ∷ xs) none = absurd (omega arith)

no_block : entries (empty {X = ℕ} {R = nat_cmp}) ≡ []
no_block = nothing_in _ (sym (len-entries _) ∙ len-empty nat_cmp ℕ)

none_there : get (empty {X = ℕ} {R = nat_cmp}) 1 ≡ None
none_there = search (rules, gets)

pub blocks_made : rows.BlocksAreMade
unfolding put put_scope least_start
blocks_made = record {
  alloc = rw no_block refl;
  alloc_reply = rw no_block refl;
  alloc_live = rw no_block refl;
  too_many = refl;
  free = rw none_there refl;
  print = refl;
}
