-- What lies at a core as a run opens.
use Rattle.std.proofs.Common.{◌≡◌, ◌≢◌, ℕ, zero, suc, ◌+◌, ◌-◌, ◌*◌, ◌/◌, ◌%◌, ◌<◌, ◌≤◌, min, List, [], ◌∷◌, ◌++◌, length, Option, Some, None, is_some, true, nat_lt, if◌then◌else◌, arith, ap, ◌∙◌, sym, refl, inl, inr, subst, slice_get, slice_index, get_or}
use mathlib.Core.Path.{fun_ext}
use Rattle.std.specs.FinMap as map
use Rattle.std.specs.Ordering.{nat_cmp}
use Rattle.std.proofs.Math.Nat.{mul-div_cancel, lt-div-mul-add, add-mul, le-mul_of_pos_right}
use Rattle.std.proofs.lemmas.Bool.{cases_lt}
use Rattle.std.proofs.lemmas.Bool.Decides.{nat_tests}
use Rattle.std.proofs.lemmas.Option.{slice_get_past, slice_get-get_or}
use Rattle.gr_syntax.specs.declared.syntax.Program.{Program}
use Rattle.gr_lang.specs.Objects.{Heap}
use Rattle.gr_lang.specs.Openings.{heap_of, opening}
use Rattle.gr_view.specs.Places.{put}
use Rattle.gr_view.proofs.Puts.{put_by}
use Rattle.gr_addr.specs.Dealing.{home_of, place_of, linear_of, share_of}
use Rattle.gr_addr.specs.Layouts.{IsLayout}
use Rattle.gr_addr.proofs.Dealt.{held, addressed}
use Rattle.gr_hash.specs.Shards.{nothing_held}
use Rattle.gr_code.specs.Shapes.{heap_shape}
use Rattle.gr_machine.specs.declared.setup.Setup.{Setup}
use Rattle.gr_machine.specs.Machines.{machine_of}
use Rattle.gr_machine.specs.States.{Words}
use Rattle.gr_machine.specs.Openings.{opening_words}
use Rattle.gr_store.specs.declared.shard.Shard.{Shard}
use Rattle.gr_store.specs.declared.shard.Shard.TheVariants.{Keyless}
use Rattle.gr_store.specs.StoreView.{filled, nothing_under, shards_of, under}

-- Words.

-- Each place is below the core's share of enough whole rounds.
enough : (cores block core place : ℕ) → 0 < cores → 0 < block → place < share_of cores block ((place / block + 1) * (block * cores)) core
enough cores block core place a_core a_word =
    let round : 0 < block * cores = omega (arith, le-mul_of_pos_right block a_core) in
    let whole : (place / block + 1) * (block * cores) / (block * cores) ≡ place / block + 1 = mul-div_cancel (place / block + 1) round in
    let last : place < place / block * block + block = lt-div-mul-add a_word in
    omega (arith, last, ap (λ (n : ℕ). n * block) whole, add-mul (place / block) 1 block)

-- A place from the core's share on is that of an address from the number of words on.
past_end : (cores block words core place : ℕ) → 0 < cores → 0 < block → core < cores → share_of cores block words core ≤ place
    → words ≤ linear_of cores block core place
past_end cores block words core place a_core a_word here past =
    let at : ℕ = linear_of cores block core place in
    let back = addressed cores block ((place / block + 1) * (block * cores)) core place a_core a_word here (enough cores block core place a_core a_word) in
    elim (cases_lt at words) [
      | inl below ↦
          let inside : place_of cores block at < share_of cores block words core =
          subst (λ (home : ℕ). place_of cores block at < share_of cores block words home) back.1 (held cores block words at a_core a_word below).1 in
          let same : place_of cores block at ≡ place = back.2 in
          absurd (omega (arith, inside, same, past))
      | inr above ↦ above
    ]

pub filled_none : (words : List ℕ) (at : ℕ → ℕ) (share : ℕ) → (λ place. if nat_lt place share then Some 0 else None) ≡ filled words at share 0
filled_none words at share = fun_ext (λ place. grind (arith, nat_tests))

pub filled_more : (words : List ℕ) (at : ℕ → ℕ) (share count word : ℕ) → count < share → word ≡ slice_index words (at count)
    → put (filled words at share count) count (Some word) ≡ filled words at share (count + 1)
filled_more words at share count word inside e = sym (put_by (filled words at share count) (filled words at share (count + 1)) count (Some word)
    (here inside e)
    (λ other apart. grind (arith, nat_tests)))
  where
    here : count < share → word ≡ slice_index words (at count) → filled words at share (count + 1) count ≡ Some word
    here inside e = grind (arith, nat_tests)

filled_all : (words : List ℕ) (at : ℕ → ℕ) (share place : ℕ) → (place < share → at place < length words) → (share ≤ place → length words ≤ at place)
    → filled words at share share place ≡ slice_get words (at place)
filled_all words at share place below past = elim (cases_lt place share) [
  | inl l ↦ inside_is place l ∙ sym (slice_get-get_or words (at place) 0 (below l))
  | inr l ↦ past_is place l ∙ sym (slice_get_past words (at place) (past l))
]
  where
    inside_is : (place : ℕ) → place < share → filled words at share share place ≡ Some (slice_index words (at place))
    inside_is place l = grind (arith, nat_tests)

    past_is : (place : ℕ) → share ≤ place → filled words at share share place ≡ None
    past_is place l = grind (arith, nat_tests)

-- The next place is one of the core's.
pub filled_next : (words : List ℕ) (at : ℕ → ℕ) (share count : ℕ) → count < share → is_some (filled words at share count count) ≡ true
filled_next words at share count inside = grind (arith, nat_tests)

-- The words at the places below a core's share are those of its addresses.
pub filled_dealt : (words : List ℕ) (cores block count core : ℕ) → IsLayout cores block count → core < cores → count ≡ length words
    → filled words (linear_of cores block core) (share_of cores block count core) (share_of cores block count core)
    ≡ (λ place. slice_get words (linear_of cores block core place))
filled_dealt words cores block count core layout here e = fun_ext (λ place.
    let below : place < share_of cores block count core → linear_of cores block core place < length words =
    λ inside. subst (λ (n : ℕ). linear_of cores block core place < n) e
    (addressed cores block count core place layout.some_cores layout.some_block here inside).0 in
    let past : share_of cores block count core ≤ place → length words ≤ linear_of cores block core place =
    λ outside. subst (λ (n : ℕ). n ≤ linear_of cores block core place) e
    (past_end cores block count core place layout.some_cores layout.some_block here outside) in
    filled_all words (linear_of cores block core) (share_of cores block count core) place below past)

-- Parts of objects.

each_none : (shards : List Shard) (part : Shard) → ((object : ℕ) → under (get_or shards object Keyless) ≡ nothing_held) → under part ≡ nothing_held
    → (object : ℕ) → under (get_or (shards ++ part ∷ []) object Keyless) ≡ nothing_held
each_none [] part h e zero = e
each_none [] part h e (suc object) = refl
each_none (shard ∷ shards) part h e zero = h zero
each_none (shard ∷ shards) part h e (suc object) = each_none shards part (λ other. h (suc other)) e object

pub none_first : shards_of [] ≡ nothing_under
unfolding shards_of
none_first = refl

pub none_more : (shards : List Shard) (part : Shard) → shards_of shards ≡ nothing_under → under part ≡ nothing_held
    → shards_of (shards ++ part ∷ []) ≡ nothing_under
unfolding shards_of
none_more shards part all e = fun_ext (each_none shards part (λ object. ap (λ f. f object) all) e)

-- The heap.

pub same_heap : (one other : Heap) → heap_shape one ≡ heap_shape other → one ≡ other
same_heap one other e = let from : one.from ≡ other.from = cc in let count : one.count ≡ other.count = cc in λ i. record { from = from i; count = count i }

pub heap_opens : (program : Program) (heap : Heap) → heap_shape (heap_of program) ≡ heap_shape heap → heap ≡ (opening program).heap
unfolding opening
heap_opens program heap e = sym (same_heap (heap_of program) heap e)

live_opens : (program : Program) → (opening program).live ≡ map.empty
unfolding opening
live_opens program = refl

-- All of it.

pub words_open : (program : Program) (setup : Setup) (cores block me : ℕ) (words : Words) → setup.cores ≡ cores → setup.block ≡ block
    → words.segment ≡ (λ place. slice_get (opening program).words (linear_of cores block me place))
    → words.shards ≡ nothing_under
    → words.blocks ≡ map.empty
    → words ≡ opening_words (machine_of setup program) me
words_open program setup cores block me words same_cores same_block segment shards blocks =
    let dealt : words.segment ≡ (λ place. slice_get (opening program).words (linear_of setup.cores setup.block me place)) =
    segment ∙ (λ i place. slice_get (opening program).words (linear_of (sym same_cores i) (sym same_block i) me place)) in
    let live : words.blocks ≡ (opening program).live = blocks ∙ sym (live_opens program) in
    λ i. record { segment = dealt i; shards = shards i; blocks = live i }
