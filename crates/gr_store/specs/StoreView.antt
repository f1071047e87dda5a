-- The store as the code's struct keeps it.
use Rattle.std.specs.Prelude.{ℕ, nat_lt, if◌then◌else◌, List, Option, Some, None, slice_index, slice_index_or}
use Rattle.std.specs.FinMap as map
use Rattle.gr_addr.specs.Segments.{words_of}
use Rattle.gr_alloc.specs.HeapBlocks.{HeapBlocks}
use Rattle.gr_hash.specs.Shards.{nothing_held, under_of}
use Rattle.gr_store.specs.declared.shard.Shard.{Shard}
use Rattle.gr_store.specs.declared.shard.Shard.TheVariants as shard
use Rattle.gr_store.specs.Stores.{Store}

-- The words of the core, its part of each object, and the heap's blocks where this core keeps them.
pub record StoreData : Type 0 where
  pub segment : List ℕ
  pub shards : List Shard
  pub blocks : Option HeapBlocks

-- What stands under each key of a part of an object.
abbrev pub under : Shard → ℕ → Option ℕ
under shard.Keyless = nothing_held
under (shard.Set part) = under_of part
under (shard.Map part) = under_of part

-- What stands under the keys of each object, and nothing where there is no object of that number.
unfoldable pub shards_of : List Shard → ℕ → ℕ → Option ℕ
shards_of shards object = under (slice_index_or shards object shard.Keyless)

-- Nothing under any key of any object.
abbrev pub nothing_under : ℕ → ℕ → Option ℕ
nothing_under object = nothing_held

-- The heap with its live blocks: one without words where this core doesn't keep them.
abbrev pub blocks_in : Option HeapBlocks → HeapBlocks
blocks_in None = record { heap = record { from = 0; count = 0 }; live = map.empty }
blocks_in (Some blocks) = blocks

-- What the struct stands for.
abbrev pub store_in : StoreData → Store
store_in kept = record {
  heap = (blocks_in kept.blocks).heap;
  words = record { segment = words_of kept.segment; shards = shards_of kept.shards; blocks = (blocks_in kept.blocks).live };
}

-- As a core opens: its first words are those at their addresses already, and the others of its share are 0.
abbrev pub filled : List ℕ → (ℕ → ℕ) → ℕ → ℕ → ℕ → Option ℕ
filled words address share count place =
    if nat_lt place count then Some (slice_index words (address place)) else (if nat_lt place share then Some 0 else None)
