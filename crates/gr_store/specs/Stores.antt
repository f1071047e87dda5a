-- What lies at a core of all that is shared: words, what stands under keys, and the blocks of the heap.
use Rattle.std.specs.Prelude.{◌≡◌, ℕ, true, List, Option, Some, None}
use Rattle.std.specs.FinMap as map
use Rattle.std.specs.Ordering.{nat_cmp}
use Rattle.gr_lang.specs.declared.action.Effect.{Effect}
use Rattle.gr_lang.specs.Effects.{after}
use Rattle.gr_lang.specs.Objects.{Heap}
use Rattle.gr_view.specs.Places.{put}
use Rattle.gr_addr.specs.declared.layout.Layout.{Layout}
use Rattle.gr_machine.specs.declared.setup.Setup.{Setup}
use Rattle.gr_machine.specs.States.{Words}

-- Where the heap's words are, and what lies here.
pub record Store : Type 0 where
  pub heap : Heap
  pub words : Words

-- The layout has the numbers of the setup.
abbrev pub Deals : Layout → Setup → Type 0
Deals layout setup = (setup.cores ≡ layout.cores) × (setup.block ≡ layout.block)

-- The word at a place.
abbrev pub with_word : Store → ℕ → Option ℕ → Store
with_word store place word = record store { words = record store.words { segment = put store.words.segment place word } }

-- What an effect makes of what stands under a key of an object.
abbrev pub with_effect : Store → ℕ → ℕ → Effect → Store
with_effect store object key effect = record store {
  words = record store.words {
    shards = put store.words.shards object (put (store.words.shards object) key (after effect (store.words.shards object key)));
  };
}

-- A block that is live from a start on, if there is a start.
abbrev pub with_block : Store → Option ℕ → ℕ → Store
with_block store None count = store
with_block store (Some start) count = record store { words = record store.words { blocks = map.insert store.words.blocks start count } }

-- No block is live from this address on.
abbrev pub without_block : Store → ℕ → Store
without_block store at = record store { words = record store.words { blocks = map.remove store.words.blocks at } }

-- The pairs are the keys under which something stands, each with that, by rising key.
pub record Lists (pairs : List (ℕ × ℕ)) (under : ℕ → Option ℕ) : Type 0 where
  pub rising : map.is_sorted nat_cmp pairs ≡ true
  pub each : (key : ℕ) → map.find nat_cmp key pairs ≡ under key
