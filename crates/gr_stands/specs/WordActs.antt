-- What part 1 of 'stands for' asks of an outcome at a core.
use Rattle.std.specs.Prelude.{◌≡◌, ◌≢◌, ℕ, length, slice_get, Option, None}
use Rattle.gr_lang.specs.Objects.{Objects}
use Rattle.gr_view.specs.Places.{put}
use Rattle.gr_machine.specs.Machines.{Machine, home, place, numbered_home}
use Rattle.gr_machine.specs.States.{Words, Body}
use Rattle.gr_stands.specs.Memory.{under_key, kind_at, SameMemory, WordsStand}

-- The core has these words after the outcome: what lies there of the objects is that of the new objects; and what lies elsewhere is as before.
pub record WordsAct (machine : Machine) (me : ℕ) (words : Words) (before after : Objects) : Type 0 where
  pub words_here : (at : ℕ) → home machine at ≡ me → words.segment (place machine at) ≡ slice_get after.words at
  pub words_away : (at : ℕ) → home machine at ≢ me → slice_get after.words at ≡ slice_get before.words at
  pub keys_here : (object key : ℕ) → numbered_home machine key ≡ me → words.shards object key ≡ under_key after object key
  pub keys_away : (object key : ℕ) → numbered_home machine key ≢ me
      → (words.shards object key ≡ None) × (under_key after object key ≡ under_key before object key)
  pub blocks_here : me ≡ 0 → words.blocks ≡ after.live
  pub blocks_away : me ≢ 0 → after.live ≡ before.live
  pub kinds : (object : ℕ) → kind_at after object ≡ kind_at before object
  pub heap : after.heap ≡ before.heap
  pub count : length after.words ≡ length before.words

-- Such an outcome keeps part 1.
abbrev pub WordsAreKept : Type 0
WordsAreKept =
    (machine : Machine) (body : ℕ → Body) (me : ℕ) (next : Body) (before after : Objects) → WordsAct machine me next.words before after
    → WordsStand machine body before → WordsStand machine (put body me next) after

-- An outcome that leaves the words of its core does what part 1 asks, where the objects' memory is the same.
abbrev pub WordsStayBehind : Type 0
WordsStayBehind =
    (machine : Machine) (body : ℕ → Body) (me : ℕ) (next : Body) (before after : Objects)
    → next.words ≡ (body me).words → SameMemory before after
    → WordsStand machine body before → WordsStand machine (put body me next) after
