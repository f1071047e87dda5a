-- Part 1 of 'stands for', words: each word, key and value at its home is that of the plain state.
use Rattle.std.specs.Prelude.{◌≡◌, ◌≢◌, ℕ, ◌<◌, List, [], length, slice_get, Option, Some, None}
use Rattle.std.specs.Option.{option_and_then}
use Rattle.std.specs.FinMap as map
use Rattle.std.specs.FinSet as set
use Rattle.gr_lang.specs.Objects.{Object, array, keys, pairs, line, Objects, address, under}
use Rattle.gr_machine.specs.Machines.{Machine, home, place, numbered_home}
use Rattle.gr_machine.specs.States.{Body}

-- What stands under a key of the object of a number: nothing where it is no set or map.
abbrev pub under_key : Objects → ℕ → ℕ → Option ℕ
under_key objects object key = option_and_then (λ thing. under thing key) (slice_get objects.things object)

-- What an object is, without what it holds.
abbrev pub emptied : Object → Object
emptied (array from count) = array from count
emptied (keys held) = keys set.empty
emptied (pairs held) = pairs map.empty
emptied (line words) = line []

abbrev pub kind_of : Option Object → Option Object
kind_of None = None
kind_of (Some thing) = Some (emptied thing)

abbrev pub kind_at : Objects → ℕ → Option Object
kind_at objects object = kind_of (slice_get objects.things object)

-- The same words, sets, maps and blocks, and the same objects, whatever their vectors hold.
pub record SameMemory (before after : Objects) : Type 0 where
  pub words : after.words ≡ before.words
  pub keys : (object key : ℕ) → under_key after object key ≡ under_key before object key
  pub blocks : after.live ≡ before.live
  pub kinds : (object : ℕ) → kind_at after object ≡ kind_at before object
  pub heap : after.heap ≡ before.heap

-- The bodies by core have what the objects hold, but for vectors: each word at its home, what stands under each key at the key's home and nowhere else, and
-- the live blocks at core 0. The objects are those with which the program opens.
pub record WordsStand (machine : Machine) (body : ℕ → Body) (objects : Objects) : Type 0 where
  pub words : (at : ℕ) → (body (home machine at)).words.segment (place machine at) ≡ slice_get objects.words at
  pub keys : (object key : ℕ) → (body (numbered_home machine key)).words.shards object key ≡ under_key objects object key
  pub elsewhere : (core object key : ℕ) → numbered_home machine key ≢ core → (body core).words.shards object key ≡ None
  pub blocks : (body 0).words.blocks ≡ objects.live
  pub kinds : (object : ℕ) → kind_at objects object ≡ kind_at machine.code.objects object
  pub heap : objects.heap ≡ machine.code.objects.heap
  pub count : length objects.words ≡ length machine.code.objects.words
