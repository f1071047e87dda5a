-- What cores hold together of each object is what the plain object holds.
use Rattle.std.proofs.Common.{◌≡◌, ℕ, zero, suc, ◌+◌, ◌-◌, ◌<◌, ◌≤◌, ◌/◌, true, false, List, [], ◌∷◌, length, map, take, drop, get_or, slice_get, Option, Some, None, is_some, refl, sym, ap, ◌∙◌, subst, arith, mod-lt}
use Rattle.std.specs.Option.{option_or, option_and_then}
use Rattle.std.proofs.lemmas.List.{ext_get_or, length-drop, length-take-le}
use Rattle.std.proofs.lemmas.Option.{slice_get_within}
use Rattle.gr_lang.specs.Objects.{Object, array, keys, pairs, line, Objects, under}
use Rattle.gr_memory.specs.declared.contents.Content.{Content}
use Rattle.gr_memory.specs.declared.contents.Content.TheVariants as content
use Rattle.gr_memory.specs.Contents.{content_of}
use Rattle.gr_code.specs.Shapes.{shape_of}
use Rattle.gr_machine.specs.Machines.{Machine, thing, home, place, numbered_home}
use Rattle.gr_machine.specs.Openings.{is_vector}
use Rattle.gr_machine.specs.States.{Vector, Body}
use Rattle.gr_core.specs.declared.cores.Core.{Core}
use Rattle.gr_report.specs.Gathered.{AreGathered, AreWords, IsGathered, first_held, held_by, held_in, held_of, part_or, word_by}
use Rattle.gr_report.specs.Laws.{AreInOrder}
use Rattle.gr_report.proofs.Together.{at_home, first_alone}
use Rattle.gr_stands.specs.Worlds.{Given, machine_in, World, bodies}
use Rattle.gr_stands.specs.Memory.{emptied, kind_of, under_key, WordsStand}
use Rattle.gr_stands.specs.Stands.{IsSound}
use Rattle.gr_stands_contents.specs.Rests.{word_from, part_in, HasWord, LineRests, VectorsRest, HaveBodies}
use Rattle.gr_stands_contents.proofs.Sorted.{map_pairs, set_keys, line_words}
use Rattle.gr_stands_contents.specs.Laws as laws

-- ---- the first that holds something

-- One of some that holds this at a place.
record Holds {X : Type 0} (held : X → ℕ → Option ℕ) (xs : List X) (at : ℕ) (d : X) (word : ℕ) : Type 0 where
  place : ℕ
  low : place < length xs
  holds : held (get_or xs place d) at ≡ Some word

module _ {X : Type 0} (held : X → ℕ → Option ℕ) (at : ℕ) (d : X) where
  found : (xs : List X) (word : ℕ) → first_held (map held xs) at ≡ Some word → Holds held xs at d word
  unfolding first_held
  found [] word e = cc
  found (x ∷ xs) word e = by (held x at) refl (found xs word) e
    where
      by : (o : Option ℕ) → held x at ≡ o → (first_held (map held xs) at ≡ Some word → Holds held xs at d word)
          → option_or o (first_held (map held xs) at) ≡ Some word → Holds held (x ∷ xs) at d word
      by None h more e = let k : Holds held xs at d word = more e in record { place = suc k.place; low = omega (arith, k.low); holds = k.holds }
      by (Some w) h more e = record { place = 0; low = omega arith; holds = h ∙ e }

  none_is : (xs : List X) → first_held (map held xs) at ≡ None → (i : ℕ) → i < length xs → held (get_or xs i d) at ≡ None
  unfolding first_held
  none_is [] e i l = absurd (omega (arith, l))
  none_is (x ∷ xs) e i l = by (held x at) refl (none_is xs) e i l
    where
      by : (o : Option ℕ) → held x at ≡ o → (first_held (map held xs) at ≡ None → (i : ℕ) → i < length xs → held (get_or xs i d) at ≡ None)
          → option_or o (first_held (map held xs) at) ≡ None → (i : ℕ) → i < suc (length xs) → held (get_or (x ∷ xs) i d) at ≡ None
      by None h more e zero l = h
      by None h more e (suc i) l = more e i (omega (arith, l))
      by (Some w) h more e i l = cc

-- ---- objects

module _ (given : Given) (cores : List Core) (world : World) (objects : Objects) (sound : IsSound given) (order : AreInOrder (machine_in given) cores) (same : HaveBodies cores world)
    (words : WordsStand (machine_in given) (bodies world) objects) (rest : VectorsRest given (bodies world) objects) (d : Core) where
  abbrev m : Machine
  m = machine_in given

  inside : (core : ℕ) → core < given.setup.cores → core < length cores
  inside core l = subst (λ (n : ℕ). core < n) (sym order.len) l

  outside : (core : ℕ) → core < length cores → core < given.setup.cores
  outside core l = subst (λ (n : ℕ). core < n) order.len l

  home_low : (at : ℕ) → home m at < given.setup.cores
  home_low at = mod-lt (at / given.setup.block) {m = given.setup.cores} (omega (arith, sound.cores))

  key_low : (key : ℕ) → numbered_home m key < given.setup.cores
  key_low key = mod-lt key {m = given.setup.cores} (omega (arith, sound.cores))

  -- Words of addresses.
  word_is : (at : ℕ) → word_by cores at ≡ slice_get objects.words at
  word_is at =
      at_home m cores at d order (home_low at)
      ∙ ap (λ (b : Body). b.words.segment (place m at)) (same (home m at) d (inside (home m at) (home_low at)))
      ∙ words.words at

  -- What stands under keys of what is no vector.
  module _ (object : ℕ) (plain : is_vector (thing m object) ≡ false) where
    held_is : (core key : ℕ) → core < length cores → held_of object (get_or cores core d) key ≡ (bodies world core).words.shards object key
    held_is core key l =
        ap (λ (b : Body). held_in b object key) (same core d l)
        ∙ ap (λ (v : Option Vector). part_or v ((bodies world core).words.shards object) key) (rest.others core object (outside core l) plain)

    key_is : (key : ℕ) → held_by cores object key ≡ under_key objects object key
    key_is key =
        first_alone (held_of object) key d cores (numbered_home m key) (inside (numbered_home m key) (key_low key))
        (λ i l ne. held_is i key l ∙ words.elsewhere i object key (λ e. ne (sym e)))
        ∙ held_is (numbered_home m key) key (inside (numbered_home m key) (key_low key))
        ∙ words.keys object key

  -- What lies at positions of a vector.
  module _ (object : ℕ) (its : List ℕ) (line_rests : LineRests given.setup.cores (bodies world) object its) where
    part_is : (v : Option Vector) (under : ℕ → Option ℕ) (position : ℕ) → is_some v ≡ true → part_or v under position ≡ part_in v position
    part_is None under position e = cc
    part_is (Some vector) under position e = refl

    lies : (core position : ℕ) → core < length cores → held_of object (get_or cores core d) position ≡ part_in ((bodies world core).vectors.vectors object) position
    lies core position l =
        ap (λ (b : Body). held_in b object position) (same core d l)
        ∙ part_is ((bodies world core).vectors.vectors object) ((bodies world core).words.shards object) position (line_rests.kept core (outside core l))

    position_is : (position : ℕ) → held_by cores object position ≡ word_from line_rests.first its position
    position_is position = by (held_by cores object position) refl
      where
        by : (o : Option ℕ) → held_by cores object position ≡ o → o ≡ word_from line_rests.first its position
        by (Some word) e =
            let one : Holds (held_of object) cores position d word = found (held_of object) position d cores word e in
            sym (line_rests.right one.place position word (outside one.place one.low) (sym (lies one.place position one.low) ∙ one.holds))
        by None e = nothing (word_from line_rests.first its position) refl
          where
            nothing : (o : Option ℕ) → word_from line_rests.first its position ≡ o → None ≡ o
            nothing None h = refl
            nothing (Some word) h =
                let one : HasWord given.setup.cores (bodies world) object position word = line_rests.somewhere position word h in
                let no : None ≡ Some word =
                sym (none_is (held_of object) position d cores e one.core (inside one.core one.here)) ∙ lies one.core position (inside one.core one.here) ∙ one.there in
                cc

  -- ---- contents

  -- The words of an array.
  array_is : (from count : ℕ) (its : List ℕ) → AreWords cores from count its → its ≡ take count (drop from objects.words)
  array_is from count its h = ext_get_or 0 its (take count (drop from objects.words)) (h.len ∙ sym long) (λ i l. each i l)
    where
      at_place : (i : ℕ) → i < length its → slice_get objects.words (from + i) ≡ Some (get_or its i 0)
      at_place i l = sym (word_is (from + i)) ∙ h.each i l

      enough : (n : ℕ) → count ≡ n → n ≤ length objects.words - from
      enough zero e = omega arith
      enough (suc n) e = omega (arith, slice_get_within objects.words (from + n) (get_or its n 0) (at_place n (omega (arith, h.len, e))))

      long : length (take count (drop from objects.words)) ≡ count
      long = length-take-le count (drop from objects.words) (omega (arith, enough count refl, length-drop from objects.words))

      taken : (xs : List ℕ) (n i : ℕ) → i < n → get_or (take n xs) i 0 ≡ get_or xs i 0
      taken xs zero i l = absurd (omega (arith, l))
      taken [] (suc n) i l = refl
      taken (x ∷ xs) (suc n) zero l = refl
      taken (x ∷ xs) (suc n) (suc i) l = taken xs n i (omega (arith, l))

      dropped : (xs : List ℕ) (n i : ℕ) → get_or (drop n xs) i 0 ≡ get_or xs (n + i) 0
      dropped xs zero i = ap (λ (k : ℕ). get_or xs k 0) (zero_plus i)
        where
          zero_plus : (k : ℕ) → k ≡ 0 + k
          zero_plus k = omega arith
      dropped [] (suc n) i = refl
      dropped (x ∷ xs) (suc n) i = dropped xs n i ∙ ap (λ (k : ℕ). get_or (x ∷ xs) k 0) (suc_plus n i)
        where
          suc_plus : (a b : ℕ) → suc (a + b) ≡ suc a + b
          suc_plus a b = omega arith

      reads : (xs : List ℕ) (i x : ℕ) → slice_get xs i ≡ Some x → get_or xs i 0 ≡ x
      reads [] i x e = cc
      reads (y ∷ xs) zero x e = cc
      reads (y ∷ xs) (suc i) x e = reads xs i x e

      each : (i : ℕ) → i < length its → get_or its i 0 ≡ get_or (take count (drop from objects.words)) i 0
      each i l = sym (taken (drop from objects.words) count i (omega (arith, l, h.len)) ∙ dropped objects.words from i ∙ reads objects.words (from + i) (get_or its i 0) (at_place i l))

  under_is : (object key : ℕ) (t : Object) → slice_get objects.things object ≡ Some t → under_key objects object key ≡ under t key
  under_is object key t e = ap (option_and_then (λ (x : Object). under x key)) e

  -- The object of this number has the opening one's kind.
  one : (object : ℕ) (t o : Object) (c : Content) → emptied t ≡ emptied o → slice_get objects.things object ≡ Some t → thing m object ≡ Some o
      → IsGathered cores object (shape_of o) c → c ≡ content_of objects.words t
  one object (array from count) (array from2 count2) (content.Array its) e at op h =
      let froms : from2 ≡ from = cc in
      let counts : count2 ≡ count = cc in
      ap content.Array (array_is from2 count2 its h ∙ ap (λ (n : ℕ). take n (drop from2 objects.words)) counts ∙ ap (λ (n : ℕ). take count (drop n objects.words)) froms)
  one object (keys held) (keys held2) (content.Set its) e at op h =
      ap content.Set (h.keys_are ∙ set_keys held h.pairs (held_by cores object) h.lists (λ q. key_is object (ap is_vector op) q ∙ under_is object q (keys held) at))
  one object (pairs held) (pairs held2) (content.Map its) e at op h =
      ap content.Map (map_pairs held its (held_by cores object) h (λ q. key_is object (ap is_vector op) q ∙ under_is object q (pairs held) at))
  one object (line its) (line its2) (content.Vector ws) e at op h =
      let line_rests : LineRests given.setup.cores (bodies world) object its = rest.lines object its at in
      ap content.Vector (h.words_are ∙ line_words line_rests.first its h.pairs (held_by cores object) h.lists (position_is object its line_rests))
  one object (array from count) (array from2 count2) _ e at op h = absurd h
  one object (keys held) (keys held2) _ e at op h = absurd h
  one object (pairs held) (pairs held2) _ e at op h = absurd h
  one object (line its) (line its2) _ e at op h = absurd h
  one object (array from count) _ c e at op h = absurd (cc)
  one object (keys held) _ c e at op h = absurd (cc)
  one object (pairs held) _ c e at op h = absurd (cc)
  one object (line its) _ c e at op h = absurd (cc)

  later : (n i : ℕ) → (n + 1) + i ≡ n + suc i
  later n i = omega arith

  plus_zero : (n : ℕ) → n ≡ n + 0
  plus_zero n = omega arith

  all : (n : ℕ) (things opens : List Object) (contents : List Content) → ((i : ℕ) → kind_of (slice_get things i) ≡ kind_of (slice_get opens i))
      → ((i : ℕ) → slice_get objects.things (n + i) ≡ slice_get things i) → ((i : ℕ) → thing m (n + i) ≡ slice_get opens i)
      → AreGathered cores n (map shape_of opens) contents → contents ≡ map (content_of objects.words) things
  all n [] [] [] kinds at op h = refl
  all n [] [] (c ∷ cs) kinds at op h = absurd h
  all n [] (o ∷ os) contents kinds at op h = let no : None ≡ Some (emptied o) = kinds 0 in cc
  all n (t ∷ ts) [] contents kinds at op h = let no : Some (emptied t) ≡ None = kinds 0 in cc
  all n (t ∷ ts) (o ∷ os) [] kinds at op h = absurd h
  all n (t ∷ ts) (o ∷ os) (c ∷ cs) kinds at op h =
      let both : Some (emptied t) ≡ Some (emptied o) = kinds 0 in
      let kind : emptied t ≡ emptied o = cc in
      let first : c ≡ content_of objects.words t = one n t o c kind (ap (slice_get objects.things) (plus_zero n) ∙ at 0) (ap (thing m) (plus_zero n) ∙ op 0) h.0 in
      let more : cs ≡ map (content_of objects.words) ts =
      all (n + 1) ts os cs (λ i. kinds (suc i)) (λ i. ap (slice_get objects.things) (later n i) ∙ at (suc i)) (λ i. ap (thing m) (later n i) ∙ op (suc i)) h.1 in
      λ j. first j ∷ more j

pub contents_stand : laws.ContentsStand
contents_stand given cores world objects contents sound order same words rest h = by cores order same h
  where
    zero_plus : (n : ℕ) → 0 + n ≡ n
    zero_plus n = omega arith

    opens : List Object
    opens = (machine_in given).code.objects.things

    by : (xs : List Core) → AreInOrder (machine_in given) xs → HaveBodies xs world → AreGathered xs 0 (map shape_of opens) contents → contents ≡ map (content_of objects.words) objects.things
    by [] order same h = absurd (omega (arith, order.len, sound.cores))
    by (x ∷ xs) order same h =
        all given (x ∷ xs) world objects sound order same words rest x 0 objects.things opens contents words.kinds (λ i. ap (slice_get objects.things) (zero_plus i))
        (λ i. ap (slice_get opens) (zero_plus i)) h
