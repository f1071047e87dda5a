-- Part 1 is kept by an outcome that does what it asks; by one that leaves the words; and by a new word, new blocks.
use Rattle.std.proofs.Common.{◌≡◌, ◌≢◌, ◌⊎◌, ℕ, zero, suc, ◌<◌, List, [], ◌∷◌, length, set, slice_get, slice_set, slice_index, inl, inr, sym, ◌∙◌, ap, subst, refl, arith, Option, Some, None}
use Rattle.std.proofs.lemmas.Bool.{cases_eq}
use Rattle.std.proofs.lemmas.Option.{get_or_from_slice_get, slice_get_within}
use Rattle.gr_lang.specs.Objects.{Objects}
use Rattle.gr_view.specs.Places.{put}
use Rattle.gr_addr.proofs.Dealt.{apart}
use Rattle.gr_net.proofs.Spreads.{put_at, put_other, put_each, put_field}
use Rattle.gr_machine.specs.Machines.{Machine, home, place, numbered_home}
use Rattle.gr_machine.specs.States.{Words, Body}
use Rattle.gr_stands.specs.Worlds.{World, bodies, Moves}
use Rattle.gr_stands.specs.Memory.{under_key, kind_at, SameMemory, WordsStand}
use Rattle.gr_stands.specs.WordActs.{WordsAct, WordsAreKept, WordsStayBehind}
use Rattle.gr_stands.proofs.Worlds.{moved_bodies}

pub words_kept : WordsAreKept
words_kept machine B c b S T a old = record {
  words = λ at. put_each (λ (i : ℕ) (x : Body). home machine at ≡ i → x.words.segment (place machine at) ≡ slice_get T.words at) B c b (home machine at)
      (λ q z. a.words_here at q) (λ q z. old.words at ∙ sym (a.words_away at q)) refl;
  keys = λ object key. put_each (λ (i : ℕ) (x : Body). numbered_home machine key ≡ i → x.words.shards object key ≡ under_key T object key) B c b (numbered_home machine key)
      (λ q z. a.keys_here object key q) (λ q z. old.keys object key ∙ sym (a.keys_away object key q).1) refl;
  elsewhere = λ i object key. put_each (λ (i : ℕ) (x : Body). numbered_home machine key ≢ i → x.words.shards object key ≡ None) B c b i
      (λ q ne. (a.keys_away object key (λ z. ne (z ∙ sym q))).0) (λ q ne. old.elsewhere i object key ne);
  blocks = put_each (λ (i : ℕ) (x : Body). i ≡ 0 → x.words.blocks ≡ T.live) B c b 0 (λ q z. a.blocks_here (sym q)) (λ q z. old.blocks ∙ sym (a.blocks_away (λ p. q (sym p)))) refl;
  kinds = λ object. a.kinds object ∙ old.kinds object;
  heap = a.heap ∙ old.heap;
  count = a.count ∙ old.count;
}

-- What a core's words tell before an outcome.
module _ (machine : Machine) (B : ℕ → Body) (c : ℕ) (S : Objects) (old : WordsStand machine B S) where
  pub word_there : (at : ℕ) → home machine at ≡ c → (B c).words.segment (place machine at) ≡ slice_get S.words at
  word_there at q = ap (λ (i : ℕ). (B i).words.segment (place machine at)) (sym q) ∙ old.words at

  pub key_there : (object key : ℕ) → numbered_home machine key ≡ c → (B c).words.shards object key ≡ under_key S object key
  key_there object key q = ap (λ (i : ℕ). (B i).words.shards object key) (sym q) ∙ old.keys object key

  pub blocks_there : c ≡ 0 → (B c).words.blocks ≡ S.live
  blocks_there q = ap (λ (i : ℕ). (B i).words.blocks) q ∙ old.blocks

  -- The words stay.
  pub words_stay : (W : Words) (T : Objects) → W ≡ (B c).words → SameMemory S T → WordsAct machine c W S T
  words_stay W T e m = record {
    words_here = λ at q. ap (λ (x : Words). x.segment (place machine at)) e ∙ word_there at q ∙ ap (λ (xs : List ℕ). slice_get xs at) (sym m.words);
    words_away = λ at q. ap (λ (xs : List ℕ). slice_get xs at) m.words;
    keys_here = λ object key q. ap (λ (x : Words). x.shards object key) e ∙ key_there object key q ∙ sym (m.keys object key);
    keys_away = λ object key q. (ap (λ (x : Words). x.shards object key) e ∙ old.elsewhere c object key q, m.keys object key);
    blocks_here = λ q. ap (λ (x : Words). x.blocks) e ∙ blocks_there q ∙ sym m.blocks;
    blocks_away = λ q. m.blocks;
    kinds = m.kinds;
    heap = m.heap;
    count = ap length m.words;
  }

pub words_behind : WordsStayBehind
words_behind machine B c b S T e m old = words_kept machine B c b S T (words_stay machine B c S old b.words T e m) old

-- ---- a new word

pub get_set : (xs : List ℕ) (i x : ℕ) → i < length xs → slice_get (slice_set xs i x) i ≡ Some x
get_set [] i x l = absurd (omega (arith, l))
get_set (y ∷ xs) zero x l = refl
get_set (y ∷ xs) (suc i) x l = get_set xs i x (omega (arith, l))

pub get_unset : (xs : List ℕ) (i j x : ℕ) → j ≢ i → slice_get (slice_set xs i x) j ≡ slice_get xs j
get_unset [] i j x ne = refl
get_unset (y ∷ xs) zero zero x ne = absurd (ne refl)
get_unset (y ∷ xs) zero (suc j) x ne = refl
get_unset (y ∷ xs) (suc i) zero x ne = refl
get_unset (y ∷ xs) (suc i) (suc j) x ne = get_unset xs i j x (λ q. ne (ap suc q))

length_set : (xs : List ℕ) (i x : ℕ) → length (slice_set xs i x) ≡ length xs
length_set [] i x = refl
length_set (y ∷ xs) zero x = refl
length_set (y ∷ xs) (suc i) x = omega (arith, length_set xs i x)

module _ (machine : Machine) (B : ℕ → Body) (c : ℕ) (S : Objects) (old : WordsStand machine B S) where
  pub word_put : (at word : ℕ) → 0 < machine.setup.cores → 0 < machine.setup.block → c ≡ home machine at → at < length S.words
      → WordsAct machine c (record (B c).words { segment = put (B c).words.segment (place machine at) (Some word) }) S (record S { words = slice_set S.words at word })
  word_put at word cores block is l = record {
    words_here = λ i q. elim (cases_eq i at) [
      | inl e ↦ put_at (B c).words.segment (place machine at) (Some word) (place machine i) (ap (place machine) e)
          ∙ sym (get_set S.words at word l) ∙ ap (slice_get (slice_set S.words at word)) (sym e)
      | inr ne ↦ put_other (B c).words.segment (place machine at) (Some word) (place machine i) (λ p. ne (apart machine.setup.cores machine.setup.block i at cores block (q ∙ is) p))
          ∙ word_there machine B c S old i q ∙ sym (get_unset S.words at i word ne)
    ];
    words_away = λ i q. get_unset S.words at i word (λ e. q (ap (home machine) e ∙ sym is));
    keys_here = λ object key q. key_there machine B c S old object key q;
    keys_away = λ object key q. (old.elsewhere c object key q, refl);
    blocks_here = λ q. blocks_there machine B c S old q;
    blocks_away = λ q. refl;
    kinds = λ object. refl;
    heap = refl;
    count = length_set S.words at word;
  }

-- ---- a Ship or a Take

pub words_moved : (machine : Machine) (n : ℕ) (w v : World) (S : Objects) → Moves n w v → WordsStand machine (bodies w) S → WordsStand machine (bodies v) S
words_moved machine n w v S m old = subst (λ (X : ℕ → Body). WordsStand machine X S) (sym (moved_bodies n w v m)) old
