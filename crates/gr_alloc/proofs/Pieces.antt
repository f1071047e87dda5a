-- A cut stays one where a piece is cut in two, and where two pieces become one.
use Rattle.std.proofs.Common.{◌≡◌, ◌≢◌, ℕ, ◌+◌, ◌-◌, ◌<◌, List, length, slice_index, sym, ap, ◌∙◌, arith, length-set}
use Rattle.std.specs.Prelude.{slice_set}
use Rattle.std.proofs.lemmas.List.{get_or-set_same, get_or-set_other}
use Rattle.gr_alloc.specs.CutView.{IsCut, AreEnds}

-- what ys says where two places of xs are set
pub record Two (xs ys : List ℕ) (i a j b : ℕ) : Type 0 where
  pub same_length : length ys ≡ length xs
  pub at_first : slice_index ys i ≡ a
  pub at_second : slice_index ys j ≡ b
  pub elsewhere : (k : ℕ) → k ≢ i → k ≢ j → slice_index ys k ≡ slice_index xs k

pub two_set : (xs : List ℕ) (i a j b : ℕ) → i < length xs → j < length xs → i ≢ j → Two xs (slice_set (slice_set xs i a) j b) i a j b
two_set xs i a j b low high apart = record {
  same_length = length-set (slice_set xs i a) j b ∙ length-set xs i a;
  at_first = get_or-set_other (slice_set xs i a) j i b 0 apart ∙ get_or-set_same xs i a 0 low;
  at_second = get_or-set_same (slice_set xs i a) j b 0 (omega (arith, length-set xs i a));
  elsewhere = λ k not_first not_second. get_or-set_other (slice_set xs i a) j k b 0 not_second ∙ get_or-set_other xs i k a 0 not_first;
}

pub split_cut : (xs ys : List ℕ) (o c s : ℕ) → IsCut xs → slice_index xs o ≡ s → 0 < c → c < s → Two xs ys o c (o + c) (s - c) → IsCut ys
split_cut xs ys o c s cut size some fewer two = record {
  few = omega (arith, cut.few, two.same_length);
  begins = λ h. grind (arith, two.elsewhere 0, two.at_first, two.at_second, two.same_length, cut.begins);
  within = λ at h. grind (arith, two.elsewhere at, two.at_first, two.at_second, two.same_length, cut.within at, cut.within o);
  alone = λ at k low high. grind (arith, two.elsewhere at, two.elsewhere k, two.at_first, two.at_second, cut.alone at k, cut.alone at o, cut.alone o k, cut.alone o at, size);
  goes_on = λ at h more. grind (arith, two.elsewhere at, two.elsewhere (at + slice_index ys at), two.at_first, two.at_second, two.same_length, cut.goes_on at, cut.goes_on o, cut.alone at o, cut.alone o at, size);
}

pub split_ends : (xs ys es fs : List ℕ) (o c s : ℕ) → IsCut xs → AreEnds xs es → slice_index xs o ≡ s → 0 < c → c < s → Two xs ys o c (o + c) (s - c) → Two es fs (o + c) c (o + s) (s - c) → AreEnds ys fs
split_ends xs ys es fs o c s cut ends size some fewer two ends_two = record {
  whole = ends_two.same_length ∙ ends.whole ∙ ap (λ n. n + 1) (sym two.same_length);
  ended = λ at h. grind (arith, two.elsewhere at, ends_two.elsewhere (at + slice_index ys at), two.at_first, two.at_second, ends_two.at_first, ends_two.at_second, ends.ended at, cut.alone at o, cut.alone o at, size);
  begun = λ at n h is. grind (arith, two.elsewhere at, ends_two.elsewhere (at + n), two.at_first, two.at_second, ends_two.at_first, ends_two.at_second, ends.begun at n, cut.alone o (o + c), size);
  after = λ end. grind (arith, ends_two.elsewhere end, ends_two.at_first, ends_two.at_second, ends.after end);
}

pub join_cut : (xs ys : List ℕ) (o s t : ℕ) → IsCut xs → slice_index xs o ≡ s → slice_index xs (o + s) ≡ t → 0 < s → 0 < t → Two xs ys o (s + t) (o + s) 0 → IsCut ys
join_cut xs ys o s t cut size next some more two = record {
  few = omega (arith, cut.few, two.same_length);
  begins = λ h. grind (arith, two.elsewhere 0, two.at_first, two.at_second, two.same_length, cut.begins);
  within = λ at h. grind (arith, two.elsewhere at, two.at_first, two.at_second, two.same_length, cut.within at, cut.within (o + s), size, next);
  alone = λ at k low high. grind (arith, two.elsewhere at, two.elsewhere k, two.at_first, two.at_second, cut.alone at k, cut.alone o k, cut.alone (o + s) k, cut.alone at o, size, next);
  goes_on = λ at h others. grind (arith, two.elsewhere at, two.elsewhere (at + slice_index ys at), two.at_first, two.at_second, two.same_length, cut.goes_on at, cut.goes_on (o + s), cut.alone at o, cut.alone o at, size, next);
}

pub join_ends : (xs ys es fs : List ℕ) (o s t : ℕ) → IsCut xs → AreEnds xs es → slice_index xs o ≡ s → slice_index xs (o + s) ≡ t → 0 < s → 0 < t → Two xs ys o (s + t) (o + s) 0 → Two es fs (o + s) 0 (o + (s + t)) (s + t) → AreEnds ys fs
join_ends xs ys es fs o s t cut ends size next some more two ends_two = record {
  whole = ends_two.same_length ∙ ends.whole ∙ ap (λ n. n + 1) (sym two.same_length);
  ended = λ at h. grind (arith, two.elsewhere at, ends_two.elsewhere (at + slice_index ys at), two.at_first, two.at_second, ends_two.at_first, ends_two.at_second, ends.ended at, cut.alone at o, cut.alone o at, cut.alone (o + s) at, size, next);
  begun = λ at n h is. grind (arith, two.elsewhere at, ends_two.elsewhere (at + n), two.at_first, two.at_second, ends_two.at_first, ends_two.at_second, ends.begun at n, ends.ended o, ends.ended (o + s), size, next);
  after = λ end. grind (arith, ends_two.elsewhere end, ends_two.at_first, ends_two.at_second, ends.after end);
}

-- a piece starts in the words
pub place_inside : (xs : List ℕ) (o : ℕ) → IsCut xs → 0 < slice_index xs o → o < length xs
place_inside xs o cut some = omega (arith, cut.within o some)
