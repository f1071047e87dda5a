-- Two cores that meet, one of which is taken out and put back.
use Rattle.std.proofs.Common.{◌≡◌, ◌≢◌, ◌+◌, ◌-◌, ◌<◌, ℕ, List, length, slice_index_or, slice_set, ap, ◌∙◌, sym, subst₂, arith, inl, inr, get_or-set_same}
use Rattle.std.specs.List.{SameBelow, ShiftedDown}
use Rattle.std.proofs.lemmas.Bool.{cases_lt}
use Rattle.std.proofs.lemmas.List.{get_or-set_other, get_or_read}
use Rattle.gr_mail.specs.Rings.{HaveMet, LookedAt, owner}
use Rattle.gr_core.specs.declared.cores.Core.{Core}
use Rattle.gr_core.specs.Cores.{mail_of, run_of}
use Rattle.gr_world.specs.MeetingWords.{TwoHaveMet}

-- The others are where they were.
elsewhere : {X : Type 0} (before rest after : List X) (one other : ℕ) (x : X) → one < other → SameBelow before rest other → ShiftedDown before rest other
    → SameBelow (slice_set rest one x) after other → ((k : ℕ) (d : X) → other < k → slice_index_or after k d ≡ slice_index_or (slice_set rest one x) (k - 1) d)
    → (k : ℕ) (d : X) → k ≢ one → k ≢ other → slice_index_or after k d ≡ slice_index_or before k d
elsewhere before rest after one other x order below shifted below_after above k d not_one not_other = elim (cases_lt k other) [
  | inl l ↦ below_after k d l ∙ get_or-set_other rest one k x d not_one ∙ below k d l
  | inr g ↦
      let far : other < k = omega arith in
      let next : k - 1 + 1 ≡ k = omega arith in
      above k d far ∙ get_or-set_other rest one (k - 1) x d (λ e. absurd (omega arith)) ∙ shifted (k - 1) d (omega arith) ∙ ap (λ j. slice_index_or before j d) next
]

-- What the meeting of two says, where one was read among the rest and the other was taken out.
pub two_met : (before rest after : List Core) (one other : ℕ) (first second first_after second_after : Core)
    → one < other → other < length before → length rest + 1 ≡ length before → length after ≡ length before
    → SameBelow before rest other → ShiftedDown before rest other → SameBelow (slice_set rest one first_after) after other
    → ((d : Core) → slice_index_or after other d ≡ second_after)
    → ((k : ℕ) (d : Core) → other < k → slice_index_or after k d ≡ slice_index_or (slice_set rest one first_after) (k - 1) d)
    → first ≡ slice_index_or rest one first → second ≡ slice_index_or before other second → run_of first_after ≡ run_of first → run_of second_after ≡ run_of second
    → LookedAt (owner (mail_of second)) (mail_of first) (mail_of first_after) → LookedAt (owner (mail_of first)) (mail_of second) (mail_of second_after)
    → HaveMet (mail_of first_after) (mail_of second_after) → HaveMet (mail_of second_after) (mail_of first_after)
    → TwoHaveMet one other before after
two_met before rest after one other first second first_after second_after order within fewer len below shifted below_after at_other above one_read other_read one_run other_run one_looked other_looked there back =
    let in_rest : one < length rest = omega arith in
    let is_one : (d : Core) → slice_index_or before one d ≡ first = λ d. sym (below one d order) ∙ sym (get_or_read rest one first in_rest one_read d) in
    let is_other : (d : Core) → slice_index_or before other d ≡ second = λ d. sym (get_or_read before other second within other_read d) in
    let now_one : (d : Core) → slice_index_or after one d ≡ first_after = λ d. below_after one d order ∙ get_or-set_same rest one first_after d in_rest in
    record {
      len = len;
      others = elsewhere before rest after one other first_after order below shifted below_after above;
      one_run = λ d. ap run_of (now_one d) ∙ one_run ∙ ap run_of (sym (is_one d));
      other_run = λ d. ap run_of (at_other d) ∙ other_run ∙ ap run_of (sym (is_other d));
      one_looked = λ d. rw (is_one d, is_other d, now_one d) one_looked;
      other_looked = λ d. rw (is_one d, is_other d, at_other d) other_looked;
      there = λ d. subst₂ (λ x y. HaveMet (mail_of x) (mail_of y)) (sym (now_one d)) (sym (at_other d)) there;
      back = λ d. subst₂ (λ x y. HaveMet (mail_of y) (mail_of x)) (sym (now_one d)) (sym (at_other d)) back;
    }
