-- All pairs of cores meet, one after another.
use Rattle.std.proofs.Common.{◌≡◌, ◌≢◌, ◌+◌, ◌<◌, ◌⊎◌, ℕ, List, length, slice_index_or, sym, subst, subst₂, arith, inl, inr}
use Rattle.std.proofs.lemmas.Bool.{cases_eq, cases_lt}
use Rattle.gr_mail.specs.Rings.{HaveMet, owner}
use Rattle.gr_machine.specs.Machines.{Machine}
use Rattle.gr_core.specs.declared.cores.Core.{Core}
use Rattle.gr_core.specs.Cores.{mail_of}
use Rattle.gr_world.specs.MeetingWords.{ComesBefore, HaveMetBefore, TwoHaveMet}
use Rattle.gr_world.specs.Worlds.{AreCores, AreOfOneRun, HaveAllMet}
use Rattle.gr_world.proofs.Mails.{SameAt, met_same, same_looked, same_self}
use Rattle.gr_world.proofs.Stays.{cores_stay, stayed_self, stayed_twice, two_stayed}

-- A meeting of two.
module _ (machine : Machine) (one other : ℕ) (before after : List Core) (two : TwoHaveMet one other before after) (cores : AreCores machine before)
    (one_there : one < length before) (other_there : other < length before) where
  owners_differ : (core third : ℕ) (default : Core) → core < length before → third < length before → core ≢ third
      → owner (mail_of (slice_index_or before core default)) ≢ owner (mail_of (slice_index_or before third default))
  owners_differ core third default within there differ = (cores.joined core third default within there differ).differ

  -- It leaves the rings between a core and a third, where these aren't the two.
  same_after : (core third : ℕ) (default : Core) → core < length before → third < length before → (core ≡ one → third ≢ other) → (core ≡ other → third ≢ one)
      → SameAt (owner (mail_of (slice_index_or before third default))) (mail_of (slice_index_or before core default)) (mail_of (slice_index_or after core default))
  same_after core third default within there not_other not_one = elim (cases_eq core one) [
    | inl e ↦ subst (λ k. SameAt (owner (mail_of (slice_index_or before third default))) (mail_of (slice_index_or before k default)) (mail_of (slice_index_or after k default))) (sym e)
        (same_looked _ _ _ _ (owners_differ third other default there other_there (not_other e)) (two.one_looked default))
    | inr n ↦ elim (cases_eq core other) [
      | inl e ↦ subst (λ k. SameAt (owner (mail_of (slice_index_or before third default))) (mail_of (slice_index_or before k default)) (mail_of (slice_index_or after k default))) (sym e)
          (same_looked _ _ _ _ (owners_differ third one default there one_there (not_one e)) (two.other_looked default))
      | inr m ↦ subst (λ (core_after : Core). SameAt (owner (mail_of (slice_index_or before third default))) (mail_of (slice_index_or before core default)) (mail_of core_after))
          (sym (two.others core default n m)) (same_self _ _)
    ]
  ]

  -- A pair that had met still has, and so have the two.
  met_after : (first second : ℕ) (default : Core) → first < length before → second < length before → (first ≡ one → second ≢ other) → (first ≡ other → second ≢ one)
      → HaveMet (mail_of (slice_index_or before first default)) (mail_of (slice_index_or before second default))
      → HaveMet (mail_of (slice_index_or after first default)) (mail_of (slice_index_or after second default))
  met_after first second default within there not_other not_one met =
      met_same _ _ _ _ (same_after first second default within there not_other not_one)
      (same_after second first default there within (λ e f. not_one f e) (λ e f. not_other f e)) met

-- One pair more has met.
pub met_more : (one other : ℕ) (first before after : List Core) → one < other → other < length first → AreOfOneRun first
    → HaveMetBefore one other first before → TwoHaveMet one other before after → HaveMetBefore (one + 1) other first after
met_more one other first before after order within run met two =
    let len = met.stayed.len in
    let cores : AreCores run.0 before = cores_stay run.0 first before met.stayed run.1 in
    record {
      stayed = stayed_twice first before after met.stayed (two_stayed one other before after two);
      met = λ low high default order_too within_too comes.
          let which : ((low ≡ one) × (high ≡ other)) ⊎ ComesBefore one other low high = elim comes [
            | inl l ↦ inr (inl l)
            | inr r ↦ elim (cases_eq low one) [
              | inl e ↦ inl (e, r.0)
              | inr n ↦ let h = r.1 in inr (inr (r.0, omega arith))
            ]
          ] in
          elim which [
            | inl e ↦ subst₂ (λ j k. HaveMet (mail_of (slice_index_or after j default)) (mail_of (slice_index_or after k default))
                × HaveMet (mail_of (slice_index_or after k default)) (mail_of (slice_index_or after j default))) (sym e.0) (sym e.1) (two.there default, two.back default)
            | inr c ↦
                let old = met.met low high default order_too within_too c in
                let not_other : low ≡ one → high ≡ other → ⊥ = λ e f. elim c [ inl l ↦ absurd (omega arith) | inr r ↦ let h = r.1 in absurd (omega arith) ] in
                let not_one : low ≡ other → high ≡ one → ⊥ = λ e f. absurd (omega arith) in (
                  met_after run.0 one other before after two cores (omega arith) (omega arith) low high default (omega arith) (omega arith) not_other not_one old.0,
                  met_after run.0 one other before after two cores (omega arith) (omega arith) high low default (omega arith) (omega arith)
                      (λ e f. not_one f e) (λ e f. not_other f e) old.1,
                )
          ];
    }

-- All pairs with this second number have met.
pub row_met : (other : ℕ) (first before : List Core) → HaveMetBefore other other first before → HaveMetBefore 0 (other + 1) first before
row_met other first before met = record {
  stayed = met.stayed;
  met = λ low high default order within comes. met.met low high default order within (elim comes [
    | inl l ↦ elim (cases_eq high other) [ inl e ↦ inr (e, omega arith) | inr n ↦ inl (omega arith) ]
    | inr r ↦ let h = r.1 in absurd (omega arith)
  ]);
}

-- None has to have met yet.
pub none_met : (cores : List Core) → HaveMetBefore 0 0 cores cores
none_met cores = record {
  stayed = stayed_self cores;
  met = λ low high default order within comes. elim comes [ inl l ↦ absurd (omega arith) | inr r ↦ let h = r.1 in absurd (omega arith) ];
}

-- All have met.
pub all_met : (count : ℕ) (first cores : List Core) → count ≡ length first → HaveMetBefore 0 count first cores → HaveAllMet cores
all_met count first cores all met one other default within there differ =
    let len = met.stayed.len in
    elim (cases_lt one other) [
      | inl l ↦ (met.met one other default l (omega arith) (inl (omega arith))).0
      | inr g ↦ (met.met other one default (omega arith) (omega arith) (inl (omega arith))).1
    ]
