-- Cores that have stayed but for what is known of their rings.
use Rattle.std.proofs.Common.{◌≡◌, ◌<◌, ◌++◌, ℕ, List, length, slice_index_or, ap, ◌∙◌, sym, refl, subst, arith, inl, inr}
use Rattle.std.proofs.lemmas.Bool.{cases_eq}
use mathlib.Core.List.{IsPrefix}
use Rattle.gr_machine.specs.Machines.{Machine}
use Rattle.gr_mail.specs.Rings.{LookedAt, SameRings, known_from, received_from}
use Rattle.gr_mail.proofs.Ends.{prefix_self}
use Rattle.gr_mail.proofs.Mails.{joined_still, rings_self, rings_twice}
use Rattle.gr_core.specs.declared.cores.Core.{Core}
use Rattle.gr_core.specs.Cores.{mail_of, run_of}
use Rattle.gr_core.specs.Runs.{Run}
use Rattle.gr_world.specs.MeetingWords.{TwoHaveMet}
use Rattle.gr_world.specs.Worlds.{AreCores, HaveStayed}
use Rattle.gr_world.proofs.Mails.{kept_looked, prefix_twice}

pub stayed_self : (cores : List Core) → HaveStayed cores cores
stayed_self cores = record {
  len = refl;
  runs = λ core default within. refl;
  rings = λ core default within. rings_self (mail_of (slice_index_or cores core default));
  kept = λ core other default within. prefix_self _;
}

pub stayed_twice : (first second third : List Core) → HaveStayed first second → HaveStayed second third → HaveStayed first third
stayed_twice first second third s t = record {
  len = t.len ∙ s.len;
  runs = λ core default within. t.runs core default (omega (arith, s.len, within)) ∙ s.runs core default within;
  rings = λ core default within. rings_twice _ _ _ (s.rings core default within) (t.rings core default (omega (arith, s.len, within)));
  kept = λ core other default within. prefix_twice _ _ _ (s.kept core other default within) (t.kept core other default (omega (arith, s.len, within)));
}

-- Cores of one run are that still.
pub cores_stay : (machine : Machine) (before after : List Core) → HaveStayed before after → AreCores machine before → AreCores machine after
cores_stay machine before after stayed cores = record {
  len = stayed.len ∙ cores.len;
  machine = λ core default within. let there : core < length before = omega (arith, stayed.len, within) in
      ap (λ (run : Run). run.seen.machine) (stayed.runs core default there) ∙ cores.machine core default there;
  number = λ core default within. let there : core < length before = omega (arith, stayed.len, within) in
      ap (λ (run : Run). run.seen.me) (stayed.runs core default there) ∙ cores.number core default there;
  joined = λ one other default within too differ. let here : one < length before = omega (arith, stayed.len, within) in
      let there : other < length before = omega (arith, stayed.len, too) in
      joined_still _ _ _ _ (stayed.rings one default here) (stayed.rings other default there) (cores.joined one other default here there differ);
}

-- What became of a core by a meeting of two.
record HasStayed (before after : Core) : Type 0 where
  run : run_of after ≡ run_of before
  rings : SameRings (mail_of before) (mail_of after)
  kept : (other : ℕ) → IsPrefix (received_from (mail_of before) other ++ known_from (mail_of before) other) (received_from (mail_of after) other ++ known_from (mail_of after) other)

looked_stayed : (there : ℕ) (before after : Core) → run_of after ≡ run_of before → LookedAt there (mail_of before) (mail_of after) → HasStayed before after
looked_stayed there before after same looked = record { run = same; rings = looked.rings; kept = λ other. kept_looked there other (mail_of before) (mail_of after) looked }

same_stayed : (before after : Core) → after ≡ before → HasStayed before after
same_stayed before after same = subst (HasStayed before) (sym same) (record { run = refl; rings = rings_self (mail_of before); kept = λ other. prefix_self _ })

each_stayed : (one other : ℕ) (before after : List Core) → TwoHaveMet one other before after → (core : ℕ) (default : Core)
    → HasStayed (slice_index_or before core default) (slice_index_or after core default)
each_stayed one other before after two core default = elim (cases_eq core one) [
  | inl e ↦ subst (λ k. HasStayed (slice_index_or before k default) (slice_index_or after k default)) (sym e)
      (looked_stayed _ _ _ (two.one_run default) (two.one_looked default))
  | inr n ↦ elim (cases_eq core other) [
    | inl e ↦ subst (λ k. HasStayed (slice_index_or before k default) (slice_index_or after k default)) (sym e)
        (looked_stayed _ _ _ (two.other_run default) (two.other_looked default))
    | inr m ↦ same_stayed _ _ (two.others core default n m)
  ]
]

pub two_stayed : (one other : ℕ) (before after : List Core) → TwoHaveMet one other before after → HaveStayed before after
two_stayed one other before after two = record {
  len = two.len;
  runs = λ core default within. (each_stayed one other before after two core default).run;
  rings = λ core default within. (each_stayed one other before after two core default).rings;
  kept = λ core to default within. (each_stayed one other before after two core default).kept to;
}
