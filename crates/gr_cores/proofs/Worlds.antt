-- The cores of a world stay those of one run.
use Rattle.std.proofs.Common.{◌≡◌, ◌≢◌, ◌+◌, ◌-◌, ◌<◌, ℕ, List, [], ◌∷◌, length, slice_index_or, ap, ◌∙◌, sym, refl, subst, subst₂, arith, inl, inr}
use Rattle.std.specs.Prelude.{Bool, true, false}
use Rattle.std.specs.List.{SameBelow, ShiftedDown}
use Rattle.std.proofs.lemmas.Bool.{cases_eq, cases_lt}
use Rattle.std.proofs.lemmas.List.{get_or_read}
use Rattle.gr_machine.specs.declared.event.Event.{Event}
use Rattle.gr_machine.specs.Machines.{Machine}
use Rattle.gr_mail.specs.Rings.{SameRings}
use Rattle.gr_mail.proofs.Mails.{joined_still, rings_self}
use Rattle.gr_core.specs.declared.cores.Core.{Core}
use Rattle.gr_core.specs.Cores.{mail_of, run_of}
use Rattle.gr_core.specs.Runs.{Made, MadeOr, Run}
use Rattle.gr_world.specs.Worlds.{AreCores, AreOfOneRun, HaveStayed}
use Rattle.gr_cores.specs.WorldWords.{AreAsBefore, IsOneRun}

pub of_cores : (machine : Machine) (cores : List Core) → AreCores machine cores → IsOneRun cores
of_cores machine cores are default some = subst (λ (given : Machine). AreCores given cores) (sym (are.machine 0 default some)) are

pub one_run : (cores : List Core) → 0 < length cores → IsOneRun cores → AreOfOneRun cores
one_run [] some is = absurd (omega (arith, some))
one_run (core ∷ cores) some is = ((run_of core).seen.machine, is core some)

same_cores : (machine : Machine) (before after : List Core) → AreAsBefore before after → AreCores machine before → AreCores machine after
same_cores machine before after same are = record {
  len = same.len ∙ are.len;
  machine = λ core default within. let there : core < length before = omega (arith, same.len, within) in
      same.machine core default there ∙ are.machine core default there;
  number = λ core default within. let there : core < length before = omega (arith, same.len, within) in
      same.number core default there ∙ are.number core default there;
  joined = λ one other default within too differ. let here : one < length before = omega (arith, same.len, within) in
      let there : other < length before = omega (arith, same.len, too) in
      joined_still _ _ _ _ (same.rings one default here) (same.rings other default there) (are.joined one other default here there differ);
}

pub one_run_still : (before after : List Core) → AreAsBefore before after → IsOneRun before → IsOneRun after
one_run_still before after same is default some =
    let had : 0 < length before = omega (arith, same.len, some) in
    subst (λ (machine : Machine). AreCores machine after) (sym (same.machine 0 default had)) (same_cores _ before after same (is default had))

pub same_stayed : (before after : List Core) → HaveStayed before after → AreAsBefore before after
same_stayed before after stayed = record {
  len = stayed.len;
  machine = λ core default within. ap (λ (run : Run). run.seen.machine) (stayed.runs core default within);
  number = λ core default within. ap (λ (run : Run). run.seen.me) (stayed.runs core default within);
  rings = stayed.rings;
}

-- An event

record IsAsBefore (before after : Core) : Type 0 where
  machine : (run_of after).seen.machine ≡ (run_of before).seen.machine
  number : (run_of after).seen.me ≡ (run_of before).seen.me
  rings : SameRings (mail_of before) (mail_of after)

same_machine : (done : Bool) (before after : Run) (what : Event) → MadeOr before what after done → after.seen.machine ≡ before.seen.machine
same_machine true before after what made = ap (λ (run : Run). run.seen.machine) made.run
same_machine false before after what same = ap (λ (run : Run). run.seen.machine) same

same_number : (done : Bool) (before after : Run) (what : Event) → MadeOr before what after done → after.seen.me ≡ before.seen.me
same_number true before after what made = ap (λ (run : Run). run.seen.me) made.run
same_number false before after what same = ap (λ (run : Run). run.seen.me) same

-- The others are where they were.
elsewhere : {X : Type 0} (before rest after : List X) (at : ℕ) → SameBelow before rest at → ShiftedDown before rest at → SameBelow rest after at
    → ((k : ℕ) (d : X) → at < k → slice_index_or after k d ≡ slice_index_or rest (k - 1) d)
    → (k : ℕ) (d : X) → k ≢ at → slice_index_or after k d ≡ slice_index_or before k d
elsewhere before rest after at below shifted below_after above k d other = elim (cases_lt k at) [
  | inl l ↦ below_after k d l ∙ below k d l
  | inr g ↦
      let far : at < k = omega arith in
      let next : k - 1 + 1 ≡ k = omega arith in
      above k d far ∙ shifted (k - 1) d (omega arith) ∙ ap (λ j. slice_index_or before j d) next
]

unmoved : (before after : Core) → after ≡ before → IsAsBefore before after
unmoved before after same = subst (IsAsBefore before) (sym same) (record { machine = refl; number = refl; rings = rings_self (mail_of before) })

each_same : (before after : List Core) (at : ℕ) → ((d : Core) → IsAsBefore (slice_index_or before at d) (slice_index_or after at d))
    → ((k : ℕ) (d : Core) → k ≢ at → slice_index_or after k d ≡ slice_index_or before k d)
    → (k : ℕ) (d : Core) → IsAsBefore (slice_index_or before k d) (slice_index_or after k d)
each_same before after at here others k d = elim (cases_eq k at) [
  | inl e ↦ subst (λ j. IsAsBefore (slice_index_or before j d) (slice_index_or after j d)) (sym e) (here d)
  | inr n ↦ unmoved _ _ (others k d n)
]

pub stepped_same : (before rest after : List Core) (at : ℕ) (core next : Core) (done : Bool) (what : Event)
    → at < length before → length after ≡ length before
    → SameBelow before rest at → ShiftedDown before rest at → SameBelow rest after at
    → ((d : Core) → slice_index_or after at d ≡ next)
    → ((k : ℕ) (d : Core) → at < k → slice_index_or after k d ≡ slice_index_or rest (k - 1) d)
    → core ≡ slice_index_or before at core → MadeOr (run_of core) what (run_of next) done → SameRings (mail_of core) (mail_of next)
    → AreAsBefore before after
stepped_same before rest after at core next done what within len below shifted below_after at_next above read made rings =
    let here : (d : Core) → IsAsBefore (slice_index_or before at d) (slice_index_or after at d) = λ d.
    subst₂ IsAsBefore (get_or_read before at core within read d) (sym (at_next d)) (record {
      machine = same_machine done (run_of core) (run_of next) what made;
      number = same_number done (run_of core) (run_of next) what made;
      rings = rings;
    }) in
    let each = each_same before after at here (elsewhere before rest after at below shifted below_after above) in
    record {
      len = len;
      machine = λ k d h. (each k d).machine;
      number = λ k d h. (each k d).number;
      rings = λ k d h. (each k d).rings;
    }

-- A meeting

pub one_run_met : (before after : List Core) → HaveStayed before after → IsOneRun before → IsOneRun after
one_run_met before after stayed = one_run_still before after (same_stayed before after stayed)

pub of_cores_met : (machine : Machine) (before after : List Core) → HaveStayed before after → AreCores machine before → IsOneRun after
of_cores_met machine before after stayed are = one_run_met before after stayed (of_cores machine before are)

pub met_run : (before after : List Core) → HaveStayed before after → AreOfOneRun before → AreOfOneRun after
met_run before after stayed are = (are.0, same_cores are.0 before after (same_stayed before after stayed) are.1)
