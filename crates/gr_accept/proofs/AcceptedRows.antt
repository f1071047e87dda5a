-- The worked programs, tried on the definitions by computing.
use Rattle.std.proofs.Common.{◌≡◌, zero, suc, List, [], ◌∷◌, rules, true, false, refl, sym, subst, arith, Contains}
use Rattle.std.specs.List.{All}
use Rattle.gr_syntax.specs.declared.syntax.Stmt.{the_lemmas}
use Rattle.gr_syntax.specs.declared.syntax.Expr.{the_lemmas as expr_lemmas}
use Rattle.gr_syntax.specs.declared.refusal.Kind.TheVariants as k
use Rattle.gr_syntax.specs.declared.refusal.Fault.{Fault}
use Rattle.gr_syntax.specs.Faults.{fault, comes_before, IsFirst}
use Rattle.gr_accept.specs.Accepted.{faults, IsAccepted}
use Rattle.gr_syntax.specs.Targets.{targets_fit, stmt_fits}
use Rattle.gr_accept.specs.Walks.{stmt, expr_sites}
use Rattle.gr_accept.specs.Conditions.{faults_at}
use Rattle.gr_accept.specs.AcceptedRows as row
use Rattle.gr_accept.specs.AcceptedRows.{at}

prints-fits : targets_fit row.prints ≡ true
unfolding stmt_fits
prints-fits = search (rules, the_lemmas)

prints-faults : faults row.prints ≡ []
unfolding stmt expr_sites faults_at
prints-faults = search (rules, the_lemmas, expr_lemmas)

pub prints-accepted : IsAccepted row.prints
prints-accepted = record { fit = prints-fits; no_faults = prints-faults }

uses_all_kinds-fits : targets_fit row.uses_all_kinds ≡ true
unfolding stmt_fits
uses_all_kinds-fits = search (rules, the_lemmas)

uses_all_kinds-faults : faults row.uses_all_kinds ≡ []
unfolding stmt expr_sites faults_at
uses_all_kinds-faults = search (rules, the_lemmas, expr_lemmas)

pub uses_all_kinds-accepted : IsAccepted row.uses_all_kinds
uses_all_kinds-accepted = record { fit = uses_all_kinds-fits; no_faults = uses_all_kinds-faults }

pub unbound-faults : faults row.unbound ≡ fault k.Unknown (at 21) ∷ []
unfolding stmt expr_sites faults_at
unbound-faults = search (rules, the_lemmas, expr_lemmas)

pub main_with_parameter-faults : faults row.main_with_parameter ≡ fault k.MainHasParams (at 11) ∷ []
unfolding stmt expr_sites faults_at
main_with_parameter-faults = search (rules, the_lemmas, expr_lemmas)

pub empty-faults : faults row.empty ≡ fault k.NoMain (at 1) ∷ []
unfolding stmt expr_sites faults_at
empty-faults = search (rules, the_lemmas, expr_lemmas)

pub own_right_side-faults : faults row.own_right_side ≡ fault k.Unknown (at 23) ∷ []
unfolding stmt expr_sites faults_at
own_right_side-faults = search (rules, the_lemmas, expr_lemmas)

pub sibling_block-faults : faults row.sibling_block ≡ fault k.Unknown (at 48) ∷ []
unfolding stmt expr_sites faults_at
sibling_block-faults = search (rules, the_lemmas, expr_lemmas)

pub after_block-faults : faults row.after_block ≡ fault k.Unknown (at 41) ∷ []
unfolding stmt expr_sites faults_at
after_block-faults = search (rules, the_lemmas, expr_lemmas)

pub name_in_two_blocks-faults : faults row.name_in_two_blocks ≡ fault k.Duplicate (at 46) ∷ []
unfolding stmt expr_sites faults_at
name_in_two_blocks-faults = search (rules, the_lemmas, expr_lemmas)

pub second_heap-faults : faults row.second_heap ≡ fault k.Duplicate (at 14) ∷ []
unfolding stmt expr_sites faults_at
second_heap-faults = search (rules, the_lemmas, expr_lemmas)

pub not_of_its_kind-faults : faults row.not_of_its_kind ≡ fault k.WrongKind (at 24) ∷ []
unfolding stmt expr_sites faults_at
not_of_its_kind-faults = search (rules, the_lemmas, expr_lemmas)

pub task_for_object-faults : faults row.task_for_object ≡ fault k.WrongKind (at 15) ∷ []
unfolding stmt expr_sites faults_at
task_for_object-faults = search (rules, the_lemmas, expr_lemmas)

pub argument_missing-faults : faults row.argument_missing ≡ fault k.WrongArity (at 24) ∷ []
unfolding stmt expr_sites faults_at
argument_missing-faults = search (rules, the_lemmas, expr_lemmas)

pub target_too_many-faults : faults row.target_too_many ≡ fault k.WrongArity (at 26) ∷ []
unfolding stmt expr_sites faults_at
target_too_many-faults = search (rules, the_lemmas, expr_lemmas)

pub nine_parameters-faults : faults row.nine_parameters ≡ fault k.TooMany (at 32) ∷ []
unfolding stmt expr_sites faults_at
nine_parameters-faults = search (rules, the_lemmas, expr_lemmas)

pub one_word_too_many-faults : faults row.one_word_too_many ≡ fault k.HeapTooLarge (at 25) ∷ []
unfolding stmt expr_sites faults_at
one_word_too_many-faults = search (rules, the_lemmas, expr_lemmas)

pub numbers_past_end-faults : faults row.numbers_past_end ≡ fault k.InputTooLong (at 26) ∷ []
unfolding stmt expr_sites faults_at
numbers_past_end-faults = search (rules, the_lemmas, expr_lemmas)

pub input_of_no_array-faults : faults row.input_of_no_array ≡ fault k.InputUnknown (at 14) ∷ []
unfolding stmt expr_sites faults_at
input_of_no_array-faults = search (rules, the_lemmas, expr_lemmas)

pub use_first-faults : faults row.use_first ≡ fault k.Duplicate (at 30) ∷ fault k.Unknown (at 21) ∷ []
unfolding stmt expr_sites faults_at
use_first-faults = search (rules, the_lemmas, expr_lemmas)

pub head_first-faults : faults row.head_first ≡ fault k.Duplicate (at 12) ∷ fault k.Unknown (at 35) ∷ []
unfolding stmt expr_sites faults_at
head_first-faults = search (rules, the_lemmas, expr_lemmas)

-- Of two faults of which the second doesn't come before the first, the first is the one that is reported; and so, where
-- the first doesn't come before the second, is the second.
two : (f g x : Fault) (fs : List Fault) → fs ≡ f ∷ g ∷ [] → Contains (f ∷ g ∷ []) x → comes_before f x ≡ false → comes_before g x ≡ false → IsFirst x fs
two f g x fs e among a b = subst (IsFirst x) (sym e) (record { among = among; first = by })
  where
    by : All (λ y. comes_before y x ≡ false) (f ∷ g ∷ [])
    by zero d h = a
    by (suc zero) d h = b
    by (suc (suc n)) d h = absurd (omega arith)

pub use_first-first : IsFirst (fault k.Unknown (at 21)) (faults row.use_first)
use_first-first = two (fault k.Duplicate (at 30)) (fault k.Unknown (at 21)) _ _ use_first-faults (1, omega arith, refl) refl refl

pub head_first-first : IsFirst (fault k.Duplicate (at 12)) (faults row.head_first)
head_first-first = two (fault k.Duplicate (at 12)) (fault k.Unknown (at 35)) _ _ head_first-faults (0, omega arith, refl) refl refl
