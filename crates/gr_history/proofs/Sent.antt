-- The batches that have gone off, by the entries of a tree map.
use Rattle.std.proofs.Common.{◌≡◌, ◌≢◌, ℕ, Option, Some, List, [], ap, ◌∙◌, sym, refl, cond, Bool, true, false, ◌==◌, inl, inr, eq-eqb, ne_eqb, if◌then◌else◌}
use Rattle.std.specs.Prelude.{◌&&◌}
use Rattle.std.specs.Borrow.{Bor}
use Rattle.std.proofs.lemmas.Bool.{cases_eq}
use Rattle.std.specs.Cmp.{nat_cmp_is}
use Rattle.std.proofs.lemmas.Map.Lookups.{exact_unsigned}
use Rattle.std.specs.declared.cmp.Ordering.{Ordering}
use Rattle.std.specs.declared.cmp.Ordering.TheVariants.{Less, Equal, Greater}
use mathlib.Core.Path.{fun_ext}
use Rattle.std.specs.Map.{lookup}
use Rattle.std.specs.BTreeMap.{is_at}
use Rattle.std.specs.Ordering.{nat_cmp, is_eq, ordering_then}
use Rattle.gr_lang.specs.declared.action.WaitingCall.{WaitingCall}
use Rattle.gr_view.specs.Places.{put}
use Rattle.gr_view.proofs.Puts.{put_by}
use Rattle.gr_machine.specs.Histories.{Sent}
use Rattle.gr_history.specs.declared.batches.BatchId.{BatchId}
use Rattle.gr_history.specs.HistoryWords.{batch_cmp, calls_in, sent_in}

not_equal : (o : Ordering) → (o ≡ Equal → ⊥) → is_eq o ≡ false
not_equal Less h = refl
not_equal Equal h = absurd (h refl)
not_equal Greater h = refl

both_equal : (o p : Ordering) → is_eq (ordering_then o p) ≡ (is_eq o && is_eq p)
both_equal Less p = refl
both_equal Equal p = refl
both_equal Greater p = refl

equal_at : (a b : ℕ) → is_eq (nat_cmp a b) ≡ (b == a)
equal_at a b = elim (cases_eq b a) [
  | inl e ↦ ap is_eq (sym (nat_cmp_is a b Equal (sym e))) ∙ sym (eq-eqb b a e)
  | inr n ↦ not_equal (nat_cmp a b) (λ e. n (sym (exact_unsigned a b e))) ∙ sym (ne_eqb b a n)
]

test_is : (s q : BatchId) → is_at (batch_cmp s) q ≡ ((q.core == s.core) && (q.number == s.number))
test_is s q = both_equal (nat_cmp s.core q.core) (nat_cmp s.number q.number) ∙ ap (λ x. x && is_eq (nat_cmp s.number q.number)) (equal_at s.core q.core) ∙ ap (λ x. (q.core == s.core) && x) (equal_at s.number q.number)

by_test : (here : Bool) (calls : Bor (List WaitingCall)) (others : Option (Bor (List WaitingCall)))
    → calls_in (cond here (Some calls) others) ≡ (if here then calls.now else calls_in others)
by_test true calls others = refl
by_test false calls others = refl

abbrev found : List (BatchId × Bor (List WaitingCall)) → ℕ → ℕ → Option (Bor (List WaitingCall))
found entries core number = lookup (is_at (batch_cmp (record { core = core; number = number }))) entries

-- What a call does to the entries is a write of the function that they stand for.
pub sent_put : (before after : List (BatchId × Bor (List WaitingCall))) (id : BatchId) (calls : Bor (List WaitingCall))
    → ((other : BatchId) → lookup (is_at (batch_cmp other)) after ≡ cond (is_at (batch_cmp id) other) (Some calls) (lookup (is_at (batch_cmp other)) before))
    → sent_in after ≡ put (sent_in before) id.core (put (sent_in before id.core) id.number calls.now)
unfolding sent_in put
sent_put before after id calls h = put_by (sent_in before) (sent_in after) id.core (put (sent_in before id.core) id.number calls.now) here there
  where
    read : (core number : ℕ) → sent_in after core number ≡ calls_in (cond ((core == id.core) && (number == id.number)) (Some calls) (found before core number))
    read core number = ap calls_in (h (record { core = core; number = number })) ∙ ap (λ b. calls_in (cond b (Some calls) (found before core number))) (test_is id (record { core = core; number = number }))

    here : sent_in after id.core ≡ put (sent_in before id.core) id.number calls.now
    here = fun_ext (λ number. read id.core number ∙ ap (λ b. calls_in (cond (b && (number == id.number)) (Some calls) (found before id.core number))) (eq-eqb id.core id.core refl)
        ∙ by_test (number == id.number) calls (found before id.core number))

    there : (core : ℕ) → core ≢ id.core → sent_in after core ≡ sent_in before core
    there core other = fun_ext (λ number. read core number ∙ ap (λ b. calls_in (cond (b && (number == id.number)) (Some calls) (found before core number))) (ne_eqb core id.core other))

pub sent_is : (entries : List (BatchId × Bor (List WaitingCall))) (id : BatchId) → sent_in entries id.core id.number ≡ calls_in (lookup (is_at (batch_cmp id)) entries)
unfolding sent_in
sent_is entries id = refl

pub sent_none : (entries : List (BatchId × Bor (List WaitingCall))) → entries ≡ [] → ◌≡◌ {A = Sent} (sent_in entries) (λ core number. [])
unfolding sent_in
sent_none entries none = let read : List (BatchId × Bor (List WaitingCall)) → Sent = λ es core number. calls_in (lookup (is_at (batch_cmp (record { core = core; number = number }))) es) in ap read none

pub ruleset at_batches = (sent_put, sent_is, sent_none)
