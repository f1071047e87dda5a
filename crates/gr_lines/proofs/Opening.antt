-- Before its first step the machine has the part: no call waits.
use Rattle.std.proofs.Common.{◌≡◌, ◌≢◌, ℕ, ◌<◌, ◌==◌, Bool, true, false, if◌then◌else◌, inl, inr, sym, ap, subst, refl, arith, Option, Some, None, is_some}
use Rattle.std.proofs.lemmas.Bool.{cases_eq}
use Rattle.std.proofs.lemmas.Bool.Decides.{nat_tests}
use Rattle.gr_vector.specs.Turns.{Turns}
use Rattle.gr_vector.specs.Laws.{no_turns}
use Rattle.gr_net.specs.Sums.{Each}
use Rattle.gr_net.proofs.Spreads.{put_each}
use Rattle.gr_machine.specs.Machines.{Machine, thing}
use Rattle.gr_machine.specs.States.{Suspended, Tasks, Scopes, Vector, Turn, Body}
use Rattle.gr_machine.specs.States as states
use Rattle.gr_machine.specs.Openings.{is_vector, empty_vector, opening_body, first_tasks, first_scopes, no_tasks, no_scopes, unused, main_task}
use Rattle.gr_machine.specs.GlobalRuns.{opening_world}
use Rattle.gr_machine.specs.Nets.{world_in}
use Rattle.gr_stands.specs.Worlds.{Given, machine_in, bodies}
use Rattle.gr_lines.specs.Lines.{on_line, vector_in}
use Rattle.gr_lines.specs.Waiting.{CallsWait, is_kept_at, HasLines}
use Rattle.gr_lines.specs.Laws as laws

is_some_if : {X : Type 0} (b : Bool) (x : X) → is_some (if b then Some x else None) ≡ b
is_some_if true x = refl
is_some_if false x = refl

empty_if : (b : Bool) → vector_in (if b then Some empty_vector else None) ≡ empty_vector
empty_if true = refl
empty_if false = refl

askers_if : (n : ℕ) (b : Bool) (turns : Turns) → (if b then Some no_turns else None) ≡ Some turns → Each (λ asker. asker < n) turns.cores
askers_if n true turns h = subst (λ (t : Turns). Each (λ asker. asker < n) t.cores) (same turns h) tt
  where
    same : (turns : Turns) → Some no_turns ≡ Some turns → no_turns ≡ turns
    same turns h = cc
askers_if n false turns h = absurd (cc)

none_some : {X : Type 0} (x : X) → None ≡ Some x → ⊥
none_some x h = cc

quiet_calls : (number : ℕ) → CallsWait number empty_vector (λ slot. None)
quiet_calls number = record {
  combined = tt;
  grouped = tt;
  made = tt;
  closing = λ slot. refl;
  turning = λ slot. refl;
  oldest = λ turn h. absurd (none_some turn h);
}

opened : (given : Given) (core : ℕ) (tasks : Tasks) (scopes : Scopes) → ((number slot : ℕ) → on_line number (tasks.slots slot) ≡ None)
    → HasLines given core (opening_body (machine_in given) core tasks scopes)
opened given core tasks scopes off = record {
  vectors = λ number. is_some_if (is_vector (thing (machine_in given) number)) empty_vector;
  masters = λ number. is_some_if (is_kept_at (machine_in given) core number) no_turns;
  askers = λ number turns h. askers_if given.setup.cores (is_kept_at (machine_in given) core number) turns h;
  calls = λ number is. subst (λ (x : Vector). CallsWait number x (λ slot. on_line number (tasks.slots slot))) (sym (empty_if (is_vector (thing (machine_in given) number))))
      (subst (CallsWait number empty_vector) (λ i slot. sym (off number slot) i) (quiet_calls number));
}

pub openings_have_lines : laws.OpeningsHaveLines
openings_have_lines given slot core = elim (cases_eq core 0) [
  | inl e ↦ subst (λ (i : ℕ). HasLines given i (bodies (world_in (opening_world machine slot)) i)) (sym e) (opened given 0 (first_tasks machine slot) first_scopes main_off)
  | inr e ↦ subst (λ (x : states.Core). HasLines given core x.body) (ap (λ (b : Bool). if b then unused zeroth else unused another) (sym (unequal core 0 e))) (opened given core no_tasks no_scopes (λ number slot. refl))
]
  where
    machine : Machine
    machine = machine_in given

    zeroth : Body
    zeroth = opening_body machine 0 (first_tasks machine slot) first_scopes

    another : Body
    another = opening_body machine core no_tasks no_scopes

    main_off : (number other : ℕ) → on_line number ((first_tasks machine slot).slots other) ≡ None
    main_off number other = put_each (λ (i : ℕ) (o : Option Suspended). on_line number o ≡ None) (λ k. None) slot (Some (main_task machine)) other (λ q. refl) (λ q. refl)

    unequal : (a b : ℕ) → a ≢ b → (a == b) ≡ false
    unequal a b ne = grind (arith, nat_tests)
