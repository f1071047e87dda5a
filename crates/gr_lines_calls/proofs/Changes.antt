-- A core after one of its vectors has changed, and maybe tasks that wait on it.
use Rattle.std.proofs.Common.{◌≡◌, ◌≢◌, ℕ, ◌<◌, true, List, ◌∷◌, inl, inr, sym, ◌∙◌, ap, subst, refl, Option, Some, is_some}
use Rattle.std.proofs.lemmas.Bool.{cases_eq}
use Rattle.gr_lang.specs.declared.action.WaitingCall.{WaitingCall}
use Rattle.gr_view.specs.Places.{put}
use Rattle.gr_vector.specs.Turns.{Turns}
use Rattle.gr_net.specs.Sums.{weigh, Each}
use Rattle.gr_machine.specs.declared.waits.Waits.TheVariants as wait
use Rattle.gr_net.proofs.Spreads.{put_same, put_other, put_each}
use Rattle.gr_machine.specs.Machines.{thing}
use Rattle.gr_machine.specs.States.{Vector, Turn, Body}
use Rattle.gr_machine.specs.Openings.{is_vector}
use Rattle.gr_machine.specs.TurnServes.{with_turns, with_vector}
use Rattle.gr_stands.specs.Worlds.{Given, machine_in}
use Rattle.gr_lines.specs.Lines.{on_line, vector_in, tasks_on}
use Rattle.gr_lines.specs.Waiting.{IsWaiting, calls_in, IsGroup, CallsWait, is_kept_at, HasLines}
use Rattle.gr_lines_calls.proofs.Counts.{some_same}

-- A vector of the core has changed, and the tasks that wait on it; no task that waits on another.
pub record ChangesLine (given : Given) (number : ℕ) (before after : Body) (vector : Vector) : Type 0 where
  pub vectors : after.vectors.vectors ≡ put before.vectors.vectors number (Some vector)
  pub masters : after.vectors.masters ≡ before.vectors.masters
  pub others : (other slot : ℕ) → other ≢ number → is_vector (thing (machine_in given) other) ≡ true → on_line other (after.tasks.slots slot) ≡ on_line other (before.tasks.slots slot)
  pub calls : CallsWait number vector (tasks_on number after)

pub has_changed : (given : Given) (me number : ℕ) (before after : Body) (vector : Vector) → ChangesLine given number before after vector
    → is_vector (thing (machine_in given) number) ≡ true → HasLines given me before → HasLines given me after
has_changed given me number before after vector c is old = record {
  vectors = λ n. ap (λ (f : ℕ → Option Vector). is_some (f n)) c.vectors
      ∙ put_each (λ (i : ℕ) (o : Option Vector). is_some o ≡ is_vector (thing (machine_in given) i)) before.vectors.vectors number (Some vector) n
      (λ q. sym is ∙ ap (λ (k : ℕ). is_vector (thing (machine_in given) k)) (sym q)) (λ q. old.vectors n);
  masters = λ n. ap (λ (f : ℕ → Option Turns). is_some (f n)) c.masters ∙ old.masters n;
  askers = λ n turns h. old.askers n turns (ap (λ (f : ℕ → Option Turns). f n) (sym c.masters) ∙ h);
  calls = λ n sure. elim (cases_eq n number) [
    | inl q ↦ subst (λ (k : ℕ). CallsWait k (vector_in (after.vectors.vectors k)) (tasks_on k after)) (sym q)
        (subst (λ (x : Vector). CallsWait number x (tasks_on number after)) (sym here) c.calls)
    | inr ne ↦ subst (λ (x : Vector). CallsWait n x (tasks_on n after)) (sym (there n ne))
        (subst (CallsWait n (vector_in (before.vectors.vectors n))) (λ i slot. sym (c.others n slot ne sure) i) (old.calls n sure))
  ];
}
  where
    here : vector_in (after.vectors.vectors number) ≡ vector
    here = ap (λ (f : ℕ → Option Vector). vector_in (f number)) c.vectors ∙ ap vector_in (put_same before.vectors.vectors number (Some vector))

    there : (n : ℕ) → n ≢ number → vector_in (after.vectors.vectors n) ≡ vector_in (before.vectors.vectors n)
    there n ne = ap (λ (f : ℕ → Option Vector). vector_in (f n)) c.vectors ∙ ap vector_in (put_other before.vectors.vectors number (Some vector) n ne)

-- What a core has is a vector, whose calls wait.
pub is_there : (given : Given) (me number : ℕ) (body : Body) (vector : Vector) → HasLines given me body → body.vectors.vectors number ≡ Some vector → is_vector (thing (machine_in given) number) ≡ true
is_there given me number body vector old there = sym (old.vectors number) ∙ ap is_some there

pub calls_there : (given : Given) (me number : ℕ) (body : Body) (vector : Vector) → HasLines given me body → body.vectors.vectors number ≡ Some vector → CallsWait number vector (tasks_on number body)
calls_there given me number body vector old there =
    subst (λ (o : Option Vector). CallsWait number (vector_in o) (tasks_on number body)) there (old.calls number (is_there given me number body vector old there))

-- The vector has another part or turn: the calls that wait are the same.
module _ (given : Given) (me number : ℕ) (body : Body) (vector : Vector) (old : HasLines given me body) (there : body.vectors.vectors number ≡ Some vector) where
  pub same_calls : (next : Vector) → next.combiner ≡ vector.combiner → next.groups ≡ vector.groups
      → ((turn : Turn) → next.turn ≡ Some turn → (more : List (List WaitingCall)) × (vector.groups ≡ turn.calls ∷ more)) → HasLines given me (with_vector body number next)
  same_calls next combiner groups oldest =
      let w = calls_there given me number body vector old there in
      has_changed given me number body (with_vector body number next) next (record {
        vectors = refl;
        masters = refl;
        others = λ other slot ne sure. refl;
        calls = record {
          combined = subst (Each (IsWaiting (tasks_on number body) number (wait.Close number))) (sym combiner) w.combined;
          grouped = subst (Each (Each (IsWaiting (tasks_on number body) number (wait.Turn number)))) (sym groups) w.grouped;
          made = subst (Each IsGroup) (sym groups) w.made;
          closing = λ slot. ap (calls_in slot) combiner ∙ w.closing slot;
          turning = λ slot. ap (weigh (calls_in slot)) groups ∙ w.turning slot;
          oldest = λ turn h. let o = oldest turn h in (o.0, groups ∙ o.1);
        };
      }) (is_there given me number body vector old there) old

-- The turns of a vector are others, which cores that there are asked for.
pub has_turns : (given : Given) (me number : ℕ) (body : Body) (turns next : Turns) → HasLines given me body → body.vectors.masters number ≡ Some turns
    → Each (λ asker. asker < given.setup.cores) next.cores → HasLines given me (with_turns body number next)
has_turns given me number body turns next old there of_cores = record {
  vectors = old.vectors;
  masters = λ n. put_each (λ (i : ℕ) (o : Option Turns). is_some o ≡ is_kept_at (machine_in given) me i) body.vectors.masters number (Some next) n
      (λ q. sym (ap is_some there) ∙ old.masters number ∙ ap (is_kept_at (machine_in given) me) (sym q)) (λ q. old.masters n);
  askers = λ n x h. put_each (λ (i : ℕ) (o : Option Turns). o ≡ Some x → Each (λ asker. asker < given.setup.cores) x.cores) body.vectors.masters number (Some next) n
      (λ q z. subst (λ (t : Turns). Each (λ asker. asker < given.setup.cores) t.cores) (some_same next x z) of_cores) (λ q z. old.askers n x z) h;
  calls = old.calls;
}
