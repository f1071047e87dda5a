-- The states that are reached, and that in each of them the next action of each task fits.
use Rattle.std.proofs.Common.{◌≡◌, ℕ, true, false, ◌||◌, Bool, List, [], ◌∷◌, ◌++◌, inl, inr, Some, refl, sym, ◌∙◌, ap, subst, bytes_eq, All, codes}
use Rattle.std.specs.Option.{option_and_then}
use Rattle.std.proofs.lemmas.List.Elements.{All-head, All-tail}
use Rattle.std.proofs.lemmas.Slice.Eq.{bytes_eq-Decides}
use Rattle.gr_syntax.specs.declared.syntax.Program.{Program}
use Rattle.gr_syntax.specs.Names.{has, is_name}
use Rattle.gr_lang.specs.declared.action.Action.{Action}
use Rattle.gr_lang.specs.declared.action.Action.TheVariants as a
use Rattle.gr_lang.specs.declared.action.Entry.{Entry}
use Rattle.gr_lang.specs.Next.{look, next, start, go_on}
use Rattle.gr_lang.specs.States.{State, opening_state}
use Rattle.gr_lang.specs.Steps.{step}
use Rattle.gr_lang.specs.Histories.{after}
use Rattle.gr_valid.specs.Valid.{IsTrap, StandsAt}
use Rattle.gr_valid.proofs.Inverts.{by_found}
use Rattle.gr_valid.proofs.States.{histories_valid}
use Rattle.gr_known.proofs.Bodies.{IsSound, sound}
use Rattle.gr_known.proofs.Looks.{AreToDo, next_known, goes_on_known, start_known}
use Rattle.gr_stands.specs.Worlds.{Given, machine_in}
use Rattle.gr_stands.specs.Actions.{ActionFits}
use Rattle.gr_fits.specs.Laws as laws
use Rattle.gr_fits.proofs.Looks.{look_fits}
use Rattle.gr_fits.proofs.Steps.{each_task}

-- ---- histories

-- Entries after entries.
after_more : (p : Program) (N L : ℕ) (S T U : State) (xs ys : List Entry) → after p N L S xs ≡ Some T → after p N L T ys ≡ Some U → after p N L S (xs ++ ys) ≡ Some U
after_more p N L S T U [] ys e f = let same : S ≡ T = cc in subst (λ (V : State). after p N L V ys ≡ Some U) (sym same) f
after_more p N L S T U (x ∷ xs) ys e f =
    let k = by_found (step p N L S x) (λ V. after p N L V xs) T e in
    ap (option_and_then (λ V. after p N L V (xs ++ ys))) k.1 ∙ after_more p N L k.0 T U xs ys k.2 f

pub openings_reached : laws.OpeningsAreReached
openings_reached given = record { history = []; leads = refl }

pub entries_reach : laws.EntriesReach
entries_reach given state next entries reached leads = record {
  history = reached.history ++ entries;
  leads = after_more given.program given.setup.cores given.setup.steps (opening_state given.program given.setup.steps) state next reached.history entries reached.leads leads;
}

pub steps_reach : laws.StepsReach
steps_reach given state next entry reached is_step =
    entries_reach given state next (entry ∷ []) reached (ap (option_and_then (λ (V : State). Some V)) is_step)

pub states_valid : laws.ReachedStatesAreValid
states_valid given state reached = histories_valid given.program given.setup.cores given.setup.steps reached.history state reached.leads

-- ---- actions

trap_fits : (given : Given) (x : Action) → IsTrap x → ActionFits (machine_in given) x
trap_fits given (a.Trap kind) h = tt
trap_fits given (a.Call call) h = absurd h
trap_fits given (a.Spawn way target args) h = absurd h
trap_fits given a.Finish h = absurd h
trap_fits given a.Arrive h = absurd h
trap_fits given (a.Loop lo hi grain target args) h = absurd h
trap_fits given a.End h = absurd h

pub states_fit : laws.ReachedStatesFit
states_fit given state runs reached id task there = by ((states_valid given state reached).tasks id task there).stands
  where
    p : Program
    p = given.program

    N : ℕ
    N = given.setup.cores

    L : ℕ
    L = given.setup.steps

    known : IsSound p
    known = sound p runs.accepted

    seen : AreToDo p task.running.todo
    seen = each_task p N L (λ t. AreToDo p t.todo) (λ target ws. (next_known p L (start p target ws) known (start_known p target ws known)).todo)
        (λ t w h. (next_known p L (go_on t w) known (goes_on_known p t w h)).todo) state reached.history reached.leads id task there

    by : StandsAt p task.running task.action → ActionFits (machine_in given) task.action
    by (inl look) = look_fits given task.running task.action runs.heap seen look
    by (inr trap) = trap_fits given task.action trap

pub slots_fit : laws.SlotsFit
slots_fit given world state core slot task fit stands there told =
    let at = (stands.calls.tasks.slots core slot task there).stands told in
    subst (ActionFits (machine_in given)) at.action (fit task.id at.plain at.there)

-- ---- names

pub named_one_heap : laws.NamedProgramsHaveOneHeap
named_one_heap program named = by _ named
  where
    other : (name : List ℕ) (b : Bool) → bytes_eq (codes "heap") name ≡ b → is_name name ≡ true → b ≡ false
    other name false e h = refl
    other name true e h =
        let same : is_name (codes "heap") ≡ true = ap is_name ((bytes_eq-Decides (codes "heap") name).0 e) ∙ h in
        cc

    neither : (b c : Bool) → b ≡ false → c ≡ false → (b || c) ≡ false
    neither false false e f = refl
    neither false true e f = f
    neither true c e f = cc

    by : (names : List (List ℕ)) → All (λ name. is_name name ≡ true) names → has names (codes "heap") ≡ false
    by [] h = refl
    by (x ∷ xs) h = neither (bytes_eq (codes "heap") x) (has xs (codes "heap")) (other x _ refl (All-head (λ name. is_name name ≡ true) x xs h)) (by xs (All-tail (λ name. is_name name ≡ true) x xs h))
