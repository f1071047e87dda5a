-- A front of a legal history is legal, nothing follows the end of all work, and a complete history holds no trap.
use Rattle.std.proofs.Common.{◌≡◌, ℕ, zero, suc, List, [], ◌∷◌, ◌++◌, true, false, ◌⊎◌, inl, inr, Option, Some, None, is_some, refl, sym, ap, ◌∙◌, subst}
use Rattle.std.specs.List.{list_any}
use Rattle.std.specs.Option.{option_and_then, option_map_or}
use Rattle.std.specs.FinMap.{get}
use Rattle.gr_syntax.specs.declared.syntax.Program.{Program}
use Rattle.gr_lang.specs.declared.action.Entry.{Entry}
use Rattle.gr_lang.specs.declared.action.Entry.TheVariants as e
use Rattle.gr_lang.specs.declared.action.TaskId.{TaskId}
use Rattle.gr_lang.specs.States.{trapped, ended, Task, State, root, opening_state}
use Rattle.gr_lang.specs.Steps.{step, if_going, trap_step}
use Rattle.gr_lang.specs.Histories.{after}
use Rattle.gr_valid.specs.Valid.{IsValid}
use Rattle.gr_valid.specs.Ends.{FrontsAreLegal, NothingFollowsOver, CompleteIsUntrapped, is_trap}
use Rattle.gr_valid.proofs.Ended.{HaveEnded, have_ended, no_step}
use Rattle.gr_valid.proofs.Inverts.{by_found, by_going, tells_when}
use Rattle.gr_valid.proofs.Lasts.{Rooted, Lasts, AllEnds, Traps, traps, step_lasts}
use Rattle.gr_valid.proofs.Maps.{get_same}
use Rattle.gr_valid.proofs.States.{opens_valid, steps_valid}

-- ---- fronts

after_front : (p : Program) (N L : ℕ) (S : State) (xs ys : List Entry) → is_some (after p N L S (xs ++ ys)) ≡ true → is_some (after p N L S xs) ≡ true
after_front p N L S [] ys h = refl
after_front p N L S (x ∷ xs) ys h = by (step p N L S x) (λ T. after_front p N L T xs ys) h
  where
    by : (o : Option State) → ((T : State) → is_some (after p N L T (xs ++ ys)) ≡ true → is_some (after p N L T xs) ≡ true)
        → is_some (option_and_then (λ T. after p N L T (xs ++ ys)) o) ≡ true → is_some (option_and_then (λ T. after p N L T xs) o) ≡ true
    by None f k = cc
    by (Some T) f k = f T k

pub fronts_legal : FrontsAreLegal
fronts_legal p N L front back h = after_front p N L (opening_state p L) front back h

-- ---- what holds of each state of a run

-- The state is valid, each scope stands under the root, and where the root is passed each task has ended.
record Settles (p : Program) (S : State) : Type 0 where
  pub valid : IsValid p S
  pub rooted : Rooted S.scopes
  pub ended : S.passed ≡ true → HaveEnded S

root_rooted : Rooted (root ∷ [])
root_rooted zero x h = inl refl
root_rooted (suc r) x h = cc

opens_settled : (p : Program) (L : ℕ) → Settles p (opening_state p L)
opens_settled p L = record { valid = opens_valid p L; rooted = root_rooted; ended = λ e. cc }

same_ended : (S T : State) → record S { passed = true } ≡ T → HaveEnded S → HaveEnded T
same_ended S T e h = subst HaveEnded e h

step_settled : (p : Program) (N L : ℕ) (S T : State) (x : Entry) → Settles p S → step p N L S x ≡ Some T → Settles p T
step_settled p N L S T x s h = by (step_lasts p N L S T x s.valid h)
  where
    by : Lasts S T ⊎ AllEnds S T → Settles p T
    by (inl l) = record {
      valid = steps_valid p N L S T x s.valid h;
      rooted = l.rooted s.rooted;
      ended = λ b. absurd (no_step p N L S T x (sym l.passed ∙ b) (s.ended (sym l.passed ∙ b)) h);
    }
    by (inr a) = record {
      valid = steps_valid p N L S T x s.valid h;
      rooted = subst (λ (U : State). Rooted U.scopes) a.after s.rooted;
      ended = λ b. same_ended S T a.after (have_ended p S s.valid s.rooted a.none);
    }

-- ---- nothing follows the end of all work

over_passes : (p : Program) (N L : ℕ) (S T : State) → Settles p S → step p N L S e.Over ≡ Some T → T.passed ≡ true
over_passes p N L S T s h = sym (ap (λ (U : State). U.passed) (tells_when _ _ T h).1)

follows : (p : Program) (N L : ℕ) (S : State) (xs ys : List Entry) → Settles p S → is_some (after p N L S (xs ++ (e.Over ∷ ys))) ≡ true → ys ≡ []
follows p N L S [] ys s h = by (step p N L S e.Over) refl ys h
  where
    ends : (T : State) (ys : List Entry) → step p N L S e.Over ≡ Some T → is_some (after p N L T ys) ≡ true → ys ≡ []
    ends T [] k h = refl
    ends T (y ∷ ys) k h = no (step p N L T y) refl h
      where
        t : Settles p T
        t = step_settled p N L S T e.Over s k

        no : (o : Option State) → step p N L T y ≡ o → is_some (option_and_then (λ U. after p N L U ys) o) ≡ true → y ∷ ys ≡ []
        no None q h = cc
        no (Some U) q h = absurd (no_step p N L T U y (over_passes p N L S T s k) (t.ended (over_passes p N L S T s k)) q)

    by : (o : Option State) → step p N L S e.Over ≡ o → (ys : List Entry) → is_some (option_and_then (λ T. after p N L T ys) o) ≡ true → ys ≡ []
    by None k ys h = cc
    by (Some T) k ys h = ends T ys k h
follows p N L S (x ∷ xs) ys s h = by (step p N L S x) refl (λ T. follows p N L T xs ys) h
  where
    by : (o : Option State) → step p N L S x ≡ o → ((T : State) → Settles p T → is_some (after p N L T (xs ++ (e.Over ∷ ys))) ≡ true → ys ≡ [])
        → is_some (option_and_then (λ T. after p N L T (xs ++ (e.Over ∷ ys))) o) ≡ true → ys ≡ []
    by None k f h = cc
    by (Some T) k f h = f T (step_settled p N L S T x s k) h

pub over_last : NothingFollowsOver
over_last p N L front back h = follows p N L (opening_state p L) front back (opens_settled p L) h

-- ---- complete histories

abbrev NoneTrapped : State → Type 0
NoneTrapped S = (id : TaskId) (t : Task) → get S.tasks id ≡ Some t → t.mode ≡ trapped → ⊥

back_untrapped : (S T : State) → Lasts S T ⊎ AllEnds S T → NoneTrapped T → NoneTrapped S
back_untrapped S T (inl l) h id t at m = h id t (l.stays id t at m) m
back_untrapped S T (inr a) h id t at m = h id t (ap (λ (U : State). get U.tasks id) (sym a.after) ∙ at) m

no_trap : (p : Program) (N L : ℕ) (S T : State) (x : Entry) → step p N L S x ≡ Some T → NoneTrapped T → is_trap x ≡ false
no_trap p N L S T (e.Trap id kind) h n =
    let k = by_found (get S.tasks id) (if_going (λ t. trap_step N S id t t.action kind)) T h in
    let m = by_going k.0.mode (trap_step N S id k.0 k.0.action kind) T k.2 in
    let after : Traps S T id k.0 = traps N S T id k.0 k.0.action kind m.1 in
    absurd (n id (record k.0 { mode = trapped }) (ap (λ (U : State). get U.tasks id) (sym after.after) ∙ get_same S.tasks id (record k.0 { mode = trapped })) refl)
no_trap p N L S T _ h n = refl

record Untrapped (S : State) (xs : List Entry) : Type 0 where
  pub state : NoneTrapped S
  pub entries : list_any is_trap xs ≡ false

untrapped : (p : Program) (N L : ℕ) (S : State) (xs : List Entry) → Settles p S → option_map_or (λ T. T.passed) (after p N L S xs) false ≡ true → Untrapped S xs
untrapped p N L S [] s h = record { state = λ id t at m. let k : trapped ≡ ended = sym m ∙ s.ended h id t at in cc; entries = refl }
untrapped p N L S (x ∷ xs) s h = by (step p N L S x) refl (λ T. untrapped p N L T xs) h
  where
    by : (o : Option State) → step p N L S x ≡ o → ((T : State) → Settles p T → option_map_or (λ T. T.passed) (after p N L T xs) false ≡ true → Untrapped T xs)
        → option_map_or (λ T. T.passed) (option_and_then (λ T. after p N L T xs) o) false ≡ true → Untrapped S (x ∷ xs)
    by None k f h = cc
    by (Some T) k f h =
        let rest : Untrapped T xs = f T (step_settled p N L S T x s k) h in
        record {
          state = back_untrapped S T (step_lasts p N L S T x s.valid k) rest.state;
          entries = rw (no_trap p N L S T x k rest.state) rest.entries;
        }

pub complete_untrapped : CompleteIsUntrapped
complete_untrapped p N L history h = (untrapped p N L (opening_state p L) history (opens_settled p L) h).entries
