-- All words of a state that is reached are words; so its loops have few indices.
use Rattle.std.proofs.Common.{◌≡◌, ℕ, zero, suc, ◌-◌, ◌^◌, ◌<◌, ◌≤◌, [], ◌∷◌, Some, None, sym, ◌∙◌, ap, arith, codes}
use Rattle.std.specs.FinMap.{get, empty}
use Rattle.gr_syntax.specs.declared.syntax.Program.{Program}
use Rattle.gr_lang.specs.declared.action.Action.{Action}
use Rattle.gr_lang.specs.declared.action.Action.TheVariants as a
use Rattle.gr_lang.specs.declared.action.TaskId.{TaskId}
use Rattle.gr_lang.specs.Openings.{target_of}
use Rattle.gr_lang.specs.States.{Task, Scope, id_cmp, root, main_id, child, opening_state}
use Rattle.gr_lang.proofs.TaskIds.{get_none}
use Rattle.gr_bounds_counts.specs.Counts.{LoopFits}
use Rattle.gr_fits_words.specs.Literals.{LiteralsFit}
use Rattle.gr_fits_words.specs.Words.{ActionHasWords, WordsFit}
use Rattle.gr_fits_words.specs.Laws as laws
use Rattle.gr_fits_words.proofs.Starts.{opening_words}
use Rattle.gr_fits_words.proofs.Steps.{Ranges, StandsWell, put_in, born, stays}

opens : (p : Program) (N L : ℕ) → LiteralsFit p → WordsFit (opening_state p L)
opens p N L h = record {
  objects = opening_words p h;
  tasks = put_in empty main_id (child p L 0 (target_of p (codes "main")) []) (λ id t x. none id t x) (born p N L h 0 (target_of p (codes "main")) [] tt);
  ranges = no_ranges;
}
  where
    none : (id : TaskId) (t : Task) → get (empty {X = Task} {R = id_cmp}) id ≡ Some t → StandsWell t
    none id t x = let k : None ≡ Some t = sym (get_none id) ∙ x in cc

    no_ranges : Ranges (root ∷ [])
    no_ranges zero x r h q = let no : None ≡ Some r = ap (λ (z : Scope). z.range) (is_root h) ∙ q in cc
      where
        is_root : Some root ≡ Some x → root ≡ x
        is_root h = cc
    no_ranges (suc k) x r h q = cc

pub words_fit : laws.ReachedWordsFit
words_fit given literals state reached =
    stays given.program given.setup.cores given.setup.steps literals (opening_state given.program given.setup.steps) state reached.history
    (opens given.program given.setup.cores given.setup.steps literals) reached.leads

few : (x : Action) → ActionHasWords x → LoopFits (2 ^ 64) x
few (a.Loop lo hi grain target args) h = less lo hi h.0
  where
    less : (lo hi : ℕ) → hi < 2 ^ 64 → hi - lo ≤ 2 ^ 64
    less lo hi l = omega (arith, l)
few (a.Call call) h = tt
few (a.Spawn way target args) h = tt
few a.Finish h = tt
few a.Arrive h = tt
few a.End h = tt
few (a.Trap kind) h = tt

pub loops_few : laws.ReachedLoopsHaveFewIndices
loops_few given literals state reached id task there = few task.action ((words_fit given literals state reached).tasks id task there).action
