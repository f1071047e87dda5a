-- Units that come, and chunks that are split; a core that asks for work.
use Rattle.std.proofs.Common.{◌≡◌, ℕ, zero, suc, ◌+◌, ◌-◌, ◌<◌, Bool, true, false, if◌then◌else◌, List, [], ◌∷◌, ◌++◌, map, sym, ◌∙◌, ap, subst, refl, arith, Option, Some, None}
use Rattle.gr_lang.specs.States.{State}
use Rattle.gr_lang.specs.declared.action.TaskId.{TaskId}
use Rattle.gr_view.specs.Places.{put}
use Rattle.gr_msg.specs.declared.message.Msg.TheVariants as msg
use Rattle.gr_msg.specs.declared.message.ScopeId.{ScopeId}
use Rattle.gr_msg.specs.declared.message.Unit.{Unit as WorkUnit}
use Rattle.gr_msg.specs.declared.message.Unit.TheVariants as unit
use Rattle.gr_work.specs.Parts as parts
use Rattle.gr_work.specs.Parts.{Range, part, offered, kept_end}
use Rattle.gr_work.specs.Queues.{after_next}
use Rattle.gr_net.specs.Sums.{weigh, Each}
use Rattle.gr_net.proofs.Spreads.{weigh-append, Each-append}
use Rattle.gr_machine.specs.States.{Body}
use Rattle.gr_machine.specs.Outcomes.{Outcome, quietly}
use Rattle.gr_machine.specs.Events.{asks}
use Rattle.gr_machine.specs.Spawns.{private_first}
use Rattle.gr_machine.specs.Runs.{without_unit, splits}
use Rattle.gr_stands.specs.Worlds.{Given, World, bodies}
use Rattle.gr_stands.specs.Censuses.{is_single}
use Rattle.gr_stands.specs.Calls.{UnitFits}
use Rattle.gr_stands_calls.specs.Acting.{letter}
use Rattle.gr_stands_calls.proofs.Common.{first_fits}
use Rattle.gr_stands_calls.proofs.Stays.{tasks_stay}
use Rattle.gr_stands_calls.proofs.Queues.{TakenFit, taken_weigh, taken_fit}
use Rattle.gr_stands_changes.specs.Laws as laws
use Rattle.gr_stands_changes.proofs.Leaves.{leaves_kept}

pub steals_are_asked : laws.StealsAreAsked
steals_are_asked given w S c victim st here there = record {
  outcome = asks victim (bodies w c);
  acts = refl;
  sends = (there, tt);
  marks = refl;
  keeps = leaves_kept given w S c [] (asks victim (bodies w c)) st here (record { tasks = refl; work = refl; words = refl; letters = tt; sends = (tt, tt) });
}

pub gifts_are_taken : laws.GiftsAreTaken
gifts_are_taken given w S c from u st first asked =
    let body = bodies w c in
    let fits = first_fits given w S c from (msg.StealGive u) st first in
    let e = quietly (record (private_first body u) { steals = record body.steals { asked = put body.steals.asked from false } }) in
    record {
      outcome = e;
      acts = ap (λ (b : Bool). if b then Some e else None) asked;
      sends = tt;
      marks = refl;
      keeps = tasks_stay given w S c (letter from (msg.StealGive u) ∷ []) e st first.here (record {
        tasks = refl;
        words = refl;
        letters = (tt, tt);
        sends = tt;
        private = (fits, st.calls.tasks.private c first.here);
        public = st.calls.tasks.public c first.here;
        singles = λ id. omega arith;
      });
    }

-- ---- chunks

abbrev chunk : ℕ → List ℕ → ScopeId → ℕ → TaskId → ℕ → ℕ → ℕ → WorkUnit
chunk target args scope origin owner lo hi grain = unit.Chunk target args scope origin owner lo hi grain

parts_fit : (given : Given) (S : State) (target : ℕ) (args : List ℕ) (scope : ScopeId) (origin : ℕ) (owner : TaskId) (lo hi grain : ℕ) (rs : List Range)
    → Each (UnitFits given S) (map (part (chunk target args scope origin owner lo hi grain)) rs)
parts_fit given S target args scope origin owner lo hi grain [] = tt
parts_fit given S target args scope origin owner lo hi grain (r ∷ rs) = (tt, parts_fit given S target args scope origin owner lo hi grain rs)

parts_weigh : (id : TaskId) (target : ℕ) (args : List ℕ) (scope : ScopeId) (origin : ℕ) (owner : TaskId) (lo hi grain : ℕ) (rs : List Range)
    → weigh (is_single id) (map (part (chunk target args scope origin owner lo hi grain)) rs) ≡ 0
parts_weigh id target args scope origin owner lo hi grain [] = refl
parts_weigh id target args scope origin owner lo hi grain (r ∷ rs) = omega (arith, parts_weigh id target args scope origin owner lo hi grain rs)

pub chunks_are_split : laws.ChunksAreSplit
chunks_are_split given w S c target args scope origin owner lo hi grain st here is =
    let body = bodies w c in
    let work = chunk target args scope origin owner lo hi grain in
    let left = after_next body.work.private body.work.public in
    let t : TakenFit (UnitFits given S) body.work.private body.work.public work = taken_fit (UnitFits given S) body.work.private body.work.public work is (st.calls.tasks.private c here) (st.calls.tasks.public c here) in
    let e = splits (without_unit body) work in
    record {
      outcome = e;
      acts = refl;
      sends = tt;
      marks = refl;
      keeps = tasks_stay given w S c [] e st here (record {
        tasks = refl;
        words = refl;
        letters = tt;
        sends = tt;
        private = (tt, t.private_left);
        public = Each-append (UnitFits given S) left.public (map (part work) (offered grain lo hi)) t.public_left (parts_fit given S target args scope origin owner lo hi grain (offered grain lo hi));
        singles = λ id. omega (
          arith,
          weigh-append (is_single id) left.public (map (part work) (offered grain lo hi)),
          parts_weigh id target args scope origin owner lo hi grain (offered grain lo hi),
          taken_weigh (is_single id) body.work.private body.work.public work is,
        );
      });
    }
