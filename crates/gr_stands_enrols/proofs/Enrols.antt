-- Each task that waited to be counted makes its new one.
use Rattle.std.proofs.Common.{◌≡◌, ◌≢◌, ◌<◌, ◌==◌, ℕ, Bool, true, false, if◌then◌else◌, List, [], ◌∷◌, sym, ◌∙◌, ap, subst, refl, Option, Some, None}
use Rattle.std.specs.List.{list_all}
use Rattle.gr_lang.specs.declared.action.Action.{Action}
use Rattle.gr_lang.specs.declared.action.Action.TheVariants as action
use Rattle.gr_lang.specs.declared.action.How.{How}
use Rattle.gr_lang.specs.declared.action.How.TheVariants as how
use Rattle.gr_lang.specs.Effects.{nothing}
use Rattle.gr_lang.specs.States.{State}
use Rattle.gr_view.specs.Places.{put}
use Rattle.gr_msg.specs.declared.message.Msg.TheVariants as msg
use Rattle.gr_msg.specs.declared.message.ScopeId.{ScopeId}
use Rattle.gr_msg.specs.declared.message.Unit.{Unit as WorkUnit}
use Rattle.gr_event.specs.Counts.{waiting_slots, when_acked}
use Rattle.gr_net.specs.Sums.{Each}
use Rattle.gr_net.specs.Worlds.{Without}
use Rattle.gr_net.proofs.Spreads.{put_same, put_other}
use Rattle.gr_machine.specs.Machines.{Machine}
use Rattle.gr_machine.specs.States.{Letter, Suspended, Tasks, Body}
use Rattle.gr_machine.specs.Outcomes.{Outcome, to, quietly, followed}
use Rattle.gr_machine.specs.Slots.{goes_on, dropped, awaits_enrolment, slot_awaits}
use Rattle.gr_machine.specs.Spawns.{private_last, placed, made_in, planted, new_single, with_count}
use Rattle.gr_machine.specs.ScopeServes.{planted_by, planted_in, planted_all, acked_slots}
use Rattle.gr_stands.specs.Worlds.{Given, machine_in, Core, World, bodies}
use Rattle.gr_stands.specs.Calls.{mode_of, is_told, is_going, is_asking, of_slot}
use Rattle.gr_stands.specs.Stands.{Stands}
use Rattle.gr_stands_calls.specs.Acting.{letter}
use Rattle.gr_stands_chains.specs.Chains.{ActsWithEntries}
use Rattle.gr_stands_chains.proofs.Follows.{quiet_outcomes_act, entries_act}
use Rattle.gr_stands_births.proofs.Planted.{spawns_are_made}
use Rattle.gr_stands_changes.proofs.Leaves.{leaves_kept}
use Rattle.gr_stands_chains.proofs.Actions.{actions_follow}
use Rattle.gr_stands_changes.proofs.Leaves.{nothing_happens}
use Rattle.gr_stands_enrols.specs.Enrolling.{IsEnrolling, AreEnrolling, EnrolTells}
use Rattle.gr_stands_enrols.specs.Laws as laws

-- ---- other slots

placed_tasks : (me : ℕ) (b : Body) (way : How) (work : WorkUnit) → (placed me b way work).body.tasks ≡ b.tasks
placed_tasks me b how.Here work = refl
placed_tasks me b (how.At core) work = by (core == me)
  where
    by : (t : Bool) → (if t then quietly (private_last b work) else record { body = b; sends = to core (msg.Spawn work); marks = [] }).body.tasks ≡ b.tasks
    by true = refl
    by false = refl
placed_tasks me b how.Offer work = refl

module _ (machine : Machine) (me : ℕ) (b : Body) (k other : ℕ) (ne : other ≢ k) where
  by_action : (s : Suspended) (a : Action) → (planted_by machine me b k s a).body.tasks.slots other ≡ b.tasks.slots other
  by_action s (action.Spawn way target args) =
      ap (λ (t : Tasks). t.slots other) (placed_tasks me (made_in machine me b k s) way (new_single me b s target args))
      ∙ put_other b.tasks.slots k (Some (goes_on machine s nothing)) other ne
  by_action s (action.Call op) = put_other b.tasks.slots k None other ne
  by_action s action.Finish = put_other b.tasks.slots k None other ne
  by_action s action.Arrive = put_other b.tasks.slots k None other ne
  by_action s (action.Loop lo hi grain target args) = put_other b.tasks.slots k None other ne
  by_action s action.End = put_other b.tasks.slots k None other ne
  by_action s (action.Trap kind) = put_other b.tasks.slots k None other ne

  others_stay : (o : Option Suspended) → (planted_in machine me b k o).body.tasks.slots other ≡ b.tasks.slots other
  others_stay None = refl
  others_stay (Some s) = by_action s s.action

still : (given : Given) (me : ℕ) (b : Body) (k : ℕ) (o : Option Suspended) (slots : List ℕ) → Each (λ other. other ≢ k) slots → AreEnrolling given b slots
    → AreEnrolling given (planted_in (machine_in given) me b k o).body slots
still given me b k o [] apart f = tt
still given me b k o (slot ∷ slots) apart f = (
  λ s there. f.0 s (sym (others_stay (machine_in given) me b k slot apart.0 o) ∙ there),
  f.1,
  still given me b k o slots apart.1 f.2,
)

-- ---- one task

module _ (given : Given) (c : ℕ) (here : c < given.setup.cores) where
  abbrev machine : Machine
  machine = machine_in given

  plants : (v : World) (T : State) (k : ℕ) → Stands given v T → ((s : Suspended) → (bodies v c).tasks.slots k ≡ Some s → IsEnrolling given s)
      → ActsWithEntries given v T c [] (Some (planted_in machine c (bodies v c) k ((bodies v c).tasks.slots k)))
  plants v T k st f = by ((bodies v c).tasks.slots k) refl
    where
      by : (o : Option Suspended) → (bodies v c).tasks.slots k ≡ o → ActsWithEntries given v T c [] (Some (planted_in machine c (bodies v c) k o))
      by None there = quiet_outcomes_act given v T c [] (Some (quietly (bodies v c)))
          (record { outcome = quietly (bodies v c); acts = refl; sends = tt; marks = refl; keeps = nothing_happens given v T c st here })
      by (Some s) there =
          let e : IsEnrolling given s = f s there in
          let row = spawns_are_made given v T c k s (bodies v c) e.way e.target e.args st here (record {
            there = there;
            not_told = ap is_told e.waits;
            not_asking = ap is_asking e.waits;
            goes = ap (λ w. mode_of w s.action) e.waits;
            slots = refl;
            next = refl;
            not_ready = st.calls.tasks.ready c k ∙ ap (of_slot is_going) there ∙ ap is_going e.waits;
            ready = λ other ne. refl;
            work = refl;
            words = refl;
          }) e.due e.fits e.core in
          subst (λ (x : Outcome). ActsWithEntries given v T c [] (Some x)) (sym (ap (planted_by machine c (bodies v c) k s) e.due))
          (entries_act given v T c [] (Some (planted machine c (bodies v c) k s e.way e.target e.args)) row)

  -- ---- one after another

  module _ (w : World) (S : State) (got : List Letter) (core : Core) (without : Without w c core got) where
    all_plant : (slots : List ℕ) (e : Outcome) → AreEnrolling given e.body slots → ActsWithEntries given w S c got (Some e) → ActsWithEntries given w S c got (Some (planted_all machine c e slots))
    all_plant [] e f row = row
    all_plant (k ∷ slots) e f row =
        all_plant slots (followed e (planted_in machine c e.body k (e.body.tasks.slots k))) (still given c e.body k (e.body.tasks.slots k) slots f.1 f.2)
        (actions_follow given w S c got core e (planted_in machine c e.body k (e.body.tasks.slots k)) here without row
        (λ v is st.
        let at : bodies v c ≡ e.body = ap (λ (x : ℕ → Body). x c) is ∙ put_same (bodies w) c e.body in
        subst (λ (x : Body). ActsWithEntries given v row.next c [] (Some (planted_in machine c x k (x.tasks.slots k)))) at
        (plants v row.next k st (subst (λ (x : Body). (s : Suspended) → x.tasks.slots k ≡ Some s → IsEnrolling given s) (sym at) f.0))))

-- ---- the event

same_some : (x y : Outcome) → Some x ≡ Some y → x ≡ y
same_some x y e = cc

pub enrolments_are_served : laws.EnrolmentsAreServed
enrolments_are_served given w S c from scope e st first tells h = by (waiting_slots ((bodies w c).scopes.counts scope)) (λ slots is. tells slots is) h
  where
    by : (o : Option (List ℕ)) → ((slots : List ℕ) → o ≡ Some slots → AreEnrolling given (bodies w c) slots)
        → acked_slots (machine_in given) c (bodies w c) scope ((bodies w c).scopes.counts scope) o ≡ Some e → ActsWithEntries given w S c (letter from (msg.EnrolAck scope) ∷ []) (Some e)
    by None f h = absurd (cc)
    by (Some slots) f h = by_test (list_all (λ slot. slot_awaits (awaits_enrolment scope) (bodies w c) slot) slots) h
      where
        start : Outcome
        start = quietly (with_count (bodies w c) scope (when_acked ((bodies w c).scopes.counts scope)))

        row : ActsWithEntries given w S c (letter from (msg.EnrolAck scope) ∷ []) (Some start)
        row = quiet_outcomes_act given w S c (letter from (msg.EnrolAck scope) ∷ []) (Some start) (record {
          outcome = start;
          acts = refl;
          sends = tt;
          marks = refl;
          keeps = leaves_kept given w S c (letter from (msg.EnrolAck scope) ∷ []) start st first.here (record { tasks = refl; work = refl; words = refl; letters = (tt, tt); sends = tt });
        })

        by_test : (b : Bool) → (if b then Some (planted_all (machine_in given) c start slots) else None) ≡ Some e → ActsWithEntries given w S c (letter from (msg.EnrolAck scope) ∷ []) (Some e)
        by_test false h = absurd (cc)
        by_test true h = subst (λ (x : Outcome). ActsWithEntries given w S c (letter from (msg.EnrolAck scope) ∷ []) (Some x)) (same_some (planted_all (machine_in given) c start slots) e h)
            (all_plant given c first.here w S (letter from (msg.EnrolAck scope) ∷ []) first.core first.without slots start (f slots refl) row)
