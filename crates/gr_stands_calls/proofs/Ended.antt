-- A task ends, or is trapped.
use Rattle.std.proofs.Common.{◌≡◌, ◌≢◌, ◌⊎◌, ℕ, zero, suc, ◌+◌, ◌<◌, ◌==◌, ◌&&◌, if◌then◌else◌, Bool, true, false, nat_lt, List, [], ◌∷◌, inl, inr, sym, ◌∙◌, ap, subst, refl, arith, Option, Some, None}
use Rattle.std.specs.Option.{option_and_then}
use Rattle.std.specs.FinMap as fin
use Rattle.std.proofs.lemmas.Bool.Decides.{nat_tests}
use Rattle.gr_syntax.specs.declared.syntax.Program.{Program}
use Rattle.gr_lang.specs.declared.action.Action.{Action}
use Rattle.gr_lang.specs.declared.action.Action.TheVariants as action
use Rattle.gr_lang.specs.declared.action.Entry.TheVariants as entry
use Rattle.gr_lang.specs.declared.action.TaskId.{TaskId}
use Rattle.gr_lang.specs.declared.action.TrapKind.{TrapKind}
use Rattle.gr_lang.specs.declared.action.TrapKind.TheVariants as trap
use Rattle.gr_lang.specs.Fields.{same_trap}
use Rattle.gr_lang.specs.States.{Mode, going, ended, trapped, Task, State, is_going}
use Rattle.gr_lang.specs.Steps.{step, if_going, when, set_task, end_step, trap_step}
use Rattle.gr_view.specs.Places.{put}
use Rattle.gr_net.specs.Sums.{Each}
use Rattle.gr_machine.specs.declared.waits.Waits.TheVariants as wait
use Rattle.gr_machine.specs.Machines.{is_core}
use Rattle.gr_machine.specs.States.{Suspended, Body}
use Rattle.gr_machine.specs.Outcomes.{Outcome}
use Rattle.gr_machine.specs.Slots.{same_id, dropped}
use Rattle.gr_machine.specs.Spawns as spawns
use Rattle.gr_machine.specs.ScopeRuns.{ends_at}
use Rattle.gr_machine.specs.Runs.{acts, without_ready}
use Rattle.gr_stands.specs.Worlds.{Given, machine_in, World, bodies}
use Rattle.gr_stands.specs.Censuses.{of_held, is_task, is_named, is_unended, going_on}
use Rattle.gr_stands.specs.Calls.{StandsAt, is_asking, of_slot}
use Rattle.gr_stands.specs.CallActs.{CallsAct}
use Rattle.gr_stands.specs.Stands.{IsSound, Stands}
use Rattle.gr_stands.proofs.Memories.{words_stay}
use Rattle.gr_stands.proofs.Calls.{slot_change}
use Rattle.gr_stands.proofs.Places.{cases_id, named_itself, same_id_self}
use Rattle.gr_stands_calls.specs.Acting.{IsFirst}
use Rattle.gr_stands_calls.specs.Laws as laws
use Rattle.gr_stands_calls.proofs.Slots.{none_some, of_slot_is, slot_census, ready_kept, fresh_kept, put_there, put_apart, put_kept, put_new, put_unended, alone, units_kept, subst_slot}
use Rattle.gr_stands_calls.proofs.Common.{same_memory, first_goes, rest_here, rest_other, first_stands, plain_goes, kept_by}

-- ---- entries

end_leads : (program : Program) (cores limit : ℕ) (S : State) (id : TaskId) (t : Task) → fin.get S.tasks id ≡ Some t → t.mode ≡ going → t.action ≡ action.End
    → step program cores limit S (entry.End id) ≡ Some (set_task S id (record t { mode = ended }))
end_leads program cores limit S id t there mode next =
    ap (option_and_then (if_going (λ (x : Task). end_step S id x x.action))) there
    ∙ ap (λ (m : Mode). if is_going m then end_step S id t t.action else None) mode
    ∙ ap (end_step S id t) next

trap_same : (kind : TrapKind) → same_trap kind kind ≡ true
trap_same trap.Div = refl
trap_same trap.Place = refl
trap_same trap.Core = refl
trap_same trap.Steps = refl

trap_leads : (program : Program) (cores limit : ℕ) (S : State) (id : TaskId) (t : Task) (kind : TrapKind) → fin.get S.tasks id ≡ Some t → t.mode ≡ going → t.action ≡ action.Trap kind
    → step program cores limit S (entry.Trap id kind) ≡ Some (set_task S id (record t { mode = trapped }))
trap_leads program cores limit S id t kind there mode next =
    ap (option_and_then (if_going (λ (x : Task). trap_step cores S id x x.action kind))) there
    ∙ ap (λ (m : Mode). if is_going m then trap_step cores S id t t.action kind else None) mode
    ∙ ap (λ (a : Action). trap_step cores S id t a kind) next
    ∙ ap (λ (b : Bool). when b (set_task S id (record t { mode = trapped }))) (trap_same kind)

-- ---- outcomes

module _ (given : Given) (w : World) (S : State) (c k : ℕ) (more : List ℕ) (s : Suspended) (st : Stands given w S) (here : c < given.setup.cores) (first : IsFirst w c k more s) where
  goes : s.waits ≡ wait.Going
  goes = first_goes given w S c k more s st first

  abbrev stands : StandsAt S s
  stands = first_stands given w S c k more s st first

  mode : stands.plain.mode ≡ going
  mode = plain_goes S s stands goes

  -- One task less is unended.
  one_less : (T : State) (u : Task) → T.tasks ≡ fin.insert S.tasks s.id u → u.mode ≡ ended → (id : TaskId)
      → is_unended (fin.get T.tasks id) + is_named id s.id ≡ is_unended (fin.get S.tasks id)
  one_less T u after over id = elim (cases_id id s.id) [
    | inl e ↦ omega (
      arith,
      ap (λ (x : TaskId). is_unended (fin.get T.tasks x)) e,
      ap is_unended (put_there S T s.id stands.plain u stands.there after),
      ap going_on over,
      ap (λ (x : TaskId). is_named x s.id) e,
      named_itself s.id,
      ap (λ (x : TaskId). is_unended (fin.get S.tasks x)) e,
      ap is_unended stands.there,
      ap going_on mode,
    )
    | inr e ↦ omega (arith, ap is_unended (put_apart S T s.id stands.plain u stands.there after id e), other id s.id e)
  ]
    where
      other : (a b : TaskId) → same_id a b ≡ false → is_named a b ≡ 0
      other a b e = grind (arith, nat_tests, e)

  after_end : State
  after_end = set_task S s.id (record stands.plain { mode = ended })

  end_act : CallsAct given w c [] (ends_at (without_ready (bodies w c)) k s) S after_end c k None (s.id ∷ [])
  unfolding after_end
  end_act =
      let e = ends_at (without_ready (bodies w c)) k s in
      let u : Task = record stands.plain { mode = ended } in
      let old = st.calls in
      let change = slot_change (bodies w) c k None e.body refl in
      let f = old.tasks.slots c k s first.there in
      let kept = put_kept S after_end s.id stands.plain u stands.there refl in
      let apart = alone given w S c k s stands.plain old first.there stands.there (ap going_on mode) in
      record {
        change = change;
        kept = kept;
        elsewhere = apart;
        new = λ t h. absurd (none_some t h);
        private = units_kept given S after_end (s.id ∷ []) kept (bodies w c).work.private (old.tasks.private c here) (apart.private c here);
        public = units_kept given S after_end (s.id ∷ []) kept (bodies w c).work.public (old.tasks.public c here) (apart.public c here);
        sends = (tt, tt);
        ready = ready_kept (bodies w) c k None e.body change (rest_here given w S c k more s st first) (rest_other w c k more s first) old.tasks.ready;
        fresh = fresh_kept (bodies w) S after_end c e.body refl (put_new S after_end s.id stands.plain u stands.there refl) old.tasks.fresh;
        once = λ id. omega (arith, slot_census (is_task id) given.slots (bodies w c) e.body k None f.low refl refl, ap (of_held (is_task id).of_task) first.there, one_less after_end u refl refl id);
        quiet = old.asked c k ∙ of_slot_is is_asking ((bodies w c).tasks.slots k) s wait.Going first.there goes;
        asked = refl;
        others = λ i l ne. refl;
      }

  after_trap : State
  after_trap = set_task S s.id (record stands.plain { mode = trapped })

  trap_act : (kind : TrapKind) → CallsAct given w c [] (spawns.trapped (without_ready (bodies w c)) k s kind) S after_trap c k (Some (record s { waits = wait.Nothing })) (s.id ∷ [])
  unfolding after_trap
  trap_act kind =
      let e = spawns.trapped (without_ready (bodies w c)) k s kind in
      let r : Suspended = record s { waits = wait.Nothing } in
      let u : Task = record stands.plain { mode = trapped } in
      let old = st.calls in
      let change = slot_change (bodies w) c k (Some r) e.body refl in
      let f = old.tasks.slots c k s first.there in
      let kept = put_kept S after_trap s.id stands.plain u stands.there refl in
      let apart = alone given w S c k s stands.plain old first.there stands.there (ap going_on mode) in
      record {
        change = change;
        kept = kept;
        elsewhere = apart;
        new = λ t h. subst_slot given after_trap c k r t h (record {
          here = f.here;
          low = f.low;
          counted = f.counted;
          stands = λ z. record { plain = u; there = put_there S after_trap s.id stands.plain u stands.there refl; action = stands.action; running = stands.running; mode = refl };
        });
        private = units_kept given S after_trap (s.id ∷ []) kept (bodies w c).work.private (old.tasks.private c here) (apart.private c here);
        public = units_kept given S after_trap (s.id ∷ []) kept (bodies w c).work.public (old.tasks.public c here) (apart.public c here);
        sends = tt;
        ready = ready_kept (bodies w) c k (Some r) e.body change (rest_here given w S c k more s st first) (rest_other w c k more s first) old.tasks.ready;
        fresh = fresh_kept (bodies w) S after_trap c e.body refl (put_new S after_trap s.id stands.plain u stands.there refl) old.tasks.fresh;
        once = λ id. omega (
          arith,
          slot_census (is_task id) given.slots (bodies w c) e.body k (Some r) f.low refl refl,
          ap (of_held (is_task id).of_task) first.there,
          put_unended S after_trap s.id stands.plain u stands.there refl (sym (ap going_on mode)) id,
        );
        quiet = old.asked c k ∙ of_slot_is is_asking ((bodies w c).tasks.slots k) s wait.Going first.there goes;
        asked = refl;
        others = λ i l ne. refl;
      }

lower : (a b : ℕ) → a < b → nat_lt a b ≡ true
lower a b l = grind (arith, nat_tests, l)

pub tasks_end : laws.TasksEnd
unfolding after_end
tasks_end given w S c k more s sound st here first next =
    let e = ends_at (without_ready (bodies w c)) k s in
    let f = st.calls.tasks.slots c k s first.there in
    let stands = first_stands given w S c k more s st first in
    let mode = plain_goes S s stands (first_goes given w S c k more s st first) in
    record {
      outcome = e;
      acts = ap Some (ap (acts (machine_in given) c (without_ready (bodies w c)) k s) next
          ∙ ap (λ (b : Bool). if b then e else dropped (without_ready (bodies w c)) k) (lower s.origin given.setup.cores f.counted));
      sends = (f.counted, tt);
      entry = entry.End s.id;
      marks = refl;
      after = after_end given w S c k more s st here first;
      leads = end_leads given.program given.setup.cores given.setup.steps S s.id stands.plain stands.there mode (stands.action ∙ next);
      keeps = kept_by given w S (after_end given w S c k more s st here first) c [] e c k None (s.id ∷ []) st (end_act given w S c k more s st here first)
          (words_stay (machine_in given) (bodies w) c S.objects st.words e.body.words S.objects refl (same_memory S.objects));
    }

pub tasks_are_trapped : laws.TasksAreTrapped
unfolding after_trap
tasks_are_trapped given w S c k more s kind sound st here first next =
    let e = spawns.trapped (without_ready (bodies w c)) k s kind in
    let stands = first_stands given w S c k more s st first in
    let mode = plain_goes S s stands (first_goes given w S c k more s st first) in
    record {
      outcome = e;
      acts = ap Some (ap (acts (machine_in given) c (without_ready (bodies w c)) k s) next);
      sends = tt;
      entry = entry.Trap s.id kind;
      marks = refl;
      after = after_trap given w S c k more s st here first;
      leads = trap_leads given.program given.setup.cores given.setup.steps S s.id stands.plain kind stands.there mode (stands.action ∙ next);
      keeps = kept_by given w S (after_trap given w S c k more s st here first) c [] e c k (Some (record s { waits = wait.Nothing })) (s.id ∷ []) st (trap_act given w S c k more s st here first kind)
          (words_stay (machine_in given) (bodies w) c S.objects st.words e.body.words S.objects refl (same_memory S.objects));
    }
