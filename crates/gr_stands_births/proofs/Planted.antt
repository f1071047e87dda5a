-- A task makes a new one.
use Rattle.std.proofs.Common.{◌≡◌, ◌≢◌, ◌⊎◌, ℕ, zero, suc, ◌+◌, ◌<◌, ◌≤◌, ◌==◌, ◌&&◌, Bool, true, false, nat_lt, is_none, if◌then◌else◌, bytes_eq, List, [], ◌∷◌, ◌++◌, inl, inr, sym, ◌∙◌, ap, subst, refl, arith, Option, Some, None}
use Rattle.std.specs.Option.{option_and_then}
use Rattle.std.specs.FinMap as fin
use Rattle.std.proofs.lemmas.Bool.Decides.{nat_tests}
use Rattle.std.proofs.lemmas.Slice.Eq.{bytes_eq-Decides}
use Rattle.gr_syntax.specs.declared.syntax.Program.{Program}
use Rattle.gr_lang.specs.declared.action.Action.{Action}
use Rattle.gr_lang.specs.declared.action.Action.TheVariants as action
use Rattle.gr_lang.specs.declared.action.How.{How}
use Rattle.gr_lang.specs.declared.action.How.TheVariants as how
use Rattle.gr_lang.specs.declared.action.Entry.TheVariants as entry
use Rattle.gr_lang.specs.declared.action.TaskId.{TaskId}
use Rattle.gr_lang.specs.Effects.{nothing}
use Rattle.gr_lang.specs.Fields.{same_how}
use Rattle.gr_lang.specs.Next.{Running, next, go_on}
use Rattle.gr_lang.specs.States.{Mode, going, Task, State, is_going, child, innermost}
use Rattle.gr_lang.specs.Steps.{step, if_going, when, set_task, spawn_step, has_core, is_new}
use Rattle.gr_lang.specs.Steps as steps
use Rattle.gr_view.specs.Places.{put}
use Rattle.gr_msg.specs.declared.message.Msg.TheVariants as msg
use Rattle.gr_msg.specs.declared.message.Unit.{Unit as WorkUnit}
use Rattle.gr_msg.specs.declared.message.Unit.TheVariants as unit
use Rattle.gr_work.specs.Queues.{Queues}
use Rattle.gr_net.specs.Sums.{weigh, Each}
use Rattle.gr_net.proofs.Spreads.{put_each, weigh-append, Each-append}
use Rattle.gr_machine.specs.declared.mark.Mark.{Mark}
use Rattle.gr_machine.specs.States.{Suspended, Tasks, Words, Body}
use Rattle.gr_machine.specs.Outcomes.{Outcome, to, quietly, marked}
use Rattle.gr_machine.specs.Slots as slots
use Rattle.gr_machine.specs.Slots.{same_id, own_id, goes_on}
use Rattle.gr_machine.specs.Spawns.{private_last, public_last, placed, new_single, made_in, planted}
use Rattle.gr_stands.specs.Worlds.{Given, machine_in, World, bodies, of_sends}
use Rattle.gr_stands.specs.Censuses.{is_named, is_single, carried, is_unended, going_on}
use Rattle.gr_stands.specs.Calls.{StandsAt, times, SingleFits, UnitFits}
use Rattle.gr_stands.specs.Actions.{ActionFits}
use Rattle.gr_stands.specs.CallActs.{IsOther}
use Rattle.gr_stands.specs.Stands.{Stands}
use Rattle.gr_stands.proofs.Memories.{words_stay}
use Rattle.gr_stands.proofs.Places.{cases_id, not_same, named_itself, get_same, get_other, times_last, times_before}
use Rattle.gr_stands_calls.specs.Stays.{IsOfNoSlot, CarriesFit, singles_in}
use Rattle.gr_stands_calls.proofs.Slots.{none_some, put_there, put_apart, put_new, put_unended, alone, units_kept}
use Rattle.gr_stands_calls.proofs.Common.{same_memory, kept_by}
use Rattle.gr_stands_births.specs.Turning.{IsTurn}
use Rattle.gr_stands_births.specs.Laws as laws
use Rattle.gr_stands_births.proofs.Turns.{Turns, turn_stands, turn_act}

-- ---- the entry

how_same : (way : How) → same_how way way ≡ true
how_same how.Here = refl
how_same (how.At core) = grind (arith, nat_tests)
how_same how.Offer = refl

same_word : (n : ℕ) → (n == n) ≡ true
same_word n = grind (arith, nat_tests)

spawn_leads : (program : Program) (cores limit : ℕ) (S : State) (id kid : TaskId) (t : Task) (way : How) (target : ℕ) (args : List ℕ) → fin.get S.tasks id ≡ Some t → t.mode ≡ going
    → t.action ≡ action.Spawn way target args → has_core cores way ≡ true → fin.get S.tasks kid ≡ None
    → step program cores limit S (entry.Spawn id way target args kid)
    ≡ Some (set_task (set_task S id (steps.goes_on program limit t nothing)) kid (child program limit (innermost t) target args))
spawn_leads program cores limit S id kid t way target args there mode next core new =
    let T : State = set_task (set_task S id (steps.goes_on program limit t nothing)) kid (child program limit (innermost t) target args) in
    ap (option_and_then (if_going (λ (x : Task). spawn_step program cores limit S id x x.action way target args kid))) there
    ∙ ap (λ (m : Mode). if is_going m then spawn_step program cores limit S id t t.action way target args kid else None) mode
    ∙ ap (λ (a : Action). spawn_step program cores limit S id t a way target args kid) next
    ∙ ap (λ (b : Bool). when b T) all
  where
    all : (same_how way way && (target == target) && bytes_eq args args && has_core cores way && is_none (fin.get S.tasks kid)) ≡ true
    all = rw (how_same way, same_word target, (bytes_eq-Decides args args).1 refl, core, new) refl

-- ---- where the unit goes

record Placed (given : Given) (T : State) (me : ℕ) (body : Body) (work : WorkUnit) (e : Outcome) : Type 0 where
  tasks : e.body.tasks ≡ body.tasks
  words : e.body.words ≡ body.words
  marks : e.marks ≡ []
  bound : Each (λ send. send.to < given.setup.cores) e.sends
  private : Each (UnitFits given T) e.body.work.private
  public : Each (UnitFits given T) e.body.work.public
  sends : Each (λ send. IsOfNoSlot send.message × CarriesFit given T send.message) e.sends
  singles : (id : TaskId) → singles_in id e.body + of_sends (carried (is_single id)) me e.sends ≡ singles_in id body + is_single id work

module _ (given : Given) (T : State) (me : ℕ) (body : Body) (work : WorkUnit) (fits : UnitFits given T work) (f : Each (UnitFits given T) body.work.private) (g : Each (UnitFits given T) body.work.public) where
  own : Placed given T me body work (quietly (private_last body work))
  own = record {
    tasks = refl;
    words = refl;
    marks = refl;
    bound = tt;
    private = Each-append (UnitFits given T) body.work.private (work ∷ []) f (fits, tt);
    public = g;
    sends = tt;
    singles = λ id. omega (arith, weigh-append (is_single id) body.work.private (work ∷ []));
  }

  lower : (a b : ℕ) → nat_lt a b ≡ true → a < b
  lower a b e = grind (arith, nat_tests, e)

  placed_so : (way : How) → has_core given.setup.cores way ≡ true → Placed given T me body work (placed me body way work)
  placed_so how.Here core = own
  placed_so (how.At other) core = by (other == me)
    where
      by : (b : Bool) → Placed given T me body work (if b then quietly (private_last body work) else record { body = body; sends = to other (msg.Spawn work); marks = [] })
      by true = own
      by false = record {
        tasks = refl;
        words = refl;
        marks = refl;
        bound = (lower other given.setup.cores core, tt);
        private = f;
        public = g;
        sends = ((tt, fits), tt);
        singles = λ id. omega arith;
      }
  placed_so how.Offer core = record {
    tasks = refl;
    words = refl;
    marks = refl;
    bound = tt;
    private = f;
    public = Each-append (UnitFits given T) body.work.public (work ∷ []) g (fits, tt);
    sends = tt;
    singles = λ id. omega (arith, weigh-append (is_single id) body.work.public (work ∷ []));
  }

-- ---- the plain state

module _ (S : State) (id kid : TaskId) (t u x : Task) (there : fin.get S.tasks id ≡ Some t) (new : fin.get S.tasks kid ≡ None) where
  abbrev middle : State
  middle = set_task S id u

  abbrev both : State
  both = set_task middle kid x

  apart_so : (q : TaskId) (y : Task) → fin.get S.tasks q ≡ Some y → same_id q kid ≡ false
  apart_so q y h = elim (cases_id q kid) [ inl e ↦ absurd (none_some y (sym new ∙ ap (fin.get S.tasks) (sym e) ∙ h)) | inr e ↦ e ]

  born_there : fin.get both.tasks kid ≡ Some x
  born_there = get_same middle.tasks kid x

  went_there : fin.get both.tasks id ≡ Some u
  went_there = get_other middle.tasks kid id x (apart_so id t there) ∙ get_same S.tasks id u

  both_kept : (q : TaskId) (y : Task) → IsOther (id ∷ []) q → fin.get S.tasks q ≡ Some y → fin.get both.tasks q ≡ Some y
  both_kept q y other h = get_other middle.tasks kid q x (apart_so q y h) ∙ get_other S.tasks id q u other.0 ∙ h

  both_new : (q : TaskId) → same_id q kid ≡ false → fin.get S.tasks q ≡ None → fin.get both.tasks q ≡ None
  both_new q e h = get_other middle.tasks kid q x e ∙ put_new S middle id t u there refl q h

  both_unended : going_on u.mode ≡ going_on t.mode → going_on x.mode ≡ 1 → (q : TaskId) → is_unended (fin.get both.tasks q) ≡ is_unended (fin.get S.tasks q) + is_named q kid
  both_unended m one q = elim (cases_id q kid) [
    | inl e ↦ omega (
      arith,
      ap (λ (i : TaskId). is_unended (fin.get both.tasks i)) e,
      ap is_unended born_there,
      one,
      ap (λ (i : TaskId). is_unended (fin.get S.tasks i)) e,
      ap is_unended new,
      ap (λ (i : TaskId). is_named i kid) e,
      named_itself kid,
    )
    | inr e ↦ omega (arith, ap is_unended (get_other middle.tasks kid q x e), put_unended S middle id t u there refl m q, other q e)
  ]
    where
      other : (q : TaskId) → same_id q kid ≡ false → is_named q kid ≡ 0
      other q e = grind (arith, nat_tests, e)

-- ---- the outcome

pub spawns_are_made : laws.SpawnsAreMade
spawns_are_made given w S me slot task body way target args st here turn due acts core =
    let machine = machine_in given in
    let s = turn_stands given w S me slot task body st turn in
    let mode : s.plain.mode ≡ going = s.mode ∙ turn.goes in
    let kid : TaskId = own_id me body in
    let new : fin.get S.tasks kid ≡ None = st.calls.tasks.fresh me body.tasks.next (omega (arith, turn.next)) in
    let went : Task = steps.goes_on given.program given.setup.steps s.plain nothing in
    let born : Task = child given.program given.setup.steps (innermost s.plain) target args in
    let T : State = both S task.id kid s.plain went born s.there new in
    let kept = both_kept S task.id kid s.plain went born s.there new in
    let apart = alone given w S me slot task s.plain st.calls turn.there s.there (ap going_on mode) in
    let b1 : Body = made_in machine me body slot task in
    let work : WorkUnit = new_single me body task target args in
    let u : Suspended = goes_on machine task nothing in
    let e = planted machine me body slot task way target args in
    let fits : SingleFits given T target args (slots.innermost task) me kid = record {
      known = subst (ActionFits machine) due acts;
      counted = here;
      stands = record { plain = born; there = born_there S task.id kid s.plain went born s.there new; action = refl; running = refl; mode = refl };
    } in
    let p = placed_so given T me b1 work fits
    (subst (λ (q : Queues). Each (UnitFits given T) q.private) (sym turn.work) (units_kept given S T (task.id ∷ []) kept (bodies w me).work.private (st.calls.tasks.private me here) (apart.private me here)))
    (subst (λ (q : Queues). Each (UnitFits given T) q.public) (sym turn.work) (units_kept given S T (task.id ∷ []) kept (bodies w me).work.public (st.calls.tasks.public me here) (apart.public me here)))
    way core in
    let counted_on : (number : ℕ) → e.body.tasks.next ≤ number → body.tasks.next + 1 ≤ number = λ number l. subst (λ (n : ℕ). n ≤ number) (ap (λ (t : Tasks). t.next) p.tasks) l in
    let turns : Turns given w S T me slot task u e (λ id. is_named id kid) = record {
      slots = ap (λ (t : Tasks). t.slots) p.tasks ∙ ap (λ (f : ℕ → Option Suspended). put f slot (Some u)) turn.slots;
      ready_here = ap (λ (t : Tasks). times slot t.ready) p.tasks ∙ omega (arith, times_last slot body.tasks.ready, turn.not_ready);
      ready_other = λ l ne. ap (λ (t : Tasks). times l t.ready) p.tasks ∙ times_before l slot body.tasks.ready ne ∙ turn.ready l ne;
      same_name = refl;
      same_origin = refl;
      not_asking = refl;
      stands = record {
        plain = went;
        there = went_there S task.id kid s.plain went born s.there new;
        action = ap (λ (r : Running). (next given.program given.setup.steps (go_on r nothing)).0) s.running;
        running = ap (λ (r : Running). (next given.program given.setup.steps (go_on r nothing)).1) s.running;
        mode = refl;
      };
      kept = kept;
      fresh = λ i number. put_each (λ (i : ℕ) (q : Body). q.tasks.next ≤ number → fin.get T.tasks (record { core = i; number = number }) ≡ None) (bodies w) me e.body i
          (λ q l. both_new S task.id kid s.plain went born s.there new (record { core = i; number = number }) (later i number me body.tasks.next (counted_on number l))
          (st.calls.tasks.fresh i number (subst (λ (j : ℕ). (bodies w j).tasks.next ≤ number) (sym q) (omega (arith, turn.next, counted_on number l)))))
          (λ q l. both_new S task.id kid s.plain went born s.there new (record { core = i; number = number }) (elsewhere i number me body.tasks.next q) (st.calls.tasks.fresh i number l));
      unended = both_unended S task.id kid s.plain went born s.there new (sym (ap going_on mode)) refl;
      singles = λ id. omega (arith, p.singles id, ap (λ (q : Queues). weigh (is_single id) q.private + weigh (is_single id) q.public) turn.work);
      private = p.private;
      public = p.public;
      sends = p.sends;
    } in
    record {
      outcome = e;
      acts = refl;
      sends = p.bound;
      entry = entry.Spawn task.id way target args kid;
      marks = ap (λ (ms : List Mark). marked (entry.Spawn task.id way target args kid) ++ ms) p.marks;
      after = T;
      leads = spawn_leads given.program given.setup.cores given.setup.steps S task.id kid s.plain way target args s.there mode (s.action ∙ due) core new;
      keeps = kept_by given w S T me [] e me slot (Some u) (task.id ∷ []) st (turn_act given w S T me slot task u body e (λ id. is_named id kid) st here turn turns)
          (words_stay machine (bodies w) me S.objects st.words e.body.words S.objects (p.words ∙ turn.words) (same_memory S.objects));
    }
  where
    later : (i n me m : ℕ) → m + 1 ≤ n → (i == me && n == m) ≡ false
    later i n me m l = grind (arith, nat_tests, l)

    elsewhere : (i n me m : ℕ) → i ≢ me → (i == me && n == m) ≡ false
    elsewhere i n me m ne = grind (arith, nat_tests)
