-- Tasks that wait for something else, or go on after a call: one in its slot, or those of some calls.
use Rattle.std.proofs.Common.{◌≡◌, ◌≢◌, ◌⊎◌, ℕ, List, [], ◌∷◌, inl, inr, sym, ◌∙◌, ap, subst, refl, arith, Option, Some, None}
use Rattle.std.proofs.lemmas.Bool.{cases_eq}
use Rattle.gr_lang.specs.declared.action.Action.{Action}
use Rattle.gr_lang.specs.declared.action.Action.TheVariants as action
use Rattle.gr_lang.specs.declared.action.Reply.{Reply}
use Rattle.gr_lang.specs.declared.action.WaitingCall.{WaitingCall}
use Rattle.gr_view.specs.Places.{put}
use Rattle.gr_batch.specs.declared.wakes.Woken.{Woken}
use Rattle.gr_net.specs.Sums.{Each}
use Rattle.gr_net.proofs.Spreads.{put_at, put_other}
use Rattle.gr_machine.specs.Machines.{Machine}
use Rattle.gr_machine.specs.declared.waits.Waits.{Waits}
use Rattle.gr_machine.specs.States.{Suspended, Body}
use Rattle.gr_machine.specs.Slots.{goes_on, resumed_task, resumed_all, rewaiting_task, rewaiting}
use Rattle.gr_stands.specs.Worlds.{Given, machine_in}
use Rattle.gr_scopes.specs.Depths.{IsTrap, HasDepth}
use Rattle.gr_scopes.specs.Scopes.{IsCall}
use Rattle.gr_scopes.proofs.Depths.{one_for_arrive, one_for_finish, depth_after}
use Rattle.gr_scopes_opens.proofs.Common.{some_same}
use Rattle.gr_scopes_stays.specs.Stays.{IsNoScope, MayWaitFor, GoesOnUnder, Changes, SlotsStay}
use Rattle.gr_scopes_stays.proofs.Stays.{may_no_scope, loop_calm}

-- ---- one task

pub rewaits_under : (given : Given) (t : Suspended) (r : Waits) → IsNoScope t.waits → MayWaitFor t.action r → HasDepth given.program t → GoesOnUnder given t (record t { waits = r })
rewaits_under given t r calm may d = record {
  named = refl;
  scope = refl;
  counted = refl;
  opened = refl;
  waited = calm;
  waits = may;
  depth = record { first = d.first; depth = omega (arith, d.depth, loop_calm t.waits t.action calm, loop_calm r t.action (may_no_scope t.action r may)) };
}

-- After an action that neither opens a scope nor passes one.
pub goes_under : (given : Given) (t : Suspended) (word : Reply) (due : Action) → IsNoScope t.waits → t.action ≡ due → (IsTrap due → ⊥) → one_for_arrive due ≡ 0 → one_for_finish due ≡ 0 → HasDepth given.program t
    → GoesOnUnder given t (goes_on (machine_in given) t word)
goes_under given t word due calm is no_trap no_arrive no_finish d = record {
  named = refl;
  scope = refl;
  counted = refl;
  opened = refl;
  waited = calm;
  waits = tt;
  depth = depth_after given t t word due d is no_trap refl (omega (arith, loop_calm t.waits t.action calm, no_arrive, no_finish));
}

pub call_goes : (given : Given) (t : Suspended) (word : Reply) → IsNoScope t.waits → IsCall t.action → HasDepth given.program t → GoesOnUnder given t (goes_on (machine_in given) t word)
call_goes given t word calm is d = by t.action refl is
  where
    by : (x : Action) → t.action ≡ x → IsCall x → GoesOnUnder given t (goes_on (machine_in given) t word)
    by (action.Call op) e f = goes_under given t word (action.Call op) calm e (λ z. z) refl refl d
    by _ e f = absurd f

pub one_changes : (given : Given) (before after : ℕ → Option Suspended) (k : ℕ) (old new : Suspended) → before k ≡ Some old → after ≡ put before k (Some new) → GoesOnUnder given old new → SlotsStay given before after
one_changes given before after k old new there put_so goes l = elim (cases_eq l k) [
  | inl e ↦ inr (record {
    old = old;
    new = new;
    was = ap before e ∙ there;
    is = ap (λ (f : ℕ → Option Suspended). f l) put_so ∙ put_at before k (Some new) l e;
    goes = goes;
  })
  | inr ne ↦ inl (ap (λ (f : ℕ → Option Suspended). f l) put_so ∙ put_other before k (Some new) l ne)
]

-- ---- tasks of some calls

-- The task in the slot, if there is one, waits for what comes of its call.
pub record Calls (given : Given) (t : Suspended) : Type 0 where
  pub calm : IsNoScope t.waits
  pub call : IsCall t.action
  pub depth : HasDepth given.program t

abbrev pub CallsIn : Given → (ℕ → Option Suspended) → ℕ → Type 0
CallsIn given slots k = (t : Suspended) → slots k ≡ Some t → Calls given t

-- Nothing but tasks has changed.
pub record OnlyTasks (a b : Body) : Type 0 where
  pub scopes : b.scopes ≡ a.scopes
  pub stops : b.stops ≡ a.stops
  pub work : b.work ≡ a.work

pub only_both : (a b c : Body) → OnlyTasks a b → OnlyTasks b c → OnlyTasks a c
only_both a b c f g = record { scopes = g.scopes ∙ f.scopes; stops = g.stops ∙ f.stops; work = g.work ∙ f.work }

-- What the task of a call waits for.
abbrev pub MayFollow : Waits → Type 0
MayFollow r = (x : Action) → IsCall x → MayWaitFor x r

-- In each slot is the task that was, or it waits for something else.
pub record WaitsOn (given : Given) (before after : Option Suspended) : Type 0 where
  pub task : Suspended
  pub reason : Waits
  pub was : before ≡ Some task
  pub is : after ≡ Some (record task { waits = reason })
  pub calls : Calls given task
  pub may : MayFollow reason

abbrev pub Rewaited : Given → (ℕ → Option Suspended) → (ℕ → Option Suspended) → Type 0
Rewaited given before after = (l : ℕ) → (after l ≡ before l) ⊎ WaitsOn given (before l) (after l)

pub rewaited_stay : (given : Given) (before after : ℕ → Option Suspended) → Rewaited given before after → SlotsStay given before after
rewaited_stay given before after f l = elim (f l) [
  | inl e ↦ inl e
  | inr x ↦ inr (record {
    old = x.task;
    new = record x.task { waits = x.reason };
    was = x.was;
    is = x.is;
    goes = rewaits_under given x.task x.reason x.calls.calm (x.may x.task.action x.calls.call) x.calls.depth;
  })
]

module _ (given : Given) (slots : ℕ → Option Suspended) (reason : Waits) (may : MayFollow reason) where
  rewaits_one : (b : Body) (k : ℕ) → Rewaited given slots b.tasks.slots → CallsIn given slots k
      → Rewaited given slots (rewaiting_task b k reason (b.tasks.slots k)).tasks.slots × OnlyTasks b (rewaiting_task b k reason (b.tasks.slots k))
  rewaits_one b k f calls = by (b.tasks.slots k) refl
    where
      waits_at : (s : Suspended) → b.tasks.slots k ≡ Some s → (l : ℕ) → l ≡ k → WaitsOn given (slots l) (Some (record s { waits = reason }))
      waits_at s at l e = elim (f l) [
        | inl z ↦
            let was : slots l ≡ Some s = sym z ∙ ap b.tasks.slots e ∙ at in
            record { task = s; reason = reason; was = was; is = refl; calls = calls s (ap slots (sym e) ∙ was); may = may }
        | inr x ↦
            let same : record x.task { waits = x.reason } ≡ s = some_same (record x.task { waits = x.reason }) s (sym x.is ∙ ap b.tasks.slots e ∙ at) in
            record { task = x.task; reason = reason; was = x.was; is = ap (λ (u : Suspended). Some (record u { waits = reason })) (sym same); calls = x.calls; may = may }
      ]

      by : (o : Option Suspended) → b.tasks.slots k ≡ o → Rewaited given slots (rewaiting_task b k reason o).tasks.slots × OnlyTasks b (rewaiting_task b k reason o)
      by None at = (f, record { scopes = refl; stops = refl; work = refl })
      by (Some s) at = (
        λ l. elim (cases_eq l k) [
          | inl e ↦ inr (subst (WaitsOn given (slots l)) (sym (put_at b.tasks.slots k (Some (record s { waits = reason })) l e)) (waits_at s at l e))
          | inr ne ↦
              let same : put b.tasks.slots k (Some (record s { waits = reason })) l ≡ b.tasks.slots l = put_other b.tasks.slots k (Some (record s { waits = reason })) l ne in
              elim (f l) [ inl z ↦ inl (same ∙ z) | inr x ↦ inr (subst (WaitsOn given (slots l)) (sym same) x) ]
        ],
        record { scopes = refl; stops = refl; work = refl },
      )

  pub rewaits_all : (calls : List WaitingCall) (b : Body) → Rewaited given slots b.tasks.slots → Each (λ (call : WaitingCall). CallsIn given slots call.slot) calls
      → Rewaited given slots (rewaiting b reason calls).tasks.slots × OnlyTasks b (rewaiting b reason calls)
  rewaits_all [] b f g = (f, record { scopes = refl; stops = refl; work = refl })
  rewaits_all (call ∷ calls) b f g =
      let r = rewaits_one b call.slot f g.0 in
      let one = rewaiting_task b call.slot reason (b.tasks.slots call.slot) in
      let rest = rewaits_all calls one r.0 g.1 in
      (rest.0, only_both b one (rewaiting one reason calls) r.1 rest.1)

-- ---- tasks that go on

abbrev pub AllApart : List Woken → Type 0
AllApart [] = Unit
AllApart (wake ∷ wakes) = Each (λ (other : Woken). other.slot ≢ wake.slot) wakes × AllApart wakes

module _ (given : Given) (slots : ℕ → Option Suspended) where
  abbrev machine : Machine
  machine = machine_in given

  resumes_one : (b : Body) (wake : Woken) → SlotsStay given slots b.tasks.slots → b.tasks.slots wake.slot ≡ slots wake.slot → CallsIn given slots wake.slot
      → SlotsStay given slots (resumed_task machine b wake.slot wake.reply (b.tasks.slots wake.slot)).tasks.slots
      × OnlyTasks b (resumed_task machine b wake.slot wake.reply (b.tasks.slots wake.slot))
      × ((l : ℕ) → l ≢ wake.slot → (resumed_task machine b wake.slot wake.reply (b.tasks.slots wake.slot)).tasks.slots l ≡ b.tasks.slots l)
  resumes_one b wake f still calls = by (b.tasks.slots wake.slot) refl
    where
      by : (o : Option Suspended) → b.tasks.slots wake.slot ≡ o
          → SlotsStay given slots (resumed_task machine b wake.slot wake.reply o).tasks.slots × OnlyTasks b (resumed_task machine b wake.slot wake.reply o)
          × ((l : ℕ) → l ≢ wake.slot → (resumed_task machine b wake.slot wake.reply o).tasks.slots l ≡ b.tasks.slots l)
      by None at = (f, record { scopes = refl; stops = refl; work = refl }, λ l ne. refl)
      by (Some s) at =
          let was : slots wake.slot ≡ Some s = sym still ∙ at in
          let new = goes_on machine s wake.reply in
          let c = calls s was in (
            λ l. elim (cases_eq l wake.slot) [
              | inl e ↦ inr (record { old = s; new = new; was = ap slots e ∙ was; is = put_at b.tasks.slots wake.slot (Some new) l e; goes = call_goes given s wake.reply c.calm c.call c.depth })
              | inr ne ↦
                  let same : put b.tasks.slots wake.slot (Some new) l ≡ b.tasks.slots l = put_other b.tasks.slots wake.slot (Some new) l ne in
                  elim (f l) [ inl z ↦ inl (same ∙ z) | inr x ↦ inr (subst (Changes given (slots l)) (sym same) x) ]
            ],
            record { scopes = refl; stops = refl; work = refl },
            λ l ne. put_other b.tasks.slots wake.slot (Some new) l ne,
          )

  pub resumes_all : (wakes : List Woken) (b : Body) → SlotsStay given slots b.tasks.slots → Each (λ (wake : Woken). b.tasks.slots wake.slot ≡ slots wake.slot) wakes
      → Each (λ (wake : Woken). CallsIn given slots wake.slot) wakes → AllApart wakes
      → SlotsStay given slots (resumed_all machine b wakes).tasks.slots × OnlyTasks b (resumed_all machine b wakes)
  resumes_all [] b f still calls apart = (f, record { scopes = refl; stops = refl; work = refl })
  resumes_all (wake ∷ wakes) b f still calls apart =
      let r = resumes_one b wake f still.0 calls.0 in
      let one = resumed_task machine b wake.slot wake.reply (b.tasks.slots wake.slot) in
      let rest = resumes_all wakes one r.0 (still_on wakes r.2 still.1 apart.0) calls.1 apart.1 in
      (rest.0, only_both b one (resumed_all machine one wakes) r.1 rest.1)
    where
      still_on : (ws : List Woken)
          → ((l : ℕ) → l ≢ wake.slot → (resumed_task machine b wake.slot wake.reply (b.tasks.slots wake.slot)).tasks.slots l ≡ b.tasks.slots l)
          → Each (λ (x : Woken). b.tasks.slots x.slot ≡ slots x.slot) ws → Each (λ (x : Woken). x.slot ≢ wake.slot) ws
          → Each (λ (x : Woken). (resumed_task machine b wake.slot wake.reply (b.tasks.slots wake.slot)).tasks.slots x.slot ≡ slots x.slot) ws
      still_on [] same g apart = tt
      still_on (x ∷ ws) same g apart = (same x.slot apart.0 ∙ g.0, still_on ws same g.1 apart.1)
