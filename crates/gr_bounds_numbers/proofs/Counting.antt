-- What raises a share of a core's numbers: each way in which an outcome changes them.
use Rattle.std.proofs.Common.{◌≡◌, ◌≤◌, ℕ, ◌+◌, ◌-◌, ◌==◌, List, [], ◌∷◌, ◌++◌, length, refl, sym, ap, ◌∙◌, subst, arith}
use Rattle.std.specs.Prelude.{Bool, true, false, ◌&&◌, nat_lt, Option, Some, None, is_none}
use Rattle.std.specs.Option.{option_map}
use Rattle.gr_lang.specs.declared.action.Action.{Action}
use Rattle.gr_lang.specs.declared.action.Action.TheVariants as action
use Rattle.gr_lang.specs.declared.action.How.{How}
use Rattle.gr_lang.specs.declared.action.How.TheVariants as how
use Rattle.gr_lang.specs.declared.action.TaskId.{TaskId}
use Rattle.gr_view.specs.Places.{put}
use Rattle.gr_batch.specs.Batches.{batches_of, rest_of}
use Rattle.gr_batch.specs.declared.combiner.Batch.{Batch}
use Rattle.gr_batch.specs.declared.combiner.Held.{Held}
use Rattle.gr_msg.specs.declared.message.ScopeId.{ScopeId}
use Rattle.gr_msg.specs.declared.message.Unit.{Unit as WorkUnit}
use Rattle.gr_msg.specs.declared.message.Msg.{Msg}
use Rattle.gr_msg.specs.declared.message.Msg.TheVariants as msg
use Rattle.gr_event.specs.Scopes.{put_scope}
use Rattle.gr_event.specs.Counts.{completed}
use Rattle.gr_event.specs.Masters.{new_master, wait_for, enrol_one, after_leave}
use Rattle.gr_event.specs.declared.counts.LocalCount.{LocalCount}
use Rattle.gr_event.specs.declared.counts.LocalCount.TheVariants as count
use Rattle.gr_event.specs.declared.counts.LocalLeft.{LocalLeft}
use Rattle.gr_event.specs.declared.counts.LocalLeft.TheVariants as rest
use Rattle.gr_event.specs.declared.masters.Master.{Master}
use Rattle.gr_event.specs.declared.masters.Waiter.{Waiter}
use Rattle.gr_event.specs.declared.masters.Waiter.TheVariants as waiter
use Rattle.gr_agg.specs.Laws.{Adds}
use Rattle.gr_net.proofs.Spreads.{Each-append}
use Rattle.gr_machine.specs.Machines.{Machine}
use Rattle.gr_machine.specs.States.{Scopes, Suspended, Batches, Body}
use Rattle.gr_machine.specs.Outcomes.{Send, Outcome, followed, quietly}
use Rattle.gr_machine.specs.Slots.{innermost}
use Rattle.gr_machine.specs.Calls.{joins}
use Rattle.gr_machine.specs.Spawns.{placed, made_in, planted, with_count, waits_enrolment}
use Rattle.gr_machine.specs.ScopeRuns.{is_new_scope, finishes_in, loops_in, with_leave, arrived, arrives_early, passes}
use Rattle.gr_machine.specs.ScopeServes.{planted_by, planted_in, planted_all, completed_to}
use Rattle.gr_machine.specs.Runs.{begins, with_rest, without_ready}
use Rattle.gr_machine.specs.Closes.{batch_sent, batches_sent, with_combiner, closes_combiner}
use Rattle.gr_machine.proofs.ActionFacts.{choice}
use Rattle.gr_stands.specs.Worlds.{Weight, of_sends}
use Rattle.gr_bounds.specs.Outcomes.{Raises}
use Rattle.gr_bounds_numbers.proofs.Plain.{Numbers, numbers, IsPlain, ArePlain, rewaiting_same}
use Rattle.gr_bounds_numbers.proofs.Rows.{NumberRules}

-- ---- the numbers after

abbrev pub with_counts : Numbers → ScopeId → Option LocalCount → Numbers
with_counts n scope local = record n { scopes = record n.scopes { counts = put_scope n.scopes.counts scope local } }

abbrev pub with_master : Numbers → ScopeId → Option Master → Numbers
with_master n scope master = record n { scopes = record n.scopes { masters = put_scope n.scopes.masters scope master } }

abbrev pub opened : Numbers → ScopeId → ℕ → Master → Numbers
opened n scope tasks master = record n {
  scopes = record { counts = put_scope n.scopes.counts scope (Some (count.Active tasks)); masters = put_scope n.scopes.masters scope (Some master); next = n.scopes.next + 1 };
}

abbrev pub more_tasks : Numbers → ℕ → Numbers
more_tasks n more = record n { task = n.task + more }

abbrev pub left_in : Numbers → ScopeId → Numbers
left_in n scope = with_master n scope (after_leave (n.scopes.masters scope))

abbrev pub with_calls : Numbers → ℕ → List Held → Numbers
with_calls n object held = record n { combiners = put n.combiners object held }

abbrev pub more_batches : Numbers → ℕ → Numbers
more_batches n more = record n { batch = n.batch + more }

-- ---- the rules

module _ (F : ℕ → Numbers → ℕ → Type 0) (weight : Weight) where
  -- A share of other numbers, with what is sent, of so much at most.
  pub record Share (me : ℕ) (n : Numbers) (sent most : ℕ) : Type 0 where
    pub share : ℕ
    pub fact : F me n share
    pub all : share + sent ≤ most

  pub record CountRules (machine : Machine) (Known : ℕ → Body → Type 0) : Type 0 where
    pub adds : (from to : ℕ) → Adds (weight from to)
    pub light : (from to : ℕ) (message : Msg) → IsPlain message → weight from to message ≡ 0
    pub knows : (me : ℕ) (body : Body) → Known me body → Known me (without_ready body)
    pub more : (me : ℕ) (n : Numbers) (x : ℕ) → F me n x → F me n (x + 1)
    pub joined : (me : ℕ) (n : Numbers) (object : ℕ) (held : Held) (x : ℕ) → F me n x → F me (with_calls n object (n.combiners object ++ held ∷ [])) (x + 1)
    pub closed : (me : ℕ) (n : Numbers) (object : ℕ) (x : ℕ) → F me n x → F me (more_batches (with_calls n object (rest_of (n.combiners object))) (length (batches_of (n.combiners object)))) (x + 1)
    pub made : (me : ℕ) (n : Numbers) (x : ℕ) → F me n x → F me (more_tasks n 1) (x + 1)
    pub counted : (me : ℕ) (n : Numbers) (scope : ScopeId) (tasks : ℕ) → n.scopes.counts scope ≡ Some (count.Active tasks)
        → (x : ℕ) → F me n x → F me (more_tasks (with_counts n scope (Some (count.Active (tasks + 1)))) 1) (x + 1)
    pub asks : (me : ℕ) (n : Numbers) (scope : ScopeId) (slot : ℕ) → n.scopes.counts scope ≡ None
        → (x : ℕ) → F me n x → Share me (with_counts n scope (Some (count.Waits (slot ∷ [])))) (weight me scope.core (msg.Enrol scope)) (x + 1)
    pub waits : (me : ℕ) (n : Numbers) (scope : ScopeId) (slot : ℕ) (slots : List ℕ) → n.scopes.counts scope ≡ Some (count.Waits slots)
        → (x : ℕ) → F me n x → F me (with_counts n scope (Some (count.Waits (slots ++ slot ∷ [])))) (x + 1)
    pub acked : (me : ℕ) (n : Numbers) (scope : ScopeId) (slots : List ℕ) (some : ℕ) → n.scopes.counts scope ≡ Some (count.Waits slots) → some ≤ length slots
        → (x : ℕ) → F me n x → F me (more_tasks (with_counts n scope (Some (count.Active (length slots)))) some) (x + 1)
    pub finish : (me : ℕ) (n : Numbers) (scope : ScopeId) → n.scopes.counts scope ≡ None → n.scopes.masters scope ≡ None → (x : ℕ) → F me n x → F me (opened n scope 1 new_master) (x + 1)
    pub range : (me : ℕ) (body : Body) (slot : ℕ) (task : Suspended) → Known me body → body.tasks.slots slot ≡ Some task
        → (lo hi grain target : ℕ) (args : List ℕ) → task.action ≡ action.Loop lo hi grain target args
        → (scope : ScopeId) → body.scopes.counts scope ≡ None → body.scopes.masters scope ≡ None
        → (who : Waiter) (x : ℕ) → F me (numbers body) x → F me (opened (numbers body) scope (hi - lo) (wait_for who new_master)) (x + 1)
    pub completed_by : (me : ℕ) (n : Numbers) (scope : ScopeId) (tasks : ℕ) (x : ℕ) → F me n x → F me (with_counts n scope (completed (n.scopes.counts scope) tasks)) x
    pub waited_by : (me : ℕ) (n : Numbers) (scope : ScopeId) (who : Waiter) (x : ℕ) → F me n x → F me (with_master n scope (option_map (wait_for who) (n.scopes.masters scope))) x
    pub left_by : (me : ℕ) (n : Numbers) (scope : ScopeId) (x : ℕ) → F me n x → F me (left_in n scope) x
    pub enrols : (me from : ℕ) (n : Numbers) (scope : ScopeId) (x : ℕ) → F me n x → Share me (with_master n scope (option_map enrol_one (n.scopes.masters scope))) 0 (x + (weight from me (msg.Enrol scope) + 1))
    pub ends : (from to : ℕ) (scope : ScopeId) → weight from to (msg.Complete scope 1) ≤ 1

-- ---- outcomes

placed_same : (me : ℕ) (body : Body) (way : How) (work : WorkUnit) → numbers (placed me body way work).body ≡ numbers body
placed_same me body how.Here work = refl
placed_same me body (how.At core) work = choice (λ (outcome : Outcome). numbers outcome.body ≡ numbers body) (core == me) _ _ refl refl
placed_same me body how.Offer work = refl

placed_plain : (me : ℕ) (body : Body) (way : How) (work : WorkUnit) → ArePlain (placed me body way work).sends
placed_plain me body how.Here work = tt
placed_plain me body (how.At core) work = choice (λ (outcome : Outcome). ArePlain outcome.sends) (core == me) _ _ tt (tt, tt)
placed_plain me body how.Offer work = tt

module _ (machine : Machine) (me : ℕ) where
  planted_same : (body : Body) (slot : ℕ) (task : Suspended) (way : How) (target : ℕ) (args : List ℕ) → numbers (planted machine me body slot task way target args).body ≡ more_tasks (numbers body) 1
  planted_same body slot task way target args = placed_same me (made_in machine me body slot task) way _

  planted_plain : (body : Body) (slot : ℕ) (task : Suspended) (way : How) (target : ℕ) (args : List ℕ) → ArePlain (planted machine me body slot task way target args).sends
  planted_plain body slot task way target args = placed_plain me (made_in machine me body slot task) way _

  -- A slot makes a task, or none.
  record OneMore (body : Body) (outcome : Outcome) : Type 0 where
    more : ℕ
    few : more ≤ 1
    same : numbers outcome.body ≡ more_tasks (numbers body) more
    sends : ArePlain outcome.sends

  no_more : (n : Numbers) → n ≡ more_tasks n 0
  no_more n = ap (λ (t : ℕ). record n { task = t }) (omega arith)

  by_one : (body : Body) (slot : ℕ) (task : Suspended) (what : Action) → OneMore body (planted_by machine me body slot task what)
  by_one body slot task (action.Spawn way target args) =
      record { more = 1; few = omega arith; same = planted_same body slot task way target args; sends = planted_plain body slot task way target args }
  by_one body slot task _ = record { more = 0; few = omega arith; same = no_more (numbers body); sends = tt }

  in_one : (body : Body) (slot : ℕ) (task : Option Suspended) → OneMore body (planted_in machine me body slot task)
  in_one body slot None = record { more = 0; few = omega arith; same = no_more (numbers body); sends = tt }
  in_one body slot (Some task) = by_one body slot task task.action

  record SomeMore (before : Outcome) (after : Outcome) (most : ℕ) : Type 0 where
    more : ℕ
    few : more ≤ most
    same : numbers after.body ≡ more_tasks (numbers before.body) more
    sends : ArePlain before.sends → ArePlain after.sends

  twice_more : (n : Numbers) (one other : ℕ) → more_tasks (more_tasks n one) other ≡ more_tasks n (one + other)
  twice_more n one other = ap (λ (t : ℕ). record n { task = t }) (omega arith)

  all_more : (outcome : Outcome) (slots : List ℕ) → SomeMore outcome (planted_all machine me outcome slots) (length slots)
  all_more outcome [] = record { more = 0; few = omega arith; same = no_more (numbers outcome.body); sends = λ p. p }
  all_more outcome (slot ∷ slots) =
      let first : Outcome = planted_in machine me outcome.body slot (outcome.body.tasks.slots slot) in
      let one = in_one outcome.body slot (outcome.body.tasks.slots slot) in
      let others = all_more (followed outcome first) slots in
      record {
        more = one.more + others.more;
        few = omega (arith, one.few, others.few);
        same = others.same ∙ ap (λ (n : Numbers). more_tasks n others.more) one.same ∙ twice_more (numbers outcome.body) one.more others.more;
        sends = λ p. others.sends (Each-append (λ (send : Send). IsPlain send.message) outcome.sends first.sends p one.sends);
      }

  -- Batches go off.
  record Sent (object : ℕ) (before after : Outcome) (more : ℕ) : Type 0 where
    same : numbers after.body ≡ record (numbers before.body) { batch = before.body.batches.next + more }
    sends : ArePlain before.sends → ArePlain after.sends

  sent_same : (body : Body) (object : ℕ) (batch : Batch) → numbers (batch_sent machine body object batch).body ≡ record (numbers body) { batch = body.batches.next + 1 }
  sent_same body object batch = ap (λ (n : Numbers). record n { batch = n.batch + 1 }) (rewaiting_same body _ batch.calls)

  other_batch : (n : Numbers) (a b c : ℕ) → a ≡ b + c → record n { batch = a } ≡ record n { batch = b + c }
  other_batch n a b c e = ap (λ (t : ℕ). record n { batch = t }) e

  all_sent : (object : ℕ) (outcome : Outcome) (batches : List Batch) → Sent object outcome (batches_sent machine object outcome batches) (length batches)
  all_sent object outcome [] = record { same = other_batch (numbers outcome.body) outcome.body.batches.next outcome.body.batches.next 0 (omega arith); sends = λ p. p }
  all_sent object outcome (batch ∷ batches) =
      let first : Outcome = batch_sent machine outcome.body object batch in
      let others = all_sent object (followed outcome first) batches in
      record {
        same = others.same ∙ ap (λ (n : Numbers). record n { batch = n.batch + length batches }) (sent_same outcome.body object batch)
            ∙ other_batch (numbers outcome.body) ((outcome.body.batches.next + 1) + length batches) outcome.body.batches.next (length (batch ∷ batches)) (omega arith);
        sends = λ p. others.sends (Each-append (λ (send : Send). IsPlain send.message) outcome.sends first.sends p (tt, tt));
      }

rest_same : (body : Body) (target : ℕ) (args : List ℕ) (scope : ScopeId) (origin : ℕ) (owner : TaskId) (lo hi grain : ℕ) → numbers (with_rest body target args scope origin owner lo hi grain) ≡ numbers body
rest_same body target args scope origin owner lo hi grain = choice (λ (after : Body). numbers after ≡ numbers body) (nat_lt lo hi) _ _ refl refl

none_there : {X : Type 0} (o : Option X) → is_none o ≡ true → o ≡ None
none_there None e = refl
none_there (Some x) e = absurd (cc)

both_true : (a b : Bool) → (a && b) ≡ true → (a ≡ true) × (b ≡ true)
both_true true true e = (refl, refl)
both_true true false e = absurd (cc)
both_true false b e = absurd (cc)

is_new : (body : Body) (scope : ScopeId) → is_new_scope body scope ≡ true → (body.scopes.counts scope ≡ None) × (body.scopes.masters scope ≡ None)
is_new body scope e =
    let both = both_true (is_none (body.scopes.counts scope)) (is_none (body.scopes.masters scope)) e in
    (none_there (body.scopes.counts scope) both.0, none_there (body.scopes.masters scope) both.1)

module _ (F : ℕ → Numbers → ℕ → Type 0) (weight : Weight) (machine : Machine) (Known : ℕ → Body → Type 0) (rules : CountRules F weight machine Known) where
  abbrev AtMost : ℕ → Body → ℕ → Type 0
  AtMost me body x = F me (numbers body) x

  no_weight : (me : ℕ) (sends : List Send) → ArePlain sends → of_sends weight me sends ≡ 0
  no_weight me [] p = refl
  no_weight me (send ∷ sends) p = omega (arith, rules.light me send.to send.message p.0, no_weight me sends p.1)

  one_more : (me : ℕ) (body : Body) (outcome : Outcome) (after : Numbers) → numbers outcome.body ≡ after → ArePlain outcome.sends
      → ((x : ℕ) → F me (numbers body) x → F me after (x + 1)) → Raises AtMost weight me body outcome 1
  one_more me body outcome after e p f x fact =
      record { share = x + 1; body = subst (λ (n : Numbers). F me n (x + 1)) (sym e) (f x fact); all = omega (arith, no_weight me outcome.sends p) }

  no_more_in : (me : ℕ) (body : Body) (outcome : Outcome) (more : ℕ) → ArePlain outcome.sends → ((x : ℕ) → F me (numbers body) x → F me (numbers outcome.body) x) → Raises AtMost weight me body outcome more
  no_more_in me body outcome more p f x fact = record { share = x; body = f x fact; all = omega (arith, no_weight me outcome.sends p) }

  arrived_same : (me : ℕ) (body : Body) (slot : ℕ) (scope : ScopeId) (x : ℕ) → F me (numbers body) x → F me (numbers (arrived body scope slot)) x
  arrived_same me body slot scope x fact = rules.waited_by me (with_counts (numbers body) scope (completed (body.scopes.counts scope) 1)) scope (waiter.Task slot) x (rules.completed_by me (numbers body) scope 1 x fact)

  completes_raise : (me : ℕ) (body : Body) (scope : ScopeId) (tasks more : ℕ) (left : LocalLeft)
      → Raises AtMost weight me body (completed_to (with_count body scope (completed (body.scopes.counts scope) tasks)) scope left) more
  completes_raise me body scope tasks more rest.More =
      no_more_in me body (completed_to (with_count body scope (completed (body.scopes.counts scope) tasks)) scope rest.More) more tt (λ x fact. rules.completed_by me (numbers body) scope tasks x fact)
  completes_raise me body scope tasks more rest.Zero =
      no_more_in me body (completed_to (with_count body scope (completed (body.scopes.counts scope) tasks)) scope rest.Zero) more (tt, tt) (λ x fact. rules.completed_by me (numbers body) scope tasks x fact)

  pub number_rules : NumberRules AtMost weight machine Known
  number_rules = record {
    adds = rules.adds;
    light = rules.light;
    looks = λ me body other x e fact. subst (λ (n : Numbers). F me n x) (sym e) fact;
    knows = rules.knows;
    joined = λ me body slot task call object key. one_more me body (joins body slot task call object key) _ refl tt (λ x fact. rules.joined me (numbers body) object _ x fact);
    counted = λ me body slot task tasks e way target args. (let scoped = with_count body (innermost task) (Some (count.Active (tasks + 1))) in
        one_more me body (planted machine me scoped slot task way target args) _ (planted_same machine me scoped slot task way target args) (planted_plain machine me scoped slot task way target args)
        (λ x fact. rules.counted me (numbers body) (innermost task) tasks e x fact));
    asks_first = λ me body slot task e x fact. (let s = rules.asks me (numbers body) (innermost task) slot e x fact in record { share = s.share; body = s.fact; all = omega (arith, s.all) });
    waits_behind = λ me body slot task slots e. one_more me body (waits_enrolment (with_count body (innermost task) (Some (count.Waits (slots ++ slot ∷ [])))) slot task (innermost task)) _ refl tt (λ x fact. rules.waits me (numbers body) (innermost task) slot slots e x fact);
    finish = λ me body slot task scope e. (let new = is_new body scope e in one_more me body (finishes_in machine body slot task scope) _ refl tt (λ x fact. rules.finish me (numbers body) scope new.0 new.1 x fact));
    range = λ me body slot task scope known there e lo hi grain target args a. (let new = is_new body scope e in
        one_more me body (loops_in me body slot task lo hi grain target args scope) _ refl tt (λ x fact. rules.range me body slot task known there lo hi grain target args a scope new.0 new.1 (waiter.Task slot) x fact));
    early = λ me body slot task scope. no_more_in me body (arrives_early (arrived body scope slot) slot task scope) 1 tt (λ x fact. arrived_same me body slot scope x fact);
    early_left = λ me body slot task scope. no_more_in me body (arrives_early (with_leave (arrived body scope slot) scope) slot task scope) 1 tt (λ x fact. rules.left_by me (numbers (arrived body scope slot)) scope x (arrived_same me body slot scope x fact));
    last = λ me body slot task scope. no_more_in me body (passes machine (with_leave (arrived body scope slot) scope) slot task) 1 tt (λ x fact. rules.left_by me (numbers (arrived body scope slot)) scope x (arrived_same me body slot scope x fact));
    end = λ me body slot task x fact. record { share = x; body = fact; all = omega (arith, rules.ends me task.origin task.scope) };
    index = λ me body slot target args scope origin owner lo hi grain. one_more me body (begins machine me body slot target args scope origin owner lo hi grain) _
        (rest_same _ target args scope origin owner (lo + 1) hi grain) tt (λ x fact. rules.made me (numbers body) x fact);
    core_enrols = λ me body from scope x fact. (let s = rules.enrols me from (numbers body) scope x fact in record { share = s.share; body = s.fact; all = omega (arith, s.all, rules.light me from (msg.EnrolAck scope) tt) });
    acks = λ me body scope slots e. (let first : Outcome = quietly (with_count body scope (Some (count.Active (length slots)))) in
        let all = all_more machine me first slots in
        one_more me body (planted_all machine me first slots) _ all.same (all.sends tt) (λ x fact. rules.acked me (numbers body) scope slots all.more e all.few x fact));
    completes = λ me body from scope tasks more. completes_raise me body scope tasks (weight from me (msg.Complete scope tasks) + 1) more;
    leaves = λ me body other scope t s b x fact. subst (λ (n : Numbers). F me n x) (sym (leaves_same body other scope t s b)) (rules.left_by me (numbers body) scope x fact);
    close = λ me body object. (let first : Outcome = quietly (with_combiner body object (rest_of (body.batches.combiners object))) in
        let all = all_sent machine me object first (batches_of (body.batches.combiners object)) in
        one_more me body (closes_combiner machine body object (body.batches.combiners object)) _ all.same (all.sends tt) (λ x fact. rules.closed me (numbers body) object x fact));
  }
    where
      leaves_same : (body other : Body) (scope : ScopeId) → other.tasks.next ≡ body.tasks.next → other.scopes ≡ (with_leave body scope).scopes → other.batches ≡ body.batches
          → numbers other ≡ left_in (numbers body) scope
      leaves_same body other scope t s b =
          ap (λ (k : ℕ). record (numbers other) { task = k }) t
          ∙ ap (λ (c : Scopes). record (numbers other) { task = body.tasks.next; scopes = c }) s
          ∙ ap (λ (c : Batches). record { task = body.tasks.next; scopes = (with_leave body scope).scopes; combiners = c.combiners; batch = c.next }) b
