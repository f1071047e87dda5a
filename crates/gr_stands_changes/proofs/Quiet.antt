-- Messages that tell of no task.
use Rattle.std.proofs.Common.{◌≡◌, ℕ, zero, suc, ◌+◌, ◌<◌, ◌==◌, ◌&&◌, ◌/◌, ◌^◌, Bool, true, false, nat_lt, nat_le, if◌then◌else◌, List, [], ◌∷◌, ◌++◌, map, length, drop, sym, ◌∙◌, ap, subst, refl, arith, mod-lt, Option, Some, None}
use Rattle.std.specs.Option.{option_map}
use Rattle.std.proofs.lemmas.Bool.{and_parts}
use Rattle.std.proofs.lemmas.Bool.Decides.{nat_tests}
use Rattle.gr_lang.specs.States.{State}
use Rattle.gr_lang.specs.declared.action.WaitingCall.{WaitingCall}
use Rattle.gr_msg.specs.declared.message.Msg.{Msg}
use Rattle.gr_msg.specs.declared.message.Msg.TheVariants as msg
use Rattle.gr_msg.specs.declared.message.ScopeId.{ScopeId}
use Rattle.gr_event.specs.Counts.{left_of, completed}
use Rattle.gr_event.specs.declared.counts.LocalCount.{LocalCount}
use Rattle.gr_event.specs.declared.counts.LocalLeft.{LocalLeft}
use Rattle.gr_event.specs.declared.counts.LocalLeft.TheVariants as rest
use Rattle.gr_event.specs.declared.masters.Master.{Master}
use Rattle.gr_vector.specs.Turns.{Turns, turn_of, granted, asked, grant_on_asking, ended, is_out}
use Rattle.gr_vector.specs.declared.master.Granted.{Granted}
use Rattle.gr_net.specs.Sums.{Each}
use Rattle.gr_net.proofs.Spreads.{Each-append, Each-drop}
use Rattle.gr_machine.specs.Machines.{Machine, is_core, home}
use Rattle.gr_machine.specs.States.{Letter, Turn, Vector, Body}
use Rattle.gr_machine.specs.Outcomes.{Outcome, Send, quietly}
use Rattle.gr_machine.specs.Spawns.{with_count}
use Rattle.gr_machine.specs.ScopeRuns.{can_complete}
use Rattle.gr_machine.specs.ScopeServes.{can_enrol_one, core_enrolled_at, completed_to}
use Rattle.gr_machine.specs.TurnServes.{grants, with_turns, turn_asked, turn_ended, turn_done, can_begin, turn_begun, group_granted, turn_granted, element_put, element_stored, element_got, element_fetched, element_answered, turn_answered, element_acked, put_sends, get_sends, put_answered, get_answered, with_turn}
use Rattle.gr_vector.specs.Plans.{plan_of}
use Rattle.gr_machine.specs.Serves.{serves}
use Rattle.gr_stands.specs.Worlds.{Given, machine_in, World, bodies}
use Rattle.gr_stands.specs.Stands.{IsSound, Stands}
use Rattle.gr_stands_calls.specs.Acting.{letter, IsFirstLetter, ActsQuietly}
use Rattle.gr_stands_calls.specs.Rests.{IsOfNoTask}
use Rattle.gr_stands_chains.proofs.Senders.{firsts_have_senders}
use Rattle.gr_stands_changes.specs.Changes.{LeavesTasks}
use Rattle.gr_stands_changes.specs.Quiet.{IsQuiet, TurnsAreOfCores}
use Rattle.gr_stands_changes.specs.Laws as laws
use Rattle.gr_stands_changes.proofs.Leaves.{leaves_kept}

-- What a message that tells of no task does at its core: tasks, units and words stay, and no mark is left.
record Leaves (n : ℕ) (body : Body) (e : Outcome) : Type 0 where
  tasks : e.body.tasks ≡ body.tasks
  work : e.body.work ≡ body.work
  words : e.body.words ≡ body.words
  sends : Each (λ send. IsOfNoTask send.message) e.sends
  bound : Each (λ send. send.to < n) e.sends
  marks : e.marks ≡ []

if_so : (b : Bool) (o e : Outcome) (P : Outcome → Type 0) → (b ≡ true → P o) → (if b then Some o else None) ≡ Some e → P e
if_so true o e P p h = subst P (same o e h) (p refl)
  where
    same : (x y : Outcome) → Some x ≡ Some y → x ≡ y
    same x y e = cc
if_so false o e P p h = absurd (cc)

some_so : (o e : Outcome) (P : Outcome → Type 0) → P o → Some o ≡ Some e → P e
some_so o e P p h = if_so true o e P (λ z. p) h

-- ---- sends

lower : (a b : ℕ) → nat_lt a b ≡ true → a < b
lower a b e = grind (arith, nat_tests, e)

granted_go : (n vector : ℕ) (head tail : ℕ) (cores : List ℕ) → Each (λ (c : ℕ). c < n) cores
    → Each (λ (s : Send). IsOfNoTask s.message) (grants vector (turn_of head tail cores)) × Each (λ (s : Send). s.to < n) (grants vector (turn_of head tail cores))
granted_go n vector head tail [] f = (tt, tt)
granted_go n vector head tail (c ∷ cores) f = ((tt, tt), (f.0, tt))

asked_go : (n vector from : ℕ) (turns : Turns) → from < n → Each (λ (c : ℕ). c < n) turns.cores
    → Each (λ (s : Send). IsOfNoTask s.message) (grants vector (grant_on_asking turns from)) × Each (λ (s : Send). s.to < n) (grants vector (grant_on_asking turns from))
asked_go n vector from turns l f = by (is_out turns)
  where
    by : (b : Bool) → Each (λ (s : Send). IsOfNoTask s.message) (grants vector (if b then None else granted (asked turns from)))
        × Each (λ (s : Send). s.to < n) (grants vector (if b then None else granted (asked turns from)))
    by true = (tt, tt)
    by false = granted_go n vector turns.head turns.tail (turns.cores ++ from ∷ []) (Each-append (λ (c : ℕ). c < n) turns.cores (from ∷ []) f (l, tt))

module _ (given : Given) (sound : IsSound given) where
  homes : (at : ℕ) → home (machine_in given) at < given.setup.cores
  homes at = mod-lt (at / given.setup.block) {m = given.setup.cores} (omega (arith, sound.cores))

  puts_go : (vector : ℕ) (puts : List (ℕ × ℕ)) → Each (λ (s : Send). IsOfNoTask s.message) (put_sends (machine_in given) vector puts) × Each (λ (s : Send). s.to < given.setup.cores) (put_sends (machine_in given) vector puts)
  puts_go vector [] = (tt, tt)
  puts_go vector (p ∷ ps) = let r = puts_go vector ps in ((tt, r.0), (homes p.0, r.1))

  gets_go : (vector : ℕ) (gets : List ℕ) → Each (λ (s : Send). IsOfNoTask s.message) (get_sends (machine_in given) vector gets) × Each (λ (s : Send). s.to < given.setup.cores) (get_sends (machine_in given) vector gets)
  gets_go vector [] = (tt, tt)
  gets_go vector (p ∷ ps) = let r = gets_go vector ps in ((tt, r.0), (homes p, r.1))

-- ---- each kind

module _ (given : Given) (sound : IsSound given) (me from : ℕ) (body : Body) (l : from < given.setup.cores)
    (of_cores : (vector : ℕ) (turns : Turns) → body.vectors.masters vector ≡ Some turns → Each (λ (c : ℕ). c < given.setup.cores) turns.cores) where
  abbrev machine : Machine
  machine = machine_in given

  abbrev n : ℕ
  n = given.setup.cores

  plain : (b : Body) → b.tasks ≡ body.tasks → b.work ≡ body.work → b.words ≡ body.words → Leaves n body (quietly b)
  plain b t w x = record { tasks = t; work = w; words = x; sends = tt; bound = tt; marks = refl }

  of_complete : (scope : ScopeId) (b : Body) (left : LocalLeft) → b.tasks ≡ body.tasks → b.work ≡ body.work → b.words ≡ body.words → scope.core < n → Leaves n body (completed_to b scope left)
  of_complete scope b rest.More t w x c = plain b t w x
  of_complete scope b rest.Zero t w x c = record { tasks = t; work = w; words = x; sends = (tt, tt); bound = (c, tt); marks = refl }

  of_turn : (vector : ℕ) (turns : Option Turns) (e : Outcome) → body.vectors.masters vector ≡ turns → serves machine me body from (msg.Turn vector) ≡ Some e → Leaves n body e
  of_turn vector turns e is h = by turns is (subst (λ (o : Option Turns). turn_asked body from vector o ≡ Some e) is h)
    where
      by : (o : Option Turns) → body.vectors.masters vector ≡ o → turn_asked body from vector o ≡ Some e → Leaves n body e
      by None q h = absurd (cc)
      by (Some t) q h =
          let r = asked_go n vector from t l (of_cores vector t q) in
          some_so (record { body = with_turns body vector (asked t from); sends = grants vector (grant_on_asking t from); marks = [] }) e (Leaves n body)
          (record { tasks = refl; work = refl; words = refl; sends = r.0; bound = r.1; marks = refl }) h

  of_done : (vector head tail : ℕ) (turns : Option Turns) (e : Outcome) → body.vectors.masters vector ≡ turns → serves machine me body from (msg.Done vector head tail) ≡ Some e → Leaves n body e
  of_done vector head tail turns e is h = by turns is (subst (λ (o : Option Turns). turn_done body vector head tail o ≡ Some e) is h)
    where
      by : (o : Option Turns) → body.vectors.masters vector ≡ o → turn_done body vector head tail o ≡ Some e → Leaves n body e
      by None q h = absurd (cc)
      by (Some t) q h =
          let r = granted_go n vector head tail (drop 1 t.cores) (Each-drop (λ (c : ℕ). c < n) 1 t.cores (of_cores vector t q)) in
          if_so (is_out t) (turn_ended body vector (ended t head tail)) e (Leaves n body)
          (λ z. record { tasks = refl; work = refl; words = refl; sends = r.0; bound = r.1; marks = refl }) h

  of_grant : (vector head tail : ℕ) (found : Option Vector) (e : Outcome) → turn_granted machine body vector head tail found ≡ Some e → Leaves n body e
  of_grant vector head tail None e h = absurd (cc)
  of_grant vector head tail (Some v) e h = by v.turn v.groups h
    where
      by : (turn : Option Turn) (groups : List (List WaitingCall)) → group_granted machine body vector head tail v turn groups ≡ Some e → Leaves n body e
      by None (calls ∷ groups) h =
          let plan = plan_of calls head tail in
          let p = puts_go given sound vector plan.puts in
          let g = gets_go given sound vector plan.gets in
          if_so (can_begin body vector head tail calls) (turn_begun machine body vector v calls head tail plan) e (Leaves n body)
          (λ z. record {
            tasks = refl;
            work = refl;
            words = refl;
            sends = Each-append (λ (s : Send). IsOfNoTask s.message) (put_sends machine vector plan.puts) (get_sends machine vector plan.gets) p.0 g.0;
            bound = Each-append (λ (s : Send). s.to < n) (put_sends machine vector plan.puts) (get_sends machine vector plan.gets) p.1 g.1;
            marks = refl;
          }) h
      by None [] h = absurd (cc)
      by (Some t) groups h = absurd (cc)

  of_put : (vector position word : ℕ) (found : Option Vector) (e : Outcome) → element_stored body from vector position word found ≡ Some e → Leaves n body e
  of_put vector position word None e h = absurd (cc)
  of_put vector position word (Some v) e h = by (v.part position) h
    where
      by : (old : Option ℕ) → element_put body from vector position word v old ≡ Some e → Leaves n body e
      by (Some old) h = absurd (cc)
      by None h = some_so _ e (Leaves n body) (record { tasks = refl; work = refl; words = refl; sends = (tt, tt); bound = (l, tt); marks = refl }) h

  of_get : (vector position : ℕ) (found : Option Vector) (e : Outcome) → element_fetched body from vector position found ≡ Some e → Leaves n body e
  of_get vector position None e h = absurd (cc)
  of_get vector position (Some v) e h = by (v.part position) h
    where
      by : (old : Option ℕ) → element_got body from vector position v old ≡ Some e → Leaves n body e
      by None h = absurd (cc)
      by (Some word) h = some_so _ e (Leaves n body) (record { tasks = refl; work = refl; words = refl; sends = (tt, tt); bound = (l, tt); marks = refl }) h

  of_ack : (vector position : ℕ) (got : Option ℕ) (found : Option Vector) (e : Outcome) → element_acked body vector position got found ≡ Some e → Leaves n body e
  of_ack vector position got None e h = absurd (cc)
  of_ack vector position got (Some v) e h = by v.turn h
    where
      answered : (t : Turn) (word : Option ℕ) → element_answered body vector v t position word ≡ Some e → Leaves n body e
      answered t None h = if_so (t.puts position) (quietly (with_turn body vector v (put_answered t position))) e (Leaves n body) (λ z. plain (with_turn body vector v (put_answered t position)) refl refl refl) h
      answered t (Some word) h = if_so (t.gets position) (quietly (with_turn body vector v (get_answered t position word))) e (Leaves n body) (λ z. plain (with_turn body vector v (get_answered t position word)) refl refl refl) h

      by : (turn : Option Turn) → turn_answered body vector position got v turn ≡ Some e → Leaves n body e
      by None h = absurd (cc)
      by (Some t) h = answered t got h

  each_leaves : (m : Msg) (e : Outcome) → IsQuiet m → serves machine me body from m ≡ Some e → Leaves n body e
  each_leaves (msg.Enrol scope) e q h = if_so (can_enrol_one (body.scopes.masters scope)) (core_enrolled_at body from scope (body.scopes.masters scope)) e (Leaves n body)
      (λ z. record { tasks = refl; work = refl; words = refl; sends = (tt, tt); bound = (l, tt); marks = refl }) h
  each_leaves (msg.Complete scope count) e q h = if_so (is_core machine scope.core && can_complete (body.scopes.counts scope) count)
      (completed_to (with_count body scope (completed (body.scopes.counts scope) count)) scope (left_of (body.scopes.counts scope) count)) e (Leaves n body)
      (λ z. of_complete scope (with_count body scope (completed (body.scopes.counts scope) count)) (left_of (body.scopes.counts scope) count) refl refl refl
      (lower scope.core given.setup.cores (and_parts (is_core machine scope.core) (can_complete (body.scopes.counts scope) count) z).0)) h
  each_leaves msg.StealAsk e q h = some_so _ e (Leaves n body) (plain (record body { steals = record body.steals { waiting = body.steals.waiting ++ from ∷ [] } }) refl refl refl) h
  each_leaves (msg.Turn vector) e q h = of_turn vector (body.vectors.masters vector) e refl h
  each_leaves (msg.Grant vector head tail) e q h = of_grant vector head tail (body.vectors.vectors vector) e h
  each_leaves (msg.Done vector head tail) e q h = of_done vector head tail (body.vectors.masters vector) e refl h
  each_leaves (msg.ElemPut vector position word) e q h = of_put vector position word (body.vectors.vectors vector) e h
  each_leaves (msg.ElemGet vector position) e q h = of_get vector position (body.vectors.vectors vector) e h
  each_leaves (msg.ElemAck vector position got) e q h = of_ack vector position got (body.vectors.vectors vector) e h
  each_leaves _ e q h = absurd q

of_none : (m : Msg) → IsQuiet m → IsOfNoTask m
of_none (msg.Request k id operation x y z) q = absurd q
of_none (msg.Reply k id first second) q = absurd q
of_none (msg.Spawn u) q = absurd q
of_none (msg.StealGive u) q = absurd q
of_none _ q = tt

pub quiet_messages_are_served : laws.QuietMessagesAreServed
quiet_messages_are_served given w S me from m e sound st senders turns first q h =
    let f : Leaves given.setup.cores (bodies w me) e = each_leaves given sound me from (bodies w me) (firsts_have_senders given w me from m senders first) (turns me) m e q h in
    record {
      outcome = e;
      acts = refl;
      sends = f.bound;
      marks = f.marks;
      keeps = leaves_kept given w S me (letter from m ∷ []) e st first.here (record { tasks = f.tasks; work = f.work; words = f.words; letters = (of_none m q, tt); sends = f.sends });
    }
