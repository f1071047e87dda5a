-- The entries of marks: which leave the words of a vector, and what the calls of a turn do to them.
use Rattle.std.proofs.Common.{◌≡◌, ◌≢◌, ℕ, Bool, true, false, if◌then◌else◌, List, [], ◌∷◌, length, map, slice_get, sym, ◌∙◌, ap, subst, refl, arith, Option, Some, None}
use Rattle.std.specs.FinMap as fin
use Rattle.std.specs.Option.{option_and_then}
use Rattle.std.specs.List.{zip}
use Rattle.gr_syntax.specs.declared.syntax.Program.{Program}
use Rattle.gr_lang.specs.declared.action.Action.{Action}
use Rattle.gr_lang.specs.declared.action.Action.TheVariants as action
use Rattle.gr_lang.specs.declared.action.Entry.{Entry}
use Rattle.gr_lang.specs.declared.action.Entry.TheVariants as entry
use Rattle.gr_lang.specs.declared.action.Op.{Op}
use Rattle.gr_lang.specs.declared.action.Op.TheVariants as op
use Rattle.gr_lang.specs.declared.action.Reply.{Reply}
use Rattle.gr_lang.specs.declared.action.TaskId.{TaskId}
use Rattle.gr_lang.specs.declared.action.WaitingCall.{WaitingCall}
use Rattle.gr_lang.specs.Effects.{line_after}
use Rattle.gr_lang.specs.Histories.{after}
use Rattle.gr_lang.specs.Objects.{Objects}
use Rattle.gr_lang.specs.States.{Task, State, is_going}
use Rattle.gr_lang.specs.Steps.{step, when, called, call_step}
use Rattle.gr_msg.specs.declared.message.Msg.{Msg}
use Rattle.gr_msg.specs.declared.message.Msg.TheVariants as msg
use Rattle.gr_batch.specs.declared.wakes.Woken.{Woken}
use Rattle.gr_batch.specs.Folding.{wakes_of}
use Rattle.gr_vector.specs.declared.ends.Ends.{Ends}
use Rattle.gr_vector.specs.Groups.{vector_of}
use Rattle.gr_vector.specs.Plans.{after as ends_then, taken_by}
use Rattle.gr_vector.specs.Laws.{words_after, replies_from}
use Rattle.gr_net.specs.Sums.{Each}
use Rattle.gr_net.proofs.Spreads.{Each-append}
use Rattle.gr_machine.specs.declared.mark.Mark.{Mark}
use Rattle.gr_machine.specs.declared.mark.Mark.TheVariants as mark
use Rattle.gr_machine.specs.Histories.{Sent, batch_entries, sent_after}
use Rattle.gr_machine.specs.TurnServes.{call_marks}
use Rattle.gr_stands_outcomes.specs.Marks.{entries_from}
use Rattle.gr_stands_turns.specs.Turning.{IsOfLine}
use Rattle.gr_stands_turns.proofs.Lines.{line_call, line_there}
use Rattle.gr_elements_apart.specs.Leaving.{IsOffLine, IsOfNoLine, IsEffectOf, IsMarkBehind}
use Rattle.gr_elements_lines.specs.Lines.{HasLine, LeavesLine, EntryLeaves, BatchIsOff}
use Rattle.gr_elements_lines.proofs.Calls.{Holds, step_holds}

none_some : {X : Type 0} (x : X) → None ≡ Some x → ⊥
none_some x e = cc

some_same : {X : Type 0} (x y : X) → Some x ≡ Some y → x ≡ y
some_same x y e = cc

-- ---- entries that leave a line

module _ (program : Program) (cores limit number : ℕ) where
  pub after_leaves : (entries : List Entry) (S next : State) (words : List ℕ) → after program cores limit S entries ≡ Some next → Each (EntryLeaves number) entries
      → HasLine number words S → HasLine number words next
  after_leaves [] S next words h l there = subst (HasLine number words) (some_same S next h) there
  after_leaves (e ∷ entries) S next words h l there = by (λ mid g has. after_leaves entries mid next words g l.1 has) (step program cores limit S e) refl h
    where
      by : ((mid : State) → after program cores limit mid entries ≡ Some next → HasLine number words mid → HasLine number words next)
          → (o : Option State) → step program cores limit S e ≡ o → option_and_then (λ mid. after program cores limit mid entries) o ≡ Some next → HasLine number words next
      by more None s h = absurd (none_some next h)
      by more (Some mid) s h = more mid h (subst (Holds program cores limit S number words there) s (step_holds program cores limit S number words there e l.0))

off_leaves : (number : ℕ) (o : Op) → IsOffLine o → LeavesLine number o
off_leaves number (op.Push object word) off = absurd off
off_leaves number (op.Pop object) off = absurd off
off_leaves number (op.Dequeue object) off = absurd off
off_leaves number _ off = tt

entry_leaves : (number : ℕ) (e : Entry) → IsOfNoLine (mark.Entry e) → EntryLeaves number e
entry_leaves number (entry.Call id o reply) off = off_leaves number o off
entry_leaves number _ off = tt

pub marks_leave : (number me : ℕ) (sent : Sent) (marks : List Mark) → Each IsOfNoLine marks → Each (EntryLeaves number) (entries_from sent me marks)
marks_leave number me sent [] m = tt
marks_leave number me sent (mark.Entry what ∷ marks) m = (entry_leaves number what m.0, marks_leave number me sent marks m.1)
marks_leave number me sent (mark.Closed batch calls ∷ marks) m = marks_leave number me (sent_after sent me (mark.Closed batch calls)) marks m.1
marks_leave number me sent (mark.Applied origin batch before ∷ marks) m = absurd m.0

-- ---- a batch takes effect

zip_leaves : (number : ℕ) (calls : List WaitingCall) (wakes : List Woken) → Each (λ (c : WaitingCall). IsOffLine c.op) calls
    → Each (EntryLeaves number) (map (λ (answer : WaitingCall × Woken). entry.Call answer.0.id answer.0.op answer.1.reply) (zip calls wakes))
zip_leaves number [] wakes off = tt
zip_leaves number (c ∷ calls) [] off = tt
zip_leaves number (c ∷ calls) (w ∷ wakes) off = (off_leaves number c.op off.0, zip_leaves number calls wakes off.1)

effects_leave : (number me from batch : ℕ) (sent : Sent) → Each (λ (c : WaitingCall). IsOffLine c.op) (sent from batch) → (marks : List Mark) → Each (IsEffectOf from batch) marks
    → Each (EntryLeaves number) (entries_from sent me marks)
effects_leave number me from batch sent off [] m = tt
effects_leave number me from batch sent off (mark.Entry what ∷ marks) m = absurd m.0
effects_leave number me from batch sent off (mark.Closed other calls ∷ marks) m = absurd m.0
effects_leave number me from batch sent off (mark.Applied origin other before ∷ marks) m =
    let same : sent origin other ≡ sent from batch = ap (λ (c : ℕ). sent c other) m.0.0 ∙ ap (sent from) m.0.1 in
    Each-append (EntryLeaves number) (batch_entries (sent origin other) before) (entries_from sent me marks)
    (zip_leaves number (sent origin other) (wakes_of (sent origin other) before) (subst (Each (λ (c : WaitingCall). IsOffLine c.op)) (sym same) off))
    (effects_leave number me from batch sent off marks m.1)

pub behind_leave : (number me from : ℕ) (sent : Sent) (message : Msg) (marks : List Mark) → Each (IsMarkBehind from message) marks → BatchIsOff sent from message
    → Each (EntryLeaves number) (entries_from sent me marks)
behind_leave number me from sent (msg.Batch object key effect batch) marks m off = effects_leave number me from batch sent off marks m
behind_leave number me from sent (msg.Request slot id operation x y z) marks m off = marks_leave number me sent marks m
behind_leave number me from sent (msg.Reply slot id first second) marks m off = marks_leave number me sent marks m
behind_leave number me from sent (msg.Spawn unit) marks m off = marks_leave number me sent marks m
behind_leave number me from sent (msg.Enrol scope) marks m off = marks_leave number me sent marks m
behind_leave number me from sent (msg.EnrolAck scope) marks m off = marks_leave number me sent marks m
behind_leave number me from sent (msg.Complete scope count) marks m off = marks_leave number me sent marks m
behind_leave number me from sent (msg.Leave scope) marks m off = marks_leave number me sent marks m
behind_leave number me from sent msg.StealAsk marks m off = marks_leave number me sent marks m
behind_leave number me from sent (msg.StealGive unit) marks m off = marks_leave number me sent marks m
behind_leave number me from sent (msg.BatchReply batch before) marks m off = marks_leave number me sent marks m
behind_leave number me from sent (msg.Turn vector) marks m off = marks_leave number me sent marks m
behind_leave number me from sent (msg.Grant vector head tail) marks m off = marks_leave number me sent marks m
behind_leave number me from sent (msg.Done vector head tail) marks m off = marks_leave number me sent marks m
behind_leave number me from sent (msg.ElemPut vector position word) marks m off = marks_leave number me sent marks m
behind_leave number me from sent (msg.ElemGet vector position) marks m off = marks_leave number me sent marks m
behind_leave number me from sent (msg.ElemAck vector position got) marks m off = marks_leave number me sent marks m

-- ---- the calls of a turn

of_line : (o : Op) (vector : ℕ) → vector_of o ≡ Some vector → IsOfLine o vector
of_line (op.Push object word) vector e = some_same object vector e
of_line (op.Pop object) vector e = some_same object vector e
of_line (op.Dequeue object) vector e = some_same object vector e
of_line _ vector e = absurd (none_some vector e)

other_line : (o : Op) (vector number : ℕ) → vector ≢ number → vector_of o ≡ Some vector → LeavesLine number o
other_line (op.Push object word) vector number ne e = λ q. ne (sym (some_same object vector e) ∙ q)
other_line (op.Pop object) vector number ne e = λ q. ne (sym (some_same object vector e) ∙ q)
other_line (op.Dequeue object) vector number ne e = λ q. ne (sym (some_same object vector e) ∙ q)
other_line _ vector number ne e = tt

-- Those of another vector.
pub calls_leave : (vector number me : ℕ) (sent : Sent) → vector ≢ number → (calls : List WaitingCall) (words : List Reply) → Each (λ (c : WaitingCall). vector_of c.op ≡ Some vector) calls
    → Each (EntryLeaves number) (entries_from sent me (call_marks (zip calls words)))
calls_leave vector number me sent ne [] words of = tt
calls_leave vector number me sent ne (c ∷ calls) [] of = tt
calls_leave vector number me sent ne (c ∷ calls) (word ∷ words) of = (other_line c.op vector number ne of.0, calls_leave vector number me sent ne calls words of.1)

module _ (program : Program) (cores limit number me : ℕ) (sent : Sent) where
  -- One call of this vector.
  one_made : (S next : State) (words : List ℕ) (id : TaskId) (o : Op) (reply : Reply) → HasLine number words S → vector_of o ≡ Some number
      → step program cores limit S (entry.Call id o reply) ≡ Some next → HasLine number (line_after o words) next
  one_made S next words id o reply there of h = by_task (fin.get S.tasks id) h
    where
      does : (task : Task) → HasLine number (line_after o words) (called program limit S id task o reply)
      does task = ap (λ (x : Objects × Reply). slice_get x.0.things number) (line_call S.objects number words there o (of_line o number of)) ∙ line_there S.objects number words (line_after o words) there

      so : (b : Bool) (task : Task) → when b (called program limit S id task o reply) ≡ Some next → HasLine number (line_after o words) next
      so true task h = subst (HasLine number (line_after o words)) (some_same (called program limit S id task o reply) next h) (does task)
      so false task h = absurd (none_some next h)

      by_due : (task : Task) (due : Action) → call_step program limit S id task due o reply ≡ Some next → HasLine number (line_after o words) next
      by_due task (action.Call other) h = so _ task h
      by_due task (action.Spawn way target args) h = absurd (none_some next h)
      by_due task action.Finish h = absurd (none_some next h)
      by_due task action.Arrive h = absurd (none_some next h)
      by_due task (action.Loop lo hi grain target args) h = absurd (none_some next h)
      by_due task action.End h = absurd (none_some next h)
      by_due task (action.Trap kind) h = absurd (none_some next h)

      by_mode : (task : Task) (b : Bool) → (if b then call_step program limit S id task task.action o reply else None) ≡ Some next → HasLine number (line_after o words) next
      by_mode task true h = by_due task task.action h
      by_mode task false h = absurd (none_some next h)

      by_task : (found : Option Task) → option_and_then (λ task. if is_going task.mode then call_step program limit S id task task.action o reply else None) found ≡ Some next
          → HasLine number (line_after o words) next
      by_task None h = absurd (none_some next h)
      by_task (Some task) h = by_mode task (is_going task.mode) h

  pub calls_made : (calls : List WaitingCall) (got : List Reply) (S next : State) (words : List ℕ) → length got ≡ length calls
      → after program cores limit S (entries_from sent me (call_marks (zip calls got))) ≡ Some next → Each (λ (c : WaitingCall). vector_of c.op ≡ Some number) calls
      → HasLine number words S → HasLine number (words_after calls words) next
  calls_made [] got S next words l h of there = subst (HasLine number words) (some_same S next h) there
  calls_made (c ∷ calls) [] S next words l h of there = absurd (omega (arith, l))
  calls_made (c ∷ calls) (reply ∷ got) S next words l h of there =
      by (λ mid g has. calls_made calls got mid next (line_after c.op words) (omega (arith, l)) g of.1 has) (step program cores limit S (entry.Call c.id c.op reply)) refl h
    where
      by : ((mid : State) → after program cores limit mid (entries_from sent me (call_marks (zip calls got))) ≡ Some next → HasLine number (line_after c.op words) mid
          → HasLine number (words_after calls (line_after c.op words)) next)
          → (o : Option State) → step program cores limit S (entry.Call c.id c.op reply) ≡ o
          → option_and_then (λ mid. after program cores limit mid (entries_from sent me (call_marks (zip calls got)))) o ≡ Some next → HasLine number (words_after calls (line_after c.op words)) next
      by more None s h = absurd (none_some next h)
      by more (Some mid) s h = more mid h (one_made S mid words c.id c.op reply there of.0 s)

pub replies_long : (answers : ℕ → Option ℕ) (calls : List WaitingCall) (ends : Ends) → length (replies_from answers (taken_by calls ends)) ≡ length calls
replies_long answers [] ends = refl
replies_long answers (c ∷ calls) ends = omega (arith, replies_long answers calls (ends_then c.op ends))
