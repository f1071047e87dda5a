-- The stops that marks make, and the traps of their history.
use Rattle.std.proofs.Common.{◌≡◌, ◌⊎◌, inl, inr, ◌<◌, ◌==◌, ℕ, List, [], ◌∷◌, ◌++◌, ap, subst, sym, ◌∙◌, refl, eq-eqb}
use Rattle.std.specs.Prelude.{Bool, true, false, Option, Some, None, if◌then◌else◌, is_some, map}
use Rattle.std.specs.List.{zip}
use Rattle.gr_lang.specs.declared.action.Entry.{Entry}
use Rattle.gr_lang.specs.declared.action.Entry.TheVariants as entry
use Rattle.gr_lang.specs.declared.action.WaitingCall.{WaitingCall}
use Rattle.gr_batch.specs.declared.wakes.Woken.{Woken}
use Rattle.gr_batch.specs.Folding.{wakes_of}
use Rattle.gr_net.specs.Sums.{Each}
use Rattle.gr_machine.specs.declared.mark.Mark.{Mark}
use Rattle.gr_machine.specs.declared.mark.Mark.TheVariants as mark
use Rattle.gr_machine.specs.declared.journal.StampedMark.{StampedMark}
use Rattle.gr_machine.specs.States.{Stops}
use Rattle.gr_machine.specs.Histories.{Sent, entries_of, sent_after, history_from}
use Rattle.gr_machine.proofs.ActionFacts.{choice}
use Rattle.gr_report.specs.declared.texts.TrapAt.{TrapAt}
use Rattle.gr_report.specs.Texts.{trap_of, first_of, first_trap}
use Rattle.gr_stands_stops.specs.Stops.{unstopped, stop_by, stops_after, marks_at}

-- ---- a trap of a core is one of the history

later_trap : (xs ys : List Entry) → is_some (first_trap ys) ≡ true → is_some (first_trap (xs ++ ys)) ≡ true
unfolding first_trap
later_trap [] ys h = h
later_trap (x ∷ xs) ys h = by (trap_of x) (later_trap xs ys h)
  where
    by : (o : Option TrapAt) → is_some (first_trap (xs ++ ys)) ≡ true → is_some (first_of o (first_trap (xs ++ ys))) ≡ true
    by None e = e
    by (Some t) e = refl

mark_traps : (sent : Sent) (s : Stops) (rest : List Entry) (m : Mark) → (stop_by s m).trapped ≡ true
    → (s.trapped ≡ true) ⊎ (is_some (first_trap (entries_of sent m ++ rest)) ≡ true)
unfolding first_trap
mark_traps sent s rest (mark.Entry (entry.Trap task kind)) h = inr refl
mark_traps sent s rest _ h = inl h

abbrev TrapsIn : Sent → List (ℕ × StampedMark) → Type 0
TrapsIn sent marks = is_some (first_trap (history_from sent marks)) ≡ true

-- Where it is so of the marks after the first, with whatever stops that has left.
first_traps : (core : ℕ) (m : ℕ × StampedMark) (marks : List (ℕ × StampedMark)) (sent : Sent) (s : Stops)
    → ((t : Stops) → (stops_after t (marks_at core marks)).trapped ≡ true → (t.trapped ≡ true) ⊎ TrapsIn (sent_after sent m.0 m.1.mark) marks)
    → (b : Bool) → (stops_after s (if b then m.1.mark ∷ marks_at core marks else marks_at core marks)).trapped ≡ true
    → (s.trapped ≡ true) ⊎ TrapsIn sent (m ∷ marks)
first_traps core m marks sent s more true h = by (more (stop_by s m.1.mark) h)
  where
    by : ((stop_by s m.1.mark).trapped ≡ true) ⊎ TrapsIn (sent_after sent m.0 m.1.mark) marks → (s.trapped ≡ true) ⊎ TrapsIn sent (m ∷ marks)
    by (inl e) = mark_traps sent s (history_from (sent_after sent m.0 m.1.mark) marks) m.1.mark e
    by (inr e) = inr (later_trap (entries_of sent m.1.mark) (history_from (sent_after sent m.0 m.1.mark) marks) e)
first_traps core m marks sent s more false h = by (more s h)
  where
    by : (s.trapped ≡ true) ⊎ TrapsIn (sent_after sent m.0 m.1.mark) marks → (s.trapped ≡ true) ⊎ TrapsIn sent (m ∷ marks)
    by (inl e) = inl e
    by (inr e) = inr (later_trap (entries_of sent m.1.mark) (history_from (sent_after sent m.0 m.1.mark) marks) e)

core_traps : (core : ℕ) (marks : List (ℕ × StampedMark)) (sent : Sent) (s : Stops) → (stops_after s (marks_at core marks)).trapped ≡ true
    → (s.trapped ≡ true) ⊎ TrapsIn sent marks
core_traps core [] sent s h = inl h
core_traps core (m ∷ marks) sent s h = first_traps core m marks sent s (core_traps core marks (sent_after sent m.0 m.1.mark)) (m.0 == core) h

pub trapped_is_told : (core : ℕ) (marks : List (ℕ × StampedMark)) (sent : Sent)
    → (stops_after unstopped (marks_at core marks)).trapped ≡ true → TrapsIn sent marks
trapped_is_told core marks sent h = by (core_traps core marks sent unstopped h)
  where
    by : (false ≡ true) ⊎ TrapsIn sent marks → TrapsIn sent marks
    by (inl e) = absurd (cc)
    by (inr e) = e

-- ---- a trap of the history is one of a core

trapped_stays : (s : Stops) (ms : List Mark) → s.trapped ≡ true → (stops_after s ms).trapped ≡ true
trapped_stays s [] h = h
trapped_stays s (m ∷ ms) h = trapped_stays (stop_by s m) ms (by m)
  where
    by : (m : Mark) → (stop_by s m).trapped ≡ true
    by (mark.Entry (entry.Trap task kind)) = refl
    by _ = h

calls_trap_not : (answers : List (WaitingCall × Woken)) (rest : List Entry)
    → first_trap (map (λ answer. entry.Call answer.0.id answer.0.op answer.1.reply) answers ++ rest) ≡ first_trap rest
unfolding first_trap
calls_trap_not [] rest = refl
calls_trap_not (answer ∷ answers) rest = calls_trap_not answers rest

trap_here : (sent : Sent) (rest : List Entry) (m : Mark) → is_some (first_trap (entries_of sent m ++ rest)) ≡ true
    → ((s : Stops) → (stop_by s m).trapped ≡ true) ⊎ (is_some (first_trap rest) ≡ true)
unfolding first_trap
trap_here sent rest (mark.Entry (entry.Trap task kind)) h = inl (λ s. refl)
trap_here sent rest (mark.Applied origin batch before) h =
    inr (ap (λ (o : Option TrapAt). is_some o) (sym (calls_trap_not (zip (sent origin batch) (wakes_of (sent origin batch) before)) rest)) ∙ h)
trap_here sent rest _ h = inr h

-- A task of this core is trapped by these marks.
record TrappedAt (count : ℕ) (marks : List (ℕ × StampedMark)) : Type 0 where
  core : ℕ
  below : core < count
  trapped : (s : Stops) → (stops_after s (marks_at core marks)).trapped ≡ true

trapped_first : (count : ℕ) (m : ℕ × StampedMark) (marks : List (ℕ × StampedMark)) (sent : Sent) → m.0 < count → (TrapsIn sent marks → TrappedAt count marks)
    → ((s : Stops) → (stop_by s m.1.mark).trapped ≡ true) ⊎ TrapsIn sent marks → TrappedAt count (m ∷ marks)
trapped_first count m marks sent low more (inl f) = record {
  core = m.0;
  below = low;
  trapped = λ s. subst (λ (b : Bool). (stops_after s (if b then m.1.mark ∷ marks_at m.0 marks else marks_at m.0 marks)).trapped ≡ true)
      (sym (eq-eqb m.0 m.0 refl)) (trapped_stays (stop_by s m.1.mark) (marks_at m.0 marks) (f s));
}
trapped_first count m marks sent low more (inr e) =
    let r = more e in
    record {
      core = r.core;
      below = r.below;
      trapped = λ s. choice (λ (ms : List Mark). (stops_after s ms).trapped ≡ true) (m.0 == r.core) _ _ (r.trapped (stop_by s m.1.mark)) (r.trapped s);
    }

trapped_at : (count : ℕ) (marks : List (ℕ × StampedMark)) (sent : Sent) → Each (λ m. m.0 < count) marks → TrapsIn sent marks → TrappedAt count marks
unfolding first_trap
trapped_at count [] sent low h = absurd (cc)
trapped_at count (m ∷ marks) sent low h =
    let later = sent_after sent m.0 m.1.mark in
    trapped_first count m marks later low.0 (trapped_at count marks later low.1) (trap_here sent (history_from later marks) m.1.mark h)

pub untrapped_is_told : (count : ℕ) (marks : List (ℕ × StampedMark)) (sent : Sent) → Each (λ m. m.0 < count) marks
    → ((core : ℕ) → core < count → (stops_after unstopped (marks_at core marks)).trapped ≡ false) → first_trap (history_from sent marks) ≡ None
untrapped_is_told count marks sent low calm = by (first_trap (history_from sent marks)) refl
  where
    by : (o : Option TrapAt) → first_trap (history_from sent marks) ≡ o → first_trap (history_from sent marks) ≡ None
    by None e = e
    by (Some t) e =
        let r = trapped_at count marks sent low (ap (λ (o : Option TrapAt). is_some o) e) in
        let no : true ≡ false = sym (r.trapped unstopped) ∙ calm r.core r.below in
        absurd (cc)
