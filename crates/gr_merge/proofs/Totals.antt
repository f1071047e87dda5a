-- The worked machine of totals is clocked.
use Rattle.std.proofs.Common.{◌≡◌, ℕ, ◌+◌, ◌<◌, max, Bool, true, false, ◌==◌, if◌then◌else◌, All, [], ◌∷◌, Option, Some, None, refl, sym, ap, ◌∙◌, subst, arith, eqb-true}
use Rattle.std.proofs.lemmas.List.Elements.{All-nil, All-cons}
use Rattle.gr_merge.specs.Machines.{Went}
use Rattle.gr_merge.specs.Laws.{IsClocked}
use Rattle.gr_merge.specs.Rows.{Act, add, gather, tell, Entry, Total, told, acts, at_clock, totals}

abbrev TotalWent : Type 0
TotalWent = Went Total Total Total

-- What every step has.
record Good (state : Total) (taken : Option Total) (went : TotalWent) : Type 0 where
  later : state.clock < went.state.clock
  before : (packet : Total) → taken ≡ Some packet → packet.clock < went.state.clock
  shipped_now : (packet : Total) → went.packet ≡ Some packet → packet.clock ≡ went.state.clock
  marks : All (λ (mark : Total). mark.clock ≡ went.state.clock) went.marks

told_good : (state after : Total) (went : TotalWent) → state.clock < after.clock → told after ≡ Some went → Good state None went
told_good state after went l h = by_test (after.total == 0) h
  where
    by_test : (b : Bool) → (if b then None else Some (record { state = after; packet = Some after; marks = [] })) ≡ Some went → Good state None went
    by_test true h = absurd (cc)
    by_test false h =
        let e : Went Total Total Total = record { state = after; packet = Some after; marks = [] } in
        let q : e ≡ went = cc in
        subst (Good state None) q (record {
          later = l;
          before = λ packet z. absurd (cc);
          shipped_now = λ packet z. (let same : after ≡ packet = cc in ap (λ (t : Total). t.clock) (sym same));
          marks = All-nil (λ (mark : Total). mark.clock ≡ after.clock);
        })

acts_good : (state : Total) (act : Act) (taken : Option Total) (went : TotalWent) → acts state act taken ≡ Some went → Good state taken went
acts_good state (add number) None went h =
    let after : Total = record { clock = state.clock + 1; total = state.total + number } in
    let made : TotalWent = record { state = after; packet = None; marks = after ∷ [] } in
    let q : made ≡ went = cc in
    subst (Good state None) q (record {
      later = omega arith;
      before = λ packet z. absurd (cc);
      shipped_now = λ packet z. absurd (cc);
      marks = All-cons (λ (mark : Total). mark.clock ≡ after.clock) after [] refl (All-nil (λ (mark : Total). mark.clock ≡ after.clock));
    })
acts_good state (add number) (Some packet) went h = absurd (cc)
acts_good state (gather origin) None went h = absurd (cc)
acts_good state (gather origin) (Some packet) went h =
    let after : Total = record { clock = max state.clock packet.clock + 1; total = state.total + packet.total } in
    let made : TotalWent = record { state = after; packet = None; marks = [] } in
    let q : made ≡ went = cc in
    subst (Good state (Some packet)) q (record {
      later = omega arith;
      before = λ other z. (let same : packet ≡ other = cc in subst (λ (t : Total). t.clock < after.clock) same (omega arith));
      shipped_now = λ other z. absurd (cc);
      marks = All-nil (λ (mark : Total). mark.clock ≡ after.clock);
    })
acts_good state (tell dest) None went h = told_good state (record { clock = state.clock + 1; total = state.total }) went (omega arith) h
acts_good state (tell dest) (Some packet) went h = absurd (cc)

at_its_clock : (clock : ℕ) (o : Option TotalWent) (went : TotalWent) → at_clock clock o ≡ Some went → (o ≡ Some went) × (went.state.clock ≡ clock)
at_its_clock clock None went h = absurd (cc)
at_its_clock clock (Some w) went h = by_test (w.state.clock == clock) refl h
  where
    by_test : (b : Bool) → (w.state.clock == clock) ≡ b → (if b then Some w else None) ≡ Some went → (Some w ≡ Some went) × (went.state.clock ≡ clock)
    by_test true e h = let q : w ≡ went = cc in (h, subst (λ (v : TotalWent). v.state.clock ≡ clock) q (eqb-true w.state.clock clock e))
    by_test false e h = absurd (cc)

record Step (state : Total) (entry : Entry) (taken : Option Total) (went : TotalWent) : Type 0 where
  good : Good state taken went
  clock : went.state.clock ≡ entry.clock

step : (core : ℕ) (state : Total) (entry : Entry) (taken : Option Total) (went : TotalWent) → totals.step core state entry taken ≡ Some went → Step state entry taken went
step core state entry taken went h =
    let q = at_its_clock entry.clock (acts state entry.act taken) went h in
    record { good = acts_good state entry.act taken went q.0; clock = q.1 }

pub clocked : IsClocked totals (λ (state : Total). state.clock) (λ (mark : Total). mark.clock)
clocked = record {
  ticks = λ core state entry taken went h. let s = step core state entry taken went h in (subst (λ n. state.clock < n) s.clock s.good.later, s.clock);
  takes_before = λ core state entry origin packet went k h. let s = step core state entry (Some packet) went h in subst (λ n. packet.clock < n) s.clock (s.good.before packet refl);
  ships_then = λ core state entry dest packet went k h z. let s = step core state entry None went h in s.good.shipped_now packet z ∙ s.clock;
  marks_then = λ core state entry taken went h. let s = step core state entry taken went h in
      subst (λ n. All (λ (mark : Total). mark.clock ≡ n) went.marks) s.clock s.good.marks;
}
