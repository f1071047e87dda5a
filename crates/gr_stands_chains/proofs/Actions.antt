-- Outcomes that leave entries, one after another.
use Rattle.std.proofs.Common.{◌≡◌, ◌<◌, ℕ, List, [], ◌∷◌, ◌++◌, map, sym, ◌∙◌, ap, subst, refl, Option, Some, None}
use Rattle.std.specs.Option.{option_and_then}
use Rattle.gr_syntax.specs.declared.syntax.Program.{Program}
use Rattle.gr_lang.specs.declared.action.Entry.{Entry}
use Rattle.gr_lang.specs.States.{State}
use Rattle.gr_lang.specs.Steps.{step}
use Rattle.gr_lang.specs.Histories.{after}
use Rattle.gr_view.specs.Places.{put}
use Rattle.gr_agg.specs.Buffers.{add_last}
use Rattle.gr_net.specs.Sums.{Each}
use Rattle.gr_net.specs.Worlds.{put_core, acted}
use Rattle.gr_net.proofs.Spreads.{Each-append}
use Rattle.gr_machine.specs.declared.mark.Mark.{Mark}
use Rattle.gr_machine.specs.declared.mark.Mark.TheVariants as mark
use Rattle.gr_machine.specs.Outcomes.{Send, Outcome, followed}
use Rattle.gr_stands.specs.Worlds.{Given, World, bodies, Acts}
use Rattle.gr_stands.specs.Stands.{Stands}
use Rattle.gr_stands.proofs.Worlds.{acted_bodies}
use Rattle.gr_stands_calls.specs.Acting.{Keeps}
use Rattle.gr_stands_chains.specs.Chains.{marks_of, ActsWithEntries}
use Rattle.gr_stands_chains.proofs.Follows.{outcomes_follow_on}
use Rattle.gr_stands_chains.specs.Laws as laws

some_same : {X : Type 0} (x y : X) → Some x ≡ Some y → x ≡ y
some_same x y e = cc

-- ---- entries

module _ (program : Program) (cores limit : ℕ) (M : State) (ys : List Entry) where
  after_both : (xs : List Entry) (S : State) → after program cores limit S xs ≡ Some M → after program cores limit S (xs ++ ys) ≡ after program cores limit M ys
  after_both [] S h = ap (λ (x : State). after program cores limit x ys) (some_same S M h)
  after_both (x ∷ xs) S h = by (step program cores limit S x) (λ n k. after_both xs n k) h
    where
      by : (o : Option State) → ((n : State) → after program cores limit n xs ≡ Some M → after program cores limit n (xs ++ ys) ≡ after program cores limit M ys)
          → option_and_then (λ n. after program cores limit n xs) o ≡ Some M → option_and_then (λ n. after program cores limit n (xs ++ ys)) o ≡ after program cores limit M ys
      by None more h = absurd (cc)
      by (Some n) more h = more n h

marks_both : (xs ys : List Entry) → marks_of (xs ++ ys) ≡ marks_of xs ++ marks_of ys
marks_both [] ys = refl
marks_both (x ∷ xs) ys = ap (λ (ms : List Mark). mark.Entry x ∷ ms) (marks_both xs ys)

heads_same : (x y : Entry) (xs ys : List Mark) → mark.Entry x ∷ xs ≡ mark.Entry y ∷ ys → (x ≡ y) × (xs ≡ ys)
heads_same x y xs ys e = (cc, cc)

none_some : (y : Mark) (ys : List Mark) → [] ≡ y ∷ ys → ⊥
none_some y ys e = cc

marks_same : (xs ys : List Entry) → marks_of xs ≡ marks_of ys → xs ≡ ys
marks_same [] [] e = refl
marks_same [] (y ∷ ys) e = absurd (none_some (mark.Entry y) (marks_of ys) e)
marks_same (x ∷ xs) [] e = absurd (none_some (mark.Entry x) (marks_of xs) (sym e))
marks_same (x ∷ xs) (y ∷ ys) e =
    let r = heads_same x y (marks_of xs) (marks_of ys) e in
    ap (λ (z : Entry). z ∷ xs) r.0 ∙ ap (λ (zs : List Entry). y ∷ zs) (marks_same xs ys r.1)

-- ---- rows

pub actions_follow : laws.ActionsFollow
actions_follow given w S c got core e f here without row later =
    let n = given.setup.cores in
    let program = given.program in
    let limit = given.setup.steps in
    let M : State = row.next in
    let is : e ≡ row.outcome = some_same e row.outcome row.acts in
    let keeps : Keeps given w c got e M = subst (λ (x : Outcome). Keeps given w c got x M) (sym is) row.keeps in
    let bound : Each (λ s. s.to < n) e.sends = subst (λ (x : Outcome). Each (λ s. s.to < n) x.sends) (sym is) row.sends in
    let between : World = put_core w c (acted add_last c core (Some e)) in
    let acts : Acts n w between c got e = record { here = here; core = core; without = without; sends = bound; world = refl } in
    let both = keeps between acts in
    let stands : Stands given between M = record { words = both.1; calls = both.0 } in
    let next : ActsWithEntries given between M c [] (Some f) = later between (acted_bodies n w between c got e acts) stands in
    let so : f ≡ next.outcome = some_same f next.outcome next.acts in
    record {
      outcome = followed e f;
      acts = refl;
      sends = Each-append (λ (s : Send). s.to < n) e.sends f.sends bound (subst (λ (x : Outcome). Each (λ s. s.to < n) x.sends) (sym so) next.sends);
      entries = row.entries ++ next.entries;
      marks = ap (λ (ms : List Mark). ms ++ f.marks) (ap (λ (x : Outcome). x.marks) is ∙ row.marks)
          ∙ ap (λ (ms : List Mark). marks_of row.entries ++ ms) (ap (λ (x : Outcome). x.marks) so ∙ next.marks) ∙ sym (marks_both row.entries next.entries);
      next = next.next;
      leads = after_both program n limit M next.entries row.entries S row.leads ∙ next.leads;
      keeps = outcomes_follow_on given w c got e f M next.next keeps (λ v bodies_are st. same M between v (later v bodies_are st) next);
    }
  where
    -- The entries of the second outcome lead to one state, in whatever world.
    same : (M : State) (u v : World) (r : ActsWithEntries given v M c [] (Some f)) (x : ActsWithEntries given u M c [] (Some f)) → Keeps given v c [] f x.next
    same M u v r x =
        let is : f ≡ r.outcome = some_same f r.outcome r.acts in
        let so : f ≡ x.outcome = some_same f x.outcome x.acts in
        let entries : r.entries ≡ x.entries = marks_same r.entries x.entries (sym (ap (λ (o : Outcome). o.marks) is ∙ r.marks) ∙ (ap (λ (o : Outcome). o.marks) so ∙ x.marks)) in
        let states : r.next ≡ x.next = some_same r.next x.next (sym r.leads ∙ ap (after given.program given.setup.cores given.setup.steps M) entries ∙ x.leads) in
        subst (Keeps given v c [] f) states (subst (λ (o : Outcome). Keeps given v c [] o r.next) (sym is) r.keeps)
