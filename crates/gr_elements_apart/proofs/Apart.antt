-- What has no part in elements, and what changes one vector alone.
use Rattle.std.proofs.Common.{◌≡◌, ◌≢◌, ℕ, List, inl, inr, sym, ◌∙◌, ap, subst, refl, Option, Some}
use Rattle.std.proofs.lemmas.Bool.{cases_eq}
use Rattle.gr_view.specs.Places.{put}
use Rattle.gr_msg.specs.declared.message.Msg.{Msg}
use Rattle.gr_msg.specs.declared.message.Msg.TheVariants as msg
use Rattle.gr_net.specs.Sums.{Each}
use Rattle.gr_net.proofs.Spreads.{put_same, put_other, Each-map}
use Rattle.gr_machine.specs.declared.mark.Mark.{Mark}
use Rattle.gr_machine.specs.States.{Letter, Turn, Vector, Vectors, Body}
use Rattle.gr_machine.specs.Outcomes.{Send, Outcome}
use Rattle.gr_lines.specs.Lines.{vector_in}
use Rattle.gr_elements.specs.ElementActs.{IsOfNoElement, LeavesElements}
use Rattle.gr_elements_apart.specs.Leaving.{IsOfNoLine, LeavesWords}

-- The message is of no element of any vector.
abbrev pub IsNoElement : Msg → Type 0
IsNoElement (msg.ElemPut vector position word) = ⊥
IsNoElement (msg.ElemGet vector position) = ⊥
IsNoElement (msg.ElemAck vector position got) = ⊥
IsNoElement _ = Unit

pub of_none : (number : ℕ) (m : Msg) → IsNoElement m → IsOfNoElement number m
of_none number (msg.ElemPut vector position word) n = absurd n
of_none number (msg.ElemGet vector position) n = absurd n
of_none number (msg.ElemAck vector position got) n = absurd n
of_none number _ n = tt

abbrev pub NoElements : List Send → Type 0
NoElements sends = Each (λ send. IsNoElement send.message) sends

pub all_none : (number : ℕ) (sends : List Send) → NoElements sends → Each (λ send. IsOfNoElement number send.message) sends
all_none number sends n = Each-map (λ (s : Send). IsNoElement s.message) (λ (s : Send). IsOfNoElement number s.message) (λ s. of_none number s.message) sends n

-- The vectors stay, what is sent is of no element, and each mark has a fact: that it is of no call on a vector.
pub record IsApartWith (Fact : Mark → Type 0) (before after : Body) (sent : List Send) (left : List Mark) : Type 0 where
  pub vectors : after.vectors ≡ before.vectors
  pub sends : NoElements sent
  pub marks : Each Fact left

abbrev pub IsApart : Body → Body → List Send → List Mark → Type 0
IsApart before after sent left = IsApartWith IsOfNoLine before after sent left

-- One vector, or nothing there, has the same words and the same turn.
pub same_leaves : (number : ℕ) (before : Body) (got : List Letter) (outcome : Outcome)
    → Each (λ letter. IsOfNoElement number letter.message) got → Each (λ send. IsOfNoElement number send.message) outcome.sends
    → outcome.body.vectors.vectors number ≡ before.vectors.vectors number → LeavesElements number before got outcome
same_leaves number before got outcome letters sends vectors = record {
  part = ap (λ (o : Option Vector). (vector_in o).part) vectors;
  turn = ap (λ (o : Option Vector). (vector_in o).turn) vectors;
  letters = letters;
  sends = sends;
}

pub leaves_apart : (number : ℕ) (before : Body) (got : List Letter) (outcome : Outcome)
    → Each (λ letter. IsOfNoElement number letter.message) got → IsApart before outcome.body outcome.sends outcome.marks → LeavesWords number before got outcome
leaves_apart number before got outcome letters a = record {
  elements = same_leaves number before got outcome letters (all_none number outcome.sends a.sends) (ap (λ (x : Vectors). x.vectors number) a.vectors);
  marks = a.marks;
}

-- One vector of the core has another state: the elements of each other stay.
pub other_leaves : (number object : ℕ) (before : Body) (got : List Letter) (outcome : Outcome) (next : Option Vector) → object ≢ number
    → Each (λ letter. IsOfNoElement number letter.message) got → Each (λ send. IsOfNoElement number send.message) outcome.sends
    → outcome.body.vectors.vectors ≡ put before.vectors.vectors object next → LeavesElements number before got outcome
other_leaves number object before got outcome next ne letters sends vectors = same_leaves number before got outcome letters sends
    (ap (λ (f : ℕ → Option Vector). f number) vectors ∙ put_other before.vectors.vectors object next number (λ q. ne (sym q)))

-- One vector of the core has another state, with the same words and the same turn: the elements of all stay.
pub kept_leaves : (number object : ℕ) (before : Body) (got : List Letter) (outcome : Outcome) (vector next : Vector)
    → before.vectors.vectors object ≡ Some vector → next.part ≡ vector.part → next.turn ≡ vector.turn
    → Each (λ letter. IsOfNoElement number letter.message) got → NoElements outcome.sends → Each IsOfNoLine outcome.marks
    → outcome.body.vectors.vectors ≡ put before.vectors.vectors object (Some next) → LeavesWords number before got outcome
kept_leaves number object before got outcome vector next there part turn letters sends marks vectors = record {
  elements = elim (cases_eq object number) [
    | inl q ↦ subst (λ (n : ℕ). LeavesElements n before got outcome) q (at (subst (λ (n : ℕ). Each (λ letter. IsOfNoElement n letter.message) got) (sym q) letters))
    | inr ne ↦ other_leaves number object before got outcome (Some next) ne letters (all_none number outcome.sends sends) vectors
  ];
  marks = marks;
}
  where
    now : vector_in (outcome.body.vectors.vectors object) ≡ next
    now = ap (λ (f : ℕ → Option Vector). vector_in (f object)) vectors ∙ ap vector_in (put_same before.vectors.vectors object (Some next))

    was : vector_in (before.vectors.vectors object) ≡ vector
    was = ap vector_in there

    at : Each (λ letter. IsOfNoElement object letter.message) got → LeavesElements object before got outcome
    at mine = record {
      part = ap (λ (v : Vector). v.part) now ∙ part ∙ sym (ap (λ (v : Vector). v.part) was);
      turn = ap (λ (v : Vector). v.turn) now ∙ turn ∙ sym (ap (λ (v : Vector). v.turn) was);
      letters = mine;
      sends = all_none object outcome.sends sends;
    }
