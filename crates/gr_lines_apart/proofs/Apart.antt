-- What has no part in turns, and what changes one vector alone.
use Rattle.std.proofs.Common.{◌≡◌, ◌≢◌, ℕ, List, length, inl, inr, sym, ◌∙◌, ap, subst, refl, Option, Some}
use Rattle.std.proofs.lemmas.Bool.{cases_eq}
use Rattle.std.specs.Option.{option_len}
use Rattle.gr_view.specs.Places.{put}
use Rattle.gr_msg.specs.declared.message.Msg.{Msg}
use Rattle.gr_msg.specs.declared.message.Msg.TheVariants as msg
use Rattle.gr_vector.specs.Turns.{Turns}
use Rattle.gr_net.specs.Sums.{Each}
use Rattle.gr_net.proofs.Spreads.{put_same, put_other, Each-map}
use Rattle.gr_machine.specs.States.{Letter, Vector, Vectors, Turn, Body}
use Rattle.gr_machine.specs.Outcomes.{Send, Outcome}
use Rattle.gr_lines.specs.Lines.{vector_in}
use Rattle.gr_lines_turns.specs.Tokens.{turns_in}
use Rattle.gr_lines_turns.specs.TokenActs.{IsOfOther, LeavesTurns}

-- The message neither asks for a turn, nor grants or ends one.
abbrev pub IsNoToken : Msg → Type 0
IsNoToken (msg.Turn vector) = ⊥
IsNoToken (msg.Grant vector head tail) = ⊥
IsNoToken (msg.Done vector head tail) = ⊥
IsNoToken _ = Unit

pub of_other : (number : ℕ) (m : Msg) → IsNoToken m → IsOfOther number m
of_other number (msg.Turn vector) n = absurd n
of_other number (msg.Grant vector head tail) n = absurd n
of_other number (msg.Done vector head tail) n = absurd n
of_other number _ n = tt

abbrev pub NoTokens : List Send → Type 0
NoTokens sends = Each (λ send. IsNoToken send.message) sends

pub all_other : (number : ℕ) (sends : List Send) → NoTokens sends → Each (λ send. IsOfOther number send.message) sends
all_other number sends n = Each-map (λ (s : Send). IsNoToken s.message) (λ (s : Send). IsOfOther number s.message) (λ s. of_other number s.message) sends n

-- The vectors stay, and what is sent is of no turn.
pub record IsApart (before after : Body) (sent : List Send) : Type 0 where
  pub vectors : after.vectors ≡ before.vectors
  pub sends : NoTokens sent

pub leaves_apart : (number : ℕ) (before : Body) (got : List Letter) (outcome : Outcome)
    → Each (λ letter. IsOfOther number letter.message) got → IsApart before outcome.body outcome.sends → LeavesTurns number before got outcome
leaves_apart number before got outcome letters a = record {
  turn = ap (λ (x : Vectors). option_len (vector_in (x.vectors number)).turn) a.vectors;
  ends = λ turn h. (turn, ap (λ (x : Vectors). (vector_in (x.vectors number)).turn) (sym a.vectors) ∙ h, refl);
  groups = ap (λ (x : Vectors). length (vector_in (x.vectors number)).groups) a.vectors;
  masters = ap (λ (x : Vectors). turns_in (x.masters number)) a.vectors;
  letters = letters;
  sends = all_other number outcome.sends a.sends;
}

-- The turn of another vector of the core, or nothing there, is as before.
pub same_leaves : (number : ℕ) (before : Body) (got : List Letter) (outcome : Outcome)
    → Each (λ letter. IsOfOther number letter.message) got → Each (λ send. IsOfOther number send.message) outcome.sends
    → outcome.body.vectors.vectors number ≡ before.vectors.vectors number → outcome.body.vectors.masters number ≡ before.vectors.masters number
    → LeavesTurns number before got outcome
same_leaves number before got outcome letters sends vectors masters = record {
  turn = ap (λ (o : Option Vector). option_len (vector_in o).turn) vectors;
  ends = λ turn h. (turn, ap (λ (o : Option Vector). (vector_in o).turn) (sym vectors) ∙ h, refl);
  groups = ap (λ (o : Option Vector). length (vector_in o).groups) vectors;
  masters = ap turns_in masters;
  letters = letters;
  sends = sends;
}

-- One vector of the core has another state: the turns of each other stay.
pub other_leaves : (number object : ℕ) (before : Body) (got : List Letter) (outcome : Outcome) (next : Option Vector) → object ≢ number
    → Each (λ letter. IsOfOther number letter.message) got → Each (λ send. IsOfOther number send.message) outcome.sends
    → outcome.body.vectors.vectors ≡ put before.vectors.vectors object next → outcome.body.vectors.masters ≡ before.vectors.masters
    → LeavesTurns number before got outcome
other_leaves number object before got outcome next ne letters sends vectors masters = same_leaves number before got outcome letters sends
    (ap (λ (f : ℕ → Option Vector). f number) vectors ∙ put_other before.vectors.vectors object next number (λ q. ne (sym q)))
    (ap (λ (f : ℕ → Option Turns). f number) masters)

-- A vector that has the turn still, or hasn't still, and as many groups.
pub record KeepsTurn (before after : Vector) : Type 0 where
  pub turn : option_len after.turn ≡ option_len before.turn
  pub ends : (turn : Turn) → after.turn ≡ Some turn → (old : Turn) × (before.turn ≡ Some old) × (turn.ends ≡ old.ends)
  pub groups : length after.groups ≡ length before.groups

pub keeps_same : (before after : Vector) → after.turn ≡ before.turn → after.groups ≡ before.groups → KeepsTurn before after
keeps_same before after turn groups = record { turn = ap option_len turn; ends = λ t h. (t, sym turn ∙ h, refl); groups = ap length groups }

-- One vector of the core has another state, with the turn still: the turns of all stay.
pub kept_leaves : (number object : ℕ) (before : Body) (got : List Letter) (outcome : Outcome) (vector next : Vector)
    → before.vectors.vectors object ≡ Some vector → KeepsTurn vector next
    → Each (λ letter. IsOfOther number letter.message) got → NoTokens outcome.sends
    → outcome.body.vectors.vectors ≡ put before.vectors.vectors object (Some next) → outcome.body.vectors.masters ≡ before.vectors.masters
    → LeavesTurns number before got outcome
kept_leaves number object before got outcome vector next there k letters sends vectors masters = elim (cases_eq object number) [
  | inl q ↦ subst (λ (n : ℕ). LeavesTurns n before got outcome) q (at (subst (λ (n : ℕ). Each (λ letter. IsOfOther n letter.message) got) (sym q) letters))
  | inr ne ↦ other_leaves number object before got outcome (Some next) ne letters (all_other number outcome.sends sends) vectors masters
]
  where
    here : outcome.body.vectors.vectors object ≡ Some next
    here = ap (λ (f : ℕ → Option Vector). f object) vectors ∙ put_same before.vectors.vectors object (Some next)

    now : vector_in (outcome.body.vectors.vectors object) ≡ next
    now = ap vector_in here

    was : vector_in (before.vectors.vectors object) ≡ vector
    was = ap vector_in there

    at : Each (λ letter. IsOfOther object letter.message) got → LeavesTurns object before got outcome
    at mine = record {
      turn = ap (λ (v : Vector). option_len v.turn) now ∙ k.turn ∙ sym (ap (λ (v : Vector). option_len v.turn) was);
      ends = λ turn h. let o = k.ends turn (ap (λ (v : Vector). v.turn) (sym now) ∙ h) in (o.0, ap (λ (v : Vector). v.turn) was ∙ o.1, o.2);
      groups = ap (λ (v : Vector). length v.groups) now ∙ k.groups ∙ sym (ap (λ (v : Vector). length v.groups) was);
      masters = ap (λ (f : ℕ → Option Turns). turns_in (f object)) masters;
      letters = mine;
      sends = all_other object outcome.sends sends;
    }
