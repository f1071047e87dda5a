-- Pieces, one by one.
use Rattle.std.proofs.Common.{◌≡◌, ◌<◌, ℕ, List, [], ◌++◌, sym, ◌∙◌, ap, subst, refl, arith}
use Rattle.std.specs.Prelude.{Bool, true, false, not, ◌&&◌, ◌||◌, nat_lt, Option, Some}
use Rattle.std.proofs.lemmas.Bool.{and_parts}
use Rattle.gr_lang.specs.declared.action.Entry.{Entry}
use Rattle.gr_lang.specs.States.{State}
use Rattle.gr_lang.specs.Histories.{after}
use Rattle.gr_view.specs.Places.{put}
use Rattle.gr_msg.specs.declared.message.Msg.{Msg}
use Rattle.gr_msg.specs.declared.message.Msg.TheVariants as msg
use Rattle.gr_net.proofs.Spreads.{put_same}
use Rattle.gr_machine.specs.declared.event.Event.{Event}
use Rattle.gr_machine.specs.declared.mark.Mark.{Mark}
use Rattle.gr_machine.specs.States.{Letter, Vector, Turn, Body, Core}
use Rattle.gr_machine.specs.Outcomes.{Outcome}
use Rattle.gr_machine.specs.Histories.{Sent}
use Rattle.gr_machine.specs.Enabled.{can, enabled, is_halted}
use Rattle.gr_machine.specs.Events.{gives}
use Rattle.gr_machine.proofs.Clocks.{some_same}
use Rattle.gr_stands.specs.Worlds.{Given, machine_in, World, bodies, Acts}
use Rattle.gr_stands.specs.Stands.{IsSound}
use Rattle.gr_stands.proofs.Worlds.{acted_bodies}
use Rattle.gr_stands_calls.specs.Acting.{letter, IsFirstLetter}
use Rattle.gr_stands_turns.specs.Turning.{TurnTells}
use Rattle.gr_stands_events.specs.Laws.{WaitersAreCores}
use Rattle.gr_stands_outcomes.specs.Marks.{sent_from, entries_from}
use Rattle.gr_stands_outcomes.proofs.Marks.{entries_come, entries_lead_on}
use Rattle.gr_stands_steps.specs.Entries.{ActsWithMarks, StandsAmongCores}
use Rattle.gr_stands_steps.specs.Telling.{message_outcome, MessageTells, PartsTell}
use Rattle.gr_stands_steps.proofs.Serves.{quiet_made}
use Rattle.gr_stands_steps.proofs.Steps.{stands_after}
use Rattle.gr_machine.specs.Serves.{serves}
use Rattle.gr_stands_made.specs.Pieces.{Piece, Starts, TurnEnds, EndStarts}

-- ---- the body at a core after a piece

pub body_after : (n : ℕ) (w v : World) (me : ℕ) (got : List Letter) (e : Outcome) → Acts n w v me got e → bodies v me ≡ e.body
body_after n w v me got e a = ap (λ (B : ℕ → Body). B me) (acted_bodies n w v me got e a) ∙ put_same (bodies w) me e.body

-- ---- pieces

module _ (given : Given) (sent : Sent) where
  abbrev leads : State → Sent → ℕ → List Mark → Option State
  leads S s me ms = after given.program given.setup.cores given.setup.steps S (entries_from s me ms)

  -- What an outcome does that acts is a piece.
  pub is_piece : (w v : World) (S : State) (me : ℕ) (got : List Letter) (e : Outcome) → StandsAmongCores given w S → Acts given.setup.cores w v me got e
      → (row : ActsWithMarks given sent w S me got e) → WaitersAreCores given e.body → Piece given sent w v S row.next me got e
  is_piece w v S me got e all acts row waiters = record {
    acts = acts;
    leads = row.leads;
    stood = all;
    stands = stands_after given w v S row.next me got e all acts row.keeps waiters;
  }

  pub piece_to : (w v : World) (S M N : State) (me : ℕ) (got : List Letter) (e : Outcome) → M ≡ N → Piece given sent w v S M me got e → Piece given sent w v S N me got e
  piece_to w v S M N me got e same p = subst (λ (x : State). Piece given sent w v S x me got e) same p

  -- Gifts are one, from the body that they are of.
  pub gifts_are : (w v : World) (S : State) (me : ℕ) (b : Body) → bodies w me ≡ b → StandsAmongCores given w S → StandsAmongCores given v S
      → Acts given.setup.cores w v me [] (gives b) → Piece given sent w v S S me [] (gives (bodies w me))
  gifts_are w v S me b at stood stands acts = record {
    acts = subst (λ (x : Body). Acts given.setup.cores w v me [] (gives x)) (sym at) acts;
    leads = refl;
    stood = stood;
    stands = stands;
  }

  -- Two states to which the same marks lead are one.
  pub one_next : (S M N : State) (me : ℕ) (xs ys : List Mark) → xs ≡ ys → leads S sent me xs ≡ Some M → leads S sent me ys ≡ Some N → M ≡ N
  one_next S M N me xs ys same a b = some_same (sym a ∙ ap (leads S sent me) same ∙ b)

  -- What marks lead to after others.
  pub leads_then : (S M N : State) (me : ℕ) (xs ys : List Mark) → leads S sent me xs ≡ Some M → leads S sent me (xs ++ ys) ≡ Some N → leads M (sent_from sent me xs) me ys ≡ Some N
  leads_then S M N me xs ys a b =
      sym (entries_lead_on given S M (entries_from sent me xs) (entries_from (sent_from sent me xs) me ys) a)
      ∙ (ap (after given.program given.setup.cores given.setup.steps S) (sym (entries_come sent me xs ys)) ∙ b)

-- ---- the start of an event

pub is_not : (b : Bool) → not b ≡ true → b ≡ false
is_not true e = absurd (cc)
is_not false e = refl

neither : (a b : Bool) → (a || b) ≡ false → (a ≡ false) × (b ≡ false)
neither true b e = absurd (cc)
neither false b e = (refl, e)

module _ (given : Given) (sent : Sent) (w : World) (S : State) (me : ℕ) (core : Core) (what : Event) (on : enabled (machine_in given) me core what ≡ true) where
  parts : ((not (is_halted core) && nat_lt core.clock given.setup.events) ≡ true) × (can (machine_in given) me core what ≡ true)
  parts = and_parts (not (is_halted core) && nat_lt core.clock given.setup.events) (can (machine_in given) me core what) on

  pub may : can (machine_in given) me core what ≡ true
  may = parts.1

  awake : (core.body.stops.trapped ≡ false) × (core.body.stops.passed ≡ false)
  awake = neither core.body.stops.trapped core.body.stops.passed
      (is_not (is_halted core) (and_parts (not (is_halted core)) (nat_lt core.clock given.setup.events) parts.0).0)

  pub it_starts : bodies w me ≡ core.body → me < given.setup.cores → PartsTell given sent w S me → Starts given sent w S me
  it_starts at here tells = record {
    here = here;
    untrapped = ap (λ (b : Body). b.stops.trapped) at ∙ awake.0;
    unpassed = ap (λ (b : Body). b.stops.passed) at ∙ awake.1;
    tells = tells;
  }

-- ---- the end of a turn

module _ (given : Given) (sent : Sent) (w : World) (S : State) (me from : ℕ) (sound : IsSound given) (all : StandsAmongCores given w S) (tells : PartsTell given sent w S me)
    (v : World) (M : State) where
  abbrev body : Body
  body = bodies w me

  -- The message has left the plain state as it was, and the body at the core is that after it.
  record IsQuietly (m : Msg) : Type 0 where
    first : IsFirstLetter given w me from m
    marks : (message_outcome given w me from m).marks ≡ []
    leads : after given.program given.setup.cores given.setup.steps S (entries_from sent me (message_outcome given w me from m).marks) ≡ Some M
    is : bodies v ≡ put (bodies w) me (message_outcome given w me from m).body

  same_state : (m : Msg) → IsQuietly m → S ≡ M
  same_state m q = one_next given sent S S M me [] (message_outcome given w me from m).marks (sym q.marks) refl q.leads

  ends_there : (m : Msg) (q : IsQuietly m) (number : ℕ)
      → ((between : World) (vector : Vector) (turn : Turn) → bodies between ≡ put (bodies w) me (message_outcome given w me from m).body
      → (message_outcome given w me from m).body.vectors.vectors number ≡ Some vector → vector.turn ≡ Some turn → turn.left ≡ 0 → TurnTells between S me number turn)
      → TurnEnds v M me number
  ends_there m q number told vector turn there is none =
      let at : (message_outcome given w me from m).body ≡ bodies v me = sym (ap (λ (B : ℕ → Body). B me) q.is ∙ put_same (bodies w) me (message_outcome given w me from m).body) in
      subst (λ (x : State). TurnTells v x me number turn) (same_state m q) (told v vector turn q.is (ap (λ (b : Body). b.vectors.vectors number) at ∙ there) is none)

  pub end_starts : (m : Msg) → IsFirstLetter given w me from m → MessageTells given sent w S me from m
      → after given.program given.setup.cores given.setup.steps S (entries_from sent me (message_outcome given w me from m).marks) ≡ Some M
      → bodies v ≡ put (bodies w) me (message_outcome given w me from m).body → EndStarts v M me m
  end_starts (msg.Grant vector head tail) first told leads is =
      let quiet = quiet_made given sent w S me from sound all tells (msg.Grant vector head tail) first tt tt (serves (machine_in given) me body from (msg.Grant vector head tail)) refl in
      ends_there (msg.Grant vector head tail) (record { first = first; marks = ap (λ (e : Outcome). e.marks) (some_same quiet.acts) ∙ quiet.marks; leads = leads; is = is }) vector told
  end_starts (msg.ElemAck vector position got) first told leads is =
      let quiet = quiet_made given sent w S me from sound all tells (msg.ElemAck vector position got) first tt tt (serves (machine_in given) me body from (msg.ElemAck vector position got)) refl in
      ends_there (msg.ElemAck vector position got) (record { first = first; marks = ap (λ (e : Outcome). e.marks) (some_same quiet.acts) ∙ quiet.marks; leads = leads; is = is }) vector told
  end_starts _ first told leads is = tt
