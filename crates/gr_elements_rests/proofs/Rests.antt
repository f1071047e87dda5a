-- Where turns of a vector have no calls, its words are at their homes, and nowhere else.
use Rattle.std.proofs.Common.{◌≡◌, ℕ, zero, suc, ◌+◌, ◌≤◌, ◌<◌, ◌==◌, Bool, true, false, if◌then◌else◌, List, [], ◌∷◌, slice_get, sym, ◌∙◌, ap, subst, refl, arith, Option, Some, None, is_some}
use Rattle.std.specs.List.{list_any}
use Rattle.std.specs.Option.{option_len}
use Rattle.std.proofs.lemmas.Bool.{cond_both, eqb-true}
use Rattle.gr_lang.specs.declared.action.WaitingCall.{WaitingCall}
use Rattle.gr_lang.specs.Expressions.{number_of}
use Rattle.gr_lang.specs.Objects.{Object, array, keys, pairs, line}
use Rattle.gr_msg.specs.declared.message.Msg.{Msg}
use Rattle.gr_msg.specs.declared.message.Msg.TheVariants as msg
use Rattle.gr_vector.specs.declared.ends.Ends.{Ends}
use Rattle.gr_vector.specs.Plans.{plan_of}
use Rattle.gr_net.specs.Sums.{total}
use Rattle.gr_net.proofs.Spreads.{total_none}
use Rattle.gr_net.proofs.Flights.{every_with, every_zero, flight_none}
use Rattle.gr_machine.specs.Machines.{thing}
use Rattle.gr_machine.specs.States.{Turn, Vector}
use Rattle.gr_machine.specs.Openings.{is_vector}
use Rattle.gr_machine.specs.Nets.{messages_in}
use Rattle.gr_stands.specs.Memory.{kind_of}
use Rattle.gr_stands.specs.Worlds.{Given, machine_in, World, bodies, in_flight}
use Rattle.gr_stands_contents.specs.Rests.{word_from, part_in, HasWord, LineRests}
use Rattle.gr_lines.specs.Lines.{vector_in}
use Rattle.gr_lines_turns.specs.Tokens.{vector_at, turns_at, turn_at, is_first, TurnStands}
use Rattle.gr_elements_plans.specs.Positions.{standing, gets_at, turn_plan, held_by}
use Rattle.gr_elements.specs.Weights.{putting, getting, carrying, of_turn, puts_in, gets_in, answers_in}
use Rattle.gr_elements.specs.Elements.{in_turns, ElementsStand}
use Rattle.gr_elements_acts.proofs.Counts.{len_some}
use Rattle.gr_elements_rests.specs.Laws as laws
use Rattle.gr_elements_rests.specs.Laws.{PutsAsPlanned}

true_false : true ≡ false → ⊥
true_false e = cc

some_same : {X : Type 0} (x y : X) → Some x ≡ Some y → x ≡ y
some_same x y e = cc

line_same : (one other : List ℕ) → line one ≡ line other → one ≡ other
line_same one other e = cc

-- Words by their positions, in two ways.
words_same : (words : List ℕ) (first position : ℕ) → word_from first words position ≡ standing first words position
words_same [] first position = refl
words_same (word ∷ words) first position = ap (λ (o : Option ℕ). if position == first then Some word else o) (words_same words (first + 1) position)

-- A sum that isn't nothing has a term that isn't.
record Term (n : ℕ) (F : ℕ → ℕ) : Type 0 where
  at : ℕ
  inside : at < n
  some : 1 ≤ F at

some_term : (n : ℕ) (F : ℕ → ℕ) → 1 ≤ total n F → Term n F
some_term zero F l = absurd (omega (arith, l))
some_term (suc n) F l = by (λ m. some_term n F m) (F n) refl
  where
    by : (1 ≤ total n F → Term n F) → (k : ℕ) → F n ≡ k → Term (suc n) F
    by before zero e = let t = before (omega (arith, l, e)) in record { at = t.at; inside = omega (arith, t.inside); some = t.some }
    by before (suc k) e = record { at = n; inside = omega arith; some = omega (arith, e) }

-- An object with the kind of a vector is one.
vector_kind : (one other : Option Object) (words : List ℕ) → one ≡ Some (line words) → kind_of one ≡ kind_of other → is_vector other ≡ true
vector_kind one other words is kind = by other (sym kind ∙ ap kind_of is)
  where
    by : (o : Option Object) → kind_of o ≡ Some (line []) → is_vector o ≡ true
    by None e = absurd (cc)
    by (Some (array from count)) e = absurd (cc)
    by (Some (keys held)) e = absurd (cc)
    by (Some (pairs held)) e = absurd (cc)
    by (Some (line words)) e = refl

part_same : (o : Option Vector) (position : ℕ) → part_in o position ≡ (vector_in o).part position
part_same None position = refl
part_same (Some v) position = refl

no_vector : (o : Option Vector) → is_some o ≡ false → o ≡ None
no_vector None e = refl
no_vector (Some v) e = absurd (true_false e)

-- ---- what a turn without calls does

no_puts : (turn : Turn) → turn.calls ≡ [] → PutsAsPlanned turn → (position : ℕ) → puts_in position turn ≡ 0
no_puts turn e planned position = by (turn.puts position) refl
  where
    by : (b : Bool) → turn.puts position ≡ b → number_of b ≡ 0
    by false p = refl
    by true p = absurd (true_false (sym (subst
        (λ (calls : List WaitingCall). list_any (λ (pair : ℕ × ℕ). pair.0 == position) (plan_of calls turn.ends.head turn.ends.tail).puts ≡ true)
        e
        (planned position p))))

-- A message that has a word with it is a put or the answer to a get.
no_word : (number at from to : ℕ) (message : Msg) → putting number at from to message ≡ 0 → getting number at from to message ≡ 0
    → carrying number at from to message ≡ 0
no_word number at from to (msg.ElemPut vector position word) p g = p
no_word number at from to (msg.ElemAck vector position None) p g = refl
no_word number at from to (msg.ElemAck vector position (Some word)) p g = g
no_word number at from to _ p g = refl

-- One core is the first of some, and no other one is.
no_first : (core first n : ℕ) (cores : List ℕ) → n ≤ is_first core (first ∷ cores) → (core ≡ first → n ≡ 0) → n ≡ 0
no_first core first n cores l none =
    cond_both (first == core) 1 0 (λ (k : ℕ). n ≤ k → n ≡ 0) (λ e q. none (sym (eqb-true first core e))) (λ e q. omega (arith, q)) l

module _ (given : Given) (w : World) (number : ℕ) (ends : Ends) (words : List ℕ) (held : ℕ → Option ℕ) (old : ElementsStand given w number ends words held)
    (tokens : TurnStands given w number ends) (has : (core : ℕ) → is_some ((bodies w core).vectors.vectors number) ≡ true)
    (empty : (core : ℕ) (turn : Turn) → (vector_at number (bodies w) core).turn ≡ Some turn → turn.calls ≡ [])
    (planned : (core : ℕ) (turn : Turn) → core < given.setup.cores → (vector_at number (bodies w) core).turn ≡ Some turn → PutsAsPlanned turn) where
  abbrev n : ℕ
  n = given.setup.cores

  -- Such a turn holds no words but those that stood before.
  turn_holds : (core : ℕ) (turn : Turn) → (vector_at number (bodies w) core).turn ≡ Some turn
      → (position : ℕ) → held position ≡ standing ends.head words position
  turn_holds core turn e position =
      (old.turn core turn e).holds position ∙ ap (λ (calls : List WaitingCall). held_by calls ends.head words position) (empty core turn e)

  is_standing : (position : ℕ) → held position ≡ standing ends.head words position
  is_standing position = by (turns_at (machine_in given) number (bodies w)).cores refl
    where
      by : (cores : List ℕ) → (turns_at (machine_in given) number (bodies w)).cores ≡ cores → held position ≡ standing ends.head words position
      by [] e = old.idle (λ core. omega (arith, tokens.token core, ap (is_first core) e)) position
      by (first ∷ cores) e = at (vector_at number (bodies w) first).turn refl
        where
          at : (turn : Option Turn) → (vector_at number (bodies w) first).turn ≡ turn → held position ≡ standing ends.head words position
          at (Some turn) t = turn_holds first turn t position
          at None t = old.idle (λ core. no_first core first (turn_at number (bodies w) core) cores (omega (arith, tokens.token core, ap (is_first core) e))
              (λ q. ap (λ (other : ℕ). turn_at number (bodies w) other) q ∙ ap option_len t)) position

  is_held : (position : ℕ) → held position ≡ word_from ends.head words position
  is_held position = is_standing position ∙ sym (words_same words ends.head position)

  -- What weighs nothing in each turn weighs nothing in all.
  in_none : (weight : Turn → ℕ) → ((core : ℕ) (turn : Turn) → core < n → (vector_at number (bodies w) core).turn ≡ Some turn → weight turn ≡ 0)
      → in_turns given number (bodies w) weight ≡ 0
  in_none weight none = total_none (λ core. of_turn weight (vector_at number (bodies w) core).turn) n
      (λ core here. at core here (vector_at number (bodies w) core).turn refl)
    where
      at : (core : ℕ) → core < n → (turn : Option Turn) → (vector_at number (bodies w) core).turn ≡ turn → of_turn weight turn ≡ 0
      at core here None t = refl
      at core here (Some turn) t = none core turn here t

  no_gets : (core : ℕ) (turn : Turn) → (vector_at number (bodies w) core).turn ≡ Some turn
      → (position : ℕ) → gets_in position turn + answers_in position turn ≡ 0
  no_gets core turn e position = (old.turn core turn e).planned position
      ∙ ap (λ (calls : List WaitingCall). gets_at position (turn_plan calls ends.head words).gets) (empty core turn e)

  module _ (position : ℕ) where
    no_answers : in_turns given number (bodies w) (answers_in position) ≡ 0
    no_answers = in_none (answers_in position) (λ core turn here e. omega (arith, no_gets core turn e position))

    puts_fly : in_flight (putting number position) n w ≡ 0
    puts_fly = old.puts position ∙ in_none (puts_in position) (λ core turn here e. no_puts turn (empty core turn e) (planned core turn here e) position)

    gets_fly : in_flight (getting number position) n w ≡ 0
    gets_fly = old.gets position ∙ in_none (gets_in position) (λ core turn here e. omega (arith, no_gets core turn e position))

    words_fly : in_flight (carrying number position) n w ≡ 0
    words_fly = flight_none messages_in (carrying number position) n w (every_with messages_in
        (λ from to m. putting number position from to m ≡ 0)
        (λ from to m. getting number position from to m ≡ 0)
        (λ from to m. carrying number position from to m ≡ 0)
        n
        w
        (no_word number position)
        (every_zero messages_in (putting number position) n w puts_fly)
        (every_zero messages_in (getting number position) n w gets_fly))

  somewhere : (position word : ℕ) → word_from ends.head words position ≡ Some word → HasWord n (bodies w) number position word
  somewhere position word h =
      let t = some_term n (λ core. option_len ((vector_at number (bodies w) core).part position)) (omega (
        arith,
        old.each position,
        words_fly position,
        no_answers position,
        ap option_len (is_held position ∙ h),
      )) in
      let x = len_some ((vector_at number (bodies w) t.at).part position) t.some in
      let same : x.0 ≡ word = some_same x.0 word (sym (old.parts t.at position x.0 x.1).1 ∙ is_held position ∙ h) in
      record { core = t.at; here = t.inside; there = part_same ((bodies w t.at).vectors.vectors number) position ∙ x.1 ∙ ap (λ (k : ℕ). Some k) same }

  pub line_rests : LineRests n (bodies w) number words
  line_rests = record {
    first = ends.head;
    kept = λ core here. has core;
    right = λ core position word here h. sym (is_held position)
        ∙ (old.parts core position word (sym (part_same ((bodies w core).vectors.vectors number) position) ∙ h)).1;
    somewhere = somewhere;
  }

pub rests_found : laws.RestsAreFound
rests_found given w S ends words stands lines tokens old has planned empty = record {
  lines = λ number more there.
      let is = vector_kind (slice_get S.objects.things number) (thing (machine_in given) number) more there (stands.words.kinds number) in
      let o = old.vectors number is in
      subst (LineRests given.setup.cores (bodies w) number)
      (line_same (words number) more (some_same (line (words number)) (line more) (sym (has number is) ∙ there)))
      (line_rests given w number (ends number) (words number) o.held o.stand (tokens number is) (λ core. (lines core).vectors number ∙ is)
      (λ core turn e. empty number core turn is e) (λ core turn here e. planned number core turn here e));
  others = λ core number here is. no_vector ((bodies w core).vectors.vectors number) ((lines core).vectors number ∙ is);
}
