-- A core gets the turn, and its calls go off as a group.
use Rattle.std.proofs.Common.{◌≡◌, ℕ, ◌+◌, ◌≤◌, ◌==◌, Bool, if◌then◌else◌, List, [], ◌∷◌, ◌++◌, length, sym, ◌∙◌, ap, subst, refl, arith, Option, Some}
use Rattle.std.proofs.lemmas.List.{length-append}
use Rattle.std.specs.Option.{option_len}
use Rattle.gr_lang.specs.declared.action.WaitingCall.{WaitingCall}
use Rattle.gr_view.specs.Places.{put}
use Rattle.gr_msg.specs.declared.message.Msg.TheVariants as msg
use Rattle.gr_vector.specs.declared.ends.Ends.{Ends}
use Rattle.gr_vector.specs.declared.turn_plan.Plan.{Plan}
use Rattle.gr_vector.specs.Groups.{group_of}
use Rattle.gr_vector.specs.Turns.{Turns}
use Rattle.gr_net.proofs.Spreads.{put_same, put_each, put_field, Each-map}
use Rattle.gr_machine.specs.Machines.{Machine, numbered_home}
use Rattle.gr_machine.specs.declared.waits.Waits.TheVariants as wait
use Rattle.gr_machine.specs.States.{Letter, Turn, Vector, Vectors, Body}
use Rattle.gr_machine.specs.Outcomes.{Send, Outcome}
use Rattle.gr_machine.specs.TurnServes.{with_vector, turn_from, turn_begun}
use Rattle.gr_machine.specs.Closes.{closes_vector}
use Rattle.gr_stands.specs.Worlds.{Given, machine_in, World, bodies, in_flight, Acts}
use Rattle.gr_stands.specs.Calls.{times}
use Rattle.gr_stands.proofs.Worlds.{facts_off, flow_off}
use Rattle.gr_lines.specs.Lines.{vector_in}
use Rattle.gr_lines_turns.specs.Tokens.{vector_at, turns_in, turns_at, turn_at, is_first, asks, grants, dones, TokenStands, TurnStands}
use Rattle.gr_lines_turns.specs.TokenActs.{IsOfOther}
use Rattle.gr_lines_turns.proofs.Kept.{asks_off, grants_off, dones_off, token_off, sends_none, turns_kept}
use Rattle.gr_lines_apart.proofs.Apart.{all_other}
use Rattle.gr_lines_apart.proofs.Closes.{rewaits_stay}
use Rattle.gr_lines_apart.proofs.Turns.{begins_apart}
use Rattle.gr_lines_tokens.proofs.Firsts.{some_same, self_eq, not_eq, one_if, none_if, turn_asks, grant_grants, first_le, first_times}

abbrev ends_at : ℕ → ℕ → Ends
ends_at head tail = record { head = head; tail = tail }

module _ (given : Given) (w v : World) (number me : ℕ) (ends : Ends) (old : TurnStands given w number ends) where
  abbrev n : ℕ
  n = given.setup.cores

  abbrev machine : Machine
  machine = machine_in given

  abbrev A : ℕ → Body
  A = bodies w

  -- The core has another state of the vector, and the masters stay.
  module _ (e : Outcome) (next : Vector) (vectors : e.body.vectors.vectors ≡ put (A me).vectors.vectors number (Some next)) (masters : e.body.vectors.masters ≡ (A me).vectors.masters) where
    abbrev B : ℕ → Body
    B = put A me e.body

    pub vector_now : vector_in (e.body.vectors.vectors number) ≡ next
    vector_now = ap (λ (f : ℕ → Option Vector). vector_in (f number)) vectors ∙ ap vector_in (put_same (A me).vectors.vectors number (Some next))

    pub masters_same : turns_at machine number B ≡ turns_at machine number A
    masters_same = put_field (λ (b : Body). turns_in (b.vectors.masters number)) A me e.body (ap (λ (f : ℕ → Option Turns). turns_in (f number)) masters) (numbered_home machine number)

    -- A number of the vector is less or more at the core by so much, and the same at others.
    pub moved : (F : Vector → ℕ) (less more : ℕ) → F next + less ≡ F (vector_at number A me) + more → (i : ℕ)
        → F (vector_at number B i) + (if me == i then less else 0) ≡ F (vector_at number A i) + (if me == i then more else 0)
    moved F less more h i = put_each (λ (i : ℕ) (b : Body). F (vector_in (b.vectors.vectors number)) + (if me == i then less else 0) ≡ F (vector_at number A i) + (if me == i then more else 0)) A me e.body i
        (λ q. subst (λ (j : ℕ). F (vector_in (e.body.vectors.vectors number)) + (if me == j then less else 0) ≡ F (vector_at number A j) + (if me == j then more else 0)) (sym q)
        (ap (λ (b : Bool). F (vector_in (e.body.vectors.vectors number)) + (if b then less else 0)) (self_eq me) ∙ ap (λ (x : Vector). F x + less) vector_now ∙ h
        ∙ sym (ap (λ (b : Bool). F (vector_at number A me) + (if b then more else 0)) (self_eq me))))
        (λ ne. ap (λ (b : Bool). F (vector_at number A i) + (if b then less else 0)) (not_eq me i (λ q. ne (sym q))) ∙ sym (ap (λ (b : Bool). F (vector_at number A i) + (if b then more else 0)) (not_eq me i (λ q. ne (sym q)))))

  -- ---- the turn is granted

  module _ (head tail : ℕ) where
    abbrev granting : (from : ℕ) → List Letter
    granting from = record { from = from; message = msg.Grant number head tail } ∷ []

    module _ (from : ℕ) (made : Outcome) (acts : Acts n w v me (granting from) made) where
      in_letter : 1 ≤ in_flight (grants number me) n w
      in_letter = omega (arith, flow_off n w v me (granting from) made acts (grants number me), grant_grants number me from me head tail, one_if me me refl)

      -- The core is the first, has no turn yet, and a group of it has asked.
      pub no_turn : turn_at number A me ≡ 0
      no_turn = omega (arith, in_letter, old.token me, first_le me (turns_at machine number A).cores)

      pub has_group : 1 ≤ length (vector_at number A me).groups
      has_group = omega (arith, in_letter, old.token me, old.asked me, first_le me (turns_at machine number A).cores, first_times me (turns_at machine number A).cores)

      pub where_granted : (head ≡ ends.head) × (tail ≡ ends.tail)
      where_granted = (facts_off n w v me (granting from) made acts (TokenStands machine number ends) old.messages).0.0 refl

    pub granted_keeps : (from : ℕ) (vector : Vector) → (A me).vectors.vectors number ≡ Some vector → (calls : List WaitingCall) (plan : Plan)
        → Acts n w v me (granting from) (turn_begun machine (A me) number vector calls head tail plan) → TurnStands given v number ends
    granted_keeps from vector there calls plan acts =
        let turn : Turn = turn_from calls (record { head = head; tail = tail }) plan in
        let next : Vector = record vector { turn = Some turn } in
        let made : Outcome = turn_begun machine (A me) number vector calls head tail plan in
        let at = where_granted from made acts in
        let same = masters_same made next refl refl in
        let others = all_other number made.sends (begins_apart machine number plan) in
        turns_kept given w v number me (granting from) made ends ends acts (record {
          order = old.order;
          token = λ i. omega (
            arith,
            moved made next refl refl (λ x. option_len x.turn) 0 1 (omega (arith, no_turn from made acts)) i,
            grant_grants number i from me head tail,
            none_if me i,
            ap (λ (t : Turns). is_first i t.cores) same,
            sends_none number (grants number i) (grants_off number i) me made.sends others,
            sends_none number (dones number i) (dones_off number i) me made.sends others,
          );
          asked = λ i. omega (
            arith,
            moved made next refl refl (λ x. length x.groups) 0 0 (ap (λ (o : Option Vector). length (vector_in o).groups + 0) (sym there)) i,
            ap (λ (t : Turns). times i t.cores) same,
            sends_none number (asks number i) (asks_off number i) me made.sends others,
            sends_none number (dones number i) (dones_off number i) me made.sends others,
          );
          rests = λ h. let r = old.rests (ap (λ (t : Turns). t.cores) (sym same) ∙ h) in (ap (λ (t : Turns). t.head) same ∙ r.0, ap (λ (t : Turns). t.tail) same ∙ r.1);
          turn = λ i t. put_each (λ (i : ℕ) (b : Body). (vector_in (b.vectors.vectors number)).turn ≡ Some t → t.ends ≡ ends) A me made.body i
              (λ q h. sym (ap (λ (x : Turn). x.ends) (some_same turn t (ap (λ (x : Vector). x.turn) (sym (vector_now made next refl refl)) ∙ h))) ∙ both at.0 at.1) (λ q. old.turn i t);
          sends = Each-map (λ (s : Send). IsOfOther number s.message) (λ (s : Send). TokenStands machine number ends me s.to s.message) (λ s o. token_off machine number ends me s.to s.message o) made.sends others;
        }) (λ f. f) old
      where
        both : head ≡ ends.head → tail ≡ ends.tail → ends_at head tail ≡ ends
        both p q = ap (λ (h : ℕ). ends_at h tail) p ∙ ap (λ (t : ℕ). ends_at ends.head t) q

  -- ---- calls go off

  pub closed_keeps : (vector : Vector) → (A me).vectors.vectors number ≡ Some vector → Acts n w v me [] (closes_vector machine (A me) number vector (group_of vector.combiner)) → TurnStands given v number ends
  closed_keeps vector there acts =
      let group = group_of vector.combiner in
      let next : Vector = record vector { combiner = []; groups = vector.groups ++ group ∷ [] } in
      let made : Outcome = closes_vector machine (A me) number vector group in
      let stays = rewaits_stay (wait.Turn number) (with_vector (A me) number next) group in
      let vectors = ap (λ (x : Vectors). x.vectors) stays in
      let masters = ap (λ (x : Vectors). x.masters) stays in
      let same = masters_same made next vectors masters in
      turns_kept given w v number me [] made ends ends acts (record {
        order = old.order;
        token = λ i. omega (
          arith,
          moved made next vectors masters (λ x. option_len x.turn) 0 0 (ap (λ (o : Option Vector). option_len (vector_in o).turn + 0) (sym there)) i,
          ap (λ (t : Turns). is_first i t.cores) same,
        );
        asked = λ i. omega (
          arith,
          moved made next vectors masters (λ x. length x.groups) 0 1 (omega (arith, length-append vector.groups (group ∷ []), ap (λ (o : Option Vector). length (vector_in o).groups) there)) i,
          turn_asks number i me (numbered_home machine number),
          none_if me i,
          ap (λ (t : Turns). times i t.cores) same,
        );
        rests = λ h. let r = old.rests (ap (λ (t : Turns). t.cores) (sym same) ∙ h) in (ap (λ (t : Turns). t.head) same ∙ r.0, ap (λ (t : Turns). t.tail) same ∙ r.1);
        turn = λ i t. put_each (λ (i : ℕ) (b : Body). (vector_in (b.vectors.vectors number)).turn ≡ Some t → t.ends ≡ ends) A me made.body i
            (λ q h. old.turn me t (ap (λ (o : Option Vector). (vector_in o).turn) there ∙ ap (λ (x : Vector). x.turn) (sym (vector_now made next vectors masters)) ∙ h)) (λ q. old.turn i t);
        sends = (λ q. refl, tt);
      }) (λ f. f) old
