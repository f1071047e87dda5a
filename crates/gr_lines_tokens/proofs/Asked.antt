-- A core asks for a turn, and one ends: the master has the next first.
use Rattle.std.proofs.Common.{◌≡◌, ℕ, ◌+◌, ◌≤◌, ◌==◌, if◌then◌else◌, List, [], ◌∷◌, ◌++◌, length, drop, sym, ◌∙◌, ap, subst, refl, arith, Some}
use Rattle.std.specs.Option.{option_len}
use Rattle.gr_view.specs.Places.{put}
use Rattle.gr_msg.specs.declared.message.Msg.TheVariants as msg
use Rattle.gr_vector.specs.declared.ends.Ends.{Ends}
use Rattle.gr_vector.specs.Turns.{Turns, turn_of, asked, grant_on_asking, ended, granted}
use Rattle.gr_net.specs.Sums.{Each}
use Rattle.gr_net.proofs.Spreads.{put_same, put_at, put_each, put_field, weigh-append}
use Rattle.gr_machine.specs.Machines.{Machine, numbered_home}
use Rattle.gr_machine.specs.States.{Letter, Body}
use Rattle.gr_machine.specs.Outcomes.{Send, Outcome}
use Rattle.gr_machine.specs.TurnServes.{grants as grant_sends, with_turns, turn_ended}
use Rattle.gr_stands.specs.Worlds.{Given, machine_in, World, bodies, of_letters, of_sends, Acts}
use Rattle.gr_stands.specs.Calls.{times}
use Rattle.gr_stands.proofs.Worlds.{facts_off, flow_off}
use Rattle.gr_lines.specs.Lines.{vector_in}
use Rattle.gr_lines_turns.specs.Tokens.{vector_at, turns_in, turns_at, turn_at, is_first, asks, grants, dones, TokenStands, TurnStands}
use Rattle.gr_lines_turns.specs.TokenActs.{TurnAct}
use Rattle.gr_lines_turns.proofs.Kept.{turns_kept}
use Rattle.gr_lines_tokens.proofs.Firsts.{one_if, turn_asks, grant_grants, done_dones, first_is, no_end, granted_weighs, granted_done, granted_asks}

module _ (given : Given) (w v : World) (number me from : ℕ) (ends : Ends) (old : TurnStands given w number ends) where
  abbrev n : ℕ
  n = given.setup.cores

  abbrev machine : Machine
  machine = machine_in given

  abbrev A : ℕ → Body
  A = bodies w

  abbrev home : ℕ
  home = numbered_home machine number

  -- The master has these turns now, and nothing else of vectors has changed.
  module _ (turns next : Turns) (sends : List Send) (here : home ≡ me) (there : (A me).vectors.masters number ≡ Some turns) where
    abbrev e : Outcome
    e = record { body = with_turns (A me) number next; sends = sends; marks = [] }

    abbrev B : ℕ → Body
    B = put A me e.body

    turn_same : (i : ℕ) → turn_at number B i ≡ turn_at number A i
    turn_same = put_field (λ (b : Body). option_len (vector_in (b.vectors.vectors number)).turn) A me e.body refl

    groups_same : (i : ℕ) → length (vector_at number B i).groups ≡ length (vector_at number A i).groups
    groups_same = put_field (λ (b : Body). length (vector_in (b.vectors.vectors number)).groups) A me e.body refl

    masters_now : turns_at machine number B ≡ next
    masters_now = ap (λ (b : Body). turns_in (b.vectors.masters number)) (put_at A me e.body home here) ∙ ap turns_in (put_same (A me).vectors.masters number (Some next))

    pub masters_was : turns_at machine number A ≡ turns
    masters_was = ap (λ (i : ℕ). turns_in ((A i).vectors.masters number)) here ∙ ap turns_in there

    pub master_acts : (got : List Letter)
        → ((i : ℕ) → of_sends (grants number i) me sends + of_sends (dones number i) me sends + is_first i turns.cores ≡ of_letters (grants number i) me got + of_letters (dones number i) me got + is_first i next.cores)
        → ((i : ℕ) → of_sends (dones number i) me sends + of_letters (asks number i) me got + times i turns.cores ≡ of_letters (dones number i) me got + of_sends (asks number i) me sends + times i next.cores)
        → (next.cores ≡ [] → (next.head ≡ ends.head) × (next.tail ≡ ends.tail))
        → Each (λ send. TokenStands machine number ends me send.to send.message) sends
        → TurnAct given w number me got e ends
    master_acts got token asking rests stand = record {
      order = old.order;
      token = λ i. omega (arith, turn_same i, token i, ap (λ (t : Turns). is_first i t.cores) masters_now, ap (λ (t : Turns). is_first i t.cores) masters_was);
      asked = λ i. omega (arith, groups_same i, asking i, ap (λ (t : Turns). times i t.cores) masters_now, ap (λ (t : Turns). times i t.cores) masters_was);
      rests = λ h. let r = rests (ap (λ (t : Turns). t.cores) (sym masters_now) ∙ h) in (ap (λ (t : Turns). t.head) masters_now ∙ r.0, ap (λ (t : Turns). t.tail) masters_now ∙ r.1);
      turn = λ i t. put_each (λ (i : ℕ) (b : Body). (vector_in (b.vectors.vectors number)).turn ≡ Some t → t.ends ≡ ends) A me e.body i (λ q. old.turn me t) (λ q. old.turn i t);
      sends = stand;
    }

  -- ---- a core asks

  -- The first of all that ask has the turn at once.
  asking_token : (i head tail : ℕ) (cores : List ℕ)
      → of_sends (grants number i) me (grant_sends number (grant_on_asking (record { head = head; tail = tail; cores = cores }) from)) + is_first i cores ≡ is_first i (cores ++ from ∷ [])
  asking_token i head tail [] = omega (arith, grant_grants number i me from head tail)
  asking_token i head tail (core ∷ cores) = omega arith

  asking_done : (i head tail : ℕ) (cores : List ℕ) → of_sends (dones number i) me (grant_sends number (grant_on_asking (record { head = head; tail = tail; cores = cores }) from)) ≡ 0
  asking_done i head tail [] = refl
  asking_done i head tail (core ∷ cores) = refl

  asking_asks : (i head tail : ℕ) (cores : List ℕ) → of_sends (asks number i) me (grant_sends number (grant_on_asking (record { head = head; tail = tail; cores = cores }) from)) ≡ 0
  asking_asks i head tail [] = refl
  asking_asks i head tail (core ∷ cores) = refl

  asking_stands : (head tail : ℕ) (cores : List ℕ) → (cores ≡ [] → (head ≡ ends.head) × (tail ≡ ends.tail))
      → Each (λ send. TokenStands machine number ends me send.to send.message) (grant_sends number (grant_on_asking (record { head = head; tail = tail; cores = cores }) from))
  asking_stands head tail [] r = (λ q. r refl, tt)
  asking_stands head tail (core ∷ cores) r = tt

  abbrev asking : List Letter
  asking = record { from = from; message = msg.Turn number } ∷ []

  pub asked_keeps : (turns : Turns) → (A me).vectors.masters number ≡ Some turns
      → Acts n w v me asking (record { body = with_turns (A me) number (asked turns from); sends = grant_sends number (grant_on_asking turns from); marks = [] })
      → TurnStands given v number ends
  asked_keeps turns there acts =
      let sends : List Send = grant_sends number (grant_on_asking turns from) in
      let made : Outcome = record { body = with_turns (A me) number (asked turns from); sends = sends; marks = [] } in
      let letters = (facts_off n w v me asking made acts (TokenStands machine number ends) old.messages).0 in
      let here : home ≡ me = sym (letters.0 refl) in
      let was = masters_was turns (asked turns from) sends here there in
      turns_kept given w v number me asking made ends ends acts
      (master_acts turns (asked turns from) sends here there asking
      (λ i. omega (arith, asking_token i turns.head turns.tail turns.cores, asking_done i turns.head turns.tail turns.cores))
      (λ i. omega (arith, turn_asks number i from me, asking_done i turns.head turns.tail turns.cores, asking_asks i turns.head turns.tail turns.cores, weigh-append (λ (one : ℕ). if one == i then 1 else 0) turns.cores (from ∷ [])))
      (λ h. absurd (no_end turns.cores from h))
      (asking_stands turns.head turns.tail turns.cores (λ h. let r = old.rests (ap (λ (t : Turns). t.cores) was ∙ h) in (ap (λ (t : Turns). t.head) (sym was) ∙ r.0, ap (λ (t : Turns). t.tail) (sym was) ∙ r.1))))
      (λ f. f) old

  -- ---- a turn ends

  granted_stands : (head tail : ℕ) (cores : List ℕ) → head ≡ ends.head → tail ≡ ends.tail → Each (λ send. TokenStands machine number ends me send.to send.message) (grant_sends number (turn_of head tail cores))
  granted_stands head tail [] h t = tt
  granted_stands head tail (core ∷ cores) h t = (λ q. (h, t), tt)

  module _ (head tail : ℕ) where
    abbrev done : List Letter
    done = record { from = from; message = msg.Done number head tail } ∷ []

    -- The core that says so was the first.
    pub was_first : (made : Outcome) → Acts n w v me done made → 1 ≤ is_first from (turns_at machine number A).cores
    was_first made acts = omega (arith, flow_off n w v me done made acts (dones number from), old.token from, done_dones number from from me head tail, one_if from from refl)

    pub done_keeps : (turns : Turns) → (A me).vectors.masters number ≡ Some turns → Acts n w v me done (turn_ended (A me) number (ended turns head tail)) → TurnStands given v number ends
    done_keeps turns there acts =
        let next : Turns = ended turns head tail in
        let sends : List Send = grant_sends number (granted next) in
        let letters = (facts_off n w v me done (turn_ended (A me) number next) acts (TokenStands machine number ends) old.messages).0 in
        let here : home ≡ me = sym (letters.0 refl).0 in
        let was = masters_was turns next sends here there in
        let first = first_is from turns.cores (subst (λ (t : Turns). 1 ≤ is_first from t.cores) was (was_first (turn_ended (A me) number next) acts)) in
        turns_kept given w v number me done (turn_ended (A me) number next) ends ends acts
        (master_acts turns next sends here there done
        (λ i. omega (arith, granted_weighs number i me head tail (drop 1 turns.cores), granted_done number i me head tail (drop 1 turns.cores), done_dones number i from me head tail, ap (is_first i) first.1, ap (λ (cores : List ℕ). is_first i (drop 1 cores)) first.1))
        (λ i. omega (arith, granted_done number i me head tail (drop 1 turns.cores), granted_asks number i me head tail (drop 1 turns.cores), done_dones number i from me head tail, ap (times i) first.1, ap (λ (cores : List ℕ). times i (drop 1 cores)) first.1))
        (λ h. ((letters.0 refl).1, (letters.0 refl).2))
        (granted_stands head tail (drop 1 turns.cores) (letters.0 refl).1 (letters.0 refl).2))
        (λ f. f) old
