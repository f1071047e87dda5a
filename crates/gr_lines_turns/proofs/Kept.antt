-- Whose turn it is, is kept by an outcome, from what is asked of it; and by Ships and Takes.
use Rattle.std.proofs.Common.{◌≡◌, ◌≢◌, ℕ, zero, ◌+◌, ◌==◌, ◌&&◌, if◌then◌else◌, List, [], length, sym, ◌∙◌, ap, subst, refl, arith, Some}
use Rattle.std.proofs.lemmas.Bool.Decides.{nat_tests}
use Rattle.std.specs.Option.{option_len}
use Rattle.gr_view.specs.Places.{put}
use Rattle.gr_msg.specs.declared.message.Msg.{Msg}
use Rattle.gr_msg.specs.declared.message.Msg.TheVariants as msg
use Rattle.gr_agg.specs.Laws.{Adds, Merges}
use Rattle.gr_vector.specs.declared.ends.Ends.{Ends}
use Rattle.gr_vector.specs.Turns.{Turns}
use Rattle.gr_net.specs.Sums.{Each}
use Rattle.gr_net.proofs.Spreads.{put_each, put_field, weigh_none, Each-map}
use Rattle.gr_machine.specs.Machines.{Machine, numbered_home}
use Rattle.gr_machine.specs.States.{Letter, Body}
use Rattle.gr_machine.specs.Outcomes.{Send, Outcome}
use Rattle.gr_stands.specs.Worlds.{Given, machine_in, World, Weight, bodies, in_flight, of_letters, of_sends}
use Rattle.gr_stands.specs.Calls.{times}
use Rattle.gr_stands.proofs.Worlds.{acted_bodies, flow, facts_off, facts_on, moved_bodies, moved_flow, moved_facts}
use Rattle.gr_lines.specs.Lines.{vector_in}
use Rattle.gr_lines_turns.specs.Tokens.{vector_at, turns_in, turns_at, turn_at, is_first, asks, grants, dones, TokenStands, TurnStands}
use Rattle.gr_lines_turns.specs.TokenActs.{TurnAct, IsOfOther, LeavesTurns}
use Rattle.gr_lines_turns.specs.Laws as laws

-- ---- weights

pub asks_add : (number core from to : ℕ) → Adds (asks number core from to)
asks_add number core from to scope x y = refl

pub grants_add : (number core from to : ℕ) → Adds (grants number core from to)
grants_add number core from to scope x y = refl

pub dones_add : (number core from to : ℕ) → Adds (dones number core from to)
dones_add number core from to scope x y = refl

pub tokens_merge : (machine : Machine) (number : ℕ) (ends : Ends) (from to : ℕ) → Merges (TokenStands machine number ends from to)
tokens_merge machine number ends from to scope x y p q = tt

both_off : (a n b c : ℕ) → a ≢ n → (if a == n && b == c then 1 else 0) ≡ zero
both_off a n b c ne = grind (arith, nat_tests)

pub asks_off : (number core from to : ℕ) (m : Msg) → IsOfOther number m → asks number core from to m ≡ 0
asks_off number core from to (msg.Turn vector) ne = both_off vector number from core ne
asks_off number core from to _ ne = refl

pub grants_off : (number core from to : ℕ) (m : Msg) → IsOfOther number m → grants number core from to m ≡ 0
grants_off number core from to (msg.Grant vector head tail) ne = both_off vector number to core ne
grants_off number core from to _ ne = refl

pub dones_off : (number core from to : ℕ) (m : Msg) → IsOfOther number m → dones number core from to m ≡ 0
dones_off number core from to (msg.Done vector head tail) ne = both_off vector number from core ne
dones_off number core from to _ ne = refl

pub token_off : (machine : Machine) (number : ℕ) (ends : Ends) (from to : ℕ) (m : Msg) → IsOfOther number m → TokenStands machine number ends from to m
token_off machine number ends from to (msg.Turn vector) ne = λ q. absurd (ne q)
token_off machine number ends from to (msg.Grant vector head tail) ne = λ q. absurd (ne q)
token_off machine number ends from to (msg.Done vector head tail) ne = λ q. absurd (ne q)
token_off machine number ends from to _ ne = tt

pub letters_none : (number : ℕ) (h : Weight) → ((from to : ℕ) (m : Msg) → IsOfOther number m → h from to m ≡ 0) → (me : ℕ) (got : List Letter) → Each (λ letter. IsOfOther number letter.message) got → of_letters h me got ≡ 0
letters_none number h off me got f = weigh_none (λ (l : Letter). h l.from me l.message) got
    (Each-map (λ (l : Letter). IsOfOther number l.message) (λ (l : Letter). h l.from me l.message ≡ 0) (λ l o. off l.from me l.message o) got f)

pub sends_none : (number : ℕ) (h : Weight) → ((from to : ℕ) (m : Msg) → IsOfOther number m → h from to m ≡ 0) → (me : ℕ) (sends : List Send) → Each (λ send. IsOfOther number send.message) sends → of_sends h me sends ≡ 0
sends_none number h off me sends f = weigh_none (λ (s : Send). h me s.to s.message) sends
    (Each-map (λ (s : Send). IsOfOther number s.message) (λ (s : Send). h me s.to s.message ≡ 0) (λ s o. off me s.to s.message o) sends f)

-- ---- an outcome

pub turns_kept : laws.TurnsAreKept
turns_kept given w v number c got e ends next acts a carry old =
    let n = given.setup.cores in
    let machine = machine_in given in
    let same : bodies v ≡ put (bodies w) c e.body = acted_bodies n w v c got e acts in
    record {
      order = a.order;
      token = λ i. subst (λ (X : ℕ → Body). turn_at number X i + (in_flight (grants number i) n v + in_flight (dones number i) n v) ≡ is_first i (turns_at machine number X).cores) (sym same)
          (omega (arith, a.token i, old.token i, flow n w v c got e acts (grants number i) (grants_add number i), flow n w v c got e acts (dones number i) (dones_add number i)));
      asked = λ i. subst (λ (X : ℕ → Body). length (vector_at number X i).groups + in_flight (dones number i) n v ≡ in_flight (asks number i) n v + times i (turns_at machine number X).cores) (sym same)
          (omega (arith, a.asked i, old.asked i, flow n w v c got e acts (asks number i) (asks_add number i), flow n w v c got e acts (dones number i) (dones_add number i)));
      rests = subst (λ (X : ℕ → Body). (turns_at machine number X).cores ≡ [] → ((turns_at machine number X).head ≡ next.head) × ((turns_at machine number X).tail ≡ next.tail)) (sym same) a.rests;
      turn = λ i t. subst (λ (X : ℕ → Body). (vector_at number X i).turn ≡ Some t → t.ends ≡ next) (sym same) (a.turn i t);
      messages = facts_on n w v c got e acts (TokenStands machine number next) (tokens_merge machine number next)
          (facts_off n w v c got e acts (TokenStands machine number next) (carry old.messages)).1 a.sends;
    }

-- What leaves the turns does what is asked.
pub leaves_act : (given : Given) (w : World) (number c : ℕ) (got : List Letter) (e : Outcome) (ends : Ends) → LeavesTurns number (bodies w c) got e → TurnStands given w number ends → TurnAct given w number c got e ends
leaves_act given w number c got e ends l old =
    let machine = machine_in given in
    let A = bodies w in
    let turn_same : (i : ℕ) → turn_at number (put A c e.body) i ≡ turn_at number A i = λ i. put_field (λ (b : Body). option_len (vector_in (b.vectors.vectors number)).turn) A c e.body l.turn i in
    let groups_same : (i : ℕ) → length (vector_at number (put A c e.body) i).groups ≡ length (vector_at number A i).groups
    = λ i. put_field (λ (b : Body). length (vector_in (b.vectors.vectors number)).groups) A c e.body l.groups i in
    let masters_same : turns_at machine number (put A c e.body) ≡ turns_at machine number A = put_field (λ (b : Body). turns_in (b.vectors.masters number)) A c e.body l.masters (numbered_home machine number) in
    record {
      order = old.order;
      token = λ i. omega (
        arith,
        turn_same i,
        ap (λ (t : Turns). is_first i t.cores) masters_same,
        letters_none number (grants number i) (grants_off number i) c got l.letters,
        letters_none number (dones number i) (dones_off number i) c got l.letters,
        sends_none number (grants number i) (grants_off number i) c e.sends l.sends,
        sends_none number (dones number i) (dones_off number i) c e.sends l.sends,
      );
      asked = λ i. omega (
        arith,
        groups_same i,
        ap (λ (t : Turns). times i t.cores) masters_same,
        letters_none number (asks number i) (asks_off number i) c got l.letters,
        letters_none number (dones number i) (dones_off number i) c got l.letters,
        sends_none number (asks number i) (asks_off number i) c e.sends l.sends,
        sends_none number (dones number i) (dones_off number i) c e.sends l.sends,
      );
      rests = λ h. let r = old.rests (ap (λ (t : Turns). t.cores) (sym masters_same) ∙ h) in (ap (λ (t : Turns). t.head) masters_same ∙ r.0, ap (λ (t : Turns). t.tail) masters_same ∙ r.1);
      turn = λ i t. put_each (λ (i : ℕ) (b : Body). (vector_in (b.vectors.vectors number)).turn ≡ Some t → t.ends ≡ ends) A c e.body i
          (λ q h. let o = l.ends t h in o.2 ∙ old.turn c o.0 o.1) (λ q. old.turn i t);
      sends = Each-map (λ (s : Send). IsOfOther number s.message) (λ (s : Send). TokenStands machine number ends c s.to s.message) (λ s o. token_off machine number ends c s.to s.message o) e.sends l.sends;
    }

pub others_keep : laws.OthersKeepTurns
others_keep given w v number c got e ends acts l old = turns_kept given w v number c got e ends ends acts (leaves_act given w number c got e ends l old) (λ f. f) old

-- ---- a Ship or a Take

pub turns_moved : laws.MovesKeepTurns
turns_moved given w v ends m all number is =
    let n = given.setup.cores in
    let machine = machine_in given in
    let same : bodies v ≡ bodies w = moved_bodies n w v m in
    let old = all number is in
    record {
      order = old.order;
      token = λ i. subst (λ (X : ℕ → Body). turn_at number X i + (in_flight (grants number i) n v + in_flight (dones number i) n v) ≡ is_first i (turns_at machine number X).cores) (sym same)
          (omega (arith, old.token i, moved_flow n w v m (grants number i), moved_flow n w v m (dones number i)));
      asked = λ i. subst (λ (X : ℕ → Body). length (vector_at number X i).groups + in_flight (dones number i) n v ≡ in_flight (asks number i) n v + times i (turns_at machine number X).cores) (sym same)
          (omega (arith, old.asked i, moved_flow n w v m (asks number i), moved_flow n w v m (dones number i)));
      rests = subst (λ (X : ℕ → Body). (turns_at machine number X).cores ≡ [] → ((turns_at machine number X).head ≡ (ends number).head) × ((turns_at machine number X).tail ≡ (ends number).tail)) (sym same) old.rests;
      turn = λ i t. subst (λ (X : ℕ → Body). (vector_at number X i).turn ≡ Some t → t.ends ≡ ends number) (sym same) (old.turn i t);
      messages = moved_facts n w v m (TokenStands machine number (ends number)) old.messages;
    }
