-- The turn that a core has ends: no message tells where the vector's words stood before.
use Rattle.std.proofs.Common.{◌≡◌, ◌≢◌, ℕ, zero, suc, ◌≤◌, ◌==◌, ◌&&◌, if◌then◌else◌, List, [], ◌∷◌, length, drop, inl, inr, sym, ◌∙◌, ap, subst, refl, arith, Option, Some, None}
use Rattle.std.proofs.lemmas.Bool.{cases_eq}
use Rattle.std.specs.Option.{option_len}
use Rattle.gr_lang.specs.declared.action.WaitingCall.{WaitingCall}
use Rattle.gr_msg.specs.declared.message.Msg.{Msg}
use Rattle.gr_msg.specs.declared.message.Msg.TheVariants as msg
use Rattle.gr_vector.specs.declared.ends.Ends.{Ends}
use Rattle.gr_vector.specs.Plans.{ends_after}
use Rattle.gr_vector.specs.Turns.{Turns}
use Rattle.gr_net.specs.Sums.{Each}
use Rattle.gr_net.specs.Flights.{Everywhere}
use Rattle.gr_net.proofs.Flights.{every_with, every_zero}
use Rattle.gr_net.proofs.Spreads.{put_each, Each-map}
use Rattle.gr_machine.specs.Machines.{Machine, numbered_home}
use Rattle.gr_machine.specs.States.{Letter, Turn, Vector, Vectors, Body}
use Rattle.gr_machine.specs.Outcomes.{Outcome}
use Rattle.gr_machine.specs.Nets.{messages_in}
use Rattle.gr_machine.specs.TurnServes.{with_vector, turn_replies, wakes, turn_finished}
use Rattle.gr_stands.specs.Worlds.{Given, machine_in, World, bodies, in_flight, Acts}
use Rattle.gr_stands.specs.Calls.{times}
use Rattle.gr_lines.specs.Lines.{vector_in}
use Rattle.gr_lines_turns.specs.Tokens.{vector_at, turns_at, turn_at, is_first, grants, dones, TokenStands, TurnStands}
use Rattle.gr_lines_turns.proofs.Kept.{turns_kept}
use Rattle.gr_lines_apart.proofs.Messages.{all_stay}
use Rattle.gr_lines_tokens.proofs.Firsts.{none_some, one_if, none_if, mine_if, done_dones, first_le, first_is, first_other, ends_order}
use Rattle.gr_lines_tokens.proofs.Granted.{vector_now, masters_same, moved}

-- ---- a fact for each number, of each message

each_any : {X : Type 0} (P : ℕ → X → Type 0) (xs : List X) → ((i : ℕ) → Each (P i) xs) → Each (λ x. (i : ℕ) → P i x) xs
each_any P [] e = tt
each_any P (x ∷ xs) e = (λ i. (e i).0, each_any P xs (λ i. (e i).1))

every_any : (n : ℕ) (P : ℕ → ℕ → ℕ → Msg → Type 0) (w : World) → ((i : ℕ) → Everywhere messages_in (P i) n w) → Everywhere messages_in (λ from to m. (i : ℕ) → P i from to m) n w
every_any n P w v = record {
  inboxes = λ c l. each_any (λ (i : ℕ) (x : Letter). P i x.from c x.message) (w.cores c).inbox (λ i. (v i).inboxes c l);
  buffers = λ c d l k. each_any (λ (i : ℕ) (x : Msg). P i c d x) ((w.cores c).buffers d) (λ i. (v i).buffers c d l k);
  transits = λ c d l k. Each-map (λ p. (i : ℕ) → Each (P i c d) (messages_in p)) (λ p. Each (λ x. (i : ℕ) → P i c d x) (messages_in p)) (λ p. each_any (λ (i : ℕ) (x : Msg). P i c d x) (messages_in p)) (w.transit c d)
      (each_any (λ (i : ℕ) p. Each (P i c d) (messages_in p)) (w.transit c d) (λ i. (v i).transits c d l k));
}

module _ (given : Given) (w v : World) (number me : ℕ) (ends : Ends) (old : TurnStands given w number ends) where
  abbrev n : ℕ
  n = given.setup.cores

  abbrev machine : Machine
  machine = machine_in given

  abbrev A : ℕ → Body
  A = bodies w

  abbrev cores : List ℕ
  cores = (turns_at machine number A).cores

  module _ (vector : Vector) (turn : Turn) (there : (A me).vectors.vectors number ≡ Some vector) (mine : vector.turn ≡ Some turn) where
    has_turn : turn_at number A me ≡ 1
    has_turn = ap (λ (o : Option Vector). option_len (vector_in o).turn) there ∙ ap option_len mine

    is_first_here : 1 ≤ is_first me cores
    is_first_here = omega (arith, has_turn, old.token me)

    pub ends_are : turn.ends ≡ ends
    ends_are = old.turn me turn (ap (λ (o : Option Vector). (vector_in o).turn) there ∙ mine)

    -- No Grant and no Done of the vector is in flight, and no other core has its turn.
    none_granted : (i : ℕ) → in_flight (grants number i) n w ≡ 0
    none_granted i = elim (cases_eq i me) [
      | inl q ↦ subst (λ (j : ℕ). in_flight (grants number j) n w ≡ 0) (sym q) (omega (arith, has_turn, old.token me, first_le me cores))
      | inr ne ↦ omega (arith, old.token i, first_other me i cores is_first_here ne)
    ]

    none_done : (i : ℕ) → in_flight (dones number i) n w ≡ 0
    none_done i = elim (cases_eq i me) [
      | inl q ↦ subst (λ (j : ℕ). in_flight (dones number j) n w ≡ 0) (sym q) (omega (arith, has_turn, old.token me, first_le me cores))
      | inr ne ↦ omega (arith, old.token i, first_other me i cores is_first_here ne)
    ]

    no_other : (i : ℕ) → i ≢ me → (t : Turn) → (vector_at number A i).turn ≡ Some t → ⊥
    no_other i ne t h = absurd (omega (arith, old.token i, first_other me i cores is_first_here ne, ap option_len h))

    -- So where the words stand then is told by no message.
    abbrev Weightless : ℕ → ℕ → Msg → Type 0
    Weightless from to m = ((i : ℕ) → grants number i from to m ≡ 0) × ((i : ℕ) → dones number i from to m ≡ 0)

    weightless : Everywhere messages_in Weightless n w
    weightless = every_with messages_in (λ from to m. (i : ℕ) → grants number i from to m ≡ 0) (λ from to m. (i : ℕ) → dones number i from to m ≡ 0) Weightless n w (λ from to m p q. (p, q))
        (every_any n (λ i from to m. grants number i from to m ≡ 0) w (λ i. every_zero messages_in (grants number i) n w (none_granted i)))
        (every_any n (λ i from to m. dones number i from to m ≡ 0) w (λ i. every_zero messages_in (dones number i) n w (none_done i)))

    counts : (vector from : ℕ) → vector ≡ number → (if vector == number && from == from then 1 else 0) ≡ zero → ⊥
    counts vector from q z = omega (arith, z, subst (λ (k : ℕ). (if k == number && from == from then 1 else 0) ≡ suc zero) (sym q) (mine_if number from from ∙ one_if from from refl))

    told_elsewhere : (next : Ends) (from to : ℕ) (m : Msg) → TokenStands machine number ends from to m → Weightless from to m → TokenStands machine number next from to m
    told_elsewhere next from to (msg.Turn object) p z = p
    told_elsewhere next from to (msg.Grant object head tail) p z = λ q. absurd (counts object to q (z.0 to))
    told_elsewhere next from to (msg.Done object head tail) p z = λ q. absurd (counts object from q (z.1 from))
    told_elsewhere next from to _ p z = tt

    carries : (next : Ends) → Everywhere messages_in (TokenStands machine number ends) n w → Everywhere messages_in (TokenStands machine number next) n w
    carries next f = every_with messages_in (TokenStands machine number ends) Weightless (TokenStands machine number next) n w (told_elsewhere next) f weightless

    -- The turn ends, and its group is gone.
    pub finished_keeps : (more : List (List WaitingCall)) → vector.groups ≡ turn.calls ∷ more
        → Acts n w v me [] (turn_finished machine (A me) number vector turn (ends_after turn.calls turn.ends)) → TurnStands given v number (ends_after turn.calls turn.ends)
    finished_keeps more groups acts =
        let after : Ends = ends_after turn.calls turn.ends in
        let next : Vector = record vector { groups = drop 1 vector.groups; turn = None } in
        let made : Outcome = turn_finished machine (A me) number vector turn after in
        let stays = all_stay machine (with_vector (A me) number next) (wakes (turn_replies turn)) in
        let vectors = ap (λ (x : Vectors). x.vectors) stays in
        let masters = ap (λ (x : Vectors). x.masters) stays in
        let same = masters_same given w v number me ends old made next vectors masters in
        let first = first_is me cores is_first_here in
        turns_kept given w v number me [] made ends after acts (record {
          order = ends_order turn.calls turn.ends (subst (λ (x : Ends). x.head ≤ x.tail) (sym ends_are) old.order);
          token = λ i. omega (
            arith,
            moved given w v number me ends old made next vectors masters (λ x. option_len x.turn) 1 0 (omega (arith, has_turn)) i,
            done_dones number i me (numbered_home machine number) after.head after.tail,
            none_if me i,
            ap (λ (t : Turns). is_first i t.cores) same,
          );
          asked = λ i. omega (
            arith,
            moved given w v number me ends old made next vectors masters (λ x. length x.groups) 1 0 (omega (
              arith,
              ap (λ (g : List (List WaitingCall)). length (drop 1 g)) groups,
              ap (λ (g : List (List WaitingCall)). length g) groups,
              ap (λ (o : Option Vector). length (vector_in o).groups) there,
            )) i,
            done_dones number i me (numbered_home machine number) after.head after.tail,
            none_if me i,
            ap (λ (t : Turns). times i t.cores) same,
          );
          rests = λ h. absurd (never me first.0 (sym (ap (λ (t : Turns). t.cores) same ∙ first.1) ∙ h));
          turn = λ i t. put_each (λ (i : ℕ) (b : Body). (vector_in (b.vectors.vectors number)).turn ≡ Some t → t.ends ≡ after) (A) me made.body i
              (λ q h. absurd (none_some t (ap (λ (x : Vector). x.turn) (sym (vector_now given w v number me ends old made next vectors masters)) ∙ h)))
              (λ ne h. absurd (no_other i ne t h));
          sends = (λ q. (refl, refl, refl), tt);
        }) (carries after) old
      where
        never : (x : ℕ) (xs : List ℕ) → x ∷ xs ≡ [] → ⊥
        never x xs e = cc
