-- What the formats give is in its range.
use Rattle.std.proofs.Common.{◌≡◌, ℕ, zero, suc, ◌+◌, ◌<◌, ◌≤◌, Bool, true, false, leb, nat_eq, ◌||◌, cond, List, length, Some, None, inl, inr, subst, arith}
use Rattle.std.specs.Prelude.{MatchBool}
use Rattle.std.specs.Int.{is_in_range}
use Rattle.std.proofs.lemmas.Bool.{cases_eq, false≢true}
use Rattle.std.proofs.lemmas.List.Elements.{All-from_recursion}
use Rattle.gr_msg.specs.declared.message.ScopeId.{ScopeId}
use Rattle.gr_format.specs.Formats.{◌>>=◌, ranged, times}
use Rattle.gr_format.proofs.Walks.{Always, Are, always_spelled, always_then, always_times}
use Rattle.gr_msg.specs.Parts.{greatest, any_word, object, task_id, scope_id, optional, last_reducer, effect_of, an_effect, words_of, single, chunk, most_args, unit_end, work_unit}
use Rattle.gr_msg.specs.Messages.{request, reply, spawn, enrol, enrol_ack, complete, leave, steal_give, batch, batch_reply, turn, grant, done, elem_put, elem_get, elem_ack, is_kind, kind, of_kind, message, packet}
use Rattle.gr_msg.specs.Ranges.{IsWord, IsTask, IsScope, IsFound, IsWork, IsUnit, IsEffect, Fits, IsPacket}
use Rattle.gr_msg.specs.Laws.{SpelledAreInRange}
use Rattle.gr_msg.proofs.Steps.{range_of, kind_within}

word_in : (n : ℕ) → is_in_range 0 greatest n ≡ true → IsWord n
word_in n t = let r = range_of 0 greatest n t in omega (arith, r.1)

below : (most limit n : ℕ) → most < limit → is_in_range 0 most n ≡ true → n < limit
below most limit n l t = let r = range_of 0 most n t in omega (arith, r.1, l)

used_in : (b : Bool) (n : ℕ) → is_in_range 0 (cond b greatest 0) n ≡ true → MatchBool b (IsWord n) (n ≡ 0)
used_in true n t = word_in n t
used_in false n t = let r = range_of 0 0 n t in omega (arith, r.1)

task_in : Always IsTask task_id
unfolding task_id ranged ◌>>=◌
task_in = λ home h number n. (below 15 16 home (omega arith) h, word_in number n)

scope_in : Always IsScope scope_id
unfolding scope_id ranged ◌>>=◌
scope_in = λ home h number n. (below 15 16 home (omega arith) h, word_in number n)

found_in : (b : Bool) (n : ℕ) → is_in_range 0 (cond b greatest 0) n ≡ true → IsFound (cond b (Some n) None)
found_in true n t = word_in n t
found_in false n t = tt

option_in : Always IsFound optional
unfolding optional ranged ◌>>=◌
option_in = λ flag f found t. found_in (nat_eq flag 1) found t

effect_is_in : (tag reducer word : ℕ) → is_in_range 0 3 tag ≡ true → is_in_range 0 (last_reducer tag) reducer ≡ true → is_in_range 0 (cond (nat_eq tag 1 || nat_eq tag 3) greatest 0) word ≡ true
    → IsEffect (effect_of tag reducer word)
effect_is_in zero reducer word t r w = tt
effect_is_in (suc zero) reducer word t r w = word_in word w
effect_is_in (suc (suc zero)) reducer word t r w = tt
effect_is_in (suc (suc (suc zero))) reducer word t r w = (below 7 8 reducer (omega arith) r, word_in word w)
effect_is_in (suc (suc (suc (suc tag)))) reducer word t r w = let p = range_of 0 3 (suc (suc (suc (suc tag)))) t in absurd (omega (arith, p.1))

effect_in : Always IsEffect an_effect
unfolding an_effect ranged ◌>>=◌
effect_in = λ tag t reducer r word w. effect_is_in tag reducer word t r w

-- Units.

any_in : Always IsWord any_word
unfolding ranged
any_in = λ n t. word_in n t

single_in : (target : ℕ) (args : List ℕ) (scope : ScopeId) (origin : ℕ) → IsWork target args scope origin → length args ≤ 8 → Always IsUnit (single target args scope origin)
unfolding single
single_in target args scope origin w l = always_then IsTask IsUnit task_id _ task_in (λ id i. (w, l, i))

chunk_in : (target : ℕ) (args : List ℕ) (scope : ScopeId) (origin : ℕ) → IsWork target args scope origin → length args ≤ 7 → Always IsUnit (chunk target args scope origin)
unfolding chunk ranged ◌>>=◌
chunk_in target args scope origin w l =
    always_then IsTask IsUnit task_id _ task_in (λ owner i lo a hi b grain g.
    let h = range_of (lo + 1) greatest hi b in
    let k = range_of 1 greatest grain g in
    (w, (let m : length args < 8 = omega (arith, l) in m), i, (let m : lo < hi = omega (arith, h.0) in m), (let m : IsWord hi = omega (arith, h.1) in m), k.0, (let m : IsWord grain = omega (arith, k.1) in m)))

end_in : (tag target : ℕ) (args : List ℕ) (scope : ScopeId) (origin : ℕ) → is_in_range 1 2 tag ≡ true → IsWork target args scope origin → length args ≤ most_args tag
    → Always IsUnit (unit_end tag target args scope origin)
unfolding unit_end
end_in zero target args scope origin t w l = let p = range_of 1 2 0 t in absurd (omega (arith, p.0))
end_in (suc zero) target args scope origin t w l = single_in target args scope origin w l
end_in (suc (suc zero)) target args scope origin t w l = chunk_in target args scope origin w l
end_in (suc (suc (suc tag))) target args scope origin t w l = let p = range_of 1 2 (suc (suc (suc tag))) t in absurd (omega (arith, p.1))

unit_in : Always IsUnit work_unit
unfolding work_unit ranged ◌>>=◌
unit_in = λ tag t target u count n.
    always_then (Are IsWord count) IsUnit (times count any_word) _ (always_times IsWord any_word count any_in) (λ args are.
    always_then IsScope IsUnit scope_id _ scope_in (λ scope s origin o.
    let work : IsWork target args scope origin = record { task = below 255 256 target (omega arith) u; words = All-from_recursion IsWord args are.each; home = s; start = below 15 16 origin (omega arith) o } in
    let r = range_of 0 (most_args tag) count n in
    end_in tag target args scope origin t work (omega (arith, r.1, are.long))))

-- Messages.

request_in : Always Fits request
unfolding request ranged ◌>>=◌
request_in = λ slot s. always_then IsTask Fits task_id _ task_in (λ id i operation o x a y b z c.
    let r = range_of 1 7 operation o in
    (word_in slot s, i, record { some = r.0; most = r.1; first = word_in x a; second = used_in (leb 2 (words_of operation)) y b; third = used_in (leb 3 (words_of operation)) z c }))

reply_in : Always Fits reply
unfolding reply ranged ◌>>=◌
reply_in = λ slot s. always_then IsTask Fits task_id _ task_in (λ id i first a second b. (word_in slot s, i, word_in first a, word_in second b))

spawn_in : Always Fits spawn
unfolding spawn
spawn_in = always_then IsUnit Fits work_unit _ unit_in (λ u i. i)

enrol_in : Always Fits enrol
unfolding enrol
enrol_in = always_then IsScope Fits scope_id _ scope_in (λ s i. i)

enrol_ack_in : Always Fits enrol_ack
unfolding enrol_ack
enrol_ack_in = always_then IsScope Fits scope_id _ scope_in (λ s i. i)

complete_in : Always Fits complete
unfolding complete ranged ◌>>=◌
complete_in = always_then IsScope Fits scope_id _ scope_in (λ s i count n. let r = range_of 1 greatest count n in (i, r.0, (let m : IsWord count = omega (arith, r.1) in m)))

leave_in : Always Fits leave
unfolding leave
leave_in = always_then IsScope Fits scope_id _ scope_in (λ s i. i)

steal_give_in : Always Fits steal_give
unfolding steal_give
steal_give_in = always_then IsUnit Fits work_unit _ unit_in (λ u i. i)

batch_in : Always Fits batch
unfolding batch object ranged ◌>>=◌
batch_in = λ owner o key k. always_then IsEffect Fits an_effect _ effect_in (λ e i number n. (o, word_in key k, i, word_in number n))

batch_reply_in : Always Fits batch_reply
unfolding batch_reply ranged ◌>>=◌
batch_reply_in = λ number n. always_then IsFound Fits optional _ option_in (λ found i. (word_in number n, i))

turn_in : Always Fits turn
unfolding turn ranged ◌>>=◌
turn_in = λ number v. below 63 64 number (omega arith) v

grant_in : Always Fits grant
unfolding grant ranged ◌>>=◌
grant_in = λ number v head h tail t. let r = range_of head greatest tail t in (below 63 64 number (omega arith) v, r.0, (let m : IsWord tail = omega (arith, r.1) in m))

done_in : Always Fits done
unfolding done ranged ◌>>=◌
done_in = λ number v head h tail t. let r = range_of head greatest tail t in (below 63 64 number (omega arith) v, r.0, (let m : IsWord tail = omega (arith, r.1) in m))

elem_put_in : Always Fits elem_put
unfolding elem_put ranged ◌>>=◌
elem_put_in = λ number v position p element e. (below 63 64 number (omega arith) v, word_in position p, word_in element e)

elem_get_in : Always Fits elem_get
unfolding elem_get ranged ◌>>=◌
elem_get_in = λ number v position p. (below 63 64 number (omega arith) v, word_in position p)

elem_ack_in : Always Fits elem_ack
unfolding elem_ack ranged ◌>>=◌
elem_ack_in = λ number v position p. always_then IsFound Fits optional _ option_in (λ found i. (below 63 64 number (omega arith) v, word_in position p, i))

-- One of several numbers, one after the other.

abbrev pub Each : (ℕ → Type 0) → ℕ → ℕ → Type 0
Each P start zero = Unit {0}
Each P start (suc k) = P start × Each P (suc start) k

pub pick : (P : ℕ → Type 0) (k start n : ℕ) → start ≤ n → n < start + k → Each P start k → P n
pick P zero start n l m e = absurd (omega (arith, l, m))
pick P (suc k) start n l m e =
    elim (cases_eq start n) [
      | inl s ↦ subst P s e.0
      | inr d ↦ pick P k (suc start) n (omega (arith, l, d)) (omega (arith, m)) e.1
    ]

pub kind_in : (n : ℕ) → is_kind n ≡ true → (1 ≤ n) × (n < 19)
kind_in n t = let r = range_of 1 18 n (kind_within n t) in (r.0, (let m : n < 19 = omega (arith, r.1) in m))

pub no_tenth : is_kind 10 ≡ true → ⊥
no_tenth f = false≢true f

of_kind_in : (n : ℕ) → is_kind n ≡ true → Always Fits (of_kind n)
unfolding of_kind
of_kind_in n t =
    let r = kind_in n t in
    let P : ℕ → Type 0 = λ k. is_kind k ≡ true → Always Fits (of_kind k) in
    let all : Each P 1 18 = (
      (λ _. request_in),
      (
        (λ _. reply_in),
        (
          (λ _. spawn_in),
          (
            (λ _. enrol_in),
            (
              (λ _. enrol_ack_in),
              (
                (λ _. complete_in),
                (
                  (λ _. leave_in),
                  (
                    (λ _. tt),
                    (
                      (λ _. steal_give_in),
                      (
                        (λ f. absurd (no_tenth f)),
                        (
                          (λ _. batch_in),
                          (
                            (λ _. batch_reply_in),
                            ((λ _. turn_in), ((λ _. grant_in), ((λ _. elem_put_in), ((λ _. elem_get_in), ((λ _. elem_ack_in), ((λ _. done_in), tt)))))),
                          ),
                        ),
                      ),
                    ),
                  ),
                ),
              ),
            ),
          ),
        ),
      ),
    ) in
    pick P 18 1 n r.0 r.1 all t

message_in : Always Fits message
unfolding message kind ◌>>=◌
message_in = λ n t. of_kind_in n t

packet_in : Always IsPacket packet
unfolding packet ranged ◌>>=◌
packet_in = λ clock c count n.
    always_then (Are Fits count) IsPacket (times count message) _ (always_times Fits message count message_in) (λ ms are.
    let r = range_of 1 256 count n in
    record { clock = (range_of 0 1099511627776 clock c).1; some = (let m : 1 ≤ length ms = omega (arith, r.0, are.long) in m); most = (let m : length ms ≤ 256 = omega (arith, r.1, are.long) in m); fit = All-from_recursion Fits ms are.each })

pub spelled_are_in_range : SpelledAreInRange
spelled_are_in_range bytes contents s = always_spelled IsPacket packet bytes contents packet_in s
