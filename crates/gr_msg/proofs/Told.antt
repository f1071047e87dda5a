-- Each message, and each packet, tells the numbers by which its format comes to it.
use Rattle.std.proofs.Common.{◌≡◌, ℕ, zero, suc, true, nat_eq, ◌||◌, cond, List, [], ◌∷◌, ◌++◌, length, map, refl, sym, ap, ◌∙◌, append_assoc, arith}
use Rattle.std.specs.List.{flat_map}
use Rattle.std.specs.Int.{is_in_range}
use Rattle.std.proofs.lemmas.List.Concat.{flat_map-cons}
use Rattle.gr_msg.specs.declared.message.ScopeId.{ScopeId}
use Rattle.gr_msg.specs.declared.message.Unit.{Unit as WorkUnit}
use Rattle.gr_msg.specs.declared.message.Msg.{Msg}
use Rattle.gr_format.specs.declared.field.Field.{Field}
use Rattle.gr_format.specs.declared.field.Field.TheVariants.{Byte, Word}
use Rattle.gr_format.specs.Formats.{◌>>=◌, ranged, times}
use Rattle.gr_format.specs.Writing.{number_of}
use Rattle.gr_format.specs.Laws.{Tells}
use Rattle.gr_format.proofs.Once.{spelled_once}
use Rattle.gr_format.proofs.Walks.{Are, Any, always_any, always_times, tells_then, tells_times}
use Rattle.gr_msg.specs.Parts.{greatest, any_word, object, task_id, scope_id, flagged, optional, last_reducer, effect_of, an_effect, single, chunk, unit_end, work_unit}
use Rattle.gr_msg.specs.Messages.{request, reply, spawn, enrol, enrol_ack, complete, leave, steal_give, batch, batch_reply, turn, grant, done, elem_put, elem_get, elem_ack, is_kind, kind, of_kind, message, packet}
use Rattle.gr_msg.specs.FieldWords.{task_fields, scope_fields, option_fields, effect_fields, words, work_fields, loop_fields, unit_fields, fields, packet_fields}
use Rattle.gr_msg.specs.Laws.{PacketsAreSpelledOnce}
use Rattle.gr_msg.proofs.Steps.{range_of}
use Rattle.gr_msg.proofs.InRange.{Each, pick, kind_in, no_tenth}

abbrev numbers : List Field → List ℕ
numbers fs = map number_of fs

numbers-append : (xs ys : List Field) → numbers (xs ++ ys) ≡ numbers xs ++ numbers ys
numbers-append [] ys = refl
numbers-append (f ∷ xs) ys = ap (λ (ns : List ℕ). number_of f ∷ ns) (numbers-append xs ys)

numbers-words : (args : List ℕ) → numbers (words args) ≡ args
numbers-words [] = refl
numbers-words (n ∷ args) = ap (λ (ns : List ℕ). n ∷ ns) (numbers-words args)

none_in : (n : ℕ) → is_in_range 0 0 n ≡ true → n ≡ 0
none_in n t = let r = range_of 0 0 n t in omega (arith, r.1)

task_told : Tells (λ id. numbers (task_fields id)) [] task_id
unfolding task_id ranged ◌>>=◌
task_told = λ home h number n. refl

scope_told : Tells (λ id. numbers (scope_fields id)) [] scope_id
unfolding scope_id ranged ◌>>=◌
scope_told = λ home h number n. refl

option_numbers : (flag found : ℕ) → is_in_range 0 1 flag ≡ true → is_in_range 0 (cond (nat_eq flag 1) greatest 0) found ≡ true → numbers (option_fields (flagged flag found)) ≡ flag ∷ found ∷ []
option_numbers zero found f t = ap (λ (n : ℕ). 0 ∷ n ∷ []) (sym (none_in found t))
option_numbers (suc zero) found f t = refl
option_numbers (suc (suc flag)) found f t = let r = range_of 0 1 (suc (suc flag)) f in absurd (omega (arith, r.1))

option_told : Tells (λ found. numbers (option_fields found)) [] optional
unfolding optional ranged ◌>>=◌
option_told = λ flag f found t. option_numbers flag found f t

effect_numbers : (tag reducer word : ℕ) → is_in_range 0 3 tag ≡ true → is_in_range 0 (last_reducer tag) reducer ≡ true → is_in_range 0 (cond (nat_eq tag 1 || nat_eq tag 3) greatest 0) word ≡ true
    → numbers (effect_fields (effect_of tag reducer word)) ≡ tag ∷ reducer ∷ word ∷ []
effect_numbers zero reducer word t r w = ap (λ (n : ℕ). 0 ∷ n ∷ 0 ∷ []) (sym (none_in reducer r)) ∙ ap (λ (n : ℕ). 0 ∷ reducer ∷ n ∷ []) (sym (none_in word w))
effect_numbers (suc zero) reducer word t r w = ap (λ (n : ℕ). 1 ∷ n ∷ word ∷ []) (sym (none_in reducer r))
effect_numbers (suc (suc zero)) reducer word t r w = ap (λ (n : ℕ). 2 ∷ n ∷ 0 ∷ []) (sym (none_in reducer r)) ∙ ap (λ (n : ℕ). 2 ∷ reducer ∷ n ∷ []) (sym (none_in word w))
effect_numbers (suc (suc (suc zero))) reducer word t r w = refl
effect_numbers (suc (suc (suc (suc tag)))) reducer word t r w = let p = range_of 0 3 (suc (suc (suc (suc tag)))) t in absurd (omega (arith, p.1))

effect_told : Tells (λ e. numbers (effect_fields e)) [] an_effect
unfolding an_effect ranged ◌>>=◌
effect_told = λ tag t reducer r word w. effect_numbers tag reducer word t r w

-- Units.

abbrev tell_unit : WorkUnit → List ℕ
tell_unit u = numbers (unit_fields u)

abbrev one_word : ℕ → List ℕ
one_word n = n ∷ []

words_flat : (args : List ℕ) → flat_map one_word args ≡ args
words_flat [] = refl
words_flat (n ∷ args) = flat_map-cons one_word n args ∙ ap (λ (ns : List ℕ). n ∷ ns) (words_flat args)

-- What is told before the end of a unit.
work_numbers : (tag target count : ℕ) (args : List ℕ) (scope : ScopeId) (origin : ℕ) → length args ≡ count
    → numbers (work_fields tag target args scope origin) ≡ (((tag ∷ target ∷ count ∷ []) ++ flat_map one_word args) ++ (scope.core ∷ scope.number ∷ [])) ++ origin ∷ []
work_numbers tag target count args scope origin l =
    let last : List ℕ = scope.core ∷ scope.number ∷ origin ∷ [] in
    let front : ℕ → List ℕ → List ℕ = λ n ns. (tag ∷ target ∷ n ∷ ns) ++ last in
    numbers-append (Byte tag ∷ Byte target ∷ Byte (length args) ∷ words args) (Byte scope.core ∷ Word scope.number ∷ Byte origin ∷ [])
    ∙ ap (front (length args)) (numbers-words args ∙ sym (words_flat args)) ∙ ap (λ n. front n (flat_map one_word args)) l
    ∙ sym (append_assoc (tag ∷ target ∷ count ∷ flat_map one_word args) (scope.core ∷ scope.number ∷ []) (origin ∷ []))

single_told : (target count : ℕ) (args : List ℕ) (scope : ScopeId) (origin : ℕ) (before : List ℕ) → numbers (work_fields 1 target args scope origin) ≡ before → Tells tell_unit before (single target args scope origin)
unfolding single
single_told target count args scope origin before e =
    tells_then (λ id. numbers (task_fields id)) tell_unit Any before task_id _ (always_any task_id) task_told (λ id _.
    numbers-append (work_fields 1 target args scope origin) (task_fields id) ∙ ap (λ (ns : List ℕ). ns ++ numbers (task_fields id)) e)

chunk_told : (target count : ℕ) (args : List ℕ) (scope : ScopeId) (origin : ℕ) (before : List ℕ) → numbers (work_fields 2 target args scope origin) ≡ before → Tells tell_unit before (chunk target args scope origin)
unfolding chunk ranged ◌>>=◌
chunk_told target count args scope origin before e =
    tells_then (λ id. numbers (task_fields id)) tell_unit Any before task_id _ (always_any task_id) task_told (λ owner _ lo a hi b grain g.
    let start : List ℕ = numbers (task_fields owner) in
    numbers-append (work_fields 2 target args scope origin) (loop_fields owner lo hi grain) ∙ ap (λ (ns : List ℕ). ns ++ numbers (loop_fields owner lo hi grain)) e
    ∙ sym (append_assoc before start (lo ∷ hi ∷ grain ∷ []))
    ∙ sym (append_assoc (before ++ start) (lo ∷ []) (hi ∷ grain ∷ [])) ∙ sym (append_assoc ((before ++ start) ++ lo ∷ []) (hi ∷ []) (grain ∷ [])))

end_told : (tag target count : ℕ) (args : List ℕ) (scope : ScopeId) (origin : ℕ) (before : List ℕ) → is_in_range 1 2 tag ≡ true → numbers (work_fields tag target args scope origin) ≡ before
    → Tells tell_unit before (unit_end tag target args scope origin)
unfolding unit_end
end_told zero target count args scope origin before t e = let p = range_of 1 2 0 t in absurd (omega (arith, p.0))
end_told (suc zero) target count args scope origin before t e = single_told target count args scope origin before e
end_told (suc (suc zero)) target count args scope origin before t e = chunk_told target count args scope origin before e
end_told (suc (suc (suc tag))) target count args scope origin before t e = let p = range_of 1 2 (suc (suc (suc tag))) t in absurd (omega (arith, p.1))

word_told : Tells one_word [] any_word
unfolding ranged
word_told = λ n t. refl

unit_told : Tells tell_unit [] work_unit
unfolding work_unit ranged ◌>>=◌
unit_told = λ tag t target u count n.
    tells_then (λ args. flat_map one_word args) tell_unit (Are Any count) (tag ∷ target ∷ count ∷ []) (times count any_word) _ (always_times Any any_word count (always_any any_word)) (tells_times one_word any_word count word_told) (λ args are.
    tells_then (λ id. numbers (scope_fields id)) tell_unit Any ((tag ∷ target ∷ count ∷ []) ++ flat_map one_word args) scope_id _ (always_any scope_id) scope_told (λ scope _ origin o.
    end_told tag target count args scope origin _ t (work_numbers tag target count args scope origin are.long)))

-- Messages.

abbrev tell : Msg → List ℕ
tell m = numbers (fields m)

request_told : Tells tell (1 ∷ []) request
unfolding request task_id ranged ◌>>=◌
request_told = λ slot s home h number n operation o x a y b z c. refl

reply_told : Tells tell (2 ∷ []) reply
unfolding reply task_id ranged ◌>>=◌
reply_told = λ slot s home h number n first a second b. refl

spawn_told : Tells tell (3 ∷ []) spawn
unfolding spawn
spawn_told = tells_then tell_unit tell Any (3 ∷ []) work_unit _ (always_any work_unit) unit_told (λ u _. refl)

enrol_told : Tells tell (4 ∷ []) enrol
unfolding enrol scope_id ranged ◌>>=◌
enrol_told = λ home h number n. refl

enrol_ack_told : Tells tell (5 ∷ []) enrol_ack
unfolding enrol_ack scope_id ranged ◌>>=◌
enrol_ack_told = λ home h number n. refl

complete_told : Tells tell (6 ∷ []) complete
unfolding complete scope_id ranged ◌>>=◌
complete_told = λ home h number n count c. refl

leave_told : Tells tell (7 ∷ []) leave
unfolding leave scope_id ranged ◌>>=◌
leave_told = λ home h number n. refl

steal_give_told : Tells tell (9 ∷ []) steal_give
unfolding steal_give
steal_give_told = tells_then tell_unit tell Any (9 ∷ []) work_unit _ (always_any work_unit) unit_told (λ u _. refl)

batch_told : Tells tell (11 ∷ []) batch
unfolding batch object ranged ◌>>=◌
batch_told = λ owner o key k. tells_then (λ e. numbers (effect_fields e)) tell Any (11 ∷ owner ∷ key ∷ []) an_effect _ (always_any an_effect) effect_told (λ e _ number n.
    numbers-append (Byte 11 ∷ Byte owner ∷ Word key ∷ effect_fields e) (Word number ∷ []))

batch_reply_told : Tells tell (12 ∷ []) batch_reply
unfolding batch_reply ranged ◌>>=◌
batch_reply_told = λ number n. tells_then (λ found. numbers (option_fields found)) tell Any (12 ∷ number ∷ []) optional _ (always_any optional) option_told (λ found _. refl)

turn_told : Tells tell (13 ∷ []) turn
unfolding turn ranged ◌>>=◌
turn_told = λ number v. refl

grant_told : Tells tell (14 ∷ []) grant
unfolding grant ranged ◌>>=◌
grant_told = λ number v head h tail t. refl

done_told : Tells tell (18 ∷ []) done
unfolding done ranged ◌>>=◌
done_told = λ number v head h tail t. refl

elem_put_told : Tells tell (15 ∷ []) elem_put
unfolding elem_put ranged ◌>>=◌
elem_put_told = λ number v position p element e. refl

elem_get_told : Tells tell (16 ∷ []) elem_get
unfolding elem_get ranged ◌>>=◌
elem_get_told = λ number v position p. refl

elem_ack_told : Tells tell (17 ∷ []) elem_ack
unfolding elem_ack ranged ◌>>=◌
elem_ack_told = λ number v position p. tells_then (λ found. numbers (option_fields found)) tell Any (17 ∷ number ∷ position ∷ []) optional _ (always_any optional) option_told (λ found _. refl)

of_kind_told : (n : ℕ) → is_kind n ≡ true → Tells tell (n ∷ []) (of_kind n)
unfolding of_kind
of_kind_told n t =
    let r = kind_in n t in
    let P : ℕ → Type 0 = λ k. is_kind k ≡ true → Tells tell (k ∷ []) (of_kind k) in
    let all : Each P 1 18 = (
      (λ _. request_told),
      (
        (λ _. reply_told),
        (
          (λ _. spawn_told),
          (
            (λ _. enrol_told),
            (
              (λ _. enrol_ack_told),
              (
                (λ _. complete_told),
                (
                  (λ _. leave_told),
                  (
                    (λ _. refl),
                    (
                      (λ _. steal_give_told),
                      (
                        (λ f. absurd (no_tenth f)),
                        (
                          (λ _. batch_told),
                          (
                            (λ _. batch_reply_told),
                            ((λ _. turn_told), ((λ _. grant_told), ((λ _. elem_put_told), ((λ _. elem_get_told), ((λ _. elem_ack_told), ((λ _. done_told), tt)))))),
                          ),
                        ),
                      ),
                    ),
                  ),
                ),
              ),
            ),
          ),
        ),
      ),
    ) in
    pick P 18 1 n r.0 r.1 all t

message_told : Tells tell [] message
unfolding message kind ◌>>=◌
message_told = λ n t. of_kind_told n t

all_numbers : (ms : List Msg) → numbers (flat_map fields ms) ≡ flat_map tell ms
all_numbers [] = refl
all_numbers (m ∷ ms) =
    ap numbers (flat_map-cons fields m ms) ∙ numbers-append (fields m) (flat_map fields ms) ∙ ap (λ (ns : List ℕ). tell m ++ ns) (all_numbers ms) ∙ sym (flat_map-cons tell m ms)

packet_told : Tells (λ p. numbers (packet_fields p)) [] packet
unfolding packet ranged ◌>>=◌
packet_told = λ clock c count n.
    tells_then (λ ms. flat_map tell ms) (λ p. numbers (packet_fields p)) (Are Any count) (clock ∷ count ∷ []) (times count message) _ (always_times Any message count (always_any message)) (tells_times tell message count message_told) (λ ms are.
    ap (λ (k : ℕ). clock ∷ k ∷ numbers (flat_map fields ms)) are.long ∙ ap (λ (ns : List ℕ). clock ∷ count ∷ ns) (all_numbers ms))

pub packets_are_spelled_once : PacketsAreSpelledOnce
packets_are_spelled_once one other contents a b h k = spelled_once (λ p. numbers (packet_fields p)) packet one other contents packet_told a b h k
