-- The numbers and result words of a call, and the arguments of a start, both ways.
use Rattle.std.proofs.Common.{◌≡◌, ◌∙◌, ◌==◌, ◌+◌, ◌-◌, ap, ap₂, refl, sym, subst, Bool, true, false, List, [], ◌∷◌, ◌++◌, Option, Some, None, cond, ℕ, suc, map, length, take, drop, option_map, option_and_then, arith, codes, decimal, nat_lt}
use Rattle.std.specs.Prelude.{All}
use Rattle.std.proofs.lemmas.Bool.{eqb-true, eq-eqb, ne_eqb, le-ltb}
use Rattle.std.proofs.lemmas.List.{drop_at, length-append, length-map, take-append-drop, take_at}
use Rattle.std.proofs.lemmas.List.Elements.{All-nil, All-cons, All-head, All-tail}
use Rattle.std.proofs.lemmas.Option.{cond_some}
use Rattle.std.specs.Str.{bytes_eq}
use Rattle.gr_accept.specs.declared.operation.Operation.{Operation}
use Rattle.gr_accept.specs.Operations.{argument_count, result_count}
use Rattle.gr_lang.specs.declared.action.TaskId.{TaskId}
use Rattle.gr_hist.specs.Names.{Bytes}
use Rattle.gr_hist.specs.Grammar.{IsId, IsWord}
use Rattle.gr_hist.specs.FieldWords.{args_of, args_with, child_of, counted_of, cut_at, id_of, id_of_halves, number_of, numbers_of, onto, reply_of, tail_of}
use Rattle.gr_hist.specs.Spelling.{child_fields, id_bytes, reply_fields}
use Rattle.gr_hist.proofs.Choices.{if_none, if_some, map_some, then_some}
use Rattle.gr_hist.proofs.Cutting.{cut_found, cut_only}
use Rattle.gr_hist.proofs.Numerals.{number_found, number_only, over_decimal}
use Rattle.gr_hist.proofs.Wording.{same_text}

-- Tasks.

pub id_only : (id : TaskId) → IsId id → id_of (id_bytes id) ≡ Some id
id_only id is =
    ap (option_and_then id_of_halves) (cut_only 46 (decimal id.core) (decimal id.number) (over_decimal id.core is.0))
    ∙ rw (number_only id.core is.0, number_only id.number is.1) refl

pub id_found : (bytes : Bytes) (id : TaskId) → id_of bytes ≡ Some id → (bytes ≡ id_bytes id) × IsId id
id_found bytes id h =
    let halves = then_some id_of_halves (cut_at 46 bytes) id h in
    let core = then_some _ (number_of halves.0.0) id halves.2 in
    let number = map_some _ (number_of halves.0.1) id core.2 in
    let c = number_found halves.0.0 core.0 core.1 in
    let n = number_found halves.0.1 number.0 number.1 in
    let at : bytes ≡ decimal core.0 ++ 46 ∷ decimal number.0 = cut_found 46 bytes halves.0.0 halves.0.1 halves.1 ∙ ap₂ (λ (x y : Bytes). x ++ 46 ∷ y) c.0 n.0 in
    subst (λ (t : TaskId). (bytes ≡ id_bytes t) × IsId t) number.2 (at, (c.1, n.1))

pub child_only : (child : TaskId) → IsId child → child_of (child_fields child) ≡ Some child
child_only child is = id_only child is

pub child_found : (fields : List Bytes) (child : TaskId) → child_of fields ≡ Some child → (fields ≡ child_fields child) × IsId child
child_found [] child h = cc
child_found (p ∷ []) child h = cc
child_found (p ∷ q ∷ []) child h =
    let sign = if_some (bytes_eq p (codes "as")) (id_of q) child h in
    let id = id_found q child sign.1 in
    ((λ j. same_text p (codes "as") sign.0 j ∷ id.0 j ∷ []), id.1)
child_found (p ∷ q ∷ r ∷ fields) child h = cc

-- Numbers.

pub numbers_only : (numbers : List ℕ) → All IsWord numbers → numbers_of (map decimal numbers) ≡ Some numbers
numbers_only [] all = refl
numbers_only (n ∷ numbers) all =
    ap₂ (λ (first : Option ℕ) (rest : Option (List ℕ)). option_and_then (λ m. onto m rest) first)
    (number_only n (All-head IsWord n numbers all)) (numbers_only numbers (All-tail IsWord n numbers all))

pub numbers_found : (fields : List Bytes) (numbers : List ℕ) → numbers_of fields ≡ Some numbers → (fields ≡ map decimal numbers) × All IsWord numbers
numbers_found [] [] h = (refl, All-nil IsWord)
numbers_found [] (n ∷ numbers) h = cc
numbers_found (p ∷ fields) numbers h =
    let first = then_some (λ m. onto m (numbers_of fields)) (number_of p) numbers h in
    let rest = map_some (λ l. first.0 ∷ l) (numbers_of fields) numbers first.2 in
    let f = number_found p first.0 first.1 in
    let r = numbers_found fields rest.0 rest.1 in
    subst (λ (l : List ℕ). (p ∷ fields ≡ map decimal l) × All IsWord l) rest.2 ((λ j. f.0 j ∷ r.0 j), All-cons IsWord first.0 rest.0 f.1 r.1)

counted_only : (numbers : List ℕ) → All IsWord numbers → counted_of (length numbers) (map decimal numbers) ≡ Some numbers
counted_only numbers all =
    ap (λ (b : Bool). cond b (numbers_of (map decimal numbers)) None) (eq-eqb (length (map decimal numbers)) (length numbers) (length-map numbers decimal)) ∙ numbers_only numbers all

counted_found : (count : ℕ) (fields : List Bytes) (numbers : List ℕ) → counted_of count fields ≡ Some numbers → (fields ≡ map decimal numbers) × All IsWord numbers × (length numbers ≡ count)
counted_found count fields numbers h =
    let found = if_some (length fields == count) (numbers_of fields) numbers h in
    let f = numbers_found fields numbers found.1 in
    (f.0, f.1, sym (ap length f.0 ∙ length-map numbers decimal) ∙ eqb-true (length fields) count found.0)

-- Result words.

reply_only : (words : List ℕ) → All IsWord words → reply_of (length words) (reply_fields words) ≡ Some words
reply_only [] all = refl
reply_only (w ∷ words) all =
    ap (λ (b : Bool). cond b None (counted_of (suc (length words)) (map decimal (w ∷ words)))) (ne_eqb (suc (length words)) 0 (λ e. absurd (omega (arith, e)))) ∙ counted_only (w ∷ words) all

reply_found : (count : ℕ) (fields : List Bytes) (words : List ℕ) → reply_of count fields ≡ Some words → (fields ≡ reply_fields words) × All IsWord words × (length words ≡ count)
reply_found count [] words h =
    let found = cond_some {A = List ℕ} (count == 0) [] words h in
    subst (λ (l : List ℕ). ([] ≡ reply_fields l) × All IsWord l × (length l ≡ count)) found.1 (refl, All-nil IsWord, sym (eqb-true count 0 found.0))
reply_found count (p ∷ fields) words h =
    let some = if_none (count == 0) (cond (bytes_eq p (codes "=")) (counted_of count fields) None) words h in
    let found = if_some (bytes_eq p (codes "=")) (counted_of count fields) words some.1 in
    with_sign words some.0 (counted_found count fields words found.1) (same_text p (codes "=") found.0)
  where
    with_sign : (words : List ℕ) → (count == 0) ≡ false → (fields ≡ map decimal words) × All IsWord words × (length words ≡ count) → p ≡ codes "="
        → (p ∷ fields ≡ reply_fields words) × All IsWord words × (length words ≡ count)
    with_sign [] some found is =
        let none : true ≡ false = sym (eq-eqb count 0 (sym found.2)) ∙ some in
        cc
    with_sign (w ∷ words) some found is = ((λ j. is j ∷ found.0 j), found.1, found.2)

-- Both.

-- The fields are the numbers, and then the result words, of the operation.
pub record IsTail (op : Operation) (fields : List Bytes) (numbers reply : List ℕ) : Type 0 where
  pub spelled : fields ≡ map decimal numbers ++ reply_fields reply
  pub numbers_fit : All IsWord numbers
  pub reply_fits : All IsWord reply
  pub arguments : length numbers ≡ argument_count op
  pub results : length reply ≡ result_count op

pub tail_found : (op : Operation) (fields : List Bytes) (t : List ℕ × List ℕ) → tail_of op fields ≡ Some t → IsTail op fields t.0 t.1
tail_found op fields t h =
    let n = argument_count op in
    let m = result_count op in
    let ns = then_some (λ l. option_map (λ ws. (l, ws)) (reply_of m (drop n fields))) (counted_of n (take n fields)) t h in
    let ws = map_some (λ ws. (ns.0, ws)) (reply_of m (drop n fields)) t ns.2 in
    let c = counted_found n (take n fields) ns.0 ns.1 in
    let r = reply_found m (drop n fields) ws.0 ws.1 in
    subst (λ (x : List ℕ × List ℕ). IsTail op fields x.0 x.1) ws.2 (record {
      spelled = sym (take-append-drop n fields) ∙ (λ j. c.0 j ++ r.0 j);
      numbers_fit = c.1;
      reply_fits = r.1;
      arguments = c.2;
      results = r.2;
    })

pub tail_only : (op : Operation) (numbers words : List ℕ) → length numbers ≡ argument_count op → length words ≡ result_count op → All IsWord numbers → All IsWord words
    → tail_of op (map decimal numbers ++ reply_fields words) ≡ Some (numbers, words)
tail_only op numbers words arguments results fits fit =
    let n = argument_count op in
    let m = result_count op in
    let long : length (map decimal numbers) ≡ n = length-map numbers decimal ∙ arguments in
    let front : counted_of n (take n (map decimal numbers ++ reply_fields words)) ≡ Some numbers =
    ap₂ counted_of (sym arguments) (take_at (map decimal numbers) (reply_fields words) n long) ∙ counted_only numbers fits in
    let back : reply_of m (drop n (map decimal numbers ++ reply_fields words)) ≡ Some words =
    ap₂ reply_of (sym results) (drop_at (map decimal numbers) (reply_fields words) n long) ∙ reply_only words fit in
    ap₂ (λ (o p : Option (List ℕ)). option_and_then (λ l. option_map (λ r. (l, r)) p) o) front back

-- Arguments.

pub args_only : (numbers : List ℕ) (child : TaskId) → All IsWord numbers → IsId child → args_of (map decimal numbers ++ child_fields child) ≡ Some (numbers, child)
unfolding args_of args_with
args_only numbers child all is =
    let fields = map decimal numbers ++ child_fields child in
    let long : length fields ≡ length numbers + 2 = length-append (map decimal numbers) (child_fields child) ∙ ap (λ (k : ℕ). k + 2) (length-map numbers decimal) in
    let two : length fields - 2 ≡ length numbers = omega (arith, long) in
    let cut : length (map decimal numbers) ≡ length fields - 2 = length-map numbers decimal ∙ sym two in
    let front : numbers_of (take (length fields - 2) fields) ≡ Some numbers =
    ap numbers_of (take_at (map decimal numbers) (child_fields child) (length fields - 2) cut) ∙ numbers_only numbers all in
    let back : child_of (drop (length fields - 2) fields) ≡ Some child =
    ap child_of (drop_at (map decimal numbers) (child_fields child) (length fields - 2) cut) ∙ child_only child is in
    ap (λ (b : Bool). cond b None (args_with (take (length fields - 2) fields) (drop (length fields - 2) fields))) (le-ltb (length fields) 2 (omega (arith, long)))
    ∙ ap₂ (λ (o : Option (List ℕ)) (p : Option TaskId). option_and_then (λ l. option_map (λ c. (l, c)) p) o) front back

pub args_found : (fields : List Bytes) (a : List ℕ × TaskId) → args_of fields ≡ Some a → (fields ≡ map decimal a.0 ++ child_fields a.1) × All IsWord a.0 × IsId a.1
unfolding args_of args_with
args_found fields a h =
    let k = length fields - 2 in
    let found = if_none (nat_lt (length fields) 2) (args_with (take k fields) (drop k fields)) a h in
    let numbers = then_some (λ l. option_map (λ c. (l, c)) (child_of (drop k fields))) (numbers_of (take k fields)) a found.1 in
    let child = map_some (λ c. (numbers.0, c)) (child_of (drop k fields)) a numbers.2 in
    let n = numbers_found (take k fields) numbers.0 numbers.1 in
    let c = child_found (drop k fields) child.0 child.1 in
    subst (λ (x : List ℕ × TaskId). (fields ≡ map decimal x.0 ++ child_fields x.1) × All IsWord x.0 × IsId x.1) child.2
    (sym (take-append-drop k fields) ∙ (λ j. n.0 j ++ c.0 j), n.1, c.1)
