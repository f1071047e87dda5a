-- A request is made: on a word, on the heap's blocks, or a print.
use Rattle.std.proofs.Common.{◌≡◌, ◌≢◌, ℕ, zero, suc, ◌+◌, ◌-◌, ◌<◌, ◌==◌, ◌&&◌, ◌^◌, if◌then◌else◌, Bool, true, false, nat_lt, List, [], ◌∷◌, length, slice_get, slice_set, slice_index, is_some, sym, ◌∙◌, ap, subst, refl, arith, Option, Some, None}
use Rattle.std.specs.FinMap as fin
use Rattle.std.specs.Ordering.{nat_cmp}
use Rattle.std.proofs.lemmas.Bool.Decides.{nat_tests}
use Rattle.std.proofs.lemmas.Option.{slice_get-get_or}
use Rattle.gr_syntax.specs.declared.limits.TheConstants.{HEAP}
use Rattle.gr_lang.specs.declared.action.Op.{Op}
use Rattle.gr_lang.specs.declared.action.Op.TheVariants as op
use Rattle.gr_lang.specs.declared.action.Entry.TheVariants as entry
use Rattle.gr_lang.specs.declared.action.Reply.{Reply}
use Rattle.gr_lang.specs.declared.action.TaskId.{TaskId}
use Rattle.gr_lang.specs.Effects.{nothing, one, word_after, word_reply}
use Rattle.gr_lang.specs.Expressions.{number_of}
use Rattle.gr_lang.specs.Objects.{Object, array, keys, pairs, line, Heap, Objects, Called, call, address, address_in, heap_address, at_address, start_in, alloc_at}
use Rattle.gr_lang.specs.States.{Task, State, id_cmp}
use Rattle.gr_lang.specs.Steps.{called, goes_on}
use Rattle.gr_msg.specs.declared.message.Msg.TheVariants as msg
use Rattle.gr_machine.specs.Machines.{Machine, home, place}
use Rattle.gr_machine.specs.States.{Words, Body}
use Rattle.gr_machine.specs.Outcomes.{Outcome}
use Rattle.gr_machine.specs.Requests.{named_at, word_call, with_word, word_made, word_requested, with_blocks, allocated, freed, printed, answered, made_at_zero, requested}
use Rattle.gr_stands.specs.Worlds.{Given, machine_in, World, bodies}
use Rattle.gr_stands.specs.Memory.{emptied, kind_of, kind_at, WordsStand}
use Rattle.gr_stands.specs.WordActs.{WordsAct}
use Rattle.gr_stands.specs.Calls.{IsRequest, AsksWord, AsksZero, RequestFits}
use Rattle.gr_stands.specs.Stands.{IsSound, Stands}
use Rattle.gr_stands.proofs.Memories.{word_there, key_there, blocks_there, words_stay, word_put}
use Rattle.gr_stands_calls.specs.Acting.{letter, IsFirstLetter, ActsWithEntry}
use Rattle.gr_stands_calls.specs.Laws as laws
use Rattle.gr_stands_calls.proofs.Common.{same_memory, first_fits}
use Rattle.gr_stands_calls.proofs.Answered.{call_leads, goes, named_there, answered_keeps}

-- ---- the addresses of the plain state are those of the opening objects

address_of_kind : (thing : Option Object) (at : ℕ) → address_in thing at ≡ address_in (kind_of thing) at
address_of_kind None at = refl
address_of_kind (Some (array from count)) at = refl
address_of_kind (Some (keys held)) at = refl
address_of_kind (Some (pairs held)) at = refl
address_of_kind (Some (line words)) at = refl

pub address_same : (before after : Objects) → ((object : ℕ) → kind_at after object ≡ kind_at before object) → after.heap ≡ before.heap → (object at : ℕ)
    → address after object at ≡ address before object at
address_same before after kinds heap object at =
    ap (λ (o : Option ℕ). if object == HEAP then heap_address after.heap at else o)
    (address_of_kind (slice_get after.things object) at ∙ ap (λ (k : Option Object). address_in k at) (kinds object) ∙ sym (address_of_kind (slice_get before.things object) at))
    ∙ ap (λ (h : Heap). if object == HEAP then heap_address h at else address_in (slice_get before.things object) at) heap

equal_so : (a b : ℕ) → a ≡ b → (b == a) ≡ true
equal_so a b e = grind (arith, nat_tests, e)

-- ---- what the heap's blocks are

module _ (machine : Machine) (B : ℕ → Body) (c : ℕ) (S : Objects) (old : WordsStand machine B S) (zeroth : c ≡ 0) where
  blocks_put : (blocks : fin.FinMap nat_cmp ℕ) → WordsAct machine c (record (B c).words { blocks = blocks }) S (record S { live = blocks })
  blocks_put blocks = record {
    words_here = λ at q. word_there machine B c S old at q;
    words_away = λ at q. refl;
    keys_here = λ object key q. key_there machine B c S old object key q;
    keys_away = λ object key q. (old.elsewhere c object key q, refl);
    blocks_here = λ q. refl;
    blocks_away = λ q. absurd (q zeroth);
    kinds = λ object. refl;
    heap = refl;
    count = refl;
  }

-- ---- requests

module _ (given : Given) (w : World) (S : State) (me from slot : ℕ) (id : TaskId) (operation x y z : ℕ) (sound : IsSound given) (st : Stands given w S)
    (here : me < given.setup.cores) (f : RequestFits given (bodies w) S from me slot id operation x y z) where
  abbrev machine : Machine
  machine = machine_in given

  abbrev body : Body
  body = bodies w me

  abbrev Served : Type 0
  Served = ActsWithEntry given w S me (letter from (msg.Request slot id operation x y z) ∷ []) (requested machine me body from slot id operation x y z)

  -- The call has this reply, and these objects are left; the outcome answers it, with this body.
  served_by : (b : Body) → b.tasks ≡ body.tasks → b.work ≡ body.work → (word : Reply) (objects : Objects)
      → requested machine me body from slot id operation x y z ≡ Some (answered b from slot id f.call word)
      → call f.call S.objects ≡ (objects, word) → WordsAct machine me b.words S.objects objects → Served
  served_by b tasks work word objects acts made words =
      let plain = f.stands.plain in
      let T : State = called given.program given.setup.steps S id plain f.call word in
      record {
        outcome = answered b from slot id f.call word;
        acts = acts;
        sends = (f.sender, tt);
        entry = entry.Call id f.call word;
        marks = refl;
        after = T;
        leads = call_leads given.program given.setup.cores given.setup.steps S id plain f.call word
            (named_there given w S me from slot id operation x y z st here f) (goes given w S me from slot id operation x y z st here f)
            (sym (sym f.next ∙ sym f.stands.action)) (ap (λ (c : Called). c.1) made);
        keeps = answered_keeps given w S me from slot id operation x y z st here f b tasks work word T
            (ap (λ (i : TaskId). fin.insert S.tasks i (goes_on given.program given.setup.steps plain word)) (sym f.asked.named))
            (subst (WordsAct machine me b.words S.objects) (sym (ap (λ (c : Called). c.0) made)) words);
      }

  -- The number and the words of the request are these.
  renumbered : (number at first second : ℕ) → operation ≡ number → x ≡ at → y ≡ first → z ≡ second
      → requested machine me body from slot id operation x y z ≡ requested machine me body from slot id number at first second
  renumbered number at first second e k p q =
      ap (λ (n : ℕ). requested machine me body from slot id n x y z) e
      ∙ ap (λ (n : ℕ). requested machine me body from slot id number n y z) k
      ∙ ap (λ (n : ℕ). requested machine me body from slot id number at n z) p
      ∙ ap (requested machine me body from slot id number at first) q

  -- A call on a word. Where the request names the word so, it is made there.
  module _ (object spot number first second : ℕ) (a : AsksWord machine me object spot number first second operation x y z) where
    length_is : length S.objects.words ≡ length machine.code.objects.words
    length_is = st.words.count

    inside : x < length S.objects.words
    inside = omega (arith, length_is, sound.inside object spot x a.lies)

    abbrev word : ℕ
    word = slice_index S.objects.words x

    word_is : body.words.segment (place machine x) ≡ Some word
    word_is = word_there machine (bodies w) me S.objects st.words x (sym a.homed) ∙ slice_get-get_or S.objects.words x 0 inside

    on_word : (op : Op) → at_address (address S.objects object spot) op S.objects
        ≡ (record S.objects { words = slice_set S.objects.words x (word_after op word) }, word_reply op word)
    on_word op = ap (λ (o : Option ℕ). at_address o op S.objects) (address_same machine.code.objects S.objects st.words.kinds st.words.heap object spot ∙ a.lies)

    word_served : (named : ℕ × ℕ → Op) → named (object, spot) ≡ f.call
        → call f.call S.objects ≡ at_address (address S.objects object spot) f.call S.objects
        → requested machine me body from slot id number x first second
        ≡ (if home machine x == me then word_made body from slot id (place machine x) (named (named_at machine x)) (body.words.segment (place machine x)) else None)
        → Served
    word_served named is plainly shape =
        let b : Body = with_word body (place machine x) (Some (word_after f.call word)) in
        served_by b refl refl (word_reply f.call word) (record S.objects { words = slice_set S.objects.words x (word_after f.call word) })
        (renumbered number x first second a.numbered refl a.first_is a.second_is
        ∙ shape
        ∙ ap (λ (t : Bool). if t then word_made body from slot id (place machine x) (named (named_at machine x)) (body.words.segment (place machine x)) else None) (equal_so me (home machine x) a.homed)
        ∙ ap (λ (n : ℕ × ℕ). word_made body from slot id (place machine x) (named n) (body.words.segment (place machine x))) (sound.named object spot x a.lies)
        ∙ ap (λ (c : Op). word_made body from slot id (place machine x) c (body.words.segment (place machine x))) is
        ∙ ap (word_made body from slot id (place machine x) f.call) word_is)
        (plainly ∙ on_word f.call)
        (word_put machine (bodies w) me S.objects st.words x (word_after f.call word) sound.cores sound.block a.homed inside)

  -- A call that core 0 is asked.
  module _ (number at : ℕ) (a : AsksZero me number at operation x y z) where
    zeroth : (if me == 0 then true else false) ≡ true
    zeroth = ap (λ (t : Bool). if t then true else false) (equal_so 0 me (sym a.homed))

    zero_served : (b : Body) → b.tasks ≡ body.tasks → b.work ≡ body.work → (word : Reply) (objects : Objects)
        → requested machine me body from slot id number at 0 0 ≡ (if me == 0 then made_at_zero machine body from slot id number at else None)
        → made_at_zero machine body from slot id number at ≡ Some (answered b from slot id f.call word)
        → call f.call S.objects ≡ (objects, word) → WordsAct machine me b.words S.objects objects → Served
    zero_served b tasks work word objects shape acts made words =
        served_by b tasks work word objects
        (renumbered number at 0 0 a.numbered a.word_is a.first_is a.second_is ∙ shape
        ∙ ap (λ (t : Bool). if t then made_at_zero machine body from slot id number at else None) (equal_so 0 me (sym a.homed)) ∙ acts) made words

  start_same : me ≡ 0 → (count : ℕ) → start_in machine.code.objects.heap body.words.blocks count ≡ start_in S.objects.heap S.objects.live count
  start_same e count = ap (λ (h : Heap). start_in h body.words.blocks count) (sym st.words.heap)
      ∙ ap (λ (live : fin.FinMap nat_cmp ℕ). start_in S.objects.heap live count) (blocks_there machine (bodies w) me S.objects st.words e)

  alloc_served : (count : ℕ) → f.call ≡ op.Alloc count → AsksZero me 5 count operation x y z → Served
  alloc_served count e a = by (start_in S.objects.heap S.objects.live count) refl
    where
      by : (o : Option ℕ) → start_in S.objects.heap S.objects.live count ≡ o → Served
      by None k = zero_served 5 count a body refl refl (one (2 ^ 64 - 1)) S.objects refl
          (ap (λ (o : Option ℕ). Some (allocated body from slot id count o)) (start_same a.homed count ∙ k) ∙ ap (λ (c : Op). Some (answered body from slot id c (one (2 ^ 64 - 1)))) (sym e))
          (ap (λ (c : Op). call c S.objects) e ∙ ap (λ (o : Option ℕ). alloc_at o count S.objects) k)
          (words_stay machine (bodies w) me S.objects st.words body.words S.objects refl (same_memory S.objects))
      by (Some start) k =
          let blocks : fin.FinMap nat_cmp ℕ = fin.insert body.words.blocks start count in
          zero_served 5 count a (with_blocks body blocks) refl refl (one start) (record S.objects { live = blocks }) refl
          (ap (λ (o : Option ℕ). Some (allocated body from slot id count o)) (start_same a.homed count ∙ k) ∙ ap (λ (c : Op). Some (answered (with_blocks body blocks) from slot id c (one start))) (sym e))
          (ap (λ (c : Op). call c S.objects) e ∙ ap (λ (o : Option ℕ). alloc_at o count S.objects) k
          ∙ ap (λ (live : fin.FinMap nat_cmp ℕ). (record S.objects { live = fin.insert live start count }, one start)) (sym (blocks_there machine (bodies w) me S.objects st.words a.homed)))
          (blocks_put machine (bodies w) me S.objects st.words a.homed blocks)

  free_served : (at : ℕ) → f.call ≡ op.Free at → AsksZero me 6 at operation x y z → Served
  free_served at e a =
      let blocks : fin.FinMap nat_cmp ℕ = fin.remove body.words.blocks at in
      let word : Reply = one (number_of (is_some (fin.get body.words.blocks at))) in
      zero_served 6 at a (with_blocks body blocks) refl refl word (record S.objects { live = blocks }) refl
      (ap (λ (c : Op). Some (answered (with_blocks body blocks) from slot id c word)) (sym e))
      (ap (λ (c : Op). call c S.objects) e
      ∙ ap (λ (live : fin.FinMap nat_cmp ℕ). (record S.objects { live = fin.remove live at }, one (number_of (is_some (fin.get live at))))) (sym (blocks_there machine (bodies w) me S.objects st.words a.homed)))
      (blocks_put machine (bodies w) me S.objects st.words a.homed blocks)

  print_served : (word : ℕ) → f.call ≡ op.Print word → AsksZero me 7 word operation x y z → Served
  print_served word e a = zero_served 7 word a body refl refl nothing S.objects refl
      (ap (λ (c : Op). Some (answered body from slot id c nothing)) (sym e))
      (ap (λ (c : Op). call c S.objects) e)
      (words_stay machine (bodies w) me S.objects st.words body.words S.objects refl (same_memory S.objects))

  request_served : (c : Op) → f.call ≡ c → IsRequest machine me c operation x y z → Served
  request_served (op.Read object spot) e r = word_served object spot 1 0 0 r (λ n. op.Read n.0 n.1) (sym e)
      (ap (λ (c : Op). call c S.objects) e ∙ ap (λ (c : Op). at_address (address S.objects object spot) c S.objects) (sym e)) refl
  request_served (op.Write object spot word) e r = word_served object spot 2 word 0 r (λ n. op.Write n.0 n.1 word) (sym e)
      (ap (λ (c : Op). call c S.objects) e ∙ ap (λ (c : Op). at_address (address S.objects object spot) c S.objects) (sym e)) refl
  request_served (op.Add object spot word) e r = word_served object spot 3 word 0 r (λ n. op.Add n.0 n.1 word) (sym e)
      (ap (λ (c : Op). call c S.objects) e ∙ ap (λ (c : Op). at_address (address S.objects object spot) c S.objects) (sym e)) refl
  request_served (op.Cas object spot old new) e r = word_served object spot 4 old new r (λ n. op.Cas n.0 n.1 old new) (sym e)
      (ap (λ (c : Op). call c S.objects) e ∙ ap (λ (c : Op). at_address (address S.objects object spot) c S.objects) (sym e)) refl
  request_served (op.Alloc count) e r = alloc_served count e r
  request_served (op.Free at) e r = free_served at e r
  request_served (op.Print word) e r = print_served word e r
  request_served _ e r = absurd r

pub requests_are_made : laws.RequestsAreMade
requests_are_made given w S me from slot id operation x y z sound st first =
    let f : RequestFits given (bodies w) S from me slot id operation x y z = first_fits given w S me from (msg.Request slot id operation x y z) st first in
    request_served given w S me from slot id operation x y z sound st first.here f f.call refl f.request
