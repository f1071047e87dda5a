-- A batch takes effect at its home.
use Rattle.std.proofs.Common.{◌≡◌, ◌≢◌, ℕ, zero, suc, ◌<◌, ◌≤◌, ◌==◌, ◌&&◌, ◌||◌, not, Bool, true, false, if◌then◌else◌, List, [], ◌∷◌, ◌++◌, length, slice_get, slice_index, is_some, inl, inr, sym, ◌∙◌, ap, subst, refl, arith, append-nil, Option, Some, None}
use Rattle.std.specs.List.{list_any}
use Rattle.std.proofs.lemmas.Bool.{cases_eq}
use Rattle.std.proofs.lemmas.Bool.Decides.{nat_tests}
use Rattle.gr_lang.specs.declared.action.Effect.{Effect}
use Rattle.gr_lang.specs.declared.action.Op.{Op}
use Rattle.gr_lang.specs.declared.action.TaskId.{TaskId}
use Rattle.gr_lang.specs.declared.action.WaitingCall.{WaitingCall}
use Rattle.gr_lang.specs.Effects.{after}
use Rattle.gr_lang.specs.Histories as histories
use Rattle.gr_lang.specs.Objects.{Object, array, keys, pairs, line, Objects, address}
use Rattle.gr_lang.specs.States.{State}
use Rattle.gr_view.specs.Places.{put}
use Rattle.gr_msg.specs.declared.message.Msg.TheVariants as msg
use Rattle.gr_batch.specs.Folding.{folded, wakes_of}
use Rattle.gr_batch.proofs.Effects.{batch_law}
use Rattle.gr_net.specs.Sums.{weigh, Each}
use Rattle.gr_net.proofs.Spreads.{put_at, put_other, put_each, put_field, Each-map}
use Rattle.gr_machine.specs.Machines.{Machine, home, place, numbered_home, thing}
use Rattle.gr_machine.specs.declared.waits.Waits.TheVariants as wait
use Rattle.gr_machine.specs.States.{Letter, Words, Body}
use Rattle.gr_machine.specs.Outcomes.{Outcome}
use Rattle.gr_machine.specs.Histories.{Sent, batch_entries}
use Rattle.gr_machine.specs.Calls.{is_keyed}
use Rattle.gr_machine.specs.BatchServes.{applied, is_of_word, is_of_set, is_of_map, word_applied, word_batch, key_batch, batched, is_reduce}
use Rattle.gr_machine.specs.Closes.{batch_home}
use Rattle.gr_stands.specs.Worlds.{Given, machine_in, World, bodies}
use Rattle.gr_stands.specs.Memory.{under_key}
use Rattle.gr_stands.specs.WordActs.{WordsAct}
use Rattle.gr_stands.specs.Censuses.{Weights, body_census, is_task}
use Rattle.gr_stands.specs.Calls.{is_going, is_asking, of_slot, times}
use Rattle.gr_stands.specs.CallActs.{CallsAct}
use Rattle.gr_stands.specs.Stands.{IsSound, Stands}
use Rattle.gr_stands.proofs.Calls.{slot_unchanged}
use Rattle.gr_stands.proofs.Memories.{word_there, key_there, blocks_there, word_put}
use Rattle.gr_stands_calls.specs.Acting.{letter, IsFirstLetter}
use Rattle.gr_stands_calls.proofs.Common.{kept_by}
use Rattle.gr_stands_calls.proofs.Slots.{none_some, fresh_kept, units_kept}
use Rattle.gr_stands_calls.proofs.Stays.{outside}
use Rattle.gr_batches.specs.Keys.{IsOn}
use Rattle.gr_batches.specs.Batches.{IsCaller, is_at, flying_at, StandsAfter, is_under_way, BatchStands, MessageStands, BatchesStand}
use Rattle.gr_batches.specs.BatchActs.{BatchesAct}
use Rattle.gr_batches.proofs.Kept.{batches_kept}
use Rattle.gr_batches.proofs.Cores.{core_still}
use Rattle.gr_batches_takes.specs.Taking.{HeapIsApart, TakesEffect}
use Rattle.gr_batches_takes.specs.Laws as laws
use Rattle.gr_batches_takes.proofs.Names.{flying_le, AreApart, are_apart}
use Rattle.gr_batches_takes.proofs.Ran.{names, Ran, run}
use Rattle.gr_batches_takes.proofs.Words.{HasWord, PutsWord, IsReduceOf, word_at, word_is, word_nothing, word_makes, word_replies, word_chained, word_cell, word_fine}
use Rattle.gr_batches_takes.proofs.Cells.{HasKey, PutsKey, IsCallOf, key_at, key_nothing, key_makes, key_replies, key_chained, key_cell, key_fine, none_keyed, array_keyed, line_keyed, as_word, as_key}
use Rattle.gr_batches_takes.proofs.Folds.{set_folds, map_folds, word_folds, none_reduce}
use Rattle.gr_batches_takes.proofs.Others.{elsewhere, in_others}
use Rattle.gr_batches_takes.proofs.Homes.{no_word, heap_so}

mail_self : (c b from : ℕ) → (if c == c && b == b then suc zero else zero) ≡ suc zero
mail_self c b from = grind (arith, nat_tests)

words_apart : (h : Weights) (m : ℕ) (a : Body) (W : Words) → body_census h m (record a { words = W }) ≡ body_census h m a
unfolding body_census
words_apart h m a W = refl

or_true : (b : Bool) → (b || true) ≡ true
or_true true = refl
or_true false = refl

module _ (given : Given) (sent : Sent) (w : World) (S : State) (me from object key : ℕ) (what : Effect) (batch : ℕ) (sound : IsSound given) (heap : HeapIsApart given)
    (st : Stands given w S) (bs : BatchesStand given sent w S) (first : IsFirstLetter given w me from (msg.Batch object key what batch)) where
  abbrev machine : Machine
  machine = machine_in given

  abbrev got : List Letter
  got = letter from (msg.Batch object key what batch) ∷ []

  f : BatchStands given (bodies w) S from me object key what batch
  f = (subst (Each (λ (l : Letter). MessageStands given (bodies w) S l.from me l.message)) first.without.inbox (bs.messages.inboxes me first.here)).0

  abbrev calls : List WaitingCall
  calls = f.calls

  abbrev ids : List TaskId
  ids = names calls

  callers : Each (IsCaller (bodies w from) (wait.Batch batch)) calls
  callers = (bs.cores from).callers batch calls f.there

  at_most : (slot : ℕ) → weigh (is_at slot) calls ≤ 1
  at_most slot = omega (arith, (bs.cores from).each batch slot, ap (flying_at slot) f.there, flying_le batch ((bodies w from).tasks.slots slot))

  distinct : AreApart given w S st.calls from (wait.Batch batch) calls
  distinct = are_apart given w S st.calls from (wait.Batch batch) calls callers at_most

  -- ---- the batch, with other words at its home

  module _ (Puts : Objects → Option ℕ → Objects → Type 0) (before : Option ℕ) (r : Ran given (bodies w from) Puts S calls before) (W : Words)
      (words : WordsAct machine me W S.objects r.last.objects) (word : (is_some before || not (list_any (λ call. is_reduce call.op) calls)) ≡ true) where
    abbrev b : Body
    b = record (bodies w me) { words = W }

    abbrev e : Outcome
    e = applied b from batch before

    abbrev T : State
    T = r.last

    abbrev B : ℕ → Body
    B = put (bodies w) me b

    calls_act : CallsAct given w me got e S T given.setup.cores 0 None ids
    calls_act =
        let n = given.setup.cores in
        let old = st.calls in
        let none = outside given (bodies w) S old.tasks in
        let apart = elsewhere given w S st.calls from batch calls callers f.before in
        record {
          change = slot_unchanged (bodies w) me n 0 None b refl none;
          kept = r.kept;
          elsewhere = apart;
          new = λ u h. absurd (none_some u h);
          private = units_kept given S T ids r.kept (bodies w me).work.private (old.tasks.private me first.here) (apart.private me first.here);
          public = units_kept given S T ids r.kept (bodies w me).work.public (old.tasks.public me first.here) (apart.public me first.here);
          sends = (tt, tt);
          ready = λ i l. put_each (λ (i : ℕ) (q : Body). times l q.tasks.ready ≡ of_slot is_going (q.tasks.slots l)) (bodies w) me b i (λ q. old.tasks.ready me l) (λ q. old.tasks.ready i l);
          fresh = fresh_kept (bodies w) S T me b refl r.new old.tasks.fresh;
          once = λ id. omega (arith, words_apart (is_task id) given.slots (bodies w me) W, r.unended id);
          quiet = old.asked n 0 ∙ ap (of_slot is_asking) none;
          asked = refl;
          others = λ i l ne. refl;
        }

    slot_same : (one slot : ℕ) → (B one).tasks.slots slot ≡ (bodies w one).tasks.slots slot
    slot_same one slot = put_field (λ (x : Body). x.tasks.slots slot) (bodies w) me b refl one

    table_same : (one number : ℕ) → (B one).batches.flying number ≡ (bodies w one).batches.flying number
    table_same one number = put_field (λ (x : Body). x.batches.flying number) (bodies w) me b refl one

    batches_act : BatchesAct given sent sent w me got e S T from batch (Some calls) ids
    batches_act = record {
      stands = core_still machine (bodies w me) b (record { batches = refl; vectors = λ object none. none; slots = λ slot. inl refl }) (bs.cores me);
      change = record { here = table_same from batch ∙ f.there; other = λ one number ne. table_same one number };
      kept = r.kept;
      others_stay = λ one slot number u ne at waits. (slot_same one slot ∙ at, in_others given w S st.calls from batch one slot number u ne at waits calls callers);
      sends = (
        record {
          calls = calls;
          there = table_same from batch ∙ f.there;
          word = word;
          after = Each-map (StandsAfter machine T (bodies w from)) (StandsAfter machine T (B from)) (λ wake g task h. g task (sym (slot_same from wake.slot) ∙ h)) (wakes_of calls before) r.stands;
        },
        tt,
      );
      quiet = omega (arith, bs.mail from batch, ap is_under_way f.there, mail_self from batch from);
      mailed = omega (arith, mail_self from batch from);
      others = λ one number ne. refl;
      noted = λ one number some h. bs.noted one number some (sym (table_same one number) ∙ h);
    }

    served : (made : Option Outcome) → made ≡ Some e → TakesEffect given sent w S me got made
    served made is = record {
      outcome = e;
      acts = is;
      sends = (f.sender, tt);
      next = T;
      leads = ap (λ (cs : List WaitingCall). histories.after given.program given.setup.cores given.setup.steps S (batch_entries cs before ++ [])) (bs.noted from batch calls f.there)
          ∙ ap (histories.after given.program given.setup.cores given.setup.steps S) (append-nil (batch_entries calls before)) ∙ r.leads;
      keeps = kept_by given w S T me got e given.setup.cores 0 None ids st calls_act words;
      batches = λ next acts. batches_kept given sent sent w next me got e S T from batch (Some calls) ids acts batches_act bs;
    }

  -- ---- on a key

  module _ (homed : me ≡ numbered_home machine key) (good : Each (λ (one : WaitingCall). IsCallOf machine object key one.op) calls) where
    abbrev under_it : Option ℕ
    under_it = (bodies w me).words.shards object key

    there_is : under_it ≡ under_key S.objects object key
    there_is = key_there machine (bodies w) me S.objects st.words object key (sym homed)

    ran_key : Ran given (bodies w from) (PutsKey machine object key) S calls under_it
    ran_key = run given w S st.calls from batch (key_at machine object key) (PutsKey machine object key) (HasKey machine object key) (IsCallOf machine object key)
        (key_nothing machine object key) (key_makes machine object key) (key_replies machine object key) (key_chained machine object key) (key_cell machine object key)
        (key_fine machine object key) calls S under_it callers distinct f.before good (record { kinds = st.words.kinds }) (sym there_is)

    abbrev after_it : Option ℕ
    after_it = after what under_it

    abbrev shards : ℕ → ℕ → Option ℕ
    shards = put (bodies w me).words.shards object (put ((bodies w me).words.shards object) key after_it)

    at_key : under_key ran_key.last.objects object key ≡ after_it
    at_key = ran_key.puts.here ∙ batch_law calls what f.folds under_it

    shard_here : (o k : ℕ) → numbered_home machine k ≡ me → shards o k ≡ under_key ran_key.last.objects o k
    shard_here o k q = elim (cases_eq o object) [
      | inl p ↦ ap (λ (g : ℕ → Option ℕ). g k) (put_at (bodies w me).words.shards object (put ((bodies w me).words.shards object) key after_it) o p)
          ∙ put_each (λ (i : ℕ) (x : Option ℕ). i ≡ k → x ≡ under_key ran_key.last.objects o k) ((bodies w me).words.shards object) key after_it k
          (λ r s. sym at_key ∙ ap (λ (i : ℕ). under_key ran_key.last.objects i key) (sym p) ∙ ap (under_key ran_key.last.objects o) (sym r))
          (λ ne s. ap (λ (i : ℕ). (bodies w me).words.shards i k) (sym p) ∙ key_there machine (bodies w) me S.objects st.words o k q ∙ sym (ran_key.puts.there o k (λ z. ne z.1)))
          refl
      | inr ne ↦ ap (λ (g : ℕ → Option ℕ). g k) (put_other (bodies w me).words.shards object (put ((bodies w me).words.shards object) key after_it) o ne)
          ∙ key_there machine (bodies w) me S.objects st.words o k q ∙ sym (ran_key.puts.there o k (λ z. ne z.0))
    ]

    shard_away : (o k : ℕ) → numbered_home machine k ≢ me → k ≢ key
    shard_away o k q e = q (ap (numbered_home machine) e ∙ sym homed)

    words_key : WordsAct machine me (record (bodies w me).words { shards = shards }) S.objects ran_key.last.objects
    words_key = record {
      words_here = λ at q. word_there machine (bodies w) me S.objects st.words at q ∙ ap (λ (xs : List ℕ). slice_get xs at) (sym ran_key.puts.words);
      words_away = λ at q. ap (λ (xs : List ℕ). slice_get xs at) ran_key.puts.words;
      keys_here = shard_here;
      keys_away = λ o k q. (
        put_each (λ (i : ℕ) (g : ℕ → Option ℕ). g k ≡ None) (bodies w me).words.shards object (put ((bodies w me).words.shards object) key after_it) o
            (λ p. put_other ((bodies w me).words.shards object) key after_it k (shard_away o k q) ∙ st.words.elsewhere me object k q)
            (λ p. st.words.elsewhere me o k q),
        ran_key.puts.there o k (λ z. shard_away o k q z.1),
      );
      blocks_here = λ q. blocks_there machine (bodies w) me S.objects st.words q ∙ sym ran_key.puts.live;
      blocks_away = λ q. ran_key.puts.live;
      kinds = ran_key.puts.kinds;
      heap = ran_key.puts.heap;
      count = ap length ran_key.puts.words;
    }

    key_served : (it : Option Object) → Each (λ (one : WaitingCall). is_keyed one.op it ≡ true) calls → (test : Bool) → test ≡ true
        → TakesEffect given sent w S me got (key_batch (bodies w me) from object key what batch test)
    key_served it has test is = served (PutsKey machine object key) under_it ran_key (record (bodies w me).words { shards = shards }) words_key
        (ap (λ (t : Bool). is_some under_it || not t) (none_reduce it calls has) ∙ or_true (is_some under_it))
        (key_batch (bodies w me) from object key what batch test) (ap (key_batch (bodies w me) from object key what batch) is)

  -- ---- on a word

  module _ (homed : me ≡ home machine key) (good : Each (λ (one : WaitingCall). IsReduceOf machine object key one.op) calls) where
    low : key < length S.objects.words
    low = by calls f.some good
      where
        length_is : length S.objects.words ≡ length machine.code.objects.words
        length_is = st.words.count

        by : (cs : List WaitingCall) → 0 < length cs → Each (λ (one : WaitingCall). IsReduceOf machine object key one.op) cs → key < length S.objects.words
        by [] l g = absurd (omega (arith, l))
        by (one ∷ cs) l g = omega (arith, length_is, sound.inside g.0.on g.0.place key g.0.lies)

    has_word : HasWord machine object key S.objects
    has_word = record { kinds = st.words.kinds; heap = st.words.heap; low = low }

    abbrev word_now : ℕ
    word_now = slice_index S.objects.words key

    ran_word : Ran given (bodies w from) (PutsWord machine object key) S calls (Some word_now)
    ran_word = run given w S st.calls from batch (word_at machine object key) (PutsWord machine object key) (HasWord machine object key) (IsReduceOf machine object key)
        (word_nothing machine object key) (word_makes machine object key) (word_replies machine object key) (word_chained machine object key) (word_cell machine object key)
        (word_fine machine object key) calls S (Some word_now) callers distinct f.before good has_word (word_is machine object key S.objects has_word)

    after_is : Some ran_word.puts.word ≡ after what (Some word_now)
    after_is = sym ran_word.puts.is ∙ batch_law calls what f.folds (Some word_now)

    words_word : WordsAct machine me (record (bodies w me).words { segment = put (bodies w me).words.segment (place machine key) (after what (Some word_now)) }) S.objects ran_word.last.objects
    words_word = subst (λ (o : Option ℕ). WordsAct machine me (record (bodies w me).words { segment = put (bodies w me).words.segment (place machine key) o }) S.objects ran_word.last.objects) after_is
        (subst (WordsAct machine me (record (bodies w me).words { segment = put (bodies w me).words.segment (place machine key) (Some ran_word.puts.word) }) S.objects) (sym ran_word.puts.objects)
        (word_put machine (bodies w) me S.objects st.words key ran_word.puts.word sound.cores sound.block homed low))

    is_word : is_of_word what ≡ true
    is_word = by calls f.some f.folds good
      where
        by : (cs : List WaitingCall) → 0 < length cs → folded cs ≡ Some what → Each (λ (one : WaitingCall). IsReduceOf machine object key one.op) cs → is_of_word what ≡ true
        by [] l e g = absurd (omega (arith, l))
        by (one ∷ cs) l e g = word_folds machine object key one cs what e g

    equal_so : (a c : ℕ) → a ≡ c → (c == a) ≡ true
    equal_so a c e = grind (arith, nat_tests, e)

    word_served : TakesEffect given sent w S me got (word_batch machine me (bodies w me) from key what batch)
    word_served = served (PutsWord machine object key) (Some word_now) ran_word
        (record (bodies w me).words { segment = put (bodies w me).words.segment (place machine key) (after what (Some word_now)) }) words_word refl
        (word_batch machine me (bodies w me) from key what batch)
        (ap (λ (t : Bool). if t && home machine key == me then word_applied (bodies w me) from (place machine key) what batch ((bodies w me).words.segment (place machine key)) else None) is_word
        ∙ ap (λ (t : Bool). if t then word_applied (bodies w me) from (place machine key) what batch ((bodies w me).words.segment (place machine key)) else None) (equal_so me (home machine key) homed)
        ∙ ap (word_applied (bodies w me) from (place machine key) what batch) (word_there machine (bodies w) me S.objects st.words key (sym homed) ∙ word_is machine object key S.objects has_word))

  words_only : ((o : Op) → is_keyed o (thing machine object) ≡ true → ⊥) → Each (λ (one : WaitingCall). IsReduceOf machine object key one.op) calls
  words_only none = Each-map (λ (one : WaitingCall). IsOn machine object key one.op) (λ (one : WaitingCall). IsReduceOf machine object key one.op)
      (λ one on. as_word machine object key one.op on (none one.op)) calls f.on

  keys_only : ((spot : ℕ) → address machine.code.objects object spot ≡ Some key → ⊥) → Each (λ (one : WaitingCall). IsCallOf machine object key one.op) calls
  keys_only none = Each-map (λ (one : WaitingCall). IsOn machine object key one.op) (λ (one : WaitingCall). IsCallOf machine object key one.op)
      (λ one on. as_key machine object key one.op on none) calls f.on

  have : (it : Option Object) → thing machine object ≡ it → Each (λ (one : WaitingCall). IsCallOf machine object key one.op) calls → Each (λ (one : WaitingCall). is_keyed one.op it ≡ true) calls
  have it e good = Each-map (λ (one : WaitingCall). IsCallOf machine object key one.op) (λ (one : WaitingCall). is_keyed one.op it ≡ true)
      (λ one g. ap (is_keyed one.op) (sym e) ∙ g.has) calls good

  homed_at : (it : Option Object) → thing machine object ≡ it → me ≡ batch_home machine it key
  homed_at it e = f.homed ∙ ap (λ (o : Option Object). batch_home machine o key) e

  by_thing : (it : Option Object) → thing machine object ≡ it → TakesEffect given sent w S me got (batched machine me (bodies w me) from object key what batch it)
  by_thing (Some (array start count)) e = word_served (homed_at (Some (array start count)) e) (words_only (λ o k. array_keyed start count o (ap (is_keyed o) (sym e) ∙ k)))
  by_thing (Some (keys held)) e =
      let good = keys_only (no_word given object key heap (keys held) e (λ spot. refl)) in
      let has = have (Some (keys held)) e good in
      key_served (homed_at (Some (keys held)) e) good (Some (keys held)) has (is_of_set what) (set_folds held calls what f.folds has)
  by_thing (Some (pairs held)) e =
      let good = keys_only (no_word given object key heap (pairs held) e (λ spot. refl)) in
      let has = have (Some (pairs held)) e good in
      key_served (homed_at (Some (pairs held)) e) good (Some (pairs held)) has (is_of_map what) (map_folds held calls what f.folds has)
  by_thing (Some (line words)) e = absurd (by calls f.some (words_only (λ o k. line_keyed words o (ap (is_keyed o) (sym e) ∙ k))))
    where
      by : (cs : List WaitingCall) → 0 < length cs → Each (λ (one : WaitingCall). IsReduceOf machine object key one.op) cs → ⊥
      by [] l g = omega (arith, l)
      by (one ∷ cs) l g = no_word given object key heap (line words) e (λ spot. refl) g.0.place (ap (λ (n : ℕ). address machine.code.objects n g.0.place) (sym g.0.object_is) ∙ g.0.lies)
  by_thing None e = subst (λ (t : Bool). TakesEffect given sent w S me got (if t then word_batch machine me (bodies w me) from key what batch else None)) (sym (heap_so given object key heap calls f.some f.on e))
      (word_served (homed_at None e) (words_only (λ o k. none_keyed o (ap (is_keyed o) (sym e) ∙ k))))

pub batches_take_effect : laws.BatchesTakeEffect
batches_take_effect given sent w S me from object key what batch sound heap st bs first = by_thing given sent w S me from object key what batch sound heap st bs first (thing (machine_in given) object) refl
