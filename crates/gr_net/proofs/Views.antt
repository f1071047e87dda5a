-- A step of the world is a step of what a part sees of it.
use Rattle.std.proofs.Common.{◌≡◌, ℕ, zero, suc, ◌==◌, if◌then◌else◌, List, [], ◌∷◌, ◌++◌, length, map, take, drop, sym, ◌∙◌, ap, refl, inl, inr, true, false}
use Rattle.std.specs.Prelude.{Option, Some, None}
use mathlib.Core.Path.{fun_ext}
use Rattle.std.proofs.lemmas.Bool.{cases_eq, cond_both}
use Rattle.gr_view.specs.Places.{put}
use Rattle.gr_net.specs.Messages.{Letter, Send, Outcome}
use Rattle.gr_net.specs.Worlds.{Core, World, Joining, sent, sent_all, letters, put_core, shipped, taken, acted, with_body, with_inbox, with_buffer}
use Rattle.gr_net.specs.Views.{keep, picked, letter_of, send_of, see_letters, see_sends, see_packet, see_core, see, see_outcome, joined_by, IsSeenToJoin}
use Rattle.gr_net.proofs.Spreads.{put_at, put_other, put_each}

append_nil : {X : Type 0} (xs : List X) → xs ++ [] ≡ xs
append_nil [] = refl
append_nil (x ∷ xs) = ap (λ l. x ∷ l) (append_nil xs)

take-length : {X : Type 0} (xs ys : List X) → take (length xs) (xs ++ ys) ≡ xs
take-length [] ys = refl
take-length (x ∷ xs) ys = ap (λ l. x ∷ l) (take-length xs ys)

drop-length : {X : Type 0} (xs ys : List X) → drop (length xs) (xs ++ ys) ≡ ys
drop-length [] ys = refl
drop-length (x ∷ xs) ys = drop-length xs ys

take_drop : {X : Type 0} (n : ℕ) (xs : List X) → take n xs ++ drop n xs ≡ xs
take_drop zero xs = refl
take_drop (suc n) [] = refl
take_drop (suc n) (x ∷ xs) = ap (λ ys. x ∷ ys) (take_drop n xs)

pub put_itself : {X : Type 0} (f : ℕ → X) (c : ℕ) (x : X) → x ≡ f c → put f c x ≡ f
put_itself f c x e = fun_ext (λ i. put_each (λ i y. y ≡ f i) f c x i (λ q. e ∙ ap f (sym q)) (λ q. refl))

pub put_seen : {X Y : Type 0} (F : X → Y) (f : ℕ → X) (k : ℕ) (x : X) → (λ i. F (put f k x i)) ≡ put (λ i. F (f i)) k (F x)
put_seen {X} {Y} F f k x = fun_ext (λ i. elim (cases_eq i k) [
  | inl q ↦ ap F (put_at f k x i q) ∙ sym (put_at (λ i. F (f i)) k (F x) i q)
  | inr q ↦ ap F (put_other f k x i q) ∙ sym (put_other (λ i. F (f i)) k (F x) i q)
])

keep-append : {X : Type 0} (o : Option X) (xs ys : List X) → keep o (xs ++ ys) ≡ keep o xs ++ ys
keep-append None xs ys = refl
keep-append (Some x) xs ys = refl

map-append : {X Y : Type 0} (f : X → Y) (xs ys : List X) → map f (xs ++ ys) ≡ map f xs ++ map f ys
map-append f [] ys = refl
map-append f (x ∷ xs) ys = ap (λ zs. f x ∷ zs) (map-append f xs ys)

module _ {M N : Type 0} (pick : M → Option N) where
  pub picked-append : (xs ys : List M) → picked pick (xs ++ ys) ≡ picked pick xs ++ picked pick ys
  picked-append [] ys = refl
  picked-append (x ∷ xs) ys = ap (keep (pick x)) (picked-append xs ys) ∙ keep-append (pick x) (picked pick xs) (picked pick ys)

  pub letters-append : (xs ys : List (Letter M)) → see_letters pick (xs ++ ys) ≡ see_letters pick xs ++ see_letters pick ys
  letters-append [] ys = refl
  letters-append (l ∷ xs) ys = ap (keep (letter_of l.from (pick l.message))) (letters-append xs ys) ∙ keep-append (letter_of l.from (pick l.message)) (see_letters pick xs) (see_letters pick ys)

  see_sent_letters : (from : ℕ) (ms : List M) → see_letters pick (letters from ms) ≡ letters from (picked pick ms)
  see_sent_letters from [] = refl
  see_sent_letters from (m ∷ ms) = ap (keep (letter_of from (pick m))) (see_sent_letters from ms) ∙ kept (pick m)
    where
      kept : (o : Option N) → keep (letter_of from o) (letters from (picked pick ms)) ≡ letters from (keep o (picked pick ms))
      kept None = refl
      kept (Some x) = refl

module _ {A B M N : Type 0} (of : A → B) (pick : M → Option N) (join : Joining M) (join_seen : Joining N) (seen : IsSeenToJoin join join_seen pick) where
  abbrev core_of : B → List (Letter N) → (ℕ → List N) → Core B N
  core_of b i f = record { body = b; inbox = i; buffers = f }

  -- one send is one send of what is seen, or none
  see_send : (c : ℕ) (core : Core A M) (s : Send M) (ss : List (Send N)) → sent_all join_seen c (see_core of pick (sent join c core s)) ss ≡ sent_all join_seen c (see_core of pick core) (keep (send_of s.to (pick s.message)) ss)
  see_send c core s ss = cond_both (s.to == c) _ _ (λ (x : Core A M). sent_all join_seen c (see_core of pick x) ss ≡ sent_all join_seen c (see_core of pick core) (keep (send_of s.to (pick s.message)) ss))
      (λ e. ap (λ i. sent_all join_seen c (core_of (of core.body) i (λ d. picked pick (core.buffers d))) ss) (letters-append pick core.inbox (record { from = c; message = s.message } ∷ [])) ∙ own (pick s.message) e)
      (λ e. ap (λ f. sent_all join_seen c (core_of (of core.body) (see_letters pick core.inbox) f) ss) (put_seen (picked pick) core.buffers s.to (join (core.buffers s.to) s.message) ∙ ap (put (λ d. picked pick (core.buffers d)) s.to) (seen (core.buffers s.to) s.message)) ∙ away (pick s.message) e)
    where
      own : (o : Option N) → (s.to == c) ≡ true → sent_all join_seen c (core_of (of core.body) (see_letters pick core.inbox ++ keep (letter_of c o) []) (λ d. picked pick (core.buffers d))) ss ≡ sent_all join_seen c (see_core of pick core) (keep (send_of s.to o) ss)
      own None e = ap (λ i. sent_all join_seen c (core_of (of core.body) i (λ d. picked pick (core.buffers d))) ss) (append_nil (see_letters pick core.inbox))
      own (Some m) e = ap (λ b. sent_all join_seen c (if b then core_of (of core.body) (see_letters pick core.inbox ++ record { from = c; message = m } ∷ []) (λ d. picked pick (core.buffers d)) else core_of (of core.body) (see_letters pick core.inbox) (put (λ d. picked pick (core.buffers d)) s.to (join_seen (picked pick (core.buffers s.to)) m))) ss) (sym e)

      away : (o : Option N) → (s.to == c) ≡ false → sent_all join_seen c (core_of (of core.body) (see_letters pick core.inbox) (put (λ d. picked pick (core.buffers d)) s.to (joined_by join_seen (picked pick (core.buffers s.to)) o))) ss ≡ sent_all join_seen c (see_core of pick core) (keep (send_of s.to o) ss)
      away None e = ap (λ f. sent_all join_seen c (core_of (of core.body) (see_letters pick core.inbox) f) ss) (put_itself (λ d. picked pick (core.buffers d)) s.to _ refl)
      away (Some m) e = ap (λ b. sent_all join_seen c (if b then core_of (of core.body) (see_letters pick core.inbox ++ record { from = c; message = m } ∷ []) (λ d. picked pick (core.buffers d)) else core_of (of core.body) (see_letters pick core.inbox) (put (λ d. picked pick (core.buffers d)) s.to (join_seen (picked pick (core.buffers s.to)) m))) ss) (sym e)

  see_send_all : (c : ℕ) (ss : List (Send M)) (core : Core A M) → see_core of pick (sent_all join c core ss) ≡ sent_all join_seen c (see_core of pick core) (see_sends pick ss)
  see_send_all c [] core = refl
  see_send_all c (s ∷ ss) core = see_send_all c ss (sent join c core s) ∙ see_send c core s (see_sends pick ss)

  pub see_acted : {E : Type 0} (F : Type 0) (c : ℕ) (core : Core A M) (e : Outcome A M E) → see_core of pick (acted join c core (Some e)) ≡ acted {Mark = F} join_seen c (see_core of pick core) (Some (see_outcome of pick e))
  see_acted F c core e = see_send_all c e.sends (with_body core e.body)

module _ {A B M N Q : Type 0} (messages : Q → List M) (of : A → B) (pick : M → Option N) where
  abbrev view_of : B → List (Letter N) → (ℕ → List N) → Core B N
  view_of b i f = record { body = b; inbox = i; buffers = f }

  abbrev world_of : (ℕ → Core B N) → (ℕ → ℕ → List (List N)) → World B N (List N)
  world_of f s = record { cores = f; transit = s }

  world_is : (f g : ℕ → Core B N) (s t : ℕ → ℕ → List (List N)) → f ≡ g → s ≡ t → world_of f s ≡ world_of g t
  world_is f g s t a b = ap (λ f. world_of f s) a ∙ ap (λ s. world_of g s) b

  pub see_put : (w : World A M Q) (c : ℕ) (core : Core A M) → see messages of pick (put_core w c core) ≡ put_core (see messages of pick w) c (see_core of pick core)
  see_put w c core = ap (λ f. world_of f (λ c d. map (see_packet messages pick) (w.transit c d))) (put_seen (see_core of pick) w.cores c core)

  rings_is : (r : ℕ → ℕ → List Q) (a d : ℕ) (ps : List Q) → (λ i j. map (see_packet messages pick) (put r a (put (r a) d ps) i j)) ≡ put (λ i j. map (see_packet messages pick) (r i j)) a (put (λ j. map (see_packet messages pick) (r a j)) d (map (see_packet messages pick) ps))
  rings_is r a d ps = put_seen (λ (f : ℕ → List Q). λ j. map (see_packet messages pick) (f j)) r a (put (r a) d ps) ∙ ap (put (λ i j. map (see_packet messages pick) (r i j)) a) (put_seen (map (see_packet messages pick)) (r a) d ps)

  pub see_shipped : (w : World A M Q) (c d g : ℕ) (p : Q) → messages p ≡ take g ((w.cores c).buffers d) → see messages of pick (shipped g p w c d) ≡ shipped (length (see_packet messages pick p)) (see_packet messages pick p) (see messages of pick w) c d
  see_shipped w c d g p is =
      let buffer = (w.cores c).buffers d in
      let k = length (picked pick (messages p)) in
      let parts : picked pick (messages p) ++ picked pick (drop g buffer) ≡ picked pick buffer = ap (λ xs. picked pick xs ++ picked pick (drop g buffer)) is ∙ sym (picked-append pick (take g buffer) (drop g buffer)) ∙ ap (picked pick) (take_drop g buffer) in
      let drops : picked pick (drop g buffer) ≡ drop k (picked pick buffer) = sym (drop-length (picked pick (messages p)) (picked pick (drop g buffer))) ∙ ap (drop k) parts in
      world_is _ _ _ _
      (put_seen (see_core of pick) w.cores c (with_buffer (w.cores c) d (drop g buffer))
      ∙ ap (λ (f : ℕ → List N). put (λ i. see_core of pick (w.cores i)) c (view_of (of (w.cores c).body) (see_letters pick (w.cores c).inbox) f)) (put_seen (picked pick) (w.cores c).buffers d (drop g buffer) ∙ ap (put (λ e. picked pick ((w.cores c).buffers e)) d) drops))
      (rings_is w.transit c d (w.transit c d ++ p ∷ []) ∙ ap (λ ps. put (λ i j. map (see_packet messages pick) (w.transit i j)) c (put (λ j. map (see_packet messages pick) (w.transit c j)) d ps)) (map-append (see_packet messages pick) (w.transit c d) (p ∷ [])))

  pub see_taken : (w : World A M Q) (c from : ℕ) (ps : List Q) → see messages of pick (taken messages w c from ps) ≡ taken (λ (xs : List N). xs) (see messages of pick w) c from (map (see_packet messages pick) ps)
  see_taken w c from [] = refl
  see_taken w c from (p ∷ ps) = world_is _ _ _ _
      (put_seen (see_core of pick) w.cores c (with_inbox (w.cores c) ((w.cores c).inbox ++ letters from (messages p)))
      ∙ ap (λ i. put (λ i. see_core of pick (w.cores i)) c (view_of (of (w.cores c).body) i (λ d. picked pick ((w.cores c).buffers d)))) (letters-append pick (w.cores c).inbox (letters from (messages p)) ∙ ap (λ ls. see_letters pick (w.cores c).inbox ++ ls) (see_sent_letters pick from (messages p))))
      (rings_is w.transit from c ps)

-- An outcome, as a part sees it.
pub see_event : {A B M N Q E : Type 0} (messages : Q → List M) (of : A → B) (pick : M → Option N) (join : Joining M) (join_seen : Joining N) → IsSeenToJoin join join_seen pick
    → (w : World A M Q) (c : ℕ) (core : Core A M) (e : Outcome A M E) → see messages of pick (put_core w c (acted join c core (Some e))) ≡ put_core (see messages of pick w) c (acted {Mark = E} join_seen c (see_core of pick core) (Some (see_outcome of pick e)))
see_event {E = E} messages of pick join join_seen seen w c core e = see_put messages of pick w c (acted join c core (Some e)) ∙ ap (put_core (see messages of pick w) c) (see_acted of pick join join_seen seen E c core e)
