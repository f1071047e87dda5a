-- Chains of binary signs: what was read is spelled so, what is spelled is read, and enough turns are enough.
use Rattle.std.proofs.Common.{◌≡◌, ℕ, zero, suc, ◌+◌, ◌-◌, ◌<◌, ◌≤◌, List, [], ◌∷◌, ◌++◌, length, Option, Some, None, Ok, Err, refl, sym, ap, subst, ◌∙◌, append_assoc, arith}
use Rattle.std.proofs.lemmas.List.{append-nil, length-append}
use Rattle.gr_meets.specs.Parsers.{Outcome, Parser, and_then, ◌>>=◌, ◌>>◌, pure, skip, peek, next, spend, go_on, chain, level}
use Rattle.gr_meets.specs.LanguageWords.{Read, Meets, Completes, Agree, Shortens}
use Rattle.gr_meets.specs.Lists.{Chained, Spends}
use Rattle.gr_meets.proofs.Meets.{weaken, meets_pure, read_refuse, branch, peek-alike, Means, peek_means, skip_then, bind_also, took}
use Rattle.gr_meets.proofs.Agrees.{agree_bind, skip_same}

-- ---- one turn

module _ {T A O : Type 0} (sign : T → Option O) (two : O → A → A → A) (operand : ℕ → Parser T (A × ℕ)) where
  turn : ℕ → A × ℕ → O → Parser T (A × ℕ)
  turn n x o = spend x.1 (λ b. skip >> operand b >>= λ y. chain sign two operand n (two o x.0 y.0, y.1))

  pub chain_none : (n : ℕ) (x : A × ℕ) (ts : List T) → peek sign ts ≡ None → chain sign two operand n x ts ≡ Ok (x, ts)
  unfolding chain turn
  chain_none zero x ts h = refl
  chain_none (suc n) x ts h = ap (λ (o : Option O). go_on (pure x) (turn n x) o ts) h

  pub chain_full : (n : ℕ) (x : A) (k : ℕ) (o : O) (ts : List T) → peek sign ts ≡ Some o → k ≡ 0 → k < n → chain sign two operand n (x, k) ts ≡ Err (length ts)
  unfolding chain turn
  chain_full zero x k o ts h z lt = absurd (omega (arith, lt))
  chain_full (suc n) x zero o ts h z lt = ap (λ (q : Option O). go_on (pure (x, 0)) (turn n (x, 0)) q ts) h
  chain_full (suc n) x (suc k) o ts h z lt = absurd (omega (arith, z))

  pub chain_some : (n : ℕ) (x : A) (k : ℕ) (o : O) (ts : List T) → peek sign ts ≡ Some o → 0 < k → k < n
      → chain sign two operand n (x, k) ts ≡ and_then (operand (k - 1) (next ts)) (λ y. chain sign two operand (n - 1) (two o x y.0, y.1))
  unfolding chain turn
  chain_some zero x k o ts h z lt = absurd (omega (arith, lt))
  chain_some (suc n) x zero o ts h z lt = absurd (omega (arith, z))
  chain_some (suc n) x (suc k) o ts h z lt =
      let one : suc k - 1 ≡ k = omega arith in
      let less : suc n - 1 ≡ n = omega arith in
      ap (λ (q : Option O). go_on (pure (x, suc k)) (turn n (x, suc k)) q ts) h
      ∙ sym (ap (λ (q : ℕ). and_then (operand q (next ts)) (λ y. chain sign two operand (suc n - 1) (two o x y.0, y.1))) one ∙ ap (λ (q : ℕ). and_then (operand k (next ts)) (λ y. chain sign two operand q (two o x y.0, y.1))) less)

-- ---- what was read

module _ {T A O : Type 0} (sign : T → Option O) (two : O → A → A → A) (E : List T → A → ℕ → Type 0) where
  abbrev Whole : ℕ → List T → A × ℕ → Type 0
  Whole total ts x = Spends (Chained sign two E) total ts x

  -- What goes on after x.
  abbrev pub After : ℕ → A × ℕ → List T → A × ℕ → Type 0
  After total x b y = (a : List T) → Whole total a x → Whole total (a ++ b) y

  single : (b : ℕ) (ts : List T) (x : A × ℕ) → Spends E b ts x → Whole b ts x
  single b ts x h = record { signs = h.signs; spelled = Chained.one h.spelled; sum = h.sum }

  bare : (b : ℕ) (ts : List T) (x : A × ℕ) → Whole b ts x → Whole b (ts ++ []) x
  bare b ts x h = subst (λ (u : List T). Whole b u x) (sym (append-nil ts)) h

  paired : (total b : ℕ) (a c : List T) (x : A) (y : A × ℕ) (o : O) (t : T) → Whole total a (x, suc b) → sign t ≡ Some o → Spends E b c y → Whole total (a ++ t ∷ c) (two o x y.0, y.1)
  paired total b a c x y o t f h g = record { signs = suc (f.signs + g.signs); spelled = Chained.pair t f.spelled h g.spelled; sum = omega (arith, f.sum, g.sum) }

  moved : (total b : ℕ) (x : A) (y : A × ℕ) (o : O) (t : T) → sign t ≡ Some o → (u : List T) (z : A × ℕ) → After total (two o x y.0, y.1) u z
      → (c : List T) → Spends E b c y → After total (x, suc b) (t ∷ (c ++ u)) z
  moved total b x y o t h u z k c g a f = subst (λ (v : List T). Whole total v z) (append_assoc a (t ∷ c) u) (k (a ++ t ∷ c) (paired total b a c x y o t f h g))

  stays : (total b : ℕ) (x : A) (y : A × ℕ) (o : O) (t : T) → sign t ≡ Some o → (c : List T) → Spends E b c y → After total (x, suc b) (t ∷ (c ++ [])) (two o x y.0, y.1)
  stays total b x y o t h c g a f = subst (λ (v : List T). Whole total (a ++ t ∷ v) (two o x y.0, y.1)) (sym (append-nil c)) (paired total b a c x y o t f h g)

module _ {T A O : Type 0} (sign : T → Option O) (two : O → A → A → A) (operand : ℕ → Parser T (A × ℕ)) (E V : List T → A → ℕ → Type 0) (reads : (b : ℕ) → Meets (operand b) (Spends E b) (Spends V b))
    (also : (ts : List T) (x : A) (n : ℕ) → E ts x n → V ts x n) (total : ℕ) where
  abbrev K : A × ℕ → List T → A × ℕ → Type 0
  K x = After sign two E total x

  abbrev W : A × ℕ → List T → A × ℕ → Type 0
  W x = After sign two V total x

  spends_also : (b : ℕ) (ts : List T) (x : A × ℕ) → Spends E b ts x → Spends V b ts x
  spends_also b ts x h = record { signs = h.signs; spelled = also ts x.0 h.signs h.spelled; sum = h.sum }

  chain_read : (n : ℕ) (goes : (x : A × ℕ) → Meets (chain sign two operand n x) (K x) (W x)) (x : A × ℕ) (o : O) (ts : List T) → peek sign ts ≡ Some o
      → Read (turn sign two operand n x o) (K x) (W x) ts (turn sign two operand n x o ts)
  unfolding turn
  chain_read n goes (x, zero) o ts h = read_refuse (K (x, 0)) (W (x, 0)) ts [] (x, 0) (λ a f. bare sign two V total a (x, 0) f)
  chain_read n goes (x, suc b) o ts h =
      let m : Means sign o ts = peek_means sign o ts h in
      let q : A × ℕ → Parser T (A × ℕ) = λ y. chain sign two operand n (two o x y.0, y.1) in
      skip_then m.token (operand b >>= q) (K (x, suc b)) (W (x, suc b)) ts m.heads
      (bind_also {q = q} {K = λ u z. K (x, suc b) (m.token ∷ u) z} {W = λ u z. W (x, suc b) (m.token ∷ u) z} (reads b) (spends_also b)
      (λ y. weaken (goes (two o x y.0, y.1)) (λ u z k c g a f. moved sign two E total b x y o m.token m.means u z k c g a f) (λ u z k c g a f. moved sign two V total b x y o m.token m.means u z k c g a f))
      (λ c y g. ([], (two o x y.0, y.1), λ a f. stays sign two V total b x y o m.token m.means c g a f)))

  chain_way : (n : ℕ) (x : A × ℕ) → Option O → Parser T (A × ℕ)
  chain_way n x o = go_on (pure x) (turn sign two operand n x) o

  pub chain_all : (n : ℕ) (x : A × ℕ) → Meets (chain sign two operand n x) (K x) (W x)
  unfolding chain chain_way turn
  chain_all zero x = meets_pure {x = x} {L = K x} {W = W x} (λ a f. bare sign two E total a x f)
  chain_all (suc n) x = branch (peek sign) (peek-alike sign) (chain_way n x) (K x) (W x)
      (λ o. elim o as (λ (v : Option O). (ts : List T) → peek sign ts ≡ v → Read (chain_way n x v) (K x) (W x) ts (chain_way n x v ts)) [
        | None ↦ λ ts h. (meets_pure {x = x} {L = K x} {W = W x} (λ a f. bare sign two E total a x f)).at ts
        | Some op ↦ λ ts h. chain_read n (chain_all n) x op ts h
      ])

  pub level_all : Meets (level sign two operand total) (Spends (Chained sign two E) total) (Spends (Chained sign two V) total)
  unfolding level
  level_all = bind_also (reads total) (spends_also total)
      (λ x. weaken (chain_all (suc x.1) x) (λ c y h a f. h a (single sign two E total a x f)) (λ c y h a f. h a (single sign two V total a x f)))
      (λ a x h. ([], x, bare sign two V total a x (single sign two V total a x h)))

-- A level, where what an operand reads before a fault may be spelled in a larger language than what it takes.
pub level_also : {T A O : Type 0} {operand : ℕ → Parser T (A × ℕ)} {E V : List T → A → ℕ → Type 0} (sign : T → Option O) (two : O → A → A → A) → ((b : ℕ) → Meets (operand b) (Spends E b) (Spends V b)) → ((ts : List T) (x : A) (n : ℕ) → E ts x n → V ts x n)
    → (b : ℕ) → Meets (level sign two operand b) (Spends (Chained sign two E) b) (Spends (Chained sign two V) b)
level_also {operand} {E} {V} sign two reads also b = level_all sign two operand E V reads also b

-- A level.
pub level_meets : {T A O : Type 0} {operand : ℕ → Parser T (A × ℕ)} {E : List T → A → ℕ → Type 0} (sign : T → Option O) (two : O → A → A → A) → ((b : ℕ) → Meets (operand b) (Spends E b) (Spends E b))
    → (b : ℕ) → Meets (level sign two operand b) (Spends (Chained sign two E) b) (Spends (Chained sign two E) b)
level_meets {operand} {E} sign two reads b = level_all sign two operand E E reads (λ ts x n h. h) b

-- A chain behind x.
pub chain_meets : {T A O : Type 0} {operand : ℕ → Parser T (A × ℕ)} {E : List T → A → ℕ → Type 0} (sign : T → Option O) (two : O → A → A → A) → ((b : ℕ) → Meets (operand b) (Spends E b) (Spends E b))
    → (total n : ℕ) (x : A × ℕ) → Meets (chain sign two operand n x) (After sign two E total x) (After sign two E total x)
chain_meets {operand} {E} sign two reads total n x = chain_all sign two operand E E reads (λ ts x n h. h) total n x

-- No more signs are left than there were.
pub spends_less : {T A : Type 0} {P : Parser T (A × ℕ)} {E : List T → A → ℕ → Type 0} {W : List T → A × ℕ → Type 0} {b : ℕ} → Meets P (Spends E b) W → (ts : List T) (x : A × ℕ) (rest : List T) → P ts ≡ Ok (x, rest) → x.1 ≤ b
spends_less m ts x rest e = let s = (took m ts x rest e).spelled in omega (arith, s.sum)

-- ---- enough turns

module _ {T A O : Type 0} (sign : T → Option O) (two : O → A → A → A) (operand : ℕ → Parser T (A × ℕ)) (less : (b : ℕ) (ts : List T) (x : A × ℕ) (rest : List T) → operand b ts ≡ Ok (x, rest) → x.1 ≤ b) where
  abbrev Same : ℕ → ℕ → Type 0
  Same n m = (x : A × ℕ) (ts : List T) → x.1 < n → x.1 < m → chain sign two operand n x ts ≡ chain sign two operand m x ts

  after_operand : (n m b : ℕ) (x : A) (o : O) (ts : List T) → Same n m → b < n → b < m → (r : Outcome T (A × ℕ)) → operand b ts ≡ r
      → and_then r (λ y. chain sign two operand n (two o x y.0, y.1)) ≡ and_then r (λ y. chain sign two operand m (two o x y.0, y.1))
  after_operand n m b x o ts same h k (Err q) is = refl
  after_operand n m b x o ts same h k (Ok p) is = let fewer : p.0.1 ≤ b = less b ts p.0 p.1 is in same (two o x p.0.0, p.0.1) p.1 (omega arith) (omega arith)

  turn_same : (n m : ℕ) (x : A × ℕ) (ts : List T) → Same n m → x.1 < suc n → x.1 < suc m → (o : Option O)
      → go_on (pure x) (turn sign two operand n x) o ts ≡ go_on (pure x) (turn sign two operand m x) o ts
  unfolding turn
  turn_same n m x ts same h k None = refl
  turn_same n m (x, zero) ts same h k (Some o) = refl
  turn_same n m (x, suc b) ts same h k (Some o) = after_operand n m b x o (next ts) same (omega arith) (omega arith) (operand b (next ts)) refl

  -- As many turns as signs and one more are enough.
  pub chain_turns : (n m : ℕ) → Same n m
  unfolding chain turn
  chain_turns zero m x ts h k = absurd (omega (arith, h))
  chain_turns (suc n) zero x ts h k = absurd (omega (arith, k))
  chain_turns (suc n) (suc m) x ts h k = turn_same n m x ts (chain_turns n m) h k (peek sign ts)

-- ---- what is spelled

module _ {T A O : Type 0} (n : ℕ) (sign : T → Option O) (two : O → A → A → A) (operand : ℕ → Parser T (A × ℕ)) (E : List T → A → ℕ → Type 0) (F : List T → Type 0)
    (less : (b : ℕ) (ts : List T) (x : A × ℕ) (rest : List T) → operand b ts ≡ Ok (x, rest) → x.1 ≤ b) (c : (b : ℕ) → Completes n (operand b) (Spends E b) F) (follow : (t : T) (o : O) (rest : List T) → sign t ≡ Some o → F (t ∷ rest)) where
  first_reads : (b : ℕ) (ts : List T) (x : A × ℕ) (rest : List T) → operand b ts ≡ Ok (x, rest) → level sign two operand b ts ≡ chain sign two operand (suc x.1) x rest
  unfolding level
  first_reads b ts x rest h = ap (λ (o : Outcome T (A × ℕ)). and_then o (λ y. chain sign two operand (suc y.1) y)) h

  chain_goes : (m b : ℕ) (x : A) (o : O) (t : T) (rest : List T) → sign t ≡ Some o → chain sign two operand (suc m) (x, suc b) (t ∷ rest) ≡ and_then (operand b rest) (λ y. chain sign two operand m (two o x y.0, y.1))
  unfolding chain next peek
  chain_goes m b x o t rest h = ap (λ (q : Option O). go_on (pure (x, suc b)) (λ o. spend (suc b) (λ b. skip >> operand b >>= λ y. chain sign two operand m (two o x y.0, y.1))) q (t ∷ rest)) h

  chained_reads : {ts : List T} {x : A} {s : ℕ} → Chained sign two E ts x s → (b k : ℕ) (rest : List T) → s + k ≡ b → F rest → length (ts ++ rest) < n → level sign two operand b (ts ++ rest) ≡ chain sign two operand (suc k) (x, k) rest
  chained_reads (Chained.one {inside = ts} {inner = x} {count = s} h) b k rest sum f few = first_reads b (ts ++ rest) (x, k) rest ((c b).reads ts (x, k) (record { signs = s; spelled = h; sum = sum }) rest f few)
  chained_reads (Chained.pair {front = a} {back = d} {left = x} {right = y} {count = i} {more = j} {op = o} t p q r) b k rest sum f few =
      let cut : (a ++ t ∷ d) ++ rest ≡ a ++ (t ∷ (d ++ rest)) = append_assoc a (t ∷ d) rest in
      let fewer : length (a ++ (t ∷ (d ++ rest))) < n = subst (λ (u : List T). length u < n) cut few in
      let size : length (a ++ (t ∷ (d ++ rest))) ≡ length a + suc (length (d ++ rest)) = length-append a (t ∷ (d ++ rest)) in
      let first = chained_reads p b (suc (j + k)) (t ∷ (d ++ rest)) (omega (arith, sum)) (follow t o (d ++ rest) q) fewer in
      let second = (c (j + k)).reads d (y, k) (record { signs = j; spelled = r; sum = refl }) rest f (omega (arith, fewer, size)) in
      ap (level sign two operand b) cut
      ∙ first
      ∙ chain_goes (suc (j + k)) (j + k) x o t (d ++ rest) q
      ∙ ap (λ (w : Outcome T (A × ℕ)). and_then w (λ z. chain sign two operand (suc (j + k)) (two o x z.0, z.1))) second
      ∙ chain_turns sign two operand less (suc (j + k)) (suc k) (two o x y, k) rest (omega arith) (omega arith)

  level_reads : (b : ℕ) (ts : List T) (x : A × ℕ) → Spends (Chained sign two E) b ts x → (rest : List T) → F rest → peek sign rest ≡ None → length (ts ++ rest) < n → level sign two operand b (ts ++ rest) ≡ Ok (x, rest)
  level_reads b ts x h rest f no_more few = chained_reads h.spelled b x.1 rest h.sum f few ∙ chain_none sign two operand (suc x.1) x rest no_more

-- A level is read, in front of what may follow an operand and is no sign of this level. follow: a sign of this level may follow an operand.
pub level_completes : {T A O : Type 0} {n : ℕ} {operand : ℕ → Parser T (A × ℕ)} {E : List T → A → ℕ → Type 0} {W : ℕ → List T → A × ℕ → Type 0} {F : List T → Type 0} (sign : T → Option O) (two : O → A → A → A)
    → ((b : ℕ) → Meets (operand b) (Spends E b) (W b)) → ((b : ℕ) → Completes n (operand b) (Spends E b) F) → ((t : T) (o : O) (rest : List T) → sign t ≡ Some o → F (t ∷ rest))
    → (b : ℕ) → Completes n (level sign two operand b) (Spends (Chained sign two E) b) (λ rest. F rest × peek sign rest ≡ None)
level_completes {n} {operand} {E} {W} {F} sign two m c follow b = record {
  reads = λ ts x h rest f few. level_reads n sign two operand E F (λ d us y r e. spends_less (m d) us y r e) c follow b ts x h rest f.0 f.1 few;
}

-- ---- operands that differ in the bound of their turns alone

module _ {T A O : Type 0} (n m : ℕ) (sign : T → Option O) (two : O → A → A → A) (p q : ℕ → Parser T (A × ℕ)) (same : (b : ℕ) → Agree n m (p b) (q b)) (s : (b : ℕ) → Shortens (p b)) where
  turn_agree : (i : ℕ) → ((x : A × ℕ) → Agree n m (chain sign two p i x) (chain sign two q i x)) → (x : A × ℕ) (ts : List T) → length ts < n → length ts < m → (o : Option O)
      → go_on (pure x) (turn sign two p i x) o ts ≡ go_on (pure x) (turn sign two q i x) o ts
  unfolding turn
  turn_agree i go x ts h k None = refl
  turn_agree i go (x, zero) ts h k (Some o) = refl
  turn_agree i go (x, suc b) ts h k (Some o) = skip_same (agree_bind {q = λ y. chain sign two p i (two o x y.0, y.1)} {q' = λ y. chain sign two q i (two o x y.0, y.1)} (same b) (s b) (λ y. go (two o x y.0, y.1))) ts h k

  pub chain_agree : (i : ℕ) (x : A × ℕ) → Agree n m (chain sign two p i x) (chain sign two q i x)
  unfolding chain turn
  chain_agree zero x = record { same = λ ts h k. refl }
  chain_agree (suc i) x = record { same = λ ts h k. turn_agree i (chain_agree i) x ts h k (peek sign ts) }

  level_all_agree : (b : ℕ) → Agree n m (level sign two p b) (level sign two q b)
  unfolding level
  level_all_agree b = agree_bind (same b) (s b) (λ x. chain_agree (suc x.1) x)

pub level_agree : {T A O : Type 0} {n m : ℕ} {p q : ℕ → Parser T (A × ℕ)} (sign : T → Option O) (two : O → A → A → A) → ((b : ℕ) → Agree n m (p b) (q b)) → ((b : ℕ) → Shortens (p b)) → (b : ℕ) → Agree n m (level sign two p b) (level sign two q b)
level_agree {n} {m} {p} {q} sign two same s b = level_all_agree n m sign two p q same s b
