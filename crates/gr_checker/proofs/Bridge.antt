-- What the first pass keeps stands for the items before.
use Rattle.std.proofs.Common.{codes, ◌≡◌, ℕ, ◌+◌, ◌-◌, ◌^◌, ◌<◌, ◌==◌, min, Bool, true, false, not, ◌&&◌, ◌||◌, nat_le, nat_lt, if◌then◌else◌, is_some, List, [], ◌∷◌, ◌++◌, length, Option, Some, None, refl, sym, ap, subst, ◌∙◌, arith}
use Rattle.std.specs.Option.{option_or}
use Rattle.std.specs.Str.{bytes_eq}
use Rattle.std.proofs.lemmas.Bool.Decides.{nat_tests}
use Rattle.std.proofs.lemmas.List.Folds.{list_any-append}
use Rattle.std.proofs.lemmas.Slice.Eq.{bytes_eq-Decides}
use Rattle.gr_syntax.specs.declared.limits.TheConstants.{MAX_OBJECTS, MAX_TASKS, MAX_WORDS}
use Rattle.gr_syntax.specs.declared.syntax.Item.{Item}
use Rattle.gr_syntax.specs.declared.syntax.Item.TheVariants as i
use Rattle.gr_syntax.specs.declared.syntax.Place.{Place}
use Rattle.gr_syntax.specs.declared.syntax.Program.{Program}
use Rattle.gr_syntax.specs.declared.refusal.Kind.{Kind}
use Rattle.gr_syntax.specs.declared.refusal.Kind.TheVariants as k
use Rattle.gr_syntax.specs.declared.refusal.Fault.{Fault}
use Rattle.gr_syntax.specs.Faults.{when}
use Rattle.gr_syntax.specs.Names.{has, with_name}
use Rattle.gr_accept.specs.declared.operation.Declared.{Declared}
use Rattle.gr_accept.specs.declared.operation.Declared.TheVariants as t
use Rattle.gr_accept.specs.Accepted.{faults, sites, uses_sites, head_sites, heads_sites}
use Rattle.gr_accept.specs.Conditions.{faults_at, has_main, objects_in, tasks_in, words_in, inputs_in}
use Rattle.gr_accept.specs.Declarations.{Meaning, first_named, first_of, declaration}
use Rattle.gr_accept.specs.Sites.{ends}
use Rattle.gr_checker.specs.EarliestWords.{least, seen}
use Rattle.gr_checker.specs.HeadsView.{Kept, all_declared, exceeds, item_declared, none, saturated}
use Rattle.gr_checker.specs.MeaningView.{with_meaning}
use Rattle.gr_checker.proofs.Leasts.{least-append, seen-append, seen-least}

-- Each name means the first declared of that name.

or-None : (o : Option Declared) → o ≡ option_or o None
or-None None = refl
or-None (Some a) = refl

or-next : (o rest : Option Declared) (b : Bool) (v : Declared) → option_or (option_or o (if b then Some v else None)) rest ≡ option_or o (if b then Some v else rest)
or-next None rest true v = refl
or-next None rest false v = refl
or-next (Some a) rest b v = refl

pub means : (items : List Item) (h : Kept) (q : List ℕ) → (all_declared items h).meaning q ≡ option_or (h.meaning q) (first_named items q)
means [] h q = or-None (h.meaning q)
means (item ∷ more) h q = means more (item_declared item h) q ∙ step item
  where
    given : (n : List ℕ) (v : Declared) → option_or (with_meaning h.meaning n v q) (first_named more q) ≡ option_or (h.meaning q) (if bytes_eq q n then Some v else first_named more q)
    given n v = or-next (h.meaning q) (first_named more q) (bytes_eq q n) v

    step : (item : Item) → option_or ((item_declared item h).meaning q) (first_named more q) ≡ option_or (h.meaning q) (first_of (declaration item) q (first_named more q))
    step (i.Array name words) = given name.text (t.Array words.value)
    step (i.Set name) = given name.text t.Set
    step (i.Map name) = given name.text t.Map
    step (i.Vector name) = given name.text t.Vector
    step (i.Heap words) = given _ t.Heap
    step (i.Show name) = refl
    step (i.Input name values) = refl
    step (i.Task name params body) = given name.text (t.Task (length params))

-- The greatest word, at which counts and sums stop.
abbrev top : ℕ
top = 2 ^ 64 - 1

pub record Stands (earlier : List Item) (h : Kept) : Type 0 where
  pub names : (q : List ℕ) → is_some (h.meaning q) ≡ is_some (first_named earlier q)
  pub inputs : (q : List ℕ) → has h.inputs q ≡ has (inputs_in earlier) q
  pub objects : h.objects ≡ min (objects_in earlier) top
  pub tasks : h.tasks ≡ min (tasks_in earlier) top
  pub words : h.words ≡ min (words_in earlier) top

name-step : (o p : Option Declared) (b : Bool) (v : Declared) → is_some o ≡ is_some p → is_some (option_or o (if b then Some v else None)) ≡ is_some (if b then Some v else p)
name-step None p true v h = refl
name-step None p false v h = h
name-step (Some a) p true v h = refl
name-step (Some a) p false v h = h

input-step : (ns ms : List (List ℕ)) (n q : List ℕ) → ((r : List ℕ) → has ns r ≡ has ms r) → has (with_name ns n) q ≡ has (n ∷ ms) q
input-step ns ms n q h = by (has ns n) refl
  where
    there : (b : Bool) → bytes_eq q n ≡ b → has ns n ≡ true → has ns q ≡ (b || has ms q)
    there false e k = h q
    there true e k = subst (λ x. has ns x ≡ true) (sym ((bytes_eq-Decides q n).0 e)) k

    swap : (a b : Bool) → (a || (b || false)) ≡ (b || a)
    swap true true = refl
    swap true false = refl
    swap false true = refl
    swap false false = refl

    by : (b : Bool) → has ns n ≡ b → has (if has ns n then ns else ns ++ n ∷ []) q ≡ (bytes_eq q n || has ms q)
    by true e = rw e (there (bytes_eq q n) refl e)
    by false e = rw e (list_any-append (bytes_eq q) ns (n ∷ []) ∙ swap (has ns q) (bytes_eq q n) ∙ ap (λ b. bytes_eq q n || b) (h q))

-- A count or a sum that stopped tells whether it is at its limit, or past it.

more-below : (most sum more : ℕ) → min (min sum most + more) most ≡ min (sum + more) most
more-below most sum more = omega arith

at_limit : (limit most sum : ℕ) → limit < most → (min sum most == limit) ≡ (sum == limit)
at_limit limit most sum h = grind (arith, nat_tests)

past_limit : (limit most sum more : ℕ) → limit < most → (nat_le (min sum most) limit && nat_lt limit (min (min sum most + more) most)) ≡ (nat_le sum limit && nat_lt limit (sum + more))
past_limit limit most sum more h = grind (arith, nat_tests)

-- Notes one after the other.

nil : (f : Option Fault) (a b : Bool) (j : Kind) (p : Place) → a ≡ b → least f (when a j p) ≡ least f (when b j p ++ [])
nil f a b j p e = rw e (sym (least-append f (when b j p) []))

two : (f : Option Fault) (a b c d : Bool) (j k : Kind) (p q : Place) → a ≡ c → b ≡ d
    → least (least f (when a j p)) (when b k q) ≡ least (least f (when c j p ++ [])) (when d k q ++ [])
two f a b c d j k p q e g = ap (λ x. least x (when b k q)) (nil f a c j p e) ∙ nil (least f (when c j p ++ [])) b d k q g

three : (f : Option Fault) (a b c a2 b2 c2 : Bool) (j k l : Kind) (p q r : Place) → a ≡ a2 → b ≡ b2 → c ≡ c2
    → least (least (least f (when a j p)) (when b k q)) (when c l r) ≡ least (least (least f (when a2 j p ++ [])) (when b2 k q ++ [])) (when c2 l r ++ [])
three f a b c a2 b2 c2 j k l p q r e g h = ap (λ x. least x (when c l r)) (two f a b a2 b2 j k p q e g) ∙ nil (least (least f (when a2 j p ++ [])) (when b2 k q ++ [])) c c2 l r h

module _ (earlier : List Item) (h : Kept) (s : Stands earlier h) where
  many : (h.objects == MAX_OBJECTS) ≡ (objects_in earlier == MAX_OBJECTS)
  many = rw s.objects (at_limit MAX_OBJECTS top (objects_in earlier) (omega arith))

  many_tasks : (h.tasks == MAX_TASKS) ≡ (tasks_in earlier == MAX_TASKS)
  many_tasks = rw s.tasks (at_limit MAX_TASKS top (tasks_in earlier) (omega arith))

  is_large : (m : ℕ) → exceeds h m ≡ (nat_le (words_in earlier) MAX_WORDS && nat_lt MAX_WORDS (words_in earlier + m))
  is_large m = rw s.words (past_limit MAX_WORDS top (words_in earlier) m (omega arith))

  more_objects : saturated h.objects 1 ≡ min (objects_in earlier + 1) top
  more_objects = rw s.objects (more-below top (objects_in earlier) 1)

  more_tasks : saturated h.tasks 1 ≡ min (tasks_in earlier + 1) top
  more_tasks = rw s.tasks (more-below top (tasks_in earlier) 1)

  more_words : (m : ℕ) → saturated h.words m ≡ min (words_in earlier + m) top
  more_words m = rw s.words (more-below top (words_in earlier) m)

  more_names : (n : List ℕ) (v : Declared) (q : List ℕ) → is_some (with_meaning h.meaning n v q) ≡ is_some (if bytes_eq q n then Some v else first_named earlier q)
  more_names n v q = name-step (h.meaning q) (first_named earlier q) (bytes_eq q n) v (s.names q)

  pub step-found : (m : Meaning) (item : Item) → (item_declared item h).found ≡ seen m h.found (head_sites earlier item)
  unfolding faults_at
  step-found m (i.Array name words) = three h.found _ _ _ _ _ _ k.HeapTooLarge k.TooMany k.Duplicate words.at name.at name.at (is_large words.value) many (s.names name.text)
  step-found m (i.Set name) = two h.found _ _ _ _ k.TooMany k.Duplicate name.at name.at many (s.names name.text)
  step-found m (i.Map name) = two h.found _ _ _ _ k.TooMany k.Duplicate name.at name.at many (s.names name.text)
  step-found m (i.Vector name) = two h.found _ _ _ _ k.TooMany k.Duplicate name.at name.at many (s.names name.text)
  step-found m (i.Heap words) = two h.found _ _ _ _ k.HeapTooLarge k.Duplicate words.at words.at (is_large words.value) (s.names (codes "heap"))
  step-found m (i.Show name) = refl
  step-found m (i.Input name values) = nil h.found _ _ k.Duplicate name.at (s.inputs name.text)
  step-found m (i.Task name params body) = two h.found _ _ _ _ k.TooMany k.Duplicate name.at name.at many_tasks (s.names name.text)

  pub step-stands : (item : Item) → Stands (item ∷ earlier) (item_declared item h)
  step-stands (i.Array name words) = record { names = more_names name.text (t.Array words.value); inputs = s.inputs; objects = more_objects; tasks = s.tasks; words = more_words words.value }
  step-stands (i.Set name) = record { names = more_names name.text t.Set; inputs = s.inputs; objects = more_objects; tasks = s.tasks; words = s.words }
  step-stands (i.Map name) = record { names = more_names name.text t.Map; inputs = s.inputs; objects = more_objects; tasks = s.tasks; words = s.words }
  step-stands (i.Vector name) = record { names = more_names name.text t.Vector; inputs = s.inputs; objects = more_objects; tasks = s.tasks; words = s.words }
  step-stands (i.Heap words) = record { names = more_names (codes "heap") t.Heap; inputs = s.inputs; objects = s.objects; tasks = s.tasks; words = more_words words.value }
  step-stands (i.Show name) = record { names = s.names; inputs = s.inputs; objects = s.objects; tasks = s.tasks; words = s.words }
  step-stands (i.Input name values) = record { names = s.names; inputs = λ q. input-step h.inputs (inputs_in earlier) name.text q s.inputs; objects = s.objects; tasks = s.tasks; words = s.words }
  step-stands (i.Task name params body) = record { names = more_names name.text (t.Task (length params)); inputs = s.inputs; objects = s.objects; tasks = more_tasks; words = s.words }

pub bridge : (m : Meaning) (items earlier : List Item) (h : Kept) → Stands earlier h → (all_declared items h).found ≡ seen m h.found (heads_sites earlier items)
bridge m [] earlier h s = refl
bridge m (item ∷ more) earlier h s =
    bridge m more (item ∷ earlier) (item_declared item h) (step-stands earlier h s item)
    ∙ ap (λ f. seen m f (heads_sites (item ∷ earlier) more)) (step-found earlier h s m item)
    ∙ sym (seen-append m h.found (head_sites earlier item) (heads_sites (item ∷ earlier) more))

opens : Stands [] none
opens = record { names = λ q. refl; inputs = λ q. refl; objects = refl; tasks = refl; words = refl }

meaning : (items : List Item) → (all_declared items none).meaning ≡ first_named items
meaning items = λ j q. means items none q j

-- Both passes and the end.
pub whole : (p : Program) → least (seen (all_declared p.items none).meaning (all_declared p.items none).found (uses_sites p.items)) (when (not (has_main p.items)) k.NoMain p.end) ≡ least None (faults p)
unfolding faults_at
whole p =
    let m = first_named p.items in
    let heads = heads_sites [] p.items in
    let uses = uses_sites p.items in
    let main = when (not (has_main p.items)) k.NoMain p.end in
    let declared = all_declared p.items none in
    ap (λ f. least (seen declared.meaning f uses) main) (bridge declared.meaning p.items [] none opens)
    ∙ ap (λ n. least (seen n (seen n None heads) uses) main) (meaning p.items)
    ∙ nil (seen m (seen m None heads) uses) (not (has_main p.items)) (not (has_main p.items)) k.NoMain p.end refl
    ∙ sym (seen-append m None heads (uses ++ ends p.end p.items ∷ []) ∙ seen-append m (seen m None heads) uses (ends p.end p.items ∷ []))
    ∙ seen-least m None (sites p)
