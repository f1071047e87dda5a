-- The objects and tasks of a program that a text is read as have names of the language, and none of the objects is named `heap`.
use Rattle.std.proofs.Common.{◌≡◌, ℕ, ◌-◌, Bool, true, false, List, [], ◌∷◌, ◌++◌, length, length-append, drop, All, map, refl, sym, ap, subst, ◌∙◌, arith, codes, Ok}
use Rattle.std.specs.Prelude.{slice_range}
use Rattle.std.specs.Str.{bytes_eq}
use Rattle.std.proofs.lemmas.List.{length-drop, length-take-le}
use Rattle.std.proofs.lemmas.List.Elements.{All-nil, All-cons, All-head, All-tail}
use Rattle.std.proofs.lemmas.Slice.Eq.{bytes_eq-Decides}
use Rattle.gr_meets.specs.Lists.{Repeated}
use Rattle.gr_syntax.specs.declared.syntax.Item.{Item}
use Rattle.gr_syntax.specs.declared.syntax.Place.{Place}
use Rattle.gr_syntax.specs.declared.syntax.Program.{Program}
use Rattle.gr_accept.specs.Accepted.{IsAccepted}
use Rattle.gr_syntax.specs.Names.{has, is_name}
use Rattle.gr_syntax.specs.Items.{TaskText, object_names, tasks_of}
use Rattle.gr_text.specs.Text.{Fits, IsToken, IsTokenOf, AreTokens, Reads, token_at}
use Rattle.gr_text.specs.declared.token.Keyword.{Keyword}
use Rattle.gr_text.specs.declared.token.Keyword.TheVariants as k
use Rattle.gr_text.specs.declared.token.Token.{Token}
use Rattle.gr_text.specs.declared.token.TokenKind.{TokenKind}
use Rattle.gr_text.specs.declared.token.TokenKind.TheVariants as kind
use Rattle.gr_text.proofs.Named.{named_token}
use Rattle.gr_text.proofs.Well.{well}
use Rattle.gr_expressions.specs.Tok.{Tok, tok_of, tok_of_kind, tok_of_word, toks, Toks}
use Rattle.gr_parse.specs.Grammar.{IsItem, IsProgramOf}
use Rattle.gr_parse.proofs.Whole.{Cut, cut}
use Rattle.gr_hist.specs.Naming.{IsNamed}
use Rattle.gr_runnable.specs.Runnable.{IsRunnable}
use Rattle.gr_runnable.specs.Laws.{TextsAreRunnable}
use Rattle.gr_top.specs.Readings.{ReadsAs}
use Rattle.gr_top.specs.Due.{Reading, accepted}

-- ---- tokens

abbrev IsNaming : Tok → Type 0
IsNaming (Tok.name n) = is_name n.text ≡ true
IsNaming _ = Unit {0}

abbrev AreNaming : Toks → Type 0
AreNaming [] = Unit {0}
AreNaming (t ∷ ts) = IsNaming t × AreNaming ts

front_naming : (ts us : Toks) → AreNaming (ts ++ us) → AreNaming ts
front_naming [] us h = tt
front_naming (t ∷ ts) us h = (h.0, front_naming ts us h.1)

back_naming : (ts us : Toks) → AreNaming (ts ++ us) → AreNaming us
back_naming [] us h = h
back_naming (t ∷ ts) us h = back_naming ts us h.1

word_naming : (at : Place) (word : Keyword) → IsNaming (tok_of_word at word)
word_naming at k.Heap = tt
word_naming at _ = tt

kind_naming : (bytes : List ℕ) (at : Place) (kind : TokenKind) → IsToken kind bytes → Fits kind (length bytes) → IsNaming (tok_of_kind bytes at kind)
kind_naming bytes at kind.Name token fits = named_token bytes token fits
kind_naming bytes at (kind.Number n) token fits = tt
kind_naming bytes at (kind.Keyword word) token fits = word_naming at word
kind_naming bytes at (kind.Sign sign) token fits = tt
kind_naming bytes at kind.End token fits = tt

token_naming : (text : List ℕ) (t : Token) → IsTokenOf text t → IsNaming (tok_of text t)
token_naming text t h =
    let long : length (slice_range text t.from t.to) ≡ t.to - t.from =
    length-take-le (t.to - t.from) (drop t.from text) (omega (arith, h.within, length-drop t.from text)) in
    kind_naming (slice_range text t.from t.to) t.at t.kind h.token (subst (Fits t.kind) (sym long) h.fits)

tokens_naming : (text : List ℕ) (ts : List Token) → All (IsTokenOf text) ts → AreNaming (toks text ts)
unfolding toks
tokens_naming text [] h = tt
tokens_naming text (t ∷ ts) h = (token_naming text t (All-head (IsTokenOf text) t ts h), tokens_naming text ts (All-tail (IsTokenOf text) t ts h))

-- ---- items

abbrev IsNameOf : List ℕ → Type 0
IsNameOf name = is_name name ≡ true

abbrev ObjectNames : List Item → Type 0
ObjectNames items = All IsNameOf (object_names items)

abbrev TaskNames : List Item → Type 0
TaskNames items = All IsNameOf (map (λ (t : TaskText). t.name) (tasks_of items))

-- An item that its tokens name well, before others.
item_named : (ts : Toks) (item : Item) (more : List Item) → IsItem ts item → AreNaming ts → ObjectNames more → TaskNames more → ObjectNames (item ∷ more) × TaskNames (item ∷ more)
item_named _ _ more (IsItem.array {name = n} {size = w}) h objects tasks = (All-cons IsNameOf n.text (object_names more) h.1.0 objects, tasks)
item_named _ _ more (IsItem.set {name = n}) h objects tasks = (All-cons IsNameOf n.text (object_names more) h.1.0 objects, tasks)
item_named _ _ more (IsItem.map {name = n}) h objects tasks = (All-cons IsNameOf n.text (object_names more) h.1.0 objects, tasks)
item_named _ _ more (IsItem.vector {name = n}) h objects tasks = (All-cons IsNameOf n.text (object_names more) h.1.0 objects, tasks)
item_named _ _ more IsItem.heap h objects tasks = (objects, tasks)
item_named _ _ more IsItem.show h objects tasks = (objects, tasks)
item_named _ _ more (IsItem.input numbers) h objects tasks = (objects, tasks)
item_named _ _ more (IsItem.task {name = n} params body) h objects tasks = (objects, All-cons IsNameOf n.text (map (λ (t : TaskText). t.name) (tasks_of more)) h.1.0 tasks)

items_named : (ts : Toks) (items : List Item) → Repeated IsItem ts items → AreNaming ts → ObjectNames items × TaskNames items
items_named _ _ Repeated.none h = (All-nil IsNameOf, All-nil IsNameOf)
items_named _ _ (Repeated.one_more {front = ts} {back = us} {first = x} {others = xs} one rest) h =
    let m = items_named us xs rest (back_naming ts us h) in
    item_named ts x xs one (front_naming ts us h) m.0 m.1

-- ---- programs

program_named : (text : List ℕ) (tokens : List Token) (p : Program) → Reads text (Ok tokens) → IsProgramOf text tokens p → IsNamed p
program_named text tokens p reads of =
    let are : AreTokens text tokens = well text tokens reads in
    let naming : AreNaming (toks text of.front) = tokens_naming text of.front (same (cut of.front of.end are.front (token_at text kind.End (length text) 0) [] (sym of.parts ∙ are.parts)) are.tokens_of) in
    let m = items_named (toks text of.front) p.items of.spelled naming in
    record { objects = m.0; tasks = m.1 }
  where
    same : {end other : Token} {a : List Token} → Cut of.front end a other [] → All (IsTokenOf text) a → All (IsTokenOf text) of.front
    same (Cut.at_end e f g) h = subst (All (IsTokenOf text)) (sym e) h
    same {end} (Cut.inside b e g) h = absurd (omega (arith, ap length g, length-append b (end ∷ [])))

pub accepted_named : (text : List ℕ) (p : Program) → ReadsAs text (accepted p) → IsNamed p
accepted_named text p h = by (accepted p) h refl
  where
    by : (r : Reading) → ReadsAs text r → r ≡ accepted p → IsNamed p
    by _ (ReadsAs.program {tokens} {p = q} reads of a) e = let same : q ≡ p = cc in subst IsNamed same (program_named text tokens q reads of)
    by _ _ e = cc

pub accepted_is : (text : List ℕ) (p : Program) → ReadsAs text (accepted p) → IsAccepted p
accepted_is text p h = by (accepted p) h refl
  where
    by : (r : Reading) → ReadsAs text r → r ≡ accepted p → IsAccepted p
    by _ (ReadsAs.program {p = q} reads of a) e = let same : q ≡ p = cc in subst IsAccepted same a
    by _ _ e = cc

-- It can be run.
pub accepted_runnable : TextsAreRunnable → (text : List ℕ) (p : Program) → ReadsAs text (accepted p) → IsRunnable p
accepted_runnable law text p h = by (accepted p) h refl
  where
    by : (r : Reading) → ReadsAs text r → r ≡ accepted p → IsRunnable p
    by _ (ReadsAs.program {tokens} {p = q} reads of a) e = let same : q ≡ p = cc in subst IsRunnable same (law text tokens q reads of a)
    by _ _ e = cc

-- The keyword `heap` is no name.
heap_other : (names : List (List ℕ)) → All IsNameOf names → has names (codes "heap") ≡ false
heap_other [] h = refl
heap_other (n ∷ ns) h = by (bytes_eq (codes "heap") n) refl (heap_other ns (All-tail IsNameOf n ns h))
  where
    by : (b : Bool) → bytes_eq (codes "heap") n ≡ b → has ns (codes "heap") ≡ false → has (n ∷ ns) (codes "heap") ≡ false
    by true e rest =
        let same : codes "heap" ≡ n = (bytes_eq-Decides (codes "heap") n).0 e in
        let name : false ≡ true = ap is_name same ∙ All-head IsNameOf n ns h in cc
    by false e rest = rw e rest

pub no_heap : (p : Program) → IsNamed p → has (object_names p.items) (codes "heap") ≡ false
no_heap p h = heap_other (object_names p.items) h.objects
