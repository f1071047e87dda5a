-- Facts of each keyword.
use Rattle.std.proofs.Common.{◌≡◌, ◌≢◌, ℕ, ◌+◌, ◌<◌, ◌≤◌, ◌*◌, Bool, true, false, List, [], ◌∷◌, length, nat_le, get_or, Option, Some, None, zero, suc, inl, inr, refl, sym, ap, ◌∙◌, arith, lit<}
use Rattle.std.specs.Prelude.{◌⊎◌, ◌==◌, if◌then◌else◌}
use Rattle.std.specs.Str.{bytes_eq}
use Rattle.std.proofs.lemmas.Slice.Eq.{bytes_eq-Decides}
use Rattle.gr_text.specs.declared.token.Keyword.{Keyword}
use Rattle.gr_text.specs.declared.token.Keyword.TheVariants.{Array, Set, Map, Vector, Heap, Input, Show, Task, Let, If, Else, While, Print, Spawn, At, Offer, Finish, Forall, Grain}
use Rattle.gr_text.specs.Spelling.{keyword_bytes}
use Rattle.std.specs.List.{list_all}
use Rattle.std.proofs.lemmas.Bool.{leb-true}
use Rattle.std.proofs.lemmas.List.Folds.{list_all_at}
use Rattle.gr_syntax.specs.declared.limits.TheConstants.{MAX_NAME}
use Rattle.gr_syntax.specs.Names.{is_letter, is_word}
use Rattle.gr_text.specs.Text.{Text}

-- The place of a keyword in the list of all.
abbrev pub rank : Keyword → ℕ
rank Array = 0
rank Set = 1
rank Map = 2
rank Vector = 3
rank Heap = 4
rank Input = 5
rank Show = 6
rank Task = 7
rank Let = 8
rank If = 9
rank Else = 10
rank While = 11
rank Print = 12
rank Spawn = 13
rank At = 14
rank Offer = 15
rank Finish = 16
rank Forall = 17
rank Grain = 18

-- All keywords, each at its rank.
abbrev pub all : List Keyword
all = Array ∷ Set ∷ Map ∷ Vector ∷ Heap ∷ Input ∷ Show ∷ Task ∷ Let ∷ If ∷ Else ∷ While ∷ Print ∷ Spawn ∷ At ∷ Offer ∷ Finish ∷ Forall ∷ Grain ∷ []

-- The bytes as one number, which tells the keywords apart.
abbrev packed : Text → ℕ
packed [] = 0
packed (b ∷ bytes) = b + 256 * packed bytes

abbrev unpacked : ℕ → Option Keyword
unpacked n = if n == 521325933153 then Some Array else (if n == 7628147 then Some Set else (if n == 7364973 then Some Map else (if n == 125823019607414 then Some Vector else (if n == 1885431144 then Some Heap else (if n == 500186508905 then Some Input else (if n == 2003789939 then Some Show else (if n == 1802723700 then Some Task else (if n == 7628140 then Some Let else (if n == 26217 then Some If else (if n == 1702063205 then Some Else else (if n == 435610544247 then Some While else (if n == 500068610672 then Some Print else (if n == 474449277043 then Some Spawn else (if n == 29793 then Some At else (if n == 491327481455 then Some Offer else (if n == 114844899371366 then Some Finish else (if n == 119212747157350 then Some Forall else (if n == 474214396519 then Some Grain else None))))))))))))))))))

unpacks : (k : Keyword) → unpacked (packed (keyword_bytes k)) ≡ Some k
unpacks Array = refl
unpacks Set = refl
unpacks Map = refl
unpacks Vector = refl
unpacks Heap = refl
unpacks Input = refl
unpacks Show = refl
unpacks Task = refl
unpacks Let = refl
unpacks If = refl
unpacks Else = refl
unpacks While = refl
unpacks Print = refl
unpacks Spawn = refl
unpacks At = refl
unpacks Offer = refl
unpacks Finish = refl
unpacks Forall = refl
unpacks Grain = refl

pub same_keyword : (j k : Keyword) → keyword_bytes j ≡ keyword_bytes k → j ≡ k
same_keyword j k e =
    let both : Some j ≡ Some k = sym (unpacks j) ∙ ap (λ (bytes : Text). unpacked (packed bytes)) e ∙ unpacks k in
    cc

pub rank_less : (k : Keyword) → rank k < length all
rank_less Array = lit< tt
rank_less Set = lit< tt
rank_less Map = lit< tt
rank_less Vector = lit< tt
rank_less Heap = lit< tt
rank_less Input = lit< tt
rank_less Show = lit< tt
rank_less Task = lit< tt
rank_less Let = lit< tt
rank_less If = lit< tt
rank_less Else = lit< tt
rank_less While = lit< tt
rank_less Print = lit< tt
rank_less Spawn = lit< tt
rank_less At = lit< tt
rank_less Offer = lit< tt
rank_less Finish = lit< tt
rank_less Forall = lit< tt
rank_less Grain = lit< tt

pub at_rank : (k d : Keyword) → get_or all (rank k) d ≡ k
at_rank Array d = refl
at_rank Set d = refl
at_rank Map d = refl
at_rank Vector d = refl
at_rank Heap d = refl
at_rank Input d = refl
at_rank Show d = refl
at_rank Task d = refl
at_rank Let d = refl
at_rank If d = refl
at_rank Else d = refl
at_rank While d = refl
at_rank Print d = refl
at_rank Spawn d = refl
at_rank At d = refl
at_rank Offer d = refl
at_rank Finish d = refl
at_rank Forall d = refl
at_rank Grain d = refl

-- What holds of all keywords holds of each.
pub holds : (test : Keyword → Bool) → list_all test all ≡ true → (k : Keyword) → test k ≡ true
holds test h k = by (test k) refl
  where
    by : (v : Bool) → test k ≡ v → test k ≡ true
    by true e = e
    by false e = let none : list_all test all ≡ false = list_all_at test all (rank k) Array (rank_less k) (ap test (at_rank k Array) ∙ e) in absurd cc

pub keyword_short : (k : Keyword) → length (keyword_bytes k) ≤ MAX_NAME
keyword_short k = leb-true (length (keyword_bytes k)) MAX_NAME (holds (λ k. nat_le (length (keyword_bytes k)) MAX_NAME) refl k)

pub keyword_letters : (k : Keyword) → list_all is_word (keyword_bytes k) ≡ true
keyword_letters = holds (λ k. list_all is_word (keyword_bytes k)) refl

pub keyword_head : (k : Keyword) → is_letter (get_or (keyword_bytes k) 0 0) ≡ true
keyword_head = holds (λ k. is_letter (get_or (keyword_bytes k) 0 0)) refl

-- A word that is written as none of the first keywords, nor as the one at this rank.
pub no_more : (word written : Text) (i : ℕ) (d : Keyword) → ((k : Keyword) → rank k < i → word ≢ keyword_bytes k) → written ≡ keyword_bytes (get_or all i d) → word ≢ written → (k : Keyword) → rank k < i + 1 → word ≢ keyword_bytes k
no_more word written i d before e other k less same = elim (lt-or-eq (rank k) i (omega arith)) as (λ _. ⊥) [ inl below ↦ before k below same | inr at ↦ other (same ∙ sym (e ∙ ap keyword_bytes (ap (λ (n : ℕ). get_or all n d) (sym at) ∙ at_rank k d))) ]
  where
    lt-or-eq : (a b : ℕ) → a ≤ b → (a < b) ⊎ (a ≡ b)
    lt-or-eq zero zero h = inr refl
    lt-or-eq zero (suc b) h = inl (omega arith)
    lt-or-eq (suc a) zero h = absurd (omega arith)
    lt-or-eq (suc a) (suc b) h = elim (lt-or-eq a b (omega arith)) as (λ _. (suc a < suc b) ⊎ (suc a ≡ suc b)) [ inl x ↦ inl (omega arith) | inr x ↦ inr (ap suc x) ]

pub unequal : (word written bytes : Text) (r : Bool) → r ≡ bytes_eq word bytes → bytes ≡ written → r ≡ false → word ≢ written
unequal word written bytes r e same h f = let t : bytes_eq word bytes ≡ true = (bytes_eq-Decides word bytes).1 (f ∙ sym same) in cc
