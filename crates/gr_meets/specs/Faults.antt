-- The first fault of a text in a language: the first token with which nothing of the language goes on.
use Rattle.std.specs.Prelude.{◌≡◌, ℕ, List, [], ◌∷◌, ◌++◌, length}

-- Something of the language begins so.
abbrev pub Continues : {T A : Type 0} → (List T → A → Type 0) → List T → Type 0
Continues {T} {A} Text tokens = (more : List T) × (meaning : A) × Text (tokens ++ more) meaning

-- Nothing of the language goes on with the next token, or ends where there is none.
abbrev pub IsRefused : {T A : Type 0} → (List T → A → Type 0) → List T → List T → Type 0
IsRefused {T} {A} Text front [] = (meaning : A) → Text front meaning → ⊥
IsRefused Text front (token ∷ rest) = Continues Text (front ++ token ∷ []) → ⊥

-- The first token after which nothing of the language goes on is the one from which on so many are left; none left: the end itself.
pub record FirstFault {T A : Type 0} (Text : List T → A → Type 0) (tokens : List T) (left : ℕ) : Type 0 where
  pub front : List T
  pub rest : List T
  pub parts : tokens ≡ front ++ rest
  pub place : left ≡ length rest
  pub before : Continues Text front
  pub refused : IsRefused Text front rest
