-- The laws of messages that are added together.
use Rattle.std.specs.Prelude.{◌≡◌, ◌+◌, ℕ, List, Bool, true, All, sum_by}
use Rattle.gr_msg.specs.declared.message.Msg.{Msg}
use Rattle.gr_msg.specs.declared.message.Msg.TheVariants.{Complete}
use Rattle.gr_msg.specs.declared.message.ScopeId.{ScopeId}
use Rattle.gr_agg.specs.Buffers.{add_last}

-- The weights of two Completes of a scope add up to that of their sum.
abbrev pub Adds : (Msg → ℕ) → Type 0
Adds weight = (scope : ScopeId) (one other : ℕ) → weight (Complete scope (one + other)) ≡ weight (Complete scope one) + weight (Complete scope other)

-- What is true of two Completes of a scope is true of their sum.
abbrev pub Merges : (Msg → Type 0) → Type 0
Merges P = (scope : ScopeId) (one other : ℕ) → P (Complete scope one) → P (Complete scope other) → P (Complete scope (one + other))

-- A message adds its weight, added together or not.
abbrev pub MessagesAreWeighed : Type 0
MessagesAreWeighed = (weight : Msg → ℕ) → Adds weight → (messages : List Msg) (message : Msg)
    → sum_by weight (add_last messages message) ≡ sum_by weight messages + weight message

-- What a test tells of each message and of each that is added, it tells of all afterwards, where it tells the same of the sum of two Completes of a scope.
abbrev pub MessagesStayGood : Type 0
MessagesStayGood = (test : Msg → Bool) → Merges (λ message. test message ≡ true) → (messages : List Msg) (message : Msg)
    → All (λ one. test one ≡ true) messages → test message ≡ true → All (λ one. test one ≡ true) (add_last messages message)
