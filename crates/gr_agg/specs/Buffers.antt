-- The messages that wait on a core, and what is added to them, shipped and left.
use Rattle.std.specs.Prelude.{◌+◌, ◌^◌, ℕ, nat_lt, nat_le, ◌&&◌, ◌||◌, Bool, if◌then◌else◌, List, [], ◌∷◌, length, take, drop, Option, Some, None}
use Rattle.gr_msg.specs.Scopes.{same_scope}
use Rattle.gr_msg.specs.declared.message.Msg.{Msg}
use Rattle.gr_msg.specs.declared.message.Msg.TheVariants.{Complete}
use Rattle.gr_msg.specs.declared.message.ScopeId.{ScopeId}
use Rattle.gr_view.specs.Places.{put}

-- The counts of two Completes together, where they are of one scope and fit a word.
abbrev pub summed : ScopeId → ℕ → ScopeId → ℕ → Option ℕ
summed one before other more =
    if same_scope one other then (if nat_lt (before + more) (2 ^ 64) then Some (before + more) else None) else None

-- The count of a message with that of a Complete, where the message is a Complete to which it can be added.
abbrev pub sum_with : Msg → ScopeId → ℕ → Option ℕ
sum_with (Complete one before) scope count = summed one before scope count
sum_with message scope count = None

-- A Complete after a message: in its place with the sum, where there is one.
abbrev pub after_message : Msg → ScopeId → ℕ → Option ℕ → List Msg
after_message before scope count None = before ∷ Complete scope count ∷ []
after_message before scope count (Some sum) = Complete scope sum ∷ []

-- Two messages one after the other, with equal Completes added together.
abbrev pub joined : Msg → Msg → List Msg
joined before (Complete scope count) = after_message before scope count (sum_with before scope count)
joined before message = before ∷ message ∷ []

-- A message goes last. A Complete is added to one of its scope that is last.
unfoldable pub add_last : List Msg → Msg → List Msg
add_last [] message = message ∷ []
add_last (before ∷ []) message = joined before message
add_last (first ∷ next ∷ rest) message = first ∷ add_last (next ∷ rest) message

-- The greatest number of messages of a packet, and the messages that wait for each core, the oldest first.
pub record Waiting : Type 0 where
  pub limit : ℕ
  pub cores : ℕ
  pub messages : ℕ → List Msg

-- No messages.
abbrev pub no_messages : ℕ → ℕ → Waiting
no_messages cores limit = record { limit = limit; cores = cores; messages = λ dest. [] }

-- One more message for a core.
abbrev pub with_message : Waiting → ℕ → Msg → Waiting
with_message waiting dest message =
    record { limit = waiting.limit; cores = waiting.cores; messages = put waiting.messages dest (add_last (waiting.messages dest) message) }

-- As many messages as a packet may have wait, or any while the core is idle.
abbrev pub is_ready : Waiting → ℕ → Bool → Bool
is_ready waiting dest idle =
    nat_le waiting.limit (length (waiting.messages dest)) || (idle && nat_lt 0 (length (waiting.messages dest)))

-- The messages of the next packet for a core: the oldest ones, as many as it may have.
abbrev pub next_messages : Waiting → ℕ → List Msg
next_messages waiting dest = take waiting.limit (waiting.messages dest)

-- What waits once these have been shipped.
abbrev pub without_next : Waiting → ℕ → Waiting
without_next waiting dest =
    record { limit = waiting.limit; cores = waiting.cores; messages = put waiting.messages dest (drop waiting.limit (waiting.messages dest)) }
