-- Worked rows: messages that are added at the end of others, and when they are ready to be shipped.
use Rattle.std.specs.Prelude.{◌≡◌, ◌-◌, ◌^◌, ◌∷◌, [], List, refl, true, false}
use Rattle.gr_msg.specs.declared.message.Msg.{Msg}
use Rattle.gr_msg.specs.declared.message.Msg.TheVariants.{Complete, StealAsk}
use Rattle.gr_msg.specs.declared.message.ScopeId.{ScopeId}
use Rattle.gr_agg.specs.Buffers.{Waiting, add_last, is_ready, next_messages}

one : ScopeId
one = record { core = 0; number = 1 }

other : ScopeId
other = record { core = 1; number = 1 }

added : List Msg
added = add_last (add_last (add_last [] (Complete one 1)) (Complete one 2)) StealAsk

counts_are_added : added ≡ (Complete one 3 ∷ StealAsk ∷ [])
unfolding added add_last one
counts_are_added = refl

other_scopes_are_not : add_last (Complete one 1 ∷ []) (Complete other 2) ≡ (Complete one 1 ∷ Complete other 2 ∷ [])
unfolding add_last one other
other_scopes_are_not = refl

only_the_last_is_added_to : add_last (Complete one 1 ∷ StealAsk ∷ []) (Complete one 2) ≡ (Complete one 1 ∷ StealAsk ∷ Complete one 2 ∷ [])
unfolding add_last one
only_the_last_is_added_to = refl

a_sum_past_a_word_is_not : add_last (Complete one (2 ^ 64 - 1) ∷ []) (Complete one 1) ≡ (Complete one (2 ^ 64 - 1) ∷ Complete one 1 ∷ [])
unfolding add_last one
a_sum_past_a_word_is_not = refl

waiting : Waiting
waiting = record { limit = 2; cores = 2; messages = λ dest. added }

two_are_ready : is_ready waiting 1 false ≡ true
unfolding waiting added add_last one
two_are_ready = refl

two_are_shipped : next_messages waiting 1 ≡ (Complete one 3 ∷ StealAsk ∷ [])
unfolding waiting added add_last one
two_are_shipped = refl

none_is_never_ready : is_ready (record { limit = 2; cores = 2; messages = λ dest. [] }) 1 true ≡ false
none_is_never_ready = refl

one_is_ready_while_idle : is_ready (record { limit = 2; cores = 2; messages = λ dest. StealAsk ∷ [] }) 1 true ≡ true
one_is_ready_while_idle = refl

one_is_not_else : is_ready (record { limit = 2; cores = 2; messages = λ dest. StealAsk ∷ [] }) 1 false ≡ false
one_is_not_else = refl
