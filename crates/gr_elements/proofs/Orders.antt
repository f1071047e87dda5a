-- A message that joins a buffer of the machine keeps the order of puts and gets there.
use Rattle.std.proofs.Common.{◌≡◌, ◌⊎◌, ℕ, ◌+◌, ◌<◌, List, [], ◌∷◌, refl, arith, inl, inr, ap, sym, ◌∙◌, subst, Option, Some, None}
use Rattle.gr_msg.specs.declared.message.Msg.{Msg}
use Rattle.gr_msg.specs.declared.message.Msg.TheVariants as msg
use Rattle.gr_msg.specs.declared.message.ScopeId.{ScopeId}
use Rattle.gr_agg.specs.Buffers.{add_last, joined, after_message, sum_with}
use Rattle.gr_net.specs.Sums.{weigh}
use Rattle.gr_machine.proofs.Nets.{adds_up}
use Rattle.gr_elements_orders.specs.Orders.{InOrder, KeepsOrder}
use Rattle.gr_elements.specs.Weights.{is_put, is_get}
use Rattle.gr_elements.proofs.Weights.{puts_add, gets_add}

module _ (number : ℕ) where
  pair_in_order : (x y : Msg) → (is_get number x + 0 ≡ 0) ⊎ (is_put number y ≡ 0) → InOrder (is_put number) (is_get number) (x ∷ y ∷ [])
  pair_in_order x y (inl z) = (λ l. absurd (omega (arith, z, l)), (λ l. refl, tt))
  pair_in_order x y (inr z) = (λ l. omega (arith, z), (λ l. refl, tt))

  after_in_order : (x : Msg) (scope : ScopeId) (count : ℕ) (sum : Option ℕ) → InOrder (is_put number) (is_get number) (after_message x scope count sum)
  after_in_order x scope count None = pair_in_order x (msg.Complete scope count) (inr refl)
  after_in_order x scope count (Some sum) = (λ l. refl, tt)

  joined_in_order : (x y : Msg) → (is_get number x + 0 ≡ 0) ⊎ (is_put number y ≡ 0) → InOrder (is_put number) (is_get number) (joined x y)
  joined_in_order x (msg.Complete scope count) z = after_in_order x scope count (sum_with x scope count)
  joined_in_order x y z = pair_in_order x y z

  pub buffers_keep_order : KeepsOrder add_last (is_put number) (is_get number)
  unfolding add_last
  buffers_keep_order [] y a z = (λ l. refl, tt)
  buffers_keep_order (x ∷ []) y a z = joined_in_order x y z
  buffers_keep_order (x ∷ next ∷ xs) y a z = (head z, buffers_keep_order (next ∷ xs) y a.1 (rest z))
    where
      rest : (weigh (is_get number) (x ∷ next ∷ xs) ≡ 0) ⊎ (is_put number y ≡ 0) → (weigh (is_get number) (next ∷ xs) ≡ 0) ⊎ (is_put number y ≡ 0)
      rest (inl z) = inl (omega (arith, z))
      rest (inr z) = inr z

      head : (weigh (is_get number) (x ∷ next ∷ xs) ≡ 0) ⊎ (is_put number y ≡ 0) → 0 < is_get number x → weigh (is_put number) (add_last (next ∷ xs) y) ≡ 0
      head (inl z) l = absurd (omega (arith, z, l))
      head (inr z) l = omega (arith, adds_up (is_put number) (puts_add number) (next ∷ xs) y, a.0 l, z)
