-- No packet that was received or known is forgotten.
use Rattle.std.proofs.Common.{◌≡◌, ◌≢◌, ℕ, List, [], ◌∷◌, ◌++◌, ap, ◌∙◌, sym, refl, subst, inl, inr, append_assoc}
use Rattle.std.proofs.lemmas.Bool.{cases_eq}
use Rattle.std.proofs.lemmas.List.{append-nil}
use mathlib.Core.List.{IsPrefix}
use Rattle.gr_view.specs.Places.{put}
use Rattle.gr_view.proofs.Puts.{put_at, put_by, put_other}
use Rattle.gr_machine.specs.Events.{Packet}
use Rattle.gr_mail.specs.declared.mail.Mail.{Mail}
use Rattle.gr_mail.specs.Rings.{LookedAt, SameReceived, SameSent, free_to, known_from, received_from}
use Rattle.gr_mail.proofs.Mails.{known_received}
use Rattle.gr_core.specs.Mails.{NoneForgotten, SameKnownUnless}
use Rattle.std.specs.Prelude.{false}

-- Lists that are the same ones.
same_lists : {X : Type 0} (received known later more : List X) → later ≡ received → more ≡ known → IsPrefix (received ++ known) (later ++ more)
same_lists received known later more r k =
    ([], append-nil (received ++ known) ∙ ap (λ xs. xs ++ known) (sym r) ∙ ap (λ xs. later ++ xs) (sym k))

-- The same were received, and more are known.
more_known : {X : Type 0} (received known later more : List X) → later ≡ received → IsPrefix known more → IsPrefix (received ++ known) (later ++ more)
more_known received known later more r p =
    (p.0, append_assoc received known p.0 ∙ ap (λ xs. received ++ xs) p.1 ∙ ap (λ xs. xs ++ more) (sym r))

pub all_kept : (mail : Mail) → NoneForgotten mail mail
all_kept mail core = same_lists (received_from mail core) (known_from mail core) (received_from mail core) (known_from mail core) refl refl

pub kept_twice : (one other later : Mail) → NoneForgotten one other → NoneForgotten other later → NoneForgotten one later
kept_twice one other later s t core =
    ((s core).0 ++ (t core).0, sym (append_assoc (received_from one core ++ known_from one core) (s core).0 (t core).0) ∙ ap (λ xs. xs ++ (t core).0) (s core).1 ∙ (t core).1)

-- Where one function of numbers is another but at one number.
at_others : {X : Type 0} (f g : ℕ → X) (core k : ℕ) (x : X) → g ≡ put f core x → k ≢ core → g k ≡ f k
at_others f g core k x is other = ap (λ h. h k) is ∙ put_other f core x k other

pub sent_keeps : (before after : Mail) → SameReceived before after → NoneForgotten before after
sent_keeps before after same core =
    same_lists (received_from before core) (known_from before core) (received_from after core) (known_from after core) (ap (λ f. f core) same.0) (ap (λ f. f core) same.1)

pub looked_keeps : (before after : Mail) (core : ℕ) → LookedAt core before after → NoneForgotten before after
looked_keeps before after core looked k = elim (cases_eq k core) [
  | inl e ↦ subst (λ n. IsPrefix (received_from before n ++ known_from before n) (received_from after n ++ known_from after n)) (sym e)
      (more_known (received_from before core) (known_from before core) (received_from after core) (known_from after core) (ap (λ f. f core) looked.received) looked.still)
  | inr other ↦ same_lists (received_from before k) (known_from before k) (received_from after k) (known_from after k) (ap (λ f. f k) looked.received)
      (at_others (known_from before) (known_from after) core k (known_from after core) looked.known other)
]

pub taken_keeps : (before after : Mail) (from : ℕ) (packet : Packet)
    → received_from after ≡ put (received_from before) from (received_from before from ++ packet ∷ [])
    → known_from after ≡ put (known_from before) from (known_from after from)
    → IsPrefix (known_from before from) (packet ∷ known_from after from) → NoneForgotten before after
taken_keeps before after from packet received known next k = elim (cases_eq k from) [
  | inl e ↦ subst (λ n. IsPrefix (received_from before n ++ known_from before n) (received_from after n ++ known_from after n)) (sym e)
      (known_received before after from packet (ap (λ f. f from) received ∙ put_at (received_from before) from (received_from before from ++ packet ∷ []) from refl) next)
  | inr other ↦ same_lists (received_from before k) (known_from before k) (received_from after k) (known_from after k)
      (at_others (received_from before) (received_from after) from k (received_from before from ++ packet ∷ []) received other)
      (at_others (known_from before) (known_from after) from k (known_from after from) known other)
]

-- A function that is another but at one number, where both have the same, is that one.
unchanged_at : {X : Type 0} (f g : ℕ → X) (k : ℕ) → g ≡ put f k (g k) → g k ≡ f k → g ≡ f
unchanged_at f g k is same = is ∙ sym (put_by f f k (g k) (sym same) (λ q n. refl))

pub none_taken_knows : (before after : Mail) (from : ℕ) → SameSent before after → known_from after ≡ put (known_from before) from (known_from after from)
    → known_from before from ≡ [] → known_from after from ≡ [] → SameKnownUnless false before after
none_taken_knows before after from sent known none nothing = (unchanged_at (known_from before) (known_from after) from known (nothing ∙ sym none), sent.1)

pub none_taken_keeps : (before after : Mail) (from : ℕ)
    → received_from after ≡ put (received_from before) from (received_from before from ++ [])
    → known_from after ≡ put (known_from before) from (known_from after from)
    → known_from before from ≡ [] → known_from after from ≡ [] → NoneForgotten before after
none_taken_keeps before after from received known none nothing = sent_keeps before after (
  received ∙ sym (put_by (received_from before) (received_from before) from (received_from before from ++ []) (sym (append-nil (received_from before from))) (λ q n. refl)),
  unchanged_at (known_from before) (known_from after) from known (nothing ∙ sym none),
)

pub none_sent_knows : (before after : Mail) (dest : ℕ) → SameReceived before after → free_to after ≡ put (free_to before) dest (free_to after dest)
    → free_to before dest ≡ 0 → free_to after dest ≡ 0 → SameKnownUnless false before after
none_sent_knows before after dest received free none nothing = (received.1, unchanged_at (free_to before) (free_to after) dest free (nothing ∙ sym none))

pub ruleset keeps = (sent_keeps, taken_keeps, none_taken_knows, none_taken_keeps, none_sent_knows)
