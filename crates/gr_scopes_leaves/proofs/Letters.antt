-- The first letter of a core: what it weighs is in flight, and it stands as it should; and a core whose slots stay.
use Rattle.std.proofs.Common.{◌≡◌, ◌≢◌, ◌⊎◌, inl, inr, ℕ, zero, suc, ◌+◌, ◌<◌, ◌≤◌, List, [], ◌∷◌, ◌++◌, sym, ◌∙◌, ap, subst, refl, arith, lt_irrefl, Option, Some, None}
use Rattle.std.proofs.lemmas.Bool.{cases_eq}
use Rattle.gr_lang.specs.States.{State}
use Rattle.gr_msg.specs.declared.message.ScopeId.{ScopeId}
use Rattle.gr_msg.specs.declared.message.Msg.{Msg}
use Rattle.gr_event.specs.declared.masters.Waiter.{Waiter}
use Rattle.gr_event.specs.declared.masters.Waiter.TheVariants as waiter
use Rattle.gr_net.specs.Sums.{total, weigh, Each}
use Rattle.gr_net.specs.Worlds.{put_core}
use Rattle.gr_net.proofs.Spreads.{weigh-append}
use Rattle.gr_net.proofs.Flights.{flight_put_core}
use Rattle.gr_machine.specs.declared.waits.Waits.TheVariants as wait
use Rattle.gr_machine.specs.States.{Letter, Suspended, Body}
use Rattle.gr_machine.specs.Nets.{messages_in}
use Rattle.gr_stands.specs.Worlds.{Given, World, Weight, bodies, in_flight, of_letters}
use Rattle.gr_stands.specs.Calls.{TasksStand, CallsStand}
use Rattle.gr_stands_calls.specs.Acting.{letter, IsFirstLetter}
use Rattle.gr_scopes.specs.Trees.{Tree, Names}
use Rattle.gr_scopes.specs.Scopes.{IsWaitedForBy, WaiterStands, MessageStands, ScopesStand}

module _ (given : Given) (w : World) (me from : ℕ) (m : Msg) (first : IsFirstLetter given w me from m) where
  -- What it weighs is in flight.
  pub letter_weighs : (h : Weight) → h from me m ≤ in_flight h given.setup.cores w
  letter_weighs h = omega (
    arith,
    flight_put_core messages_in h given.setup.cores w me first.here first.core,
    ap (weigh (λ (l : Letter). h l.from me l.message)) first.without.inbox,
    weigh-append (λ (l : Letter). h l.from me l.message) (letter from m ∷ []) first.core.inbox,
    ap (λ (b : ℕ → List Msg). total given.setup.cores (λ d. weigh (h me d) (b d))) first.without.buffers,
  )

  pub letter_stands : (names : Names) (tree : Tree) → ScopesStand given names w tree → MessageStands given names tree from me m
  letter_stands names tree sc = (subst (Each (λ (l : Letter). MessageStands given names tree l.from me l.message)) first.without.inbox (sc.messages.inboxes me first.here)).0

none_of : {X : Type 0} (o : Option X) → ((x : X) → o ≡ Some x → ⊥) → o ≡ None
none_of None f = refl
none_of (Some x) f = absurd (f x refl)

-- No core has a task in the slot behind all.
pub no_slot : (given : Given) (w : World) (S : State) (me : ℕ) → CallsStand given w S → (bodies w me).tasks.slots given.slots ≡ None
no_slot given w S me old = none_of ((bodies w me).tasks.slots given.slots) (λ s e. lt_irrefl given.slots (old.tasks.slots me given.slots s e).low)
