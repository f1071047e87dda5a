-- Of a scope of which nothing is counted no index is left.
use Rattle.std.proofs.Common.{◌≡◌, ℕ, zero, suc, ◌+◌, ◌-◌, ◌<◌, ◌≤◌, ◌&&◌, if◌then◌else◌, Bool, true, false, nat_le, nat_lt, slice_get, inl, inr, sym, ◌∙◌, ap, refl, arith, Option, Some, None}
use Rattle.std.specs.Option.{option_map_or}
use Rattle.std.specs.FinSet as set
use Rattle.std.proofs.lemmas.Bool.Decides.{nat_tests}
use Rattle.gr_lang.specs.declared.action.TaskId.{TaskId}
use Rattle.gr_lang.specs.States.{Range, Scope, range_left}
use Rattle.gr_msg.specs.declared.message.Msg.{Msg}
use Rattle.gr_msg.specs.declared.message.Msg.TheVariants as msg
use Rattle.gr_msg.specs.declared.message.ScopeId.{ScopeId}
use Rattle.gr_msg.specs.declared.message.Unit.{Unit as WorkUnit}
use Rattle.gr_msg.specs.declared.message.Unit.TheVariants as unit
use Rattle.gr_net.specs.Sums.{weigh}
use Rattle.gr_net.proofs.Spreads.{total_zero, total_none, weigh_none, Each-weaker, Each-zero}
use Rattle.gr_net.proofs.Flights.{every_zero, every_with, flight_none}
use Rattle.gr_machine.specs.Nets.{messages_in}
use Rattle.gr_stands.specs.Worlds.{Given, World, bodies, in_flight}
use Rattle.gr_stands.specs.Censuses.{body_census, carried, census}
use Rattle.gr_stands.proofs.Places.{cases_id}
use Rattle.gr_scopes.specs.Trees.{Names}
use Rattle.gr_scopes.specs.Sums.{if_scope, if_core, of_unit, of_scope}
use Rattle.gr_scopes.proofs.Counts.{if_scope_self, if_core_self}
use Rattle.gr_scopes_finished.specs.Counted.{NoneCounted}
use Rattle.gr_shares.specs.Loops.{Loop, Loops, loops_of, within, left_in, left_at}
use Rattle.gr_shares.specs.Shares.{covers, units_only, UnitShares, MessageShares, SharesHold}
use Rattle.gr_shares.proofs.Weights.{owner_off, only_units, each_for, every_for}
use Rattle.gr_shares_loops.proofs.Counting.{many}
use Rattle.gr_shares_loops.proofs.Tasks.{some_same}
use Rattle.gr_shares_tells.specs.Laws as laws

-- ---- all indices have begun

is_within : (lo hi k : ℕ) → lo ≤ k → k < lo + (hi - lo) → within lo hi k ≡ 1
unfolding within
is_within lo hi k p q = low_high (nat_le lo k) (nat_lt k hi) (low lo k p) (high lo hi k p q)
  where
    low : (a b : ℕ) → a ≤ b → nat_le a b ≡ true
    low a b l = grind (arith, nat_tests, l)

    less : (a b : ℕ) → a < b → nat_lt a b ≡ true
    less a b l = grind (arith, nat_tests, l)

    high : (a b k : ℕ) → a ≤ k → k < a + (b - a) → nat_lt k b ≡ true
    high a b k p q = less k b (omega (arith, p, q))

    low_high : (a b : Bool) → a ≡ true → b ≡ true → (if (a && b) then suc zero else zero) ≡ suc zero
    low_high a b p q = rw (p, q) refl

begun_all : (range : Range) → ((index : ℕ) → left_in range index ≡ 0) → range_left (Some range) ≡ false
begun_all range none = not_less (set.len range.begun) (range.hi - range.lo) (many (range.hi - range.lo) range.lo range.begun (λ k p q. by k p q (set.contains range.begun k) refl (none k)))
  where
    not_less : (a b : ℕ) → b ≤ a → nat_lt a b ≡ false
    not_less a b l = grind (arith, nat_tests, l)

    by : (k : ℕ) → range.lo ≤ k → k < range.lo + (range.hi - range.lo) → (b : Bool) → set.contains range.begun k ≡ b → (if set.contains range.begun k then zero else within range.lo range.hi k) ≡ zero
        → set.contains range.begun k ≡ true
    by k p q true e z = e
    by k p q false e z = absurd (omega (arith, is_within range.lo range.hi k p q, sym (ap (λ (b : Bool). if b then zero else within range.lo range.hi k) e) ∙ z))

-- ---- no chunk

-- No core counts anything of the unit under the scope.
abbrev IsUncounted : Given → ScopeId → WorkUnit → Type 0
IsUncounted given scope u = (core : ℕ) → core < given.setup.cores → of_unit scope core u ≡ 0

abbrev IsUncountedIn : Given → ScopeId → ℕ → ℕ → Msg → Type 0
IsUncountedIn given scope from to m = (core : ℕ) → core < given.setup.cores → carried (of_unit scope core) from to m ≡ 0

module _ (given : Given) (names : Names) (w : World) (L : Loops) (hold : SharesHold given names w L) (scope : ScopeId) (nothing : NoneCounted given w scope) where
  at_core : (core c : ℕ) → core < given.setup.cores → c < given.setup.cores → weigh (of_unit scope core) (bodies w c).work.private + weigh (of_unit scope core) (bodies w c).work.public ≡ 0
  unfolding census body_census
  at_core core c l k = omega (arith, total_zero (λ i. body_census (of_scope scope core) given.slots (bodies w i)) given.setup.cores (omega (arith, nothing core l)) c k)

  in_messages : (core : ℕ) → core < given.setup.cores → in_flight (carried (of_unit scope core)) given.setup.cores w ≡ 0
  unfolding census
  in_messages core l = omega (arith, nothing core l)

  -- A chunk of the owner's loop is of the loop's scope, and so there is none.
  module _ (owner : TaskId) (loop : Loop) (waits : L owner ≡ Some loop) (named : names loop.number ≡ Some scope) (index : ℕ) where
    no_chunk : (u : WorkUnit) → UnitShares given names L u → IsUncounted given scope u → covers owner index u ≡ 0
    no_chunk (unit.Single target args inside origin id) f none = refl
    no_chunk (unit.Chunk target args inside origin other lo hi grain) f none = elim (cases_id other owner) [
      | inl e ↦
          let same : f.loop ≡ loop = some_same f.loop loop (sym f.waits ∙ ap L e ∙ waits) in
          let under : inside ≡ scope = some_same inside scope (sym f.named ∙ ap (λ (l : Loop). names l.number) same ∙ named) in
          absurd (omega (
            arith,
            f.some,
            none origin f.counted,
            ap (λ (s : ScopeId). if_core origin origin (if_scope scope s (hi - lo))) under,
            if_core_self origin (if_scope scope scope (hi - lo)),
            if_scope_self scope (hi - lo),
          ))
      | inr e ↦ owner_off owner other (within lo hi index) e
    ]

    no_message : (from to : ℕ) (m : Msg) → MessageShares given names L from to m → IsUncountedIn given scope from to m → carried (covers owner index) from to m ≡ 0
    no_message from to (msg.Spawn (unit.Single target args inside origin id)) f none = refl
    no_message from to (msg.Spawn (unit.Chunk target args inside origin other lo hi grain)) f none = absurd f
    no_message from to (msg.StealGive u) f none = no_chunk u f none
    no_message from to _ f none = refl

    pub nothing_left : left_in loop.range index ≡ 0
    unfolding census
    nothing_left =
        let count = given.setup.cores in
        let h = covers owner index in
        let B : ℕ → Type 0 = λ core. core < count in
        let empty : (c : ℕ) → c < count → body_census (units_only h) given.slots (bodies w c) ≡ 0 = λ c k.
        let b = bodies w c in
        let private = each_for B (λ core (u : WorkUnit). of_unit scope core u ≡ 0) b.work.private (λ core l. Each-zero (of_unit scope core) b.work.private (omega (arith, at_core core c l k))) in
        let public = each_for B (λ core (u : WorkUnit). of_unit scope core u ≡ 0) b.work.public (λ core l. Each-zero (of_unit scope core) b.work.public (omega (arith, at_core core c l k))) in
        omega (
          arith,
          only_units h given.slots b,
          weigh_none h b.work.private (Each-weaker (UnitShares given names L) (IsUncounted given scope) (λ u. h u ≡ 0) no_chunk b.work.private (hold.private c k) private),
          weigh_none h b.work.public (Each-weaker (UnitShares given names L) (IsUncounted given scope) (λ u. h u ≡ 0) no_chunk b.work.public (hold.public c k) public),
        ) in
        let quiet : in_flight (carried h) count w ≡ 0 = flight_none messages_in (carried h) count w
        (every_with messages_in (MessageShares given names L) (IsUncountedIn given scope) (λ from to m. carried h from to m ≡ 0) count w no_message hold.messages
        (every_for B (λ core from to m. carried (of_unit scope core) from to m ≡ 0) count w (λ core l. every_zero messages_in (carried (of_unit scope core)) count w (in_messages core l)))) in
        omega (
          arith,
          hold.chunks owner index,
          total_none (λ c. body_census (units_only h) given.slots (bodies w c)) count empty,
          quiet,
          ap (λ (o : Option Loop). left_at o index) waits,
        )

-- ---- the law

pub work_tells_scopes : laws.WorkTellsScopes
work_tells_scopes given names w S hold ranges number scope named nothing = by_scope (slice_get S.scopes number) refl
  where
    by_range : (x : Scope) → slice_get S.scopes number ≡ Some x → (o : Option Range) → x.range ≡ o → range_left o ≡ false
    by_range x at None e = refl
    by_range x at (Some range) e = elim (ranges number x range at e) [
      | inl waited ↦ begun_all range (λ index. nothing_left given names w (loops_of S) hold scope nothing waited.owner (record { number = number; range = range }) waited.there named index)
      | inr begun ↦ begun_all range begun
    ]

    by_scope : (o : Option Scope) → slice_get S.scopes number ≡ o → option_map_or (λ (x : Scope). range_left x.range) o false ≡ false
    by_scope None at = refl
    by_scope (Some x) at = by_range x at x.range refl
