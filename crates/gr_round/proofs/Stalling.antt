-- Where a round adds nothing no core can go on.
use Rattle.std.proofs.Common.{◌≡◌, ◌≢◌, ℕ, ◌+◌, ◌<◌, ◌≤◌, List, [], ◌∷◌, length, ap, sym, refl, ◌∙◌, subst, arith, inl, inr, ◌⊎◌, slice_index_or, eq-eqb, ne_eqb}
use Rattle.std.specs.Prelude.{Bool, true, false, Option, None, not, ◌&&◌, ◌||◌, ◌==◌, nat_lt, nat_le}
use Rattle.std.proofs.lemmas.Bool.{cases_eq, false_from_ne_true, leb-false, lt-ltb, ltb-true, true≢false}
use Rattle.std.proofs.lemmas.List.{get_or_past}
use Rattle.gr_machine.specs.declared.event.Event.{Event}
use Rattle.gr_machine.specs.declared.event.Event.TheVariants as event
use Rattle.gr_machine.specs.Enabled.{can, can_go, enabled, is_halted, is_idle, is_other}
use Rattle.gr_machine.specs.Events.{Packet}
use Rattle.gr_machine.specs.Machines.{Machine, is_core}
use Rattle.gr_mail.specs.declared.mail.Mail.{Mail}
use Rattle.gr_mail.specs.declared.mail.TheConstants.{RING_PACKETS}
use Rattle.gr_mail.specs.Ends.{ReceivingEnd, known_on}
use Rattle.gr_mail.specs.Rings.{HaveMet, IsOther, cores, free_to, known_from, owner, received_from, sent_to}
use Rattle.gr_mail.proofs.Mails.{met_still}
use Rattle.gr_view.specs.Places.{at_place}
use Rattle.gr_core.specs.declared.cores.Core.{Core}
use Rattle.gr_core.specs.Cores.{mail_of, run_of}
use Rattle.gr_core.specs.Mails.{HasToWait}
use Rattle.gr_core.specs.Runs.{Run}
use Rattle.gr_slice.specs.Slices.{HasStopped, Sliced, Stayed}
use Rattle.gr_world.specs.Worlds.{AreCores, AreOfOneRun, HaveAllMet}
use Rattle.gr_round.specs.Outcomes.{AreGoing, HaveStalled, IsStuck}
use Rattle.gr_round.specs.Rounds.{AllSliced}
use Rattle.gr_round.specs.RoundWords.{clocks}
use Rattle.gr_round.proofs.Sums.{clock_of, clocks_even}

-- A core that made nothing
pub record IsQuiet (before after : Core) : Type 0 where
  pub stayed : Stayed before after
  pub me : owner (mail_of after) ≡ owner (mail_of before)
  pub stopped : HasStopped (run_of after) (mail_of after)

quiet_slice : (count : ℕ) (before after : Core) → 1 ≤ count → Sliced count before after → clock_of after ≤ clock_of before → IsQuiet before after
quiet_slice count before after some sliced even =
    let none : length sliced.went.entries ≡ 0 = omega (arith, even, sliced.went.clock) in
    record {
      stayed = sliced.still none;
      me = sliced.rings.owner;
      stopped = sliced.rest (omega (arith, none, some));
    }

later : (count : ℕ) (before after : Core) → Sliced count before after → clock_of before ≤ clock_of after
later count before after sliced = omega (arith, sliced.went.clock)

pub quiet_round : (count : ℕ) (before after : List Core) → 1 ≤ count → AllSliced count before after → clocks after ≤ clocks before
    → (core : ℕ) (default : Core) → core < length before → IsQuiet (slice_index_or before core default) (slice_index_or after core default)
quiet_round count before after some sliced even core default h =
    quiet_slice count (slice_index_or before core default) (slice_index_or after core default) some (sliced.each core default h)
    (clocks_even before after sliced.len (λ core default h. later count (slice_index_or before core default) (slice_index_or after core default) (sliced.each core default h)) even core default h)

-- All have met still

sent_same : (before after : Core) → Stayed before after → sent_to (mail_of after) ≡ sent_to (mail_of before)
sent_same before after stayed = after.carries.sent ∙ ap (λ (run : Run). run.sent) stayed.run ∙ sym before.carries.sent

received_same : (before after : Core) → Stayed before after → received_from (mail_of after) ≡ received_from (mail_of before)
received_same before after stayed = after.carries.received ∙ ap (λ (run : Run). run.received) stayed.run ∙ sym before.carries.received

met_quiet : (one other later another : Core) → IsQuiet one later → IsQuiet other another → HaveMet (mail_of one) (mail_of other) → HaveMet (mail_of later) (mail_of another)
met_quiet one other later another this that = met_still (mail_of one) (mail_of other) (mail_of later) (mail_of another) this.me that.me
    (sent_same one later this.stayed, this.stayed.free) (received_same other another that.stayed, that.stayed.known)

-- What a core knows

cores_case : (a b : ℕ) → (a < b) ⊎ (b ≤ a)
cores_case a b = grind arith

nothing_known : (end : Option ReceivingEnd) → end ≡ None → known_on end ≡ []
nothing_known end none = ap known_on none

past : (mail : Mail) (from : ℕ) → cores mail ≤ from → at_place None mail.ins.items from ≡ None
unfolding at_place
past mail from h = get_or_past mail.ins.items from None (omega (arith, h, mail.cores.0))

known_outside : (mail : Mail) (from : ℕ) → (IsOther mail from → ⊥) → known_from mail from ≡ []
known_outside mail from other = elim (cases_eq from (owner mail)) [
  | inl own ↦ nothing_known (at_place None mail.ins.items from) (ap (λ (k : ℕ). at_place None mail.ins.items k) own ∙ mail.receives.own)
  | inr differs ↦ elim (cores_case from (cores mail)) [
    | inl within ↦ absurd (other (within, differs))
    | inr beyond ↦ nothing_known (at_place None mail.ins.items from) (past mail from beyond)
  ]
]

-- What a core can do

-- No core has to stop.
pub record MayGo (run : Run) : Type 0 where
  pub passed : run.seen.core.body.stops.passed ≡ false
  pub trapped : run.seen.core.body.stops.trapped ≡ false
  pub spent : nat_le run.seen.machine.setup.events run.seen.core.clock ≡ false

can_all : (passed trapped below can : Bool) → passed ≡ false → trapped ≡ false → below ≡ true → can ≡ true → (not (trapped || passed) && below && can) ≡ true
can_all false false true true p t b c = refl
can_all true trapped below can p t b c = absurd (true≢false p)
can_all false true below can p t b c = absurd (true≢false t)
can_all false false false can p t b c = absurd (true≢false (sym b))
can_all false false true false p t b c = absurd (true≢false (sym c))

enabled_where : (run : Run) (what : Event) → MayGo run → can run.seen.machine run.seen.me run.seen.core what ≡ true
    → enabled run.seen.machine run.seen.me run.seen.core what ≡ true
enabled_where run what may able = can_all run.seen.core.body.stops.passed run.seen.core.body.stops.trapped (nat_lt run.seen.core.clock run.seen.machine.setup.events)
    (can run.seen.machine run.seen.me run.seen.core what) may.passed may.trapped
    (lt-ltb run.seen.core.clock run.seen.machine.setup.events (leb-false run.seen.machine.setup.events run.seen.core.clock may.spent)) able

last_true : (halted below can : Bool) → (halted && below && can) ≡ true → can ≡ true
last_true true true can e = e
last_true true false can e = absurd (true≢false (sym e))
last_true false below can e = absurd (true≢false (sym e))

first_true : (one other : Bool) → (one && other) ≡ true → one ≡ true
first_true true other e = refl
first_true false other e = e

other_is : (same within : Bool) → (not same && within) ≡ true → (same ≡ false) × (within ≡ true)
other_is false within e = (refl, e)
other_is true within e = absurd (true≢false (sym e))

both_true : (one other : Bool) → one ≡ true → other ≡ true → (one && other) ≡ true
both_true true true e f = refl
both_true true false e f = absurd (true≢false (sym f))
both_true false other e f = absurd (true≢false (sym e))

other_where : (machine : Machine) (me core : ℕ) → core ≢ me → core < machine.setup.cores → is_other machine me core ≡ true
other_where machine me core differs within = both_true (not (core == me)) (is_core machine core) (ap not (ne_eqb core me differs)) (lt-ltb core machine.setup.cores within)

none_is : {X : Type 0} (xs : List X) → ((xs ≡ [] → ⊥) → ⊥) → xs ≡ []
none_is [] h = refl
none_is (x ∷ xs) h = absurd (h (λ e. cc))

-- A core that has stopped knows of no packet.
known_none : (core : Core) → MayGo (run_of core) → HasStopped (run_of core) (mail_of core) → (from : ℕ) → known_from (mail_of core) from ≡ []
known_none core may stopped from = none_is (known_from (mail_of core) from) (λ some. some (known_outside (mail_of core) from (λ other. stopped (event.Take from) (record {
  numbered = tt;
  enabled = enabled_where (run_of core) (event.Take from) may
      (other_where (run_of core).seen.machine (run_of core).seen.me from (λ same. other.1 (same ∙ sym core.carries.owner)) (subst (λ (n : ℕ). from < n) core.carries.cores other.0));
  now = some;
}))))

-- There is room for what a core could ship to another.
abbrev HasRooms : Core → Type 0
HasRooms core = (dest : ℕ) → is_other (run_of core).seen.machine (run_of core).seen.me dest ≡ true → free_to (mail_of core) dest ≡ 0 → ⊥

ships_to_other : (run : Run) (dest : ℕ) → enabled run.seen.machine run.seen.me run.seen.core (event.Ship dest) ≡ true → is_other run.seen.machine run.seen.me dest ≡ true
ships_to_other run dest able = first_true (is_other run.seen.machine run.seen.me dest) (can_go run.seen.machine (length (run.seen.core.buffers dest)) (is_idle run.seen.machine run.seen.core))
    (last_true (not (is_halted run.seen.core)) (nat_lt run.seen.core.clock run.seen.machine.setup.events) (can run.seen.machine run.seen.me run.seen.core (event.Ship dest)) able)

waits_for_none : (core : Core) → HasRooms core → (what : Event) → ((from : ℕ) → what ≢ event.Take from)
    → enabled (run_of core).seen.machine (run_of core).seen.me (run_of core).seen.core what ≡ true → HasToWait (mail_of core) what → ⊥
waits_for_none core rooms (event.Take from) other able waits = other from refl
waits_for_none core rooms event.Serve other able waits = waits
waits_for_none core rooms event.Run other able waits = waits
waits_for_none core rooms (event.Ship dest) other able waits = rooms dest (ships_to_other (run_of core) dest able) waits
waits_for_none core rooms (event.Close object) other able waits = waits
waits_for_none core rooms (event.Steal victim) other able waits = waits

stuck : (core : Core) → MayGo (run_of core) → HasStopped (run_of core) (mail_of core) → HasRooms core → IsStuck core
stuck core may stopped rooms = record {
  events = λ what numbered other. false_from_ne_true (enabled (run_of core).seen.machine (run_of core).seen.me (run_of core).seen.core what)
      (λ able. stopped what (record { numbered = numbered; enabled = able; now = waits_for_none core rooms what other able }));
  known = known_none core may stopped;
}

room_left : (free known : ℕ) → RING_PACKETS ≤ free + known → known ≡ 0 → free ≡ 0 → ⊥
room_left free known room none full = omega (arith, room, none, full)

room : (core other : Core) → HaveMet (mail_of core) (mail_of other) → known_from (mail_of other) (owner (mail_of core)) ≡ [] → free_to (mail_of core) (owner (mail_of other)) ≡ 0 → ⊥
room core other met none = room_left (free_to (mail_of core) (owner (mail_of other))) (length (known_from (mail_of other) (owner (mail_of core)))) met.free
    (ap (λ (packets : List Packet). length packets) none)

-- The last round

module _ (count : ℕ) (before after : List Core) (some : 1 ≤ count) (met : HaveAllMet before) (sliced : AllSliced count before after) (even : clocks after ≤ clocks before) where
  quiet : (core : ℕ) (default : Core) → core < length after → IsQuiet (slice_index_or before core default) (slice_index_or after core default)
  quiet core default h = quiet_round count before after some sliced even core default (omega (arith, h, sliced.len))

  pub met_last : HaveAllMet after
  met_last one other default h k differ =
      met_quiet (slice_index_or before one default) (slice_index_or before other default) (slice_index_or after one default) (slice_index_or after other default)
      (quiet one default h) (quiet other default k) (met one other default (omega (arith, h, sliced.len)) (omega (arith, k, sliced.len)) differ)

  going_last : AreGoing before → AreGoing after
  going_last going = record {
    passed = λ core default h. ap (λ (run : Run). run.seen.core.body.stops.passed) (quiet core default h).stayed.run ∙ going.passed core default (omega (arith, h, sliced.len));
    trapped = λ core default h. ap (λ (run : Run). run.seen.core.body.stops.trapped) (quiet core default h).stayed.run ∙ going.trapped core default (omega (arith, h, sliced.len));
    spent = λ core default h. ap (λ (run : Run). nat_le run.seen.machine.setup.events run.seen.core.clock) (quiet core default h).stayed.run
        ∙ going.spent core default (omega (arith, h, sliced.len));
  }

  module _ (machine : Machine) (are : AreCores machine after) (going : AreGoing after) where
    may : (core : ℕ) (default : Core) → core < length after → MayGo (run_of (slice_index_or after core default))
    may core default h = record { passed = going.passed core default h; trapped = going.trapped core default h; spent = going.spent core default h }

    known_last : (core : ℕ) (default : Core) → core < length after → (from : ℕ) → known_from (mail_of (slice_index_or after core default)) from ≡ []
    known_last core default h = known_none (slice_index_or after core default) (may core default h) (quiet core default h).stopped

    owner_is : (core : ℕ) (default : Core) → core < length after → owner (mail_of (slice_index_or after core default)) ≡ core
    owner_is core default h = (slice_index_or after core default).carries.owner ∙ are.number core default h

    rooms_last : (core : ℕ) (default : Core) → core < length after → HasRooms (slice_index_or after core default)
    rooms_last core default h dest other full =
        let is : is_other machine core dest ≡ true =
        subst (λ (m : Machine). is_other m core dest ≡ true) (are.machine core default h)
        (subst (λ (me : ℕ). is_other (run_of (slice_index_or after core default)).seen.machine me dest ≡ true) (are.number core default h) other) in
        let tests = other_is (dest == core) (is_core machine dest) is in
        let within : dest < length after = omega (arith, are.len, ltb-true dest machine.setup.cores tests.1) in
        room (slice_index_or after core default) (slice_index_or after dest default)
        (met_last core dest default h within (λ same. true≢false (sym (eq-eqb dest core (sym same)) ∙ tests.0)))
        (known_last dest default within (owner (mail_of (slice_index_or after core default))))
        (ap (free_to (mail_of (slice_index_or after core default))) (owner_is dest default within) ∙ full)

    stalled_last : HaveStalled after
    stalled_last = record {
      going = going;
      stuck = λ core default h. stuck (slice_index_or after core default) (may core default h) (quiet core default h).stopped (rooms_last core default h);
    }

  pub stalled : AreOfOneRun after → AreGoing before → HaveStalled after
  stalled are going = stalled_last are.0 are.1 (going_last going)
