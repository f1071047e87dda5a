-- The ends of one run are those of a global run.
use Rattle.std.proofs.Common.{◌≡◌, ◌<◌, ◌≤◌, ◌++◌, ◌∷◌, ℕ, List, [], length, map, slice_index_or, drop, Some, ap, ◌∙◌, sym, refl, subst, arith, inl, inr}
use Rattle.std.specs.Option.{option_map}
use Rattle.std.proofs.lemmas.Bool.{cases_lt}
use Rattle.std.proofs.lemmas.List.{get_or_default, get_or_past, get_or-map, length-map}
use Rattle.std.proofs.lemmas.Simd.{map-map}
use Rattle.gr_mail.proofs.Grids.{some_item}
use Rattle.gr_lang.specs.declared.action.Entry.{Entry}
use Rattle.gr_merge.specs.Laws.{IsMatched}
use Rattle.gr_merge.specs.Merges.{merge}
use Rattle.gr_machine.specs.declared.core_end.CoreEnd.{CoreEnd}
use Rattle.gr_machine.specs.declared.journal.Stamped.{Stamped}
use Rattle.gr_machine.specs.declared.journal.StampedMark.{StampedMark}
use Rattle.gr_machine.specs.Events.{Packet}
use Rattle.gr_machine.specs.GlobalRuns.{World, global_run}
use Rattle.gr_machine.specs.Histories.{history_of}
use Rattle.gr_machine.specs.Laws.{RunsMerge, UnusedCoresRun, unused_end}
use Rattle.gr_machine.specs.Laws as machines
use Rattle.gr_machine.specs.LocalRuns.{End, IsLocalRun, end_in}
use Rattle.gr_machine.specs.Machines.{Machine}
use Rattle.gr_world.specs.Laws.{EndsAreRuns}
use Rattle.gr_world.specs.Worlds.{AreEnds, slot_of_main}

-- The end of the core of this number: one of these, or that of a core that made no event.
abbrev pub an_end : List CoreEnd → ℕ → End
an_end ends core = machines.end_of (map (λ end. end_in end) ends) core

module _ (unused : UnusedCoresRun) (machine : Machine) (ends : List CoreEnd) (are : AreEnds machine ends) where
  pub within_is : (core : ℕ) (default : CoreEnd) → core < length ends → an_end ends core ≡ end_in (slice_index_or ends core default)
  within_is core default within = get_or-map (λ (end : CoreEnd). end_in end) ends core default (unused_end core) within

  beyond_is : (core : ℕ) → length ends ≤ core → an_end ends core ≡ unused_end core
  beyond_is core beyond = get_or_past (map (λ (end : CoreEnd). end_in end) ends) core (unused_end core) (omega (arith, length-map ends (λ (end : CoreEnd). end_in end), beyond))

  -- What is true of each end, and of a core that made no event, is true of all numbers.
  everywhere : (P : ℕ → End → Type 0) → ((core : ℕ) (default : CoreEnd) → core < length ends → P core (end_in (slice_index_or ends core default)))
      → ((core : ℕ) → length ends ≤ core → P core (unused_end core)) → (core : ℕ) → P core (an_end ends core)
  everywhere P here there core = elim (cases_lt core (length ends)) [
    | inl l ↦ let default = some_item ends core l in subst (P core) (sym (within_is core default l)) (here core default l)
    | inr g ↦ subst (P core) (sym (beyond_is core g)) (there core g)
  ]

  pub numbered : (core : ℕ) → (an_end ends core).core ≡ core
  numbered = everywhere (λ core end. end.core ≡ core) are.number (λ core beyond. refl)

  pub runs : (core : ℕ) → IsLocalRun machine (an_end ends core)
  runs = everywhere (λ core end. IsLocalRun machine end) are.local (λ core beyond. unused machine core)

  left_over : {X : Type 0} (sent received rest : List X) → sent ≡ received ++ rest → sent ≡ received ++ drop (length received) sent
  left_over sent [] rest same = refl
  left_over [] (x ∷ received) rest same = absurd (cc)
  left_over (y ∷ sent) (x ∷ received) rest same =
      let first : y ≡ x = cc in
      let others : sent ≡ received ++ rest = cc in
      ap (λ z. z ∷ sent) first ∙ ap (λ zs. x ∷ zs) (left_over sent received rest others)

  abbrev pub left : ℕ → ℕ → List Packet
  left from to = drop (length ((an_end ends to).received from)) ((an_end ends from).sent to)

  abbrev Matches : ℕ → ℕ → End → End → Type 0
  Matches from to one other = (one.sent to ≡ other.received from ++ drop (length (other.received from)) (one.sent to))

  nothing : (from to : ℕ) (one other : End) → one.sent to ≡ [] → other.received from ≡ [] → Matches from to one other
  nothing from to one other sent received = rw (sent, received) refl

  within_matched : (from to : ℕ) (default : CoreEnd) → from < length ends → Matches from to (end_in (slice_index_or ends from default)) (an_end ends to)
  within_matched from to default within = everywhere (λ core other. Matches from core (end_in (slice_index_or ends from default)) other)
      (λ core none there. let same = are.matched from core default within there in
      subst (λ (end : CoreEnd). Matches from core (end_in (slice_index_or ends from default)) (end_in end)) (get_or_default ends core default none there)
      (left_over _ _ same.0 same.1))
      (λ core beyond. nothing from core (end_in (slice_index_or ends from default)) (unused_end core) (are.within from core default within beyond).0 refl) to

  beyond_matched : (from to : ℕ) → length ends ≤ from → Matches from to (unused_end from) (an_end ends to)
  beyond_matched from to beyond = everywhere (λ core other. Matches from core (unused_end from) other)
      (λ core default there. nothing from core (unused_end from) (end_in (slice_index_or ends core default)) refl (are.within core from default there beyond).1)
      (λ core others. refl) to

  pub matched : IsMatched (λ core. (an_end ends core).sent) (λ core. (an_end ends core).received) left
  matched from to = everywhere (λ core one. Matches core to one (an_end ends to)) (λ core default within. within_matched core to default within)
      (λ core beyond. beyond_matched core to beyond) from

pub slot_is : (ends : List CoreEnd) → slot_of_main ends ≡ (an_end ends 0).first
slot_is [] = refl
slot_is (end ∷ ends) = refl

pub ends_run : UnusedCoresRun → RunsMerge → EndsAreRuns
ends_run unused merges machine ends are =
    let tells : World → List Entry = λ world. history_of world.marks in
    ap (λ slot. option_map tells (global_run machine slot (merge (λ (entry : Stamped). entry.clock) (map (λ (end : CoreEnd). end.journal) ends)))) (slot_is ends)
    ∙ ap (λ lists. option_map tells (global_run machine (an_end ends 0).first (merge (λ (entry : Stamped). entry.clock) lists))) (sym (map-map (λ (end : End). end.journal) (λ (end : CoreEnd). end_in end) ends))
    ∙ ap (option_map tells) (merges machine (map (λ (end : CoreEnd). end_in end) ends) (left unused machine ends are) (numbered unused machine ends are)
    (runs unused machine ends are) (matched unused machine ends are))
    ∙ ap (λ lists. Some (history_of (merge (λ (mark : StampedMark). mark.clock) lists))) (map-map (λ (end : End). end.marks) (λ (end : CoreEnd). end_in end) ends)
