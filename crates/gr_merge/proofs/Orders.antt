-- Local runs whose packets match are one global run.
use Rattle.std.proofs.Common.{◌≡◌, ℕ, ◌<◌, ◌≤◌, inl, inr, if◌then◌else◌, is_none, List, [], ◌∷◌, ◌++◌, Option, Some, None, refl, sym, ap, ◌∙◌, subst, arith, le_refl}
use Rattle.std.proofs.lemmas.List.{append_assoc, append-nil}
use Rattle.std.proofs.lemmas.Bool.{cases_eq}
use Rattle.std.specs.Option.{option_map}
use Rattle.std.specs.List.Sorted.{IsNonDecreasingBy}
use Rattle.gr_view.specs.Places.{put}
use Rattle.gr_view.proofs.Puts.{put_at, put_other}
use Rattle.gr_merge.specs.Machines.{Kind, inner, takes, ships, Went, Machine, quiet, shipping, Marked}
use Rattle.gr_merge.specs.LocalRuns.{LocalAt, LocalRun}
use Rattle.gr_merge.specs.GlobalRuns.{put_pair, GlobalAt, GlobalRun}
use Rattle.gr_merge.specs.Merges.{at_core}
use Rattle.gr_merge.specs.Laws.{IsClocked, IsMatched}
use Rattle.gr_merge.proofs.Queues.{put_self, pair_split, pair_same, pair_other}
use Rattle.gr_merge.proofs.Rising.{NotBelow, Rises, rises_from}
use Rattle.gr_merge.proofs.InOrder.{core_own, core_other}

-- Steps that ship nothing, and steps that ship.

quiet_packet : {S P M : Type 0} (w went : Went S P M) (packet : Option P) → w.packet ≡ packet → (if is_none packet then Some w else None) ≡ Some went
    → (w ≡ went) × (w.packet ≡ None)
quiet_packet w went None e h = (cc, e)
quiet_packet w went (Some packet) e h = absurd (cc)

pub quiet_step : {S P M : Type 0} (o : Option (Went S P M)) (went : Went S P M) → quiet o ≡ Some went → (o ≡ Some went) × (went.packet ≡ None)
quiet_step None went h = absurd (cc)
quiet_step {S} {P} {M} (Some w) went h =
    let q = quiet_packet w went w.packet refl h in (ap Some q.0, ap (λ (v : Went S P M). v.packet) (sym q.0) ∙ q.1)

shipping_packet : {S P M : Type 0} (w went : Went S P M) (o : Option P) (packet : P) → option_map {U = Went S P M × P} (λ p. (w, p)) o ≡ Some (went, packet)
    → (w ≡ went) × (o ≡ Some packet)
shipping_packet w went None packet h = absurd (cc)
shipping_packet {S} {P} {M} w went (Some p) packet h =
    let e : (w, p) ≡ (went, packet) = cc in (ap (λ (v : Went S P M × P). v.0) e, ap Some (ap (λ (v : Went S P M × P). v.1) e))

pub shipping_step : {S P M : Type 0} (o : Option (Went S P M)) (went : Went S P M) (packet : P) → shipping o ≡ Some (went, packet)
    → (o ≡ Some went) × (went.packet ≡ Some packet)
shipping_step None went packet h = absurd (cc)
shipping_step {S} {P} {M} (Some w) went packet h =
    let q = shipping_packet w went w.packet packet h in (ap Some q.0, ap (λ (v : Went S P M). v.packet) (sym q.0) ∙ q.1)

module _ {S E P M : Type 0} (machine : Machine S E P M) (time : S → ℕ) (noted : M → ℕ) (clocked : IsClocked machine time noted) where
  abbrev pub entry_clock : Marked E M → ℕ
  entry_clock entry = machine.clock entry.0

  abbrev pub step_clock : ℕ × Marked E M → ℕ
  step_clock step = entry_clock step.1

  core_not_below : (k c : ℕ) (ys : List (ℕ × Marked E M)) → NotBelow step_clock c ys → NotBelow entry_clock c (at_core k ys)
  core_not_below k c [] h = tt
  core_not_below k c (y ∷ ys) h = elim (cases_eq k y.0) [
    | inl e ↦ subst (NotBelow entry_clock c) (sym (core_own k y ys e)) (h.0, core_not_below k c ys h.1)
    | inr n ↦ subst (NotBelow entry_clock c) (sym (core_other k y ys n)) (core_not_below k c ys h.1)
  ]

  -- What a core ships in entries whose clocks are not below this is not stamped below it.
  abbrev Late : ℕ → (ℕ → List P) → Type 0
  Late c sent = (dest : ℕ) (packet : P) (packets : List P) → sent dest ≡ packet ∷ packets → c ≤ machine.stamp packet

  late_at : (kind : Kind) (core : ℕ) (state end : S) (received sent : ℕ → List P) (x : Marked E M) (xs : List (Marked E M)) (c : ℕ) → machine.kind x.0 ≡ kind → c ≤ entry_clock x
      → ((state : S) (received sent : ℕ → List P) → LocalRun machine core state received sent xs end → Late c sent)
      → LocalAt machine kind core state received sent x (λ next untaken unsent. LocalRun machine core next untaken unsent xs end)
      → Late c sent
  late_at inner core state end received sent x xs c same h ih l dest packet packets q = ih l.0.state received sent l.3 dest packet packets q
  late_at (takes origin) core state end received sent x xs c same h ih l dest packet packets q = ih l.0.state (put received origin l.2) sent l.6 dest packet packets q
  late_at (ships other) core state end received sent x xs c same h ih l dest packet packets q = elim (cases_eq dest other) [
    | inl e ↦
        let s = shipping_step (machine.step core state x.0 None) l.0 l.1 l.4 in
        let at_clock : machine.stamp l.1 ≡ machine.clock x.0 = clocked.ships_then core state x.0 other l.1 l.0 same s.0 s.1 in
        let both : l.1 ∷ l.2 ≡ packet ∷ packets = sym l.3 ∙ ap sent (sym e) ∙ q in
        let one : l.1 ≡ packet = cc in
        let stamps : machine.stamp l.1 ≡ machine.stamp packet = ap machine.stamp one in
        omega (arith, h, at_clock, stamps)
    | inr n ↦ ih l.0.state received (put sent other l.2) l.6 dest packet packets (put_other sent other l.2 dest n ∙ q)
  ]

  late : (xs : List (Marked E M)) (core : ℕ) (state end : S) (received sent : ℕ → List P) (c : ℕ) → NotBelow entry_clock c xs
      → LocalRun machine core state received sent xs end → Late c sent
  late [] core state end received sent c h l dest packet packets q = let z : [] ≡ packet ∷ packets = sym (l.2 dest) ∙ q in absurd (cc)
  late (x ∷ xs) core state end received sent c h l dest packet packets q =
      late_at (machine.kind x.0) core state end received sent x xs c refl h.0 (λ next untaken unsent r. late xs core next end untaken unsent c h.1 r) l dest packet packets q

  abbrev Locals : (ℕ → S) → (ℕ → ℕ → List P) → (ℕ → ℕ → List P) → List (ℕ × Marked E M) → (ℕ → S) → Type 0
  Locals states received sent ys ends = (k : ℕ) → LocalRun machine k (states k) (received k) (sent k) (at_core k ys) (ends k)

  -- The other cores stay as they are.
  advanced : (i : ℕ) (x : Marked E M) (ys : List (ℕ × Marked E M)) (states ends : ℕ → S) (received sent : ℕ → ℕ → List P) (state : S) (untaken unsent : ℕ → List P)
      → Locals states received sent ((i, x) ∷ ys) ends → LocalRun machine i state untaken unsent (at_core i ys) (ends i)
      → Locals (put states i state) (put received i untaken) (put sent i unsent) ys ends
  advanced i x ys states ends received sent state untaken unsent l r k = elim (cases_eq k i) [
    | inl e ↦ rw (put_at states i state k e, put_at received i untaken k e, put_at sent i unsent k e, e) r
    | inr n ↦ rw (put_other states i state k n, put_other received i untaken k n, put_other sent i unsent k n)
        (subst (λ es. LocalRun machine k (states k) (received k) (sent k) es (ends k)) (core_other k (i, x) ys n) (l k))
  ]

  -- What is in transit and what is still to be shipped is what is still to be taken, and then what is left.
  abbrev pub Fits : (ℕ → ℕ → List P) → (ℕ → ℕ → List P) → (ℕ → ℕ → List P) → (ℕ → ℕ → List P) → Type 0
  Fits transit sent received left = (a b : ℕ) → transit a b ++ sent a b ≡ received b a ++ left a b

  -- The packet that is taken is the first in transit.
  front : (xs ys : List P) (packet : P) (rest : List P) → xs ++ ys ≡ packet ∷ rest → (ys ≡ packet ∷ rest → ⊥)
      → (packets : List P) × (xs ≡ packet ∷ packets) × (packets ++ ys ≡ rest)
  front [] ys packet rest e n = absurd (n e)
  front (x ∷ xs) ys packet rest e n = (xs, cc, cc)

  abbrev Goes : List (ℕ × Marked E M) → (ℕ → S) → (ℕ → ℕ → List P) → Type 0
  Goes ys ends left = (states : ℕ → S) (transit received sent : ℕ → ℕ → List P) → Locals states received sent ys ends → Fits transit sent received left
      → GlobalRun machine states transit ys ends left

  step : (kind : Kind) (i : ℕ) (x : Marked E M) (ys : List (ℕ × Marked E M)) (states ends : ℕ → S) (transit received sent left : ℕ → ℕ → List P)
      → machine.kind x.0 ≡ kind → NotBelow step_clock (entry_clock x) ys → Locals states received sent ((i, x) ∷ ys) ends → Fits transit sent received left → Goes ys ends left
      → LocalAt machine kind i (states i) (received i) (sent i) x (λ state untaken unsent. LocalRun machine i state untaken unsent (at_core i ys) (ends i))
      → GlobalAt machine kind i states transit x (λ after moved. GlobalRun machine after moved ys ends left)
  step inner i x ys states ends transit received sent left same h locals fits ih r = (
    r.0,
    r.1,
    r.2,
    ih (put states i r.0.state) transit (put received i (received i)) (put sent i (sent i))
        (advanced i x ys states ends received sent r.0.state (received i) (sent i) locals r.3)
        (λ a b. rw (put_self sent i a, put_self received i b) (fits a b)),
  )
  step (takes o) i x ys states ends transit received sent left same h locals fits ih r =
      let packet = r.1 in
      let whole : transit o i ++ sent o i ≡ packet ∷ (r.2 ++ left o i) = fits o i ∙ ap (λ ps. ps ++ left o i) r.3 in
      let s = quiet_step (machine.step i (states i) x.0 (Some packet)) r.0 r.4 in
      let f = front (transit o i) (sent o i) packet (r.2 ++ left o i) whole (λ q.
      let shipped = late (at_core o ((i, x) ∷ ys)) o (states o) (ends o) (received o) (sent o) (entry_clock x)
      (core_not_below o (entry_clock x) ((i, x) ∷ ys) (le_refl (entry_clock x), h)) (locals o) i packet (r.2 ++ left o i) q in
      let taken : machine.stamp packet < machine.clock x.0 = clocked.takes_before i (states i) x.0 o packet r.0 same s.0 in
      absurd (omega (arith, shipped, taken))) in (
        r.0,
        packet,
        f.0,
        f.1,
        r.4,
        r.5,
        ih (put states i r.0.state) (put_pair transit o i f.0) (put_pair received i o r.2) (put sent i (sent i))
            (advanced i x ys states ends received sent r.0.state (put (received i) o r.2) (sent i) locals r.6)
            (λ a b. rw (put_self sent i a) (elim (pair_split a o b i) [
              | inl w ↦ rw (w.0, w.1, pair_same transit o i f.0, pair_same received i o r.2) f.2
              | inr w ↦ rw (pair_other transit o i f.0 a b w, pair_other received i o r.2 b a (λ u v. w v u)) (fits a b)
            ])),
      )
  step (ships d) i x ys states ends transit received sent left same h locals fits ih r =
      let packet = r.1 in (
        r.0,
        packet,
        r.4,
        r.5,
        ih (put states i r.0.state) (put_pair transit i d (transit i d ++ packet ∷ [])) (put received i (received i)) (put_pair sent i d r.2)
            (advanced i x ys states ends received sent r.0.state (received i) (put (sent i) d r.2) locals r.6)
            (λ a b. rw (put_self received i b) (elim (pair_split a i b d) [
              | inl w ↦ rw (w.0, w.1, pair_same transit i d (transit i d ++ packet ∷ []), pair_same sent i d r.2)
                  (append_assoc (transit i d) (packet ∷ []) r.2 ∙ ap (λ ps. transit i d ++ ps) (sym r.3) ∙ fits i d)
              | inr w ↦ rw (pair_other transit i d (transit i d ++ packet ∷ []) a b w, pair_other sent i d r.2 a b w) (fits a b)
            ])),
      )

  pub merges : (ys : List (ℕ × Marked E M)) (ends : ℕ → S) (left : ℕ → ℕ → List P) → Rises step_clock ys → Goes ys ends left
  merges [] ends left h states transit received sent locals fits = (
    (λ k. (locals k).0),
    (λ a b.
        sym (append-nil (transit a b)) ∙ ap (λ ps. transit a b ++ ps) (sym ((locals a).2 b)) ∙ fits a b ∙ ap (λ ps. ps ++ left a b) ((locals b).1 a)),
  )
  merges (y ∷ ys) ends left h states transit received sent locals fits =
      step (machine.kind y.1.0) y.0 y.1 ys states ends transit received sent left refl h.0 locals fits
      (λ after moved untaken unsent l f. merges ys ends left h.1 after moved untaken unsent l f)
      (subst (λ es. LocalRun machine y.0 (states y.0) (received y.0) (sent y.0) es (ends y.0)) (core_own y.0 y ys refl) (locals y.0))

  pub orders : (steps : List (ℕ × Marked E M)) (states ends : ℕ → S) (received sent left : ℕ → ℕ → List P) → IsNonDecreasingBy step_clock steps
      → Locals states received sent steps ends → IsMatched sent received left → GlobalRun machine states (λ a b. []) steps ends left
  orders steps states ends received sent left h locals matched =
      merges steps ends left (rises_from step_clock steps h) states (λ a b. []) received sent locals matched
