-- Gifts, one by one.
use Rattle.std.proofs.Common.{◌≡◌, ◌<◌, ℕ, List, [], ◌∷◌, Some, None, drop, length, slice_get, ap, ◌∙◌, sym, refl, arith}
use Rattle.gr_msg.specs.declared.message.Unit.{Unit as WorkUnit}
use Rattle.gr_work.specs.Queues.{Queues}
use Rattle.gr_courses.specs.Seen.{Seen, with_body}
use Rattle.gr_courses.specs.Courses.{gives_to}
use Rattle.gr_courses.specs.Folds.{gift_to}
use Rattle.gr_courses.proofs.Folds.{gives_one, gives_to_none, gives_nothing}

none_first : {X : Type 0} (items : List X) → slice_get items 0 ≡ None → items ≡ []
none_first [] none = refl
none_first (first ∷ rest) none = absurd (cc)

one_first : {X : Type 0} (items : List X) (first : X) → slice_get items 0 ≡ Some first → items ≡ first ∷ drop 1 items
one_first [] first is = absurd (cc)
one_first (one ∷ rest) first is = let same : one ≡ first = cc in ap (λ item. item ∷ rest) same

pub nobody_waits : (seen : Seen) → slice_get seen.core.body.steals.waiting 0 ≡ None → seen ≡ gives_to seen
nobody_waits seen none = sym (gives_to_none seen (none_first seen.core.body.steals.waiting none))

abbrev with_work : Seen → Queues → Seen
with_work seen work = with_body seen (record seen.core.body { work = work })

pub nothing_there : (seen : Seen) (work : Queues) → slice_get seen.core.body.work.public 0 ≡ None → work ≡ record seen.core.body.work { public = drop 1 seen.core.body.work.public }
    → with_work seen work ≡ gives_to seen
nothing_there seen work none same =
    let no_unit = none_first seen.core.body.work.public none in
    ap (λ (work : Queues). with_work seen work) same
    ∙ ap (λ (public : List WorkUnit). with_work seen (record seen.core.body.work { public = public })) (ap (drop 1) no_unit ∙ sym no_unit)
    ∙ sym (gives_nothing seen no_unit)

pub one_given : (seen : Seen) (core : ℕ) (unit : WorkUnit) → slice_get seen.core.body.steals.waiting 0 ≡ Some core → slice_get seen.core.body.work.public 0 ≡ Some unit
    → gives_to (gift_to seen core (drop 1 seen.core.body.steals.waiting) unit (drop 1 seen.core.body.work.public)) ≡ gives_to seen
one_given seen core unit waits there = sym (gives_one seen core (drop 1 seen.core.body.steals.waiting) unit (drop 1 seen.core.body.work.public)
    (one_first seen.core.body.steals.waiting core waits) (one_first seen.core.body.work.public unit there))

pub one_less : {X : Type 0} (items : List X) (first : X) → slice_get items 0 ≡ Some first → length (drop 1 items) < length items
one_less items first is = let same = ap length (one_first items first is) in omega (arith, same)

-- One core less waits.
pub ruleset given = (one_given, one_less)
