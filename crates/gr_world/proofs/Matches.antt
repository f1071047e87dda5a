-- What is left of the cores of one run that have met.
use Rattle.std.proofs.Common.{◌≡◌, ◌+◌, ◌<◌, ◌≤◌, ◌++◌, ◌∷◌, ℕ, List, [], length, slice_index_or, None, ap, ◌∙◌, sym, refl, subst, subst₂, arith, inl, inr, Option}
use Rattle.std.proofs.lemmas.Bool.{cases_eq, cases_lt}
use Rattle.std.proofs.lemmas.List.{append-nil, get_or_append_left, get_or_past, get_or_push, length_push}
use Rattle.gr_view.specs.Places.{at_place}
use Rattle.gr_view.proofs.Puts.{place_is}
use Rattle.gr_machine.specs.declared.core_end.CoreEnd.{CoreEnd}
use Rattle.gr_machine.specs.LocalRuns.{End, IsLocalRun, end_in}
use Rattle.gr_machine.specs.Machines.{Machine}
use Rattle.gr_mail.proofs.Grids.{some_item}
use Rattle.gr_mail.specs.declared.mail.Mail.{Mail}
use Rattle.gr_mail.specs.Ends.{known_on, received_on, sent_on}
use Rattle.gr_mail.specs.Rings.{HaveMet, cores as mail_cores, known_from, owner, received_from, sent_to}
use Rattle.gr_core.specs.declared.cores.Core.{Core}
use Rattle.gr_core.specs.Cores.{mail_of, run_of}
use Rattle.gr_core.specs.Runs.{end_of}
use Rattle.gr_world.specs.Worlds.{AreCores, AreEnds, AreEndsOf, HaveAllMet, IsEndOf, IsMatched}

-- A core has no ring to itself, and none to a core that there isn't.
own_sent : (mail : Mail) → sent_to mail (owner mail) ≡ []
own_sent mail = ap sent_on mail.sends.own

own_received : (mail : Mail) → received_from mail (owner mail) ≡ []
own_received mail = ap received_on mail.receives.own

own_known : (mail : Mail) → known_from mail (owner mail) ≡ []
own_known mail = ap known_on mail.receives.own

beyond : {X : Type 0} (ends : List (Option X)) (core : ℕ) → length ends ≤ core → at_place None ends core ≡ None
beyond ends core past = place_is None ends core ∙ get_or_past ends core None past

-- What a core sent to one that it has met is what that received, and what that knows.
sent_is : (one other : Mail) (from to : ℕ) → owner one ≡ from → owner other ≡ to → HaveMet one other → sent_to one to ≡ received_from other from ++ known_from other from
sent_is one other from to is_one is_other met =
    ap (sent_to one) (sym is_other) ∙ sym met.known ∙ ap (λ core. received_from other core ++ known_from other core) is_one

own_is : (mail : Mail) (core : ℕ) → owner mail ≡ core → sent_to mail core ≡ received_from mail core ++ known_from mail core
own_is mail core is = subst (λ k. sent_to mail k ≡ received_from mail k ++ known_from mail k) is
    (own_sent mail ∙ sym (own_known mail) ∙ ap (λ packets. packets ++ known_from mail (owner mail)) (sym (own_received mail)))

-- A core's journal is a local run to its end.
core_runs : (core : Core) → IsLocalRun (run_of core).seen.machine (end_of (run_of core))
core_runs core = record { last = (run_of core).seen.core; clock = refl; run = core.runs.runs }

module _ (machine : Machine) (cores : List Core) (ends : List CoreEnd) (are : AreCores machine cores) (met : HaveAllMet cores) (of : AreEndsOf cores ends) where
  there : (core : ℕ) → core < length ends → core < length cores
  there core within = omega (arith, of.len, within)

  abbrev at : ℕ → Core → Core
  at core default = slice_index_or cores core default

  owner_is : (core : ℕ) (default : Core) → core < length cores → owner (mail_of (at core default)) ≡ core
  owner_is core default within = (at core default).carries.owner ∙ are.number core default within

  sent_of : (core other : ℕ) (default : Core) (none : CoreEnd) → core < length cores → (end_in (slice_index_or ends core none)).sent other ≡ sent_to (mail_of (at core default)) other
  sent_of core other default none within = ap (λ (end : End). end.sent other) (of.each core default none within).is ∙ ap (λ f. f other) (sym (at core default).carries.sent)

  received_of : (core other : ℕ) (default : Core) (none : CoreEnd) → core < length cores
      → (end_in (slice_index_or ends core none)).received other ≡ received_from (mail_of (at core default)) other
  received_of core other default none within = ap (λ (end : End). end.received other) (of.each core default none within).is ∙ ap (λ f. f other) (sym (at core default).carries.received)

  sent_all : (from to : ℕ) (default : Core) → from < length cores → to < length cores
      → sent_to (mail_of (at from default)) to ≡ received_from (mail_of (at to default)) from ++ known_from (mail_of (at to default)) from
  sent_all from to default within too = elim (cases_eq from to) [
    | inl e ↦ subst (λ k. sent_to (mail_of (at from default)) k ≡ received_from (mail_of (at k default)) from ++ known_from (mail_of (at k default)) from) e
        (own_is (mail_of (at from default)) from (owner_is from default within))
    | inr n ↦ sent_is (mail_of (at from default)) (mail_of (at to default)) from to (owner_is from default within) (owner_is to default too) (met from to default within too n)
  ]

  mail_len : (core : ℕ) (default : Core) → core < length cores → mail_cores (mail_of (at core default)) ≡ length cores
  mail_len core default within =
      (at core default).carries.cores ∙ ap (λ (m : Machine). m.setup.cores) (are.machine core default within) ∙ sym are.len

  outs_len : (core : ℕ) (default : Core) → core < length cores → length (mail_of (at core default)).outs.items ≡ length cores
  outs_len core default within = let mail = mail_of (at core default) in omega (arith, mail.outs.ok.0, mail_len core default within)

  ins_len : (core : ℕ) (default : Core) → core < length cores → length (mail_of (at core default)).ins.items ≡ length cores
  ins_len core default within = let mail = mail_of (at core default) in omega (arith, mail.ins.ok.0, mail.cores.0, mail_len core default within)

  matched : (from to : ℕ) (none : CoreEnd) → from < length ends → to < length ends
      → IsMatched ((end_in (slice_index_or ends from none)).sent to) ((end_in (slice_index_or ends to none)).received from) (at_place 0 (slice_index_or ends to none).left from)
  matched from to none within too =
      let default = some_item cores from (there from within) in (
        known_from (mail_of (at to default)) from,
        sent_of from to default none (there from within) ∙ sent_all from to default (there from within) (there to too)
            ∙ ap (λ packets. packets ++ known_from (mail_of (at to default)) from) (sym (received_of to from default none (there to too))),
        sym ((of.each to default none (there to too)).left from (omega (arith, mail_len to default (there to too), there from within))),
      )

  within_all : (core other : ℕ) (none : CoreEnd) → core < length ends → length ends ≤ other
      → ((end_in (slice_index_or ends core none)).sent other ≡ []) × ((end_in (slice_index_or ends core none)).received other ≡ [])
  within_all core other none within past =
      let here = there core within in
      let default = some_item cores core here in
      let mail = mail_of (at core default) in (
        sent_of core other default none here ∙ ap sent_on (beyond mail.outs.items other (omega (arith, of.len, outs_len core default here, past))),
        received_of core other default none here ∙ ap received_on (beyond mail.ins.items other (omega (arith, of.len, ins_len core default here, past))),
      )

  pub are_ends : AreEnds machine ends
  are_ends = record {
    len = of.len ∙ are.len;
    number = λ core none within. let here = there core within in let default = some_item cores core here in
        ap (λ (end : End). end.core) (of.each core default none here).is ∙ are.number core default here;
    local = λ core none within. let here = there core within in let default = some_item cores core here in
        subst (IsLocalRun machine) (sym (of.each core default none here).is) (subst (λ (m : Machine). IsLocalRun m (end_of (run_of (at core default)))) (are.machine core default here) (core_runs (at core default)));
    matched = matched;
    within = within_all;
  }

pub none_ended : AreEndsOf [] []
none_ended = record { len = refl; each = λ core default none within. absurd (omega (arith, within)) }

-- One core more has ended.
pub one_ended : (cores : List Core) (ends : List CoreEnd) (core : Core) (end : CoreEnd) → AreEndsOf cores ends → IsEndOf core end
    → AreEndsOf (cores ++ core ∷ []) (ends ++ end ∷ [])
one_ended cores ends core end of one = record {
  len = length_push ends end ∙ ap (λ n. n + 1) of.len ∙ sym (length_push cores core);
  each = λ k default none within. elim (cases_lt k (length cores)) [
    | inl l ↦ subst₂ IsEndOf (sym (get_or_append_left cores (core ∷ []) default k l)) (sym (get_or_append_left ends (end ∷ []) none k (omega (arith, of.len, l)))) (of.each k default none l)
    | inr g ↦
        let here : length cores ≡ k = omega (arith, length_push cores core, within, g) in
        subst₂ IsEndOf (sym (get_or_push cores core default k here)) (sym (get_or_push ends end none k (of.len ∙ here))) one
  ];
}

-- All have ended.
pub all_ended : (cores done : List Core) (ends : List CoreEnd) → done ++ [] ≡ cores → AreEndsOf done ends → AreEndsOf cores ends
all_ended cores done ends same of = subst (λ (xs : List Core). AreEndsOf xs ends) (sym (append-nil done) ∙ same) of
