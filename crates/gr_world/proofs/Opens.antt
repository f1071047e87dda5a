-- The cores that are started, one after another, each with its mail.
use Rattle.std.proofs.Common.{◌≡◌, ◌+◌, ◌<◌, ◌++◌, ◌∷◌, ℕ, List, [], length, slice_index_or, ap, ◌∙◌, sym, refl, subst, subst₂, arith, inl, inr}
use Rattle.std.proofs.lemmas.Bool.{cases_lt}
use Rattle.std.proofs.lemmas.List.{append-nil, get_or_append_left, get_or_push, get_or_at, length_push, length-append}
use Rattle.gr_machine.specs.declared.setup.Setup.{Setup}
use Rattle.gr_machine.specs.Machines.{Machine}
use Rattle.gr_mail.specs.declared.mail.Mail.{Mail}
use Rattle.gr_mail.specs.Boxes.{AreMailboxes}
use Rattle.gr_mail.specs.Rings.{AreJoined}
use Rattle.gr_core.specs.declared.cores.Core.{Core}
use Rattle.gr_core.specs.Cores.{mail_of, run_of}
use Rattle.gr_core.specs.Mails.{IsUnused}
use Rattle.gr_core.specs.Runs.{Run, opened_run}
use Rattle.gr_world.specs.Worlds.{AreCores, AreOpened}

-- The core of this number before its first event, with this mail.
pub record IsStarted (machine : Machine) (me : ℕ) (mail : Mail) (core : Core) : Type 0 where
  pub run : run_of core ≡ opened_run machine me (run_of core).seen.heap (run_of core).first
  pub has : mail_of core ≡ mail

pub record AreStarted (machine : Machine) (mails : List Mail) (cores : List Core) : Type 0 where
  pub len : length cores ≡ length mails
  pub each : (me : ℕ) (default : Core) (none : Mail) → me < length cores → IsStarted machine me (slice_index_or mails me none) (slice_index_or cores me default)

pub none_started : (machine : Machine) → AreStarted machine [] []
none_started machine = record { len = refl; each = λ me default none within. absurd (omega (arith, within)) }

pub one_started : (machine : Machine) (mails : List Mail) (cores : List Core) (mail : Mail) (core : Core) → AreStarted machine mails cores
    → IsStarted machine (length cores) mail core → AreStarted machine (mails ++ mail ∷ []) (cores ++ core ∷ [])
one_started machine mails cores mail core started one = record {
  len = length_push cores core ∙ ap (λ n. n + 1) started.len ∙ sym (length_push mails mail);
  each = λ me default none within. elim (cases_lt me (length cores)) [
    | inl l ↦ subst₂ (IsStarted machine me) (sym (get_or_append_left mails (mail ∷ []) none me (omega (arith, started.len, l))))
        (sym (get_or_append_left cores (core ∷ []) default me l)) (started.each me default none l)
    | inr g ↦
        let here : length cores ≡ me = omega (arith, length_push cores core, within, g) in
        subst₂ (IsStarted machine me) (sym (get_or_push mails mail none me (sym started.len ∙ here))) (sym (get_or_push cores core default me here))
        (subst (λ k. IsStarted machine k mail core) here one)
  ];
}

-- The next mail is that of the next core.
pub next_mail : (setup : Setup) (mails done : List Mail) (mail : Mail) (rest : List Mail) → AreMailboxes setup.cores mails → done ++ mail ∷ rest ≡ mails
    → (length done < setup.cores) × IsUnused setup (length done) mail
next_mail setup mails done mail rest boxes same =
    let long : length done < setup.cores = omega (arith, boxes.len, ap length same, length-append done (mail ∷ rest)) in
    let here : slice_index_or mails (length done) mail ≡ mail = ap (λ (xs : List Mail). slice_index_or xs (length done) mail) (sym same) ∙ get_or_at done mail rest mail (length done) refl in (
      long,
      subst (IsUnused setup (length done)) here (record {
        owner = boxes.owner (length done) mail long;
        cores = boxes.cores (length done) mail long;
        new = boxes.new (length done) mail long;
      }),
    )

pub are_cores : (machine : Machine) (mails done : List Mail) (cores : List Core) → AreMailboxes machine.setup.cores mails → done ++ [] ≡ mails
    → AreStarted machine done cores → AreCores machine cores
are_cores machine mails done cores boxes same started =
    let all : AreStarted machine mails cores = subst (λ (xs : List Mail). AreStarted machine xs cores) (sym (append-nil done) ∙ same) started in
    record {
      len = all.len ∙ boxes.len;
      machine = λ core default within. ap (λ (run : Run). run.seen.machine) (all.each core default (mail_of default) within).run;
      number = λ core default within. ap (λ (run : Run). run.seen.me) (all.each core default (mail_of default) within).run;
      joined = λ one other default within there differ. subst₂ AreJoined (sym (all.each one default (mail_of default) within).has) (sym (all.each other default (mail_of default) there).has)
          (boxes.joined one other (mail_of default) (omega (arith, all.len, boxes.len, within)) (omega (arith, all.len, boxes.len, there)) differ);
    }

pub are_opened : (machine : Machine) (mails : List Mail) (cores : List Core) → AreStarted machine mails cores → AreOpened cores
are_opened machine mails cores started core default within = ap (λ (run : Run). run.journal) (started.each core default (mail_of default) within).run
