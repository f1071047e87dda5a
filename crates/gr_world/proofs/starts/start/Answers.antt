use Rattle.std.proofs.Common.{◌≡◌, ◌++◌, ◌∷◌, [], ◌∙◌, ℕ, List, ap, sym, subst, append_assoc, arith, length}
use Rattle.std.proofs.lemmas.List.{nil_from_length}
use Rattle.gr_machine.specs.Machines.{Machine, machine_of}
use Rattle.gr_mail.specs.declared.mail.Mail.{Mail}
use Rattle.gr_mail.specs.Boxes.{AreMailboxes}
use Rattle.gr_core.specs.declared.cores.Core.{Core}
use Rattle.gr_core.specs.Cores.{run_of}
use Rattle.gr_core.specs.Mails.{IsUnused}
use Rattle.gr_core.specs.Runs.{opened_run}
use Rattle.gr_world.proofs.Opens.{AreStarted, are_cores, are_opened, next_mail, one_started}
use Rattle.gr_world.proofs.starts.start.Goals as goal

pub start-requires-clause-mail : goal.start-requires-clause-mail
start-requires-clause-mail c =
    let done = c.loop-mail.yielded in
    let rest = c.loop-mail.mail-iterator.rest.items in
    let here : c.len.result ≡ length done = omega (arith, c.len.ensures, c.loop-mail.cores.ok.0, c.loop-mail.invariant.started.len) in
    subst (λ (me : ℕ). IsUnused c.args.setup me c.in-Some.mail) (sym here)
    (next_mail c.args.setup (done ++ rest) done c.in-Some.mail c.next.new.self.rest.items c.loop-mail.invariant.boxes
    (ap (λ (mails : List Mail). done ++ mails) (sym c.in-Some.ensures.steps.0))).1

pub loop-mail-preserved : goal.loop-mail-preserved
loop-mail-preserved c =
    let machine : Machine = machine_of c.args.setup c.args.code.now.program in
    let done = c.loop-mail.yielded in
    let cores = c.loop-mail.cores.items in
    let run = run_of c.in_ok-core.core in
    let here : c.len.result ≡ length cores = omega (arith, c.len.ensures, c.loop-mail.cores.ok.0) in
    record {
      started = subst (λ (all : List Core). AreStarted machine (done ++ c.in-Some.mail ∷ []) all) (sym c.in_ok-push.ensures.items)
          (one_started machine done cores c.in-Some.mail c.in_ok-core.core c.loop-mail.invariant.started (record {
            run = c.in_ok-core.ensures.opened ∙ ap (λ (me : ℕ). opened_run machine me run.seen.heap run.first) here;
            has = c.in_ok-core.ensures.mail;
          }));
      boxes = subst (AreMailboxes c.args.setup.cores)
          (ap (λ (mails : List Mail). done ++ mails) c.in-Some.ensures.steps.0 ∙ sym (append_assoc done (c.in-Some.mail ∷ []) c.next.new.self.rest.items))
          c.loop-mail.invariant.boxes;
    }

pub returns-clause-cores : goal.returns-clause-cores
returns-clause-cores c =
    let done = c.loop-mail.yielded in
    let rest = c.loop-mail.mail-iterator.rest.items in
    let ended : rest ≡ [] = nil_from_length rest (omega (arith, c.in-None.ensures.steps.0, c.loop-mail.mail-iterator.rest.ok.0)) in
    are_cores (machine_of c.args.setup c.args.code.now.program) (done ++ rest) done c.loop-mail.cores.items c.loop-mail.invariant.boxes
    (ap (λ (mails : List Mail). done ++ mails) (sym ended)) c.loop-mail.invariant.started

pub returns-clause-opened : goal.returns-clause-opened
returns-clause-opened c =
    are_opened (machine_of c.args.setup c.args.code.now.program) c.loop-mail.yielded c.loop-mail.cores.items c.loop-mail.invariant.started
