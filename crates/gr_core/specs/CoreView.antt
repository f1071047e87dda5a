-- What a core as the code's struct keeps it stands for.
use Rattle.std.specs.Prelude.{◌≡◌, []}
use Rattle.gr_view.specs.Places.{at_place}
use Rattle.gr_mail.specs.declared.mail.Mail.{Mail}
use Rattle.gr_mail.specs.Rings.{cores, owner, received_from, sent_to}
use Rattle.gr_state.specs.StateView.{seen_of}
use Rattle.gr_core.specs.Runs.{Run}
use Rattle.gr_core.specs.declared.running.Running.{Running}

abbrev pub run_in : Running → Run
run_in running = record {
  seen = seen_of running.state;
  first = running.first;
  journal = running.journal;
  received = at_place [] running.received.items;
  sent = at_place [] running.sent.items;
}

-- The mail is that of the core, and its rings have carried the packets of the run.
pub record Carries (mail : Mail) (run : Run) : Type 0 where
  pub owner : owner mail ≡ run.seen.me
  pub cores : cores mail ≡ run.seen.machine.setup.cores
  pub received : received_from mail ≡ run.received
  pub sent : sent_to mail ≡ run.sent
