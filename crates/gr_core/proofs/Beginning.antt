-- A core before its first event is a run.
use Rattle.std.proofs.Common.{◌≡◌, ◌<◌, ℕ, List, [], ap, ◌∙◌, sym, refl, subst, arith}
use Rattle.std.specs.Prelude.{true, nat_lt}
use Rattle.std.proofs.lemmas.Bool.Decides.{nat_tests}
use Rattle.gr_lang.specs.Objects.{Heap}
use Rattle.gr_mail.specs.declared.mail.Mail.{Mail}
use Rattle.gr_machine.specs.declared.journal.Stamped.{Stamped}
use Rattle.gr_machine.specs.Events.{Packet}
use Rattle.gr_machine.specs.Openings.{opening_core}
use Rattle.gr_courses.specs.Seen.{Seen}
use Rattle.gr_state.specs.Opened.{before_all}
use Rattle.gr_machine.specs.Machines.{Machine}
use Rattle.gr_serves.specs.Heaps.{KnowsHeap}
use Rattle.gr_core.specs.CoreView.{Carries}
use Rattle.gr_core.specs.Mails.{IsUnused}
use Rattle.gr_core.specs.Runs.{IsRun, Run, opened_run}

below : (me cores : ℕ) → me < cores → nat_lt me cores ≡ true
below me cores h = grind (arith, nat_tests)

pub opened_runs : (machine : Machine) (me first : ℕ) (heap : Heap) (run : Run) → me < machine.setup.cores → run ≡ opened_run machine me heap first → IsRun run
opened_runs machine me first heap run there is = subst IsRun (sym is) (record { core = below me machine.setup.cores there; runs = refl })

pub opened_heap : (machine : Machine) (me first : ℕ) (heap : Heap) (run : Run) → run ≡ opened_run machine me heap first
    → (me ≡ 0 → heap ≡ machine.code.objects.heap) → KnowsHeap run.seen
opened_heap machine me first heap run is knows = subst (λ (other : Run). KnowsHeap other.seen) (sym is) (record { is = knows })

pub opened_carries : (machine : Machine) (me first : ℕ) (heap : Heap) (run : Run) (mail : Mail) → run ≡ opened_run machine me heap first
    → IsUnused machine.setup me mail → Carries mail run
opened_carries machine me first heap run mail is unused = subst (Carries mail) (sym is) (record {
  owner = unused.owner;
  cores = unused.cores;
  received = unused.new.received;
  sent = unused.new.sent;
})

-- What the parts of a core are as it opens.
pub opened_is : (machine : Machine) (me first : ℕ) (seen : Seen) (journal : List Stamped) (received sent : ℕ → List Packet)
    → seen ≡ before_all machine me seen.heap (opening_core machine first me) → journal ≡ [] → received ≡ (λ core. []) → sent ≡ (λ core. [])
    → ◌≡◌ {A = Run} (record { seen = seen; first = first; journal = journal; received = received; sent = sent }) (opened_run machine me seen.heap first)
opened_is machine me first seen journal received sent same none nothing_received nothing_sent =
    ap (λ (other : Seen). record { seen = other; first = first; journal = journal; received = received; sent = sent }) same
    ∙ ap (λ (entries : List Stamped). record (opened_run machine me seen.heap first) { journal = entries; received = received; sent = sent }) none
    ∙ ap (λ (lists : ℕ → List Packet). record (opened_run machine me seen.heap first) { received = lists; sent = sent }) nothing_received
    ∙ ap (λ (lists : ℕ → List Packet). record (opened_run machine me seen.heap first) { sent = lists }) nothing_sent

pub ruleset when_opened = (opened_runs, opened_heap, opened_carries)
