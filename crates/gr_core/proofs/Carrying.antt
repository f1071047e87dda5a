-- The rings carry the packets of the run.
use Rattle.std.proofs.Common.{◌≡◌, ℕ, List, [], ◌∷◌, ◌++◌, ap, ◌∙◌, sym, refl, subst}
use Rattle.std.proofs.lemmas.List.{append-nil}
use Rattle.gr_view.specs.Places.{put}
use Rattle.gr_view.proofs.Puts.{put_by}
use Rattle.gr_merge.specs.Machines.{with_last}
use Rattle.gr_machine.specs.declared.event.Event.{Event}
use Rattle.gr_machine.specs.declared.event.Event.TheVariants as event
use Rattle.gr_machine.specs.Events.{Packet}
use Rattle.gr_mail.specs.declared.mail.Mail.{Mail}
use Rattle.gr_mail.specs.Rings.{SameReceived, SameRings, SameSent, received_from, sent_to}
use Rattle.gr_mail.proofs.Mails.{rings_self}
use Rattle.gr_core.specs.CoreView.{Carries}
use Rattle.gr_core.specs.Runs.{Run, Made, stepped}

carries_stepped : (mail : Mail) (run last : Run) (what : Event) (made : Made run what last) → Carries mail run
    → (stepped run what made.slots made.taken made.next).received ≡ run.received → (stepped run what made.slots made.taken made.next).sent ≡ run.sent
    → Carries mail last
carries_stepped mail run last what made carries received sent = subst (Carries mail) (sym made.run) (record {
  owner = carries.owner;
  cores = carries.cores;
  received = carries.received ∙ sym received;
  sent = carries.sent ∙ sym sent;
})

pub serve_carries : (mail : Mail) (run last : Run) → Carries mail run → Made run event.Serve last → Carries mail last
serve_carries mail run last carries made = carries_stepped mail run last event.Serve made carries refl refl

pub run_carries : (mail : Mail) (run last : Run) → Carries mail run → Made run event.Run last → Carries mail last
run_carries mail run last carries made = carries_stepped mail run last event.Run made carries refl refl

pub close_carries : (mail : Mail) (run last : Run) (object : ℕ) → Carries mail run → Made run (event.Close object) last → Carries mail last
close_carries mail run last object carries made = carries_stepped mail run last (event.Close object) made carries refl refl

pub steal_carries : (mail : Mail) (run last : Run) (victim : ℕ) → Carries mail run → Made run (event.Steal victim) last → Carries mail last
steal_carries mail run last victim carries made = carries_stepped mail run last (event.Steal victim) made carries refl refl

pub ruleset inner_carried = (serve_carries, run_carries, close_carries, steal_carries, rings_self)

-- What crosses

unchanged : {X : Type 0} (f : ℕ → List X) (core : ℕ) → put f core (f core ++ []) ≡ f
unchanged f core = sym (put_by f f core (f core ++ []) (sym (append-nil (f core))) (λ q n. refl))

-- The core stays the same one.
same_me : (run last : Run) (what : Event) → Made run what last → last.seen.me ≡ run.seen.me
same_me run last what made = ap (λ (other : Run). other.seen.me) made.run

same_cores : (run last : Run) (what : Event) → Made run what last → last.seen.machine.setup.cores ≡ run.seen.machine.setup.cores
same_cores run last what made = ap (λ (other : Run). other.seen.machine.setup.cores) made.run

pub nothing_taken : (mail after : Mail) (run : Run) (from : ℕ) → Carries mail run → SameRings mail after → SameSent mail after
    → received_from after ≡ put (received_from mail) from (received_from mail from ++ []) → Carries after run
nothing_taken mail after run from carries rings sent received = record {
  owner = rings.owner ∙ carries.owner;
  cores = rings.cores ∙ carries.cores;
  received = received ∙ unchanged (received_from mail) from ∙ carries.received;
  sent = sent.0 ∙ carries.sent;
}

pub one_taken : (mail after : Mail) (run last : Run) (from : ℕ) (packet : Packet) → Carries mail run → SameRings mail after → SameSent mail after
    → received_from after ≡ put (received_from mail) from (received_from mail from ++ packet ∷ [])
    → Made run (event.Take from) last → last.received ≡ with_last run.received from packet → last.sent ≡ run.sent → Carries after last
one_taken mail after run last from packet carries rings sent received made took kept = record {
  owner = rings.owner ∙ carries.owner ∙ sym (same_me run last (event.Take from) made);
  cores = rings.cores ∙ carries.cores ∙ sym (same_cores run last (event.Take from) made);
  received = received ∙ ap (λ (lists : ℕ → List Packet). with_last lists from packet) carries.received ∙ sym took;
  sent = sent.0 ∙ carries.sent ∙ sym kept;
}

pub nothing_sent : (mail after : Mail) (run : Run) (dest : ℕ) → Carries mail run → SameRings mail after → SameReceived mail after
    → sent_to after ≡ put (sent_to mail) dest (sent_to mail dest) → Carries after run
nothing_sent mail after run dest carries rings received sent = record {
  owner = rings.owner ∙ carries.owner;
  cores = rings.cores ∙ carries.cores;
  received = received.0 ∙ carries.received;
  sent = sent ∙ sym (put_by (sent_to mail) (sent_to mail) dest (sent_to mail dest) refl (λ q n. refl)) ∙ carries.sent;
}

pub one_sent : (mail after : Mail) (run last : Run) (dest : ℕ) (packet kept : Packet) → Carries mail run → SameRings mail after → SameReceived mail after
    → sent_to after ≡ put (sent_to mail) dest (sent_to mail dest ++ packet ∷ []) → kept ≡ packet
    → Made run (event.Ship dest) last → last.received ≡ run.received → last.sent ≡ with_last run.sent dest kept → Carries after last
one_sent mail after run last dest packet kept carries rings received sent same made received_so sent_so = record {
  owner = rings.owner ∙ carries.owner ∙ sym (same_me run last (event.Ship dest) made);
  cores = rings.cores ∙ carries.cores ∙ sym (same_cores run last (event.Ship dest) made);
  received = received.0 ∙ carries.received ∙ sym received_so;
  sent = sent ∙ ap (λ (lists : ℕ → List Packet). with_last lists dest packet) carries.sent
      ∙ ap (λ (other : Packet). with_last run.sent dest other) (sym same) ∙ sym sent_so;
}

pub ruleset carried = (nothing_taken, one_taken, nothing_sent, one_sent)
