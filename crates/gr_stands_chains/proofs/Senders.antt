-- Each message in flight comes from a core.
use Rattle.std.proofs.Common.{◌≡◌, ◌≢◌, ◌<◌, ◌==◌, ℕ, Bool, true, false, if◌then◌else◌, List, [], ◌∷◌, subst, refl}
use Rattle.gr_msg.specs.declared.message.Msg.{Msg}
use Rattle.gr_agg.specs.Laws.{Merges}
use Rattle.gr_net.specs.Sums.{Each}
use Rattle.gr_machine.specs.States.{Letter, Core}
use Rattle.gr_machine.specs.Outcomes.{Send}
use Rattle.gr_machine.specs.Openings.{opening_core, opening_body, first_tasks, first_scopes, no_tasks, no_scopes, unused}
use Rattle.gr_machine.specs.Machines.{Machine}
use Rattle.gr_stands.specs.Worlds.{machine_in}
use Rattle.gr_stands.proofs.Worlds.{facts_off, facts_on, moved_facts}
use Rattle.gr_stands_chains.specs.Laws as laws

empty_core : (machine : Machine) (slot c : ℕ) → ((opening_core machine slot c).inbox ≡ []) × ((d : ℕ) → (opening_core machine slot c).buffers d ≡ [])
empty_core machine slot c = by (c == 0)
  where
    by : (b : Bool) → ((if b then unused (opening_body machine 0 (first_tasks machine slot) first_scopes) else unused (opening_body machine c no_tasks no_scopes)).inbox ≡ [])
        × ((d : ℕ) → (if b then unused (opening_body machine 0 (first_tasks machine slot) first_scopes) else unused (opening_body machine c no_tasks no_scopes)).buffers d ≡ [])
    by true = (refl, λ d. refl)
    by false = (refl, λ d. refl)

none_each : {X : Type 0} (P : X → Type 0) (xs : List X) → xs ≡ [] → Each P xs
none_each P [] e = tt
none_each P (x ∷ xs) e = absurd (cc)

pub senders_open : laws.SendersOpen
senders_open given slot = record {
  inboxes = λ c l. none_each (λ (x : Letter). x.from < given.setup.cores) (opening_core (machine_in given) slot c).inbox (empty_core (machine_in given) slot c).0;
  buffers = λ c d l k. none_each (λ (m : Msg). c < given.setup.cores) ((opening_core (machine_in given) slot c).buffers d) ((empty_core (machine_in given) slot c).1 d);
  transits = λ c d l k. tt;
}

all_sent : (n me : ℕ) (ss : List Send) → me < n → Each (λ (s : Send). me < n) ss
all_sent n me [] l = tt
all_sent n me (s ∷ ss) l = (l, all_sent n me ss l)

from_merges : (n from to : ℕ) → Merges (λ (m : Msg). from < n)
from_merges n from to scope one other p q = p

pub senders_stay : laws.SendersStay
senders_stay given w v c got e a f =
    let n = given.setup.cores in
    let P = λ (from to : ℕ) (m : Msg). from < n in
    facts_on n w v c got e a P (from_merges n) (facts_off n w v c got e a P f).1 (all_sent n c e.sends a.here)

pub senders_move : laws.SendersMove
senders_move given w v m f = moved_facts given.setup.cores w v m (λ (from to : ℕ) (m : Msg). from < given.setup.cores) f

pub firsts_have_senders : laws.FirstsHaveSenders
firsts_have_senders given w me from m f first =
    (subst (Each (λ (l : Letter). l.from < given.setup.cores)) first.without.inbox (f.inboxes me first.here)).0
