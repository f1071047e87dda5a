-- More names, messages that move, and outcomes that leave the work of their core.
use Rattle.std.proofs.Common.{◌≡◌, ℕ, ◌+◌, List, [], map, sym, ◌∙◌, ap, subst, arith, Some}
use Rattle.gr_lang.specs.States.{State}
use Rattle.gr_lang.specs.Histories.{after}
use Rattle.gr_valid.specs.Valid.{IsValid}
use Rattle.gr_net.specs.Sums.{Each}
use Rattle.gr_net.proofs.Spreads.{Each-weaker}
use Rattle.gr_net.proofs.Flights.{every_with}
use Rattle.gr_machine.specs.States.{Letter, Body}
use Rattle.gr_machine.specs.Outcomes.{Outcome}
use Rattle.gr_machine.specs.Histories.{Sent}
use Rattle.gr_machine.specs.Nets.{messages_in}
use Rattle.gr_stands.specs.Worlds.{Given, World, bodies, in_flight}
use Rattle.gr_stands.proofs.Worlds.{moved_bodies, moved_flow, moved_facts, moved_census}
use Rattle.gr_stands_events.specs.Laws.{WaitersAreCores}
use Rattle.gr_stands_outcomes.specs.Marks.{entries_from}
use Rattle.gr_scopes.specs.Trees.{Holder, Names, holder_of, NamesGrow}
use Rattle.gr_shares.specs.Loops.{Loops, loops_of}
use Rattle.gr_shares.specs.Shares.{covers, units_only, is_question, UnitShares, MessageShares, SharesHold}
use Rattle.gr_shares.specs.ShareActs.{KeepsLoops, asked_by, waits_for}
use Rattle.gr_shares.proofs.Opening.{openings_have_shares}
use Rattle.gr_shares.proofs.Kept.{IsFree, IsFreeIn, units_free, unit_still, message_still}
use Rattle.gr_shares_steals.specs.Sharing.{KeepsShares}
use Rattle.gr_shares_steals.proofs.Common.{keeps_same}
use Rattle.gr_shares_units.specs.Leaving.{IsOfNoShare}
use Rattle.gr_shares_units.proofs.Stay.{shares_stay}
use Rattle.gr_shares_rows.specs.Rows.{LeavesWork}
use Rattle.gr_shares_rows.proofs.Entries.{marks_leave_loops}
use Rattle.gr_shares_ranges.proofs.Ranges.{openings_have_ranges, entries_keep_ranges}
use Rattle.gr_shares_events.specs.Holding.{WorkHolds, Leads}
use Rattle.gr_shares_events.specs.Laws as laws

-- ---- more names

pub hold_named : (given : Given) (names more : Names) (w : World) (L : Loops) → NamesGrow names more → SharesHold given names w L → SharesHold given more w L
hold_named given names more w L named old =
    let keeps : KeepsLoops names more L L = record { named = named; kept = (keeps_same names L old.ranges).kept; stands = old.ranges } in
    let free = units_free given names w L old in
    let still = Each-weaker (UnitShares given names L) (IsFree L) (UnitShares given more L) (unit_still given names more L L keeps) in
    record {
      chunks = old.chunks;
      questions = old.questions;
      private = λ i l. still (bodies w i).work.private (old.private i l) (free.private i l);
      public = λ i l. still (bodies w i).work.public (old.public i l) (free.public i l);
      messages = every_with messages_in (MessageShares given names L) (IsFreeIn L) (MessageShares given more L) given.setup.cores w (message_still given names more L L keeps) old.messages free.messages;
      waiting = old.waiting;
      ranges = old.ranges;
    }

-- ---- messages that move

pub moves_keep_work : laws.MovesKeepWork
moves_keep_work given names more w v S m named old =
    let count = given.setup.cores in
    let L = loops_of S in
    let hold = old.shares in
    let same : bodies v ≡ bodies w = moved_bodies count w v m in
    record {
      shares = hold_named given names more v L named (record {
        chunks = λ owner index. moved_census given w v m (units_only (covers owner index)) ∙ hold.chunks owner index;
        questions = λ asker victim. subst (λ (X : ℕ → Body). in_flight (is_question asker victim) count v + waits_for X asker victim ≡ asked_by X asker victim) (sym same)
            (omega (arith, moved_flow count w v m (is_question asker victim), hold.questions asker victim));
        private = λ i l. subst (λ (X : ℕ → Body). Each (UnitShares given names L) (X i).work.private) (sym same) (hold.private i l);
        public = λ i l. subst (λ (X : ℕ → Body). Each (UnitShares given names L) (X i).work.public) (sym same) (hold.public i l);
        messages = moved_facts count w v m (MessageShares given names L) hold.messages;
        waiting = λ i. subst (λ (X : ℕ → Body). WaitersAreCores given (X i)) (sym same) (hold.waiting i);
        ranges = hold.ranges;
      });
      ranges = old.ranges;
    }

pub openings_hold_work : laws.OpeningsHoldWork
openings_hold_work given names slot = record { shares = (openings_have_shares given names slot).hold; ranges = openings_have_ranges given.program given.setup.steps }

-- ---- names of scopes that are open

some_same : {X : Type 0} (a b : X) → Some a ≡ Some b → a ≡ b
some_same a b e = cc

pub scopes_tell_names : laws.ScopesTellNames
scopes_tell_names given names w S stands core slot task plain at there =
    let held = ((stands.cores core).slots slot task at).held in
    let same : record { scope = plain.scope; opened = plain.opened } ≡ held.holder = some_same (record { scope = plain.scope; opened = plain.opened }) held.holder (sym (ap holder_of there) ∙ held.there) in
    ap (λ (h : Holder). map names h.opened) same ∙ held.opens

-- ---- from outcomes to what is kept

module _ (given : Given) (sent : Sent) (names more : Names) (w v : World) (S T : State) (me : ℕ) (got : List Letter) (e : Outcome) (led : Leads given sent w v S T me got e)
    (named : NamesGrow names more) (old : WorkHolds given names w S) where
  -- What is kept of ranges needs nothing of the outcome.
  pub holds_so : IsValid given.program S → SharesHold given more v (loops_of T) → WorkHolds given more v T
  holds_so valid shares = record {
    shares = shares;
    ranges = (entries_keep_ranges given.program given.setup.cores given.setup.steps S T (entries_from sent me e.marks) valid old.shares.ranges led.leads old.ranges).1;
  }

  -- An outcome that leaves the work of its core.
  pub leaves_hold : IsValid given.program S → LeavesWork (bodies w me).work (bodies w me).steals e → Each (λ letter. IsOfNoShare letter.message) got → WorkHolds given more v T
  leaves_hold valid leaves letters = holds_so valid (shares_stay given names more (loops_of S) (loops_of T) w me got e old.shares led.acts.here
      (record { private = leaves.private; public = leaves.public; steals = leaves.steals; letters = letters; sends = leaves.sends })
      (marks_leave_loops given sent names more S T me e.marks old.shares.ranges named leaves.marks led.leads) v led.acts)

  -- One that leaves no mark, and keeps the part for the plain state.
  pub quietly_holds : e.marks ≡ [] → KeepsShares given w me got e names (loops_of S) → WorkHolds given more v T
  quietly_holds none keeps =
      let same : S ≡ T = some_same S T (sym (ap (λ ms. after given.program given.setup.cores given.setup.steps S (entries_from sent me ms)) none) ∙ led.leads) in
      subst (WorkHolds given more v) same (record { shares = hold_named given names more v (loops_of S) named (keeps v led.acts); ranges = old.ranges })
