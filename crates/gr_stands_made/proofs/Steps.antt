-- Each step is made of pieces.
use Rattle.std.proofs.Common.{◌≡◌, ◌<◌, ◌==◌, ◌&&◌, ℕ, List, [], ◌∷◌, ◌++◌, not, sym, ◌∙◌, ap, subst, refl}
use Rattle.std.specs.Prelude.{true, false, nat_lt, Some}
use Rattle.std.proofs.lemmas.Bool.{and_parts}
use Rattle.std.proofs.lemmas.List.{append-nil}
use Rattle.gr_lang.specs.States.{State}
use Rattle.gr_lang.specs.Histories.{after}
use Rattle.gr_work.specs.Queues.{is_empty}
use Rattle.gr_net.specs.Sums.{Each}
use Rattle.gr_machine.specs.declared.event.Event.{Event}
use Rattle.gr_machine.specs.declared.event.Event.TheVariants as event
use Rattle.gr_machine.specs.declared.journal.StampedMark.{StampedMark}
use Rattle.gr_machine.specs.declared.mark.Mark.{Mark}
use Rattle.gr_machine.specs.Machines.{Machine, is_core}
use Rattle.gr_machine.specs.States.{Letter, Body, Core}
use Rattle.gr_machine.specs.Outcomes.{Outcome, followed}
use Rattle.gr_machine.specs.Histories.{Sent}
use Rattle.gr_machine.specs.Serves.{settles}
use Rattle.gr_machine.specs.Closes.{closes}
use Rattle.gr_machine.specs.Enabled.{has_no_work, is_other, is_idle}
use Rattle.gr_machine.specs.Events.{gives, asks, slot_of}
use Rattle.gr_machine.specs.GlobalRuns as runs
use Rattle.gr_machine.specs.Nets.{world_in}
use Rattle.gr_machine.proofs.Clocks.{some_same}
use Rattle.gr_stands.specs.Worlds.{Given, machine_in, World, bodies, Acts, Moves}
use Rattle.gr_stands.specs.Stands.{IsSound}
use Rattle.gr_stands.proofs.Worlds.{acted_bodies}
use Rattle.gr_stands.proofs.Events.{ships_move, takes_move}
use Rattle.gr_stands_calls.specs.Acting.{letter, IsFirstLetter}
use Rattle.gr_stands_changes.proofs.Units.{steals_are_asked}
use Rattle.gr_stands_events.specs.Laws.{WaitersAreCores}
use Rattle.gr_stands_outcomes.specs.Inner.{outcome_of, with_gifts, run_outcome, and_settled, serve_outcome, first_of}
use Rattle.gr_stands_outcomes.specs.Marks.{sent_from, entries_from}
use Rattle.gr_stands_outcomes.specs.Laws.{IsOutcome, IsInner}
use Rattle.gr_stands_outcomes.proofs.Inner.{inner_events_are_outcomes, outcomes_come_apart}
use Rattle.gr_stands_outcomes.proofs.Marks.{batches_go_off}
use Rattle.gr_stands_steps.specs.Entries.{ActsWithMarks, StandsAmongCores, StepStands}
use Rattle.gr_stands_steps.specs.Telling.{message_outcome, PartsTell, SlotsFit}
use Rattle.gr_stands_steps.proofs.Waiters.{runs_keep_waiters, messages_keep_waiters, serves_keep_waiters, closes_keep_waiters}
use Rattle.gr_stands_steps.proofs.Marks.{of_quiet, gifts_follow}
use Rattle.gr_stands_steps.proofs.Runs.{runs_act}
use Rattle.gr_stands_steps.proofs.Serves.{first_is, messages_act, serves_act}
use Rattle.gr_stands_steps.proofs.Steps.{lower, entry_of, GoesBy, stands_after, closes_act, ship_leaves, take_leaves}
use Rattle.gr_stands_made.specs.Pieces.{Piece, Starts, RunStarts, StealStarts, ran_at, ended_at, RunMade, ServeMade, CloseMade, StealMade, MoveMade, StepMade}
use Rattle.gr_stands_made.specs.Laws as laws
use Rattle.gr_stands_made.proofs.Marks.{marks_are}
use Rattle.gr_stands_made.proofs.Pieces.{body_after, is_piece, piece_to, gifts_are, one_next, leads_then, is_not, may, it_starts, end_starts}

module _ (given : Given) (sent : Sent) (before later : runs.World) (S : State) (me clock : ℕ) (slots : List ℕ) (sound : IsSound given)
    (all : StandsAmongCores given (world_in before) S) (tells : PartsTell given sent (world_in before) S me) (fit : SlotsFit given slots)
    (made : StepStands given before later me clock S sent) where
  abbrev machine : Machine
  machine = machine_in given

  abbrev n : ℕ
  n = given.setup.cores

  abbrev w : World
  w = world_in before

  abbrev v : World
  v = world_in later

  abbrev core : Core
  core = (before.states me).core

  abbrev body : Body
  body = bodies w me

  abbrev Goes : Event → Type 0
  Goes what = GoesBy given before later me clock slots what

  abbrev Left : Event → Type 0
  Left what = StepMade given sent w v S made.next me slots made.marks what

  -- An outcome that leaves these marks is that of the step.
  marks_of_step : (got : List Letter) (e : Outcome) → IsOutcome machine before later me clock got e → made.marks ≡ e.marks
  marks_of_step got e o = marks_are me clock before.marks later.marks made.marks e.marks made.longer o.marks

  -- ---- a Run

  run : Goes event.Run → Left event.Run
  run h =
      let i : IsInner machine before later me (entry_of clock event.Run slots) = inner_events_are_outcomes machine before later me (entry_of clock event.Run slots) refl h in
      let here = i.made.here in
      let e : Outcome = ran_at given w me slots in
      let row : ActsWithMarks given sent w S me [] e = runs_act given sent w S me slots sound all.stands tells here fit i.free in
      let waiters : WaitersAreCores given e.body = runs_keep_waiters given me (slot_of slots) body.tasks.ready body (all.waiters me) in
      let whole : ActsWithMarks given sent w S me [] (with_gifts e) = gifts_follow given sent w S me [] e here waiters row in
      let apart = outcomes_come_apart n w v me [] e (gives e.body) (i.made.acts whole.sends) in
      let left : made.marks ≡ e.marks = marks_of_step [] (with_gifts e) i.made ∙ append-nil e.marks in
      let same : row.next ≡ made.next = one_next given sent S row.next made.next me e.marks made.marks (sym left) row.leads made.leads in
      let ran : Piece given sent w apart.between S made.next me [] e = piece_to given sent w apart.between S row.next made.next me [] e same (is_piece given sent w apart.between S me [] e all apart.begins row waiters) in
      record {
        start = record {
          start = it_starts given sent w S me core event.Run i.enabled refl here tells;
          work = is_not (has_no_work body) (may given sent w S me core event.Run i.enabled);
          fit = fit;
          free = i.free;
        };
        left = left;
        between = apart.between;
        ran = ran;
        gave = gifts_are given (sent_from sent me e.marks) apart.between v made.next me e.body (body_after n w apart.between me [] e apart.begins) ran.stands made.stands apart.follows;
      }

  -- ---- a Serve

  abbrev one : Letter → List Letter
  one l = letter l.from l.message ∷ []

  serve_first : Starts given sent w S me → (l : Letter) (ls : List Letter) → core.inbox ≡ l ∷ ls → me < n
      → IsOutcome machine before later me clock (one l) (with_gifts (serve_outcome machine me body (l ∷ ls)))
      → ActsWithMarks given sent w S me (one l) (serve_outcome machine me body (l ∷ ls)) → Left event.Serve
  serve_first start l ls is here o row =
      let m = l.message in
      let got = one l in
      let first : Outcome = message_outcome given w me l.from m in
      let second : Outcome = outcome_of first.body (settles machine first.body m) in
      let e : Outcome = followed first second in
      let is_first : IsFirstLetter given w me l.from m = first_is given w me l ls here is in
      let sender : l.from < n = (subst (Each (λ (x : Letter). x.from < n)) is (all.senders.inboxes me here)).0 in
      let found : ActsWithMarks given sent w S me got first = messages_act given sent w S me l.from m sound all tells is_first in
      let found_waiters : WaitersAreCores given first.body = messages_keep_waiters given me l.from m body (all.waiters me) sender in
      let waiters : WaitersAreCores given e.body = serves_keep_waiters given me l.from m body (all.waiters me) sender in
      let whole : ActsWithMarks given sent w S me got (with_gifts e) = gifts_follow given sent w S me got e here waiters row in
      let last = outcomes_come_apart n w v me got e (gives e.body) (o.acts whole.sends) in
      let apart = outcomes_come_apart n w last.between me got first second last.begins in
      let left : made.marks ≡ e.marks = marks_of_step got (with_gifts e) o ∙ append-nil e.marks in
      let same : row.next ≡ made.next = one_next given sent S row.next made.next me e.marks made.marks (sym left) row.leads made.leads in
      let served : Piece given sent w apart.between S found.next me got first = is_piece given sent w apart.between S me got first all apart.begins found found_waiters in
      let ended : Piece given sent w last.between S made.next me got e = piece_to given sent w last.between S row.next made.next me got e same (is_piece given sent w last.between S me got e all last.begins row waiters) in
      let at : bodies apart.between me ≡ first.body = body_after n w apart.between me got first apart.begins in
      let ended_body : bodies last.between me ≡ second.body = body_after n w last.between me got e last.begins in
      let settled : Piece given (sent_from sent me first.marks) apart.between last.between found.next made.next me [] second = record {
        acts = apart.follows;
        leads = leads_then given sent S found.next made.next me first.marks second.marks found.leads ended.leads;
        stood = served.stands;
        stands = ended.stands;
      } in
      let as_ended : ended_at given apart.between me m ≡ second = ap (λ (b : Body). outcome_of b (settles machine b m)) at in
      record {
        start = start;
        from = l.from;
        message = m;
        first = is_first;
        between = apart.between;
        middle = found.next;
        served = served;
        told = end_starts given sent w S me l.from sound all tells apart.between found.next m is_first (tells.messages l.from m is_first) found.leads
            (acted_bodies n w apart.between me got first apart.begins);
        ended = last.between;
        settled = subst (Piece given (sent_from sent me first.marks) apart.between last.between found.next made.next me []) (sym as_ended) settled;
        left = ap (sent_from sent me) left ∙ batches_go_off sent me first.marks second.marks ∙ ap (λ (x : Outcome). sent_from (sent_from sent me first.marks) me x.marks) (sym as_ended);
        gave = gifts_are given (sent_from sent me made.marks) last.between v made.next me e.body ended_body ended.stands made.stands last.follows;
      }

  none_enabled : (inbox : List Letter) → inbox ≡ [] → not (is_empty inbox) ≡ true → ⊥
  none_enabled [] e h = absurd (cc)
  none_enabled (l ∷ ls) e h = absurd (cc)

  serve : Goes event.Serve → Left event.Serve
  serve h =
      let i : IsInner machine before later me (entry_of clock event.Serve slots) = inner_events_are_outcomes machine before later me (entry_of clock event.Serve slots) refl h in
      let start : Starts given sent w S me = it_starts given sent w S me core event.Serve i.enabled refl i.made.here tells in
      by i core.inbox refl i.made.here start i.made (serves_act given sent w S me sound all tells i.made.here)
    where
      by : (i : IsInner machine before later me (entry_of clock event.Serve slots)) (inbox : List Letter) → core.inbox ≡ inbox → me < n → Starts given sent w S me
          → IsOutcome machine before later me clock (first_of core.inbox) (with_gifts (serve_outcome machine me body core.inbox))
          → ActsWithMarks given sent w S me (first_of core.inbox) (serve_outcome machine me body core.inbox) → Left event.Serve
      by i [] e here start o row = absurd (none_enabled core.inbox e (may given sent w S me core event.Serve i.enabled))
      by i (l ∷ ls) e here start o row = serve_first start l ls e here
          (subst (λ (ms : List Letter). IsOutcome machine before later me clock (first_of ms) (with_gifts (serve_outcome machine me body ms))) e o)
          (subst (λ (ms : List Letter). ActsWithMarks given sent w S me (first_of ms) (serve_outcome machine me body ms)) e row)

  -- ---- a Close and a Steal

  close : (object : ℕ) → Goes (event.Close object) → Left (event.Close object)
  close object h =
      let what : Event = event.Close object in
      let i : IsInner machine before later me (entry_of clock what slots) = inner_events_are_outcomes machine before later me (entry_of clock what slots) refl h in
      let e : Outcome = closes machine body object in
      let row : ActsWithMarks given sent w S me [] e = closes_act given sent w S me object sound all.stands tells i.made.here in
      let left : made.marks ≡ e.marks = marks_of_step [] e i.made in
      let same : row.next ≡ made.next = one_next given sent S row.next made.next me e.marks made.marks (sym left) row.leads made.leads in
      record {
        start = it_starts given sent w S me core what i.enabled refl i.made.here tells;
        left = left;
        closed = piece_to given sent w v S row.next made.next me [] e same
            (is_piece given sent w v S me [] e all (i.made.acts row.sends) row (closes_keep_waiters given body object (all.waiters me)));
      }

  -- Where nothing is left, the plain state stays.
  stays : made.marks ≡ [] → made.next ≡ S
  stays none = one_next given sent S made.next S me made.marks [] none made.leads refl

  steal : (victim : ℕ) → Goes (event.Steal victim) → Left (event.Steal victim)
  steal victim h =
      let what : Event = event.Steal victim in
      let i : IsInner machine before later me (entry_of clock what slots) = inner_events_are_outcomes machine before later me (entry_of clock what slots) refl h in
      let e : Outcome = asks victim body in
      let asked = and_parts (is_other machine me victim && is_idle machine core) (not (core.body.steals.asked victim)) (may given sent w S me core what i.enabled) in
      let other = and_parts (not (victim == me)) (is_core machine victim) (and_parts (is_other machine me victim) (is_idle machine core) asked.0).0 in
      let there : victim < n = lower victim n other.1 in
      let row : ActsWithMarks given sent w S me [] e = of_quiet given sent w S me [] body (Some e) (steals_are_asked given w S me victim all.stands i.made.here there) in
      let left : made.marks ≡ [] = marks_of_step [] e i.made in
      record {
        start = record {
          start = it_starts given sent w S me core what i.enabled refl i.made.here tells;
          there = there;
          other = is_not (victim == me) other.0;
          unasked = is_not (core.body.steals.asked victim) asked.1;
        };
        left = left;
        same = stays left;
        asked = record { acts = i.made.acts row.sends; leads = refl; stood = all; stands = subst (StandsAmongCores given v) (stays left) made.stands };
      }

  -- ---- a Ship and a Take

  move : Moves n w v → later.marks ≡ before.marks ++ [] → MoveMade given w v S made.next made.marks
  move moves marks =
      let left : made.marks ≡ [] = marks_are me clock before.marks later.marks made.marks [] made.longer marks in
      record { left = left; same = stays left; moved = moves; stood = all; stands = subst (StandsAmongCores given v) (stays left) made.stands }

  pub step_made : (what : Event) → Goes what → Left what
  step_made event.Run h = run h
  step_made event.Serve h = serve h
  step_made (event.Close object) h = close object h
  step_made (event.Steal victim) h = steal victim h
  step_made (event.Ship dest) h = move (ships_move machine before later me dest clock slots h) (ship_leaves given before later me clock slots dest h)
  step_made (event.Take from) h = move (takes_move machine before later me from clock slots h) (take_leaves given before later me clock slots from h)

pub steps_are_made : laws.StepsAreMade
steps_are_made given sent before later S me entry sound all tells fit h made =
    step_made given sent before later S me entry.clock entry.slots sound all tells fit made entry.event h
