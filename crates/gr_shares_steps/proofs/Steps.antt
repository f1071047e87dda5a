-- Each piece of an event keeps the part of work.
use Rattle.std.proofs.Common.{◌≡◌, ◌≢◌, ◌⊎◌, ℕ, List, [], ◌∷◌, inl, inr, sym, ◌∙◌, ap, subst, refl}
use Rattle.gr_lang.specs.States.{State}
use Rattle.gr_msg.specs.declared.message.Unit.{Unit as WorkUnit}
use Rattle.gr_work.specs.Queues.{Queues}
use Rattle.gr_net.proofs.Spreads.{put_other, put_each}
use Rattle.gr_machine.specs.States.{Letter, Steals, Body}
use Rattle.gr_machine.specs.Outcomes.{Outcome}
use Rattle.gr_machine.specs.Closes.{closes}
use Rattle.gr_machine.specs.Events.{gives, asks, slot_of, still_waiting, still_public}
use Rattle.gr_machine.specs.Histories.{Sent}
use Rattle.gr_stands.specs.Worlds.{Given, machine_in, World, bodies, Acts}
use Rattle.gr_stands.proofs.Worlds.{acted_bodies, moved_bodies}
use Rattle.gr_stands_calls.specs.Acting.{letter}
use Rattle.gr_stands_steps.specs.Telling.{message_outcome}
use Rattle.gr_stands_made.specs.Pieces.{Piece, ran_at, ended_at}
use Rattle.gr_scopes.specs.Trees.{Names}
use Rattle.gr_shares.specs.Shares.{KeepsNothing}
use Rattle.gr_shares.proofs.Opening.{openings_have_shares}
use Rattle.gr_shares_rows.proofs.Closes.{closes_same}
use Rattle.gr_shares_ranges.proofs.Ranges.{openings_have_ranges}
use Rattle.gr_shares_tells.proofs.Units.{work_tells_steps}
use Rattle.gr_shares_tells.proofs.Counted.{work_tells_scopes}
use Rattle.gr_shares_events.specs.Holding.{WorkHolds, Leads}
use Rattle.gr_shares_events.proofs.Common.{moves_keep_work, scopes_tell_names}
use Rattle.gr_shares_events.proofs.Runs.{runs_keep_work}
use Rattle.gr_shares_events.proofs.Serves.{serves_keep_work, ends_keep_work, closes_keep_work, gives_keep_work, steals_keep_work}
use Rattle.gr_shares_steps.specs.Stepping.{WorkStands}
use Rattle.gr_shares_steps.specs.Laws as laws

-- ---- the cores that have nothing for others while one waits

abbrev OthersKeep : World → ℕ → Type 0
OthersKeep w me = (i : ℕ) → i ≢ me → KeepsNothing (bodies w i)

module _ (given : Given) (w v : World) (me : ℕ) (got : List Letter) (e : Outcome) (acts : Acts given.setup.cores w v me got e) (others : OthersKeep w me) where
  others_keep : OthersKeep v me
  others_keep i ne = subst (λ (X : ℕ → Body). KeepsNothing (X i)) (sym (acted_bodies given.setup.cores w v me got e acts))
      (subst KeepsNothing (sym (put_other (bodies w) me e.body i ne)) (others i ne))

  all_keep : KeepsNothing e.body → (i : ℕ) → KeepsNothing (bodies v i)
  all_keep here i = subst (λ (X : ℕ → Body). KeepsNothing (X i)) (sym (acted_bodies given.setup.cores w v me got e acts))
      (put_each (λ (i : ℕ) (y : Body). KeepsNothing y) (bodies w) me e.body i (λ q. here) (λ q. others i q))

-- Nobody waits any more, or nothing is left to give.
given_out : (cores : List ℕ) (us : List WorkUnit) → (still_waiting cores us ≡ []) ⊎ (still_public cores us ≡ [])
given_out [] us = inl refl
given_out (core ∷ cores) [] = inr refl
given_out (core ∷ cores) (u ∷ us) = given_out cores us

-- It is so at a core whose units for others and whose questions stay.
still_keeps : (b c : Body) → c.work.public ≡ b.work.public → c.steals.waiting ≡ b.steals.waiting → KeepsNothing b → KeepsNothing c
still_keeps b c public waiting (inl z) = inl (waiting ∙ z)
still_keeps b c public waiting (inr z) = inr (public ∙ z)

-- ---- between events, and in their course

pub openings_have_work : laws.OpeningsHaveWork
openings_have_work given names slot = record { shares = openings_have_shares given names slot; ranges = openings_have_ranges given.program given.setup.steps }

-- What holds between events holds in the course of one.
held : (given : Given) (names : Names) (w : World) (S : State) → WorkStands given names w S → WorkHolds given names w S
held given names w S old = record { shares = old.shares.hold; ranges = old.ranges }

ended : (given : Given) (names : Names) (w : World) (S : State) → WorkHolds given names w S → ((i : ℕ) → KeepsNothing (bodies w i)) → WorkStands given names w S
ended given names w S holds all = record { shares = record { hold = holds.shares; gives = all }; ranges = holds.ranges }

-- ---- pieces

led : (given : Given) (sent : Sent) (w v : World) (S N : State) (me : ℕ) (got : List Letter) (e : Outcome) → Piece given sent w v S N me got e → Leads given sent w v S N me got e
led given sent w v S N me got e piece = record { acts = piece.acts; leads = piece.leads }

pub run_pieces_keep_work : laws.RunPiecesKeepWork
run_pieces_keep_work given sent names more w v S N me slots starts piece valid named old =
    let e = ran_at given w me slots in
    record {
      holds = runs_keep_work given sent names more w v S N me (slot_of slots) piece.stood.stands starts.start.tells.actions valid (led given sent w v S N me [] e piece) named (held given names w S old);
      others = others_keep given w v me [] e piece.acts (λ i ne. old.shares.gives i);
    }

pub serve_pieces_keep_work : laws.ServePiecesKeepWork
serve_pieces_keep_work given sent names more w v S N me from m first piece valid named old =
    let e = message_outcome given w me from m in
    let got = letter from m ∷ [] in
    record {
      holds = serves_keep_work given sent names more w v S N me from m first valid (led given sent w v S N me got e piece) named (held given names w S old);
      others = others_keep given w v me got e piece.acts (λ i ne. old.shares.gives i);
    }

pub end_pieces_keep_work : laws.EndPiecesKeepWork
end_pieces_keep_work given sent names more w v S N me m piece valid named old =
    let e = ended_at given w me m in
    record {
      holds = ends_keep_work given sent names more w v S N me m valid (led given sent w v S N me [] e piece) named old.holds;
      others = others_keep given w v me [] e piece.acts old.others;
    }

pub gift_pieces_keep_work : laws.GiftPiecesKeepWork
gift_pieces_keep_work given sent names more w v S me piece named old =
    let body = bodies w me in
    ended given more v S (gives_keep_work given sent names more w v S S me (led given sent w v S S me [] (gives body) piece) named old.holds)
    (all_keep given w v me [] (gives body) piece.acts old.others (given_out body.steals.waiting body.work.public))

pub close_pieces_keep_work : laws.ClosePiecesKeepWork
close_pieces_keep_work given sent names more w v S N me object piece valid named old =
    let body = bodies w me in
    let e = closes (machine_in given) body object in
    let same = closes_same (machine_in given) body object in
    ended given more v N (closes_keep_work given sent names more w v S N me object valid (led given sent w v S N me [] e piece) named (held given names w S old))
    (all_keep given w v me [] e piece.acts (λ i ne. old.shares.gives i)
    (still_keeps body e.body (ap (λ (q : Queues). q.public) same.work) (ap (λ (q : Steals). q.waiting) same.steals) (old.shares.gives me)))

pub steal_pieces_keep_work : laws.StealPiecesKeepWork
steal_pieces_keep_work given sent names more w v S me victim starts piece named old =
    let e = asks victim (bodies w me) in
    ended given more v S (steals_keep_work given sent names more w v S S me victim starts.unasked (led given sent w v S S me [] e piece) named (held given names w S old))
    (all_keep given w v me [] e piece.acts (λ i ne. old.shares.gives i) (still_keeps (bodies w me) e.body refl refl (old.shares.gives me)))

pub move_pieces_keep_work : laws.MovePiecesKeepWork
move_pieces_keep_work given names more w v S m named old =
    ended given more v S (moves_keep_work given names more w v S m named (held given names w S old))
    (λ i. subst (λ (X : ℕ → Body). KeepsNothing (X i)) (sym (moved_bodies given.setup.cores w v m)) (old.shares.gives i))

-- ---- what others tell, and what is told

pub scopes_name_on : laws.ScopesNameOn
scopes_name_on given names more w S named scopes = record { named = named; opened = scopes_tell_names given more w S scopes }

pub work_is_told : laws.WorkIsTold
work_is_told given names w S me here old = (work_tells_steps given names w S me old.shares.hold here, work_tells_scopes given names w S old.shares.hold old.ranges)
