-- Each piece of an event keeps the part of scopes.
use Rattle.std.proofs.Common.{◌≡◌, ℕ, List, [], ◌∷◌}
use Rattle.gr_lang.specs.States.{State}
use Rattle.gr_msg.specs.declared.message.Msg.{Msg}
use Rattle.gr_msg.specs.declared.message.Msg.TheVariants as msg
use Rattle.gr_machine.specs.declared.waits.Waits.{Waits}
use Rattle.gr_machine.specs.declared.waits.Waits.TheVariants as wait
use Rattle.gr_machine.specs.States.{Letter}
use Rattle.gr_machine.specs.Outcomes.{Outcome}
use Rattle.gr_machine.specs.Histories.{Sent}
use Rattle.gr_machine.specs.Closes.{closes}
use Rattle.gr_machine.specs.Events.{gives, asks}
use Rattle.gr_stands.specs.Worlds.{Given, machine_in, World, bodies}
use Rattle.gr_stands.specs.Stands.{IsSound}
use Rattle.gr_stands.specs.Calls.{is_told}
use Rattle.gr_stands_calls.specs.Acting.{letter}
use Rattle.gr_stands_steps.specs.Telling.{message_outcome, PartsTell, MessageTells}
use Rattle.gr_stands_made.specs.Pieces.{Piece, ran_at, ended_at, RunStarts, EndStarts}
use Rattle.gr_stands_made.specs.Rows.{RunRows}
use Rattle.gr_stands_made.proofs.Rows.{rows_are_found}
use Rattle.gr_scopes.specs.Trees.{Names, tree_of}
use Rattle.gr_scopes.specs.Scopes.{IsCall, WaitStands, ScopesStand}
use Rattle.gr_scopes.proofs.Kept.{scopes_moved}
use Rattle.gr_scopes_opens.specs.Keeping.{StandsWith}
use Rattle.gr_scopes_tells.specs.Told.{StandsTold}
use Rattle.gr_scopes_runs.specs.Leading.{KeepsGrown, KeepsLeading}
use Rattle.gr_scopes_runs.proofs.Tasks.{tasks_keep_scopes}
use Rattle.gr_scopes_runs.proofs.Units.{singles_lead, splits_lead, indices_lead}
use Rattle.gr_scopes_serves.specs.Serving.{ServeTells, SettleTells}
use Rattle.gr_scopes_serves.proofs.Messages.{messages_lead}
use Rattle.gr_scopes_serves.proofs.Inner.{turn_ends_lead, gifts_lead, closes_lead, steals_lead}
use Rattle.gr_scopes_steps.specs.Stepping.{OthersTell, GrownStand}
use Rattle.gr_scopes_steps.specs.Laws as laws

-- A piece leads on.
piece_keeps : (given : Given) (sent : Sent) (names : Names) (w v : World) (S N : State) (me : ℕ) (got : List Letter) (e : Outcome)
    → Piece given sent w v S N me got e → KeepsLeading given sent names w S me got e → GrownStand given names v N
piece_keeps given sent names w v S N me got e piece leads =
    let k : KeepsGrown given names w me got e N = leads N piece.leads in
    record { more = k.more; grown = k.grown; stands = k.keeps v piece.acts }

-- The world stands where the piece begins, with these names.
with_names : (given : Given) (sent : Sent) (names : Names) (w v : World) (S N : State) (me : ℕ) (got : List Letter) (e : Outcome)
    → Piece given sent w v S N me got e → ScopesStand given names w (tree_of S) → StandsWith given names w S
with_names given sent names w v S N me got e piece scopes = record { stands = piece.stood.stands; scopes = scopes }

-- ---- a Run

rows : (given : Given) (sent : Sent) (names : Names) (w : World) (S : State) (me : ℕ) (slots : List ℕ)
    → IsSound given → RunStarts given sent w S me slots → OthersTell given names w S me → StandsWith given names w S
    → RunRows given w S me slots (KeepsLeading given sent names w S me [])
rows given sent names w S me slots sound starts others st =
    let tells : PartsTell given sent w S me = starts.start.tells in
    let here = starts.start.here in
    let told : StandsTold given names w S = record { stands = st; valid = others.valid; counts = others.counts; indices = others.indices; actions = tells.actions } in
    record {
      task = λ slot more task first stands fits. tasks_keep_scopes given sent names w S me slot more task sound told tells.vectors first;
      single = λ target args scope origin id next free. singles_lead given sent names w S me _ target args scope origin id st here next.next free.free free.low;
      split = λ target args scope origin owner lo hi grain next ok large. splits_lead given sent names w S me target args scope origin owner lo hi grain st here next.next ok.some;
      begin = λ target args scope origin owner lo hi grain next ok small free.
          indices_lead given sent names w S me _ target args scope origin owner lo hi grain st here (others.chunks target args scope origin owner lo hi grain next.next).1 next.next ok.some free.free free.low;
      dropped = λ target args scope origin owner lo hi grain next not. absurd (not (others.chunks target args scope origin owner lo hi grain next.next).0);
    }

pub run_pieces_keep_scopes : laws.RunPiecesKeepScopes
run_pieces_keep_scopes given sent names w v S N me slots sound starts piece others scopes =
    let st : StandsWith given names w S = with_names given sent names w v S N me [] (ran_at given w me slots) piece scopes in
    piece_keeps given sent names w v S N me [] (ran_at given w me slots) piece
    (rows_are_found given sent w S me slots (KeepsLeading given sent names w S me []) piece.stood.stands starts (rows given sent names w S me slots sound starts others st))

-- ---- a Serve

serve_tells : (given : Given) (sent : Sent) (names : Names) (w : World) (S : State) (me : ℕ) → OthersTell given names w S me
    → (from : ℕ) (m : Msg) → MessageTells given sent w S me from m → ServeTells w me from m
serve_tells given sent names w S me others from (msg.Enrol scope) f = others.masters scope
serve_tells given sent names w S me others from (msg.StealGive work) f = f
serve_tells given sent names w S me others from (msg.BatchReply batch before) f = others.batches batch
serve_tells given sent names w S me others from _ f = tt

pub serve_pieces_keep_scopes : laws.ServePiecesKeepScopes
serve_pieces_keep_scopes given sent names w v S N me from m starts first piece others scopes =
    let got = letter from m ∷ [] in
    let e = message_outcome given w me from m in
    piece_keeps given sent names w v S N me got e piece
    (messages_lead given sent names w S me from m (with_names given sent names w v S N me got e piece scopes) first
    (serve_tells given sent names w S me others from m (starts.tells.messages from m first)))

settle_tells : (v : World) (N : State) (me : ℕ) (m : Msg) → EndStarts v N me m → SettleTells v N me m
settle_tells v N me (msg.Grant vector head tail) f = f
settle_tells v N me (msg.ElemAck vector position got) f = f
settle_tells v N me _ f = tt

pub end_pieces_keep_scopes : laws.EndPiecesKeepScopes
end_pieces_keep_scopes given sent names w v S N me m told piece scopes =
    let e = ended_at given w me m in
    piece_keeps given sent names w v S N me [] e piece
    (turn_ends_lead given sent names w S me m (with_names given sent names w v S N me [] e piece scopes) piece.acts.here (settle_tells w S me m told))

-- ---- the other pieces

pub gift_pieces_keep_scopes : laws.GiftPiecesKeepScopes
gift_pieces_keep_scopes given sent names w v S me piece scopes =
    let e = gives (bodies w me) in
    piece_keeps given sent names w v S S me [] e piece (gifts_lead given sent names w S me (with_names given sent names w v S S me [] e piece scopes) piece.acts.here)

pub close_pieces_keep_scopes : laws.ClosePiecesKeepScopes
close_pieces_keep_scopes given sent names w v S N me object starts piece scopes =
    let e = closes (machine_in given) (bodies w me) object in
    piece_keeps given sent names w v S N me [] e piece
    (closes_lead given sent names w S me object (with_names given sent names w v S N me [] e piece scopes) piece.acts.here (starts.tells.closes object))

pub steal_pieces_keep_scopes : laws.StealPiecesKeepScopes
steal_pieces_keep_scopes given sent names w v S me victim piece scopes =
    let e = asks victim (bodies w me) in
    piece_keeps given sent names w v S S me [] e piece (steals_lead given sent names w S me victim (with_names given sent names w v S S me [] e piece scopes) piece.acts.here)

pub move_pieces_keep_scopes : laws.MovePiecesKeepScopes
move_pieces_keep_scopes given names w v S moves scopes =
    record { more = names; grown = λ number scope f. f; stands = scopes_moved given names (tree_of S) w v moves scopes }

-- ---- calls

pub askers_call : laws.AskersMakeCalls
askers_call given names w tree core slot task scopes there told = by task.waits ((scopes.cores core).slots slot task there).waits told
  where
    by : (x : Waits) → WaitStands given (bodies w core) slot task x → is_told x ≡ 1 → IsCall task.action
    by wait.Reply f e = f
    by (wait.Batch batch) f e = f
    by wait.Going f e = absurd (cc)
    by wait.Nothing f e = absurd (cc)
    by (wait.Enrolment scope) f e = absurd (cc)
    by (wait.Scope scope) f e = absurd (cc)
    by _ f e = absurd (cc)
