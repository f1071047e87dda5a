-- Each message that comes first finds what it acts on.
use Rattle.std.proofs.Common.{◌≡◌, ℕ, ◌+◌, ◌<◌, ◌&&◌, ◌||◌, ◌^◌, Bool, true, false, not, nat_lt, if◌then◌else◌, List, [], ◌∷◌, length, inl}
use Rattle.std.proofs.Common.{inr, ◌∙◌, ap, subst, refl, arith, Option, Some, None, is_some}
use Rattle.std.specs.List.{list_any}
use Rattle.std.specs.Option.{option_len}
use Rattle.std.proofs.lemmas.Bool.{cases_eq}
use Rattle.std.proofs.lemmas.Bool.Decides.{nat_tests}
use Rattle.gr_lang.specs.declared.action.WaitingCall.{WaitingCall}
use Rattle.gr_msg.specs.declared.message.Msg.{Msg}
use Rattle.gr_msg.specs.declared.message.Msg.TheVariants as msg
use Rattle.gr_msg.specs.declared.message.ScopeId.{ScopeId}
use Rattle.gr_msg.specs.declared.message.Unit.{Unit as WorkUnit}
use Rattle.gr_event.specs.declared.masters.Master.{Master}
use Rattle.gr_event.specs.declared.masters.Waiter.{Waiter}
use Rattle.gr_event.specs.declared.masters.Waiter.TheVariants as waiter
use Rattle.gr_agg.specs.Buffers.{add_last}
use Rattle.gr_vector.specs.declared.ends.Ends.{Ends}
use Rattle.gr_vector.specs.declared.kind.Kind.TheVariants as kind
use Rattle.gr_vector.specs.Groups.{calls_of}
use Rattle.gr_net.specs.Sums.{Each}
use Rattle.gr_net.specs.Worlds.{put_core, acted}
use Rattle.gr_net.specs.Flights.{Everywhere}
use Rattle.gr_machine.specs.Machines.{Machine, thing}
use Rattle.gr_machine.specs.Openings.{is_vector}
use Rattle.gr_machine.specs.States.{Letter, Turn, Vector, Body}
use Rattle.gr_machine.specs.Outcomes.{quietly}
use Rattle.gr_machine.specs.Nets.{messages_in}
use Rattle.gr_machine.specs.Serves.{serves}
use Rattle.gr_machine.specs.ScopeServes.{spawned, core_enrolled_at, waits_here}
use Rattle.gr_machine.specs.BatchServes.{is_reduce}
use Rattle.gr_stands.specs.Worlds.{Given, machine_in, World, bodies, Acts}
use Rattle.gr_stands_calls.specs.Acting.{letter, IsFirstLetter}
use Rattle.gr_stands_calls.proofs.Made.{requests_are_made}
use Rattle.gr_stands_calls.proofs.Asked.{replies_are_taken}
use Rattle.gr_scopes.specs.Trees.{Names}
use Rattle.gr_scopes.specs.Scopes.{WaiterStands, IsWaitedForBy}
use Rattle.gr_scopes_opens.specs.Keeping.{StandsWith}
use Rattle.gr_scopes_leaves.proofs.Completed.{completes_keep_scopes}
use Rattle.gr_scopes_leaves.proofs.Left.{leaves_find_masters, last_leaves_release, leaves_keep_scopes, waiters_pass, runs_end}
use Rattle.gr_scopes_enrols.proofs.Asked.{enrols_find_masters}
use Rattle.gr_scopes_enrols.proofs.Acked.{acks_find_slots, acks_keep_scopes}
use Rattle.gr_shares_steals.proofs.Questions.{gifts_are_expected}
use Rattle.gr_shares.specs.Loops.{loops_of}
use Rattle.gr_batches.specs.Batches.{ReplyStands, MessageStands}
use Rattle.gr_batches_takes.proofs.Takes.{batches_take_effect}
use Rattle.gr_batches_events.proofs.Comes.{awaited, wakes}
use Rattle.gr_lines.specs.Lines.{vector_in}
use Rattle.gr_lines_steps.specs.Behind.{GrantTells}
use Rattle.gr_lines_tokens.specs.Granting.{IsToken, PushesFit, GrantFits, IsMade}
use Rattle.gr_lines_tokens.proofs.Granted.{no_turn, where_granted}
use Rattle.gr_lines_tokens.proofs.Served.{tokens_served}
use Rattle.gr_elements_acts.specs.Holding.{IsElement}
use Rattle.gr_elements_acts.proofs.Served.{elements_served}
use Rattle.gr_fits_objects.proofs.Few.{heap_apart}
use Rattle.gr_stands_finds.proofs.Vectors.{IsOff}
use Rattle.gr_stands_finds.proofs.Runs.{HasRun}

no_group : (calls : List WaitingCall) (more : List (List WaitingCall)) → [] ≡ calls ∷ more → ⊥
no_group calls more e = cc

lower : (a b : ℕ) → nat_lt a b ≡ true → a < b
lower a b e = grind (arith, nat_tests, e)

module _ (given : Given) (w : World) (r : HasRun given w) (me from : ℕ) (m : Msg) (first : IsFirstLetter given w me from m) where
  abbrev machine : Machine
  machine = machine_in given

  abbrev body : Body
  body = bodies w me

  abbrev names : Names
  names = r.parts.names

  pub stands : StandsWith given names w r.state
  stands = record { stands = r.all.stands; scopes = r.parts.scopes }

  -- A fact of each message in flight is one of the first.
  of_first : (P : ℕ → ℕ → Msg → Type 0) → Everywhere messages_in P given.setup.cores w → P from me m
  of_first P every = (subst (Each (λ (l : Letter). P l.from me l.message)) first.without.inbox (every.inboxes me first.here)).0

  -- ---- a message of a turn or of an element

  -- It is taken up, and nothing is done.
  quiet : Acts given.setup.cores w (put_core w me (acted add_last me first.core (Some (quietly body)))) me (letter from m ∷ []) (quietly body)
  quiet = record { here = first.here; core = first.core; without = first.without; sends = tt; world = refl }

  vector_is : (number : ℕ) → (IsOff number m → ⊥) → is_vector (thing machine number) ≡ true
  vector_is number on = by (is_vector (thing machine number)) refl
    where
      by : (b : Bool) → is_vector (thing machine number) ≡ b → b ≡ true
      by true e = refl
      by false e = absurd (on (of_first (λ source to message. IsOff number message) (r.named number e)))

  element : (number : ℕ) → (IsOff number m → ⊥) → IsElement number m → IsMade (serves machine me body from m)
  element number on is =
      let there = vector_is number on in
      elements_served given w _ number me from m (quietly body) (r.parts.ends number) (r.parts.words number) quiet (r.parts.lines me) there r.parts.elements.own
      (r.parts.turns number there) (r.parts.elements.vectors number there) is

  token : (number : ℕ) → (IsOff number m → ⊥) → (is_vector (thing machine number) ≡ true → GrantFits body number (r.parts.ends number) m) → IsToken number m
      → IsMade (serves machine me body from m)
  token number on fits is =
      let there = vector_is number on in
      tokens_served given w _ number me from m (quietly body) (r.parts.ends number) quiet (r.parts.lines me) there (fits there) (r.parts.turns number there) is

-- What a granted turn pushes fits.
module _ (given : Given) (w : World) (r : HasRun given w) (me from number head tail : ℕ) (first : IsFirstLetter given w me from (msg.Grant number head tail))
  where
    abbrev ends : Ends
    ends = r.parts.ends number

    pushes_fit : is_vector (thing (machine_in given) number) ≡ true → PushesFit (bodies w me) number ends
    pushes_fit is calls more groups = by ((bodies w me).vectors.vectors number) refl groups
      where
        told : GrantTells given w me (msg.Grant number head tail)
        told = r.guards.grants me from (msg.Grant number head tail) first

        by : (held : Option Vector) → (bodies w me).vectors.vectors number ≡ held → (vector_in held).groups ≡ calls ∷ more
            → ends.tail + length (calls_of kind.Push calls) < 2 ^ 64
        by None there g = absurd (no_group calls more g)
        by (Some vector) there g = by_turn vector.turn refl
          where
            by_turn : (turn : Option Turn) → vector.turn ≡ turn → ends.tail + length (calls_of kind.Push calls) < 2 ^ 64
            by_turn (Some turn) mine = absurd (omega (
              arith,
              no_turn given w _ number me ends (r.parts.turns number is) head tail from (quietly (bodies w me))
                  (quiet given w r me from (msg.Grant number head tail) first),
              ap (λ (o : Option Vector). option_len (vector_in o).turn) there,
              ap option_len mine,
            ))
            by_turn None mine = subst (λ (k : ℕ). k + length (calls_of kind.Push calls) < 2 ^ 64)
                (where_granted given w _ number me ends (r.parts.turns number is) head tail from (quietly (bodies w me))
                (quiet given w r me from (msg.Grant number head tail) first)).1
                (lower (tail + length (calls_of kind.Push calls)) (2 ^ 64) (told vector calls more there mine g))

-- ---- a message of a batch

module _ (given : Given) (w : World) (r : HasRun given w) (me from batch : ℕ) (before : Option ℕ)
    (first : IsFirstLetter given w me from (msg.BatchReply batch before)) where
  comes_back : IsMade (serves (machine_in given) me (bodies w me) from (msg.BatchReply batch before))
  comes_back =
      let f : ReplyStands given (bodies w) r.state me batch before =
      of_first given w r me from (msg.BatchReply batch before) first (MessageStands given (bodies w) r.state) r.parts.batches.messages in
      let cores = r.parts.batches.cores me in
      record {
        outcome = _;
        is = wakes (machine_in given) (bodies w me) batch before f.calls cores f.there
            (ap (λ (t : Bool). t && (is_some before || not (list_any (λ call. is_reduce call.op) f.calls)))
            (awaited (machine_in given) (bodies w me) batch before f.calls cores f.there f.calls (cores.callers batch f.calls f.there)) ∙ f.word);
      }

-- ---- a core that leaves a scope

module _ (given : Given) (w : World) (r : HasRun given w) (me from : ℕ) (scope : ScopeId) (first : IsFirstLetter given w me from (msg.Leave scope)) where
  abbrev Leaves : Type 0
  Leaves = IsMade (serves (machine_in given) me (bodies w me) from (msg.Leave scope))

  leaves : Leaves
  leaves =
      let st = stands given w r me from (msg.Leave scope) first in
      let f = leaves_find_masters given r.parts.names w r.state me from scope st first in
      elim (cases_eq f.0.active 1) [
        | inl one ↦ last f.0 f.1 one f.0.waiter refl
        | inr ne ↦ let made = leaves_keep_scopes given r.parts.names w r.state me from scope f.0 st first f.1 ne in
            record { outcome = made.outcome; is = made.acts }
      ]
    where
      last : (master : Master) → (bodies w me).scopes.masters scope ≡ Some master → master.active ≡ 1 → (who : Option Waiter) → master.waiter ≡ who → Leaves
      last master there one None e =
          absurd (last_leaves_release given r.parts.names w r.state me from scope master (stands given w r me from (msg.Leave scope) first) first there one e)
      last master there one (Some waiter.Root) e =
          let made = runs_end given r.parts.names w r.state me from scope master (stands given w r me from (msg.Leave scope) first) first there one e in
          record { outcome = made.outcome; is = made.acts }
      last master there one (Some (waiter.Task slot)) e =
          let by : IsWaitedForBy (bodies w me) scope slot =
          subst (WaiterStands (bodies w me) scope) e ((r.parts.scopes.cores me).masters scope master there).waiter in
          let held = ((r.parts.scopes.cores me).slots slot by.task by.there).held in
          let made = waiters_pass given r.parts.names w r.state me from scope master slot by.task held.holder
          (stands given w r me from (msg.Leave scope) first) first there one e by.there held.there in
          record { outcome = made.outcome; is = made.acts }

-- ---- each message

module _ (given : Given) (w : World) (r : HasRun given w) (me from : ℕ) where
  abbrev First : Msg → Type 0
  First m = IsFirstLetter given w me from m

  enrols : (scope : ScopeId) → First (msg.Enrol scope) → IsMade (serves (machine_in given) me (bodies w me) from (msg.Enrol scope))
  enrols scope first =
      let f = enrols_find_masters given r.parts.names w r.state me from scope (stands given w r me from (msg.Enrol scope) first) first in
      let e = core_enrolled_at (bodies w me) from scope ((bodies w me).scopes.masters scope) in
      record { outcome = e; is = ap (λ (b : Bool). if b then Some e else None) (r.guards.masters me scope (ap is_some f.1)) }

  gives_unit : (work : WorkUnit) → First (msg.StealGive work) → IsMade (serves (machine_in given) me (bodies w me) from (msg.StealGive work))
  gives_unit work first =
      let made = (gifts_are_expected given r.parts.names (loops_of r.state) w me from work r.parts.work.shares.hold first).1 in
      record { outcome = made.outcome; is = made.acts }

  pub served : (m : Msg) → First m → IsMade (serves (machine_in given) me (bodies w me) from m)
  served (msg.Request slot id operation x y z) first =
      let made = requests_are_made given w r.state me from slot id operation x y z r.sound r.all.stands first in
      record { outcome = made.outcome; is = made.acts }
  served (msg.Reply slot id one two) first = let made = replies_are_taken given w r.state me from slot id one two r.sound r.all.stands first in
      record { outcome = made.outcome; is = made.acts }
  served (msg.Spawn work) first = record { outcome = spawned (bodies w me) work; is = refl }
  served (msg.Enrol scope) first = enrols scope first
  served (msg.EnrolAck scope) first =
      let st = stands given w r me from (msg.EnrolAck scope) first in
      let f = acks_find_slots given r.parts.names w r.state me from scope st first in
      let made = acks_keep_scopes given r.parts.names w r.state me from scope f.0 f.1 st first f.2 in record { outcome = made.outcome; is = made.acts }
  served (msg.Complete scope tasks) first =
      let made = completes_keep_scopes given r.parts.names w r.state me from scope tasks (stands given w r me from (msg.Complete scope tasks) first) first in
      record { outcome = made.outcome; is = made.acts }
  served (msg.Leave scope) first = leaves given w r me from scope first
  served msg.StealAsk first = record { outcome = waits_here (bodies w me) from; is = refl }
  served (msg.StealGive work) first = gives_unit work first
  served (msg.Batch object key effect batch) first =
      let made = batches_take_effect given r.sent w r.state me from object key effect batch r.sound (heap_apart given r.accepted.accepted) r.all.stands
      r.parts.batches first in
      record { outcome = made.outcome; is = made.acts }
  served (msg.BatchReply batch before) first = comes_back given w r me from batch before first
  served (msg.Turn vector) first = token given w r me from (msg.Turn vector) first vector (λ off. off.0 refl) (λ is. tt) refl
  served (msg.Grant vector head tail) first =
      token given w r me from (msg.Grant vector head tail) first vector (λ off. off.0 refl) (λ is. pushes_fit given w r me from vector head tail first is) refl
  served (msg.Done vector head tail) first = token given w r me from (msg.Done vector head tail) first vector (λ off. off.0 refl) (λ is. tt) refl
  served (msg.ElemPut vector position word) first = element given w r me from (msg.ElemPut vector position word) first vector (λ off. off.1 refl) refl
  served (msg.ElemGet vector position) first = element given w r me from (msg.ElemGet vector position) first vector (λ off. off.1 refl) refl
  served (msg.ElemAck vector position got) first = element given w r me from (msg.ElemAck vector position got) first vector (λ off. off.1 refl) refl
