-- A turn begins, and a turn ends: what is sent and marked goes one by one.
use Rattle.std.proofs.Common.{◌≡◌, ℕ, Bool, true, if◌then◌else◌, List, [], ◌∷◌, ◌++◌, drop, Option, Some, None, refl, sym, ap, ◌∙◌, eq-eqb}
use Rattle.std.specs.Prelude.{slice_get, unwrap_or, is_some, false}
use Rattle.std.specs.Option.{option_map}
use Rattle.gr_lang.specs.declared.action.Reply.{Reply}
use Rattle.gr_lang.specs.declared.action.WaitingCall.{WaitingCall}
use Rattle.gr_msg.specs.declared.message.Msg.TheVariants as msg
use Rattle.gr_vector.specs.declared.ends.Ends.{Ends}
use Rattle.gr_vector.specs.declared.turn_plan.Plan.{Plan}
use Rattle.gr_vector.specs.Plans.{ends_after, plan_of}
use Rattle.gr_machine.specs.Machines.{Machine, numbered_home}
use Rattle.gr_machine.specs.States.{Turn, Vector, Vectors, Body}
use Rattle.gr_machine.specs.Outcomes.{Send, Outcome}
use Rattle.gr_machine.specs.Slots.{resumed_all}
use Rattle.gr_machine.specs.TurnServes.{call_marks, can_begin, get_sends, group_granted, put_sends, settled_turn, settled_vector, turn_begun, turn_finished, turn_granted, turn_replies, wakes, with_turn, with_vector, turn_from}
use Rattle.gr_turns.specs.Lines.{begun_by, changed, changed_by, to_begin, to_finish}
use Rattle.gr_courses.specs.Seen.{Seen, does_to, with_body, with_send, sends_to, marks_to}
use Rattle.gr_courses.proofs.Doing.{does_sends}
use Rattle.gr_courses.proofs.Folds.{does_marks}

-- Other vectors.
abbrev pub with_vectors : Body → Vectors → Body
with_vectors body all = record body { vectors = all }

-- A turn ends

-- The tasks of the calls go on and are ready, the calls are marked, and the master is told.
abbrev pub finished_by : Seen → ℕ → Vectors → List (WaitingCall × Reply) → List (WaitingCall × Reply) → ℕ → Ends → Seen
finished_by seen number all resumed answers master ends =
    with_send (marks_to (with_body seen (resumed_all seen.machine (with_vectors seen.core.body all) (wakes resumed))) (call_marks answers))
    (record { to = master; message = msg.Done number ends.head ends.tail })

-- What the end of a turn does where nothing is left of it.
settles_so : (before : Seen) (number : ℕ) (there : Vector) (turn : Turn)
    → Some there ≡ before.core.body.vectors.vectors number → Some turn ≡ there.turn → turn.left ≡ 0
    → settled_vector before.machine before.core.body number (before.core.body.vectors.vectors number)
    ≡ Some (turn_finished before.machine before.core.body number there turn (ends_after turn.calls turn.ends))
settles_so before number there turn held has none =
    ap (settled_vector before.machine before.core.body number) (sym held)
    ∙ ap (settled_turn before.machine before.core.body number there) (sym has)
    ∙ ap (λ (b : Bool). if b then Some (turn_finished before.machine before.core.body number there turn (ends_after turn.calls turn.ends)) else None) (eq-eqb turn.left 0 none)

-- Where nothing is left of the turn, these steps are its end.
pub settled : (before after first second : Seen) (number master : ℕ) (there : Vector) (turn : Turn) (all : Vectors) (resumed answers : List (WaitingCall × Reply)) (ends : Ends)
    → Some there ≡ before.core.body.vectors.vectors number → Some turn ≡ there.turn → turn.left ≡ 0
    → resumed ≡ turn_replies turn → answers ≡ turn_replies turn → ends ≡ ends_after turn.calls turn.ends → master ≡ numbered_home before.machine number
    → all ≡ changed to_finish before.core.body.vectors number
    → first ≡ with_body before (resumed_all before.machine (with_vectors before.core.body all) (wakes resumed))
    → second ≡ marks_to first (call_marks answers)
    → after ≡ with_send second (record { to = master; message = msg.Done number ends.head ends.tail })
    → after ≡ does_to before (settled_vector before.machine before.core.body number (before.core.body.vectors.vectors number))
settled before after first second number master there turn all resumed answers ends held has none one two stand home gone goes marked sent =
    let last : Ends = ends_after turn.calls turn.ends in
    let send : Ends → ℕ → Send = λ ends to. record { to = to; message = msg.Done number ends.head ends.tail } in
    let replies = turn_replies turn in
    let left : Vectors = changed_by to_finish before.core.body.vectors number (Some there) in
    let final : Body = resumed_all before.machine (with_vectors before.core.body left) (wakes replies) in
    sent
    ∙ ap (λ (seen : Seen). with_send seen (send ends master)) (marked ∙ ap (λ (seen : Seen). marks_to seen (call_marks answers)) goes)
    ∙ ap (λ (now : Vectors). finished_by before number now resumed answers master ends) (gone ∙ ap (changed_by to_finish before.core.body.vectors number) (sym held))
    ∙ ap (λ (list : List (WaitingCall × Reply)). finished_by before number left list answers master ends) one
    ∙ ap (λ (list : List (WaitingCall × Reply)). finished_by before number left replies list master ends) two
    ∙ ap (λ (to : ℕ). finished_by before number left replies replies to ends) home
    ∙ ap (λ (at : Ends). finished_by before number left replies replies (numbered_home before.machine number) at) stand
    ∙ sym (does_marks before final (send last (numbered_home before.machine number)) (call_marks replies))
    ∙ ap (does_to before) (sym (settles_so before number there turn held has none))

-- A turn begins

-- Messages after messages, which don't change the machine.
sends_more : (seen : Seen) (sends more : List Send) → sends_to seen (sends ++ more) ≡ sends_to (sends_to seen sends) more
sends_more seen [] more = refl
sends_more seen (send ∷ sends) more = sends_more (with_send seen send) sends more

sends_machine : (seen : Seen) (sends : List Send) → (sends_to seen sends).machine ≡ seen.machine
sends_machine seen [] = refl
sends_machine seen (send ∷ sends) = sends_machine (with_send seen send) sends

-- The oldest of some groups.
first_of : (groups : List (List WaitingCall)) (calls : List WaitingCall) → Some calls ≡ slice_get groups 0 → groups ≡ calls ∷ drop 1 groups
first_of [] calls e = cc
first_of (group ∷ groups) calls e = ap (λ (first : Option (List WaitingCall)). unwrap_or first group ∷ groups) (sym e)

-- The turn of a vector that has none, as it is seen.
pub none_there : {X Y : Type 0} (f : X → Y) (o : Option X) → is_some o ≡ false → None ≡ option_map f o
none_there f None e = refl
none_there f (Some x) e = cc

-- What a grant does then.
grants_so : (before : Seen) (number head tail : ℕ) (there : Vector) (calls : List WaitingCall)
    → Some there ≡ before.core.body.vectors.vectors number → None ≡ there.turn → Some calls ≡ slice_get there.groups 0
    → can_begin before.core.body number head tail calls ≡ true
    → turn_granted before.machine before.core.body number head tail (before.core.body.vectors.vectors number)
    ≡ Some (turn_begun before.machine before.core.body number there calls head tail (plan_of calls head tail))
grants_so before number head tail there calls held none first can =
    let group : Option Turn → List (List WaitingCall) → Option Outcome = group_granted before.machine before.core.body number head tail there in
    ap (turn_granted before.machine before.core.body number head tail) (sym held)
    ∙ ap (λ (turn : Option Turn). group turn there.groups) (sym none)
    ∙ ap (group None) (first_of there.groups calls first)
    ∙ ap (λ (b : Bool). if b then Some (turn_begun before.machine before.core.body number there calls head tail (plan_of calls head tail)) else None) can

-- The body once the oldest group has the turn.
begins_so : (before : Seen) (number head tail : ℕ) (there : Vector) (calls : List WaitingCall) (plan : Plan)
    → Some there ≡ before.core.body.vectors.vectors number → Some calls ≡ slice_get there.groups 0
    → with_vectors before.core.body (changed (to_begin (record { head = head; tail = tail }) plan) before.core.body.vectors number)
    ≡ with_turn before.core.body number there (turn_from calls (record { head = head; tail = tail }) plan)
begins_so before number head tail there calls plan held first =
    let ends : Ends = record { head = head; tail = tail } in
    ap (λ (held : Option Vector). with_vectors before.core.body (changed_by (to_begin ends plan) before.core.body.vectors number held)) (sym held)
    ∙ ap (λ (groups : List (List WaitingCall)). with_vector before.core.body number (begun_by ends plan there groups)) (first_of there.groups calls first)

-- Where the group can have the turn, these steps are its beginning.
pub granted : (before after first : Seen) (number head tail : ℕ) (there : Vector) (calls : List WaitingCall) (all : Vectors) (plan : Plan)
    (puts : List (ℕ × ℕ)) (gets : List ℕ)
    → Some there ≡ before.core.body.vectors.vectors number → None ≡ there.turn → Some calls ≡ slice_get there.groups 0
    → can_begin before.core.body number head tail calls ≡ true → plan ≡ plan_of calls head tail
    → all ≡ changed (to_begin (record { head = head; tail = tail }) plan) before.core.body.vectors number
    → puts ≡ plan.puts → gets ≡ plan.gets
    → first ≡ sends_to (with_body before (with_vectors before.core.body all)) (put_sends before.machine number puts)
    → after ≡ sends_to first (get_sends first.machine number gets)
    → after ≡ does_to before (turn_granted before.machine before.core.body number head tail (before.core.body.vectors.vectors number))
granted before after first number head tail there calls all plan puts gets held none oldest can planned begun put got puts_sent gets_sent =
    let machine = before.machine in
    let body : Plan → Body = λ made. with_turn before.core.body number there (turn_from calls (record { head = head; tail = tail }) made) in
    let turn : Plan → Seen = λ made. with_body before (body made) in
    let sent : Seen → List (ℕ × ℕ) → List ℕ → Seen = λ begun puts gets. sends_to (sends_to begun (put_sends machine number puts)) (get_sends machine number gets) in
    let whole : Plan = plan_of calls head tail in
    gets_sent
    ∙ ap (λ (m : Machine). sends_to first (get_sends m number gets))
    (ap (λ (seen : Seen). seen.machine) puts_sent ∙ sends_machine (with_body before (with_vectors before.core.body all)) (put_sends machine number puts))
    ∙ ap (λ (seen : Seen). sends_to seen (get_sends machine number gets)) puts_sent
    ∙ ap (λ (now : Body). sent (with_body before now) puts gets)
    (ap (with_vectors before.core.body) begun ∙ begins_so before number head tail there calls plan held oldest)
    ∙ ap (λ (list : List (ℕ × ℕ)). sent (turn plan) list gets) put
    ∙ ap (λ (list : List ℕ). sent (turn plan) plan.puts list) got
    ∙ ap (λ (made : Plan). sent (turn made) made.puts made.gets) planned
    ∙ sym (sends_more (turn whole) (put_sends machine number whole.puts) (get_sends machine number whole.gets))
    ∙ sym (does_sends before (body whole) (put_sends machine number whole.puts ++ get_sends machine number whole.gets))
    ∙ ap (does_to before) (sym (grants_so before number head tail there calls held none oldest can))
