-- Outcomes that leave the batches that are under way.
use Rattle.std.proofs.Common.{◌≡◌, ℕ, ◌≤◌, List, [], ◌∷◌, inl, inr, sym, ◌∙◌, ap, subst, refl, arith, Option, Some, None}
use Rattle.std.specs.FinMap as fin
use Rattle.gr_lang.specs.declared.action.TaskId.{TaskId}
use Rattle.gr_lang.specs.declared.action.WaitingCall.{WaitingCall}
use Rattle.gr_lang.specs.States.{Task, State}
use Rattle.gr_view.specs.Places.{put}
use Rattle.gr_msg.specs.declared.message.Msg.{Msg}
use Rattle.gr_msg.specs.declared.message.Msg.TheVariants as msg
use Rattle.gr_net.specs.Sums.{total, Each}
use Rattle.gr_net.proofs.Spreads.{put_each, put_field, total_one}
use Rattle.gr_machine.specs.declared.mark.Mark.{Mark}
use Rattle.gr_machine.specs.declared.mark.Mark.TheVariants as mark
use Rattle.gr_machine.specs.declared.waits.Waits.TheVariants as wait
use Rattle.gr_machine.specs.States.{Letter, Suspended, Batches, Body}
use Rattle.gr_machine.specs.Outcomes.{Send, Outcome}
use Rattle.gr_machine.specs.Histories.{Sent, sent_after}
use Rattle.gr_stands.specs.Worlds.{Given, machine_in, World, bodies, of_letters, of_sends}
use Rattle.gr_stands.specs.Censuses.{of_held, body_census, census, is_task, is_unended}
use Rattle.gr_stands.specs.Calls.{of_slot, CallsStand}
use Rattle.gr_stands.specs.CallActs.{IsOther, in_batch}
use Rattle.gr_stands.proofs.Places.{cases_id, named_itself}
use Rattle.gr_stands_calls.proofs.Slots.{some_same}
use Rattle.gr_batches.specs.Batches.{is_flying, CoreStands, is_mail, is_under_way, MessageStands, BatchesStand}
use Rattle.gr_batches.specs.BatchActs.{BatchesAct}
use Rattle.gr_stands_outcomes.specs.Marks.{sent_from}
use Rattle.gr_batches_takes.specs.Taking.{KeepsBatches}
use Rattle.gr_batches.proofs.Kept.{batches_kept}
use Rattle.gr_batches.proofs.Cores.{flying_self, core_still}
use Rattle.gr_batches_takes.proofs.Names.{apart_names}
use Rattle.gr_batches_events.specs.Leaving.{IsNoMail, IsNoClose, AreInNoBatch}
use Rattle.gr_batches_events.specs.Laws as laws

-- ---- messages of no batch, and marks of no Close

mail_none : (core batch from to : ℕ) (m : Msg) → IsNoMail m → is_mail core batch from to m ≡ 0
mail_none core batch from to (msg.Batch object key what number) n = absurd n
mail_none core batch from to (msg.BatchReply number before) n = absurd n
mail_none core batch from to _ n = refl

stands_none : (given : Given) (B : ℕ → Body) (S : State) (from to : ℕ) (m : Msg) → IsNoMail m → MessageStands given B S from to m
stands_none given B S from to (msg.Batch object key what number) n = absurd n
stands_none given B S from to (msg.BatchReply number before) n = absurd n
stands_none given B S from to _ n = tt

sent_none : (me core batch : ℕ) (ss : List Send) → Each (λ s. IsNoMail s.message) ss → of_sends (is_mail core batch) me ss ≡ 0
sent_none me core batch [] n = refl
sent_none me core batch (s ∷ ss) n = omega (arith, mail_none core batch me s.to s.message n.0, sent_none me core batch ss n.1)

got_none : (me core batch : ℕ) (ls : List Letter) → Each (λ l. IsNoMail l.message) ls → of_letters (is_mail core batch) me ls ≡ 0
got_none me core batch [] n = refl
got_none me core batch (l ∷ ls) n = omega (arith, mail_none core batch l.from me l.message n.0, got_none me core batch ls n.1)

sends_stand : (given : Given) (B : ℕ → Body) (S : State) (me : ℕ) (ss : List Send) → Each (λ s. IsNoMail s.message) ss → Each (λ s. MessageStands given B S me s.to s.message) ss
sends_stand given B S me [] n = tt
sends_stand given B S me (s ∷ ss) n = (stands_none given B S me s.to s.message n.0, sends_stand given B S me ss n.1)

pub marks_none : (sent : Sent) (me : ℕ) (marks : List Mark) → Each IsNoClose marks → sent_from sent me marks ≡ sent
marks_none sent me [] n = refl
marks_none sent me (m ∷ marks) n = ap (λ (x : Sent). sent_from x me marks) (once m n.0) ∙ marks_none sent me marks n.1
  where
    once : (m : Mark) → IsNoClose m → sent_after sent me m ≡ sent
    once (mark.Closed batch calls) k = absurd k
    once _ k = refl

-- ---- an outcome

module _ (given : Given) (sent : Sent) (w : World) (me : ℕ) (got : List Letter) (e : Outcome) (S T : State) (ids : List TaskId) where
  -- The core stands, batches and their tasks are as before, and nothing is told of a batch.
  pub record Frame : Type 0 where
    pub stands : CoreStands (machine_in given) e.body
    pub flying : e.body.batches.flying ≡ (bodies w me).batches.flying
    pub slots : (slot number : ℕ) (u : Suspended) → (bodies w me).tasks.slots slot ≡ Some u → u.waits ≡ wait.Batch number → e.body.tasks.slots slot ≡ Some u
    pub letters : Each (λ letter. IsNoMail letter.message) got
    pub sends : Each (λ send. IsNoMail send.message) e.sends
    pub marks : Each IsNoClose e.marks
    pub kept : (id : TaskId) (x : Task) → IsOther ids id → fin.get S.tasks id ≡ Some x → fin.get T.tasks id ≡ Some x
    pub others : AreInNoBatch w ids

  pub framed : Frame → BatchesStand given sent w S → KeepsBatches given sent w me got e T
  framed f old v acts = subst (λ (x : Sent). BatchesStand given x v T) (sym (marks_none sent me e.marks f.marks))
      (batches_kept given sent sent w v me got e S T me next None ids acts act old)
    where
      next : ℕ
      next = (bodies w me).batches.next

      fresh : (bodies w me).batches.flying next ≡ None
      fresh = (old.cores me).fresh next (omega arith)

      table : (one number : ℕ) → (put (bodies w) me e.body one).batches.flying number ≡ (bodies w one).batches.flying number
      table one number = put_field (λ (x : Body). x.batches.flying number) (bodies w) me e.body (ap (λ (g : ℕ → Option (List WaitingCall)). g number) f.flying) one

      act : BatchesAct given sent sent w me got e S T me next None ids
      act = record {
        stands = f.stands;
        change = record { here = table me next ∙ fresh; other = λ one number ne. table one number };
        kept = f.kept;
        others_stay = λ one slot number u ne at waits. (
          put_each (λ (i : ℕ) (x : Body). x.tasks.slots slot ≡ Some u) (bodies w) me e.body one
              (λ q. f.slots slot number u (ap (λ (i : ℕ). (bodies w i).tasks.slots slot) (sym q) ∙ at) waits) (λ q. at),
          f.others one slot u at (ap in_batch waits),
        );
        sends = sends_stand given (put (bodies w) me e.body) T me e.sends f.sends;
        quiet = old.mail me next ∙ ap is_under_way fresh ∙ sym (got_none me me next got f.letters);
        mailed = sent_none me me next e.sends f.sends;
        others = λ one number ne. sent_none me one number e.sends f.sends ∙ sym (got_none me one number got f.letters);
        noted = λ one number some h. old.noted one number some (sym (table one number) ∙ h);
      }

pub batches_stay : laws.BatchesStay
batches_stay given sent w me got e S T ids l old = framed given sent w me got e S T ids (record {
  stands = core_still (machine_in given) (bodies w me) e.body l.calls (old.cores me);
  flying = ap (λ (x : Batches). x.flying) l.calls.batches;
  slots = λ slot number u at waits. elim (l.calls.slots slot) [
    | inl q ↦ q ∙ at
    | inr f ↦ absurd (omega (arith, f.0.flying number, ap (of_slot (is_flying number)) at, ap (is_flying number) waits, flying_self number))
  ];
  letters = l.letters;
  sends = l.sends;
  marks = l.marks;
  kept = l.kept;
  others = l.others;
}) old

-- ---- names

pub batched_tasks_are_others : laws.BatchedTasksAreOthers
batched_tasks_are_others given w S c k s st there z d l u at one = (apart_names given w S st.calls c k s d l u there at (λ q. this q), tt)
  where
    this : (d ≡ c) × (l ≡ k) → ⊥
    this q =
        let same : s ≡ u = some_same s u (sym there ∙ sym (ap (λ (i : ℕ). (bodies w i).tasks.slots l) q.0 ∙ ap (bodies w c).tasks.slots q.1) ∙ at) in
        omega (arith, z, one, ap (λ (x : Suspended). in_batch x.waits) same)

-- The plain state has each task in a slot.
there_is : (given : Given) (w : World) (S : State) → CallsStand given w S → (d l : ℕ) (u : Suspended) → (bodies w d).tasks.slots l ≡ Some u → fin.get S.tasks u.id ≡ None → ⊥
unfolding census body_census
there_is given w S old d l u at none =
    let n = given.setup.cores in
    let m = given.slots in
    let F : ℕ → ℕ = λ c. body_census (is_task u.id) m (bodies w c) in
    let W : ℕ → ℕ = λ k. of_held (is_task u.id).of_task ((bodies w d).tasks.slots k) in
    let f = old.tasks.slots d l u at in
    let here : W l ≡ 1 = ap (of_held (is_task u.id).of_task) at ∙ named_itself u.id in
    let in_d : W l ≤ total m W = total_one W m l f.low in
    let core : F d ≤ total n F = total_one F n d f.here in
    let once : census (is_task u.id) given w ≡ 0 = old.once u.id ∙ ap is_unended none in
    omega (arith, here, in_d, core, once)

pub new_names_are_others : laws.NewNamesAreOthers
new_names_are_others given w S id st none d l u at one = (
  elim (cases_id u.id id) [
    | inl e ↦ absurd (there_is given w S st.calls d l u at (ap (fin.get S.tasks) e ∙ none))
    | inr e ↦ e
  ],
  tt,
)
