-- What the rows have in common: messages that come first fit, words that stay, and requests that go to cores.
use Rattle.std.proofs.Common.{◌≡◌, ◌≢◌, ℕ, zero, suc, ◌+◌, ◌<◌, ◌≤◌, ◌==◌, ◌&&◌, ◌/◌, ◌%◌, if◌then◌else◌, Bool, true, false, nat_lt, List, [], ◌∷◌, drop, sym, ◌∙◌, ap, subst, refl, arith, mod-lt, Option, Some, None}
use Rattle.std.proofs.lemmas.Bool.Decides.{nat_tests}
use Rattle.gr_lang.specs.declared.action.Action.TheVariants as action
use Rattle.gr_lang.specs.declared.action.Op.{Op}
use Rattle.gr_lang.specs.declared.action.Op.TheVariants as op
use Rattle.gr_lang.specs.declared.action.TaskId.{TaskId}
use Rattle.gr_lang.specs.Objects.{Objects}
use Rattle.gr_lang.specs.States.{Task, State, going}
use Rattle.gr_view.specs.Places.{put}
use Rattle.gr_msg.specs.declared.message.Msg.{Msg}
use Rattle.gr_net.specs.Sums.{Each}
use Rattle.gr_machine.specs.Machines.{Machine, home}
use Rattle.gr_machine.specs.declared.waits.Waits.TheVariants as wait
use Rattle.gr_machine.specs.States.{Letter, Suspended, Body}
use Rattle.gr_machine.specs.Outcomes.{Outcome}
use Rattle.gr_stands.specs.Worlds.{Given, machine_in, World, bodies, Acts}
use Rattle.gr_stands.specs.Memory.{SameMemory, WordsStand}
use Rattle.gr_stands.specs.WordActs.{WordsAct}
use Rattle.gr_stands.specs.Calls.{StandsAt, mode_of, is_told, is_going, of_slot, times, IsRequest, AsksWord, MessageFits, CallsStand}
use Rattle.gr_stands.specs.CallActs.{CallsAct}
use Rattle.gr_stands.specs.Stands.{IsSound, Stands}
use Rattle.gr_stands.proofs.Worlds.{acted_bodies}
use Rattle.gr_stands.proofs.Memories.{words_kept, words_behind}
use Rattle.gr_stands.proofs.Calls.{calls_kept}
use Rattle.gr_stands.proofs.Places.{times_self, times_other}
use Rattle.gr_stands_calls.specs.Acting.{IsFirst, letter, IsFirstLetter, Keeps}
use Rattle.gr_stands_calls.proofs.Slots.{goes, of_slot_is}

pub same_memory : (objects : Objects) → SameMemory objects objects
same_memory objects = record { words = refl; keys = λ object key. refl; blocks = refl; kinds = λ object. refl; heap = refl }

-- The first letter fits.
pub first_fits : (given : Given) (w : World) (S : State) (me from : ℕ) (m : Msg) → Stands given w S → IsFirstLetter given w me from m → MessageFits given (bodies w) S from me m
first_fits given w S me from m st f =
    (subst (Each (λ (l : Letter). MessageFits given (bodies w) S l.from me l.message)) f.without.inbox (st.calls.messages.inboxes me f.here)).0

-- The first ready task goes on, and is ready once.
pub first_goes : (given : Given) (w : World) (S : State) (me slot : ℕ) (more : List ℕ) (task : Suspended) → Stands given w S → IsFirst w me slot more task → task.waits ≡ wait.Going
first_goes given w S me slot more task st f = goes task.waits (times slot more)
    (sym (times_self slot more) ∙ ap (times slot) (sym f.ready) ∙ st.calls.tasks.ready me slot ∙ ap (of_slot is_going) f.there)

pub rest_here : (given : Given) (w : World) (S : State) (me slot : ℕ) (more : List ℕ) (task : Suspended) → Stands given w S → IsFirst w me slot more task
    → times slot (drop 1 (bodies w me).tasks.ready) ≡ 0
rest_here given w S me slot more task st f =
    let going = first_goes given w S me slot more task st f in
    omega (arith, times_self slot more, ap (times slot) f.ready, st.calls.tasks.ready me slot, of_slot_is is_going ((bodies w me).tasks.slots slot) task wait.Going f.there going, ap (λ (ready : List ℕ). times slot (drop 1 ready)) f.ready)

pub rest_other : (w : World) (me slot : ℕ) (more : List ℕ) (task : Suspended) → IsFirst w me slot more task
    → (l : ℕ) → l ≢ slot → times l (drop 1 (bodies w me).tasks.ready) ≡ times l (bodies w me).tasks.ready
rest_other w me slot more task f l ne = ap (λ (ready : List ℕ). times l (drop 1 ready)) f.ready ∙ sym (times_other l slot more ne) ∙ sym (ap (times l) f.ready)

-- The plain state has it before its action.
pub first_stands : (given : Given) (w : World) (S : State) (me slot : ℕ) (more : List ℕ) (task : Suspended) → Stands given w S → IsFirst w me slot more task → StandsAt S task
first_stands given w S me slot more task st f =
    (st.calls.tasks.slots me slot task f.there).stands (ap is_told (first_goes given w S me slot more task st f))

pub plain_goes : (S : State) (task : Suspended) (s : StandsAt S task) → task.waits ≡ wait.Going → s.plain.mode ≡ going
plain_goes S task s e = s.mode ∙ ap (λ w. mode_of w task.action) e

-- ---- both parts

-- The outcome keeps both parts, from what they ask.
pub kept_by : (given : Given) (w : World) (S T : State) (me : ℕ) (got : List Letter) (e : Outcome) (core slot : ℕ) (held : Option Suspended)
    (ids : List TaskId)
    → Stands given w S → CallsAct given w me got e S T core slot held ids → WordsAct (machine_in given) me e.body.words S.objects T.objects → Keeps given w me got e T
kept_by given w S T me got e core slot held ids st calls words next acts = (
  calls_kept given w next me got e S T core slot held ids acts calls st.calls,
  subst (λ (X : ℕ → Body). WordsStand (machine_in given) X T.objects) (sym (acted_bodies given.setup.cores w next me got e acts))
      (words_kept (machine_in given) (bodies w) me e.body S.objects T.objects words st.words),
)

-- ---- requests go to cores

pub request_to : (given : Given) → IsSound given → (to operation x y z : ℕ) (call : Op) → IsRequest (machine_in given) to call operation x y z → to < given.setup.cores
request_to given sound to operation x y z call r = go call r
  where
    homes : (at : ℕ) → home (machine_in given) at < given.setup.cores
    homes at = mod-lt (at / given.setup.block) {m = given.setup.cores} (omega (arith, sound.cores))

    of_word : (object place number first second : ℕ) → AsksWord (machine_in given) to object place number first second operation x y z → to < given.setup.cores
    of_word object place number first second a = subst (λ (i : ℕ). i < given.setup.cores) (sym a.homed) (homes x)

    of_zero : to ≡ 0 → to < given.setup.cores
    of_zero e = subst (λ (i : ℕ). i < given.setup.cores) (sym e) sound.cores

    go : (call : Op) → IsRequest (machine_in given) to call operation x y z → to < given.setup.cores
    go (op.Read object place) r = of_word object place 1 0 0 r
    go (op.Write object place word) r = of_word object place 2 word 0 r
    go (op.Add object place word) r = of_word object place 3 word 0 r
    go (op.Cas object place old new) r = of_word object place 4 old new r
    go (op.Alloc count) r = of_zero r.homed
    go (op.Free place) r = of_zero r.homed
    go (op.Print word) r = of_zero r.homed
    go _ r = absurd r
