-- All tasks stay.
use Rattle.std.proofs.Common.{◌≡◌, ℕ, zero, ◌+◌, ◌<◌, List, [], ◌∷◌, sym, ◌∙◌, ap, subst, refl, arith}
use Rattle.gr_lang.specs.States.{State}
use Rattle.gr_msg.specs.declared.message.Msg.{Msg}
use Rattle.gr_msg.specs.declared.message.Msg.TheVariants as msg
use Rattle.gr_work.specs.Queues.{Queues}
use Rattle.gr_net.specs.Sums.{weigh, Each}
use Rattle.gr_net.proofs.Spreads.{Each-map}
use Rattle.gr_machine.specs.States.{Letter}
use Rattle.gr_machine.specs.Outcomes.{Outcome, Send, quietly}
use Rattle.gr_stands.specs.Worlds.{Given, World, bodies}
use Rattle.gr_stands.specs.Censuses.{is_single, carried}
use Rattle.gr_stands.specs.Calls.{UnitFits}
use Rattle.gr_stands.specs.Stands.{Stands}
use Rattle.gr_stands_calls.specs.Acting.{Keeps}
use Rattle.gr_stands_calls.specs.Rests.{IsOfNoTask}
use Rattle.gr_stands_calls.specs.Stays.{IsOfNoSlot, CarriesFit}
use Rattle.gr_stands_calls.proofs.Rests.{no_unit, sent_none}
use Rattle.gr_stands_calls.proofs.Stays.{tasks_stay}
use Rattle.gr_stands_chains.proofs.Same.{same_tasks_stand}
use Rattle.gr_stands_changes.specs.Changes.{LeavesTasks}
use Rattle.gr_stands_changes.specs.Laws as laws
use Rattle.gr_stands_changes.proofs.Slots.{got_none}

of_no_slot : (m : Msg) → IsOfNoTask m → IsOfNoSlot m
of_no_slot (msg.Request k id operation x y z) n = absurd n
of_no_slot (msg.Reply k id first second) n = absurd n
of_no_slot _ n = tt

carries_none : (given : Given) (S : State) (m : Msg) → IsOfNoTask m → CarriesFit given S m
carries_none given S (msg.Spawn u) n = absurd n
carries_none given S (msg.StealGive u) n = absurd n
carries_none given S _ n = tt

pub leaves_kept : (given : Given) (w : World) (S : State) (c : ℕ) (got : List Letter) (e : Outcome)
    → Stands given w S → c < given.setup.cores → LeavesTasks (bodies w c) got e → Keeps given w c got e S
leaves_kept given w S c got e st here a = tasks_stay given w S c got e st here (record {
  tasks = a.tasks;
  words = a.words;
  letters = Each-map (λ (l : Letter). IsOfNoTask l.message) (λ (l : Letter). IsOfNoSlot l.message) (λ l n. of_no_slot l.message n) got a.letters;
  sends = Each-map (λ (s : Send). IsOfNoTask s.message) (λ (s : Send). IsOfNoSlot s.message × CarriesFit given S s.message)
      (λ s n. (of_no_slot s.message n, carries_none given S s.message n)) e.sends a.sends;
  private = subst (λ (q : Queues). Each (UnitFits given S) q.private) (sym a.work) (st.calls.tasks.private c here);
  public = subst (λ (q : Queues). Each (UnitFits given S) q.public) (sym a.work) (st.calls.tasks.public c here);
  singles = λ id. omega (
    arith,
    ap (λ (q : Queues). weigh (is_single id) q.private + weigh (is_single id) q.public) a.work,
    sent_none c (carried (is_single id)) (no_unit (is_single id)) e.sends a.sends,
    got_none c (carried (is_single id)) (no_unit (is_single id)) got a.letters,
  );
})

pub leaving_is_kept : laws.LeavingIsKept
leaving_is_kept given w S T c got e st here a tasks memory next acts =
    let both = leaves_kept given w S c got e st here a next acts in
    let after = same_tasks_stand given next S T tasks memory (record { words = both.1; calls = both.0 }) in
    (after.calls, after.words)

-- Nothing happens.
pub nothing_happens : (given : Given) (w : World) (S : State) (c : ℕ) → Stands given w S → c < given.setup.cores → Keeps given w c [] (quietly (bodies w c)) S
nothing_happens given w S c st here = leaves_kept given w S c [] (quietly (bodies w c)) st here (record { tasks = refl; work = refl; words = refl; letters = tt; sends = tt })
