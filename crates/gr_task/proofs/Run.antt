-- What a task over its code does next, and how it starts.
use Rattle.std.proofs.Common.{◌≡◌, ℕ, ◌==◌, if◌then◌else◌, List, length, length-set, refl, ap, sym, subst, ◌∙◌, slice_get, Option, Some, None}
use Rattle.std.specs.Option.{option_map_or}
use Rattle.gr_syntax.specs.Items.{TaskText, tasks_of}
use Rattle.gr_lang.specs.declared.action.Action.TheVariants as action
use Rattle.gr_lang.specs.Next.{look, pure, acts, start, start_at}
use Rattle.gr_code.specs.declared.terms.Term.{Term}
use Rattle.gr_code.specs.declared.terms.Targets.{Targets}
use Rattle.gr_code.specs.declared.terms.Targets.TheVariants as t
use Rattle.gr_code.specs.declared.instructions.Instruction.{Instruction}
use Rattle.gr_code.specs.declared.instructions.Instruction.TheVariants as i
use Rattle.gr_code.specs.Terms.{term_value, put_word}
use Rattle.gr_code.specs.Points.{Point, Lowered, nowhere, point_at, state_at, first_point}
use Rattle.gr_code.specs.Instructions.{Agrees, does}
use Rattle.gr_code.proofs.Grows.{begins_same}
use Rattle.gr_task.specs.TurnWords.{first_of}
use Rattle.gr_task.proofs.First.{given-first}

pub none_looks : (code : Lowered) (at : ℕ) (ws : List ℕ) → point_at code.points at ≡ nowhere → look code.program (state_at (point_at code.points at) ws) ≡ acts action.End
unfolding look
none_looks code at ws e = ap (λ q. look code.program (state_at q ws)) e

looks_here : (code : Lowered) (at : ℕ) (x : Instruction) (ws : List ℕ) → Agrees code.program code.points at x → length ws ≡ length (point_at code.points at).names
    → look code.program (state_at (point_at code.points at) ws) ≡ does code.program code.points x ws
looks_here code at x ws h l = h.looks code.points (begins_same code.points) ws l

pub set_moves : (code : Lowered) (at next : ℕ) (x : Instruction) (r : Term) (targets : Targets) (ws vs : List ℕ) (w : ℕ) → Agrees code.program code.points at x → length ws ≡ length (point_at code.points at).names
    → x ≡ i.Set r targets next → term_value ws r ≡ Some w → vs ≡ put_word targets w ws → look code.program (state_at (point_at code.points at) ws) ≡ pure (Some (state_at (point_at code.points next) vs))
set_moves code at next x r targets ws vs w h l is e v = looks_here code at x ws h l ∙ rw (is, v, e) refl

length-put : (targets : Targets) (w : ℕ) (ws : List ℕ) → length (put_word targets w ws) ≡ length ws
length-put t.Empty w ws = refl
length-put (t.One first) w ws = length-set ws first w
length-put (t.Two first second) w ws = length-set ws first w

pub set_words : (code : Lowered) (at next : ℕ) (x : Instruction) (r : Term) (targets : Targets) (ws vs : List ℕ) (w : ℕ) → Agrees code.program code.points at x → length ws ≡ length (point_at code.points at).names
    → x ≡ i.Set r targets next → vs ≡ put_word targets w ws → length vs ≡ length (point_at code.points next).names
set_words code at next x r targets ws vs w h l is v =
    let same : (point_at code.points next).names ≡ (point_at code.points at).names = (subst (λ x. Agrees code.program code.points at x) is h).moves code.points (begins_same code.points) w in
    ap length v ∙ length-put targets w ws ∙ l ∙ sym (ap length same)

pub branch_moves : (code : Lowered) (at one other next to : ℕ) (x : Instruction) (r : Term) (ws : List ℕ) (w : ℕ) → Agrees code.program code.points at x → length ws ≡ length (point_at code.points at).names
    → x ≡ i.Branch r one other next → term_value ws r ≡ Some w → to ≡ (if w == 0 then other else one) → look code.program (state_at (point_at code.points at) ws) ≡ pure (Some (state_at (point_at code.points to) ws))
branch_moves code at one other next to x r ws w h l is e t = looks_here code at x ws h l ∙ rw (is, t, e) refl

pub branch_words : (code : Lowered) (at one other next to : ℕ) (x : Instruction) (r : Term) (ws : List ℕ) (w : ℕ) → Agrees code.program code.points at x → length ws ≡ length (point_at code.points at).names
    → x ≡ i.Branch r one other next → to ≡ (if w == 0 then other else one) → length ws ≡ length (point_at code.points to).names
branch_words code at one other next to x r ws w h l is t =
    let same : (point_at code.points (if w == 0 then other else one)).names ≡ (point_at code.points at).names = (subst (λ x. Agrees code.program code.points at x) is h).moves code.points (begins_same code.points) w in
    l ∙ sym (ap length same) ∙ sym (ap (λ k. length (point_at code.points k).names) t)

starts : (o : Option TaskText) (args : List ℕ) → state_at (option_map_or first_point o nowhere) args ≡ start_at o args
starts None args = refl
starts (Some task) args = refl

pub start_is : (code : Lowered) (at n target : ℕ) (args ws : List ℕ) → point_at code.points at ≡ option_map_or first_point (slice_get (tasks_of code.program.items) target) nowhere
    → n ≡ length (point_at code.points at).names → ws ≡ first_of n args → state_at (point_at code.points at) ws ≡ start code.program target args
unfolding start
start_is code at n target args ws point count is =
    let q : Point = point_at code.points at in
    ap (state_at q) (is ∙ ap (λ k. first_of k args) count) ∙ ap (λ l. record { todo = q.todo; locals = l }) (given-first q.names args)
    ∙ ap (λ q. state_at q args) point ∙ starts (slice_get (tasks_of code.program.items) target) args
