-- What an instruction does, and when it does what is to do at its point.
use Rattle.std.specs.Prelude.{◌≡◌, ◌==◌, ℕ, List, ◌∷◌, ◌++◌, length, if◌then◌else◌, Option, Some, None}
use Rattle.std.specs.Option.{option_map, option_map_or}
use Rattle.gr_syntax.specs.declared.syntax.Program.{Program}
use Rattle.gr_lang.specs.declared.action.Action.{Action}
use Rattle.gr_lang.specs.declared.action.Action.TheVariants as action
use Rattle.gr_lang.specs.declared.action.How.{How}
use Rattle.gr_lang.specs.declared.action.How.TheVariants as how
use Rattle.gr_lang.specs.declared.action.Op.TheVariants as op
use Rattle.gr_lang.specs.declared.action.TrapKind.TheVariants as trap
use Rattle.gr_lang.specs.declared.action.Reply.{Reply}
use Rattle.gr_lang.specs.Next.{Look, pure, acts, acted, named_action, look, go_on}
use Rattle.gr_code.specs.declared.instructions.Way.{Way}
use Rattle.gr_code.specs.declared.instructions.Way.TheVariants as way
use Rattle.gr_code.specs.declared.instructions.Instruction.{Instruction}
use Rattle.gr_code.specs.declared.instructions.Instruction.TheVariants as i
use Rattle.gr_code.specs.declared.instructions.Onward.{Onward}
use Rattle.gr_code.specs.declared.terms.Targets.{Targets}
use Rattle.gr_code.specs.declared.terms.Targets.TheVariants as targets
use Rattle.gr_code.specs.Terms.{term_value, term_values, put_word, put_reply}
use Rattle.gr_code.specs.Points.{Point, point_at, state_at}

-- Where a new task may run; None where its core divides by 0.
abbrev pub how_of : List ℕ → Way → Option How
how_of words way.Here = Some how.Here
how_of words (way.At core) = option_map (λ w. how.At w) (term_value words core)
how_of words way.Offer = Some how.Offer

-- The print of a word.
abbrev pub printed : Option ℕ → Action
printed word = option_map_or (λ w. action.Call (op.Print w)) word (action.Trap trap.Div)

-- The spawn of a task with evaluated words.
abbrev pub spawned : ℕ → Option How → Option (List ℕ) → Action
spawned target None args = action.Trap trap.Div
spawned target (Some to) args = acted (λ words. action.Spawn to target words) args

-- The loop with these bounds, grain and arguments. A grain of 0 counts as 1.
abbrev pub looped : ℕ → List ℕ → Action
looped target (lo ∷ hi ∷ grain ∷ words) = action.Loop lo hi (if grain == 0 then 1 else grain) target words
looped target _ = action.Trap trap.Place

-- Where a task goes on after the action or the trap of the instruction at a point.
abbrev pub next_of : ℕ → Instruction → ℕ
next_of at (i.Set value targets next) = next
next_of at (i.Call operation object reducer args targets next) = next
next_of at (i.Print value next) = next
next_of at (i.Branch test one other next) = next
next_of at (i.Finish body) = body
next_of at (i.Spawn to target args next) = next
next_of at (i.Loop target args next) = next
next_of at (i.Arrive next) = next
next_of at i.End = at

-- Where a task goes on after the pure step of the instruction, by the word of its expression.
abbrev pub chosen : ℕ → Instruction → ℕ → ℕ
chosen at (i.Branch test one other next) word = if word == 0 then other else one
chosen at x word = next_of at x

-- The locals that take the reply's words.
abbrev pub targets_of : Instruction → Targets
targets_of (i.Set value targets next) = targets
targets_of (i.Call operation object reducer args targets next) = targets
targets_of _ = targets.Empty

-- What stands first at the instruction.
abbrev pub does : Program → List Point → Instruction → List ℕ → Look
does program points (i.Set value targets next) words = pure (option_map (λ w. state_at (point_at points next) (put_word targets w words)) (term_value words value))
does program points (i.Call operation object reducer args targets next) words = acts (acted (named_action program operation object reducer) (term_values words args))
does program points (i.Print value next) words = acts (printed (term_value words value))
does program points (i.Branch test one other next) words = pure (option_map (λ w. state_at (point_at points (if w == 0 then other else one)) words) (term_value words test))
does program points (i.Finish body) words = acts action.Finish
does program points (i.Spawn to target args next) words = acts (spawned target (how_of words to) (term_values words args))
does program points (i.Loop target args next) words = acts (acted (looped target) (term_values words args))
does program points (i.Arrive next) words = acts action.Arrive
does program points i.End words = acts action.End

-- How a task goes on after the action or the trap of the instruction at a point.
abbrev pub onward_of : ℕ → Instruction → Onward
onward_of at x = record { next = next_of at x; targets = targets_of x }

-- So a task goes on that stands at the point, whatever the words of its locals and the reply are.
pub record IsOnward (points : List Point) (at : ℕ) (onward : Onward) : Type 0 where
  pub names : (point_at points onward.next).names ≡ (point_at points at).names
  pub goes : (words : List ℕ) → length words ≡ length (point_at points at).names → (reply : Reply) → go_on (state_at (point_at points at) words) reply ≡ state_at (point_at points onward.next) (put_reply onward.targets reply words)

-- The second list is the first with more.
abbrev pub Begins : {A : Type 0} → List A → List A → Type 0
Begins front all = (more : List _) × (all ≡ front ++ more)

-- The instruction does what is to do at its point, also once there are more points. It leads to points of the same locals.
pub record Agrees (program : Program) (points : List Point) (at : ℕ) (x : Instruction) : Type 0 where
  pub looks : (all : List Point) → Begins points all → (words : List ℕ) → length words ≡ length (point_at all at).names → look program (state_at (point_at all at) words) ≡ does program all x words
  pub moves : (all : List Point) → Begins points all → (word : ℕ) → (point_at all (chosen at x word)).names ≡ (point_at all at).names
  pub goes : (all : List Point) → Begins points all → IsOnward all at (onward_of at x)
