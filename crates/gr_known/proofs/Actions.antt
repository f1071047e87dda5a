-- The actions of an accepted program name what it has, and a step's entry names what its action names.
use Rattle.std.proofs.Common.{◌≡◌, ℕ, ◌<◌, Bool, true, false, ◌&&◌, List, [], ◌∷◌, length, Option, Some, None, unwrap_or, if◌then◌else◌, refl, arith, bytes_eq}
use Rattle.std.specs.Prelude.{position}
use Rattle.std.specs.Option.{option_map_or}
use Rattle.std.proofs.lemmas.List.Quantifiers.{position-Some}
use Rattle.gr_syntax.specs.declared.syntax.Expr.{Expr}
use Rattle.gr_syntax.specs.declared.syntax.Name.{Name}
use Rattle.gr_syntax.specs.declared.syntax.CallText.{CallText}
use Rattle.gr_syntax.specs.declared.syntax.Program.{Program}
use Rattle.gr_accept.specs.declared.operation.Operation.{Operation}
use Rattle.gr_accept.specs.declared.operation.Operation.TheVariants as n
use Rattle.gr_lang.specs.declared.action.How.{How}
use Rattle.gr_lang.specs.declared.action.Op.{Op}
use Rattle.gr_lang.specs.declared.action.Op.TheVariants as o
use Rattle.gr_lang.specs.declared.action.Action.{Action}
use Rattle.gr_lang.specs.declared.action.Action.TheVariants as a
use Rattle.gr_lang.specs.declared.action.TrapKind.TheVariants as trap
use Rattle.gr_lang.specs.Locals.{Locals}
use Rattle.gr_lang.specs.Expressions.{values}
use Rattle.gr_syntax.specs.declared.limits.TheConstants.{HEAP}
use Rattle.gr_accept.specs.Operations.{operation_of, reducer_names, reducer_of}
use Rattle.gr_syntax.specs.Items.{TaskText, tasks_of}
use Rattle.gr_lang.specs.Openings.{object_of, target_of}
use Rattle.gr_lang.specs.Next.{acted, named_action, call_action, reducer_number, spawn_action, loop_action}
use Rattle.gr_lang.specs.Parts.{op_of}
use Rattle.gr_known.specs.Known.{IsObject, IsReducer, IsTask, IsKnownCall}
use Rattle.gr_known.proofs.Bodies.{IsOnBlocks, IsSound, IsSoundCall}

-- The action names what the program has.
abbrev pub IsKnownAction : Program → Action → Type 0
IsKnownAction p (a.Call op) = IsKnownCall p op
IsKnownAction p (a.Spawn way target args) = IsTask p target
IsKnownAction p (a.Loop lo hi grain target args) = IsTask p target
IsKnownAction p _ = Unit {0}

-- ---- reducers

reducer_small : (name : List ℕ) → IsReducer (unwrap_or (reducer_of name) 0)
reducer_small name = by (reducer_of name) refl
  where
    by : (place : Option ℕ) → reducer_of name ≡ place → unwrap_or place 0 < length reducer_names
    by None e = omega arith
    by (Some k) e = (position-Some (bytes_eq name) reducer_names k [] e).0

number_small : (name : Option Name) → IsReducer (reducer_number name)
number_small None = omega arith
number_small (Some name) = reducer_small name.text

-- ---- calls

op_known : (p : Program) (operation : Operation) (object k : ℕ) (ws : List ℕ) → IsObject p object → (IsOnBlocks operation → IsObject p HEAP) → IsReducer k → IsKnownCall p (op_of operation object k ws)
op_known p n.Read object k ws h b g = (h, tt)
op_known p n.Write object k ws h b g = (h, tt)
op_known p n.Add object k ws h b g = (h, tt)
op_known p n.Cas object k ws h b g = (h, tt)
op_known p n.Reduce object k ws h b g = (h, g)
op_known p n.Insert object k ws h b g = (h, tt)
op_known p n.Remove object k ws h b g = (h, tt)
op_known p n.Has object k ws h b g = (h, tt)
op_known p n.Put object k ws h b g = (h, tt)
op_known p n.Merge object k ws h b g = (h, g)
op_known p n.Get object k ws h b g = (h, tt)
op_known p n.Erase object k ws h b g = (h, tt)
op_known p n.Push object k ws h b g = (h, tt)
op_known p n.Pop object k ws h b g = (h, tt)
op_known p n.Dequeue object k ws h b g = (h, tt)
op_known p n.Alloc object k ws h b g = (b refl, tt)
op_known p n.Free object k ws h b g = (b refl, tt)

fit_known : (p : Program) (op : Op) (b : Bool) → IsKnownCall p op → IsKnownAction p (if b then a.Call op else a.Trap trap.Place)
fit_known p op true h = h
fit_known p op false h = tt

named_known : (p : Program) (operation : Option Operation) (object k : ℕ) (ws : List ℕ) → IsObject p object → ((op : Operation) → operation ≡ Some op → IsOnBlocks op → IsObject p HEAP) → IsReducer k
    → IsKnownAction p (named_action p operation object k ws)
named_known p None object k ws h b g = tt
named_known p (Some operation) object k ws h b g = fit_known p (op_of operation object k ws) _ (op_known p operation object k ws h (b operation refl) g)

pub acted_known : (p : Program) (f : List ℕ → Action) (ws : Option (List ℕ)) → ((ws : List ℕ) → IsKnownAction p (f ws)) → IsKnownAction p (acted f ws)
acted_known p f None h = tt
acted_known p f (Some ws) h = h ws

pub call_known : (p : Program) (locals : Locals) (c : CallText) → IsSoundCall p c → IsKnownAction p (call_action p locals c)
call_known p locals c h =
    acted_known p _ (values locals c.args) (λ ws. named_known p (operation_of c.op.text) (object_of p c.object.text) (reducer_number c.reducer) ws h.object h.heap (number_small c.reducer))

pub print_known : (p : Program) (w : Option ℕ) → IsKnownAction p (option_map_or (λ w. a.Call (o.Print w)) w (a.Trap trap.Div))
print_known p None = tt
print_known p (Some w) = tt

-- ---- starts

target_in : (p : Program) (name : List ℕ) → IsSound p → IsTask p (target_of p name)
target_in p name h = by (position (λ t. bytes_eq name t.name) (tasks_of p.items)) refl
  where
    by : (place : Option ℕ) → position (λ t. bytes_eq name t.name) (tasks_of p.items) ≡ place → unwrap_or place 0 < length (tasks_of p.items)
    by None e = h.some
    by (Some k) e = (position-Some (λ (t : TaskText). bytes_eq name t.name) (tasks_of p.items) k (record { name = []; params = []; body = [] }) e).0

pub spawn_known : (p : Program) (locals : Locals) (way : Option How) (target : Name) (args : List Expr) → IsSound p → IsKnownAction p (spawn_action p locals way target args)
spawn_known p locals None target args h = tt
spawn_known p locals (Some way) target args h = acted_known p _ (values locals args) (λ ws. target_in p target.text h)

pub loop_known : (p : Program) (target : Name) (ws : List ℕ) → IsSound p → IsKnownAction p (loop_action p target ws)
loop_known p target [] h = tt
loop_known p target (lo ∷ []) h = tt
loop_known p target (lo ∷ hi ∷ []) h = tt
loop_known p target (lo ∷ hi ∷ grain ∷ ws) h = target_in p target.text h

pub both_true : (x y : Bool) → x && y ≡ true → (x ≡ true) × (y ≡ true)
both_true true y e = (refl, e)
both_true false y e = cc
