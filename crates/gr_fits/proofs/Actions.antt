-- What calls and starts of an accepted program do next.
use Rattle.std.proofs.Common.{◌≡◌, ℕ, suc, ◌+◌, ◌<◌, ◌==◌, Bool, true, false, List, [], ◌∷◌, length, Option, Some, None, unwrap_or, if◌then◌else◌, refl, sym, ap, ◌∙◌, subst, arith, bytes_eq}
use Rattle.std.specs.Option.{option_map, option_and_then, option_map_or}
use Rattle.std.proofs.lemmas.List.Quantifiers.{position-Some}
use Rattle.std.proofs.lemmas.Bool.Decides.{nat_tests}
use Rattle.gr_syntax.specs.declared.syntax.Expr.{Expr}
use Rattle.gr_syntax.specs.declared.syntax.Name.{Name}
use Rattle.gr_syntax.specs.declared.syntax.CallText.{CallText}
use Rattle.gr_accept.specs.declared.operation.Declared.{Declared}
use Rattle.gr_accept.specs.declared.operation.Declared.TheVariants as d
use Rattle.gr_accept.specs.declared.operation.Holder.{Holder}
use Rattle.gr_accept.specs.declared.operation.Holder.TheVariants as holder
use Rattle.gr_accept.specs.declared.operation.Operation.{Operation}
use Rattle.gr_accept.specs.declared.operation.Operation.TheVariants as n
use Rattle.gr_accept.specs.Operations.{holds, operation_of, signature_of, reducer_names, reducer_of}
use Rattle.gr_lang.specs.declared.action.How.{How}
use Rattle.gr_lang.specs.declared.action.Op.{Op}
use Rattle.gr_lang.specs.declared.action.Op.TheVariants as o
use Rattle.gr_lang.specs.declared.action.Action.{Action}
use Rattle.gr_lang.specs.declared.action.Action.TheVariants as a
use Rattle.gr_lang.specs.declared.action.TrapKind.TheVariants as trap
use Rattle.gr_lang.specs.Locals.{Locals}
use Rattle.gr_lang.specs.Expressions.{value, values}
use Rattle.gr_lang.specs.Objects.{Object, array, keys, pairs, line}
use Rattle.gr_lang.specs.Openings.{opening, object_of, target_of}
use Rattle.gr_lang.specs.Next.{acted, named_action, call_action, print_action, reducer_number, spawn_action, loop_action, fits}
use Rattle.gr_lang.specs.Parts.{op_of}
use Rattle.gr_machine.specs.Machines.{Machine, thing, has_task}
use Rattle.gr_machine.specs.Openings.{is_vector}
use Rattle.gr_machine.specs.Calls.{is_reducer, is_keyed}
use Rattle.gr_stands.specs.Worlds.{Given, machine_in}
use Rattle.gr_stands.specs.Actions.{CallFits, ActionFits}
use Rattle.gr_fits.specs.Reached.{HasOneHeap}
use Rattle.gr_fits.proofs.Named.{is_set, is_map, is_own, is_declared, named_thing, named_task}
use Rattle.gr_fits.proofs.Sites.{IsCallOf, IsFitCall, IsFitStart}

-- ---- reducers

reducer_low : (name : List ℕ) → is_reducer (unwrap_or (reducer_of name) 0) ≡ true
reducer_low name = by (reducer_of name) refl
  where
    below : (k : ℕ) → k < length reducer_names → is_reducer k ≡ true
    below k l = grind (arith, nat_tests)

    by : (place : Option ℕ) → reducer_of name ≡ place → is_reducer (unwrap_or place 0) ≡ true
    by None e = refl
    by (Some k) e = below k (position-Some (bytes_eq name) reducer_names k [] e).0

number_low : (name : Option Name) → is_reducer (reducer_number name) ≡ true
number_low None = refl
number_low (Some name) = reducer_low name.text

-- ---- calls

-- The object is one of what the operation works on, where that is of a kind of its own.
abbrev HolderFits : Option Object → Holder → Type 0
HolderFits object holder.Set = is_set object ≡ true
HolderFits object holder.Map = is_map object ≡ true
HolderFits object holder.Vector = is_vector object ≡ true
HolderFits object _ = Unit {0}

holder_fits : (h : Holder) (D : Declared) (object : Option Object) → holds h D ≡ true → (is_own D ≡ true → is_declared D object ≡ true) → HolderFits object h
holder_fits holder.Words D object e f = tt
holder_fits holder.Heap D object e f = tt
holder_fits holder.Set d.Set object e f = f refl
holder_fits holder.Map d.Map object e f = f refl
holder_fits holder.Vector d.Vector object e f = f refl
holder_fits holder.Set _ object e f = cc
holder_fits holder.Map _ object e f = cc
holder_fits holder.Vector _ object e f = cc

set_keyed : (call : Op) (object : Option Object) → ((held : _) → is_keyed call (Some (keys held)) ≡ true) → is_set object ≡ true → is_keyed call object ≡ true
set_keyed call None f e = cc
set_keyed call (Some (array from count)) f e = cc
set_keyed call (Some (keys held)) f e = f held
set_keyed call (Some (pairs held)) f e = cc
set_keyed call (Some (line words)) f e = cc

map_keyed : (call : Op) (object : Option Object) → ((held : _) → is_keyed call (Some (pairs held)) ≡ true) → is_map object ≡ true → is_keyed call object ≡ true
map_keyed call None f e = cc
map_keyed call (Some (array from count)) f e = cc
map_keyed call (Some (keys held)) f e = cc
map_keyed call (Some (pairs held)) f e = f held
map_keyed call (Some (line words)) f e = cc

op_fits : (m : Machine) (operation : Operation) (object k : ℕ) (ws : List ℕ) → is_reducer k ≡ true → HolderFits (thing m object) (signature_of operation).holder
    → fits m.code.objects (op_of operation object k ws) ≡ true → CallFits m (op_of operation object k ws)
op_fits m n.Read object k ws r h f = f
op_fits m n.Write object k ws r h f = f
op_fits m n.Add object k ws r h f = f
op_fits m n.Cas object k ws r h f = f
op_fits m n.Reduce object k ws r h f = (r, f)
op_fits m n.Insert object k ws r h f = set_keyed (op_of n.Insert object k ws) (thing m object) (λ held. refl) h
op_fits m n.Remove object k ws r h f = set_keyed (op_of n.Remove object k ws) (thing m object) (λ held. refl) h
op_fits m n.Has object k ws r h f = set_keyed (op_of n.Has object k ws) (thing m object) (λ held. refl) h
op_fits m n.Put object k ws r h f = map_keyed (op_of n.Put object k ws) (thing m object) (λ held. refl) h
op_fits m n.Merge object k ws r h f = map_keyed (op_of n.Merge object k ws) (thing m object) (λ held. r) h
op_fits m n.Get object k ws r h f = map_keyed (op_of n.Get object k ws) (thing m object) (λ held. refl) h
op_fits m n.Erase object k ws r h f = map_keyed (op_of n.Erase object k ws) (thing m object) (λ held. refl) h
op_fits m n.Push object k ws r h f = h
op_fits m n.Pop object k ws r h f = h
op_fits m n.Dequeue object k ws r h f = h
op_fits m n.Alloc object k ws r h f = tt
op_fits m n.Free object k ws r h f = tt

if_it_fits : (m : Machine) (op : Op) (b : Bool) → (b ≡ true → CallFits m op) → ActionFits m (if b then a.Call op else a.Trap trap.Place)
if_it_fits m op true h = h refl
if_it_fits m op false h = tt

acted_fits : (m : Machine) (f : List ℕ → Action) (ws : Option (List ℕ)) → ((xs : List ℕ) → ws ≡ Some xs → ActionFits m (f xs)) → ActionFits m (acted f ws)
acted_fits m f None h = tt
acted_fits m f (Some xs) h = h xs refl

pub call_fits : (given : Given) (locals : Locals) (c : CallText) → HasOneHeap given.program → IsFitCall given.program c → ActionFits (machine_in given) (call_action given.program locals c)
call_fits given locals c one h = acted_fits m _ (values locals c.args) (λ ws is. by (operation_of c.op.text) refl ws)
  where
    m : Machine
    m = machine_in given

    object : ℕ
    object = object_of given.program c.object.text

    k : ℕ
    k = reducer_number c.reducer

    by : (operation : Option Operation) → operation_of c.op.text ≡ operation → (ws : List ℕ) → ActionFits m (named_action given.program operation object k ws)
    by None e ws = tt
    by (Some operation) e ws =
        let call : IsCallOf given.program c operation = h operation e in
        if_it_fits m (op_of operation object k ws) (fits (opening given.program) (op_of operation object k ws))
        (op_fits m operation object k ws (number_low c.reducer)
        (holder_fits (signature_of operation).holder call.declared (thing m object) call.works (λ own. named_thing given c.object.text call.declared one call.means own)))

pub print_fits : (m : Machine) (locals : Locals) (e : Expr) → ActionFits m (print_action locals e)
print_fits m locals e = by (value locals e)
  where
    by : (w : Option ℕ) → ActionFits m (option_map_or (λ word. a.Call (o.Print word)) w (a.Trap trap.Div))
    by None = tt
    by (Some w) = tt

-- ---- starts

-- As many words as expressions.
many : (locals : Locals) (es : List Expr) (ws : List ℕ) → values locals es ≡ Some ws → length ws ≡ length es
many locals [] ws e = let same : [] ≡ ws = cc in ap length (sym same)
many locals (x ∷ xs) ws e = by (value locals x) (values locals xs) (many locals xs) e
  where
    by : (w : Option ℕ) (vs : Option (List ℕ)) → ((us : List ℕ) → vs ≡ Some us → length us ≡ length xs) → option_and_then (λ w. option_map (λ vs. w ∷ vs) vs) w ≡ Some ws → length ws ≡ suc (length xs)
    by None vs more e = cc
    by (Some w) None more e = cc
    by (Some w) (Some vs) more e = let same : w ∷ vs ≡ ws = cc in ap length (sym same) ∙ ap suc (more vs refl)

pub spawn_fits : (given : Given) (locals : Locals) (way : Option How) (target : Name) (args : List Expr) → IsFitStart given.program target (length args)
    → ActionFits (machine_in given) (spawn_action given.program locals way target args)
spawn_fits given locals None target args h = tt
spawn_fits given locals (Some way) target args h = acted_fits (machine_in given) _ (values locals args) (λ ws e.
    subst (λ (count : ℕ). has_task (machine_in given) (target_of given.program target.text) count ≡ true) (sym (many locals args ws e)) (named_task given target.text (length args) h))

pub loop_fits : (given : Given) (locals : Locals) (lo hi grain : Expr) (target : Name) (args : List Expr) → IsFitStart given.program target (length args + 1)
    → ActionFits (machine_in given) (acted (loop_action given.program target) (values locals (lo ∷ hi ∷ grain ∷ args)))
loop_fits given locals lo hi grain target args h = acted_fits m (loop_action given.program target) (values locals (lo ∷ hi ∷ grain ∷ args)) (λ ws e. by ws (many locals (lo ∷ hi ∷ grain ∷ args) ws e))
  where
    m : Machine
    m = machine_in given

    above : (g : ℕ) (b : Bool) → (g == 0) ≡ b → 0 < (if b then 1 else g)
    above g true e = omega arith
    above g false e = grind (arith, nat_tests)

    by : (ws : List ℕ) → length ws ≡ suc (suc (suc (length args))) → ActionFits m (loop_action given.program target ws)
    by [] e = tt
    by (l ∷ []) e = tt
    by (l ∷ u ∷ []) e = tt
    by (l ∷ u ∷ g ∷ ws) e = (
      subst (λ (count : ℕ). has_task m (target_of given.program target.text) count ≡ true) (omega (arith, e)) (named_task given target.text (length args + 1) h),
      above g (g == 0) refl,
    )
