-- The scopes and the core with which a run opens.
use Rattle.std.proofs.Common.{◌≡◌, ◌+◌, ◌<◌, ◌≤◌, ℕ, length, length-append, replicate, if◌then◌else◌, List, Option, ap, ◌∙◌, sym, eq-eqb, ne_eqb, arith}
use Rattle.std.proofs.lemmas.List.{length-replicate}
use Rattle.gr_msg.specs.declared.message.ScopeId.{ScopeId}
use Rattle.gr_event.specs.Scopes.{at_scope, put_scope}
use Rattle.gr_event.proofs.ScopePuts.{put_scope_at, put_scope_twice}
use Rattle.gr_syntax.specs.declared.syntax.Program.{Program}
use Rattle.gr_lang.specs.Objects.{Heap}
use Rattle.gr_lang.specs.Openings.{opening, heap_of, array_words, heap_words}
use Rattle.gr_machine.specs.Machines.{Machine}
use Rattle.gr_machine.specs.States.{Core}
use Rattle.gr_machine.specs.Openings.{first_scopes, first_tasks, no_scopes, no_tasks, opening_body, opening_core, unused}
use Rattle.gr_courses.specs.Seen.{Seen}
use Rattle.gr_state.specs.Opened.{before_all}

-- What stands at a scope once it was put there, and once more.
pub scope_there : {X : Type 0} (entries : List (ScopeId × X)) (before : ScopeId → Option X) (scope : ScopeId) (held : Option X)
    → at_scope entries ≡ put_scope before scope held → at_scope entries scope ≡ held
scope_there {X = X} entries before scope held so = ap (λ (all : ScopeId → Option X). all scope) so ∙ put_scope_at before scope held

pub scope_again : {X : Type 0} (entries : List (ScopeId × X)) (before : ScopeId → Option X) (scope : ScopeId) (held next : Option X)
    → at_scope entries ≡ put_scope before scope held → put_scope (at_scope entries) scope next ≡ put_scope before scope next
scope_again {X = X} entries before scope held next so = ap (λ (all : ScopeId → Option X). put_scope all scope next) so ∙ put_scope_twice before scope held next

pub ruleset at_root = (scope_there, scope_again)

-- Core 0 has main, and each other core nothing.
first_core : (machine : Machine) (slot me : ℕ) → me ≤ 0 → opening_core machine slot me ≡ unused (opening_body machine me (first_tasks machine slot) first_scopes)
first_core machine slot me least =
    let first : me ≡ 0 = omega arith in
    ap (λ is. if is then unused (opening_body machine 0 (first_tasks machine slot) first_scopes) else unused (opening_body machine me no_tasks no_scopes)) (eq-eqb me 0 first)
    ∙ ap (λ (me : ℕ). unused (opening_body machine me (first_tasks machine slot) first_scopes)) (sym first)

pub other_core : (machine : Machine) (slot me : ℕ) → 0 < me → opening_core machine slot me ≡ unused (opening_body machine me no_tasks no_scopes)
other_core machine slot me other =
    ap (λ is. if is then unused (opening_body machine 0 (first_tasks machine slot) first_scopes) else unused (opening_body machine me no_tasks no_scopes)) (ne_eqb me 0 (λ first. omega arith))

abbrev begun : ℕ → Seen → Seen
begun slot seen = record seen { core = record seen.core { body = record seen.core.body { tasks = first_tasks seen.machine slot; scopes = first_scopes } } }

-- Core 0 once main stands there.
pub main_begun : (machine : Machine) (slot me : ℕ) (before after : Seen) → me ≤ 0
    → before ≡ before_all machine me before.heap (unused (opening_body machine me no_tasks no_scopes)) → after ≡ begun slot before
    → after ≡ before_all machine me after.heap (opening_core machine slot me)
main_begun machine slot me before after least is becomes =
    becomes
    ∙ ap (begun slot) is
    ∙ ap (λ (heap : Heap). before_all machine me heap (unused (opening_body machine me (first_tasks machine slot) first_scopes))) (sym (ap (λ (seen : Seen). seen.heap) becomes))
    ∙ ap (λ (core : Core). before_all machine me after.heap core) (sym (first_core machine slot me least))

-- The words of the arrays, and then those of the heap.
pub words_counted : (program : Program) → length (opening program).words ≡ (heap_of program).from + (heap_of program).count
unfolding opening
words_counted program = length-append (array_words program.items program.items) (replicate (heap_words program.items) 0)
    ∙ ap (λ (count : ℕ). length (array_words program.items program.items) + count) (length-replicate (heap_words program.items) 0)
