-- The cores before the first event: core 0 has main, which is ready, in the root scope; all else is empty but for the opening words.
use Rattle.std.specs.Prelude.{ℕ, ◌==◌, ◌&&◌, Bool, true, false, if◌then◌else◌, [], ◌∷◌, Option, Some, None, slice_get}
use Rattle.gr_lang.specs.States.{main_id}
use Rattle.gr_lang.specs.declared.action.TaskId.{TaskId}
use Rattle.gr_lang.specs.Objects.{Object, line}
use Rattle.gr_lang.specs.Next.{Stands}
use Rattle.gr_view.specs.Places.{put}
use Rattle.gr_addr.specs.Dealing.{linear_of}
use Rattle.gr_msg.specs.declared.message.ScopeId.{ScopeId}
use Rattle.gr_event.specs.Scopes.{put_scope}
use Rattle.gr_event.specs.declared.counts.LocalCount.TheVariants as count
use Rattle.gr_event.specs.declared.masters.Waiter.TheVariants as waiter
use Rattle.gr_event.specs.Masters.{new_master, wait_for}
use Rattle.gr_machine.specs.Machines.{Machine, numbered_home, thing}
use Rattle.gr_machine.specs.declared.waits.Waits.TheVariants as wait
use Rattle.gr_machine.specs.States.{Suspended, Tasks, Scopes, Words, Vector, Vectors, Body, Core}

-- The root scope: number 0 of core 0.
abbrev pub root_scope : ScopeId
root_scope = record { core = 0; number = 0 }

-- A task that hasn't done anything, in a scope, with the core that counts its end, at its first action.
abbrev pub new_task : TaskId → ScopeId → ℕ → Stands → Suspended
new_task id scope origin at = record { id = id; scope = scope; origin = origin; action = at.0; running = at.1; waits = wait.Going; opened = [] }

abbrev pub main_task : Machine → Suspended
main_task machine = new_task main_id root_scope 0 (machine.code.start machine.code.main [])

abbrev pub is_vector : Option Object → Bool
is_vector (Some (line words)) = true
is_vector _ = false

-- A vector without words, calls and turns.
abbrev pub empty_vector : Vector
empty_vector = record { part = λ position. None; combiner = []; groups = []; turn = None }

-- Each vector is empty, and the turns of each are kept at the core of its number.
abbrev pub opening_vectors : Machine → ℕ → Vectors
opening_vectors machine me = record {
  vectors = λ vector. if is_vector (thing machine vector) then Some empty_vector else None;
  masters = λ vector. if is_vector (thing machine vector) && numbered_home machine vector == me then Some (record { head = 0; tail = 0; cores = [] }) else None;
}

-- The words of a core, by place: those of the addresses that lie there.
abbrev pub opening_words : Machine → ℕ → Words
opening_words machine me = record {
  segment = λ place. slice_get machine.code.objects.words (linear_of machine.setup.cores machine.setup.block me place);
  shards = λ object key. None;
  blocks = machine.code.objects.live;
}

abbrev pub opening_body : Machine → ℕ → Tasks → Scopes → Body
opening_body machine me tasks scopes = record {
  tasks = tasks;
  work = record { private = []; public = [] };
  scopes = scopes;
  words = opening_words machine me;
  batches = record { combiners = λ object. []; flying = λ batch. None; next = 0 };
  vectors = opening_vectors machine me;
  steals = record { asked = λ core. false; waiting = [] };
  stops = record { trapped = false; passed = false };
}

-- A core with this body, before its first event.
abbrev pub unused : Body → Core
unused body = record { clock = 0; body = body; inbox = []; buffers = λ core. [] }

-- Main stands ready in this slot.
abbrev pub first_tasks : Machine → ℕ → Tasks
first_tasks machine slot = record { slots = put (λ other. None) slot (Some (main_task machine)); ready = slot ∷ []; next = 1 }

-- Core 0 is the one active core of the root scope and counts one task of it, main. The program's end waits for it.
abbrev pub first_scopes : Scopes
first_scopes = record {
  counts = put_scope (λ scope. None) root_scope (Some (count.Active 1));
  masters = put_scope (λ scope. None) root_scope (Some (wait_for waiter.Root new_master));
  next = 1;
}

abbrev pub no_tasks : Tasks
no_tasks = record { slots = λ slot. None; ready = []; next = 0 }

abbrev pub no_scopes : Scopes
no_scopes = record { counts = λ scope. None; masters = λ scope. None; next = 0 }

-- The core of this number before its first event, where main is in this slot of core 0.
abbrev pub opening_core : Machine → ℕ → ℕ → Core
opening_core machine slot me =
    if me == 0 then unused (opening_body machine 0 (first_tasks machine slot) first_scopes) else unused (opening_body machine me no_tasks no_scopes)
