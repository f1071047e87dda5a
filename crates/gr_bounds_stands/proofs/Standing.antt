-- The bounds of a world, at the opening and after each step.
use Rattle.std.proofs.Common.{◌≡◌, ◌≢◌, ◌≤◌, ◌<◌, ℕ, ◌+◌, ◌==◌, ◌^◌, refl, ap, ◌∙◌, arith, inl, inr}
use Rattle.std.proofs.lemmas.Bool.{cond_both, eqb-true}
use Rattle.gr_net.specs.Worlds.{put_core}
use Rattle.gr_net.proofs.Spreads.{put_other}
use Rattle.gr_machine.specs.declared.journal.Stamped.{Stamped}
use Rattle.gr_machine.specs.Machines.{Machine}
use Rattle.gr_machine.specs.States.{Body, Core}
use Rattle.gr_machine.specs.Openings.{no_scopes, opening_core, opening_body, unused, first_tasks, first_scopes, no_tasks}
use Rattle.gr_machine.specs.GlobalRuns as runs
use Rattle.gr_machine.specs.Nets.{world_in}
use Rattle.gr_stands.specs.Worlds as worlds
use Rattle.gr_stands.specs.Worlds.{Given, machine_in, World, bodies, Moves}
use Rattle.gr_stands.proofs.Worlds.{moved_bodies}
use Rattle.gr_bounds.specs.Shares.{Steps}
use Rattle.gr_bounds.proofs.Steps.{IsActing, stepped}
use Rattle.gr_bounds_numbers.proofs.Ones.{scopes_grow, ends_grow, active_grow}
use Rattle.gr_bounds_tasks.proofs.Tasks.{tasks_grow}
use Rattle.gr_bounds_tasks.proofs.Batches.{batches_grow}
use Rattle.gr_bounds_counts.proofs.Counts.{counts_grow}
use Rattle.gr_bounds_tails.proofs.Tails.{tails_grow}
use Rattle.gr_bounds_stands.specs.Laws as laws

none_at_start : (machine : Machine) (slot core : ℕ) → 0 < core → (opening_core machine slot core).body.scopes ≡ no_scopes
none_at_start machine slot core l = cond_both (core == 0) (unused (opening_body machine 0 (first_tasks machine slot) first_scopes)) (unused (opening_body machine core no_tasks no_scopes))
    (λ (c : Core). c.body.scopes ≡ no_scopes) (λ e. absurd (positive core l (eqb-true core 0 e))) (λ e. refl)
  where
    positive : (n : ℕ) → 0 < n → n ≡ 0 → ⊥
    positive n l e = omega (arith, l, e)

pub openings_have : laws.OpeningsHaveBounds
openings_have given slot = record {
  tasks = tasks_grow.opens (machine_in given) slot;
  batches = batches_grow.opens (machine_in given) slot;
  scopes = scopes_grow.opens (machine_in given) slot;
  ends = ends_grow.opens (machine_in given) slot;
  active = λ scope. (active_grow scope).opens (machine_in given) slot;
  counts = λ scope. (counts_grow scope (2 ^ 64)).opens (machine_in given) slot;
  tails = λ number. (tails_grow number).opens (machine_in given) slot;
  unused = λ core l m. none_at_start (machine_in given) slot core l;
}

-- A core beyond those that there are stays as it is.
module _ (machine : Machine) (before after : runs.World) (me : ℕ) (entry : Stamped) (core : ℕ) (past : machine.setup.cores ≤ core) where
  other : (here : me < machine.setup.cores) → core ≢ me
  other here e = apart core me machine.setup.cores past here e
    where
      apart : (a b n : ℕ) → n ≤ a → b < n → a ≡ b → ⊥
      apart a b n l m e = omega (arith, l, m, e)

  past_put : (w v : World) (c : worlds.Core) → v ≡ put_core w me c → core ≢ me → bodies v core ≡ bodies w core
  past_put w v c is ne = ap (λ (x : World). bodies x core) is ∙ ap (λ (b : worlds.Core). b.body) (put_other w.cores me c core ne)

  acted_past : IsActing machine before after me entry → bodies (world_in after) core ≡ bodies (world_in before) core
  acted_past a = past_put (world_in before) (world_in after) _ a.world (other a.here)

  moved_past : Moves machine.setup.cores (world_in before) (world_in after) → bodies (world_in after) core ≡ bodies (world_in before) core
  moved_past m = ap (λ (b : ℕ → Body). b core) (moved_bodies machine.setup.cores (world_in before) (world_in after) m)

  pub past_same : Steps machine before after me entry → bodies (world_in after) core ≡ bodies (world_in before) core
  past_same h = elim (stepped machine before after me entry.clock entry.slots entry.event h) [
    | inl a ↦ acted_past a
    | inr m ↦ moved_past m
  ]

pub steps_keep : laws.StepsKeepBounds
steps_keep given before after me entry steps h loops old = record {
  tasks = tasks_grow.steps (machine_in given) before after me entry (steps + 1) h old.tasks;
  batches = batches_grow.steps (machine_in given) before after me entry (steps + 1) h old.batches;
  scopes = scopes_grow.steps (machine_in given) before after me entry (steps + 1) h old.scopes;
  ends = ends_grow.steps (machine_in given) before after me entry (steps + 1) h old.ends;
  active = λ scope. (active_grow scope).steps (machine_in given) before after me entry (steps + 1) h (old.active scope);
  counts = λ scope. (counts_grow scope (2 ^ 64)).steps (machine_in given) before after me entry (steps + 1) h loops (old.counts scope);
  tails = λ number. (tails_grow number).steps (machine_in given) before after me entry (steps + 1) h (old.tails number);
  unused = λ core l m. ap (λ (b : Body). b.scopes) (past_same (machine_in given) before after me entry core m h) ∙ old.unused core l m;
}
