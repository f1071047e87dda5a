-- Run: units that are taken up.
use Rattle.std.proofs.Common.{◌≡◌, ℕ, ◌<◌, List, [], ◌∷◌, sym, ◌∙◌, ap, subst, refl, Option, Some, None}
use Rattle.gr_lang.specs.declared.action.Entry.TheVariants as entry
use Rattle.gr_lang.specs.States.{State}
use Rattle.gr_machine.specs.Outcomes.{Outcome}
use Rattle.gr_machine.specs.Runs.{without_unit, starts, splits, begins}
use Rattle.gr_machine.specs.Slots.{own_id}
use Rattle.gr_msg.specs.declared.message.Unit.TheVariants as unit
use Rattle.gr_stands.specs.Worlds.{Given, machine_in, bodies}
use Rattle.gr_scopes.specs.Trees.{Holder, holder_of, tree_of, with_task}
use Rattle.gr_scopes_trees.proofs.Steps.{indices_make_tasks}
use Rattle.gr_scopes_units.proofs.Begun.{singles_keep_scopes, indices_keep_scopes}
use Rattle.gr_scopes_units.proofs.Split.{chunks_split}
use Rattle.gr_scopes_runs.specs.Laws as laws
use Rattle.gr_scopes_runs.proofs.Leads.{leads_none, leads_one}

pub singles_lead : laws.SinglesLead
singles_lead given sent names w S me slot target args scope origin id st here next free low =
    leads_none given sent names w S me [] (starts (machine_in given) (without_unit (bodies w me)) slot target args scope origin id) refl
    (singles_keep_scopes given names w S me slot target args scope origin id st here next free low)

pub splits_lead : laws.SplitsLead
splits_lead given sent names w S me target args scope origin owner lo hi grain st here next some =
    leads_none given sent names w S me [] (splits (without_unit (bodies w me)) (unit.Chunk target args scope origin owner lo hi grain)) refl
    (chunks_split given names w S me target args scope origin owner lo hi grain st here next some)

pub indices_lead : laws.IndicesLead
indices_lead given sent names w S me slot target args scope origin owner lo hi grain st here inside next some free low =
    let kid = own_id me (bodies w me) in
    let holder : Holder = record { scope = inside.task.scope; opened = inside.task.opened } in
    leads_one given sent names w S me [] (begins (machine_in given) me (without_unit (bodies w me)) slot target args scope origin owner lo hi grain)
    (entry.Begin owner lo kid) names (with_task (tree_of S) kid inside.number) refl (λ number q f. f)
    (λ T h. indices_make_tasks given S T owner holder inside.number inside.outer lo kid (ap holder_of inside.there) inside.opened h)
    (indices_keep_scopes given names w S me slot target args scope inside.number origin owner lo hi grain st here inside.named next some free low)
