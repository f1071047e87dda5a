-- The lines of tasks and loops that start, both ways.
use Rattle.std.proofs.Common.{◌≡◌, ◌∙◌, refl, sym, ap, subst, true, List, [], ◌∷◌, ◌++◌, Some, ℕ, map, codes, decimal, option_map, option_and_then}
use Rattle.std.specs.Prelude.{All}
use Rattle.std.specs.Str.{bytes_eq}
use Rattle.gr_lang.specs.declared.action.TaskId.{TaskId}
use Rattle.gr_lang.specs.declared.action.How.{How}
use Rattle.gr_lang.specs.declared.action.How.TheVariants as how
use Rattle.gr_hist.specs.declared.text.NamedEntry.{NamedEntry}
use Rattle.gr_hist.specs.declared.text.NamedEntry.TheVariants as entry
use Rattle.gr_syntax.specs.Names.{is_name}
use Rattle.gr_hist.specs.Names.{Bytes}
use Rattle.gr_hist.specs.Grammar.{IsEntry, IsHow, IsId, IsWord}
use Rattle.gr_hist.specs.FieldWords.{args_of, loop_of, loop_over, loop_with, name_of, number_of, numbers_of, offer_of, spawn_of, start_at, start_of}
use Rattle.gr_hist.specs.Spelling.{child_fields, id_bytes}
use Rattle.gr_hist.proofs.Numerals.{number_found, number_only}
use Rattle.gr_hist.proofs.Choices.{either, if_some, map_some, then_some}
use Rattle.gr_hist.proofs.Spelled.{IsSpelled, name_found, name_only, no_keyword}
use Rattle.gr_hist.proofs.Tails.{args_found, args_only, numbers_found, numbers_only}
use Rattle.gr_hist.proofs.Wording.{same_text}

-- Starts.

start_only : (task : TaskId) (way : How) (target : Bytes) (args : List ℕ) (child : TaskId) → is_name target ≡ true → All IsWord args → IsId child
    → start_of task way target (map decimal args ++ child_fields child) ≡ Some (entry.Spawn task way target args child)
unfolding start_of
start_only task way target args child name all is = rw (name_only target name, args_only args child all is) refl

start_found : (task : TaskId) (way : How) (target : Bytes) (fields : List Bytes) (e : NamedEntry) → IsId task → IsHow way → start_of task way target fields ≡ Some e
    → (name : Bytes) × (args : List ℕ) × (child : TaskId) × (target ≡ name) × (fields ≡ map decimal args ++ child_fields child) × IsEntry (entry.Spawn task way name args child) × (entry.Spawn task way name args child ≡ e)
unfolding start_of
start_found task way target fields e is fits h =
    let name = then_some (λ n. option_map (λ a. entry.Spawn task way n a.0 a.1) (args_of fields)) (name_of target) e h in
    let args = map_some (λ (a : List ℕ × TaskId). entry.Spawn task way name.0 a.0 a.1) (args_of fields) e name.2 in
    let n = name_found target name.0 name.1 in
    let a = args_found fields args.0 args.1 in
    (name.0, args.0.0, args.0.1, n.0, a.0, record { numbers = (is, fits, a.1, a.2); names = n.1; shape = tt }, args.2)

pub here_only : (task : TaskId) (target : Bytes) (args : List ℕ) (child : TaskId) → is_name target ≡ true → All IsWord args → IsId child
    → spawn_of task (target ∷ (map decimal args ++ child_fields child)) ≡ Some (entry.Spawn task how.Here target args child)
unfolding spawn_of
here_only task target args child name all is = rw (no_keyword target 14 (codes "at") name refl) (start_only task how.Here target args child name all is)

pub at_only : (task : TaskId) (core : ℕ) (target : Bytes) (args : List ℕ) (child : TaskId) → IsWord core → is_name target ≡ true → All IsWord args → IsId child
    → spawn_of task (codes "at" ∷ decimal core ∷ target ∷ (map decimal args ++ child_fields child)) ≡ Some (entry.Spawn task (how.At core) target args child)
unfolding spawn_of
at_only task core target args child fits name all is =
    ap (option_and_then (λ k. start_of task (how.At k) target (map decimal args ++ child_fields child))) (number_only core fits) ∙ start_only task (how.At core) target args child name all is

pub offer_only : (task : TaskId) (target : Bytes) (args : List ℕ) (child : TaskId) → is_name target ≡ true → All IsWord args → IsId child
    → offer_of task (target ∷ (map decimal args ++ child_fields child)) ≡ Some (entry.Spawn task how.Offer target args child)
unfolding offer_of
offer_only task target args child name all is = start_only task how.Offer target args child name all is

at_found : (task : TaskId) (fields : List Bytes) (e : NamedEntry) → IsId task → start_at task fields ≡ Some e → IsSpelled (id_bytes task ∷ codes "spawn" ∷ codes "at" ∷ fields) e
at_found task [] e is h = cc
at_found task (p ∷ []) e is h = cc
at_found task (p ∷ target ∷ fields) e is h =
    let core = then_some (λ k. start_of task (how.At k) target fields) (number_of p) e h in
    let c = number_found p core.0 core.1 in
    let s = start_found task (how.At core.0) target fields e is c.1 core.2 in
    subst (IsSpelled (id_bytes task ∷ codes "spawn" ∷ codes "at" ∷ p ∷ target ∷ fields)) s.6
    (s.5, (λ j. id_bytes task ∷ codes "spawn" ∷ codes "at" ∷ c.0 j ∷ s.3 j ∷ s.4 j))

pub spawn_found : (task : TaskId) (fields : List Bytes) (e : NamedEntry) → IsId task → spawn_of task fields ≡ Some e → IsSpelled (id_bytes task ∷ codes "spawn" ∷ fields) e
unfolding spawn_of
spawn_found task [] e is h = cc
spawn_found task (p ∷ fields) e is h = either (bytes_eq p (codes "at")) (start_at task fields) (start_of task how.Here p fields) e h
    (λ sign at. subst (λ (x : Bytes). IsSpelled (id_bytes task ∷ codes "spawn" ∷ x ∷ fields) e) (sym (same_text p (codes "at") sign)) (at_found task fields e is at))
    (λ other here. let s = start_found task how.Here p fields e is tt here in
    subst (IsSpelled (id_bytes task ∷ codes "spawn" ∷ p ∷ fields)) s.6 (s.5, (λ j. id_bytes task ∷ codes "spawn" ∷ s.3 j ∷ s.4 j)))

pub offer_found : (task : TaskId) (fields : List Bytes) (e : NamedEntry) → IsId task → offer_of task fields ≡ Some e → IsSpelled (id_bytes task ∷ codes "offer" ∷ fields) e
unfolding offer_of
offer_found task [] e is h = cc
offer_found task (p ∷ fields) e is h =
    let s = start_found task how.Offer p fields e is tt h in
    subst (IsSpelled (id_bytes task ∷ codes "offer" ∷ p ∷ fields)) s.6 (s.5, (λ j. id_bytes task ∷ codes "offer" ∷ s.3 j ∷ s.4 j))

-- Loops.

pub loop_only : (task : TaskId) (lo hi grain : ℕ) (target : Bytes) (args : List ℕ) → IsWord lo → IsWord hi → IsWord grain → is_name target ≡ true → All IsWord args
    → loop_of task (decimal lo ∷ decimal hi ∷ codes "grain" ∷ decimal grain ∷ target ∷ map decimal args) ≡ Some (entry.Loop task lo hi grain target args)
unfolding loop_of loop_over loop_with
loop_only task lo hi grain target args l h g name all =
    rw (number_only lo l, number_only hi h, number_only grain g, name_only target name, numbers_only args all) refl

pub loop_found : (task : TaskId) (fields : List Bytes) (e : NamedEntry) → IsId task → loop_of task fields ≡ Some e → IsSpelled (id_bytes task ∷ codes "forall" ∷ fields) e
unfolding loop_of loop_over loop_with
loop_found task [] e is h = cc
loop_found task (p ∷ []) e is h = cc
loop_found task (p ∷ q ∷ []) e is h = cc
loop_found task (p ∷ q ∷ sign ∷ fields) e is h =
    let t = if_some (bytes_eq sign (codes "grain")) (loop_over task p q fields) e h in
    subst (λ (x : Bytes). IsSpelled (id_bytes task ∷ codes "forall" ∷ p ∷ q ∷ x ∷ fields) e) (sym (same_text sign (codes "grain") t.0)) (over_found fields t.1)
  where
    over_found : (fields : List Bytes) → loop_over task p q fields ≡ Some e → IsSpelled (id_bytes task ∷ codes "forall" ∷ p ∷ q ∷ codes "grain" ∷ fields) e
    over_found [] h = cc
    over_found (g ∷ []) h = cc
    over_found (g ∷ target ∷ fields) h =
        let lo = then_some _ (number_of p) e h in
        let hi = then_some _ (number_of q) e lo.2 in
        let grain = then_some _ (number_of g) e hi.2 in
        let name = then_some _ (name_of target) e grain.2 in
        let args = map_some (λ (ns : List ℕ). entry.Loop task lo.0 hi.0 grain.0 name.0 ns) (numbers_of fields) e name.2 in
        let l = number_found p lo.0 lo.1 in
        let u = number_found q hi.0 hi.1 in
        let r = number_found g grain.0 grain.1 in
        let n = name_found target name.0 name.1 in
        let a = numbers_found fields args.0 args.1 in
        subst (IsSpelled (id_bytes task ∷ codes "forall" ∷ p ∷ q ∷ codes "grain" ∷ g ∷ target ∷ fields)) args.2 (
          record { numbers = (is, l.1, u.1, r.1, a.1); names = n.1; shape = tt },
          (λ j. id_bytes task ∷ codes "forall" ∷ l.0 j ∷ u.0 j ∷ codes "grain" ∷ r.0 j ∷ n.0 j ∷ a.0 j),
        )
