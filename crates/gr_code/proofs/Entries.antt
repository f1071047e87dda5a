-- What the entries of a program's tasks tell.
use Rattle.std.proofs.Common.{◌≡◌, ℕ, zero, suc, List, [], ◌∷◌, arith, length, refl, ap, sym, ◌∙◌, slice_get, Option, Some, None}
use Rattle.std.specs.Prelude.{unwrap_or}
use Rattle.std.specs.Option.{option_map, option_map_or}
use Rattle.std.proofs.lemmas.Option.{slice_get-map}
use Rattle.gr_syntax.specs.Items.{TaskText}
use Rattle.gr_code.specs.declared.lowering.TaskEntry.{TaskEntry}
use Rattle.gr_code.specs.Points.{Point, nowhere, point_at, first_point}
use Rattle.gr_code.specs.EmitWords.{Known, known_in, known_of, AreEntries}

both : (points : List Point) (entries : List TaskEntry) (tasks : List TaskText) (k : ℕ) → AreEntries points entries tasks → option_map (known_in points) (slice_get entries k) ≡ option_map known_of (slice_get tasks k)
both points entries tasks k h = sym (slice_get-map (known_in points) entries k) ∙ ap (λ l. slice_get l k) h ∙ slice_get-map known_of tasks k

counts : (points : List Point) (e : Option TaskEntry) (t : Option TaskText) → option_map (known_in points) e ≡ option_map known_of t → option_map (λ e. e.params) e ≡ option_map (λ t. length t.params) t
counts points None None h = refl
counts points (Some e) None h = cc
counts points None (Some t) h = cc
counts points (Some e) (Some t) h = ap (option_map (λ k. k.params)) h

pub params_are : (points : List Point) (entries : List TaskEntry) (tasks : List TaskText) (k : ℕ) → AreEntries points entries tasks → option_map (λ e. e.params) (slice_get entries k) ≡ option_map (λ t. length t.params) (slice_get tasks k)
params_are points entries tasks k h = counts points (slice_get entries k) (slice_get tasks k) (both points entries tasks k h)

-- What a known task is at a place of the list.
abbrev some_or : Known → Option Known → Known
some_or k o = unwrap_or o k

begins : (points : List Point) (e : TaskEntry) (t : Option TaskText) → Some (known_in points e) ≡ option_map known_of t
    → (point_at points e.at ≡ option_map_or first_point t nowhere) × (e.locals ≡ length (point_at points e.at).names)
begins points e None h = cc
begins points e (Some t) h =
    let same : known_in points e ≡ known_of t = ap (some_or (known_in points e)) h in
    let point : point_at points e.at ≡ first_point t = ap (λ k. unwrap_or k.first nowhere) same in
    (point, ap (λ k. k.locals) same ∙ sym (ap (λ q. length q.names) point))

pub entry_is : (points : List Point) (entries : List TaskEntry) (tasks : List TaskText) (k : ℕ) (e : TaskEntry) → AreEntries points entries tasks → slice_get entries k ≡ Some e
    → (point_at points e.at ≡ option_map_or first_point (slice_get tasks k) nowhere) × (e.locals ≡ length (point_at points e.at).names)
entry_is points entries tasks k e h at = begins points e (slice_get tasks k) (ap (option_map (known_in points)) (sym at) ∙ both points entries tasks k h)

no_task : (t : Option TaskText) → None ≡ option_map known_of t → option_map_or first_point t nowhere ≡ nowhere
no_task None h = refl
no_task (Some t) h = cc

pub no_entry : (points : List Point) (entries : List TaskEntry) (tasks : List TaskText) (k : ℕ) → AreEntries points entries tasks → slice_get entries k ≡ None → option_map_or first_point (slice_get tasks k) nowhere ≡ nowhere
no_entry points entries tasks k h at = no_task (slice_get tasks k) (ap (option_map (known_in points)) (sym at) ∙ both points entries tasks k h)

pub no_point : (points : List Point) (k : ℕ) → k ≡ length points → point_at points k ≡ nowhere
no_point [] k e = refl
no_point (q ∷ points) zero e = absurd (omega arith)
no_point (q ∷ points) (suc k) e = no_point points k (omega arith)
