-- The code of a task's body, and the entries of tasks.
use Rattle.std.proofs.Common.{◌≡◌, ◌≢◌, ℕ, suc, ◌+◌, ◌<◌, get_or, drop, List, [], ◌∷◌, ◌++◌, length, refl, ap, sym, ◌∙◌, subst, arith, append-nil, Some, map, slice_get, Option}
use Rattle.std.proofs.Math.Seq.{drop-cons}
use Rattle.std.proofs.lemmas.List.{length-map}
use Rattle.gr_syntax.specs.declared.syntax.Program.{Program}
use Rattle.gr_syntax.specs.declared.syntax.Stmt.{Stmt}
use Rattle.gr_syntax.specs.declared.syntax.Item.{Item}
use Rattle.gr_syntax.specs.declared.syntax.Item.TheVariants as items
use Rattle.gr_syntax.specs.declared.syntax.Name.{Name}
use Rattle.gr_syntax.specs.Items.{TaskText, tasks_of, texts}
use Rattle.gr_lang.specs.Next.{runs, lets_of}
use Rattle.gr_code.specs.declared.instructions.Instruction.TheVariants as i
use Rattle.gr_code.specs.declared.lowering.TaskEntry.{TaskEntry}
use Rattle.gr_code.specs.Points.{Point, first_point}
use Rattle.gr_code.specs.PointView.{Laid}
use Rattle.gr_code.specs.Instructions.{Begins}
use Rattle.gr_code.specs.EmitWords.{Grown, Emitted, AllAgree, Known, known_in, known_of}
use Rattle.gr_code.proofs.Grows.{begins_same, begins_trans, get_begins, grown_trans, put_grown, point_here, all_agree}
use Rattle.gr_code.proofs.Agree.{here, end_agrees}
use Rattle.gr_code.proofs.Emits.{IsLast, with_one, put_stands, rest_at, names_at}

-- The end of a body is a point at which nothing is left to do.
pub end_names : (a b : Laid) (names : List (List ℕ)) (at : ℕ) → IsLast a at → b ≡ with_one a i.End (here names []) → names_at b at ≡ names
end_names a b names at place is = ap (λ q. q.names) (point_here b.points at _ (put_stands a b i.End (here names []) at place is))

pub task_emits : (p : Program) (names names' : List (List ℕ)) (a b c : Laid) (block body : List Stmt) (end at : ℕ) → IsLast a end → b ≡ with_one a i.End (here names []) → names' ≡ names
    → Emitted p names' b c (runs block ++ rest_at b end) at → block ≡ body → Emitted p names a c (runs body) at
task_emits p names names' a b c block body end at place bi same y is =
    let get : slice_get b.points end ≡ Some (here names []) = put_stands a b i.End (here names []) end place bi in
    let none : rest_at b end ≡ [] = ap (λ q. q.todo) (point_here b.points end _ get) in
    let first : Grown p a b = subst (λ b. Grown p a b) (sym bi) (put_grown p a i.End (here names []) end place.0 (end_agrees p _ end names (ap (λ l. slice_get l.points end) (sym bi) ∙ get))) in
    record {
      grown = grown_trans p a b c first y.grown;
      stands = y.stands ∙ ap (λ n. Some (here n (runs block ++ rest_at b end))) same ∙ ap (λ l. Some (here names (runs block ++ l))) none ∙ ap (λ l. Some (here names l)) (append-nil (runs block)) ∙ ap (λ l. Some (here names (runs l))) is;
    }

shifted : (all : List Point) (entries : List TaskEntry) (e : TaskEntry) (rest : List Known) → map (known_in all) (entries ++ e ∷ []) ++ rest ≡ map (known_in all) entries ++ (known_in all e ∷ rest)
shifted all [] e rest = refl
shifted all (x ∷ xs) e rest = ap (λ l. known_in all x ∷ l) (shifted all xs e rest)

-- One more task has its entry.
pub task_entered : (a b : List Point) (entries entries' : List TaskEntry) (e : TaskEntry) (t : TaskText) (rest whole : List Known) → Begins a b
    → entries' ≡ entries ++ e ∷ [] → e.params ≡ length t.params → e.locals ≡ length (first_point t).names → slice_get b e.at ≡ Some (first_point t)
    → ((all : List Point) → Begins a all → map (known_in all) entries ++ (known_of t ∷ rest) ≡ whole)
    → (all : List Point) → Begins b all → map (known_in all) entries' ++ rest ≡ whole
task_entered a b entries entries' e t rest whole g is params locals get h all later =
    let known : known_in all e ≡ known_of t = ap (λ n. record { params = n; locals = e.locals; first = slice_get all e.at }) params ∙ ap (λ n. record { params = length t.params; locals = n; first = slice_get all e.at }) locals ∙ ap (λ (o : Option Point). record { params = length t.params; locals = length (first_point t).names; first = o }) (get_begins b all e.at _ later get) in
    ap (λ l. map (known_in all) l ++ rest) is ∙ shifted all entries e rest ∙ ap (λ k. map (known_in all) entries ++ (k ∷ rest)) known ∙ h all (begins_trans a b all g later)

pub entries_are : (points : List Point) (entries : List TaskEntry) (whole : List Known) → ((all : List Point) → Begins points all → map (known_in all) entries ++ [] ≡ whole) → map (known_in points) entries ≡ whole
entries_are points entries whole h = sym (append-nil (map (known_in points) entries)) ∙ h points (begins_same points)

-- The next item is a task, whose code and entry are added.
pub task_added : (p : Program) (a b b' : Laid) (entries entries' entries'' : List TaskEntry) (e : TaskEntry) (name : Name) (params : List Name) (body : List Stmt) (list : List Item) (k : ℕ) (item : Item) (whole : List Known)
    → k < length list → item ≡ get_or list k item → item ≡ items.Task name params body
    → Emitted p (texts params ++ lets_of body) a b (runs body) e.at → e.params ≡ length params → e.locals ≡ length (texts params ++ lets_of body) → entries' ≡ entries ++ e ∷ [] → b' ≡ b → entries'' ≡ entries'
    → AllAgree p a → ((all : List Point) → Begins a.points all → map (known_in all) entries ++ map known_of (tasks_of (drop k list)) ≡ whole)
    → (AllAgree p b') × ((all : List Point) → Begins b'.points all → map (known_in all) entries'' ++ map known_of (tasks_of (drop (k + 1) list)) ≡ whole)
task_added p a b b' entries entries' entries'' e name params body list k x whole lt at is y counts locals added same same' agree known =
    let t : TaskText = record { name = name.text; params = texts params; body = body } in
    let up : suc k ≡ k + 1 = omega arith in
    let cut : drop k list ≡ items.Task name params body ∷ drop (k + 1) list = drop-cons list k x lt ∙ ap (λ h. h ∷ drop (suc k) list) (sym at ∙ is) ∙ ap (λ n. items.Task name params body ∷ drop n list) up in
    let before : (all : List Point) → Begins a.points all → map (known_in all) entries ++ (known_of t ∷ map known_of (tasks_of (drop (k + 1) list))) ≡ whole = λ all g. ap (λ l. map (known_in all) entries ++ map known_of (tasks_of l)) (sym cut) ∙ known all g in (
      subst (AllAgree p) (sym same) (all_agree p a b agree y.grown),
      λ all g. task_entered a.points b.points entries entries'' e t (map known_of (tasks_of (drop (k + 1) list))) whole y.grown.points (same' ∙ added) (counts ∙ sym (length-map params (λ n. n.text))) locals y.stands before all (subst (λ l. Begins l.points all) same g),
    )

not_a_task : (item : Item) (rest : List Item) → ((name : Name) (params : List Name) (body : List Stmt) → item ≢ items.Task name params body) → tasks_of (item ∷ rest) ≡ tasks_of rest
not_a_task (items.Task name params body) rest h = absurd (h name params body refl)
not_a_task (items.Array name words) rest h = refl
not_a_task (items.Set name) rest h = refl
not_a_task (items.Map name) rest h = refl
not_a_task (items.Vector name) rest h = refl
not_a_task (items.Heap words) rest h = refl
not_a_task (items.Show name) rest h = refl
not_a_task (items.Input name values) rest h = refl

-- The next item is no task.
pub item_skipped : (p : Program) (a b : Laid) (entries entries' : List TaskEntry) (list : List Item) (k : ℕ) (item : Item) (whole : List Known)
    → k < length list → item ≡ get_or list k item → ((name : Name) (params : List Name) (body : List Stmt) → item ≢ items.Task name params body) → b ≡ a → entries' ≡ entries
    → AllAgree p a → ((all : List Point) → Begins a.points all → map (known_in all) entries ++ map known_of (tasks_of (drop k list)) ≡ whole)
    → (AllAgree p b) × ((all : List Point) → Begins b.points all → map (known_in all) entries' ++ map known_of (tasks_of (drop (k + 1) list)) ≡ whole)
item_skipped p a b entries entries' list k x whole lt at not same same' agree known =
    let up : suc k ≡ k + 1 = omega arith in
    let cut : drop k list ≡ x ∷ drop (k + 1) list = drop-cons list k x lt ∙ ap (λ h. h ∷ drop (suc k) list) (sym at) ∙ ap (λ n. x ∷ drop n list) up in
    let left : tasks_of (drop k list) ≡ tasks_of (drop (k + 1) list) = ap tasks_of cut ∙ not_a_task x (drop (k + 1) list) not in (
      subst (AllAgree p) (sym same) agree,
      λ all g. ap (λ l. map (known_in all) l ++ map known_of (tasks_of (drop (k + 1) list))) same' ∙ ap (λ ts. map (known_in all) entries ++ map known_of ts) (sym left) ∙ known all (subst (λ l. Begins l.points all) same g),
    )
