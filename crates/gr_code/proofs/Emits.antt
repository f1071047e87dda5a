-- What each statement's code adds.
use Rattle.std.proofs.Common.{◌≡◌, ℕ, ◌<◌, ◌≤◌, ◌-◌, suc, List, [], ◌∷◌, ◌++◌, length, drop, ap, sym, ◌∙◌, subst, arith, slice_get, slice_set, get_or, Some}
use Rattle.std.proofs.Math.Seq.{drop-cons, drop-length}
use Rattle.gr_syntax.specs.declared.syntax.Program.{Program}
use Rattle.gr_syntax.specs.declared.syntax.Expr.{Expr}
use Rattle.gr_syntax.specs.declared.syntax.Stmt.{Stmt}
use Rattle.gr_syntax.specs.declared.syntax.Stmt.TheVariants as st
use Rattle.gr_lang.specs.Next.{Todo, run, arrive, runs}
use Rattle.gr_code.specs.declared.terms.Term.{Term}
use Rattle.gr_code.specs.declared.instructions.Instruction.{Instruction}
use Rattle.gr_code.specs.declared.instructions.Instruction.TheVariants as i
use Rattle.gr_code.specs.Terms.{IsTermOf}
use Rattle.gr_code.specs.Points.{Point, point_at}
use Rattle.gr_code.specs.PointView.{Laid, before}
use Rattle.gr_code.specs.Instructions.{Agrees, Begins}
use Rattle.gr_code.specs.EmitWords.{Grown, Emitted}
use Rattle.gr_code.proofs.Grows.{begins_trans, get_begins, get_last, get_point, point_here, point_stays, grown_same, grown_trans, put_grown, patch_grown}
use Rattle.gr_code.proofs.Agree.{here, arrive_agrees, if_agrees, while_agrees, finish_agrees}

abbrev pub with_one : Laid → Instruction → Point → Laid
with_one a x t = record { instructions = a.instructions ++ x ∷ []; points = a.points ++ t ∷ [] }

-- The new point is the last of all.
abbrev pub IsLast : Laid → ℕ → Type 0
IsLast a at = (at ≡ length a.instructions) × (at ≡ length a.points)

-- What is left to do at a point.
abbrev pub rest_at : Laid → ℕ → List Todo
rest_at a k = (point_at a.points k).todo

-- The task's locals at a point.
abbrev pub names_at : Laid → ℕ → List (List ℕ)
names_at a k = (point_at a.points k).names

-- A new point of a statement, or of the end of a `finish`, that leads to an earlier one.
abbrev pub Leads : Laid → Laid → Instruction → Todo → ℕ → Type 0
Leads a b x t next = b ≡ with_one a x (before (point_at a.points next) t)

pub put_stands : (a b : Laid) (x : Instruction) (t : Point) (at : ℕ) → IsLast a at → b ≡ with_one a x t → slice_get b.points at ≡ Some t
put_stands a b x t at place is = ap (λ l. slice_get l.points at) is ∙ get_last a.points t [] at place.1

module _ (p : Program) (names : List (List ℕ)) where
  led : (a : Laid) (next : ℕ) → next < length a.points → names_at a next ≡ names → slice_get a.points next ≡ Some (here names (rest_at a next))
  led a next lt same = get_point a.points next lt ∙ ap (λ n. Some (here n (rest_at a next))) same

  pub lead_stands : (a b : Laid) (x : Instruction) (t : Todo) (next at : ℕ) → IsLast a at → Leads a b x t next → names_at a next ≡ names → slice_get b.points at ≡ Some (here names (t ∷ rest_at a next))
  lead_stands a b x t next at place is same = put_stands a b x _ at place is ∙ ap (λ n. Some (here n (t ∷ rest_at a next))) same

  -- The locals of an earlier point are those of the task also afterwards.
  pub names_stay : (a b : Laid) (todo : List Todo) (next at : ℕ) → Emitted p names a b todo at → next < length a.points → names_at a next ≡ names → names_at b next ≡ names
  names_stay a b todo next at y lt same = ap (λ q. q.names) (point_stays a.points b.points next y.grown.points lt) ∙ same

  pub names_new : (a b : Laid) (x : Instruction) (t : Todo) (next at : ℕ) → IsLast a at → Leads a b x t next → names_at a next ≡ names → names_at b at ≡ names
  names_new a b x t next at place is same = ap (λ q. q.names) (point_here b.points at _ (lead_stands a b x t next at place is same))

  grown_one : (a b : Laid) (x : Instruction) (t : Point) (at : ℕ) → IsLast a at → b ≡ with_one a x t → Agrees p b.points at x → Grown p a b
  grown_one a b x t at place is agree = subst (λ b. Grown p a b) (sym is) (put_grown p a x t at place.0 (subst (λ ts. Agrees p ts at x) (ap (λ l. l.points) is) agree))

  -- One more point, of a statement that leads on to `next`.
  pub one_more : (a b : Laid) (x : Instruction) (t : Todo) (next at : ℕ) → IsLast a at → Leads a b x t next → next < length a.points → names_at a next ≡ names
      → (slice_get b.points at ≡ Some (here names (t ∷ rest_at a next)) → slice_get b.points next ≡ Some (here names (rest_at a next)) → Agrees p b.points at x) → Emitted p names a b (t ∷ rest_at a next) at
  one_more a b x t next at place is lt same f =
      let get = lead_stands a b x t next at place is same in
      let to : slice_get b.points next ≡ Some (here names (rest_at a next)) = get_begins a.points b.points next _ (_ ∷ [], ap (λ l. l.points) is) (led a next lt same) in
      record {
        grown = grown_one a b x _ at place is (f get to);
        stands = get;
      }

  pub if_emits : (a b c d : Laid) (s : Stmt) (e : Expr) (r : Term) (ay an ys ns : List Stmt) (next one other at : ℕ) → s ≡ st.If e ay an → IsTermOf names r e → next < length a.points → names_at a next ≡ names
      → Emitted p names a b (runs ns ++ rest_at a next) other → ns ≡ an → Emitted p names b c (runs ys ++ rest_at b next) one → ys ≡ ay
      → IsLast c at → Leads c d (i.Branch r one other next) (run s) next
      → Emitted p names a d (run s ∷ rest_at a next) at
  if_emits a b c d s e r ay an ys ns next one other at is term lt same n ni y yi place di =
      let rest = rest_at a next in
      let ac = begins_trans a.points b.points c.points n.grown.points y.grown.points in
      let cd : Begins c.points d.points = (_ ∷ [], ap (λ l. l.points) di) in
      let bd = begins_trans b.points c.points d.points y.grown.points cd in
      let stay : point_at c.points next ≡ point_at a.points next = point_stays a.points c.points next ac lt in
      let stay' : point_at b.points next ≡ point_at a.points next = point_stays a.points b.points next n.grown.points lt in
      let same' : names_at c next ≡ names = ap (λ q. q.names) stay ∙ same in
      let at_d : slice_get d.points at ≡ Some (here names (run s ∷ rest)) = lead_stands c d (i.Branch r one other next) (run s) next at place di same' ∙ ap (λ q. Some (here names (run s ∷ q.todo))) stay in
      let next_at : slice_get d.points next ≡ Some (here names rest) = get_begins a.points d.points next _ (begins_trans a.points c.points d.points ac cd) (led a next lt same) in
      let one_at : slice_get d.points one ≡ Some (here names (runs ay ++ rest)) = get_begins c.points d.points one _ cd y.stands ∙ ap (λ l. Some (here names (runs l ++ rest_at b next))) yi ∙ ap (λ q. Some (here names (runs ay ++ q.todo))) stay' in
      let other_at : slice_get d.points other ≡ Some (here names (runs an ++ rest)) = get_begins b.points d.points other _ bd n.stands ∙ ap (λ l. Some (here names (runs l ++ rest))) ni in
      record {
        grown = grown_trans p a b d n.grown (grown_trans p b c d y.grown (grown_one c d (i.Branch r one other next) _ at place di (if_agrees p d.points at s names rest at_d next next_at e ay an r one other is term one_at other_at)));
        stands = at_d;
      }

  pub while_emits : (a b c d : Laid) (s : Stmt) (e : Expr) (r : Term) (body ys : List Stmt) (next one at : ℕ) → s ≡ st.While e body → IsTermOf names r e → next < length a.points → names_at a next ≡ names
      → IsLast a at → Leads a b i.End (run s) next
      → Emitted p names b c (runs ys ++ rest_at b at) one → ys ≡ body → d ≡ record c { instructions = slice_set c.instructions at (i.Branch r one next next) }
      → Emitted p names a d (run s ∷ rest_at a next) at
  while_emits a b c d s e r body ys next one at is term lt same place bi y yi di =
      let rest = rest_at a next in
      let ab : Begins a.points b.points = (_ ∷ [], ap (λ l. l.points) bi) in
      let at_b : slice_get b.points at ≡ Some (here names (run s ∷ rest)) = lead_stands a b i.End (run s) next at place bi same in
      let at_c : slice_get c.points at ≡ Some (here names (run s ∷ rest)) = get_begins b.points c.points at _ y.grown.points at_b in
      let next_at : slice_get c.points next ≡ Some (here names rest) = get_begins a.points c.points next _ (begins_trans a.points b.points c.points ab y.grown.points) (led a next lt same) in
      let loop_at : rest_at b at ≡ run s ∷ rest = ap (λ q. q.todo) (point_here b.points at _ at_b) in
      let one_at : slice_get c.points one ≡ Some (here names (runs body ++ (run s ∷ rest))) = y.stands ∙ ap (λ l. Some (here names (runs l ++ rest_at b at))) yi ∙ ap (λ l. Some (here names (runs body ++ l))) loop_at in
      let agree = while_agrees p c.points at s names rest at_c next next_at e body r one is term one_at in
      record {
        grown = subst (λ d. Grown p a d) (sym di) (patch_grown p a c i.End (i.Branch r one next next) _ at place.0 (subst (λ b. Grown p b c) bi y.grown) agree);
        stands = ap (λ d. slice_get d.points at) di ∙ at_c;
      }

  pub finish_emits : (a b c d : Laid) (s : Stmt) (body ys : List Stmt) (next past one at : ℕ) → s ≡ st.Finish body → next < length a.points → names_at a next ≡ names
      → IsLast a past → Leads a b (i.Arrive next) arrive next
      → Emitted p names b c (runs ys ++ rest_at b past) one → ys ≡ body
      → IsLast c at → Leads c d (i.Finish one) (run s) next
      → Emitted p names a d (run s ∷ rest_at a next) at
  finish_emits a b c d s body ys next past one at is lt same place bi y yi place' di =
      let rest = rest_at a next in
      let first = one_more a b (i.Arrive next) arrive next past place bi lt same (λ g to. arrive_agrees p b.points past names rest next g to) in
      let ac = begins_trans a.points b.points c.points first.grown.points y.grown.points in
      let cd : Begins c.points d.points = (_ ∷ [], ap (λ l. l.points) di) in
      let stay : point_at c.points next ≡ point_at a.points next = point_stays a.points c.points next ac lt in
      let same' : names_at c next ≡ names = ap (λ q. q.names) stay ∙ same in
      let at_d : slice_get d.points at ≡ Some (here names (run s ∷ rest)) = lead_stands c d (i.Finish one) (run s) next at place' di same' ∙ ap (λ q. Some (here names (run s ∷ q.todo))) stay in
      let next_at : slice_get d.points next ≡ Some (here names rest) = get_begins a.points d.points next _ (begins_trans a.points c.points d.points ac cd) (led a next lt same) in
      let past_at : rest_at b past ≡ arrive ∷ rest = ap (λ q. q.todo) (point_here b.points past _ first.stands) in
      let one_at : slice_get d.points one ≡ Some (here names (runs body ++ (arrive ∷ rest))) = get_begins c.points d.points one _ cd y.stands ∙ ap (λ l. Some (here names (runs l ++ rest_at b past))) yi ∙ ap (λ l. Some (here names (runs body ++ l))) past_at in
      record {
        grown = grown_trans p a b d first.grown (grown_trans p b c d y.grown (grown_one c d (i.Finish one) _ at place' di (finish_agrees p d.points at s names rest at_d next next_at body one is one_at)));
        stands = at_d;
      }

  pub none_emits : (a : Laid) (block : List Stmt) (next : ℕ) → next < length a.points → names_at a next ≡ names → Emitted p names a a (runs (drop (length block) block) ++ rest_at a next) next
  none_emits a block next lt same = record {
    grown = grown_same p a;
    stands = led a next lt same ∙ ap (λ l. Some (here names (runs l ++ rest_at a next))) (sym (drop-length block));
  }

  -- One more statement before a block.
  pub block_emits : (a b c : Laid) (block : List Stmt) (s : Stmt) (k next mid at : ℕ) → 0 < k → k ≤ length block → s ≡ get_or block (k - 1) s → Grown p a b → slice_get b.points mid ≡ Some (here names (runs (drop k block) ++ rest_at a next))
      → Emitted p names b c (run s ∷ rest_at b mid) at → Emitted p names a c (runs (drop (k - 1) block) ++ rest_at a next) at
  block_emits a b c block s k next mid at low high is g h y =
      let lt : k - 1 < length block = omega arith in
      let up : suc (k - 1) ≡ k = omega arith in
      let cut : drop (k - 1) block ≡ s ∷ drop k block = drop-cons block (k - 1) s lt ∙ ap (λ h. h ∷ drop (suc (k - 1)) block) (sym is) ∙ ap (λ n. s ∷ drop n block) up in
      let mid_at : rest_at b mid ≡ runs (drop k block) ++ rest_at a next = ap (λ q. q.todo) (point_here b.points mid _ h) in
      record {
        grown = grown_trans p a b c g y.grown;
        stands = y.stands ∙ ap (λ l. Some (here names (run s ∷ l))) mid_at ∙ ap (λ l. Some (here names (runs l ++ rest_at a next))) (sym cut);
      }
