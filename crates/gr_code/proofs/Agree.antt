-- The instruction of each statement does what the statement does.
use Rattle.std.proofs.Common.{◌≡◌, ℕ, Bool, true, false, ◌==◌, List, [], ◌∷◌, ◌++◌, length, refl, ap, sym, subst, ◌∙◌, slice_get, Option, Some, None, if◌then◌else◌}
use Rattle.std.specs.Option.{option_map}
use Rattle.gr_syntax.specs.declared.syntax.Program.{Program}
use Rattle.gr_syntax.specs.declared.syntax.Expr.{Expr}
use Rattle.gr_syntax.specs.declared.syntax.Name.{Name}
use Rattle.gr_syntax.specs.declared.syntax.CallText.{CallText}
use Rattle.gr_syntax.specs.declared.syntax.HowText.{HowText}
use Rattle.gr_syntax.specs.declared.syntax.Right.{Right}
use Rattle.gr_syntax.specs.declared.syntax.Right.TheVariants as right
use Rattle.gr_syntax.specs.declared.syntax.Stmt.{Stmt, out-Stmt}
use Rattle.gr_syntax.specs.declared.syntax.Stmt.TheOpen.{Stmt-F}
use Rattle.gr_syntax.specs.declared.syntax.Stmt.TheVariants as st
use Rattle.gr_lang.specs.declared.action.Action.{Action}
use Rattle.gr_lang.specs.declared.action.How.{How}
use Rattle.gr_lang.specs.declared.action.Reply.{Reply}
use Rattle.gr_lang.specs.Expressions.{values}
use Rattle.gr_accept.specs.Operations.{operation_of}
use Rattle.gr_lang.specs.Openings.{object_of, target_of}
use Rattle.gr_lang.specs.Next.{Todo, Running, set_all, run, arrive, runs, look, look_at, go_on, go_on_at, pure, acts, acted, given, reducer_number, how_of as how_text, spawn_action, loop_action}
use Rattle.gr_lang.proofs.Opens.{out-Set1, out-Do, out-Print, out-If, out-While, out-Finish, out-Spawn, out-Forall}
use Rattle.gr_code.specs.declared.terms.Term.{Term}
use Rattle.gr_code.specs.declared.terms.Targets.{Targets}
use Rattle.gr_code.specs.declared.terms.Targets.TheVariants as t
use Rattle.gr_code.specs.declared.instructions.Instruction.{Instruction}
use Rattle.gr_code.specs.declared.instructions.Instruction.TheVariants as i
use Rattle.gr_code.specs.declared.instructions.Onward.{Onward}
use Rattle.gr_code.specs.declared.instructions.Way.{Way}
use Rattle.gr_code.specs.Terms.{IsTermOf, AreTermsOf, targets_in, put_reply, term_value, term_values}
use Rattle.gr_code.specs.Points.{Point, nowhere, point_at, state_at}
use Rattle.gr_code.specs.Instructions.{Agrees, Begins, IsOnward, does, next_of, targets_of, chosen, printed, spawned, looped, how_of}
use Rattle.gr_code.specs.EmitWords.{IsCallOf, IsWayOf, IsPrintOf, IsRightOf, IsSpawnOf}
use Rattle.gr_code.proofs.Numbers.{put_word-given, put_reply-given, are_terms}
use Rattle.gr_code.proofs.Grows.{point_is}

abbrev pub here : List (List ℕ) → List Todo → Point
here names todo = record { names = names; todo = todo }

-- How a task goes on at an instruction.
abbrev goes : List Point → ℕ → Instruction → List ℕ → Reply → Running
goes points at x ws w = state_at (point_at points (next_of at x)) (put_reply (targets_of x) w ws)

-- Where a statement of this open form stands at the point.
run_agrees : (p : Program) (points : List Point) (k : ℕ) (s : Stmt) (names : List (List ℕ)) (rest : List Todo) (x : Instruction) (f : Stmt-F Stmt)
    → slice_get points k ≡ Some (here names (run s ∷ rest)) → out-Stmt s ≡ f
    → ((all : List Point) → Begins points all → (ws : List ℕ) → length ws ≡ length names → look_at p (state_at (here names (run s ∷ rest)) ws) rest f ≡ does p all x ws)
    → ((all : List Point) → Begins points all → (ws : List ℕ) → length ws ≡ length names → (w : Reply) → go_on_at (state_at (here names (run s ∷ rest)) ws) rest w f ≡ goes all k x ws w)
    → ((all : List Point) → Begins points all → (point_at all (next_of k x)).names ≡ names)
    → ((all : List Point) → Begins points all → (w : ℕ) → (point_at all (chosen k x w)).names ≡ names)
    → Agrees p points k x
unfolding look go_on
run_agrees p points k s names rest x f at opens h g stay move = record {
  looks = λ all b ws e.
      let is = point_is points all k (here names (run s ∷ rest)) b at in
      ap (λ q. look p (state_at q ws)) is ∙ ap (look_at p (state_at (here names (run s ∷ rest)) ws) rest) opens ∙ h all b ws (e ∙ ap (λ q. length q.names) is);
  moves = λ all b w. move all b w ∙ sym (ap (λ q. q.names) (point_is points all k (here names (run s ∷ rest)) b at));
  goes = λ all b.
      let is = point_is points all k (here names (run s ∷ rest)) b at in
      record {
        names = stay all b ∙ sym (ap (λ q. q.names) is);
        goes = λ ws e w. ap (λ q. go_on (state_at q ws) w) is ∙ ap (go_on_at (state_at (here names (run s ∷ rest)) ws) rest w) opens ∙ g all b ws (e ∙ ap (λ q. length q.names) is) w;
      };
}

pub arrive_agrees : (p : Program) (points : List Point) (k : ℕ) (names : List (List ℕ)) (rest : List Todo) (next : ℕ)
    → slice_get points k ≡ Some (here names (arrive ∷ rest)) → slice_get points next ≡ Some (here names rest) → Agrees p points k (i.Arrive next)
unfolding look go_on
arrive_agrees p points k names rest next at to = record {
  looks = λ all b ws e. ap (λ q. look p (state_at q ws)) (point_is points all k (here names (arrive ∷ rest)) b at);
  moves = λ all b w. same all b;
  goes = λ all b. record {
    names = same all b;
    goes = λ ws e w. ap (λ q. go_on (state_at q ws) w) (point_is points all k (here names (arrive ∷ rest)) b at) ∙ sym (ap (λ q. state_at q ws) (point_is points all next (here names rest) b to));
  };
}
  where
    same : (all : List Point) → Begins points all → (point_at all next).names ≡ (point_at all k).names
    same all b = ap (λ q. q.names) (point_is points all next (here names rest) b to) ∙ sym (ap (λ q. q.names) (point_is points all k (here names (arrive ∷ rest)) b at))

pub end_agrees : (p : Program) (points : List Point) (k : ℕ) (names : List (List ℕ)) → slice_get points k ≡ Some (here names []) → Agrees p points k i.End
unfolding look go_on
end_agrees p points k names at = record {
  looks = λ all b ws e. ap (λ q. look p (state_at q ws)) (point_is points all k (here names []) b at);
  moves = λ all b w. refl;
  goes = λ all b. record {
    names = refl;
    goes = λ ws e w. ap (λ q. go_on (state_at q ws) w) (point_is points all k (here names []) b at) ∙ sym (ap (λ q. state_at q ws) (point_is points all k (here names []) b at));
  };
}

-- Where there is no point a task stays.
pub none_onward : (points : List Point) (at : ℕ) (o : Onward) → point_at points at ≡ nowhere → o ≡ record { next = at; targets = t.Empty } → IsOnward points at o
unfolding go_on
none_onward points at o none is = subst (λ o. IsOnward points at o) (sym is) (record {
  names = refl;
  goes = λ ws e w. ap (λ q. go_on (state_at q ws) w) none ∙ sym (ap (λ q. state_at q ws) none);
})

map_same : {A B : Type 0} (f g : A → B) (o : Option A) → ((w : A) → f w ≡ g w) → option_map f o ≡ option_map g o
map_same f g None h = refl
map_same f g (Some w) h = ap Some (h w)

module _ (p : Program) (points : List Point) (k : ℕ) (s : Stmt) (names : List (List ℕ)) (rest : List Todo) (at : slice_get points k ≡ Some (here names (run s ∷ rest))) (next : ℕ) (to : slice_get points next ≡ Some (here names rest)) where
  led : (all : List Point) → Begins points all → point_at all next ≡ here names rest
  led all b = point_is points all next (here names rest) b to

  -- It leads on alone.
  leads : (x : Instruction) → next_of k x ≡ next → (all : List Point) → Begins points all → (point_at all (next_of k x)).names ≡ names
  leads x e all b = ap (λ n. (point_at all n).names) e ∙ ap (λ q. q.names) (led all b)

  turns : (x : Instruction) → ((w : ℕ) → chosen k x w ≡ next) → (all : List Point) → Begins points all → (w : ℕ) → (point_at all (chosen k x w)).names ≡ names
  turns x e all b w = ap (λ n. (point_at all n).names) (e w) ∙ ap (λ q. q.names) (led all b)

  set_agrees : (fresh : Bool) (targets : List Name) (e : Expr) (r : Term) (x : Targets) → s ≡ st.Set1 fresh targets (right.Value e) → IsTermOf names r e → x ≡ targets_in names targets → Agrees p points k (i.Set r x next)
  set_agrees fresh targets e r x is term are =
      run_agrees p points k s names rest (i.Set r x next) (Stmt-F.Set1 fresh targets (right.Value e)) at (ap out-Stmt is ∙ out-Set1 fresh targets (right.Value e))
      (λ all b ws l. rw (led all b, are) (
      ap pure (ap (option_map (λ w. record { todo = rest; locals = set_all (given names ws) targets (w ∷ []) })) (sym (term ws l))
      ∙ map_same _ _ (term_value ws r) (λ w. ap (λ l. record { todo = rest; locals = l }) (put_word-given names ws targets w l)))))
      (λ all b ws l w. rw (led all b, are) (ap (λ l. record { todo = rest; locals = l }) (put_reply-given names ws targets w l)))
      (leads (i.Set r x next) refl) (turns (i.Set r x next) (λ w. refl))

  call_acts : (c : CallText) (args : List Term) (f : List ℕ → Action) (ws : List ℕ) → AreTermsOf names args c.args → length ws ≡ length names → acts (acted f (values (given names ws) c.args)) ≡ acts (acted f (term_values ws args))
  call_acts c args f ws h l = ap (λ v. acts (acted f v)) (sym (are_terms names args c.args ws h l))

  result_agrees : (fresh : Bool) (targets : List Name) (c : CallText) (x : Targets) (y : Instruction) → s ≡ st.Set1 fresh targets (right.Result c) → x ≡ targets_in names targets → IsCallOf p names c x next y → Agrees p points k y
  result_agrees fresh targets c x y is are h =
      let call : Instruction = i.Call (operation_of c.op.text) (object_of p c.object.text) (reducer_number c.reducer) h.0 x next in
      rw h.2 (run_agrees p points k s names rest call (Stmt-F.Set1 fresh targets (right.Result c)) at (ap out-Stmt is ∙ out-Set1 fresh targets (right.Result c))
      (λ all b ws l. call_acts c h.0 _ ws h.1 l)
      (λ all b ws l w. rw (led all b, are) (ap (λ l. record { todo = rest; locals = l }) (put_reply-given names ws targets w l)))
      (leads call refl) (turns call (λ w. refl)))

  pub do_agrees : (c : CallText) (y : Instruction) → s ≡ st.Do c → IsCallOf p names c t.Empty next y → Agrees p points k y
  do_agrees c y is h =
      let call : Instruction = i.Call (operation_of c.op.text) (object_of p c.object.text) (reducer_number c.reducer) h.0 t.Empty next in
      rw h.2 (run_agrees p points k s names rest call (Stmt-F.Do c) at (ap out-Stmt is ∙ out-Do c)
      (λ all b ws l. call_acts c h.0 _ ws h.1 l)
      (λ all b ws l w. rw (led all b) refl)
      (leads call refl) (turns call (λ w. refl)))

  pub right_agrees : (fresh : Bool) (targets : List Name) (r : Right) (x : Targets) (y : Instruction) → s ≡ st.Set1 fresh targets r → x ≡ targets_in names targets → IsRightOf p names r x next y → Agrees p points k y
  right_agrees fresh targets (right.Value e) x y is are h = rw h.2 (set_agrees fresh targets e h.0 x is h.1 are)
  right_agrees fresh targets (right.Result c) x y is are h = result_agrees fresh targets c x y is are h

  printed_agrees : (e : Expr) (r : Term) → s ≡ st.Print e → IsTermOf names r e → Agrees p points k (i.Print r next)
  printed_agrees e r is term =
      run_agrees p points k s names rest (i.Print r next) (Stmt-F.Print e) at (ap out-Stmt is ∙ out-Print e)
      (λ all b ws l. ap (λ v. acts (printed v)) (sym (term ws l)))
      (λ all b ws l w. rw (led all b) refl)
      (leads (i.Print r next) refl) (turns (i.Print r next) (λ w. refl))

  pub print_agrees : (e : Expr) (y : Instruction) → s ≡ st.Print e → IsPrintOf names e next y → Agrees p points k y
  print_agrees e y is h = rw h.2 (printed_agrees e h.0 is h.1)

  pub if_agrees : (e : Expr) (ay an : List Stmt) (r : Term) (one other : ℕ) → s ≡ st.If e ay an → IsTermOf names r e → slice_get points one ≡ Some (here names (runs ay ++ rest)) → slice_get points other ≡ Some (here names (runs an ++ rest))
      → Agrees p points k (i.Branch r one other next)
  if_agrees e ay an r one other is term y n =
      run_agrees p points k s names rest (i.Branch r one other next) (Stmt-F.If e ay an) at (ap out-Stmt is ∙ out-If e ay an)
      (λ all b ws l. ap pure (ap (option_map (λ w. record { todo = runs (if w == 0 then an else ay) ++ rest; locals = given names ws })) (sym (term ws l))
      ∙ map_same _ _ (term_value ws r) (λ w. ap (λ q. state_at q ws) (picked (w == 0) all (point_is points all one _ b y) (point_is points all other _ b n)))))
      (λ all b ws l w. rw (led all b) refl)
      (leads (i.Branch r one other next) refl)
      (λ all b w. sym (ap (λ q. q.names) (picked (w == 0) all (point_is points all one _ b y) (point_is points all other _ b n))))
    where
      picked : (z : Bool) (all : List Point) → point_at all one ≡ here names (runs ay ++ rest) → point_at all other ≡ here names (runs an ++ rest) → here names (runs (if z then an else ay) ++ rest) ≡ point_at all (if z then other else one)
      picked true all y n = sym n
      picked false all y n = sym y

  pub while_agrees : (e : Expr) (body : List Stmt) (r : Term) (one : ℕ) → s ≡ st.While e body → IsTermOf names r e → slice_get points one ≡ Some (here names (runs body ++ (run s ∷ rest))) → Agrees p points k (i.Branch r one next next)
  while_agrees e body r one is term y =
      run_agrees p points k s names rest (i.Branch r one next next) (Stmt-F.While e body) at (ap out-Stmt is ∙ out-While e body)
      (λ all b ws l. ap pure (ap (option_map (λ w. record { todo = if w == 0 then rest else runs body ++ (run s ∷ rest); locals = given names ws })) (sym (term ws l))
      ∙ map_same _ _ (term_value ws r) (λ w. ap (λ q. state_at q ws) (picked (w == 0) all (point_is points all one _ b y) (led all b)))))
      (λ all b ws l w. rw (led all b) refl)
      (leads (i.Branch r one next next) refl)
      (λ all b w. sym (ap (λ q. q.names) (picked (w == 0) all (point_is points all one _ b y) (led all b))))
    where
      picked : (z : Bool) (all : List Point) → point_at all one ≡ here names (runs body ++ (run s ∷ rest)) → point_at all next ≡ here names rest → here names (if z then rest else runs body ++ (run s ∷ rest)) ≡ point_at all (if z then next else one)
      picked true all y n = sym n
      picked false all y n = sym y

  pub finish_agrees : (b : List Stmt) (body : ℕ) → s ≡ st.Finish b → slice_get points body ≡ Some (here names (runs b ++ (arrive ∷ rest))) → Agrees p points k (i.Finish body)
  finish_agrees b body is y =
      run_agrees p points k s names rest (i.Finish body) (Stmt-F.Finish b) at (ap out-Stmt is ∙ out-Finish b)
      (λ all g ws l. refl)
      (λ all g ws l w. rw (point_is points all body _ g y) refl)
      (λ all g. ap (λ q. q.names) (point_is points all body _ g y))
      (λ all g w. ap (λ q. q.names) (point_is points all body _ g y))

  spawned_agrees : (how : HowText) (target : Name) (es : List Expr) (way : Way) (args : List Term) (number : ℕ) → s ≡ st.Spawn how target es → IsWayOf names way how → AreTermsOf names args es → number ≡ target_of p target.text
      → Agrees p points k (i.Spawn way number args next)
  spawned_agrees how target es way args number is isway are e =
      run_agrees p points k s names rest (i.Spawn way number args next) (Stmt-F.Spawn how target es) at (ap out-Stmt is ∙ out-Spawn how target es)
      (λ all b ws l. ap acts (spawns ws (how_text (given names ws) how) ∙ ap (λ n. spawned n (how_text (given names ws) how) (values (given names ws) es)) (sym e)
      ∙ ap (λ h. spawned number h (values (given names ws) es)) (sym (isway ws l)) ∙ ap (spawned number (how_of ws way)) (sym (are_terms names args es ws are l))))
      (λ all b ws l w. rw (led all b) refl)
      (leads (i.Spawn way number args next) refl) (turns (i.Spawn way number args next) (λ w. refl))
    where
      spawns : (ws : List ℕ) (h : Option How) → spawn_action p (given names ws) h target es ≡ spawned (target_of p target.text) h (values (given names ws) es)
      spawns ws None = refl
      spawns ws (Some h) = refl

  looped_agrees : (lo hi grain : Expr) (target : Name) (es : List Expr) (args : List Term) (number : ℕ) → s ≡ st.Forall lo hi grain target es → AreTermsOf names args (lo ∷ hi ∷ grain ∷ es) → number ≡ target_of p target.text
      → Agrees p points k (i.Loop number args next)
  looped_agrees lo hi grain target es args number is are e =
      run_agrees p points k s names rest (i.Loop number args next) (Stmt-F.Forall lo hi grain target es) at (ap out-Stmt is ∙ out-Forall lo hi grain target es)
      (λ all b ws l. ap acts (loops (values (given names ws) (lo ∷ hi ∷ grain ∷ es)) ∙ ap (λ n. acted (looped n) (values (given names ws) (lo ∷ hi ∷ grain ∷ es))) (sym e)
      ∙ ap (acted (looped number)) (sym (are_terms names args (lo ∷ hi ∷ grain ∷ es) ws are l))))
      (λ all b ws l w. rw (led all b) refl)
      (leads (i.Loop number args next) refl) (turns (i.Loop number args next) (λ w. refl))
    where
      loops : (v : Option (List ℕ)) → acted (loop_action p target) v ≡ acted (looped (target_of p target.text)) v
      loops None = refl
      loops (Some []) = refl
      loops (Some (x ∷ [])) = refl
      loops (Some (x ∷ y ∷ [])) = refl
      loops (Some (x ∷ y ∷ z ∷ ws)) = refl

  pub spawn_agrees : (how : HowText) (target : Name) (es : List Expr) (y : Instruction) → s ≡ st.Spawn how target es → IsSpawnOf p names how target es next y → Agrees p points k y
  spawn_agrees how target es y is h = rw h.4 (spawned_agrees how target es h.0 h.1 _ is h.2 h.3 refl)

  pub loop_agrees : (lo hi grain : Expr) (target : Name) (es : List Expr) (args : List Term) (y : Instruction) → s ≡ st.Forall lo hi grain target es → AreTermsOf names args (lo ∷ hi ∷ grain ∷ es)
      → y ≡ i.Loop (target_of p target.text) args next → Agrees p points k y
  loop_agrees lo hi grain target es args y is are e = rw e (looped_agrees lo hi grain target es args _ is are refl)
