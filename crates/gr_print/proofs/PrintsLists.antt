-- The tokens that are laid out for lists, arguments and calls spell them, and each spelling has them.
use Rattle.std.proofs.Common.{◌≡◌, ℕ, suc, Bool, true, false, List, [], ◌∷◌, ◌++◌, map, Option, Some, None, refl, sym, ap, subst, ◌∙◌}
use Rattle.std.specs.Prelude.{codes, if◌then◌else◌}
use Rattle.std.specs.Option.{option_map}
use Rattle.std.specs.Str.{bytes_eq}
use Rattle.std.proofs.lemmas.Slice.Eq.{bytes_eq-Decides}
use Rattle.std.proofs.lemmas.List.{map-append, append-nil}
use Rattle.gr_meets.specs.Lists.{Separated, Enclosed}
use Rattle.gr_syntax.specs.declared.syntax.Name.{Name}
use Rattle.gr_syntax.specs.declared.syntax.Number.{Number}
use Rattle.gr_syntax.specs.declared.syntax.Expr.{Expr}
use Rattle.gr_syntax.specs.declared.syntax.CallText.{CallText}
use Rattle.gr_text.specs.declared.token.Keyword.TheVariants as k
use Rattle.gr_text.specs.declared.token.Sign.TheVariants as s
use Rattle.gr_text.specs.declared.token.TokenKind.TheVariants as kinds
use Rattle.gr_text.specs.Text.{IsToken}
use Rattle.gr_expressions.specs.Tok.{Tok, Toks}
use Rattle.gr_expressions.specs.Expressions.{call_of, IsExpr, IsName, IsNumber, IsArgs, IsObject, IsOperation, IsCall}
use Rattle.gr_print.specs.Unplaced.{nowhere, unplaced_name, unplaced_number, unplaced_tok, unplaced_expr, unplaced_call}
use Rattle.gr_print.specs.Pieces.{Piece, Layout, name, number, sign, object_tok}
use Rattle.gr_print.specs.Layout.{behind, listed, expr, args, call}
use Rattle.gr_print.specs.Printed.{IsSubsequence, IsWritten, AreWritten}
use Rattle.gr_print.proofs.PrintsExprs.{Written, expr_written}
use Rattle.gr_print.proofs.Respelled.{each_nil, each_sign, each_name, each_number, each_object, each_part, each_last, Freely}
use Rattle.gr_print.proofs.Seen.{tokens_of, tokens_of-append}
use Rattle.gr_print.proofs.Subsequences as part

-- ---- lists

module _ {A : Type 0} (bare : A → A) (E : Toks → A → Type 0) (lay : A → Layout) (each : (ts : Toks) (x : A) → E ts x → Written bare E (lay x) ts x) where
  behind_comma : {ts : Toks} {xs : List A} → Separated (Tok.sign s.Comma) E ts xs → behind (map lay xs) ≡ sign s.Comma ∷ Piece.blank ∷ listed (map lay xs)
  behind_comma (Separated.last h) = refl
  behind_comma (Separated.before h k) = refl

  last_case : (ts : Toks) (x : A) → E ts x → Written (map bare) (Separated (Tok.sign s.Comma) E) (lay x ++ []) ts (x ∷ [])
  last_case ts x h =
      let w = each ts x h in
      subst (λ (ps : Layout). Written (map bare) (Separated (Tok.sign s.Comma) E) ps ts (x ∷ [])) (sym (append-nil (lay x))) (record {
        spelled = record { each = each_last w.spelled (λ f y p same. record { tree = y ∷ []; spelled = Separated.last p; same = ap (λ (z : A). z ∷ []) same }) };
        within = w.within;
      })

  before_case : (ts us : Toks) (x : A) (xs : List A) → E ts x → Separated (Tok.sign s.Comma) E us xs → Written (map bare) (Separated (Tok.sign s.Comma) E) (listed (map lay xs)) us xs
      → Written (map bare) (Separated (Tok.sign s.Comma) E) (lay x ++ behind (map lay xs)) (ts ++ Tok.sign s.Comma ∷ us) (x ∷ xs)
  before_case ts us x xs h k v =
      let w = each ts x h in
      let seen : tokens_of (lay x ++ behind (map lay xs)) ≡ tokens_of (lay x) ++ Tok.sign s.Comma ∷ tokens_of (listed (map lay xs)) =
      ap (λ (ps : Layout). tokens_of (lay x ++ ps)) (behind_comma k) ∙ tokens_of-append (lay x) (sign s.Comma ∷ Piece.blank ∷ listed (map lay xs)) in
      record {
        spelled = subst (λ (u : Toks). Freely (map bare) (Separated (Tok.sign s.Comma) E) u (x ∷ xs)) (sym seen) (record {
          each = each_part w.spelled (λ f y p same. each_sign s.Comma (each_last v.spelled (λ g ys q alike. record {
            tree = y ∷ ys;
            spelled = Separated.before p q;
            same = ap (λ (z : A). z ∷ map bare ys) same ∙ ap (λ (zs : List A). bare x ∷ zs) alike;
          })));
        });
        within = subst (λ (u : Toks). IsSubsequence u (map unplaced_tok (ts ++ Tok.sign s.Comma ∷ us))) (sym seen)
            (subst (IsSubsequence (tokens_of (lay x) ++ Tok.sign s.Comma ∷ tokens_of (listed (map lay xs)))) (sym (map-append unplaced_tok ts (Tok.sign s.Comma ∷ us))) (part.joined w.within (IsSubsequence.kept v.within)));
      }

  pub separated_written : {ts : Toks} {xs : List A} → Separated (Tok.sign s.Comma) E ts xs → Written (map bare) (Separated (Tok.sign s.Comma) E) (listed (map lay xs)) ts xs
  separated_written (Separated.last {front = ts} {only = x} h) = last_case ts x h
  separated_written (Separated.before {front = ts} {back = us} {first = x} {others = xs} h k) = before_case ts us x xs h k (separated_written k)

  some_case : (ts : Toks) (xs : List A) → Written (map bare) (Separated (Tok.sign s.Comma) E) (listed (map lay xs)) ts xs
      → Written (map bare) (Enclosed (Tok.sign s.RightParen) (Tok.sign s.Comma) E) (listed (map lay xs) ++ sign s.RightParen ∷ []) (ts ++ Tok.sign s.RightParen ∷ []) xs
  some_case ts xs w =
      let seen = tokens_of-append (listed (map lay xs)) (sign s.RightParen ∷ []) in
      record {
        spelled = subst (λ (u : Toks). Freely (map bare) (Enclosed (Tok.sign s.RightParen) (Tok.sign s.Comma) E) u xs) (sym seen) (record {
          each = each_part w.spelled (λ f ys p same. each_sign s.RightParen (each_nil (record { tree = ys; spelled = Enclosed.some p; same = same })));
        });
        within = subst (λ (u : Toks). IsSubsequence u (map unplaced_tok (ts ++ Tok.sign s.RightParen ∷ []))) (sym seen)
            (subst (IsSubsequence (tokens_of (listed (map lay xs)) ++ Tok.sign s.RightParen ∷ [])) (sym (map-append unplaced_tok ts (Tok.sign s.RightParen ∷ []))) (part.joined w.within (part.whole (Tok.sign s.RightParen ∷ []))));
      }

  pub enclosed_written : {ts : Toks} {xs : List A} → Enclosed (Tok.sign s.RightParen) (Tok.sign s.Comma) E ts xs
      → Written (map bare) (Enclosed (Tok.sign s.RightParen) (Tok.sign s.Comma) E) (listed (map lay xs) ++ sign s.RightParen ∷ []) ts xs
  enclosed_written Enclosed.empty = record {
    spelled = record { each = each_sign s.RightParen (each_nil (record { tree = []; spelled = Enclosed.empty; same = refl })) };
    within = part.whole (Tok.sign s.RightParen ∷ []);
  }
  enclosed_written (Enclosed.some {inside = ts} {found = xs} h) = some_case ts xs (separated_written h)

pub name_written : (ts : Toks) (n : Name) → IsName ts n → Written unplaced_name IsName (name n ∷ []) ts n
name_written _ _ (IsName.name {found = n}) = record {
  spelled = record { each = each_name n (λ m same. each_nil (record { tree = m; spelled = IsName.name; same = same })) };
  within = part.whole (Tok.name (unplaced_name n) ∷ []);
}

pub number_written : (ts : Toks) (n : Number) → IsNumber ts n → Written unplaced_number IsNumber (number n ∷ []) ts n
number_written _ _ (IsNumber.number {found = n}) = record {
  spelled = record { each = each_number n (λ m same. each_nil (record { tree = m; spelled = IsNumber.number; same = same })) };
  within = part.whole (Tok.number (unplaced_number n) ∷ []);
}

-- ---- arguments

brackets_case : (d : ℕ) (ts : Toks) (xs : List Expr) → Enclosed (Tok.sign s.RightParen) (Tok.sign s.Comma) (IsExpr d) ts xs → Written (map unplaced_expr) (IsArgs (suc d)) (args xs) (Tok.sign s.LeftParen ∷ ts) xs
brackets_case d ts xs h =
    let w = enclosed_written unplaced_expr (IsExpr d) expr (expr_written d) h in
    record {
      spelled = record { each = each_sign s.LeftParen (each_last w.spelled (λ f ys p same. record { tree = ys; spelled = IsArgs.brackets p; same = same })) };
      within = IsSubsequence.kept w.within;
    }

pub args_written : {d : ℕ} {ts : Toks} {xs : List Expr} → IsArgs d ts xs → AreWritten ts → Written (map unplaced_expr) (IsArgs d) (args xs) ts xs
args_written IsArgs.missing h = absurd h.0
args_written (IsArgs.brackets {depth = d} {inside = ts} {args = xs} p) h = brackets_case d ts xs p

-- ---- calls

name_no_heap : (text : List ℕ) → IsToken kinds.Name text → text ≡ codes "heap" → ⊥
name_no_heap [] t e = t
name_no_heap (b ∷ bytes) t e = t.2 k.Heap e

object_seen : {t : Tok} {n : Name} → IsObject t n → IsWritten t → unplaced_tok t ≡ object_tok n
object_seen (IsObject.named {object = n}) w = by (bytes_eq n.text (codes "heap")) refl
  where
    by : (v : Bool) → bytes_eq n.text (codes "heap") ≡ v → Tok.name (unplaced_name n) ≡ (if v then Tok.heap nowhere else Tok.name (unplaced_name n))
    by true same = absurd (name_no_heap n.text w.0 ((bytes_eq-Decides n.text (codes "heap")).0 same))
    by false same = refl
object_seen (IsObject.heap {at}) w = refl

same_call : (o n : Name) (by : Option Name) (xs : List Expr) (o' n' : Name) (by' : Option Name) (xs' : List Expr) → unplaced_name o ≡ unplaced_name o' → unplaced_name n ≡ unplaced_name n' → option_map unplaced_name by ≡ option_map unplaced_name by'
    → map unplaced_expr xs ≡ map unplaced_expr xs' → unplaced_call (call_of o n by xs) ≡ unplaced_call (call_of o' n' by' xs')
same_call o n by xs o' n' by' xs' f g h k =
    ap (λ (z : Name). call_of z (unplaced_name n) (option_map unplaced_name by) (map unplaced_expr xs)) f
    ∙ ap (λ (z : Name). call_of (unplaced_name o') z (option_map unplaced_name by) (map unplaced_expr xs)) g
    ∙ ap (λ (z : Option Name). call_of (unplaced_name o') (unplaced_name n') z (map unplaced_expr xs)) h
    ∙ ap (λ (zs : List Expr). call_of (unplaced_name o') (unplaced_name n') (option_map unplaced_name by') zs) k

plain_case : (d : ℕ) (t : Tok) (o n : Name) (ts : Toks) (xs : List Expr) → IsObject t o → IsArgs d ts xs → AreWritten (t ∷ Tok.sign s.Dot ∷ Tok.name n ∷ ts)
    → Written unplaced_call (IsCall d) (call (call_of o n None xs)) (t ∷ Tok.sign s.Dot ∷ Tok.name n ∷ ts) (call_of o n None xs)
plain_case d t o n ts xs p q h =
    let w = args_written q h.1.1.1 in
    record {
      spelled = record {
        each = each_object o (λ u m g same. each_sign s.Dot (each_name n (λ r alike. each_last w.spelled (λ f ys z eq. record {
          tree = call_of m r None ys;
          spelled = IsCall.call g (IsOperation.plain z);
          same = same_call m r None ys o n None xs same alike refl eq;
        }))));
      };
      within = subst (λ (u : Tok). IsSubsequence (object_tok o ∷ Tok.sign s.Dot ∷ Tok.name (unplaced_name n) ∷ tokens_of (args xs)) (u ∷ Tok.sign s.Dot ∷ Tok.name (unplaced_name n) ∷ map unplaced_tok ts)) (sym (object_seen p h.0))
          (IsSubsequence.kept (IsSubsequence.kept (IsSubsequence.kept w.within)));
    }

reducing_case : (d : ℕ) (t : Tok) (o n by : Name) (ts : Toks) (xs : List Expr) → IsObject t o → IsArgs d ts xs → AreWritten (t ∷ Tok.sign s.Dot ∷ Tok.name n ∷ Tok.name by ∷ ts)
    → Written unplaced_call (IsCall d) (call (call_of o n (Some by) xs)) (t ∷ Tok.sign s.Dot ∷ Tok.name n ∷ Tok.name by ∷ ts) (call_of o n (Some by) xs)
reducing_case d t o n by ts xs p q h =
    let w = args_written q h.1.1.1.1 in
    record {
      spelled = record {
        each = each_object o (λ u m g same. each_sign s.Dot (each_name n (λ r alike. each_name by (λ v like. each_last w.spelled (λ f ys z eq. record {
          tree = call_of m r (Some v) ys;
          spelled = IsCall.call g (IsOperation.reducing z);
          same = same_call m r (Some v) ys o n (Some by) xs same alike (ap (λ (c : Name). Some c) like) eq;
        })))));
      };
      within = subst (λ (u : Tok). IsSubsequence (object_tok o ∷ Tok.sign s.Dot ∷ Tok.name (unplaced_name n) ∷ Tok.name (unplaced_name by) ∷ tokens_of (args xs)) (u ∷ Tok.sign s.Dot ∷ Tok.name (unplaced_name n) ∷ Tok.name (unplaced_name by) ∷ map unplaced_tok ts))
          (sym (object_seen p h.0)) (IsSubsequence.kept (IsSubsequence.kept (IsSubsequence.kept (IsSubsequence.kept w.within))));
    }

pub call_written : {d : ℕ} {ts : Toks} {c : CallText} → IsCall d ts c → AreWritten ts → Written unplaced_call (IsCall d) (call c) ts c
call_written (IsCall.call {token = t} p q) h = by_operation p q h
  where
    by_operation : {d : ℕ} {o : Name} {ts : Toks} {c : CallText} → IsObject t o → IsOperation d o ts c → AreWritten (t ∷ Tok.sign s.Dot ∷ ts) → Written unplaced_call (IsCall d) (call c) (t ∷ Tok.sign s.Dot ∷ ts) c
    by_operation p (IsOperation.plain {depth = d} {object = o} {op = n} {inside = ts} {args = xs} q) h = plain_case d t o n ts xs p q h
    by_operation p (IsOperation.reducing {depth = d} {object = o} {op = n} {reducer = m} {inside = ts} {args = xs} q) h = reducing_case d t o n m ts xs p q h
