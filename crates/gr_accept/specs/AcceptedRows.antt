-- Worked programs: a few texts as the trees that the grammar makes of them, on which the definitions are tried.
use Rattle.std.specs.Prelude.{ℕ, true, false, List, [], ◌∷◌, codes, Option, None}
use Rattle.gr_syntax.specs.declared.syntax.Place.{Place}
use Rattle.gr_syntax.specs.declared.syntax.Name.{Name}
use Rattle.gr_syntax.specs.declared.syntax.Number.{Number}
use Rattle.gr_syntax.specs.declared.syntax.Program.{Program}
use Rattle.gr_syntax.specs.declared.syntax.CallText.{CallText}
use Rattle.gr_syntax.specs.declared.syntax.Expr.{Expr}
use Rattle.gr_syntax.specs.declared.syntax.Item.TheVariants as item
use Rattle.gr_syntax.specs.declared.syntax.Stmt.TheVariants as stmt
use Rattle.gr_syntax.specs.declared.syntax.Expr.TheVariants as expr
use Rattle.gr_syntax.specs.declared.syntax.Right.TheVariants as right
use Rattle.gr_syntax.specs.declared.syntax.HowText.TheVariants as place

-- The places of these texts are all in line 1.
abbrev pub at : ℕ → Place
at column = record { line = 1; column = column }

abbrev pub name : List ℕ → ℕ → Name
name text column = record { text = text; at = at column }

abbrev pub number : ℕ → ℕ → Number
number value column = record { value = value; at = at column }

abbrev pub call : Name → Name → Option Name → List Expr → CallText
call object op reducer args = record { object = object; op = op; reducer = reducer; args = args }

-- task main() { print 7; }
abbrev pub prints : Program
prints = record {
  items = item.Task (name (codes "main") 6) [] (stmt.Print (expr.Lit (number 7 21)) ∷ []) ∷ [];
  end = at 25;
}

-- array a[2]; input a = 5, 6; task one(i) { a.add(i, 1); } task main() { let x = a.read(0); while x { x = x; } spawn one(x); } show a;
abbrev pub uses_all_kinds : Program
uses_all_kinds = record {
  items =
      item.Array (name (codes "a") 7) (number 2 9) ∷
      item.Input (name (codes "a") 19) (number 5 23 ∷ number 6 26 ∷ []) ∷
      item.Task (name (codes "one") 34) (name (codes "i") 38 ∷ []) (stmt.Do (call (name (codes "a") 43) (name (codes "add") 45) None (expr.Local (name (codes "i") 49) ∷ expr.Lit (number 1 52) ∷ [])) ∷ []) ∷
      item.Task (name (codes "main") 63) [] (stmt.Set1 true (name (codes "x") 76 ∷ []) (right.Result (call (name (codes "a") 80) (name (codes "read") 82) None (expr.Lit (number 0 87) ∷ []))) ∷
      stmt.While (expr.Local (name (codes "x") 97)) (stmt.Set1 false (name (codes "x") 101 ∷ []) (right.Value (expr.Local (name (codes "x") 105))) ∷ []) ∷
      stmt.Spawn place.Here (name (codes "one") 116) (expr.Local (name (codes "x") 120) ∷ []) ∷ []) ∷
      item.Show (name (codes "a") 131) ∷
      [];
  end = at 133;
}

-- task main() { print x; }
abbrev pub unbound : Program
unbound = record {
  items = item.Task (name (codes "main") 6) [] (stmt.Print (expr.Local (name (codes "x") 21)) ∷ []) ∷ [];
  end = at 25;
}

-- task main(x) { }
abbrev pub main_with_parameter : Program
main_with_parameter = record {
  items = item.Task (name (codes "main") 6) (name (codes "x") 11 ∷ []) [] ∷ [];
  end = at 17;
}

-- The empty text.
abbrev pub empty : Program
empty = record {
  items = [];
  end = at 1;
}

-- task main() { let x = x; }
abbrev pub own_right_side : Program
own_right_side = record {
  items = item.Task (name (codes "main") 6) [] (stmt.Set1 true (name (codes "x") 19 ∷ []) (right.Value (expr.Local (name (codes "x") 23))) ∷ []) ∷ [];
  end = at 27;
}

-- task main() { if 1 { let x = 2; } else { print x; } }
abbrev pub sibling_block : Program
sibling_block = record {
  items = item.Task (name (codes "main") 6) [] (stmt.If (expr.Lit (number 1 18)) (stmt.Set1 true (name (codes "x") 26 ∷ []) (right.Value (expr.Lit (number 2 30))) ∷ []) (stmt.Print (expr.Local (name (codes "x") 48)) ∷ []) ∷ []) ∷ [];
  end = at 54;
}

-- task main() { if 1 { let x = 2; } print x; }
abbrev pub after_block : Program
after_block = record {
  items = item.Task (name (codes "main") 6) [] (stmt.If (expr.Lit (number 1 18)) (stmt.Set1 true (name (codes "x") 26 ∷ []) (right.Value (expr.Lit (number 2 30))) ∷ []) [] ∷
      stmt.Print (expr.Local (name (codes "x") 41)) ∷ []) ∷ [];
  end = at 45;
}

-- task main() { if 1 { let x = 2; } else { let x = 3; } }
abbrev pub name_in_two_blocks : Program
name_in_two_blocks = record {
  items = item.Task (name (codes "main") 6) [] (stmt.If (expr.Lit (number 1 18)) (stmt.Set1 true (name (codes "x") 26 ∷ []) (right.Value (expr.Lit (number 2 30))) ∷ []) (stmt.Set1 true (name (codes "x") 46 ∷ []) (right.Value (expr.Lit (number 3 50))) ∷ []) ∷ []) ∷ [];
  end = at 56;
}

-- heap 1; heap 2; task main() { }
abbrev pub second_heap : Program
second_heap = record {
  items =
      item.Heap (number 1 6) ∷
      item.Heap (number 2 14) ∷
      item.Task (name (codes "main") 22) [] [] ∷
      [];
  end = at 32;
}

-- set s; task main() { s.push(1); }
abbrev pub not_of_its_kind : Program
not_of_its_kind = record {
  items =
      item.Set (name (codes "s") 5) ∷
      item.Task (name (codes "main") 13) [] (stmt.Do (call (name (codes "s") 22) (name (codes "push") 24) None (expr.Lit (number 1 29) ∷ [])) ∷ []) ∷
      [];
  end = at 34;
}

-- task main() { main.read(1); }
abbrev pub task_for_object : Program
task_for_object = record {
  items = item.Task (name (codes "main") 6) [] (stmt.Do (call (name (codes "main") 15) (name (codes "read") 20) None (expr.Lit (number 1 25) ∷ [])) ∷ []) ∷ [];
  end = at 30;
}

-- set s; task main() { s.insert(); }
abbrev pub argument_missing : Program
argument_missing = record {
  items =
      item.Set (name (codes "s") 5) ∷
      item.Task (name (codes "main") 13) [] (stmt.Do (call (name (codes "s") 22) (name (codes "insert") 24) None []) ∷ []) ∷
      [];
  end = at 35;
}

-- set s; task main() { let x, y = s.insert(1); }
abbrev pub target_too_many : Program
target_too_many = record {
  items =
      item.Set (name (codes "s") 5) ∷
      item.Task (name (codes "main") 13) [] (stmt.Set1 true (name (codes "x") 26 ∷ name (codes "y") 29 ∷ []) (right.Result (call (name (codes "s") 33) (name (codes "insert") 35) None (expr.Lit (number 1 42) ∷ []))) ∷ []) ∷
      [];
  end = at 47;
}

-- task t(a, b, c, d, e, f, g, h, i) { } task main() { }
abbrev pub nine_parameters : Program
nine_parameters = record {
  items =
      item.Task (name (codes "t") 6) (name (codes "a") 8 ∷ name (codes "b") 11 ∷ name (codes "c") 14 ∷ name (codes "d") 17 ∷ name (codes "e") 20 ∷ name (codes "f") 23 ∷ name (codes "g") 26 ∷ name (codes "h") 29 ∷ name (codes "i") 32 ∷ []) [] ∷
      item.Task (name (codes "main") 44) [] [] ∷
      [];
  end = at 54;
}

-- array a[16777216]; heap 1; task main() { }
abbrev pub one_word_too_many : Program
one_word_too_many = record {
  items =
      item.Array (name (codes "a") 7) (number 16777216 9) ∷
      item.Heap (number 1 25) ∷
      item.Task (name (codes "main") 33) [] [] ∷
      [];
  end = at 43;
}

-- array a[1]; input a = 1, 2; task main() { }
abbrev pub numbers_past_end : Program
numbers_past_end = record {
  items =
      item.Array (name (codes "a") 7) (number 1 9) ∷
      item.Input (name (codes "a") 19) (number 1 23 ∷ number 2 26 ∷ []) ∷
      item.Task (name (codes "main") 34) [] [] ∷
      [];
  end = at 44;
}

-- set s; input s = 1; task main() { }
abbrev pub input_of_no_array : Program
input_of_no_array = record {
  items =
      item.Set (name (codes "s") 5) ∷
      item.Input (name (codes "s") 14) (number 1 18 ∷ []) ∷
      item.Task (name (codes "main") 26) [] [] ∷
      [];
  end = at 36;
}

-- task main() { print x; } set main;
abbrev pub use_first : Program
use_first = record {
  items =
      item.Task (name (codes "main") 6) [] (stmt.Print (expr.Local (name (codes "x") 21)) ∷ []) ∷
      item.Set (name (codes "main") 30) ∷
      [];
  end = at 35;
}

-- set s; set s; task main() { print x; }
abbrev pub head_first : Program
head_first = record {
  items =
      item.Set (name (codes "s") 5) ∷
      item.Set (name (codes "s") 12) ∷
      item.Task (name (codes "main") 20) [] (stmt.Print (expr.Local (name (codes "x") 35)) ∷ []) ∷
      [];
  end = at 39;
}
