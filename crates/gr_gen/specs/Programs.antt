-- The texts of the programs that keep a runtime busy.
use Rattle.std.specs.Prelude.{ℕ, List, ◌++◌, codes}
use Rattle.std.specs.Fmt.{decimal}
use Rattle.gr_gen.specs.declared.programs.BenchKind.{BenchKind}
use Rattle.gr_gen.specs.declared.programs.BenchKind.TheVariants as kind

-- Tasks that count how often each of sixteen words comes.
abbrev pub words_text : ℕ → ℕ → List ℕ
words_text size seed =
    codes "array hist[16];\n"
    ++ (codes "task one(i, s) { hist.reduce add (((i + s) * 6364136223846793005 + 1442695040888963407) / 4294967296 % 16, 1); }\n"
    ++ (codes "task main() { forall 0 .. " ++ (decimal size ++ (codes " grain 64 one(" ++ (decimal seed ++ (codes "); }\n"
    ++ codes "show hist;\n"))))))

-- Tasks that insert one of a thousand keys, and count the keys.
abbrev pub sets_text : ℕ → ℕ → List ℕ
sets_text size seed =
    codes "set keys;\n"
    ++ (codes "array a[1];\n"
    ++ (codes "task one(i, s) { let n = keys.insert(((i + s) * 6364136223846793005 + 1442695040888963407) / 4294967296 % 1000); a.add(0, n); }\n"
    ++ (codes "task main() { forall 0 .. " ++ (decimal size ++ (codes " grain 64 one(" ++ (decimal seed ++ (codes "); }\n"
    ++ codes "show a;\n")))))))

-- Tasks that push words, and then as many that take one out.
abbrev pub queue_text : ℕ → ℕ → List ℕ
queue_text size seed =
    codes "vector v;\n"
    ++ (codes "array a[2];\n"
    ++ (codes "task give(i, s) { v.push(i + s); }\n"
    ++ (codes "task grab(i) { let f, x = v.dequeue(); a.add(0, f); a.reduce xor (1, x); }\n"
    ++ (codes "task main() { forall 0 .. " ++ (decimal size ++ (codes " grain 64 give(" ++ (decimal seed ++ (codes "); forall 0 .. " ++ (decimal size ++ (codes " grain 64 grab(); }\n"
    ++ codes "show a;\n"))))))))))

-- The program of a kind whose loops have so many indices, with this seed.
unfoldable pub bench_text : BenchKind → ℕ → ℕ → List ℕ
bench_text kind.Words size seed = words_text size seed
bench_text kind.Sets size seed = sets_text size seed
bench_text kind.Queue size seed = queue_text size seed
