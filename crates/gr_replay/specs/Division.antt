-- How a source is divided into a program text and a history text: by its first line that is exactly `---`.
use Rattle.std.specs.Prelude.{ℕ, ◌+◌, ◌==◌, List, [], ◌∷◌, ◌++◌, take, drop, Option, position, codes}
use Rattle.std.specs.Option.{option_map_or}
use Rattle.std.specs.List.{slice_split, join_with_byte}
use Rattle.std.specs.Str.{bytes_eq}

-- The lines of a source: what stands between its line feeds.
abbrev pub lines_of : List ℕ → List (List ℕ)
lines_of source = slice_split (λ byte. byte == 10) source

-- The place of the dividing line among them, where there is one.
abbrev pub dividing_line : List ℕ → Option ℕ
dividing_line source = position (bytes_eq (codes "---")) (lines_of source)

-- Lines, each with its line feed.
abbrev pub closed : List (List ℕ) → List ℕ
closed [] = []
closed (line ∷ more) = line ++ 10 ∷ closed more

-- The program text is all before that line, and the whole source where there is none.
unfoldable pub program_part : List ℕ → List ℕ
program_part source = option_map_or (λ place. closed (take place (lines_of source))) (dividing_line source) source

-- The history text is all behind that line's own line feed, and empty where there is none.
unfoldable pub history_part : List ℕ → List ℕ
history_part source = option_map_or (λ place. join_with_byte 10 (drop (place + 1) (lines_of source))) (dividing_line source) []
