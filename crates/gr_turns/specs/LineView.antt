-- What the fields of turns and vectors stand for.
use Rattle.std.specs.Prelude.{ℕ, Bool, List, Option, None, slice_index_or}
use Rattle.std.specs.List.{list_any}
use Rattle.std.specs.Option.{option_map}
use Rattle.std.specs.Ordering.{nat_cmp}
use Rattle.std.specs.BTreeMap.{is_at}
use Rattle.gr_lang.specs.declared.action.WaitingCall.{WaitingCall}
use Rattle.gr_vector.specs.declared.ends.Ends.{Ends}
use Rattle.gr_vector.specs.Parts.{part_of}
use Rattle.gr_vector.specs.Turns.{Turns}
use Rattle.gr_machine.specs.States.{Turn, Vector, Vectors}

-- A turn: the positions of which nothing is answered yet, rising, and the words that were got, by rising position.
pub record TurnData : Type 0 where
  pub calls : List WaitingCall
  pub ends : Ends
  pub puts : List ℕ
  pub gets : List ℕ
  pub left : ℕ
  pub answers : List (ℕ × ℕ)

-- Whether a position is among these.
unfoldable pub is_among : List ℕ → ℕ → Bool
is_among positions position = list_any (is_at (nat_cmp position)) positions

abbrev pub turn_in : TurnData → Turn
turn_in turn = record {
  calls = turn.calls;
  ends = turn.ends;
  puts = is_among turn.puts;
  gets = is_among turn.gets;
  left = turn.left;
  answers = part_of turn.answers;
}

-- A vector at a core: its words by rising position.
pub record VectorData : Type 0 where
  pub part : List (ℕ × ℕ)
  pub combiner : List WaitingCall
  pub groups : List (List WaitingCall)
  pub turn : Option TurnData

abbrev pub vector_in : VectorData → Vector
vector_in vector = record {
  part = part_of vector.part;
  combiner = vector.combiner;
  groups = vector.groups;
  turn = option_map turn_in vector.turn;
}

-- What is seen at each number of a list, where something stands there.
unfoldable pub seen_at : {Data Seen : Type 0} → (Data → Seen) → List (Option Data) → ℕ → Option Seen
seen_at view items number = option_map view (slice_index_or items number None)

abbrev pub vectors_at : List (Option VectorData) → ℕ → Option Vector
vectors_at = seen_at vector_in

abbrev pub masters_at : List (Option Turns) → ℕ → Option Turns
masters_at = seen_at (λ turns. turns)

-- The vectors at a core, and the turns of those whose master is here, by their numbers.
pub record VectorsData : Type 0 where
  pub vectors : List (Option VectorData)
  pub masters : List (Option Turns)

abbrev pub vectors_in : VectorsData → Vectors
vectors_in all = record { vectors = vectors_at all.vectors; masters = masters_at all.masters }
