-- The parts into which a chunk of a loop's indices is split: while it has more indices than the grain, its upper half is offered.
use Rattle.std.specs.Prelude.{ℕ, zero, suc, ◌+◌, ◌-◌, ◌/◌, ◌<◌, nat_lt, List, [], ◌∷◌, ◌++◌, map, if◌then◌else◌}
use Rattle.gr_msg.specs.declared.message.Unit.{Unit as WorkUnit}
use Rattle.gr_msg.specs.declared.message.Unit.TheVariants.{Single, Chunk}
use Rattle.gr_work.specs.Queues.{Queues}

-- The indices from one number to below another.
pub record Range : Type 0 where
  pub from : ℕ
  pub to : ℕ

-- Where the upper half of a range begins.
unfoldable pub middle : ℕ → ℕ → ℕ
middle lo hi = lo + (hi - lo) / 2

-- The ranges that are offered, the highest first, in at most so many halvings.
unfoldable pub offered_in : ℕ → ℕ → ℕ → ℕ → List Range
offered_in zero grain lo hi = []
offered_in (suc halvings) grain lo hi = if nat_lt grain (hi - lo) then (record { from = middle lo hi; to = hi } ∷ offered_in halvings grain lo (middle lo hi)) else []

-- Where the range that is kept ends, after at most so many halvings.
unfoldable pub kept_in : ℕ → ℕ → ℕ → ℕ → ℕ
kept_in zero grain lo hi = hi
kept_in (suc halvings) grain lo hi = if nat_lt grain (hi - lo) then kept_in halvings grain lo (middle lo hi) else hi

-- A range of so many indices is halved no more often than that.
unfoldable pub offered : ℕ → ℕ → ℕ → List Range
offered grain lo hi = offered_in (hi - lo) grain lo hi

unfoldable pub kept_end : ℕ → ℕ → ℕ → ℕ
kept_end grain lo hi = kept_in (hi - lo) grain lo hi

-- A chunk's unit for some of its indices.
abbrev pub part : WorkUnit → Range → WorkUnit
part (Single target args scope origin id) range = Single target args scope origin id
part (Chunk target args scope origin owner lo hi grain) range = Chunk target args scope origin owner range.from range.to grain

-- A chunk with indices, and a grain of at least 1.
abbrev pub CanBeSplit : WorkUnit → Type 0
CanBeSplit (Single target args scope origin id) = ⊥
CanBeSplit (Chunk target args scope origin owner lo hi grain) = (lo < hi) × (0 < grain)

-- The parts that are offered go last among the public units, and what is kept becomes the first private one.
abbrev pub with_split : Queues → WorkUnit → Queues
with_split work (Single target args scope origin id) = work
with_split work (Chunk target args scope origin owner lo hi grain) =
    let whole : WorkUnit = Chunk target args scope origin owner lo hi grain in
    record { private = part whole (record { from = lo; to = kept_end grain lo hi }) ∷ work.private; public = work.public ++ map (part whole) (offered grain lo hi) }
