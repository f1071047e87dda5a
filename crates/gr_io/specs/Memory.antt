-- What a source and a sink over memory are to a contract, and what a call makes of them.
use Rattle.std.specs.Prelude.{◌≡◌, ℕ, ◌-◌, ◌<◌, ◌++◌, ◌⊎◌, List, [], drop, length, Contains}
use Rattle.gr_io.specs.Faults.{next_count}

-- a source over memory: `left` is what it still holds, one read gives at most `piece` bytes, the
-- reads whose numbers stand in `fails` fail, and it counts its reads and its faults
pub record SourceState : Type 0 where
  pub left : List ℕ
  pub piece : ℕ
  pub fails : List ℕ
  pub calls : ℕ
  pub faults : ℕ

-- a source of which nothing was read yet
abbrev pub new_source : List ℕ → ℕ → List ℕ → SourceState
new_source bytes piece fails =
    record { left = bytes; piece = piece; fails = fails; calls = 0; faults = 0 }

-- the source after a read that gave its first `count` bytes
abbrev pub after_read : SourceState → ℕ → SourceState
after_read source count =
    record source { left = drop count source.left; calls = next_count source.calls }

-- the source after a read that failed
abbrev pub after_failed_read : SourceState → SourceState
after_failed_read source =
    record source { calls = next_count source.calls; faults = next_count source.faults }

-- a sink over memory: `got` is what it took, `room` how many bytes more it can take, one write
-- takes at most `piece` bytes, the writes whose numbers stand in `fails` fail, and it counts its
-- writes and its faults
pub record SinkState : Type 0 where
  pub got : List ℕ
  pub room : ℕ
  pub piece : ℕ
  pub fails : List ℕ
  pub calls : ℕ
  pub faults : ℕ

-- a sink to which nothing was written yet
abbrev pub new_sink : ℕ → ℕ → List ℕ → SinkState
new_sink room piece fails =
    record { got = []; room = room; piece = piece; fails = fails; calls = 0; faults = 0 }

-- the sink refuses a write of these bytes: the write is one of those that fail, or no room is left
abbrev pub Refuses : SinkState → List ℕ → Type 0
Refuses sink bytes = Contains sink.fails sink.calls ⊎ ((sink.room ≡ 0) × (0 < length bytes))

-- the sink after a write that took these bytes
abbrev pub after_write : SinkState → List ℕ → SinkState
after_write sink bytes = record sink {
  got = sink.got ++ bytes;
  room = sink.room - length bytes;
  calls = next_count sink.calls;
}

-- the sink after a write that failed
abbrev pub after_failed_write : SinkState → SinkState
after_failed_write sink =
    record sink { calls = next_count sink.calls; faults = next_count sink.faults }
