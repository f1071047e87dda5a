-- Which layouts there are.
use Rattle.std.specs.Prelude.{ℕ, ◌<◌, ◌≤◌}
use Rattle.gr_syntax.specs.declared.limits.TheConstants.{MAX_CORES, MAX_WORDS}
use Rattle.gr_addr.specs.declared.layout.TheConstants.{MAX_BLOCK}

-- The numbers of a layout are in their ranges.
pub record IsLayout (cores block words : ℕ) : Type 0 where
  pub some_cores : 0 < cores
  pub most_cores : cores ≤ MAX_CORES
  pub some_block : 0 < block
  pub most_block : block ≤ MAX_BLOCK
  pub most_words : words ≤ MAX_WORDS
