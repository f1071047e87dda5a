-- What is counted where the refusal is no fault of the source.
use Rattle.std.proofs.Common.{◌≡◌, ◌≢◌, ℕ, refl}
use Rattle.gr_top.specs.Promises.{CountsReads}
use Rattle.gr_top.specs.declared.answer.Refusal.{Refusal}
use Rattle.gr_top.specs.declared.answer.Refusal.TheVariants as refusal

pub reads_quiet : (r : Refusal) (before now : ℕ) → r ≢ refusal.ReadFault → now ≡ before → CountsReads r before now
reads_quiet refusal.ReadFault before now other e = absurd (other refl)
reads_quiet _ before now other e = e
