-- The first core whose clock has come to the limit.
use Rattle.std.proofs.Common.{◌≡◌, ◌<◌, ℕ, zero, suc, Bool, true, false, List, [], ◌∷◌, length, slice_index_or, Option, Some, None, ap, ◌∙◌, refl, arith}
use Rattle.std.specs.Prelude.{nat_le, if◌then◌else◌}
use Rattle.std.specs.Option.{option_or}
use Rattle.gr_machine.specs.declared.core_end.CoreEnd.{CoreEnd}
use Rattle.gr_report.specs.Ends.{first_limit}
use Rattle.gr_report.specs.declared.ends.LimitAt.{LimitAt}

by_test : (end : CoreEnd) (rest : Option LimitAt) (test b : Bool) → test ≡ b
    → option_or (if test then Some (record { core = end.core; clock = end.clock }) else None) rest
    ≡ option_or (if b then Some (record { core = end.core; clock = end.clock }) else None) rest
by_test end rest test b same = ap (λ (x : Bool). option_or (if x then Some (record { core = end.core; clock = end.clock }) else None) rest) same

pub limit_first : (events : ℕ) (ends : List CoreEnd) (core : ℕ) (default : CoreEnd) → core < length ends
    → nat_le events (slice_index_or ends core default).clock ≡ true
    → ((other : ℕ) → other < core → nat_le events (slice_index_or ends other default).clock ≡ false)
    → first_limit events ends ≡ Some (record { core = (slice_index_or ends core default).core; clock = (slice_index_or ends core default).clock })
unfolding first_limit
limit_first events [] core default here spent first = absurd (omega (arith, here))
limit_first events (end ∷ ends) zero default here spent first = by_test end (first_limit events ends) (nat_le events end.clock) true spent
limit_first events (end ∷ ends) (suc core) default here spent first =
    by_test end (first_limit events ends) (nat_le events end.clock) false (first zero (omega (arith)))
    ∙ limit_first events ends core default (omega (arith, here)) spent (λ other before. first (suc other) (omega (arith, before)))

pub limit_none : (events : ℕ) (ends : List CoreEnd) (default : CoreEnd)
    → ((other : ℕ) → other < length ends → nat_le events (slice_index_or ends other default).clock ≡ false) → first_limit events ends ≡ None
unfolding first_limit
limit_none events [] default none = refl
limit_none events (end ∷ ends) default none =
    by_test end (first_limit events ends) (nat_le events end.clock) false (none zero (omega (arith)))
    ∙ limit_none events ends default (λ other before. none (suc other) (omega (arith, before)))
