-- The lines that tell of the ends of cores, each of which ends with a newline.
use Rattle.std.specs.Prelude.{ℕ, List, [], ◌∷◌, ◌++◌, Option, Some, None, codes, nat_le, if◌then◌else◌}
use Rattle.std.specs.Option.{option_or}
use Rattle.std.specs.Fmt.{decimal}
use Rattle.gr_machine.specs.declared.core_end.CoreEnd.{CoreEnd}
use Rattle.gr_machine.specs.declared.counts.Counts.{Counts}
use Rattle.gr_report.specs.declared.ends.LimitAt.{LimitAt}

-- A core whose clock is at least the limit of events has come to it.
abbrev pub limit_of : ℕ → CoreEnd → Option LimitAt
limit_of events end = if nat_le events end.clock then Some (record { core = end.core; clock = end.clock }) else None

-- The first of the cores that came to the limit.
unfoldable pub first_limit : ℕ → List CoreEnd → Option LimitAt
first_limit events [] = None
first_limit events (end ∷ more) = option_or (limit_of events end) (first_limit events more)

abbrev pub limit_text : LimitAt → List ℕ
limit_text at = codes "limit events core " ++ (decimal at.core ++ (codes " clock " ++ (decimal at.clock ++ codes "\n")))

-- What a core has called and shipped.
abbrev pub shipped_text : Counts → List ℕ
shipped_text n =
    codes " calls " ++ (decimal n.calls ++ (codes " messages " ++ (decimal n.messages
    ++ (codes " packets " ++ (decimal n.packets ++ (codes " short " ++ decimal n.short))))))

-- How often batches went off at it, and it asked for work and gave some.
abbrev pub shared_text : Counts → List ℕ
shared_text n = codes " batches " ++ (decimal n.batches ++ (codes " asks " ++ (decimal n.asks ++ (codes " gives " ++ decimal n.gives))))

abbrev pub counts_line : CoreEnd → List ℕ
counts_line end = codes "core " ++ (decimal end.core ++ (codes ":" ++ (shipped_text end.counts ++ (shared_text end.counts ++ codes "\n"))))

-- A line for each core, in their order.
unfoldable pub counts_lines : List CoreEnd → List ℕ
counts_lines [] = []
counts_lines (end ∷ more) = counts_line end ++ counts_lines more
