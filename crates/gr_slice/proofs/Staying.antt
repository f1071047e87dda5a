-- A core that tries events stays as it was until one is made.
use Rattle.std.proofs.Common.{◌≡◌, ◌+◌, ℕ, ap, ◌∙◌, sym, refl, subst, inl, inr, arith}
use Rattle.std.specs.Prelude.{Bool, true, false}
use Rattle.std.proofs.lemmas.Bool.{cases_eq}
use Rattle.gr_machine.specs.declared.event.Event.{Event}
use Rattle.gr_machine.specs.declared.event.Event.TheVariants as event
use Rattle.gr_machine.specs.Counting.{is_steal}
use Rattle.gr_machine.specs.Enabled.{enabled}
use Rattle.gr_mail.specs.declared.mail.Mail.{Mail}
use Rattle.gr_mail.specs.Rings.{SameRings, free_to, known_from}
use Rattle.gr_mail.proofs.Mails.{rings_self, rings_twice}
use Rattle.gr_core.specs.declared.cores.Core.{Core}
use Rattle.gr_core.specs.Cores.{mail_of, run_of}
use Rattle.gr_core.specs.Mails.{HasToWait, NoneForgotten, SameKnownUnless, WaitsUnless}
use Rattle.gr_core.specs.Runs.{Made, MadeOr, Run}
use Rattle.gr_core.proofs.Keeping.{all_kept, kept_twice}
use Rattle.gr_slice.specs.declared.tries.Kind.{Kind}
use Rattle.gr_slice.specs.declared.tries.Kind.TheVariants as kind
use Rattle.gr_slice.specs.Slices.{CanMake, OnlyAsks, Stayed}
use Rattle.gr_slice.specs.TryWords.{Advanced, CanMakeNone, CanMakeNoneBelow, Cannot, HasNoWork, MayMake, MayTry, Tried, event_of}

pub stayed_self : (core : Core) → Stayed core core
stayed_self core = record { run = refl; rings = rings_self (mail_of core); kept = all_kept (mail_of core); known = refl; free = refl }

pub stayed_twice : (one other later : Core) → Stayed one other → Stayed other later → Stayed one later
stayed_twice one other later s t = record {
  run = t.run ∙ s.run;
  rings = rings_twice (mail_of one) (mail_of other) (mail_of later) s.rings t.rings;
  kept = kept_twice (mail_of one) (mail_of other) (mail_of later) s.kept t.kept;
  known = t.known ∙ s.known;
  free = t.free ∙ s.free;
}

-- What had to wait still has to, where the same is known of the rings.
waits_still : (before after : Mail) (what : Event) → known_from after ≡ known_from before → free_to after ≡ free_to before → HasToWait after what → HasToWait before what
waits_still before after (event.Take from) known free waits = ap (λ f. f from) (sym known) ∙ waits
waits_still before after (event.Ship dest) known free waits = ap (λ f. f dest) (sym free) ∙ waits
waits_still before after event.Serve known free waits = waits
waits_still before after event.Run known free waits = waits
waits_still before after (event.Close object) known free waits = waits
waits_still before after (event.Steal victim) known free waits = waits

-- The same events can be made.
pub can_still : (one other : Core) (what : Event) → Stayed one other → CanMake (run_of one) (mail_of one) what → CanMake (run_of other) (mail_of other) what
can_still one other what s can = record {
  numbered = can.numbered;
  enabled = subst (λ (run : Run). enabled run.seen.machine run.seen.me run.seen.core what ≡ true) (sym s.run) can.enabled;
  now = λ waits. can.now (waits_still (mail_of one) (mail_of other) what s.known s.free waits);
}

could_before : (one other : Core) (what : Event) → Stayed one other → CanMake (run_of other) (mail_of other) what → CanMake (run_of one) (mail_of one) what
could_before one other what s can = record {
  numbered = can.numbered;
  enabled = subst (λ (run : Run). enabled run.seen.machine run.seen.me run.seen.core what ≡ true) s.run can.enabled;
  now = λ waits. can.now (waits_still (mail_of other) (mail_of one) what (sym s.known) (sym s.free) waits);
}

pub cannot_before : (one other : Core) (what : Event) → Stayed one other → Cannot other what → Cannot one what
cannot_before one other what s cannot can = cannot (can_still one other what s can)

pub cannot_after : (one other : Core) (what : Event) → Stayed one other → Cannot one what → Cannot other what
cannot_after one other what s cannot can = cannot (could_before one other what s can)

pub asks_before : (one other : Core) → Stayed one other → OnlyAsks (run_of other) (mail_of other) → OnlyAsks (run_of one) (mail_of one)
asks_before one other s asks what can = asks what (can_still one other what s can)

pub asks_after : (one other : Core) → Stayed one other → OnlyAsks (run_of one) (mail_of one) → OnlyAsks (run_of other) (mail_of other)
asks_after one other s asks what can = asks what (could_before one other what s can)

-- What is tried after nothing was made.
pub tried_after : (done : Bool) (one other later : Core) → Stayed one other → Tried done other later → Tried done one later
tried_after false one other later s t = stayed_twice one other later s t
tried_after true one other later s t = record {
  what = t.what;
  made = subst (λ (run : Run). Made run t.what (run_of later)) s.run t.made;
  may = λ steals. asks_before one other s (t.may steals);
  rings = rings_twice (mail_of one) (mail_of other) (mail_of later) s.rings t.rings;
  kept = kept_twice (mail_of one) (mail_of other) (mail_of later) s.kept t.kept;
}

pub stayed_of : (done : Bool) (one other : Core) → done ≡ false → Tried done one other → Stayed one other
stayed_of false one other not t = t
stayed_of true one other not t = absurd (cc)

pub advanced_of : (done : Bool) (one other : Core) → done ≡ true → Tried done one other → Advanced one other
advanced_of true one other is t = t
advanced_of false one other is t = absurd (cc)

pub still_stayed : (done : Bool) (one other later : Core) → Stayed one other → done ≡ false → Tried done other later → Stayed one later
still_stayed done one other later s not t = stayed_twice one other later s (stayed_of done other later not t)

-- What can't be made after nothing was made couldn't be before.
pub none_before : (kind : Kind) (one other : Core) → Stayed one other → CanMakeNone kind other → CanMakeNone kind one
none_before kind one other s none number = cannot_before one other (event_of kind number) s (none number)

pub no_work_before : (one other : Core) → Stayed one other → HasNoWork other → HasNoWork one
no_work_before one other s work = record {
  run = none_before kind.Run one other s work.run;
  close = none_before kind.Close one other s work.close;
  ship = none_before kind.Ship one other s work.ship;
}

-- A step

pub step_tried : (done : Bool) (before after : Core) (what : Event) → MayMake before what → MadeOr (run_of before) what (run_of after) done
    → SameRings (mail_of before) (mail_of after) → NoneForgotten (mail_of before) (mail_of after) → SameKnownUnless done (mail_of before) (mail_of after)
    → Tried done before after
step_tried true before after what may made rings kept same = record { what = what; made = made; may = may; rings = rings; kept = kept }
step_tried false before after what may made rings kept same = record { run = made; rings = rings; kept = kept; known = same.0; free = same.1 }

step_waits : (done : Bool) (core : Core) (what : Event) → WaitsUnless done (mail_of core) what → done ≡ false → Cannot core what
step_waits false core what waits not can = can.now waits
step_waits true core what waits not can = absurd (cc)

pub ruleset attempts = (stayed_self, step_tried)

-- One number more of which no event can be made: one that had to wait, and one that isn't enabled.
none_more : (kind : Kind) (one other : Core) (count : ℕ) → Stayed one other → CanMakeNoneBelow kind one count → Cannot other (event_of kind count)
    → CanMakeNoneBelow kind one (count + 1)
none_more kind one other count s none cannot number below = elim (cases_eq number count) [
  | inl e ↦ subst (λ n. Cannot one (event_of kind n)) (sym e) (cannot_before one other (event_of kind count) s cannot)
  | inr n ↦ none number (omega (arith, below, n))
]

pub none_after_step : (done : Bool) (kind : Kind) (what : Event) (one other : Core) (count : ℕ) → Stayed one other → CanMakeNoneBelow kind one count
    → what ≡ event_of kind count → WaitsUnless done (mail_of other) what → done ≡ false → CanMakeNoneBelow kind one (count + 1)
none_after_step done kind what one other count s none is waits not =
    none_more kind one other count s none (subst (Cannot other) is (step_waits done other what waits not))

pub none_disabled : (able : Bool) (kind : Kind) (what : Event) (one other : Core) (count : ℕ) → Stayed one other → CanMakeNoneBelow kind one count
    → what ≡ event_of kind count → able ≡ enabled (run_of other).seen.machine (run_of other).seen.me (run_of other).seen.core what → able ≡ false
    → CanMakeNoneBelow kind one (count + 1)
none_disabled able kind what one other count s none is able_is not =
    let cannot : Cannot other what = λ can. (let no : false ≡ true = sym not ∙ able_is ∙ can.enabled in cc) in
    none_more kind one other count s none (subst (Cannot other) is cannot)

-- What may be tried may be made, by its number.
pub may_make : (kind : Kind) (one other : Core) (what : Event) (number : ℕ) → Stayed one other → MayTry one kind → what ≡ event_of kind number → MayMake other what
may_make kind one other what number s may is steals = asks_after one other s (may number (ap is_steal (sym is) ∙ steals))
