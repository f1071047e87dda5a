use Rattle.std.proofs.Common.{ℕ, ◌+◌, ◌<◌, ◌≤◌, ◌++◌, ◌∙◌, List, Option, Some, None, IfSome, take, length, rules, arith, length-append, length-take}
use Rattle.std.proofs.lemmas.List.{take-append-le}
use Rattle.std.proofs.KnownBytes.{Consumes-trans}
use Rattle.std.specs.Io.KnownBytes.{Consumes}
use Rattle.gr_io.proofs.whole.read_all.Goals as goal

-- where the reads gave more bytes than the limit, more were left
more_left : (before now : Option (List ℕ)) (bytes : List ℕ) (max : ℕ)
    → Consumes before now bytes → max < length bytes → IfSome before (λ all. max < length all)
more_left None now bytes max given more = tt
more_left (Some all) None bytes max given more = absurd given
more_left (Some all) (Some rest) bytes max given more =
    rw given (rw length-append (omega (arith, more)))

pub reads-preserved : goal.reads-preserved
reads-preserved g c = record {
  within = search rules;
  given =
      let fits : c.in-Ok.count ≤ length c.read.new.buf =
      omega (arith, c.in-Ok.ensures.bound.0, c.in-Ok.ensures.bound.1) in
      rw (c.in_ok-extend_from_slice-in-Ok-2.ensures.items, take-append-le)
      (Consumes-trans _ _ _ _ _ c.reads.invariant.given c.in-Ok.ensures.bytes.0);
  calm = c.in-Ok.ensures.counted ∙ c.reads.invariant.calm;
}

pub returns-in-Ok-clause-too_long : goal.returns-in-Ok-clause-too_long
returns-in-Ok-clause-too_long g c = λ _. (
  c.reads.bytes.items ++ take c.in-Ok.count c.read.new.buf,
  Consumes-trans _ _ _ _ _ c.reads.invariant.given c.in-Ok.ensures.bytes.0,
  rw length-append (omega (
    arith,
    c.in-Ok.ensures.bound.0,
    c.in-Ok.ensures.bound.1,
    c.read.auto.buf,
    c.if-count-left.true,
    c.min.ensures,
    length-take (c.min.result + 1) c.reads.buf,
  )),
)

pub returns-in-Ok-clause-too_many : goal.returns-in-Ok-clause-too_many
returns-in-Ok-clause-too_many g c = λ _. more_left _ _ _ _
    (Consumes-trans _ _ _ _ _ c.reads.invariant.given c.in-Ok.ensures.bytes.0)
    (rw length-append
    (omega (arith, c.in-Ok.ensures.bound.0, c.in-Ok.ensures.bound.1, c.if-count-left.true)))

pub returns-in_err-extend_from_slice-in-Ok-2-clause-memory_within :
    goal.returns-in_err-extend_from_slice-in-Ok-2-clause-memory_within
returns-in_err-extend_from_slice-in-Ok-2-clause-memory_within g c = λ _. (
  c.reads.bytes.items ++ take c.in-Ok.count c.read.new.buf,
  Consumes-trans _ _ _ _ _ c.reads.invariant.given c.in-Ok.ensures.bytes.0,
  rw length-append
      (omega (arith, c.in-Ok.ensures.bound.0, c.in-Ok.ensures.bound.1, c.if-count-left.false)),
)

pub returns-in_err-extend_from_slice-in-Ok-2-clause-memory_some :
    goal.returns-in_err-extend_from_slice-in-Ok-2-clause-memory_some
returns-in_err-extend_from_slice-in-Ok-2-clause-memory_some g c = λ _. (
  c.reads.bytes.items ++ take c.in-Ok.count c.read.new.buf,
  Consumes-trans _ _ _ _ _ c.reads.invariant.given c.in-Ok.ensures.bytes.0,
  rw length-append
      (omega (arith, c.in-Ok.ensures.bound.0, c.in-Ok.ensures.bound.1, c.in-Ok.count-test.1)),
)
