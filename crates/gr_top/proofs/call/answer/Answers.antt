use Rattle.std.proofs.Common.{◌≡◌, ◌∙◌, ℕ, ◌<◌, length, List, [], Some, None, true, sym, arith, rules}
use Rattle.std.proofs.KnownBytes.{Consumes-nil}
use Rattle.gr_top.specs.Commands.{asked, is_read, limit_of}
use Rattle.gr_top.proofs.Dues.{if_some, of_some, world_none, made_usage, made_too_long}
use Rattle.gr_top.proofs.call.answer.Goals as goal

pub returns-in_default-clause-due : goal.returns-in_default-clause-due
returns-in_default-clause-due g c =
    let none : asked c.args.words.now ≡ None = sym c.in_ok-options.ensures.options ∙ c.in_default.is in
    if_some _ (λ bytes e. made_usage c.args.words.now bytes c.in_ok-answer.answer none c.in_ok-answer.ensures.0 c.in_ok-answer.ensures.1 c.in_ok-answer.ensures.2)

pub returns-in_default-clause-some_bytes : goal.returns-in_default-clause-some_bytes
returns-in_default-clause-some_bytes g c =
    let none : asked c.args.words.now ≡ None = sym c.in_ok-options.ensures.options ∙ c.in_default.is in (
      [],
      Consumes-nil _,
      made_usage c.args.words.now [] c.in_ok-answer.answer none c.in_ok-answer.ensures.0 c.in_ok-answer.ensures.1 c.in_ok-answer.ensures.2,
      world_none c.args.words.now [] c.in_ok-answer.answer.world c.in_ok-answer.ensures.2,
    )

pub returns-then-not-is_read-clause-due : goal.returns-then-not-is_read-clause-due
returns-then-not-is_read-clause-due g c =
    let some : asked c.args.words.now ≡ Some c.in-Some.options = sym c.in_ok-options.ensures.options ∙ c.in-Some.is in
    if_some _ (λ bytes e. c.in_ok-answer-2.ensures.due c.args.words.now bytes some)

pub returns-then-not-is_read-clause-world : goal.returns-then-not-is_read-clause-world
returns-then-not-is_read-clause-world g c =
    let some : asked c.args.words.now ≡ Some c.in-Some.options = sym c.in_ok-options.ensures.options ∙ c.in-Some.is in
    if_some _ (λ bytes e. c.in_ok-answer-2.ensures.world c.args.words.now bytes some)

pub returns-then-not-is_read-clause-some_bytes : goal.returns-then-not-is_read-clause-some_bytes
returns-then-not-is_read-clause-some_bytes g c =
    let some : asked c.args.words.now ≡ Some c.in-Some.options = sym c.in_ok-options.ensures.options ∙ c.in-Some.is in
    ([], Consumes-nil _, c.in_ok-answer-2.ensures.due c.args.words.now [] some, c.in_ok-answer-2.ensures.world c.args.words.now [] some)

pub returns-in_ok-answer-in-Err-TooLong-clause-due : goal.returns-in_ok-answer-in-Err-TooLong-clause-due
returns-in_ok-answer-in-Err-TooLong-clause-due g c =
    let some : asked c.args.words.now ≡ Some c.in-Some.options = sym c.in_ok-options.ensures.options ∙ c.in-Some.is in
    let reads : is_read c.in-Some.options.command ≡ true = search rules in
    let limit : c.source_limit.result ≡ limit_of c.in-Some.options.command = c.source_limit.ensures in
    let too_many = c.read_all-read.ensures.too_many (search rules) in
    if_some _ (λ bytes e.
    let more : c.source_limit.result < length bytes = of_some (λ (all : List ℕ). c.source_limit.result < length all) _ bytes e too_many in
    made_too_long c.args.words.now bytes c.in_ok-answer-in-Err-TooLong.answer c.in-Some.options some reads (omega (arith, more, limit))
    c.in_ok-answer-in-Err-TooLong.ensures.0 c.in_ok-answer-in-Err-TooLong.ensures.1 c.in_ok-answer-in-Err-TooLong.ensures.2)

pub returns-in_ok-answer-in-Err-TooLong-clause-some_bytes : goal.returns-in_ok-answer-in-Err-TooLong-clause-some_bytes
returns-in_ok-answer-in-Err-TooLong-clause-some_bytes g c =
    let some : asked c.args.words.now ≡ Some c.in-Some.options = sym c.in_ok-options.ensures.options ∙ c.in-Some.is in
    let reads : is_read c.in-Some.options.command ≡ true = search rules in
    let limit : c.source_limit.result ≡ limit_of c.in-Some.options.command = c.source_limit.ensures in
    let given = c.read_all-read.ensures.too_long (search rules) in (
      given.0,
      given.1,
      made_too_long c.args.words.now given.0 c.in_ok-answer-in-Err-TooLong.answer c.in-Some.options some reads (omega (arith, given.2, limit))
          c.in_ok-answer-in-Err-TooLong.ensures.0 c.in_ok-answer-in-Err-TooLong.ensures.1 c.in_ok-answer-in-Err-TooLong.ensures.2,
      world_none c.args.words.now given.0 c.in_ok-answer-in-Err-TooLong.answer.world c.in_ok-answer-in-Err-TooLong.ensures.2,
    )
