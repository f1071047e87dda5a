use Rattle.std.proofs.Common.{Err, sym, subst}
use Rattle.gr_syntax.specs.declared.refusal.Kind.TheVariants as k
use Rattle.gr_syntax.specs.declared.syntax.Place.{Place}
use Rattle.gr_syntax.specs.Faults.{fault}
use Rattle.gr_text.specs.declared.fault.TextError.TheVariants as faults
use Rattle.gr_text.specs.Text.{Reads, IsFaultOf}
use Rattle.gr_top.specs.Readings.{ReadsAs}
use Rattle.gr_top.specs.Due.{refused}
use Rattle.gr_top.specs.AnswerView.{reading_of}
use Rattle.gr_top.specs.declared.reading.TextRead.{TextRead}
use Rattle.gr_top.proofs.TextOnce.{bad_within, wide_within, long_within}
use Rattle.gr_top.proofs.reading.token_fault.Goals as goal

pub place-requires : goal.place-requires
place-requires c = bad_within c.args.text.now c.in-BadByte.at (subst (IsFaultOf c.args.text.now) c.in-BadByte.is c.requires)

pub place-requires-in-NumberTooWide : goal.place-requires-in-NumberTooWide
place-requires-in-NumberTooWide c = wide_within c.args.text.now c.in-NumberTooWide.at (subst (IsFaultOf c.args.text.now) c.in-NumberTooWide.is c.requires)

pub place-requires-in-NameTooLong : goal.place-requires-in-NameTooLong
place-requires-in-NameTooLong c = long_within c.args.text.now c.in-NameTooLong.at (subst (IsFaultOf c.args.text.now) c.in-NameTooLong.is c.requires)

pub returns-in-BadByte-clause-reads : goal.returns-in-BadByte-clause-reads
returns-in-BadByte-clause-reads c =
    let reads : Reads c.args.text.now (Err (faults.BadByte c.in-BadByte.at)) = subst (IsFaultOf c.args.text.now) c.in-BadByte.is c.requires in
    subst (λ (x : TextRead). ReadsAs c.args.text.now (reading_of x)) (sym c.refused.ensures)
    (subst (λ (p : Place). ReadsAs c.args.text.now (refused (fault k.BadByte p))) (sym c.place.ensures) (ReadsAs.bad_byte reads))

pub returns-in-NumberTooWide-clause-reads : goal.returns-in-NumberTooWide-clause-reads
returns-in-NumberTooWide-clause-reads c =
    let reads : Reads c.args.text.now (Err (faults.NumberTooWide c.in-NumberTooWide.at)) = subst (IsFaultOf c.args.text.now) c.in-NumberTooWide.is c.requires in
    subst (λ (x : TextRead). ReadsAs c.args.text.now (reading_of x)) (sym c.refused-in-NumberTooWide.ensures)
    (subst (λ (p : Place). ReadsAs c.args.text.now (refused (fault k.NumberTooWide p))) (sym c.place-in-NumberTooWide.ensures) (ReadsAs.wide_number reads))

pub returns-in-NameTooLong-clause-reads : goal.returns-in-NameTooLong-clause-reads
returns-in-NameTooLong-clause-reads c =
    let reads : Reads c.args.text.now (Err (faults.NameTooLong c.in-NameTooLong.at)) = subst (IsFaultOf c.args.text.now) c.in-NameTooLong.is c.requires in
    subst (λ (x : TextRead). ReadsAs c.args.text.now (reading_of x)) (sym c.refused-in-NameTooLong.ensures)
    (subst (λ (p : Place). ReadsAs c.args.text.now (refused (fault k.NameTooLong p))) (sym c.place-in-NameTooLong.ensures) (ReadsAs.long_name reads))
