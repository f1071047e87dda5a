use Rattle.gr_report.specs.Gathered.{held_of}
use Rattle.gr_report.proofs.Together.{at_home, first_alone, first_none, once}
use Rattle.gr_report.proofs.laws.cores_hold_together.Goals as goal

pub returns : goal.returns
returns c = record {
  once = once;
  alone = λ cores object at one default lt h. first_alone (held_of object) at default cores one lt h;
  none = λ cores object at default h. first_none (held_of object) at default cores h;
  words = at_home;
}
