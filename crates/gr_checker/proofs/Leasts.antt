-- The first of two lists, one after the other.
use Rattle.std.proofs.Common.{◌≡◌, List, [], ◌∷◌, ◌++◌, Option, flat_map, refl, ap, ◌∙◌, sym}
use Rattle.std.proofs.lemmas.List.{append-nil}
use Rattle.gr_syntax.specs.declared.refusal.Fault.{Fault}
use Rattle.gr_syntax.specs.declared.syntax.Name.{Name}
use Rattle.gr_accept.specs.Conditions.{faults_at, main_has_params, too_many}
use Rattle.gr_accept.specs.Declarations.{Meaning}
use Rattle.gr_accept.specs.Sites.{Site, begins}
use Rattle.gr_checker.specs.EarliestWords.{least, noted, seen}

pub least-append : (found : Option Fault) (fs gs : List Fault) → least found (fs ++ gs) ≡ least (least found fs) gs
least-append found [] gs = refl
least-append found (f ∷ fs) gs = least-append (noted found f) fs gs

pub seen-append : (m : Meaning) (found : Option Fault) (ss ts : List Site) → seen m found (ss ++ ts) ≡ seen m (seen m found ss) ts
seen-append m found [] ts = refl
seen-append m found (s ∷ ss) ts = seen-append m (least found (faults_at m s)) ss ts

pub seen-least : (m : Meaning) (found : Option Fault) (ss : List Site) → seen m found ss ≡ least found (flat_map (faults_at m) ss)
seen-least m found [] = refl
seen-least m found (s ∷ ss) = seen-least m (least found (faults_at m s)) ss ∙ sym (least-append found (faults_at m s) (flat_map (faults_at m) ss))

-- The faults at a task's head.
pub faults-begins : (m : Meaning) (name : Name) (params : List Name) → faults_at m (begins name params) ≡ main_has_params (begins name params) ++ too_many (begins name params)
unfolding faults_at
faults-begins m name params = ap (λ (past : List Fault). main_has_params (begins name params) ++ past) (append-nil (too_many (begins name params)))

pub ruleset leasts = (least-append, seen-append)
