-- Marks after others, and their entries.
use Rattle.std.proofs.Common.{◌≡◌, List, [], ◌∷◌, ◌++◌, sym, ◌∙◌, ap, refl}
use Rattle.std.specs.Prelude.{Option, Some, None}
use Rattle.std.specs.Option.{option_and_then}
use Rattle.std.proofs.lemmas.List.{append_assoc}
use Rattle.gr_lang.specs.declared.action.Entry.{Entry}
use Rattle.gr_lang.specs.States.{State}
use Rattle.gr_lang.specs.Steps.{step}
use Rattle.gr_lang.specs.Histories.{after}
use Rattle.gr_machine.specs.Histories.{entries_of, sent_after, history_from}
use Rattle.gr_machine.proofs.Clocks.{some_same}
use Rattle.gr_stands.specs.Worlds.{Given}
use Rattle.gr_stands_outcomes.specs.Marks.{sent_from, entries_from, LeadsBetween}
use Rattle.gr_stands_outcomes.specs.Laws as laws

pub batches_go_off : laws.BatchesGoOffInOrder
batches_go_off sent me [] ys = refl
batches_go_off sent me (x ∷ xs) ys = batches_go_off (sent_after sent me x) me xs ys

pub entries_come : laws.EntriesComeInOrder
entries_come sent me [] ys = refl
entries_come sent me (x ∷ xs) ys =
    ap (λ (es : List Entry). entries_of sent x ++ es) (entries_come (sent_after sent me x) me xs ys)
    ∙ sym (append_assoc (entries_of sent x) (entries_from (sent_after sent me x) me xs) (entries_from (sent_from sent me (x ∷ xs)) me ys))

pub histories_go_on : laws.HistoriesGoOn
histories_go_on sent me clock [] more = refl
histories_go_on sent me clock (x ∷ xs) more =
    ap (λ (es : List Entry). entries_of sent x ++ es) (histories_go_on (sent_after sent me x) me clock xs more)
    ∙ sym (append_assoc (entries_of sent x) (entries_from (sent_after sent me x) me xs) (history_from (sent_from sent me (x ∷ xs)) more))

module _ (given : Given) (ys : List Entry) where
  abbrev leads : State → List Entry → Option State
  leads S xs = after given.program given.setup.cores given.setup.steps S xs

  abbrev stepped : State → Entry → Option State
  stepped S x = step given.program given.setup.cores given.setup.steps S x

  lead_on : (xs : List Entry) (S M : State) → leads S xs ≡ Some M → leads S (xs ++ ys) ≡ leads M ys
  lead_on [] S M h = ap (λ (x : State). leads x ys) (some_same h)
  lead_on (x ∷ xs) S M h = by (stepped S x) (λ n k. lead_on xs n M k) h
    where
      by : (o : Option State) → ((n : State) → leads n xs ≡ Some M → leads n (xs ++ ys) ≡ leads M ys)
          → option_and_then (λ n. leads n xs) o ≡ Some M → option_and_then (λ n. leads n (xs ++ ys)) o ≡ leads M ys
      by None more h = absurd (cc)
      by (Some n) more h = more n h

  come_apart : (xs : List Entry) (S N : State) → leads S (xs ++ ys) ≡ Some N → LeadsBetween given S N xs ys
  come_apart [] S N h = record { middle = S; first = refl; second = h }
  come_apart (x ∷ xs) S N h = by (stepped S x) refl (λ n k. come_apart xs n N k) h
    where
      by : (o : Option State) → stepped S x ≡ o → ((n : State) → leads n (xs ++ ys) ≡ Some N → LeadsBetween given n N xs ys)
          → option_and_then (λ n. leads n (xs ++ ys)) o ≡ Some N → LeadsBetween given S N (x ∷ xs) ys
      by None e more h = absurd (cc)
      by (Some n) e more h =
          let r = more n h in
          record { middle = r.middle; first = ap (option_and_then (λ (m : State). leads m xs)) e ∙ r.first; second = r.second }

pub entries_lead_on : laws.EntriesLeadOn
entries_lead_on given S M xs ys h = lead_on given ys xs S M h

pub entries_come_apart : laws.EntriesComeApart
entries_come_apart given S N xs ys h = come_apart given ys xs S N h
