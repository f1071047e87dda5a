-- What is said of a history text, found line by line, and why nothing else is said.
use Rattle.std.proofs.Common.{◌≡◌, ℕ, ◌+◌, List, [], ◌∷◌, ◌++◌, length, map, Option, Some, None, refl, sym, ap, subst, append_assoc, append-nil, ◌∙◌, arith}
use Rattle.std.specs.Option.{option_and_then, option_map_or}
use Rattle.std.proofs.lemmas.List.{length_push, map_push}
use Rattle.gr_syntax.specs.declared.syntax.Program.{Program}
use Rattle.gr_lang.specs.declared.action.Entry.{Entry}
use Rattle.gr_lang.specs.States.{State, opening_state}
use Rattle.gr_lang.specs.Steps.{step}
use Rattle.gr_lang.specs.Histories.{after, final}
use Rattle.gr_plain.proofs.Histories.{after_append}
use Rattle.gr_hist.specs.declared.text.NamedEntry.{NamedEntry}
use Rattle.gr_replay.specs.Entries.{entry_in}
use Rattle.gr_replay.specs.Judged.{Judged, is_legal, is_not_legal, IsNoStep, Names, Verdict, legal, not_legal}

-- One line.
abbrev pub line_step : Program → (cores limit : ℕ) → State → NamedEntry → Option State
line_step program cores limit state line = option_and_then (step program cores limit state) (entry_in program line)

-- What is said of the lines that follow so many lines, after which this is the state.
abbrev pub verdict_from : Program → (cores limit : ℕ) → ℕ → State → List NamedEntry → Verdict
verdict_from program cores limit number state [] = legal state.passed
verdict_from program cores limit number state (line ∷ rest) =
    option_map_or (λ next. verdict_from program cores limit (number + 1) next rest) (line_step program cores limit state line) (not_legal (number + 1))

abbrev pub verdict_of : Program → (cores limit : ℕ) → List NamedEntry → Verdict
verdict_of program cores limit lines = verdict_from program cores limit 0 (opening_state program limit) lines

-- What a choice of a next state leads to, where there is one.
next_case : (f : State → Verdict) (g : State → Option State) (none verdict : Verdict) (last : State) (next : Option State) → option_and_then g next ≡ Some last
    → ((state : State) → g state ≡ Some last → f state ≡ verdict) → option_map_or f next none ≡ verdict
next_case f g none verdict last None h rest = cc
next_case f g none verdict last (Some state) h rest = rest state h

module _ (program : Program) (cores limit : ℕ) where
  -- What is said of lines of which the first names this entry.
  said_of_line : (line : NamedEntry) (x : Entry) (rest : List NamedEntry) (more : List Entry) (number : ℕ) (state last : State) (verdict : Verdict) → entry_in program line ≡ Some x
      → after program cores limit state (x ∷ more) ≡ Some last
      → ((next : State) → after program cores limit next more ≡ Some last → verdict_from program cores limit (number + 1) next rest ≡ verdict)
      → verdict_from program cores limit number state (line ∷ rest) ≡ verdict
  said_of_line line x rest more number state last verdict head is_after others =
      subst (λ (found : Option Entry). option_map_or (λ next. verdict_from program cores limit (number + 1) next rest) (option_and_then (step program cores limit state) found) (not_legal (number + 1)) ≡ verdict) (sym head)
      (next_case (λ next. verdict_from program cores limit (number + 1) next rest) (λ next. after program cores limit next more) (not_legal (number + 1)) verdict last (step program cores limit state x) is_after others)

  -- Lines that name a legal history are said to be legal.
  said_of_legal : (lines : List NamedEntry) (history : List Entry) (number : ℕ) (state last : State) → Names program lines history → after program cores limit state history ≡ Some last
      → verdict_from program cores limit number state lines ≡ legal last.passed
  said_of_legal [] [] number state last names is_after = let same : state ≡ last = cc in ap (λ (s : State). legal s.passed) same
  said_of_legal [] (x ∷ xs) number state last names is_after = cc
  said_of_legal (line ∷ lines) [] number state last names is_after = cc
  said_of_legal (line ∷ lines) (x ∷ xs) number state last names is_after =
      let tail : Names program lines xs = cc in
      said_of_line line x lines xs number state last (legal last.passed) (cc) is_after (λ next h. said_of_legal lines xs (number + 1) next last tail h)

  -- Lines of which some name a legal history and the next is no step.
  said_of_no_step : (front : List NamedEntry) (history : List Entry) (number : ℕ) (state last : State) (line : NamedEntry) (rest : List NamedEntry) → Names program front history
      → after program cores limit state history ≡ Some last → IsNoStep program cores limit last line
      → verdict_from program cores limit number state (front ++ line ∷ rest) ≡ not_legal (number + (length front + 1))
  said_of_no_step [] [] number state last line rest names is_after no_step =
      let same : state ≡ last = cc in
      let here : IsNoStep program cores limit state line = subst (λ (s : State). IsNoStep program cores limit s line) (sym same) no_step in
      rw here refl
  said_of_no_step [] (x ∷ xs) number state last line rest names is_after no_step = cc
  said_of_no_step (first ∷ front) [] number state last line rest names is_after no_step = cc
  said_of_no_step (first ∷ front) (x ∷ xs) number state last line rest names is_after no_step =
      let tail : Names program front xs = cc in
      let numbers : number + 1 + (length front + 1) ≡ number + (length (first ∷ front) + 1) = omega arith in
      said_of_line first x (front ++ line ∷ rest) xs number state last (not_legal (number + (length (first ∷ front) + 1))) (cc) is_after
      (λ next h. said_of_no_step front xs (number + 1) next last line rest tail h no_step ∙ ap not_legal numbers)

  -- Nothing else is said.
  pub said : (lines : List NamedEntry) (verdict : Verdict) → Judged program cores limit lines verdict → verdict ≡ verdict_of program cores limit lines
  said lines _ (is_legal history last names is_after) = sym (said_of_legal lines history 0 (opening_state program limit) last names is_after)
  said lines _ (is_not_legal front rest line history last parts names is_after no_step) =
      sym (ap (verdict_of program cores limit) parts ∙ said_of_no_step front history 0 (opening_state program limit) last line rest names is_after no_step ∙ ap not_legal (omega arith))

  one_more : (front : List NamedEntry) (line : NamedEntry) (history : List Entry) (x : Entry) → Names program front history → entry_in program line ≡ Some x
      → Names program (front ++ line ∷ []) (history ++ x ∷ [])
  one_more front line history x names head =
      map_push (entry_in program) front line
      ∙ ap (λ (found : List (Option Entry)). found ++ entry_in program line ∷ []) names
      ∙ ap (λ (found : Option Entry). map Some history ++ found ∷ []) head
      ∙ sym (map_push (λ (y : Entry). Some y) history x)

  taken : (front rest : List NamedEntry) (line : NamedEntry) (history : List Entry) (state : State) → Names program front history → final program cores limit history ≡ Some state
      → ((x : Entry) (next : State) → Names program (front ++ line ∷ []) (history ++ x ∷ []) → final program cores limit (history ++ x ∷ []) ≡ Some next
      → Judged program cores limit ((front ++ line ∷ []) ++ rest) (verdict_from program cores limit (length (front ++ line ∷ [])) next rest))
      → (found : Option Entry) → entry_in program line ≡ found → (stepped : Option State) → option_and_then (step program cores limit state) found ≡ stepped
      → Judged program cores limit (front ++ line ∷ rest) (option_map_or (λ next. verdict_from program cores limit (length front + 1) next rest) stepped (not_legal (length front + 1)))
  taken front rest line history state names is_after others found is None h =
      is_not_legal front rest line history state refl names is_after (ap (option_and_then (step program cores limit state)) is ∙ h)
  taken front rest line history state names is_after others None is (Some next) h = cc
  taken front rest line history state names is_after others (Some x) is (Some next) h =
      let reached : final program cores limit (history ++ x ∷ []) ≡ Some next =
      after_append program cores limit (opening_state program limit) history x ∙ ap (option_and_then (λ s. step program cores limit s x)) is_after ∙ h in
      subst (λ (n : ℕ). Judged program cores limit (front ++ line ∷ rest) (verdict_from program cores limit n next rest)) (length_push front line)
      (subst (λ (lines : List NamedEntry). Judged program cores limit lines (verdict_from program cores limit (length (front ++ line ∷ [])) next rest)) (append_assoc front (line ∷ []) rest)
      (others x next (one_more front line history x names is) reached))

  judged_from : (lines front : List NamedEntry) (history : List Entry) (state : State) → Names program front history → final program cores limit history ≡ Some state
      → Judged program cores limit (front ++ lines) (verdict_from program cores limit (length front) state lines)
  judged_from [] front history state names is_after = is_legal history state (subst (λ (lines : List NamedEntry). Names program lines history) (sym (append-nil front)) names) is_after
  judged_from (line ∷ rest) front history state names is_after =
      taken front rest line history state names is_after (λ x next. judged_from rest (front ++ line ∷ []) (history ++ x ∷ []) next)
      (entry_in program line) refl (line_step program cores limit state line) refl

  -- It is so.
  pub judged : (lines : List NamedEntry) → Judged program cores limit lines (verdict_of program cores limit lines)
  judged lines = judged_from lines [] [] (opening_state program limit) refl refl
