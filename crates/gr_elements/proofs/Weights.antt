-- What messages of elements weigh: nothing where they are of no element of the vector.
use Rattle.std.proofs.Common.{◌≡◌, ◌≢◌, ◌⊎◌, ℕ, zero, suc, ◌+◌, ◌==◌, ◌&&◌, if◌then◌else◌, List, refl, arith, inl, inr, Option, Some, None}
use Rattle.std.proofs.lemmas.Bool.{cases_eq}
use Rattle.std.proofs.lemmas.Bool.Decides.{nat_tests}
use Rattle.gr_lang.specs.Expressions.{number_of}
use Rattle.gr_msg.specs.declared.message.Msg.{Msg}
use Rattle.gr_msg.specs.declared.message.Msg.TheVariants as msg
use Rattle.gr_agg.specs.Laws.{Adds, Merges}
use Rattle.gr_net.specs.Sums.{weigh, Each}
use Rattle.gr_net.proofs.Spreads.{weigh_none, Each-map}
use Rattle.gr_machine.specs.States.{Letter}
use Rattle.gr_machine.specs.Outcomes.{Send}
use Rattle.gr_stands.specs.Worlds.{Given, Weight, of_letters, of_sends}
use Rattle.gr_elements.specs.Weights.{is_that, elements, putting, getting, carrying, is_put, is_get}
use Rattle.gr_elements.specs.Elements.{ElementFits}
use Rattle.gr_elements.specs.ElementActs.{IsOfNoElement}

-- ---- completes weigh nothing

pub elements_add : (number from to : ℕ) → Adds (elements number from to)
elements_add number from to scope x y = refl

pub putting_adds : (number at from to : ℕ) → Adds (putting number at from to)
putting_adds number at from to scope x y = refl

pub getting_adds : (number at from to : ℕ) → Adds (getting number at from to)
getting_adds number at from to scope x y = refl

pub carrying_adds : (number at from to : ℕ) → Adds (carrying number at from to)
carrying_adds number at from to scope x y = refl

pub puts_add : (number : ℕ) → Adds (is_put number)
puts_add number scope x y = refl

pub gets_add : (number : ℕ) → Adds (is_get number)
gets_add number scope x y = refl

pub fits_merge : (given : Given) (number : ℕ) (turns : ℕ → ℕ) (held : ℕ → Option ℕ) (from to : ℕ) → Merges (ElementFits given number turns held from to)
fits_merge given number turns held from to scope x y p q = tt

-- ---- a message of another vector, or of none

not_that : (vector position number at : ℕ) → vector ≢ number → is_that vector position number at ≡ zero
not_that vector position number at ne = grind (arith, nat_tests)

not_one : (vector number : ℕ) → vector ≢ number → number_of (vector == number) ≡ zero
not_one vector number ne = grind (arith, nat_tests)

pub elements_off : (number from to : ℕ) (m : Msg) → IsOfNoElement number m → elements number from to m ≡ 0
elements_off number from to (msg.ElemPut vector position word) ne = not_one vector number ne
elements_off number from to (msg.ElemGet vector position) ne = not_one vector number ne
elements_off number from to (msg.ElemAck vector position got) ne = not_one vector number ne
elements_off number from to _ ne = refl

pub putting_off : (number at from to : ℕ) (m : Msg) → IsOfNoElement number m → putting number at from to m ≡ 0
putting_off number at from to (msg.ElemPut vector position word) ne = not_that vector position number at ne
putting_off number at from to (msg.ElemAck vector position None) ne = not_that vector position number at ne
putting_off number at from to _ ne = refl

pub getting_off : (number at from to : ℕ) (m : Msg) → IsOfNoElement number m → getting number at from to m ≡ 0
getting_off number at from to (msg.ElemGet vector position) ne = not_that vector position number at ne
getting_off number at from to (msg.ElemAck vector position (Some word)) ne = not_that vector position number at ne
getting_off number at from to _ ne = refl

pub carrying_off : (number at from to : ℕ) (m : Msg) → IsOfNoElement number m → carrying number at from to m ≡ 0
carrying_off number at from to (msg.ElemPut vector position word) ne = not_that vector position number at ne
carrying_off number at from to (msg.ElemAck vector position (Some word)) ne = not_that vector position number at ne
carrying_off number at from to _ ne = refl

pub put_off : (number : ℕ) (m : Msg) → IsOfNoElement number m → is_put number m ≡ 0
put_off number (msg.ElemPut vector position word) ne = not_one vector number ne
put_off number _ ne = refl

pub get_off : (number : ℕ) (m : Msg) → IsOfNoElement number m → is_get number m ≡ 0
get_off number (msg.ElemGet vector position) ne = not_one vector number ne
get_off number _ ne = refl

pub fits_off : (given : Given) (number : ℕ) (turns : ℕ → ℕ) (held : ℕ → Option ℕ) (from to : ℕ) (m : Msg) → IsOfNoElement number m → ElementFits given number turns held from to m
fits_off given number turns held from to (msg.ElemPut vector position word) ne = λ q. absurd (ne q)
fits_off given number turns held from to (msg.ElemGet vector position) ne = λ q. absurd (ne q)
fits_off given number turns held from to (msg.ElemAck vector position None) ne = λ q. absurd (ne q)
fits_off given number turns held from to (msg.ElemAck vector position (Some word)) ne = λ q. absurd (ne q)
fits_off given number turns held from to _ ne = tt

-- What weighs nothing is of no element, and so fits whatever the turns are.
one_not : (vector number : ℕ) → number_of (vector == number) ≡ 0 → vector ≢ number
one_not vector number e q = grind (arith, nat_tests)

pub no_element : (number from to : ℕ) (m : Msg) → elements number from to m ≡ 0 → IsOfNoElement number m
no_element number from to (msg.ElemPut vector position word) e = one_not vector number e
no_element number from to (msg.ElemGet vector position) e = one_not vector number e
no_element number from to (msg.ElemAck vector position got) e = one_not vector number e
no_element number from to _ e = tt

pub letters_none : (number : ℕ) (h : Weight) → ((from to : ℕ) (m : Msg) → IsOfNoElement number m → h from to m ≡ 0) → (me : ℕ) (got : List Letter) → Each (λ letter. IsOfNoElement number letter.message) got → of_letters h me got ≡ 0
letters_none number h off me got f = weigh_none (λ (l : Letter). h l.from me l.message) got
    (Each-map (λ (l : Letter). IsOfNoElement number l.message) (λ (l : Letter). h l.from me l.message ≡ 0) (λ l o. off l.from me l.message o) got f)

pub sends_none : (number : ℕ) (h : Weight) → ((from to : ℕ) (m : Msg) → IsOfNoElement number m → h from to m ≡ 0) → (me : ℕ) (sends : List Send) → Each (λ send. IsOfNoElement number send.message) sends → of_sends h me sends ≡ 0
sends_none number h off me sends f = weigh_none (λ (s : Send). h me s.to s.message) sends
    (Each-map (λ (s : Send). IsOfNoElement number s.message) (λ (s : Send). h me s.to s.message ≡ 0) (λ s o. off me s.to s.message o) sends f)
