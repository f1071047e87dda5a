-- Addresses, and places of cores.
use Rattle.std.proofs.Common.{◌≡◌, ℕ, ◌+◌, ◌-◌, ◌*◌, ◌/◌, ◌%◌, ◌<◌, ◌≤◌, min, arith, sym, ap, ◌∙◌, inl, inr, subst}
use Rattle.std.proofs.Math.Nat.{div-div-eq-div-mul, mul_assoc, mul_comm, add-mul, mul-le-mul_right, div-le_self, le-mul_of_pos_right}
use Rattle.std.proofs.lemmas.Nat.{div-add-mod', div-mul-add, mod-mul-add}
use Rattle.std.proofs.lemmas.Bool.{cases_order}
use Rattle.gr_addr.specs.Dealing.{home_of, place_of, linear_of, share_of}
use Rattle.gr_addr.specs.Layouts.{IsLayout}
use Rattle.gr_addr.specs.Laws.{AddressesAreHeld, AddressesComeBack, PairsAreApart, PlacesAreAddressed}

positive : (a b : ℕ) → 0 < a → 0 < b → 0 < a * b
positive a b p q = omega (arith, le-mul_of_pos_right a q)

-- A number below another one, times the same, leaves room for one time more.
step : (one other times : ℕ) → one < other → one * times + times ≤ other * times
step one other times below = let more : one + 1 ≤ other = omega arith in omega (arith, mul-le-mul_right times more, add-mul one 1 times)

pub back : AddressesComeBack
back cores block at a_core a_word =
    let inside : at % block < block = omega arith in
    let round : ℕ = at / (block * cores) in
    let home : ℕ = at / block % cores in
    ap (λ (q : ℕ). (q * cores + home) * block + (round * block + at % block) % block) (div-mul-add round block (at % block) inside)
    ∙ ap (λ (r : ℕ). (round * cores + home) * block + r) (mod-mul-add round block (at % block) inside)
    ∙ ap (λ (q : ℕ). (q * cores + home) * block + at % block) (sym (div-div-eq-div-mul at block cores))
    ∙ ap (λ (q : ℕ). q * block + at % block) (div-add-mod' (at / block) cores)
    ∙ div-add-mod' at block

pub apart : PairsAreApart
apart cores block one other a_core a_word homes places =
    sym (back cores block one a_core a_word)
    ∙ ap (λ (core : ℕ). linear_of cores block core (place_of cores block one)) homes
    ∙ ap (linear_of cores block (home_of cores block other)) places
    ∙ back cores block other a_core a_word

home_back : (cores block core place : ℕ) → 0 < block → core < cores → home_of cores block (linear_of cores block core place) ≡ core
home_back cores block core place a_word here =
    ap (λ (q : ℕ). q % cores) (div-mul-add (place / block * cores + core) block (place % block) (omega arith)) ∙ mod-mul-add (place / block) cores core here

place_back : (cores block core place : ℕ) → 0 < block → core < cores → place_of cores block (linear_of cores block core place) ≡ place
place_back cores block core place a_word here =
    let at : ℕ = linear_of cores block core place in
    let inside : place % block < block = omega arith in
    ap (λ (q : ℕ). q * block + at % block)
    (sym (div-div-eq-div-mul at block cores)
    ∙ ap (λ (q : ℕ). q / cores) (div-mul-add (place / block * cores + core) block (place % block) inside)
    ∙ div-mul-add (place / block) cores core here)
    ∙ ap (λ (r : ℕ). place / block * block + r) (mod-mul-add (place / block * cores + core) block (place % block) inside)
    ∙ div-add-mod' place block

-- An address by its round, its core and what is left.
spread : (cores block core round rest : ℕ) → (round * cores + core) * block + rest ≡ round * (block * cores) + core * block + rest
spread cores block core round rest =
    ap (λ (n : ℕ). n + rest) (add-mul (round * cores) core block)
    ∙ ap (λ (n : ℕ). n + core * block + rest) (mul_assoc round cores block ∙ ap (λ (n : ℕ). round * n) (mul_comm cores block))

-- A place of the whole rounds of the words and the rest is below the core's share exactly where its address is below their number.
record Same (block share words place at : ℕ) : Type 0 where
  pub below : place < share → at < words
  pub held : at < words → place < share

same : (cores block core round rest whole more : ℕ) → core < cores → rest < block → more < block * cores
    → Same block (whole * block + min (more - core * block) block) (whole * (block * cores) + more) (round * block + rest) (round * (block * cores) + core * block + rest)
same cores block core round rest whole more here inside last =
    let room : core * block + block ≤ block * cores = omega (arith, step core cores block here, mul_comm cores block) in
    elim (cases_order round whole) [
      | inl e ↦ subst (λ (n : ℕ). Same block (whole * block + min (more - core * block) block) (whole * (block * cores) + more) (n * block + rest) (n * (block * cores) + core * block + rest)) (sym e)
          record { below = λ h. omega arith; held = λ h. omega arith }
      | inr (inl l) ↦ record {
        below = λ h. omega (arith, step round whole (block * cores) l);
        held = λ h. omega (arith, step round whole block l);
      }
      | inr (inr g) ↦ record {
        below = λ h. omega (arith, step whole round block g);
        held = λ h. omega (arith, step whole round (block * cores) g);
      }
    ]

split : (cores block words core place : ℕ) → 0 < cores → 0 < block → core < cores
    → Same block (share_of cores block words core) words place (linear_of cores block core place)
split cores block words core place a_core a_word here =
    let round : ℕ = block * cores in
    let some : 0 < round = positive block cores a_word a_core in
    subst (λ (n : ℕ). Same block (share_of cores block words core) n place (linear_of cores block core place)) (div-add-mod' words round)
    (subst (λ (n : ℕ). Same block (share_of cores block words core) (words / round * round + words % round) n (linear_of cores block core place)) (div-add-mod' place block)
    (subst (λ (n : ℕ). Same block (share_of cores block words core) (words / round * round + words % round) (place / block * block + place % block) n) (sym (spread cores block core (place / block) (place % block)))
    (same cores block core (place / block) (place % block) (words / round) (words % round) here (omega arith) (omega arith))))

pub held : AddressesAreHeld
held cores block words at a_core a_word below =
    let here : home_of cores block at < cores = omega arith in
    (here, (split cores block words (home_of cores block at) (place_of cores block at) a_core a_word here).held (subst (λ (n : ℕ). n < words) (sym (back cores block at a_core a_word)) below))

pub addressed : PlacesAreAddressed
addressed cores block words core place a_core a_word here inside =
    ((split cores block words core place a_core a_word here).below inside, home_back cores block core place a_word here, place_back cores block core place a_word here)

pub place_fits : (cores block at : ℕ) → place_of cores block at ≤ at
place_fits cores block at =
    let fewer : at / (block * cores) ≤ at / block = subst (λ (n : ℕ). n ≤ at / block) (div-div-eq-div-mul at block cores) (div-le_self (at / block) cores) in
    omega (arith, mul-le-mul_right block fewer, div-add-mod' at block)

pub linear_fits : (cores block words core place : ℕ) → IsLayout cores block words → core < cores → place < share_of cores block words core
    → linear_of cores block core place < words
linear_fits cores block words core place layout here inside = (split cores block words core place layout.some_cores layout.some_block here).below inside

pub ruleset dealt = (back, apart, held, addressed)
