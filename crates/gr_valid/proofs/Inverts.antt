-- What a step tells: the task is there, in its mode, and the tests hold.
use Rattle.std.proofs.Common.{◌≡◌, ◌≢◌, Bool, true, false, Option, Some, None, refl}
use Rattle.std.specs.Prelude.{if◌then◌else◌, is_none}
use Rattle.std.specs.Option.{option_and_then}
use Rattle.gr_lang.specs.States.{Mode, going, at_loop, ended, State, is_going, is_at_loop}
use Rattle.gr_lang.specs.Steps.{when}

pub by_found : {A : Type 0} (o : Option A) (f : A → Option State) (T : State) → option_and_then f o ≡ Some T → (x : A) × (o ≡ Some x) × (f x ≡ Some T)
by_found None f T h = cc
by_found (Some x) f T h = (x, refl, h)

pub by_going : (m : Mode) (o : Option State) (T : State) → (if is_going m then o else None) ≡ Some T → (m ≡ going) × (o ≡ Some T)
by_going going o T h = (refl, h)
by_going _ o T h = cc

pub by_loop : (m : Mode) (o : Option State) (T : State) → (if is_at_loop m then o else None) ≡ Some T → (m ≡ at_loop) × (o ≡ Some T)
by_loop at_loop o T h = (refl, h)
by_loop _ o T h = cc

pub tells_when : (b : Bool) (S T : State) → when b S ≡ Some T → (b ≡ true) × (S ≡ T)
tells_when true S T h = let k : S ≡ T = cc in (refl, k)
tells_when false S T h = cc

pub going_works : (m : Mode) → m ≡ going → m ≢ ended
going_works m e k = cc

pub loop_works : (m : Mode) → m ≡ at_loop → m ≢ ended
loop_works m e k = cc

pub is_new : {A : Type 0} (o : Option A) → is_none o ≡ true → o ≡ None
is_new None h = refl
is_new (Some x) h = cc
