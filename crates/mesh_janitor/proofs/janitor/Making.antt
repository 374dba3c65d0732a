-- What a call that makes a list leaves of a house, as the janitor tells it.
use Rattle.std.proofs.Common.{◌≡◌, ℤ, subst, List, [], Ok, Err, Result, refl, arith}
use Rattle.std.specs.Result.{IsErrAnd}
use Rattle.mesh_house.specs.declared.world.Change.{Change}
use Rattle.mesh_house.specs.declared.house.WhFail.{WhFail}
use Rattle.mesh_house.specs.declared.house.WhFail.TheVariants.{Failed, Memory}
use Rattle.mesh_house.specs.House.{Told}
use Rattle.mesh_house.specs.Runs.{Makes, Stopped}
use Rattle.mesh_house.proofs.Runs.{makes_ok, memory_then, ran_nothing}
use Rattle.mesh_janitor.specs.declared.janitor.faults.SweepFault.{SweepFault}
use Rattle.mesh_janitor.specs.declared.janitor.faults.SweepFault.TheVariants.{Moment, EnvUnknown}
use Rattle.mesh_janitor.specs.janitor.Sweeping.{Sweeps, as_fault}

pub sweeps_ok : {T U : Type 0} (list : List Change) (a b : Told) (x : T) (y : U) → Makes (λ w. list) a b (Ok x) → Sweeps list a b (Ok y)
sweeps_ok list a b x y m = record { ok = m.ok; err = tt; failed = λ is. cc }

pub sweeps_err : {T U : Type 0} (list : List Change) (a b : Told) (e : WhFail) → Makes {T = T} (λ w. list) a b (Err e) → Sweeps {T = U} list a b (Err (as_fault e))
sweeps_err list a b Failed m = record { ok = tt; err = m.err; failed = λ is. m.failed refl }
sweeps_err list a b Memory m = record { ok = tt; err = m.err; failed = λ is. cc }

-- the same of a list at a moment, which is passed on
pub swept_ok : {T U : Type 0} (list : ℤ → List Change) (s t : ℤ) (a b : Told) (x : T) (y : U) → s ≡ t → Makes (λ w. list s) a b (Ok x) → Sweeps (list t) a b (Ok y)
swept_ok {U = U} list s t a b x y same m = subst (λ (k : ℤ). Sweeps {T = U} (list k) a b (Ok y)) same (sweeps_ok (list s) a b x y m)

pub swept_err : {T U : Type 0} (list : ℤ → List Change) (s t : ℤ) (a b : Told) (e : WhFail) (f : SweepFault) → s ≡ t → f ≡ as_fault e → Makes {T = T} (λ w. list s) a b (Err e) → Sweeps {T = U} (list t) a b (Err f)
swept_err {T = T} {U = U} list s t a b e f same is m = rw is (subst (λ (k : ℤ). Sweeps {T = U} (list k) a b (Err (as_fault e))) same (sweeps_err {T = T} (list s) a b e m))

not_begun : (list : List Change) (a : Told) → Stopped (λ w. list) a a
not_begun list a = record {
  faults = omega arith;
  told = λ w is. record { made = []; rest = list; parts = refl; world = is; sure = []; tail = []; cut = refl; more = 0; one = omega arith; next = omega arith; calls = omega arith };
}

-- where nothing was called for
pub sweeps_behind : {T : Type 0} (list : List Change) (a : Told) (given kept : ℤ) → Sweeps {T = T} list a a (Err (Moment given kept))
sweeps_behind list a given kept = record { ok = tt; err = not_begun list a; failed = λ is. cc }

pub sweeps_unknown : {T : Type 0} (list : List Change) (a : Told) → Sweeps {T = T} list a a (Err EnvUnknown)
sweeps_unknown list a = record { ok = tt; err = not_begun list a; failed = λ is. cc }

-- no failure of a warehouse is one of the refusals
pub no_moment : (e : WhFail) (given kept : ℤ) → as_fault e ≡ Moment given kept → ⊥
no_moment Failed given kept h = absurd (cc)
no_moment Memory given kept h = absurd (cc)

pub no_unknown : (e : WhFail) → as_fault e ≡ EnvUnknown → ⊥
no_unknown Failed h = absurd (cc)
no_unknown Memory h = absurd (cc)

-- memory ran out before the first change
pub wanting : {T : Type 0} (list : List Change) (a : Told) (r : Result T WhFail) → IsErrAnd r (λ y. y ≡ Memory) → Makes (λ w. list) a a r
wanting list a r is = memory_then (λ w. []) (λ w. list) (λ w. list) a a r (ran_nothing a) is (λ w told. refl)

-- a list that was computed was made, and something else is answered
pub list_made : {T U : Type 0} (computed list : List Change) (a b : Told) (x : T) (y : U) → computed ≡ list → Makes (λ w. computed) a b (Ok x) → Makes (λ w. list) a b (Ok y)
list_made {U = U} computed list a b x y is made = subst (λ (l : List Change). Makes {T = U} (λ w. l) a b (Ok y)) is (makes_ok (λ w. computed) a b y made.ok)
