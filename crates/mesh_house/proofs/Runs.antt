-- Calls that make changes, one after another.
use Rattle.std.proofs.Common.{◌≡◌, ⊎_elim, IsErrOf, ◌≤◌, List, [], ◌∷◌, ◌++◌, length, Some, Ok, Err, Result, refl, sym, ◌∙◌, ap, arith, length-append, append_assoc}
use Rattle.std.specs.Option.{option_map, ForSome}
use Rattle.std.specs.Result.{IsErrAnd}
use Rattle.std.proofs.lemmas.List.{append-nil}
use Rattle.mesh_list.specs.Counts.{Rose}
use Rattle.mesh_house.specs.declared.world.World.{World}
use Rattle.mesh_house.specs.declared.world.Change.{Change}
use Rattle.mesh_house.specs.declared.house.WhFail.{WhFail}
use Rattle.mesh_house.specs.declared.house.WhFail.TheVariants.{Failed, Memory}
use Rattle.mesh_house.specs.Step.{step, run}
use Rattle.mesh_house.specs.House.{Told, Changes, Reads}
use Rattle.mesh_house.specs.Runs.{Ran, Stopped, Makes}

pub run-append : (w : World) (xs ys : List Change) → run w (xs ++ ys) ≡ run (run w xs) ys
run-append w [] ys = refl
run-append w (x ∷ xs) ys = run-append (step w x) xs ys

pub ran_then : (f g h : World → List Change) (a b c : Told) → Ran f a b → Ran g b c → ForSome a.world (λ w. h w ≡ f w ++ g (run w (f w))) → Ran h a c
ran_then f g h a b c p q e = record {
  faults = omega (arith, p.faults, q.faults);
  told = λ w is.
      let first = p.told w is in
      let second = q.told (run w (f w)) first.world in
      record {
        world = second.world ∙ ap Some (sym (run-append w (f w) (g (run w (f w)))) ∙ ap (run w) (sym (e w is)));
        calls = omega (arith, second.calls, first.calls, ap length (e w is), length-append (f w) (g (run w (f w))));
      };
}

pub stopped_then : (f g h rest : World → List Change) (a b c : Told) → Ran f a b → Stopped g b c → ForSome a.world (λ w. h w ≡ f w ++ (g (run w (f w)) ++ rest w)) → Stopped h a c
stopped_then f g h rest a b c p q e = record {
  faults = omega (arith, p.faults, q.faults);
  told = λ w is.
      let first = p.told w is in
      let second = q.told (run w (f w)) first.world in
      record {
        made = f w ++ second.made;
        rest = second.rest ++ rest w;
        parts = e w is ∙ ap (λ (l : List Change). f w ++ (l ++ rest w)) second.parts ∙ regroup (f w) second.made second.rest (rest w);
        world = second.world ∙ ap Some (sym (run-append w (f w) second.made));
        sure = f w ++ second.sure;
        tail = second.tail;
        cut = ap (λ (l : List Change). f w ++ l) second.cut ∙ sym (append_assoc (f w) second.sure second.tail);
        more = second.more;
        one = second.one;
        next = omega (arith, second.next, length-append second.rest (rest w));
        calls = omega (arith, second.calls, first.calls, length-append (f w) second.made);
      };
}
  where
    regroup : (x y z v : List Change) → x ++ ((y ++ z) ++ v) ≡ (x ++ y) ++ (z ++ v)
    regroup x y z v = simp append_assoc

-- nothing was called for but to read
pub ran_none : (a b : Told) → b.world ≡ a.world → b.calls ≡ a.calls → a.faults ≤ b.faults → Ran (λ w. []) a b
ran_none a b same calls faults = record { faults = faults; told = λ w is. record { world = same ∙ is; calls = omega (arith, calls) } }

pub stopped_none : (a b : Told) → b.world ≡ a.world → b.calls ≡ a.calls → a.faults ≤ b.faults → Stopped (λ w. []) a b
stopped_none a b same calls faults = record {
  faults = faults;
  told = λ w is. record { made = []; rest = []; parts = refl; world = same ∙ is; sure = []; tail = []; cut = refl; more = 0; one = omega arith; next = omega arith; calls = omega (arith, calls) };
}

pub ran_nothing : (a : Told) → Ran (λ w. []) a a
ran_nothing a = ran_none a a refl refl (omega arith)

-- one change, by what the house says of the call
pub changed : {T : Type 0} (change : Change) (a b : Told) (x : T) → Changes change a b (Ok x) → Ran (λ w. change ∷ []) a b
changed change a b x h = record {
  faults = h.faults;
  told = λ w is. record { world = h.ok ∙ ap (option_map (λ v. step v change)) is; calls = h.calls };
}

pub change_stopped : {T : Type 0} (change : Change) (a b : Told) (e : WhFail) → Changes {T = T} change a b (Err e) → Stopped (λ w. change ∷ []) a b
change_stopped change a b Memory h = record {
  faults = h.faults;
  told = λ w is. record { made = []; rest = change ∷ []; parts = refl; world = h.memory refl ∙ is; sure = []; tail = []; cut = refl; more = 1; one = omega arith; next = omega arith; calls = h.calls };
}
change_stopped change a b Failed h = record {
  faults = h.faults;
  told = λ w is. ⊎_elim
      (λ no. record { made = []; rest = change ∷ []; parts = refl; world = no ∙ is; sure = []; tail = []; cut = refl; more = 1; one = omega arith; next = omega arith; calls = h.calls })
      (λ yes. record { made = change ∷ []; rest = []; parts = refl; world = yes ∙ ap (option_map (λ v. step v change)) is; sure = []; tail = change ∷ []; cut = refl; more = 0; one = omega arith; next = omega arith; calls = h.calls })
      (h.failed refl).1;
}

pub makes_ok : {T : Type 0} (list : World → List Change) (a b : Told) (x : T) → Ran list a b → Makes list a b (Ok x)
makes_ok list a b x ran = record { ok = ran; err = tt; failed = λ is. cc }

-- the exit of a `?`: a first call made all of its list, and a second one stopped
pub makes_err : {T U : Type 0} (f g h rest : World → List Change) (a b c : Told) (e : WhFail) (r : Result T WhFail) → Ran f a b → Makes {T = U} g b c (Err e) → IsErrAnd r (λ y. y ≡ e) → ForSome a.world (λ w. h w ≡ f w ++ (g (run w (f w)) ++ rest w)) → Makes h a c r
makes_err f g h rest a b c e (Ok x) p q is eq = absurd is
makes_err f g h rest a b c e (Err y) p q is eq = record {
  ok = tt;
  err = stopped_then f g h rest a b c p q.err eq;
  failed = λ y_is. let e_is : Err e ≡ Err Failed = cc in let rose = q.failed e_is in omega (arith, rose, p.faults);
}

pub makes_nothing : {T : Type 0} (a b : Told) (r : Result T WhFail) → b.world ≡ a.world → b.calls ≡ a.calls → a.faults ≤ b.faults → (IsErrOf r Failed → Rose a.faults b.faults) → Makes (λ w. []) a b r
makes_nothing a b (Ok x) same calls faults rose = record { ok = ran_none a b same calls faults; err = tt; failed = rose }
makes_nothing a b (Err e) same calls faults rose = record { ok = tt; err = stopped_none a b same calls faults; failed = rose }

-- the exit of a `?` at a call of the house
pub read_err : {T X : Type 0} (answer : World → X) (a b : Told) (e : WhFail) (r : Result T WhFail) → Reads answer a b (Err e) → IsErrAnd r (λ y. y ≡ e) → Makes (λ w. []) a b r
read_err answer a b e (Ok x) h is = absurd is
read_err answer a b e (Err y) h is = makes_nothing a b (Err y) h.world h.calls h.faults (λ y_is. h.failed (let s : Err e ≡ Err Failed = cc in s))

pub change_err : {T X : Type 0} (change : Change) (a b : Told) (e : WhFail) (r : Result T WhFail) → Changes {T = X} change a b (Err e) → IsErrAnd r (λ y. y ≡ e) → Makes (λ w. change ∷ []) a b r
change_err change a b e (Ok x) h is = absurd is
change_err change a b e (Err y) h is = record {
  ok = tt;
  err = change_stopped change a b e h;
  failed = λ y_is. (h.failed (let s : Err e ≡ Err Failed = cc in s)).0;
}

-- a call of the house whose result is returned as it is
pub change_makes : {T : Type 0} (change : Change) (a b : Told) (r : Result T WhFail) → Changes change a b r → Makes (λ w. change ∷ []) a b r
change_makes change a b (Ok x) h = makes_ok (λ w. change ∷ []) a b x (changed change a b x h)
change_makes change a b (Err e) h = change_err change a b e (Err e) h refl

-- memory ran out before any call
pub memory_err : {T : Type 0} (a : Told) (r : Result T WhFail) → IsErrAnd r (λ y. y ≡ Memory) → Makes (λ w. []) a a r
memory_err a (Ok x) is = absurd is
memory_err a (Err y) is = makes_nothing a a (Err y) refl refl (omega arith) (λ y_is. absurd (let m : y ≡ Memory = is in cc))

-- the last call's result is returned as it is
pub makes_then : {T : Type 0} (f g h : World → List Change) (a b c : Told) (r : Result T WhFail) → Ran f a b → Makes g b c r → ForSome a.world (λ w. h w ≡ f w ++ g (run w (f w))) → Makes h a c r
makes_then f g h a b c (Ok x) p q eq = makes_ok h a c x (ran_then f g h a b c p q.ok eq)
makes_then f g h a b c (Err e) p q eq = makes_err f g h (λ w. []) a b c e (Err e) p q refl (λ w is. eq w is ∙ ap (λ (l : List Change). f w ++ l) (sym (append-nil (g (run w (f w))))))

-- changes were made, and then something was read
pub ran_read : {X : Type 0} (f : World → List Change) (answer : World → X) (a b c : Told) (x : X) → Ran f a b → Reads answer b c (Ok x) → Ran f a c
ran_read f answer a b c x p q = ran_then f (λ w. []) f a b c p (ran_none b c q.world q.calls q.faults) (λ w is. sym (append-nil (f w)))

-- changes were made, and then something couldn't be read
pub read_then : {T X : Type 0} (f h rest : World → List Change) (answer : World → X) (a b c : Told) (e : WhFail) (r : Result T WhFail) → Ran f a b → Reads answer b c (Err e) → IsErrAnd r (λ y. y ≡ e) → ForSome a.world (λ w. h w ≡ f w ++ rest w) → Makes h a c r
read_then {T = T} f h rest answer a b c e r p q is eq = makes_err f (λ w. []) h rest a b c e r p (read_err {T = T} answer b c e (Err e) q refl) is eq

-- changes were made, and then memory ran out
pub memory_then : {T : Type 0} (f h rest : World → List Change) (a b : Told) (r : Result T WhFail) → Ran f a b → IsErrAnd r (λ y. y ≡ Memory) → ForSome a.world (λ w. h w ≡ f w ++ rest w) → Makes h a b r
memory_then {T = T} f h rest a b r p is eq = makes_err f (λ w. []) h rest a b b Memory r p (memory_err {T = T} b (Err Memory) refl) is eq
