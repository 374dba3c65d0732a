-- How units stand, one unit more.
use Rattle.std.proofs.Common.{◌≡◌, ℕ, ◌+◌, Bool, cond, List, [], ◌∷◌, ◌++◌, map, sym, ap, ◌∙◌, arith, append_assoc}
use Rattle.std.specs.List.{filter, range_with_len}
use Rattle.std.proofs.lemmas.List.{map-append}
use Rattle.std.proofs.lemmas.List.FromFn.{filter_of_map_range_with_len_more, map-range_with_len_more}
use Rattle.mesh_base_values.specs.declared.times.Bounds.{Bounds}
use Rattle.mesh_base_values.specs.declared.times.Schedule.{Schedule}
use Rattle.mesh_time.specs.Ranges.{unit_at}

pub walked_more : {X : Type 0} (f : Bounds → X) (s : Schedule) (k : ℕ) (made : List X) (x : X) → made ≡ map f (map (unit_at s) (range_with_len 0 k)) → x ≡ f (unit_at s k)
    → made ++ x ∷ [] ≡ map f (map (unit_at s) (range_with_len 0 (k + 1)))
walked_more f s k made x e g =
    (λ j. e j ++ g j ∷ [])
    ∙ sym (ap (map f) (map-range_with_len_more (unit_at s) 0 k k (omega arith)) ∙ map-append f (map (unit_at s) (range_with_len 0 k)) (unit_at s k ∷ []))

-- what is made of the units that pass a test, one unit more
pub passed_more : {X : Type 0} (f : Bounds → X) (test : Bounds → Bool) (s : Schedule) (k : ℕ) (old made : List X) (u : Bounds) (b : Bool) → made ≡ old ++ map f (filter test (map (unit_at s) (range_with_len 0 k))) → u ≡ unit_at s k → b ≡ test (unit_at s k)
    → made ++ map f (cond b (u ∷ []) []) ≡ old ++ map f (filter test (map (unit_at s) (range_with_len 0 (k + 1))))
passed_more f test s k old made u b e g h =
    (λ j. e j ++ map f (cond (h j) (g j ∷ []) []))
    ∙ append_assoc old (map f (filter test (map (unit_at s) (range_with_len 0 k)))) (map f (cond (test (unit_at s k)) (unit_at s k ∷ []) []))
    ∙ ap (λ l. old ++ l) (sym (ap (map f) (filter_of_map_range_with_len_more test (unit_at s) 0 k k (omega arith)) ∙ map-append f (filter test (map (unit_at s) (range_with_len 0 k))) (cond (test (unit_at s k)) (unit_at s k ∷ []) [])))
