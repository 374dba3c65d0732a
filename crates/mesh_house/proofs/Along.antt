-- What holds of each world along a run.
use Rattle.std.proofs.Common.{◌≡◌, ℕ, List, [], ◌∷◌, ◌++◌, Some, sym, ap, append_assoc, ◌∙◌, subst}
use Rattle.std.specs.Option.{ForSome}
use Rattle.mesh_house.specs.declared.world.World.{World}
use Rattle.mesh_house.specs.declared.world.Change.{Change}
use Rattle.mesh_house.specs.Step.{step, run}
use Rattle.mesh_house.specs.House.{Told}
use Rattle.mesh_house.specs.Runs.{IsPrefixRun, Ran, Stopped, Along}

module _ (P : World → Type 0) where
  pub along_front : (w : World) (made rest : List Change) → Along P w (made ++ rest) → P (run w made)
  along_front w [] [] all = all
  along_front w [] (c ∷ rest) all = all.0
  along_front w (c ∷ made) rest all = along_front (step w c) made rest all.1

  pub along_last : (w : World) (list : List Change) → Along P w list → P (run w list)
  along_last w [] all = all
  along_last w (c ∷ cs) all = along_last (step w c) cs all.1

  pub along_append : (w : World) (xs ys : List Change) → Along P w xs → Along P (run w xs) ys → Along P w (xs ++ ys)
  along_append w [] ys front back = back
  along_append w (x ∷ xs) ys front back = (front.0, along_append (step w x) xs ys front.1 back)

  pub ran_along : (list : World → List Change) (a b : Told) (w : World) → Ran list a b → a.world ≡ Some w → Along P w (list w) → ForSome b.world P
  ran_along list a b w ran is all = λ v v_is.
      let same : run w (list w) ≡ v = let e : Some (run w (list w)) ≡ Some v = sym (ran.told w is).world ∙ v_is in cc in
      subst P same (along_last w (list w) all)

  pub stopped_along : (list : World → List Change) (a b : Told) (w : World) → Stopped list a b → a.world ≡ Some w → Along P w (list w) → ForSome b.world P
  stopped_along list a b w stopped is all = λ v v_is.
      let s = stopped.told w is in
      let same : run w s.made ≡ v = let e : Some (run w s.made) ≡ Some v = sym s.world ∙ v_is in cc in
      subst P same (along_front w s.made s.rest (subst (Along P w) s.parts all))

  -- so it is behind the changes that are sure
  pub sure_along : (list : List Change) (w : World) (before : ℕ) (new : Told) (s : IsPrefixRun list w before new) → Along P w list → P (run w s.sure)
  sure_along list w before new s all =
      let parts : list ≡ s.sure ++ (s.tail ++ s.rest) = s.parts ∙ ap (λ (l : List Change). l ++ s.rest) s.cut ∙ append_assoc s.sure s.tail s.rest in
      along_front w s.sure (s.tail ++ s.rest) (subst (Along P w) parts all)
