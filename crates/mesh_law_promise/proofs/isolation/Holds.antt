-- What holds at each exit of a list of changes.
use Rattle.std.proofs.Common.{List, [], ◌∷◌, ◌++◌}
use Rattle.mesh_law_query.proofs.Lists.{Each}
use Rattle.mesh_house.specs.Step.{run, step}
use Rattle.mesh_house.specs.declared.world.Change.{Change}
use Rattle.mesh_house.specs.declared.world.World.{World}

-- of a world before the first change, between any two and after the last
abbrev pub HoldsAlong : (World → Type 0) → World → List Change → Type 0
HoldsAlong K w [] = K w
HoldsAlong K w (c ∷ cs) = K w × HoldsAlong K (step w c) cs

module _ (K : World → Type 0) where
  pub holds_begin : (w : World) (list : List Change) → HoldsAlong K w list → K w
  holds_begin w [] h = h
  holds_begin w (c ∷ cs) h = h.0

  pub holds_end : (w : World) (list : List Change) → HoldsAlong K w list → K (run w list)
  holds_end w [] h = h
  holds_end w (c ∷ cs) h = holds_end (step w c) cs h.1

  pub holds_front : (w : World) (made rest : List Change) → HoldsAlong K w (made ++ rest) → K (run w made)
  holds_front w [] rest h = holds_begin w rest h
  holds_front w (c ∷ cs) rest h = holds_front (step w c) cs rest h.1

  pub holds_append : (w : World) (list more : List Change) → HoldsAlong K w list → HoldsAlong K (run w list) more → HoldsAlong K w (list ++ more)
  holds_append w [] more h k = k
  holds_append w (c ∷ cs) more h k = (h.0, holds_append (step w c) cs more h.1 k)

  -- along changes each of which keeps it
  pub holds_each : (P : Change → Type 0) → ((w : World) (c : Change) → P c → K w → K (step w c)) → (w : World) (list : List Change) → Each P list → K w → HoldsAlong K w list
  holds_each P keeps w [] each h = h
  holds_each P keeps w (c ∷ cs) each h = (h, holds_each P keeps (step w c) cs each.1 (keeps w c each.0 h))
