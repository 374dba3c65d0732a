-- Lists without the items of some keys, in the order R of the keys.
use Rattle.std.specs.Prelude.{Bool, true, List, [], ◌∷◌, filter, is_none}
use Rattle.std.specs.declared.cmp.Ordering.{Ordering}
use Rattle.mesh_list.specs.Keyed.{found, ascends}

-- a key by itself
abbrev pub itself : {K : Type 0} → K → K
itself k = k

-- whether the key of an item is none of these
abbrev pub stays : {A K : Type 0} → (K → K → Ordering) → (A → K) → List K → A → Bool
stays R key keys x = is_none (found R itself (key x) keys)

-- the items whose keys are none of these
abbrev pub outside : {A K : Type 0} → (K → K → Ordering) → (A → K) → List K → List A → List A
outside R key keys list = filter (stays R key keys) list

-- a list whose items may be left to go later, where some are, ascends
abbrev pub may_lose : {A K : Type 0} → (K → K → Ordering) → (A → K) → List K → List A → Bool
may_lose R key [] list = true
may_lose R key (k ∷ ks) list = ascends R key list
