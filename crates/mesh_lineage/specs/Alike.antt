-- Lists that have the same items, in whatever order and however often.
use Rattle.std.specs.Prelude.{List, ◌↔◌}
use Rattle.std.specs.List.{Contains}

abbrev pub IsAlike : {X : Type 0} → List X → List X → Type 0
IsAlike {X} xs ys = (x : X) → Contains xs x ↔ Contains ys x
