use Rattle.std.proofs.Common.{subst}
use Rattle.std.proofs.lemmas.List.Sorted.{IsPermutation-map}
use Rattle.mesh_lineage.specs.Alike.{IsAlike}
use Rattle.mesh_lineage.specs.Named.{place_of, places_of}
use Rattle.mesh_lineage.proofs.Alike.{permuted_alike}
use Rattle.mesh_lineage.proofs.named.Named.sort.Goals as goal

pub returns : goal.returns
returns c =
    let old = c.self.inside.list.items in
    let new = c.sort_unstable.new.self.items in
    subst (λ l. IsAlike (places_of new) l) c.self.view_is
    (permuted_alike (places_of old) (places_of new) (IsPermutation-map place_of old new c.sort_unstable.ensures.permutation))
