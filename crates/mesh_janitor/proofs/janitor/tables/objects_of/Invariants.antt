use Rattle.std.proofs.Common.{◌≡◌, take, map}
use Rattle.mesh_house_book.specs.Changes.{version_object}
use Rattle.mesh_janitor.proofs.janitor.tables.objects_of.Given as goal

abbrev pub invariant-loop-version : goal.invariant-loop-version
invariant-loop-version l = l.names ≡ map version_object (take l.version-index l.versions)
