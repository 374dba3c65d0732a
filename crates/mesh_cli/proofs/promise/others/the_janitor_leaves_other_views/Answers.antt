use Rattle.mesh_cli.proofs.promise.Beside.{janitor_left}
use Rattle.mesh_cli.proofs.promise.others.the_janitor_leaves_other_views.Goals as goal

pub returns : goal.returns
returns c dir moment old new answer commanded x w told sound e known free = janitor_left x w sound e known dir moment old new answer commanded told free
