use Rattle.std.proofs.Common.{◌≡◌, ◌∙◌, ap, subst}
use Rattle.mesh_project_files.specs.Loading.{Gives, in_file}
use Rattle.mesh_resolve.specs.Owns.{own}
use Rattle.mesh_project.specs.nodes.Nodes.{known_to, parents_of}
use Rattle.mesh_project.proofs.nodes.Tables.{named_suffice}
use Rattle.mesh_project.proofs.nodes.nodes.own_over.Goals as goal

pub returns-clause-gives : goal.returns-clause-gives
returns-clause-gives c =
    let f = c.args.file.now in
    let sources = c.args.known.now.sources in
    let nodes = c.args.earlier.now in
    let known : c.learn.new.known ≡ known_to sources nodes (parents_of nodes f) f.text.kind =
    c.in_ok-learn.ensures ∙ ap (λ ns. known_to sources ns c.args.places.now f.text.kind) c.as_slice.ensures ∙ ap (λ ps. known_to sources nodes ps f.text.kind) c.requires.named in
    subst (λ r. Gives c.own_in_file.result (in_file f.text.file r)) (ap (λ k. own f.text f.seed k) known ∙ named_suffice sources nodes f) c.own_in_file.ensures.gives
