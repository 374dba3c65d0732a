-- A model's file that was read has what its definition asks for.
use Rattle.std.proofs.Common.{◌≡◌, not, List, [], ◌∷◌, refl, ap, ◌∙◌}
use Rattle.std.proofs.lemmas.List.Elements.{recursion_from_All}
use Rattle.std.specs.List.{All, AllByRecursion}
use Rattle.mesh_base_values.specs.declared.kinds.Kind.{Kind}
use Rattle.mesh_base_values.specs.declared.kinds.Kind.TheVariants.{Full, View, Seed, Incremental}
use Rattle.mesh_model.specs.ModelTexts.{is_seed_kind}
use Rattle.mesh_resolve.specs.Owns.{is_seed}
use Rattle.mesh_project_files.specs.declared.project.ModelFile.{ModelFile}
use Rattle.mesh_project_files.specs.Kept.{IsReadFile}
use Rattle.mesh_project_files.proofs.Kept.{query_kept, schema_kept, start_kept}
use Rattle.mesh_project.specs.nodes.Nodes.{IsWhole}

same_kind : (k : Kind) → is_seed_kind k ≡ is_seed k
same_kind Full = refl
same_kind View = refl
same_kind Seed = refl
same_kind (Incremental time lookback) = refl

whole_file : (f : ModelFile) → IsReadFile f → IsWhole f
whole_file f h = record {
  schema = schema_kept f h;
  cron = h.cron;
  start = start_kept f h;
  written = query_kept f h ∙ ap not (same_kind f.text.kind);
  seeded = h.seed.there ∙ same_kind f.text.kind;
  distinct = h.seed.distinct;
}

each_whole : (fs : List ModelFile) → AllByRecursion IsReadFile fs → AllByRecursion IsWhole fs
each_whole [] all = tt
each_whole (f ∷ fs) all = (whole_file f all.0, each_whole fs all.1)

pub all_whole : (fs : List ModelFile) → All IsReadFile fs → AllByRecursion IsWhole fs
all_whole fs all = each_whole fs (recursion_from_All IsReadFile fs all)
