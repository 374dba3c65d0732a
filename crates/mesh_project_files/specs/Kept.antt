-- What every model's file that is read keeps.
use Rattle.std.specs.Prelude.{◌≡◌, Bool, true}
use Rattle.std.specs.Option.{ForSome, is_some}
use Rattle.std.specs.declared.option.Option.{Option}
use Rattle.mesh_base_values.specs.Crons.{is_cron}
use Rattle.mesh_base_values.specs.declared.values.Seed.{Seed}
use Rattle.mesh_base.specs.rules.Seen.{are_distinct}
use Rattle.mesh_model_statement.specs.declared.model.model.ModelText.{ModelText}
use Rattle.mesh_model.specs.Complete.{is_complete}
use Rattle.mesh_model.specs.ModelTexts.{is_seed_kind}
use Rattle.mesh_project_files.specs.declared.project.ModelFile.{ModelFile}

-- A seed is there where one is named, and no two of its columns have one name.
pub record IsSeedWhere (named : Bool) (seed : Option Seed) : Type 0 where
  pub there : is_some seed ≡ named
  pub distinct : ForSome seed (λ (s : Seed). are_distinct s.columns ≡ true)

-- A model's file says this, and has the seed that it names.
pub record HasItsSeed (said : ModelText) (file : ModelFile) : Type 0 where
  pub text : file.text ≡ said
  pub cron : is_cron said.cron ≡ true
  pub seed : IsSeedWhere (is_some said.path) file.seed

-- A model's file as reading leaves it: what it says is complete, its cron is one, and a seed is there exactly for a
-- SEED.
pub record IsReadFile (file : ModelFile) : Type 0 where
  pub complete : is_complete file.text ≡ true
  pub cron : is_cron file.text.cron ≡ true
  pub seed : IsSeedWhere (is_seed_kind file.text.kind) file.seed
