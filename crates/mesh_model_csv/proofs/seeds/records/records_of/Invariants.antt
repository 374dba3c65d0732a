use Rattle.std.proofs.Common.{◌≡◌, ◌<◌, ℕ, List, Some}
use Rattle.csv.specs.Reading.{Reached, Ready, default_config, source_of, strip_bom}
use Rattle.csv.specs.declared.parser.State.TheVariants as st
use Rattle.csv.specs.declared.reader.Trim.TheVariants as trim
use Rattle.mesh_model_csv.proofs.seeds.records.records_of.Given as goal

abbrev pub invariant-loop-found : goal.invariant-loop-found
invariant-loop-found l = (l.found-iterator.rdr.trim ≡ trim.None) × Ready l.found-iterator.rdr × (0 < l.found-iterator.left) × (l.found-iterator.rdr.config ≡ default_config)
    × (y : List ℕ) × (source_of (λ s. Some s.now) l.found-iterator.rdr ≡ Some y)
    × Reached default_config st.StartRecord (strip_bom l.fn.text) l.list.items l.found-iterator.rdr.state y
