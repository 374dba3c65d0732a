use Rattle.std.proofs.Common.{false, refl}
use Rattle.mesh_io.specs.Held.{folder_told}
use Rattle.mesh_cli_look.specs.upkeep.Ingesting.{IngestGives, IngestMakes}
use Rattle.mesh_cli.specs.demo.Demos.{ProdApplied, here, nothing, orders_name, orders_path}
use Rattle.mesh_cli.proofs.demo.Playing.{at_value, ended_by, still, went_by}
use Rattle.mesh_cli.proofs.demo.play.loaded.Goals as goal

pub returns-in-Err : goal.returns-in-Err
returns-in-Err g c = ended_by (IngestMakes (folder_told c.args.folder.now).files here orders_name orders_path false) (IngestGives (folder_told c.args.folder.now).files here orders_name orders_path false) nothing (ProdApplied (folder_told c.args.folder.now).files) c.args.house.now c.ingest.new.house c.look.ensures c.in-Err.refusal _
    (at_value (λ d. IngestMakes (folder_told c.args.folder.now).files d orders_name orders_path false) (λ d. IngestGives (folder_told c.args.folder.now).files d orders_name orders_path false) _ _ _ _ here c.in_ok-dir.ensures
    (at_value (λ n. IngestMakes (folder_told c.args.folder.now).files c.in_ok-dir.dir n orders_path false) (λ n. IngestGives (folder_told c.args.folder.now).files c.in_ok-dir.dir n orders_path false) _ _ _ _ orders_name c.in_ok-source.ensures
    (at_value (λ p. IngestMakes (folder_told c.args.folder.now).files c.in_ok-dir.dir c.in_ok-source.source p false) (λ p. IngestGives (folder_told c.args.folder.now).files c.in_ok-dir.dir c.in_ok-source.source p false) _ _ _ _ orders_path c.in_ok-file.ensures c.in-Err.ensures.answers))) c.ended.ensures

pub returns : goal.returns
returns g c = went_by (IngestMakes (folder_told c.args.folder.now).files here orders_name orders_path false) (IngestGives (folder_told c.args.folder.now).files here orders_name orders_path false) nothing (ProdApplied (folder_told c.args.folder.now).files) c.args.house.now c.ingest.new.house c.look.ensures _ _ (λ t. refl)
    (at_value (λ d. IngestMakes (folder_told c.args.folder.now).files d orders_name orders_path false) (λ d. IngestGives (folder_told c.args.folder.now).files d orders_name orders_path false) _ _ _ _ here c.in_ok-dir.ensures
    (at_value (λ n. IngestMakes (folder_told c.args.folder.now).files c.in_ok-dir.dir n orders_path false) (λ n. IngestGives (folder_told c.args.folder.now).files c.in_ok-dir.dir n orders_path false) _ _ _ _ orders_name c.in_ok-source.ensures
    (at_value (λ p. IngestMakes (folder_told c.args.folder.now).files c.in_ok-dir.dir c.in_ok-source.source p false) (λ p. IngestGives (folder_told c.args.folder.now).files c.in_ok-dir.dir c.in_ok-source.source p false) _ _ _ _ orders_path c.in_ok-file.ensures c.in-Ok.ensures.answers)))
    (still ProdApplied _ _ _ _ (c.in-Ok.ensures.folder).files c.prod_applied.ensures)
