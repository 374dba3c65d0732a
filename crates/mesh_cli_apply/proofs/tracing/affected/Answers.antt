use Rattle.std.proofs.Common.{◌≡◌, ◌∙◌, Err, List, sym, ap, subst}
use Rattle.mesh_base_values.specs.declared.values.Column.{Column}
use Rattle.std.specs.declared.option.Option.{Option}
use Rattle.mesh_base.specs.declared.snapshots.Node.{Node}
use Rattle.mesh_spec_model.specs.Closures.{closures}
use Rattle.mesh_cli_apply.specs.Tracing.{Finds, ImpactOf, IsImpactOf, found, model_columns, or_declared, traces_text}
use Rattle.mesh_cli_apply.proofs.Traced.{listed_then, not_found_then, wanting}
use Rattle.mesh_cli_apply.proofs.tracing.affected.Goals as goal

pub returns-in_err-columns : goal.returns-in_err-columns
returns-in_err-columns c = wanting (ImpactOf c.args.sources.now c.args.project.now.nodes c.args.name.now c.args.column.now) c.from_residual.result c.from_residual.ensures.1

pub returns-in_err-there : goal.returns-in_err-there
returns-in_err-there c = wanting (ImpactOf c.args.sources.now c.args.project.now.nodes c.args.name.now c.args.column.now) c.from_residual-in_err-there.result c.from_residual-in_err-there.ensures.1

pub returns-in_err-found : goal.returns-in_err-found
returns-in_err-found c =
    let nodes = c.args.project.now.nodes in
    let name = c.args.name.now in
    let column = c.args.column.now in
    let sources = c.args.sources.now in
    let columns_are : c.in_ok-columns.columns ≡ model_columns nodes name = c.in_ok-columns.ensures ∙ ap (λ (ns : List Node). model_columns ns name) c.as_slice.ensures.nodes in
    let there_are : c.in_ok-there.there ≡ or_declared (model_columns nodes name) sources name = c.in_ok-there.ensures ∙ ap (λ (cs : Option (List Column)). or_declared cs sources name) columns_are in
    not_found_then (IsImpactOf (closures nodes) name column) name column (or_declared (model_columns nodes name) sources name) c.in_err-found.field-0.0 c.from_residual-in_err-found.result c.from_residual-in_err-found.ensures.1
    (subst (λ (cs : Option (List Column)). Finds (Err c.in_err-found.field-0.0) (found name column cs)) there_are c.in_err-found.ensures)

pub returns-in_err-traces : goal.returns-in_err-traces
returns-in_err-traces c = wanting (ImpactOf c.args.sources.now c.args.project.now.nodes c.args.name.now c.args.column.now) c.from_residual-in_err-traces.result c.from_residual-in_err-traces.ensures.1

pub returns-in_err-text : goal.returns-in_err-text
returns-in_err-text c = wanting (ImpactOf c.args.sources.now c.args.project.now.nodes c.args.name.now c.args.column.now) c.from_residual-in_err-text.result c.from_residual-in_err-text.ensures.1

pub returns : goal.returns
returns c =
    let nodes = c.args.project.now.nodes in
    let name = c.args.name.now in
    let column = c.args.column.now in
    let sources = c.args.sources.now in
    let columns_are : c.in_ok-columns.columns ≡ model_columns nodes name = c.in_ok-columns.ensures ∙ ap (λ (ns : List Node). model_columns ns name) c.as_slice.ensures.nodes in
    let there_are : c.in_ok-there.there ≡ or_declared (model_columns nodes name) sources name = c.in_ok-there.ensures ∙ ap (λ (cs : Option (List Column)). or_declared cs sources name) columns_are in
    listed_then (IsImpactOf (closures nodes) name column) name column (or_declared (model_columns nodes name) sources name) c.in_ok-traces.traces c.in_ok-text.text (ap (found name column) (sym there_are) ∙ c.in_ok-found.ensures)
    (record { ascending = c.in_ok-traces.ensures.ascending; exactly = c.in_ok-traces.ensures.exactly }) (c.in_ok-text.ensures ∙ ap traces_text c.as_slice-2.ensures)
