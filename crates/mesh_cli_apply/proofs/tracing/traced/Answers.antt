use Rattle.std.proofs.Common.{◌≡◌, ◌∙◌, Err, List, sym, ap, subst}
use Rattle.mesh_base_values.specs.declared.values.Column.{Column}
use Rattle.std.specs.declared.option.Option.{Option}
use Rattle.mesh_base.specs.declared.snapshots.Node.{Node}
use Rattle.mesh_spec_model.specs.Closures.{closures}
use Rattle.mesh_cli_apply.specs.Tracing.{Finds, IsTraceOf, TraceOf, found, model_columns, traces_text}
use Rattle.mesh_cli_apply.proofs.Traced.{found_there, listed_then, not_found_then, wanting}
use Rattle.mesh_cli_apply.proofs.tracing.traced.Goals as goal

pub returns-in_err-columns : goal.returns-in_err-columns
returns-in_err-columns c = wanting (TraceOf c.args.project.now.nodes c.args.model.now c.args.column.now) c.from_residual.result c.from_residual.ensures.1

pub returns-in_err-found : goal.returns-in_err-found
returns-in_err-found c =
    let nodes = c.args.project.now.nodes in
    let model = c.args.model.now in
    let column = c.args.column.now in
    let columns_are : c.in_ok-columns.columns ≡ model_columns nodes model = c.in_ok-columns.ensures ∙ ap (λ (ns : List Node). model_columns ns model) c.as_slice.ensures.nodes in
    not_found_then (IsTraceOf (closures nodes) model column) model column (model_columns nodes model) c.in_err-found.field-0.0 c.from_residual-in_err-found.result c.from_residual-in_err-found.ensures.1
    (subst (λ (cs : Option (List Column)). Finds (Err c.in_err-found.field-0.0) (found model column cs)) columns_are c.in_err-found.ensures)

pub trace-requires : goal.trace-requires
trace-requires c =
    let nodes = c.args.project.now.nodes in
    let model = c.args.model.now in
    let column = c.args.column.now in
    let columns_are : c.in_ok-columns.columns ≡ model_columns nodes model = c.in_ok-columns.ensures ∙ ap (λ (ns : List Node). model_columns ns model) c.as_slice.ensures.nodes in
    found_there nodes model column (ap (found model column) (sym columns_are) ∙ c.in_ok-found.ensures)

pub returns-in_err-traces : goal.returns-in_err-traces
returns-in_err-traces c = wanting (TraceOf c.args.project.now.nodes c.args.model.now c.args.column.now) c.from_residual-in_err-traces.result c.from_residual-in_err-traces.ensures.1

pub returns-in_err-text : goal.returns-in_err-text
returns-in_err-text c = wanting (TraceOf c.args.project.now.nodes c.args.model.now c.args.column.now) c.from_residual-in_err-text.result c.from_residual-in_err-text.ensures.1

pub returns : goal.returns
returns c =
    let nodes = c.args.project.now.nodes in
    let model = c.args.model.now in
    let column = c.args.column.now in
    let columns_are : c.in_ok-columns.columns ≡ model_columns nodes model = c.in_ok-columns.ensures ∙ ap (λ (ns : List Node). model_columns ns model) c.as_slice.ensures.nodes in
    listed_then (IsTraceOf (closures nodes) model column) model column (model_columns nodes model) c.in_ok-traces.traces c.in_ok-text.text (ap (found model column) (sym columns_are) ∙ c.in_ok-found.ensures)
    (record { ascending = c.in_ok-traces.ensures.ascending; exactly = c.in_ok-traces.ensures.exactly }) (c.in_ok-text.ensures ∙ ap traces_text c.as_slice-2.ensures)
