use Rattle.std.proofs.Common.{arith, sym, ap, ◌∙◌}
use Rattle.std.proofs.Math.ListN.{set}
use Rattle.std.specs.Ordering.{is_eq}
use Rattle.mesh_list.specs.Keyed.{place_of}
use Rattle.mesh_list.proofs.Standing.{put_over, put_between, put_last}
use Rattle.mesh_base_values.specs.Names.{name_cmp}
use Rattle.mesh_resolve.specs.Relations.{decl_name}
use Rattle.mesh_resolve.proofs.sources.place.Goals as goal

pub returns-then-at-len : goal.returns-then-at-len
returns-then-at-len c = c.in_ok-push.ensures.items ∙ put_last name_cmp decl_name c.args.d c.args.list.now.items c.place_of-at.result (c.place_of-at.ensures.place ∙ ap (place_of name_cmp decl_name c.args.d.name) c.as_slice.ensures.value) (omega arith)

pub returns-then-is_eq : goal.returns-then-is_eq
returns-then-is_eq c = ap (set c.args.list.now.items c.place_of-at.result) c.replace.ensures.after ∙ put_over name_cmp decl_name c.args.d c.args.list.now.items c.place_of-at.result (c.place_of-at.ensures.place ∙ ap (place_of name_cmp decl_name c.args.d.name) c.as_slice.ensures.value) c.index.result.now (omega arith) c.index.ensures (ap is_eq (sym c.compare.ensures) ∙ sym c.is_eq.ensures ∙ c.if-is_eq.true)

pub returns : goal.returns
returns c = c.in_ok-insert.ensures.items ∙ put_between name_cmp decl_name c.args.d c.args.list.now.items c.place_of-at.result (c.place_of-at.ensures.place ∙ ap (place_of name_cmp decl_name c.args.d.name) c.as_slice.ensures.value) c.index.result.now (omega arith) c.index.ensures (ap is_eq (sym c.compare.ensures) ∙ sym c.is_eq.ensures ∙ c.if-is_eq.false)
