use Rattle.std.proofs.Common.{◌≡◌, ℕ, ◌+◌, ◌<◌, Bool, true, false, ◌||◌, cond, List, length, take, get_or, refl, sym, ap, ◌∙◌}
use Rattle.std.specs.BTreeSet.{BTreeSet, Updates, contains}
use Rattle.std.specs.Ordering.{is_eq}
use Rattle.std.proofs.lemmas.List.Folds.{list_any_more}
use Rattle.mesh_base_values.specs.declared.values.Name.{Name}
use Rattle.mesh_base_values.specs.Names.{name_cmp}
use Rattle.mesh_base.specs.declared.definitions.Decl.{Decl}
use Rattle.mesh_base.specs.rules.Relations.{is_declared}
use Rattle.mesh_project.proofs.nodes.apart.source_names.Goals as goal

either_way : (p r : Bool) → cond p true r ≡ (r || p)
either_way true true = refl
either_way true false = refl
either_way false true = refl
either_way false false = refl

-- a set that has the names of these sources has one more of them
one_more_name : (old new : BTreeSet Name) (sources : List Decl) (i : ℕ) (d : Decl) (key : Name) → i < length sources → d ≡ get_or sources i d → key ≡ d.name
    → ((name : Name) → contains name_cmp old name ≡ is_declared (take i sources) name) → Updates name_cmp old new key true → (name : Name) → contains name_cmp new name ≡ is_declared (take (i + 1) sources) name
one_more_name old new sources i d key lt is same right updates name =
    updates.0 name ∙ ap (cond (is_eq (name_cmp key name)) true) (right name) ∙ either_way (is_eq (name_cmp key name)) (is_declared (take i sources) name)
    ∙ ap (λ (k : Name). is_declared (take i sources) name || is_eq (name_cmp k name)) (same ∙ ap (λ (x : Decl). x.name) is)
    ∙ sym (list_any_more (λ (x : Decl). is_eq (name_cmp x.name name)) sources i d lt)

pub loop-source-preserved : goal.loop-source-preserved
loop-source-preserved c =
    one_more_name c.loop-source.set c.insert.new.self c.args.sources.now c.loop-source.source-index c.source-item.result _
    c.loop-source-test.true c.source-item.is c.in_ok-copy.ensures c.loop-source.invariant c.in_ok-insert.ensures.updates
