-- What a definition reads, its sources and its parents, is what is known of the names in its query.
use Rattle.std.proofs.Common.{◌≡◌, Bool, true, false, ◌&&◌, ◌||◌, not, cond, List, [], ◌∷◌, ◌++◌, map, Option, Some, None, refl, sym, ap, ◌∙◌}
use Rattle.std.specs.List.{AllByRecursion, filter, list_all}
use Rattle.std.specs.Option.{is_some, option_map}
use Rattle.std.specs.Ordering.{is_eq}
use Rattle.std.proofs.lemmas.Cmp.{tied_itself}
use Rattle.std.proofs.lemmas.Bool.{or_right as or_true, or_left as true_or, and_from as and_both}
use Rattle.mesh_list.specs.Keyed.{found}
use Rattle.mesh_list.proofs.Found.{found-placed}
use Rattle.mesh_base_values.specs.NameOrder.{names_exact, names_total}
use Rattle.mesh_base_values.specs.Names.{name_cmp}
use Rattle.mesh_base_values.specs.declared.values.Column.{Column}
use Rattle.mesh_base_values.specs.declared.values.Name.{Name}
use Rattle.mesh_base_values.proofs.Equals.{name_is}
use Rattle.mesh_base.specs.Keys.{input_name}
use Rattle.mesh_base.specs.declared.definitions.Decl.{Decl}
use Rattle.mesh_base.specs.declared.definitions.Defn.TheVariants.{Sql}
use Rattle.mesh_base.specs.declared.jobs.Input.{Input}
use Rattle.mesh_base.specs.declared.queries.Query.{Query}
use Rattle.mesh_base.specs.declared.rules.relations.Parent.{Parent}
use Rattle.mesh_base.specs.rules.Proper.{defn_names, is_among}
use Rattle.mesh_base.specs.rules.Relations.{is_declared, is_parent, parent_relation, read_relations, relation_columns, source_relation}
use Rattle.mesh_base.specs.rules.Seen.{is_query_seen}
use Rattle.mesh_resolve.specs.declared.known.Known.{Known}
use Rattle.mesh_resolve.specs.Owns.{in_order, is_read, sources_read}
use Rattle.mesh_resolve.specs.Relations.{decl_name, or_else}
use Rattle.mesh_law_reading.specs.Formed.{AreParentsAmong}
use Rattle.mesh_law_reading.specs.Sight.{known_relations, model_relation}
use Rattle.mesh_law_reading.proofs.Agree.{names_there, query_same}
use Rattle.mesh_law_reading.proofs.Froms.{columns_of_models, columns_of_sources, columns_of_two}
use Rattle.mesh_law_reading.proofs.Good.{each_weaker}
use Rattle.mesh_law_reading.proofs.Insight.{all_pass}
use Rattle.mesh_law_reading.proofs.Sees.{each_member}

abbrev decl_columns : Decl → List Column
decl_columns d = d.columns

abbrev input_columns : Input → List Column
input_columns m = m.columns

-- a name among some
among_all : (before after : List Name) (name : Name) → is_among (before ++ name ∷ after) name ≡ true
among_all [] after name = true_or (is_eq (name_cmp name name)) (is_among after name) (ap is_eq (tied_itself names_total name))
among_all (b ∷ before) after name = or_true (is_eq (name_cmp b name)) (is_among (before ++ name ∷ after) name) (among_all before after name)

pub each_among : (names : List Name) → AllByRecursion (λ name. is_among names name ≡ true) names
each_among names = each_member (λ name. is_among names name ≡ true) names (λ before after name e. ap (λ (l : List Name). is_among l name) (sym e) ∙ among_all before after name) [] names refl

-- what is found among those that pass a test of their name
module _ {A : Type 0} (key : A → Name) (name : Name) (p : A → Bool) (b : Bool) (tells : (x : A) → key x ≡ name → p x ≡ b) where
  pub passed : (xs : List A) → found name_cmp key name (filter p xs) ≡ cond b (found name_cmp key name xs) None
  passed [] = nothing b None refl
    where
      nothing : (b : Bool) (o : Option A) → None ≡ o → None ≡ cond b o None
      nothing true o e = e
      nothing false o e = refl
  passed (x ∷ xs) = by_both (p x) (is_eq (name_cmp (key x) name)) refl refl (passed xs)
    where
      by_both : (q e : Bool) → p x ≡ q → is_eq (name_cmp (key x) name) ≡ e → found name_cmp key name (filter p xs) ≡ cond b (found name_cmp key name xs) None
          → found name_cmp key name (cond q (x ∷ filter p xs) (filter p xs)) ≡ cond b (cond e (Some x) (found name_cmp key name xs)) None
      by_both true true pass is more =
          ap (λ (y : Bool). cond y (Some x) (found name_cmp key name (filter p xs))) is ∙ ap (λ (y : Bool). cond y (Some x) None) (sym pass ∙ tells x (name_is (key x) name is))
      by_both true false pass is more = ap (λ (y : Bool). cond y (Some x) (found name_cmp key name (filter p xs))) is ∙ more
      by_both false true pass is more =
          let no : false ≡ b = sym pass ∙ tells x (name_is (key x) name is) in
          more ∙ ap (λ (y : Bool). cond y (found name_cmp key name xs) None) (sym no) ∙ ap (λ (y : Bool). cond y (Some x) None) no
      by_both false false pass is more = more

in_order_found : (name : Name) (ds : List Decl) → found name_cmp decl_name name (in_order ds) ≡ found name_cmp decl_name name ds
in_order_found name [] = refl
in_order_found name (d ∷ ds) = found-placed name_cmp names_exact decl_name d name (in_order ds) ∙ ap (cond (is_eq (name_cmp d.name name)) (Some d)) (in_order_found name ds)

declared_is : (ds : List Decl) (name : Name) → is_declared ds name ≡ is_some (relation_columns (map source_relation ds) name)
declared_is [] name = refl
declared_is (d ∷ ds) name = by_name (is_eq (name_cmp d.name name)) (declared_is ds name)
  where
    by_name : (b : Bool) → is_declared ds name ≡ is_some (relation_columns (map source_relation ds) name) → (b || is_declared ds name) ≡ is_some (cond b (Some d.columns) (relation_columns (map source_relation ds) name))
    by_name true e = refl
    by_name false e = e

module _ (known : Known) (query : Query) (parents : List Parent) (are : AreParentsAmong known (defn_names (Sql query)) parents) where
  abbrev names : List Name
  names = defn_names (Sql query)

  abbrev models : Name → Option (List Column)
  models name = relation_columns (map model_relation known.models) name

  -- what a name means among the declared sources, where no model hides it
  abbrev unless_hidden : Name → Option Input → Option (List Column)
  unless_hidden name o = option_map decl_columns (cond (not (is_some o)) (found name_cmp decl_name name known.sources) None)

  abbrev sources : Name → Option (List Column)
  sources name = relation_columns (map source_relation (sources_read known query)) name

  abbrev stems : Name → Option (List Column)
  stems name = relation_columns (map parent_relation parents) name

  abbrev model : Name → Option Input
  model name = found name_cmp input_name name known.models

  -- the sources that are read are the known ones, but for those whose name is a model's
  sources_are : (name : Name) → is_among names name ≡ true → sources name ≡ unless_hidden name (model name)
  unfolding sources_read
  sources_are name among =
      columns_of_sources (in_order (filter (is_read known names) known.sources)) name
      ∙ ap (option_map decl_columns)
      (in_order_found name (filter (is_read known names) known.sources)
      ∙ passed decl_name name (is_read known names) (not (is_some (model name)))
      (λ d e. ap (λ (n : Name). is_among names n && not (is_some (model n))) e ∙ ap (λ (a : Bool). a && not (is_some (model name))) among) known.sources)

  -- what a parent's name means
  stems_of : (name : Name) (ps : List Parent) → AllByRecursion (λ (p : Parent). models p.name ≡ Some p.columns) ps → relation_columns (map parent_relation ps) name ≡ cond (is_parent ps name) (models name) None
  stems_of name [] all = refl
  stems_of name (p ∷ ps) all = by_name (is_eq (name_cmp p.name name)) refl (stems_of name ps all.1)
    where
      by_name : (b : Bool) → is_eq (name_cmp p.name name) ≡ b → relation_columns (map parent_relation ps) name ≡ cond (is_parent ps name) (models name) None
          → cond b (Some p.columns) (relation_columns (map parent_relation ps) name) ≡ cond (b || is_parent ps name) (models name) None
      by_name true is more = sym all.0 ∙ ap models (name_is p.name name is)
      by_name false is more = more

  models_are : (name : Name) → models name ≡ option_map input_columns (model name)
  models_are name = columns_of_models known.models name

  or_none : (o : Option (List Column)) → or_else o None ≡ o
  or_none None = refl
  or_none (Some x) = refl

  both_none : (b : Bool) (o : Option (List Column)) → o ≡ None → cond b o None ≡ None
  both_none true o e = e
  both_none false o e = refl

  -- both say the same of a name in the query
  same : (name : Name) → is_among names name ≡ true → relation_columns (read_relations (sources_read known query) parents) name ≡ relation_columns (known_relations known) name
  same name among =
      columns_of_two (map source_relation (sources_read known query)) (map parent_relation parents) name ∙ by_model (model name) refl
      ∙ sym (columns_of_two (map model_relation known.models) (map source_relation known.sources) name)
    where
      by_model : (o : Option Input) → model name ≡ o → or_else (sources name) (stems name) ≡ or_else (models name) (relation_columns (map source_relation known.sources) name)
      by_model (Some m) e =
          let here : models name ≡ Some m.columns = models_are name ∙ ap (option_map input_columns) e in
          let no_source : sources name ≡ None = sources_are name among ∙ ap (unless_hidden name) e in
          let parent : is_parent parents name ≡ true = are.each name among (ap is_some here) in
          ap (λ o. or_else o (stems name)) no_source ∙ stems_of name parents are.models ∙ ap (λ (b : Bool). cond b (models name) None) parent ∙ here
          ∙ ap (λ o. or_else o (relation_columns (map source_relation known.sources) name)) (sym here)
      by_model None e =
          let none : models name ≡ None = models_are name ∙ ap (option_map input_columns) e in
          let source : sources name ≡ relation_columns (map source_relation known.sources) name = sources_are name among
          ∙ ap (unless_hidden name) e ∙ sym (columns_of_sources known.sources name) in
          let no_parent : stems name ≡ None = stems_of name parents are.models ∙ both_none (is_parent parents name) (models name) none in
          ap (or_else (sources name)) no_parent ∙ or_none (sources name) ∙ source ∙ ap (λ o. or_else o (relation_columns (map source_relation known.sources) name)) (sym none)

  module _ (seen : is_query_seen (known_relations known) query ≡ true) where
    pub seen_of_read : is_query_seen (read_relations (sources_read known query) parents) query ≡ true
    seen_of_read =
        query_same (read_relations (sources_read known query) parents) (known_relations known) query (each_weaker (λ name. is_among names name ≡ true) _ names (λ name among. same name among) (each_among names)) ∙ seen

    no_model_is_declared : (name : Name) (columns : List Column) → is_among names name ≡ true → models name ≡ Some columns → is_declared (sources_read known query) name ≡ false
    no_model_is_declared name columns among is = declared_is (sources_read known query) name ∙ by_model (model name) refl
      where
        by_model : (o : Option Input) → model name ≡ o → is_some (sources name) ≡ false
        by_model (Some m) e = ap is_some (sources_are name among ∙ ap (unless_hidden name) e)
        by_model None e = absurd (let clash : Some columns ≡ None = sym is ∙ models_are name ∙ ap (option_map input_columns) e in cc)

    pub parents_named : list_all (λ (p : Parent). is_among names p.name && not (is_declared (sources_read known query) p.name)) parents ≡ true
    parents_named = all_pass (λ (p : Parent). is_among names p.name && not (is_declared (sources_read known query) p.name)) parents (each_parent parents are.named are.models)
      where
        each_parent : (ps : List Parent) → AllByRecursion (λ (p : Parent). is_among names p.name ≡ true) ps → AllByRecursion (λ (p : Parent). models p.name ≡ Some p.columns) ps
            → AllByRecursion (λ (p : Parent). (is_among names p.name && not (is_declared (sources_read known query) p.name)) ≡ true) ps
        each_parent [] named all = tt
        each_parent (p ∷ ps) named all = (and_both _ _ named.0 (ap not (no_model_is_declared p.name p.columns named.0 all.0)), each_parent ps named.1 all.1)

    name_known : (name : Name) → is_among names name ≡ true → is_some (relation_columns (known_relations known) name) ≡ true → (is_declared (sources_read known query) name || is_parent parents name) ≡ true
    name_known name among there = by_model (model name) refl
      where
        by_model : (o : Option Input) → model name ≡ o → (is_declared (sources_read known query) name || is_parent parents name) ≡ true
        by_model (Some m) e =
            or_true (is_declared (sources_read known query) name) (is_parent parents name) (are.each name among (ap is_some (models_are name ∙ ap (option_map input_columns) e)))
        by_model None e =
            let none : models name ≡ None = models_are name ∙ ap (option_map input_columns) e in
            let source : sources name ≡ relation_columns (map source_relation known.sources) name = sources_are name among
            ∙ ap (unless_hidden name) e ∙ sym (columns_of_sources known.sources name) in
            true_or (is_declared (sources_read known query) name) (is_parent parents name)
            (declared_is (sources_read known query) name ∙ ap is_some source
            ∙ ap (λ o. is_some (or_else o (relation_columns (map source_relation known.sources) name))) (sym none)
            ∙ sym (ap is_some (columns_of_two (map model_relation known.models) (map source_relation known.sources) name)) ∙ there)

    pub names_known : list_all (λ name. is_declared (sources_read known query) name || is_parent parents name) names ≡ true
    names_known = all_pass (λ name. is_declared (sources_read known query) name || is_parent parents name) names (each_name names (each_among names) (names_there (known_relations known) query seen))
      where
        each_name : (ns : List Name) → AllByRecursion (λ name. is_among names name ≡ true) ns → AllByRecursion (λ name. is_some (relation_columns (known_relations known) name) ≡ true) ns
            → AllByRecursion (λ name. (is_declared (sources_read known query) name || is_parent parents name) ≡ true) ns
        each_name [] among there = tt
        each_name (n ∷ ns) among there = (name_known n among.0 there.0, each_name ns among.1 there.1)
