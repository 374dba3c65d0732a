-- What a well-formed definition reads of its parents are columns of these.
use Rattle.std.proofs.Common.{◌≡◌, pos, Bool, true, false, cond, not, ◌&&◌, ◌||◌, inl, inr, List, [], ◌∷◌, ◌++◌, map, refl, ap, sym, ◌∙◌, subst}
use Rattle.std.specs.List.{AllByRecursion, Contains}
use Rattle.std.specs.Option.{option_map, is_some}
use Rattle.std.specs.Ordering.{is_eq}
use Rattle.std.specs.declared.option.Option.{Option}
use Rattle.std.specs.declared.option.Option.TheVariants.{None, Some}
use Rattle.std.proofs.lemmas.Bool.{and_parts}
use Rattle.mesh_list.specs.Keyed.{ascends, below_first, found}
use Rattle.mesh_list.proofs.Each.{each_found}
use Rattle.mesh_base_values.specs.Crons.{is_cron}
use Rattle.mesh_base_values.specs.Kinds.{time_column}
use Rattle.mesh_base_values.specs.NameOrder.{names_total}
use Rattle.mesh_base_values.specs.Names.{name_cmp}
use Rattle.mesh_base_values.specs.Picked.{same_text}
use Rattle.mesh_base_values.specs.declared.values.Column.{Column}
use Rattle.mesh_base_values.specs.declared.values.Name.{Name}
use Rattle.mesh_base.specs.Outputs.{columns_of}
use Rattle.mesh_base.specs.declared.definitions.Decl.{Decl}
use Rattle.mesh_base.specs.declared.definitions.Defn.{Defn}
use Rattle.mesh_base.specs.declared.definitions.Defn.TheVariants.{Seed, Sql}
use Rattle.mesh_base.specs.declared.definitions.Own.{Own}
use Rattle.mesh_base.specs.declared.definitions.Reading.{Reading}
use Rattle.mesh_base.specs.declared.jobs.Input.{Input}
use Rattle.mesh_base.specs.declared.queries.FromItem.{FromItem}
use Rattle.mesh_base.specs.declared.queries.Select.{Select}
use Rattle.mesh_base.specs.declared.rules.relations.Parent.{Parent}
use Rattle.mesh_base.specs.declared.rules.relations.Relation.{Relation}
use Rattle.mesh_base.specs.rules.Relations.{is_declared, parent_name, parent_relation, read_relations}
use Rattle.mesh_base.specs.rules.Seen.{are_distinct, has_column}
use Rattle.mesh_base.specs.rules.Proper.{are_its_parents, are_known, are_named, defn_names, has_its_time, has_time, is_among, is_body_of, is_body_seen, is_plain_schema, is_well_formed}
use Rattle.mesh_spec_query.specs.Tables.{relation}
use Rattle.mesh_spec_model.specs.Closures.{Closure, Closures, Model, Alone, With, ancestors, each_of, own_of, standing}
use Rattle.mesh_spec_model.specs.Horizons.{Clock}
use Rattle.mesh_spec_model.specs.Scratch.{from_scratch, inputs_of, no_bounds, table_of, tables}
use Rattle.mesh_spec_model.specs.Sources.{declared, inputs}
use Rattle.mesh_law_query.specs.Alike.{named}
use Rattle.mesh_law_query.specs.Found.{model_relation, DefnFindsAll, FindsAll}
use Rattle.mesh_law_query.specs.Reads.{reads, IsRead, NamesColumn}
use Rattle.mesh_law_query.proofs.Finding.{closures_find, one_passes}
use Rattle.mesh_law_query.proofs.Has.{Has, Has_from, Has_map, Has_map_from, Has_to}
use Rattle.mesh_law_query.proofs.Lists.{Each, Each_left, Each_right, each}
use Rattle.mesh_law_query.proofs.ReadColumns.{Str, among, of_one, text_is, text_self}
use Rattle.mesh_spec_changes.specs.reuse.Cores.{is_time, IsTwin}
use Rattle.mesh_spec_changes.specs.reuse.Compatible.{IsCompatible}
use Rattle.mesh_law_reuse.specs.Well.{IsWell, AreWell}
use Rattle.mesh_law_reuse.proofs.Twins.{among_has, AreRead, IsFit, fit_twins}

-- what a well-formed definition is
record Rules (parents : List Parent) (own : Own) : Type 0 where
  time : has_its_time own.kind own.start (columns_of own) ≡ true
  distinct : are_distinct (columns_of own) ≡ true
  ascending : ascends name_cmp parent_name parents ≡ true
  named : are_named parents own (defn_names own.defn) ≡ true

rules : (parents : List Parent) (own : Own) → is_well_formed parents own ≡ true → Rules parents own
rules parents own h =
    let a = and_parts (is_plain_schema own.name.schema) _ h in
    let b = and_parts (is_body_of own.kind own.defn) _ a.1 in
    let c = and_parts (is_cron own.cron) _ b.1 in
    let d = and_parts (has_its_time own.kind own.start (columns_of own)) _ c.1 in
    let e = and_parts (are_distinct (columns_of own)) _ d.1 in
    let f = and_parts (is_body_seen (read_relations own.sources parents) own.defn) (are_its_parents parents own) e.1 in
    let g = and_parts (ascends name_cmp parent_name parents) _ f.1 in
    let i = and_parts (are_named parents own (defn_names own.defn)) (are_known parents own (defn_names own.defn)) g.1 in
    record { time = d.0; distinct = e.0; ascending = g.0; named = i.0 }

time_there : (own : Own) → has_its_time own.kind own.start (columns_of own) ≡ true → (c : Str) → is_time (time_column own.kind) c ≡ true → has_column (columns_of own) c ≡ true
time_there own h c t = go (time_column own.kind) h t
  where
    go : (o : Option Str) → has_time o own.start (columns_of own) ≡ true → is_time o c ≡ true → has_column (columns_of own) c ≡ true
    go None h t = absurd (cc)
    go (Some time) h t =
        let same : time ≡ c = text_is time c t in
        ap (has_column (columns_of own)) (sym same) ∙ (and_parts (is_some own.start) (has_column (columns_of own) time) h).1

-- one of what holds of each
one_of : {X : Type 0} (P : X → Type 0) (xs : List X) (x : X) → Each P xs → Has x xs → P x
one_of P [] x h k = absurd k
one_of P (y ∷ xs) x h (inl e) = subst P e h.0
one_of P (y ∷ xs) x h (inr k) = one_of P xs x h.1 k

split : {X : Type 0} (xs : List X) (x : X) → Has x xs → (before : List X) × ((after : List X) × (xs ≡ before ++ x ∷ after))
split [] x h = absurd h
split (y ∷ xs) x (inl e) = ([], (xs, ap (λ z. z ∷ xs) e))
split (y ∷ xs) x (inr h) = let (before, (after, e)) = split xs x h in (y ∷ before, (after, ap (λ l. y ∷ l) e))

-- what is read is a column of what is found under its relation's name
abbrev IsColumn : List Input → Reading → Type 0
IsColumn tables r = (t : Input) × (named tables r.relation ≡ Some t) × ((c : Column) × Contains t.columns c × (c.name ≡ r.column))

of_select : (tables ctes : List Input) (s : Select) → FindsAll tables ctes s → (r : Reading) → NamesColumn s r → IsColumn tables r
of_select tables ctes s finds r (e, st, (item, k, (f, g, m))) =
    let (f', g', (t, there, column)) = finds.1 e item r.column st k in
    let both : Some f' ≡ Some f = sym g' ∙ g in
    let same : f' ≡ f = cc in
    (t, sym (ap (relation tables ctes) (ap (λ (x : FromItem). x.rel) same ∙ m)) ∙ there, column)

of_defn : (d : Defn) (tables : List Input) → DefnFindsAll d tables no_bounds → (r : Reading) → IsRead d r → IsColumn tables r
of_defn (Seed columns rows) tables finds r h = absurd h
of_defn (Sql q) tables finds r (s, inl (c, i, k), n) =
    let (before, (after, e)) = split q.ctes c (Has_from q.ctes c i) in
    of_select tables _ s (one_of (FindsAll tables _) c s (each (FindsAll tables _) c (finds.0 before after c e)) (Has_from c s k)) r n
of_defn (Sql q) tables finds r (s, inr k, n) =
    of_select tables _ s (one_of (FindsAll tables _) q.selects s (each (FindsAll tables _) q.selects finds.1) (Has_from q.selects s k)) r n

-- under a name that no source has, the tables behind the sources are found
behind : (sources : List Input) (ds : List Decl) (ts : List Input) (name : Name) → is_declared ds name ≡ false → named (map (declared sources) ds ++ ts) name ≡ named ts name
behind sources [] ts name h = refl
behind sources (d ∷ ds) ts name h = go (is_eq (name_cmp d.name name)) h (behind sources ds ts name)
  where
    go : (b : Bool) → (b || is_declared ds name) ≡ false → (is_declared ds name ≡ false → named (map (declared sources) ds ++ ts) name ≡ named ts name)
        → cond b (Some (declared sources d)) (named (map (declared sources) ds ++ ts) name) ≡ named ts name
    go true h rest = absurd (cc)
    go false h rest = rest h

abbrev model_name : Closure → Name
model_name c = (own_of c).name

abbrev relation_name : Relation → Name
relation_name r = r.name

-- a list ascends by its keys
module _ {A : Type 0} (key : A → Name) where
  keys_below : (k : Name) (xs : List A) → below_first name_cmp (λ n. n) k (map key xs) ≡ below_first name_cmp key k xs
  keys_below k [] = refl
  keys_below k (x ∷ xs) = refl

  keys_ascend : (xs : List A) → ascends name_cmp (λ n. n) (map key xs) ≡ ascends name_cmp key xs
  keys_ascend [] = refl
  keys_ascend (x ∷ xs) = λ i. keys_below (key x) xs i && keys_ascend xs i

names_of_models : (cs : List Closure) → map relation_name (map model_relation cs) ≡ map model_name cs
names_of_models [] = refl
names_of_models (c ∷ cs) = ap (λ l. model_name c ∷ l) (names_of_models cs)

names_of_parents : (ps : List Parent) → map relation_name (map parent_relation ps) ≡ map parent_name ps
names_of_parents [] = refl
names_of_parents (p ∷ ps) = ap (λ l. p.name ∷ l) (names_of_parents ps)

models_ascend : (cs : List Closure) (ps : List Parent) → map model_relation cs ≡ map parent_relation ps → ascends name_cmp parent_name ps ≡ true → ascends name_cmp model_name cs ≡ true
models_ascend cs ps e h =
    sym (keys_ascend model_name cs)
    ∙ ap (ascends name_cmp (λ n. n)) (sym (names_of_models cs) ∙ ap (map relation_name) e ∙ names_of_parents ps)
    ∙ keys_ascend parent_name ps
    ∙ h

-- each of some closures is found under its name
module _ (sources : List Input) (clock : Clock) where
  abbrev table : Closure → Input
  table c = table_of (own_of c) (from_scratch sources clock c)

  tables_named : (cs : Closures) (name : Name) → named (tables sources clock cs) name ≡ option_map table (found name_cmp model_name name (each_of cs))
  tables_named Alone name = refl
  tables_named (With c cs) name = go (is_eq (name_cmp (own_of c).name name)) (tables_named cs name)
    where
      go : (b : Bool) → named (tables sources clock cs) name ≡ option_map table (found name_cmp model_name name (each_of cs))
          → cond b (Some (table c)) (named (tables sources clock cs) name) ≡ option_map table (cond b (Some c) (found name_cmp model_name name (each_of cs)))
      go true ih = refl
      go false ih = ih

  found_of : (all cs : List Closure) (c : Closure) → AllByRecursion (λ y. found name_cmp model_name (model_name y) all ≡ Some y) cs → Has c cs → found name_cmp model_name (model_name c) all ≡ Some c
  found_of all [] c h k = absurd k
  found_of all (y ∷ cs) c h (inl e) = subst (λ z. found name_cmp model_name (model_name z) all ≡ Some z) e h.0
  found_of all (y ∷ cs) c h (inr k) = found_of all cs c h.1 k

  table_there : (own : Own) (cs : Closures) (c : Closure) → ascends name_cmp model_name (each_of cs) ≡ true → Has c (each_of cs) → is_declared own.sources (own_of c).name ≡ false
      → named (inputs sources own (tables sources clock cs)) (own_of c).name ≡ Some (table c)
  table_there own cs c up k free =
      behind sources own.sources (tables sources clock cs) (own_of c).name free
      ∙ tables_named cs (own_of c).name
      ∙ ap (option_map table) (found_of (each_of cs) (each_of cs) c (each_found name_cmp names_total model_name (each_of cs) up) k)

not_both : (a b : Bool) → (a && not b) ≡ true → b ≡ false
not_both true true h = absurd (cc)
not_both false true h = absurd (cc)
not_both a false h = refl

-- no source has a parent's name
free_name : (parents : List Parent) (own : Own) (cs : List Closure) → map model_relation cs ≡ map parent_relation parents → are_named parents own (defn_names own.defn) ≡ true → (c : Closure) → Has c cs → is_declared own.sources (own_of c).name ≡ false
free_name parents own cs e h c k =
    let (p, i, same) = Has_map_from parent_relation parents (model_relation c) (subst (Has (model_relation c)) e (Has_map model_relation cs c (model_relation c) k refl)) in
    ap (is_declared own.sources) (sym (ap (λ (r : Relation). r.name) same))
    ∙ not_both (is_among (defn_names own.defn) p.name) (is_declared own.sources p.name) (one_passes (λ (p : Parent). is_among (defn_names own.defn) p.name && not (is_declared own.sources p.name)) parents p h i)

has_it : (cs : List Column) (c : Column) (n : Str) → Has c cs → c.name ≡ n → has_column cs n ≡ true
has_it [] c n h e = absurd h
has_it (d ∷ cs) c n (inl same) e = ap (λ b. b || has_column cs n) (ap (λ (x : Column). same_text x.name n) same ∙ (ap (λ t. same_text t n) e ∙ text_self n))
has_it (d ∷ cs) c n (inr h) e = go (same_text d.name n) (has_it cs c n h e)
  where
    go : (b : Bool) → has_column cs n ≡ true → (b || has_column cs n) ≡ true
    go true k = refl
    go false k = k

abbrev no_clock : Clock
no_clock cron = pos 0

abbrev ReadsColumns : Own → Closure → Type 0
ReadsColumns own c = (n : Str) → among (reads own (own_of c).name) n ≡ true → has_column (columns_of (own_of c)) n ≡ true

reads_columns : (own : Own) (cs : Closures) → IsWell (Model own cs) → (c : Closure) → Has c (each_of cs) → ReadsColumns own c
reads_columns own cs (parents, w, e) c k n m =
    let name = (own_of c).name in
    let r : Reading = record { relation = name; column = n } in
    let its = rules parents own w in
    let read : IsRead own.defn r = (of_one own name n).0 (Has_to (reads own name) n (among_has (reads own name) n m)) in
    let (t, there, (column, i, same)) = of_defn own.defn (inputs_of [] no_clock (Model own cs)) (closures_find parents own cs w e [] no_clock no_bounds) r read in
    let here = table_there [] no_clock own cs c (models_ascend (each_of cs) parents e its.ascending) k (free_name parents own (each_of cs) e its.named c k) in
    let both : Some t ≡ Some (table [] no_clock c) = sym there ∙ here in
    let it : t ≡ table [] no_clock c = cc in
    ap (λ (x : Input). has_column x.columns n) (sym it) ∙ has_it t.columns column n (Has_from t.columns column i) same

mutual
  fit : (c : Closure) → Each IsWell (standing c) → IsFit c
  fit (Model own cs) h =
      let its = rules h.0.0 own h.0.1 in
      (its.distinct, time_there own its.time, are_read own cs (reads_columns own cs h.0) h.1)

  are_read : (own : Own) (cs : Closures) → ((c : Closure) → Has c (each_of cs) → ReadsColumns own c) → Each IsWell (ancestors cs) → AreRead own cs
  are_read own Alone f h = tt
  are_read own (With c cs) f h =
      (f c (inl refl), fit c (Each_left IsWell (standing c) (ancestors cs) h), are_read own cs (λ d k. f d (inr k)) (Each_right IsWell (standing c) (ancestors cs) h))

-- so compatible closures of one definition are twins
pub well_twins : (old new : Closure) → IsCompatible old new → own_of old ≡ own_of new → AreWell old → AreWell new → IsTwin old new
well_twins old new g e p q = fit_twins old new g e (fit old (each IsWell (standing old) p)) (fit new (each IsWell (standing new) q))
