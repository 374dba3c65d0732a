-- The models of files in order, each over those before it, are a proper project.
use Rattle.std.proofs.Common.{◌≡◌, inl, ℕ, zero, suc, ◌<◌, ◌≤◌, Bool, true, false, ◌||◌, not, cond, List, [], ◌∷◌, ◌++◌, map, length, Option, None, Some, Result, Ok, Err, refl, sym, ap, ◌∙◌, subst, append_assoc, arith}
use Rattle.std.proofs.lemmas.List.{append-nil, length-map}
use Rattle.std.proofs.lemmas.Bool.{le-leb, and_from as and_both}
use Rattle.std.specs.List.{AllByRecursion, AllZip, list_all, slice_get, slice_index_or}
use Rattle.std.specs.Option.{is_some}
use Rattle.std.specs.Ordering.{is_eq, is_lt}
use Rattle.mesh_list.specs.Keyed.{ascends, below_first, found}
use Rattle.mesh_list.proofs.Ascends.{and_left, and_right}
use Rattle.mesh_list.proofs.Each.{each_found}
use Rattle.mesh_base_values.specs.NameOrder.{names_total}
use Rattle.mesh_base_values.specs.Names.{name_cmp}
use Rattle.mesh_base_values.specs.declared.values.Name.{Name}
use Rattle.mesh_base_values.specs.declared.values.Seed.{Seed}
use Rattle.mesh_base_values.specs.Kinds.{time_column}
use Rattle.mesh_base.specs.Outputs.{select_columns}
use Rattle.mesh_base.specs.declared.definitions.Decl.{Decl}
use Rattle.mesh_base.specs.declared.definitions.Defn.TheVariants as body
use Rattle.mesh_base.specs.declared.definitions.Own.{Own}
use Rattle.mesh_base.specs.declared.snapshots.Node.{Node}
use Rattle.mesh_base.specs.declared.rules.relations.Parent.{Parent}
use Rattle.mesh_base.specs.declared.rules.relations.Relation.{Relation}
use Rattle.mesh_base.specs.rules.Proper.{as_parent, defn_names, is_among, is_fit, is_proper, parent_at}
use Rattle.mesh_base.specs.rules.Relations.{is_parent, parent_name, parent_relation, rank_over, relation_columns}
use Rattle.mesh_model_statement.specs.declared.model.model.ModelText.{ModelText}
use Rattle.mesh_query_grammar.specs.declared.surface.queries.Surface.{Surface}
use Rattle.mesh_query_tokens.specs.declared.faults.ReadFault.{ReadFault}
use Rattle.mesh_resolve_types.specs.Faults.{unwritten}
use Rattle.mesh_resolve.specs.declared.known.Known.{Known}
use Rattle.mesh_resolve.specs.Owns.{Behind, as_declared, body_of, own, query_body, sources_read, timed, with_body}
use Rattle.mesh_resolve.specs.Queries.{resolved}
use Rattle.mesh_law_reading.specs.Formed.{AreParentsAmong, IsReadModel}
use Rattle.mesh_law_reading.specs.Sight.{model_relation}
use Rattle.mesh_law_reading.proofs.Files.{as_file}
use Rattle.mesh_law_reading.proofs.Good.{Good, given, refused, then_good}
use Rattle.mesh_law_reading.proofs.Whole.{well_formed}
use Rattle.mesh_project.specs.declared.order.readers.Ranked.{Ranked}
use Rattle.mesh_project.specs.declared.order.readers.Reader.{Reader}
use Rattle.mesh_project.specs.order.Order.{AreApart, IsOrder, reader_at}
use Rattle.mesh_project_files.specs.declared.faults.LoadFault.{LoadFault}
use Rattle.mesh_project_files.specs.declared.project.ModelFile.{ModelFile}
use Rattle.mesh_project_files.specs.declared.project.ProjectFiles.{ProjectFiles}
use Rattle.mesh_project_files.specs.Loading.{◌>>=◌, in_file}
use Rattle.mesh_project.specs.declared.nodes.earlier.Place.{Place}
use Rattle.mesh_project.specs.nodes.Earlier.{named, place_name}
use Rattle.mesh_project.specs.nodes.Nodes.{IsWhole, known_before, input_at, inputs_at, known_to, node_over, nodes_of, own_over, parents_of, with_file, with_model}
use Rattle.mesh_project.specs.project.Project.{reader_of}
use Rattle.mesh_project.specs.nodes.Reads.{text_reads}
use Rattle.mesh_project.specs.nodes.Walk.{along}
use Rattle.mesh_project.proofs.nodes.Agree.{names_agree}
use Rattle.mesh_project.proofs.nodes.Among.{IsAt, Stands, named_ascend, named_stand}
use Rattle.mesh_project.proofs.project.Fits.{names_differ, new_fits, nodes_ascend, nodes_few, one_more_fits}
use Rattle.mesh_project.proofs.project.In.{In, fits_push, in_got, in_right, of_all}
use Rattle.mesh_project.proofs.nodes.Tables.{named_suffice}
use Rattle.mesh_project.proofs.project.Ranks.{Fits, IsOf, each_of, parents_named, rank_fits, within}

-- the names in a definition are those in its file
module _ (m : ModelText) (known : Known) where
  abbrev Agrees : Option Surface → Behind → Type 0
  Agrees q b = defn_names b.0 ≡ text_reads q

  query_agrees : (q : Surface) → Good (Agrees (Some q)) (query_body known m.kind m.columns q)
  unfolding query_body
  query_agrees q =
      then_good (λ query. defn_names (body.Sql query) ≡ text_reads (Some q)) (Agrees (Some q)) (resolved known q) _ (λ query e. names_agree known q query e)
      (λ query e. then_good (λ u. Unit {0}) (Agrees (Some q)) (timed (time_column m.kind) (select_columns query.selects)) _ (λ u h. tt)
      (λ u v. then_good (λ u. Unit {0}) (Agrees (Some q)) (as_declared m.columns (select_columns query.selects)) (λ u. Ok (body.Sql query, sources_read known query)) (λ u h. tt)
      (λ u w. given (Agrees (Some q)) (body.Sql query, sources_read known query) e)))

  body_agrees : (seed : Option Seed) (q : Option Surface) → (is_some seed ≡ true → q ≡ None) → Good (Agrees q) (body_of known m.kind m.columns seed q)
  body_agrees (Some s) q alone = given (Agrees q) (body.Seed s.columns s.rows, []) (ap text_reads (sym (alone refl)))
  body_agrees None (Some q) alone = query_agrees q
  body_agrees None None alone = refused (Agrees None) (unwritten 0)

  own_agrees : (seed : Option Seed) → (is_some seed ≡ true → m.query ≡ None) → Good (λ (o : Own). defn_names o.defn ≡ text_reads m.query) (own m seed known)
  unfolding own
  own_agrees seed alone =
      then_good (Agrees m.query) (λ (o : Own). defn_names o.defn ≡ text_reads m.query) (body_of known m.kind m.columns seed m.query) (λ b. Ok (with_body m b)) (body_agrees seed m.query alone)
      (λ b e. given (λ (o : Own). defn_names o.defn ≡ text_reads m.query) (with_body m b) e)

unwritten_seed : (m : ModelText) (seed : Option Seed) → IsReadModel m seed → is_some seed ≡ true → m.query ≡ None
unwritten_seed m seed is there = by_query m.query refl
  where
    by_query : (q : Option Surface) → m.query ≡ q → m.query ≡ None
    by_query None e = e
    by_query (Some q) e = absurd (let clash : true ≡ false = sym (ap is_some e) ∙ is.written ∙ ap not (sym is.seeded ∙ there) in cc)

-- parents as tables, and what they are found by
columns_found : (ps : List Parent) (name : Name) (p : Parent) → found name_cmp parent_name name ps ≡ Some p → relation_columns (map parent_relation ps) name ≡ Some p.columns
columns_found [] name p e = absurd (cc)
columns_found (q ∷ ps) name p e = by_first (is_eq (name_cmp q.name name)) e (λ h. columns_found ps name p h)
  where
    by_first : (b : Bool) → cond b (Some q) (found name_cmp parent_name name ps) ≡ Some p → (found name_cmp parent_name name ps ≡ Some p → relation_columns (map parent_relation ps) name ≡ Some p.columns)
        → cond b (Some q.columns) (relation_columns (map parent_relation ps) name) ≡ Some p.columns
    by_first true h more = let same : q ≡ p = cc in ap (λ (x : Parent). Some x.columns) same
    by_first false h more = more h

parent_found : (ps : List Parent) (name : Name) → is_some (relation_columns (map parent_relation ps) name) ≡ is_parent ps name
parent_found [] name = refl
parent_found (p ∷ ps) name = by_first (is_eq (name_cmp p.name name)) (parent_found ps name)
  where
    by_first : (b : Bool) → is_some (relation_columns (map parent_relation ps) name) ≡ is_parent ps name → is_some (cond b (Some p.columns) (relation_columns (map parent_relation ps) name)) ≡ (b || is_parent ps name)
    by_first true e = refl
    by_first false e = e

module _ (nodes : List Node) (names : List Name) where
  same_tables : (places : List Place) → AllByRecursion (Stands nodes names) places → map model_relation (inputs_at nodes places) ≡ map parent_relation (parents_named nodes places)
  same_tables [] all = refl
  same_tables (p ∷ ps) all =
      let at : IsAt nodes p.at p.name = all.0.0 in
      subst (λ o. map model_relation (input_at o ++ inputs_at nodes ps) ≡ map parent_relation (parent_at o ++ parents_named nodes ps)) (sym at.1)
      (ap (λ l. parent_relation (as_parent at.0) ∷ l) (same_tables ps all.1))

  -- the parents ascend as their places do
  below_named : (p : Place) (at : IsAt nodes p.at p.name) (places : List Place) → AllByRecursion (Stands nodes names) places → below_first name_cmp place_name p.name places ≡ true
      → below_first name_cmp parent_name (as_parent at.0).name (parents_named nodes places) ≡ true
  below_named p at [] all below = refl
  below_named p at (q ∷ qs) all below =
      let there : IsAt nodes q.at q.name = all.0.0 in
      subst (λ o. below_first name_cmp parent_name (as_parent at.0).name (parent_at o ++ parents_named nodes qs) ≡ true) (sym there.1)
      (ap (λ (x : Name). is_lt (name_cmp x there.0.own.name)) at.2 ∙ ap (λ (x : Name). is_lt (name_cmp p.name x)) there.2 ∙ below)

  parents_ascend : (places : List Place) → AllByRecursion (Stands nodes names) places → ascends name_cmp place_name places ≡ true → ascends name_cmp parent_name (parents_named nodes places) ≡ true
  parents_ascend [] all up = refl
  parents_ascend (p ∷ ps) all up =
      let at : IsAt nodes p.at p.name = all.0.0 in
      subst (λ o. ascends name_cmp parent_name (parent_at o ++ parents_named nodes ps) ≡ true) (sym at.1)
      (and_both _ _ (below_named p at ps all.1 (and_left _ _ up)) (parents_ascend ps all.1 (and_right _ _ up)))

  abbrev all : List Parent
  all = parents_named nodes (named nodes names)

  each_name : (ps : List Parent) → AllByRecursion (IsOf nodes names) ps → AllByRecursion (λ (p : Parent). is_among names p.name ≡ true) ps
  each_name [] h = tt
  each_name (p ∷ ps) h = (h.0.3, each_name ps h.1)

  each_columns : (tables : List Relation) (ps : List Parent) → ((p : Parent) → found name_cmp parent_name p.name all ≡ Some p → relation_columns tables p.name ≡ Some p.columns)
      → AllByRecursion (λ (p : Parent). found name_cmp parent_name p.name all ≡ Some p) ps → AllByRecursion (λ (p : Parent). relation_columns tables p.name ≡ Some p.columns) ps
  each_columns tables [] h f = tt
  each_columns tables (p ∷ ps) h f = (h p f.0, each_columns tables ps h f.1)

  are_parents : (sources : List Decl) (known : Known) → known.models ≡ inputs_at nodes (named nodes names) → AreParentsAmong known names all
  are_parents sources known models =
      let stand = named_stand nodes names in
      let up = parents_ascend (named nodes names) stand (named_ascend nodes names) in
      let tables : map model_relation known.models ≡ map parent_relation all = ap (map model_relation) models ∙ same_tables (named nodes names) stand in
      record {
        ascend = up;
        named = each_name all (each_of nodes names (named nodes names) stand);
        models = each_columns (map model_relation known.models) all (λ p e. ap (λ l. relation_columns l p.name) tables ∙ columns_found all p.name p e) (each_found name_cmp names_total parent_name all up);
        each = λ name among there. sym (parent_found all name) ∙ ap (λ l. is_some (relation_columns l name)) (sym tables) ∙ there;
      }

got_there : {X : Type 0} (xs : List X) (k : ℕ) → k < length xs → (x : X) × (slice_get xs k ≡ Some x)
got_there [] k lt = absurd (omega arith)
got_there (x ∷ xs) zero lt = (x, refl)
got_there (x ∷ xs) (suc k) lt = got_there xs k (omega arith)

got_mapped : {X Y : Type 0} (g : X → Y) (xs : List X) (k : ℕ) (x : X) (d : Y) → slice_get xs k ≡ Some x → slice_index_or (map g xs) k d ≡ g x
got_mapped g [] k x d e = absurd (cc)
got_mapped g (y ∷ ys) zero x d e = let same : y ≡ x = cc in ap g same
got_mapped g (y ∷ ys) (suc k) x d e = got_mapped g ys k x d e

-- what is read without fault
read_ok : {A : Type 0} (file : List ℕ) (r : Result A ReadFault) (x : A) → in_file file r ≡ Ok x → r ≡ Ok x
read_ok file (Ok y) x e = let same : y ≡ x = cc in ap (λ z. Ok z) same
read_ok file (Err f) x e = absurd (cc)

module _ (files : ProjectFiles) (order : List Ranked) (whole : AllByRecursion IsWhole files.models) (apart : AreApart (map reader_of files.models)) (is : IsOrder (map reader_of files.models) order) where
  abbrev models : List Reader
  models = map reader_of files.models

  abbrev step : List Node → Ranked → Result (List Node) LoadFault
  step = with_model files.sources files.models

  -- a node over those before it
  module _ (done rest : List Ranked) (r : Ranked) (split : order ≡ done ++ r ∷ rest) (nodes : List Node) (fit : AllZip (Fits models) nodes done) (f : ModelFile) (at : slice_get files.models r.at ≡ Some f)
      (o : Own) (given : own_over files.sources nodes f ≡ Ok o) where
    abbrev names : List Name
    names = text_reads f.text.query

    abbrev known : Known
    known = known_to files.sources nodes (parents_of nodes f) f.text.kind

    reader_is : reader_at models r.at ≡ reader_of f
    reader_is = got_mapped reader_of files.models r.at f _ at

    is_whole : IsWhole f
    is_whole = of_all IsWhole files.models f whole (in_got files.models r.at f at)

    own_is : own f.text f.seed known ≡ Ok o
    own_is = named_suffice files.sources nodes f ∙ read_ok f.text.file (own f.text f.seed (known_before files.sources nodes f.text.kind)) o given

    abbrev node : Node
    node = node_over nodes r.rank (parents_of nodes f) o

    node_fits : Fits models node r
    node_fits = ((as_file f.text f.seed known o own_is).name ∙ ap (λ (x : Reader). x.name) (sym reader_is), refl)

    parents_are : AreParentsAmong known (defn_names o.defn) (parents_named nodes (named nodes names))
    parents_are =
        subst (λ ns. AreParentsAmong known ns (parents_named nodes (named nodes names))) (sym (own_agrees f.text known f.seed (unwritten_seed f.text f.seed is_whole) o own_is))
        (are_parents nodes names files.sources known refl)

    node_is_fit : is_fit nodes node ≡ true
    node_is_fit =
        new_fits nodes names node refl
        (rank_fits models order apart is done rest r split nodes fit ∙ ap (λ (x : Reader). rank_over 0 (parents_named nodes (named nodes x.reads))) reader_is)
        (well_formed f.text f.seed known o (parents_named nodes (named nodes names)) is_whole own_is parents_are)

  abbrev Stand : List Node → Type 0
  Stand result = AllZip (Fits models) result order × (list_all (is_fit result) result ≡ true)

  walk : (rest done : List Ranked) (nodes : List Node) → order ≡ done ++ rest → AllZip (Fits models) nodes done → list_all (is_fit nodes) nodes ≡ true
      → (result : List Node) → along step nodes rest ≡ Ok result → Stand result
  unfolding along
  walk [] done nodes split fit all result e =
      let same : nodes ≡ result = cc in
      subst Stand same (subst (AllZip (Fits models) nodes) (sym (append-nil done) ∙ sym split) fit, all)
  walk (r ∷ rest) done nodes split fit all result e =
      let lt : r.at < length files.models = let h = within models order apart is r (subst (In r) (sym split) (in_right done (r ∷ rest) r (inl refl))) in omega (arith, h, length-map files.models reader_of) in
      let f = got_there files.models r.at lt in
      by_own f.0 f.1 (own_over files.sources nodes f.0) refl
      (ap (λ o. with_file files.sources nodes r.rank o >>= λ next. along step next rest) (sym f.1) ∙ e)
      (λ n fits stands h. walk rest (done ++ r ∷ []) (nodes ++ n ∷ []) (split ∙ sym (append_assoc done (r ∷ []) rest)) (fits_push (Fits models) nodes done n r fit fits) (one_more_fits nodes n all stands) result h)
    where
      by_own : (f : ModelFile) → slice_get files.models r.at ≡ Some f → (o : Result Own LoadFault) → own_over files.sources nodes f ≡ o
          → (with_file files.sources nodes r.rank (Some f) >>= λ next. along step next rest) ≡ Ok result
          → ((n : Node) → Fits models n r → is_fit nodes n ≡ true → along step (nodes ++ n ∷ []) rest ≡ Ok result → Stand result) → Stand result
      by_own f at (Err fault) given h more =
          absurd (let clash : Err fault ≡ Ok result = sym (ap (λ x. ((x >>= λ o. Ok (node_over nodes r.rank (parents_of nodes f) o)) >>= λ n. Ok (nodes ++ n ∷ [])) >>= λ next. along step next rest) given) ∙ h in cc)
      by_own f at (Ok o) given h more =
          more (node_over nodes r.rank (parents_of nodes f) o) (node_fits done rest r split nodes fit f at o given) (node_is_fit done rest r split nodes fit f at o given)
          (sym (ap (λ x. ((x >>= λ o. Ok (node_over nodes r.rank (parents_of nodes f) o)) >>= λ n. Ok (nodes ++ n ∷ [])) >>= λ next. along step next rest) given) ∙ h)

  pub proper : (nodes : List Node) → nodes_of files.sources files.models order ≡ Ok nodes → length files.models ≤ 4096 → is_proper nodes ≡ true
  proper nodes e few =
      let stand = walk order [] [] refl tt refl nodes e in
      let short : length nodes ≤ 4096 = let h = nodes_few models order apart is nodes stand.0 in omega (arith, h, few, length-map files.models reader_of) in
      and_both _ _ (le-leb (length nodes) 4096 short) (and_both _ _ (nodes_ascend models order apart is nodes stand.0) (and_both _ _ (names_differ models order apart is nodes stand.0) stand.1))
