-- No question tells of a sound world that it is damaged: its book breaks no rule, and what stands behind the views of
-- an environment shows rows.
use Rattle.std.proofs.Common.{◌≡◌, ℕ, Bool, true, false, cond, nat_eq, inl, inr, List, [], ◌∷◌, map, Option, Some, None, Ok, Err, Result, refl, sym, ap, ◌∙◌, subst}
use Rattle.std.proofs.lemmas.Map.Lookups.{exact_bytes}
use Rattle.std.specs.List.{list_all}
use Rattle.std.specs.Option.{option_and_then}
use Rattle.std.specs.Ordering.{is_eq}
use Rattle.mesh_base_values.specs.Names.{name_cmp, text_cmp}
use Rattle.mesh_base_values.specs.declared.times.Bounds.{Bounds}
use Rattle.mesh_base_values.specs.declared.values.Cell.{Cell}
use Rattle.mesh_base_values.specs.declared.values.Column.{Column}
use Rattle.mesh_base_values.specs.declared.values.Name.{Name}
use Rattle.mesh_query_tokens.specs.Text.{tokens}
use Rattle.mesh_query_tokens.specs.declared.faults.ReadFault.{ReadFault}
use Rattle.mesh_query_tokens.specs.declared.faults.ReadFault.TheVariants as read
use Rattle.mesh_query_grammar.specs.declared.surface.queries.Surface.{Surface}
use Rattle.mesh_base.specs.Keys.{env_name, ref_name}
use Rattle.mesh_base.specs.Outputs.{columns_of, select_columns}
use Rattle.mesh_base.specs.declared.definitions.Defn.TheVariants.{Sql}
use Rattle.mesh_base.specs.declared.queries.Query.{Query}
use Rattle.mesh_base.specs.declared.snapshots.Env.{Env}
use Rattle.mesh_base.specs.declared.snapshots.Ref.{Ref}
use Rattle.mesh_base.specs.declared.snapshots.Snapshot.{Snapshot}
use Rattle.mesh_base.specs.rules.Proper.{defn_names, is_among}
use Rattle.mesh_house_book.specs.WellFormed.{book_fault, has_parents, is_listed, is_well_formed_book, parents_at, snapshot_at}
use Rattle.mesh_house_book.specs.declared.book.Book.{Book}
use Rattle.mesh_house_book.specs.declared.fault.BookFault.{BookFault}
use Rattle.mesh_house_book.proofs.Breaches.{without_fault}
use Rattle.mesh_house_book.proofs.Exchanged.{found_key}
use Rattle.mesh_law_query.proofs.Finding.{one_passes}
use Rattle.mesh_law_query.proofs.Has.{Has, Has_filter_from, Has_map_from, Has_to}
use Rattle.mesh_house.specs.World.{view}
use Rattle.mesh_house.specs.declared.world.World.{World}
use Rattle.mesh_spec_changes.specs.due.Parts.{Parts}
use Rattle.mesh_spec_changes.specs.Environments.{IsEnv, env_at, view_in}
use Rattle.mesh_layer.specs.Asked.{asked, asked_models, listed_in, lost_asked, lost_model, lost_table}
use Rattle.mesh_layer.specs.Lost.{first_of}
use Rattle.mesh_layer.proofs.Heights.{rows_found}
use Rattle.mesh_spec_promise.specs.Sound.{Sound}
use Rattle.mesh_law_changes.proofs.EnvLaws.{listed_snapshot}
use Rattle.mesh_law_promise.proofs.shown.Standing.{list_stands, listed_has, listed_shows}
use Rattle.mesh_resolve.specs.Queries.{resolved}
use Rattle.mesh_resolve.specs.declared.known.Known.{Known}
use Rattle.mesh_exec.specs.Sources.{model_breach}
use Rattle.mesh_exec.specs.declared.sources.Breach.{Breach}
use Rattle.mesh_cli_print.specs.declared.printed.refusals.Refusal.{Refusal}
use Rattle.mesh_cli_print.specs.declared.printed.refusals.Refusal.TheVariants.{BookBroken, EnvPending, EnvUnknown, StateOld}
use Rattle.mesh_cli_look.specs.asking.Evaluated.{evaluated, found_rows, lacks, listed, lost_behind, model_text, parents_of, snapshot_of}
use Rattle.mesh_cli_look.specs.asking.Fetched.{fetched, known_of, of_word, seen, tree_over, word, word_over, worded}
use Rattle.mesh_cli_look.specs.asking.Looks.{◌>>=◌, final_list, list_of, present_list, printed}
use Rattle.mesh_cli.specs.promise.Stages.{tells_of_damage}

-- an answer that tells of no damage
abbrev pub Quiet : {T : Type 0} → Result T Refusal → Type 0
Quiet (Ok y) = Unit {0}
Quiet (Err why) = tells_of_damage why ≡ true → ⊥

-- a well formed book breaks no rule
pub no_breach : (b : Book) → is_well_formed_book b ≡ true → book_fault b ≡ None
no_breach b whole = go (book_fault b) refl
  where
    go : (o : Option BookFault) → book_fault b ≡ o → o ≡ None
    go None is = refl
    go (Some f) is = absurd (let clash : true ≡ false = (without_fault b (Some f) (sym is)).1 whole in cc)

-- one step that tells of none, and then the next
then_quiet : {A B : Type 0} (m : Result A Refusal) (next : A → Result B Refusal) → Quiet m → ((y : A) → m ≡ Ok y → Quiet (next y)) → Quiet (m >>= next)
then_quiet (Ok y) next first rest = rest y refl
then_quiet (Err e) next first rest = first

-- where the last step gives something, so did the first
first_gave : {A B : Type 0} (m : Result A Refusal) (next : A → Result B Refusal) (y : B) → m >>= next ≡ Ok y → (z : A) × (m ≡ Ok z)
first_gave (Ok z) next y h = (z, refl)
first_gave (Err e) next y h = absurd (let clash : Err e ≡ Ok y = h in cc)

-- the list of an environment is that of one which is there and isn't pending
record IsListOf (b : Book) (env : List ℕ) : Type 0 where
  its : Env
  known : env_at b env ≡ Some its
  final : its.pending ≡ false

module _ (b : Book) (env : List ℕ) where
  -- it isn't there or is pending, or the book is of another version: no damage is told of
  final_quiet : (e : Option Env) → Quiet (final_list env e)
  final_quiet None = λ damage. cc
  final_quiet (Some e) = go e.pending
    where
      go : (p : Bool) → Quiet (cond p (Err (EnvPending env)) (Ok e.list))
      go true = λ damage. cc
      go false = tt

  present_quiet : Quiet (present_list b env None)
  present_quiet = go (nat_eq b.version 2)
    where
      go : (v : Bool) → Quiet (cond v (final_list env (env_at b env)) (Err (StateOld b.version)))
      go true = final_quiet (env_at b env)
      go false = λ damage. cc

  list_quiet : book_fault b ≡ None → Quiet (list_of b env)
  list_quiet fit = subst (λ (f : Option BookFault). Quiet (present_list b env f)) (sym fit) present_quiet

  -- and where there is a list, it is that of such an environment
  module _ (list : List Ref) where
    final_given : (e : Option Env) → env_at b env ≡ e → final_list env e ≡ Ok list → (of : IsListOf b env) × (of.its.list ≡ list)
    final_given None at h = absurd (let clash : Err (EnvUnknown env) ≡ Ok list = h in cc)
    final_given (Some e) at h = go e.pending refl h
      where
        go : (p : Bool) → e.pending ≡ p → cond p (Err (EnvPending env)) (Ok e.list) ≡ Ok list → (of : IsListOf b env) × (of.its.list ≡ list)
        go true is k = absurd (let clash : Err (EnvPending env) ≡ Ok list = k in cc)
        go false is k = (record { its = e; known = at; final = is }, let both : Ok e.list ≡ Ok list = k in cc)

    present_given : (f : Option BookFault) → present_list b env f ≡ Ok list → (of : IsListOf b env) × (of.its.list ≡ list)
    present_given (Some f) h = absurd (let clash : Err (BookBroken f.part f.place) ≡ Ok list = h in cc)
    present_given None h = go (nat_eq b.version 2) h
      where
        go : (v : Bool) → cond v (final_list env (env_at b env)) (Err (StateOld b.version)) ≡ Ok list → (of : IsListOf b env) × (of.its.list ≡ list)
        go true k = final_given (env_at b env) refl k
        go false k = absurd (let clash : Err (StateOld b.version) ≡ Ok list = k in cc)

    list_given : list_of b env ≡ Ok list → (of : IsListOf b env) × (of.its.list ≡ list)
    list_given = present_given (book_fault b)

-- the model of a name is one of the list
listed_is : (name : Name) (r : Ref) (list : List Ref) → listed list name ≡ Some r → Has r list
listed_is name r [] h = absurd (let clash : None ≡ Some r = h in cc)
listed_is name r (q ∷ qs) h = go (is_eq (name_cmp q.name name)) (listed_is name r qs) h
  where
    go : (b : Bool) → (listed qs name ≡ Some r → Has r qs) → cond b (Some q) (listed qs name) ≡ Some r → Has r (q ∷ qs)
    go true rest k = inl (let both : Some q ≡ Some r = k in cc)
    go false rest k = inr (rest k)

-- its snapshot is that of an entry
snapshot_listed : (all : List Snapshot) (list : List Ref) (name : Name) (s : Snapshot) → snapshot_of all list name ≡ Some s → (r : Ref) × Has r list × (snapshot_at all r ≡ Some s)
snapshot_listed all list name s h = go (listed list name) refl h
  where
    go : (o : Option Ref) → listed list name ≡ o → option_and_then (snapshot_at all) o ≡ Some s → (r : Ref) × Has r list × (snapshot_at all r ≡ Some s)
    go None e k = absurd (let clash : None ≡ Some s = k in cc)
    go (Some r) e k = (r, listed_is name r list e, k)

-- where none of them is lost, there is no first one
none_first : {A : Type 0} (lost : A → Option Name) (xs : List A) → ((a : A) → Has a xs → lost a ≡ None) → first_of (map lost xs) ≡ None
none_first lost [] none = refl
none_first lost (a ∷ others) none = ap (λ (o : Option Name). first_of (o ∷ map lost others)) (none a (inl refl)) ∙ none_first lost others (λ b k. none b (inr k))

-- where nothing is lost, nothing is told of
none_told : (columns : List Column) (rows : Option (List (List Cell))) (lost : Option Name) → lost ≡ None → Quiet (printed columns rows lost)
none_told columns (Some rows) lost none = tt
none_told columns None None none = λ damage. cc
none_told columns None (Some object) none = absurd (let clash : Some object ≡ None = none in cc)

-- of a sound world, by an environment that is there and isn't pending
module _ (x : Parts) (w : World) (sound : Sound x w) (env : List ℕ) (of : IsListOf w.book env) where
  abbrev all : List Snapshot
  all = w.book.snapshots

  abbrev list : List Ref
  list = of.its.list

  -- it is the book's environment of its name
  named : of.its.name ≡ env
  named = found_key text_cmp env_name exact_bytes env of.its w.book.environments of.known

  is_env : IsEnv w.book of.its
  is_env = ap (env_at w.book) named ∙ of.known

  -- the view of an entry points at an object with rows
  entry_found : (r : Ref) → Has r list → lost_model env w r.name ≡ None
  entry_found r h =
      let (s, at) = listed_snapshot x w sound of.its is_env r (Has_to list r h) in
      let points : view w (view_in env r.name) ≡ Some s.object = ap (λ (n : List ℕ). view w (view_in n r.name)) (sym named) ∙ sound.views.final of.its is_env of.final r (Has_to list r h) s at in
      let (rows, shown) = listed_shows x w sound list (list_stands x w sound of.its is_env) r s h at in
      ap (lost_table w (view_in env r.name)) points ∙ rows_found w 4096 s.object rows shown

  name_found : (name : Name) → Has name (map ref_name list) → lost_model env w name ≡ None
  name_found name h = let (r, k, is) = Has_map_from ref_name list name h in subst (λ (n : Name). lost_model env w n ≡ None) is (entry_found r k)

  -- the list has the parents of its entries
  parent_listed : (r : Ref) → Has r list → (s : Snapshot) → snapshot_at all r ≡ Some s → (q : Ref) → Has q s.parents → Has q list
  parent_listed r h s at q k =
      let its : has_parents all list r ≡ true = one_passes (has_parents all list) list r (list_stands x w sound of.its is_env).parents h in
      let theirs : list_all (is_listed list) s.parents ≡ true = ap (λ (o : Option Snapshot). list_all (is_listed list) (parents_at o)) (sym at) ∙ its in
      listed_has list q (one_passes (is_listed list) s.parents q theirs k)

  -- nothing is lost behind an entry
  none_behind : (r : Ref) → Has r list → (s : Snapshot) → snapshot_at all r ≡ Some s → lost_behind env s w ≡ None
  none_behind r h s at =
      none_first (lost_model env w) (parents_of s) (λ name k. let (q, i, is) = Has_map_from ref_name s.parents name k in
      subst (λ (n : Name). lost_model env w n ≡ None) is (entry_found q (parent_listed r h s at q i)))

  -- nor behind a query
  none_asked : (q : Query) → lost_asked w.book env q w ≡ None
  none_asked q =
      none_first (lost_model env w) (asked_models w.book env q) (λ name k. name_found name
      (subst (λ (e : Option Env). Has name (map ref_name (listed_in e))) of.known (Has_filter_from (is_among (defn_names (Sql q))) (map ref_name (listed_in (env_at w.book env))) name k).0))

  -- the text of a model tells of none
  model_quiet : (model : Name) (u : Bounds) (o : Option Snapshot) → snapshot_of all list model ≡ o → Quiet (model_text env model u w o)
  model_quiet model u None at = λ damage. cc
  model_quiet model u (Some s) at =
      let (r, k, is) = snapshot_listed all list model s at in
      then_quiet (lacks model (model_breach w.sources s.own.sources)) (λ there. printed (columns_of s.own) (found_rows env s u w) (lost_behind env s w)) (lacks_quiet (model_breach w.sources s.own.sources))
      (λ there given. none_told (columns_of s.own) (found_rows env s u w) (lost_behind env s w) (none_behind r k s is))
    where
      lacks_quiet : (breach : Option Breach) → Quiet (lacks model breach)
      lacks_quiet None = tt
      lacks_quiet (Some breach) = λ damage. cc

-- what is read of words tells of none
of_word_quiet : (f : ReadFault) → tells_of_damage (of_word f) ≡ true → ⊥
of_word_quiet (read.Fault at kind) damage = cc
of_word_quiet read.Memory damage = cc

word_quiet : {T : Type 0} (r : Result T ReadFault) → Quiet (word r)
word_quiet (Ok y) = tt
word_quiet (Err f) = of_word_quiet f

-- nor does reading the words' query
word_over_quiet : (known : Known) (text : List ℕ) (query : Result Surface ReadFault) → Quiet (word_over known text query)
word_over_quiet known text query =
    then_quiet (word (tokens text)) (λ ts. tree_over known query) (word_quiet (tokens text))
    (λ ts given. then_quiet (word query) (λ tree. word (resolved known tree)) (word_quiet query) (λ tree read. word_quiet (resolved known tree)))

-- nor finding what it may name
known_quiet : (b : Book) (env : List ℕ) → book_fault b ≡ None → Quiet (known_of b env)
known_quiet b env fit = then_quiet (list_of b env) (λ list. Ok (seen b list)) (list_quiet b env fit) (λ list given. tt)

module _ (x : Parts) (w : World) (sound : Sound x w) (env : List ℕ) where
  -- the rows of a model
  pub evaluated_quiet : (model : Name) (u : Bounds) → Quiet (evaluated w.book env model u w)
  evaluated_quiet model u =
      then_quiet (list_of w.book env) (λ list. model_text env model u w (snapshot_of w.book.snapshots list model)) (list_quiet w.book env (no_breach w.book sound.book.well_formed))
      (λ list given. let (of, is) = list_given w.book env list given in
      subst (λ (l : List Ref). Quiet (model_text env model u w (snapshot_of w.book.snapshots l model))) is (model_quiet x w sound env of model u (snapshot_of w.book.snapshots of.its.list model) refl))

  -- and of a query
  pub fetched_quiet : (text : List ℕ) (query : Result Surface ReadFault) → Quiet (fetched w.book env text query w)
  fetched_quiet text query =
      then_quiet (worded w.book env text query) (λ q. printed (select_columns q.selects) (asked w.book env q w) (lost_asked w.book env q w))
      (then_quiet (known_of w.book env) (λ known. word_over known text query) (known_quiet w.book env (no_breach w.book sound.book.well_formed)) (λ known given. word_over_quiet known text query))
      (λ q given. let (known, named) = first_gave (known_of w.book env) (λ known. word_over known text query) q given in
      let (list, there) = first_gave (list_of w.book env) (λ list. Ok (seen w.book list)) known named in
      let (of, is) = list_given w.book env list there in
      none_told (select_columns q.selects) (asked w.book env q w) (lost_asked w.book env q w) (none_asked x w sound env of q))
