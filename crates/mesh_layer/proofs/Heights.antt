-- What shows rows shows them through more stored queries too, and there nothing is lost.
use Rattle.std.proofs.Common.{◌≡◌, ◌≢◌, ℕ, zero, suc, ◌+◌, ◌-◌, ◌≤◌, ◌<◌, Bool, true, false, cond, List, [], ◌∷◌, ◌++◌, map, length, take, get_or, Some, None, refl, sym, ap, ◌∙◌, subst, arith, add-one}
use Rattle.std.proofs.lemmas.List.{take_more}
use Rattle.std.specs.Option.{option_map, option_and_then}
use Rattle.std.specs.declared.option.Option.{Option}
use Rattle.mesh_base_values.specs.declared.values.Cell.{Cell}
use Rattle.mesh_base_values.specs.declared.values.Column.{Column}
use Rattle.mesh_base_values.specs.declared.values.Name.{Name}
use Rattle.mesh_base_values.specs.declared.values.Pair.{Pair}
use Rattle.mesh_base.specs.declared.jobs.Input.{Input}
use Rattle.mesh_base.specs.declared.definitions.Defn.{Defn}
use Rattle.mesh_base.specs.declared.definitions.Defn.TheVariants.{Seed, Sql}
use Rattle.mesh_base.specs.declared.definitions.Own.{Own}
use Rattle.mesh_base.specs.declared.queries.Query.{Query}
use Rattle.mesh_base.specs.rules.Seen.{or_no_columns}
use Rattle.mesh_spec_query.specs.Sel.{Sel}
use Rattle.mesh_spec_model.specs.Sources.{inputs}
use Rattle.mesh_spec_model.specs.Scratch.{no_bounds}
use Rattle.mesh_house.specs.declared.objects.Body.{Body}
use Rattle.mesh_house.specs.declared.objects.Body.TheVariants.{Rows, Stored}
use Rattle.mesh_house.specs.declared.world.World.{World}
use Rattle.mesh_house.specs.World.{object_at, body_of, columns_of, rows_of}
use Rattle.mesh_spec_changes.specs.shown.Shown.{body_rows, each_there, is_query_there, rows_through, stored_relations, stored_rows, target_table}
use Rattle.mesh_layer.specs.declared.known.Found.{Found}
use Rattle.mesh_layer.specs.Lost.{first_of, lost_behind, lost_among_tables, lost_in, lost_through, stored_query}
use Rattle.mesh_layer.specs.Read.{IsFound, body_through}

abbrev Table : Type 0
Table = List (List Cell)

-- a table for each target, where another function has the same
pub each_more : (f g : Pair → Option Input) → ((t : Pair) (x : Input) → f t ≡ Some x → g t ≡ Some x) → (ts : List Pair) (xs : List Input) → each_there (map f ts) ≡ Some xs → each_there (map g ts) ≡ Some xs
each_more f g more [] xs h = h
each_more f g more (t ∷ ts) xs h = at (each_more f g more ts) (f t) refl (each_there (map f ts)) refl h
  where
    at : ((ys : List Input) → each_there (map f ts) ≡ Some ys → each_there (map g ts) ≡ Some ys) → (o : Option Input) → f t ≡ o → (os : Option (List Input)) → each_there (map f ts) ≡ os → option_and_then (λ x. option_map (λ l. x ∷ l) os) o ≡ Some xs → each_there (map g (t ∷ ts)) ≡ Some xs
    at rest None e os es k = absurd (let no : None ≡ Some xs = k in cc)
    at rest (Some x) e None es k = absurd (let no : None ≡ Some xs = k in cc)
    at rest (Some x) e (Some ys) es k = rw (more t x e, rest ys es) k

-- one more target
pub each_then : {A : Type 0} (f : A → Option Input) (ts : List A) (t : A) (xs : List Input) (x : Input) → each_there (map f ts) ≡ Some xs → f t ≡ Some x → each_there (map f (ts ++ t ∷ [])) ≡ Some (xs ++ x ∷ [])
each_then f [] t xs x h e =
    let none : Some [] ≡ Some xs = h in
    let empty : [] ≡ xs = cc in
    rw e (ap (λ (l : List Input). Some (l ++ x ∷ [])) empty)
each_then f (s ∷ ts) t xs x h e = at (λ ys b. each_then f ts t ys x b e) (f s) refl (each_there (map f ts)) refl h
  where
    at : ((ys : List Input) → each_there (map f ts) ≡ Some ys → each_there (map f (ts ++ t ∷ [])) ≡ Some (ys ++ x ∷ [])) → (o : Option Input) → f s ≡ o → (os : Option (List Input)) → each_there (map f ts) ≡ os → option_and_then (λ y. option_map (λ l. y ∷ l) os) o ≡ Some xs → each_there (map f (s ∷ ts ++ t ∷ [])) ≡ Some (xs ++ x ∷ [])
    at rest None a os b k = absurd (let no : None ≡ Some xs = k in cc)
    at rest (Some y) a None b k = absurd (let no : None ≡ Some xs = k in cc)
    at rest (Some y) a (Some ys) b k =
        let all : y ∷ ys ≡ xs = (let both : Some (y ∷ ys) ≡ Some xs = k in cc) in
        rw (a, rest ys b) (ap (λ (l : List Input). Some (l ++ x ∷ [])) all)

target_more : (w : World) (f g : Name → Option Table) → ((n : Name) (rows : Table) → f n ≡ Some rows → g n ≡ Some rows) → (t : Pair) (x : Input) → target_table f w t ≡ Some x → target_table g w t ≡ Some x
target_more w f g more t x h = at (f t.second) refl h
  where
    make : Table → Input
    make rows = record { name = t.first; columns = or_no_columns (columns_of (object_at w t.second)); rows = rows }

    at : (o : Option Table) → f t.second ≡ o → option_map (λ (rows : Table). record { name = t.first; columns = or_no_columns (columns_of (object_at w t.second)); rows = rows }) o ≡ Some x → target_table g w t ≡ Some x
    at None e k = absurd (let no : None ≡ Some x = k in cc)
    at (Some rows) e k = rw (more t.second rows e) k

stored_more : (own : Own) (ts : List Pair) (d : Defn) (sources : List Input) (a b : Option (List Input)) → ((xs : List Input) → a ≡ Some xs → b ≡ Some xs) → (rows : Table) → stored_rows own ts d sources a ≡ Some rows → stored_rows own ts d sources b ≡ Some rows
stored_more own ts (Seed columns r) sources a b more rows h = absurd (let no : None ≡ Some rows = h in cc)
stored_more own ts (Sql q) sources a b more rows h = at (is_query_there (stored_relations own ts) q) a refl h
  where
    at : (is : Bool) (o : Option (List Input)) → a ≡ o → cond is (option_map (λ (xs : List Input). Sel q (inputs sources own xs) no_bounds) o) None ≡ Some rows → cond is (option_map (λ (xs : List Input). Sel q (inputs sources own xs) no_bounds) b) None ≡ Some rows
    at false o e k = k
    at true None e k = absurd (let no : None ≡ Some rows = k in cc)
    at true (Some xs) e k = rw (more xs e) k

body_more : (w : World) (f g : Name → Option Table) → ((n : Name) (rows : Table) → f n ≡ Some rows → g n ≡ Some rows) → (b : Body) (rows : Table) → body_rows f w b ≡ Some rows → body_rows g w b ≡ Some rows
body_more w f g more (Rows r) rows h = h
body_more w f g more (Stored own ts) rows h =
    stored_more own ts own.defn w.sources (each_there (map (target_table f w) ts)) (each_there (map (target_table g w) ts))
    (each_more (target_table f w) (target_table g w) (target_more w f g more) ts) rows h

rows_more : (w : World) (d : ℕ) (n : Name) (rows : Table) → rows_through d w n ≡ Some rows → rows_through (suc d) w n ≡ Some rows
rows_more w zero n rows h = at (body_of (object_at w n)) h
  where
    at : (b : Option Body) → rows_of b ≡ Some rows → option_and_then (body_rows (rows_through zero w) w) b ≡ Some rows
    at None k = k
    at (Some (Rows r)) k = k
    at (Some (Stored own ts)) k = absurd (let no : None ≡ Some rows = k in cc)
rows_more w (suc d) n rows h = at (rows_more w d) (body_of (object_at w n)) h
  where
    at : ((m : Name) (r : Table) → rows_through d w m ≡ Some r → rows_through (suc d) w m ≡ Some r) → (b : Option Body) → option_and_then (body_rows (rows_through d w) w) b ≡ Some rows → option_and_then (body_rows (rows_through (suc d) w) w) b ≡ Some rows
    at more None k = k
    at more (Some b) k = body_more w (rows_through d w) (rows_through (suc d) w) more b rows k

climbs : (w : World) (k d e : ℕ) → d + k ≡ e → (n : Name) (rows : Table) → rows_through d w n ≡ Some rows → rows_through e w n ≡ Some rows
climbs w zero d e is n rows h = let same : d ≡ e = omega arith in subst (λ (m : ℕ). rows_through m w n ≡ Some rows) same h
climbs w (suc k) d e is n rows h = climbs w k (suc d) e (omega arith) n rows (rows_more w d n rows h)

-- rows through so many stored queries are those through more
pub rows_higher : (w : World) (d e : ℕ) → d ≤ e → (n : Name) (rows : Table) → rows_through d w n ≡ Some rows → rows_through e w n ≡ Some rows
rows_higher w d e le = climbs w (e - d) d e (omega arith)

pub tables_higher : (w : World) (d e : ℕ) → d ≤ e → (ts : List Pair) (xs : List Input) → each_there (map (target_table (rows_through d w) w) ts) ≡ Some xs → each_there (map (target_table (rows_through e w) w) ts) ≡ Some xs
tables_higher w d e le = each_more (target_table (rows_through d w) w) (target_table (rows_through e w) w) (target_more w (rows_through d w) (rows_through e w) (rows_higher w d e le))

-- where each has a table, none is lost
pub none_lost : {A : Type 0} (f : A → Option Input) (g : A → Option Name) → ((a : A) (x : Input) → f a ≡ Some x → g a ≡ None) → (ts : List A) (xs : List Input) → each_there (map f ts) ≡ Some xs → first_of (map g ts) ≡ None
none_lost f g none [] xs h = refl
none_lost f g none (t ∷ ts) xs h = at (none_lost f g none ts) (f t) refl (each_there (map f ts)) refl h
  where
    at : ((ys : List Input) → each_there (map f ts) ≡ Some ys → first_of (map g ts) ≡ None) → (o : Option Input) → f t ≡ o → (os : Option (List Input)) → each_there (map f ts) ≡ os → option_and_then (λ x. option_map (λ l. x ∷ l) os) o ≡ Some xs → first_of (map g (t ∷ ts)) ≡ None
    at rest None a os b k = absurd (let no : None ≡ Some xs = k in cc)
    at rest (Some x) a None b k = absurd (let no : None ≡ Some xs = k in cc)
    at rest (Some x) a (Some ys) b k = rw (none t x a) (rest ys b)

-- a target with a table isn't lost
pub target_found : (w : World) (f : Name → Option Table) (lost : Name → Option Name) → ((n : Name) (rows : Table) → f n ≡ Some rows → lost n ≡ None) → (t : Pair) (x : Input) → target_table f w t ≡ Some x → lost t.second ≡ None
target_found w f lost none t x h = at (f t.second) refl h
  where
    at : (o : Option Table) → f t.second ≡ o → option_map (λ (rows : Table). record { name = t.first; columns = or_no_columns (columns_of (object_at w t.second)); rows = rows }) o ≡ Some x → lost t.second ≡ None
    at None e k = absurd (let no : None ≡ Some x = k in cc)
    at (Some rows) e k = none t.second rows e

targets_found : (w : World) (f : Name → Option Table) (lost : Name → Option Name) → ((n : Name) (rows : Table) → f n ≡ Some rows → lost n ≡ None) → (ts : List Pair) (xs : List Input) → each_there (map (target_table f w) ts) ≡ Some xs → first_of (map (λ (t : Pair). lost t.second) ts) ≡ None
targets_found w f lost none = none_lost (target_table f w) (λ (t : Pair). lost t.second) (target_found w f lost none)

stored_found : (w : World) (own : Own) (ts : List Pair) (n : Name) (d : Defn) (f : Name → Option Table) (lost : Name → Option Name) → ((m : Name) (rows : Table) → f m ≡ Some rows → lost m ≡ None) → (rows : Table)
    → stored_rows own ts d w.sources (each_there (map (target_table f w) ts)) ≡ Some rows → lost_behind lost n ts (stored_query own ts d) ≡ None
stored_found w own ts n (Seed columns r) f lost none rows h = absurd (let no : None ≡ Some rows = h in cc)
stored_found w own ts n (Sql q) f lost none rows h = at (is_query_there (stored_relations own ts) q) (each_there (map (target_table f w) ts)) refl h
  where
    at : (is : Bool) (o : Option (List Input)) → each_there (map (target_table f w) ts) ≡ o → cond is (option_map (λ (xs : List Input). Sel q (inputs w.sources own xs) no_bounds) o) None ≡ Some rows → lost_behind lost n ts (cond is (Some q) None) ≡ None
    at false o e k = absurd (let no : None ≡ Some rows = k in cc)
    at true None e k = absurd (let no : None ≡ Some rows = k in cc)
    at true (Some xs) e k = targets_found w f lost none ts xs e

-- an object with rows isn't lost
pub rows_found : (w : World) (d : ℕ) (n : Name) (rows : Table) → rows_through d w n ≡ Some rows → lost_through d w n ≡ None
rows_found w zero n rows h = at (body_of (object_at w n)) h
  where
    at : (b : Option Body) → rows_of b ≡ Some rows → lost_among_tables n b ≡ None
    at None k = absurd (let no : None ≡ Some rows = k in cc)
    at (Some (Rows r)) k = refl
    at (Some (Stored own ts)) k = absurd (let no : None ≡ Some rows = k in cc)
rows_found w (suc d) n rows h = at (rows_found w d) (body_of (object_at w n)) h
  where
    at : ((m : Name) (r : Table) → rows_through d w m ≡ Some r → lost_through d w m ≡ None) → (b : Option Body) → option_and_then (body_rows (rows_through d w) w) b ≡ Some rows → lost_in (lost_through d w) n b ≡ None
    at none None k = absurd (let no : None ≡ Some rows = k in cc)
    at none (Some (Rows r)) k = refl
    at none (Some (Stored own ts)) k = stored_found w own ts n own.defn (rows_through d w) (lost_through d w) none rows k

pub tables_found : (w : World) (d : ℕ) (ts : List Pair) (xs : List Input) → each_there (map (target_table (rows_through d w) w) ts) ≡ Some xs → first_of (map (λ (t : Pair). lost_through d w t.second) ts) ≡ None
tables_found w d = targets_found w (rows_through d w) (lost_through d w) (rows_found w d)

-- an object that is lost has no rows
pub lost_shows_none : (w : World) (d : ℕ) (n o : Name) → lost_through d w n ≡ Some o → rows_through d w n ≡ None
lost_shows_none w d n o h = at (rows_through d w n) refl
  where
    at : (r : Option Table) → rows_through d w n ≡ r → rows_through d w n ≡ None
    at None e = e
    at (Some rows) e = absurd (let found : lost_through d w n ≡ None = rows_found w d n rows e in cc)

-- the first that is lost, where none is before it
pub first_at : {A : Type 0} (g : A → Option Name) (ts : List A) (i : ℕ) (t : A) (o : Name) → i < length ts → t ≡ get_or ts i t → first_of (map g (take i ts)) ≡ None → g t ≡ Some o → first_of (map g ts) ≡ Some o
first_at g [] i t o lt here none h = absurd (omega arith)
first_at g (s ∷ ts) zero t o lt here none h = rw (ap g (sym here) ∙ h) refl
first_at g (s ∷ ts) (suc i) t o lt here none h = at (λ k. first_at g ts i t o (omega arith) here k h) (g s) refl none
  where
    at : (first_of (map g (take i ts)) ≡ None → first_of (map g ts) ≡ Some o) → (x : Option Name) → g s ≡ x → first_of (x ∷ map g (take i ts)) ≡ None → first_of (map g (s ∷ ts)) ≡ Some o
    at rest None e k = rw e (rest k)
    at rest (Some y) e k = absurd (let no : Some y ≡ None = k in cc)

-- what is found behind a target, as a table
pub target_is : (w : World) (d : ℕ) (t : Pair) (f : Found) → f.height ≤ d → IsFound w t.second f → target_table (rows_through d w) w t ≡ Some (record { name = t.first; columns = f.columns; rows = f.rows })
target_is w d t f le is =
    ap (option_map (λ (rows : Table). record { name = t.first; columns = or_no_columns (columns_of (object_at w t.second)); rows = rows })) (rows_higher w f.height d le t.second f.rows is.rows)
    ∙ ap (λ (columns : List Column). Some (record { name = t.first; columns = columns; rows = f.rows })) is.columns

-- one more that has a table
pub each_step : {A : Type 0} (f : A → Option Input) (ts : List A) (i : ℕ) (t : A) (xs : List Input) (x : Input) → i < length ts → t ≡ get_or ts i t → each_there (map f (take i ts)) ≡ Some xs → f t ≡ Some x → each_there (map f (take (i + 1) ts)) ≡ Some (xs ++ x ∷ [])
each_step {A = A} f ts i t xs x lt here all is =
    ap (λ (l : List A). each_there (map f l)) (take_more ts i t lt ∙ ap (λ (p : A). take i ts ++ p ∷ []) (sym here))
    ∙ each_then f (take i ts) t xs x all is

-- the same behind the targets so far
pub tables_more : (w : World) (d e : ℕ) (ts : List Pair) (i : ℕ) (t : Pair) (xs : List Input) (f : Found) → d ≤ e → f.height ≤ e → i < length ts → t ≡ get_or ts i t
    → each_there (map (target_table (rows_through d w) w) (take i ts)) ≡ Some xs → IsFound w t.second f
    → each_there (map (target_table (rows_through e w) w) (take (i + 1) ts)) ≡ Some (xs ++ record { name = t.first; columns = f.columns; rows = f.rows } ∷ [])
tables_more w d e ts i t xs f le lf lt here all is =
    each_step (target_table (rows_through e w) w) ts i t xs (record { name = t.first; columns = f.columns; rows = f.rows }) lt here (tables_higher w d e le (take i ts) xs all) (target_is w e t f lf is)

query_shown : (own : Own) (ts : List Pair) (q : Query) (d : Defn) (sources xs : List Input) → stored_query own ts d ≡ Some q → stored_rows own ts d sources (Some xs) ≡ Some (Sel q (inputs sources own xs) no_bounds)
query_shown own ts q (Seed columns r) sources xs h = absurd (let no : None ≡ Some q = h in cc)
query_shown own ts q (Sql p) sources xs h = at (is_query_there (stored_relations own ts) p) h
  where
    at : (is : Bool) → cond is (Some p) None ≡ Some q → cond is (option_map (λ (tables : List Input). Sel p (inputs sources own tables) no_bounds) (Some xs)) None ≡ Some (Sel q (inputs sources own xs) no_bounds)
    at false k = absurd (let no : None ≡ Some q = k in cc)
    at true k = let same : p ≡ q = (let both : Some p ≡ Some q = k in cc) in ap (λ (s : Query). Some (Sel s (inputs sources own xs) no_bounds)) same

-- a stored query shows its rows
pub stored_shown : (w : World) (own : Own) (ts : List Pair) (q : Query) (height : ℕ) (xs : List Input) (rows : Table) → stored_query own ts own.defn ≡ Some q → each_there (map (target_table (rows_through height w) w) ts) ≡ Some xs
    → rows ≡ Sel q (inputs w.sources own xs) no_bounds → body_through (height + 1) w (Stored own ts) ≡ Some rows
stored_shown w own ts q height xs rows h all is =
    rw add-one (ap (stored_rows own ts own.defn w.sources) all ∙ query_shown own ts q own.defn w.sources xs h ∙ ap Some (sym is))

-- what an object's body shows, the object shows
pub body_shown : (w : World) (d : ℕ) (n : Name) (b : Body) (rows : Table) → body_of (object_at w n) ≡ Some b → body_through d w b ≡ Some rows → rows_through d w n ≡ Some rows
body_shown w zero n b rows here h = ap rows_of here ∙ h
body_shown w (suc d) n b rows here h = ap (option_and_then (body_rows (rows_through d w) w)) here ∙ h

-- what is lost behind an object's body is lost behind the object
pub lost_deeper : (w : World) (d : ℕ) (n : Name) (b : Body) (o : Name) → 0 < d → body_of (object_at w n) ≡ Some b → lost_in (lost_through (d - 1) w) n (Some b) ≡ Some o → lost_through d w n ≡ Some o
lost_deeper w zero n b o lt here is = absurd (omega arith)
lost_deeper w (suc d) n b o lt here is =
    let same : suc d - 1 ≡ d = omega arith in
    ap (lost_in (lost_through d w) n) here ∙ subst (λ (m : ℕ). lost_in (lost_through m w) n (Some b) ≡ Some o) same is

-- an object that isn't there is lost
pub nothing_there : (w : World) (d : ℕ) (n : Name) (b : Option Body) → ((x : Body) → b ≢ Some x) → b ≡ body_of (object_at w n) → lost_through d w n ≡ Some n
nothing_there w zero n None other is = ap (lost_among_tables n) (sym is)
nothing_there w (suc d) n None other is = ap (lost_in (lost_through d w) n) (sym is)
nothing_there w d n (Some x) other is = absurd (other x refl)

-- where no stored query may stand, one is lost
pub too_deep : (w : World) (d : ℕ) (n : Name) (own : Own) (ts : List Pair) → d ≡ 0 → body_of (object_at w n) ≡ Some (Stored own ts) → lost_through d w n ≡ Some n
too_deep w zero n own ts none here = ap (lost_among_tables n) here
too_deep w (suc d) n own ts none here = absurd (omega (arith, none))
