-- A query's rows are one bag where its inputs are, as far as it reads their columns.
use Rattle.std.proofs.Common.{◌≡◌, Bool, true, false, cond, ◌||◌, List, [], ◌∷◌, map, refl, ap, sym, ◌∙◌, subst}
use Rattle.std.specs.List.{All, flat_map, list_any}
use Rattle.std.specs.Ordering.{is_eq}
use Rattle.std.specs.declared.option.Option.{Option}
use Rattle.std.specs.declared.option.Option.TheVariants.{Some}
use Rattle.std.proofs.lemmas.Cmp.{tied_itself}
use Rattle.std.proofs.lemmas.List.Elements.{All-nil, All-cons, All-head, All-tail}
use Rattle.std.proofs.lemmas.Bool.{or_right as later}
use Rattle.mesh_base_values.specs.Bag.{IsSameBag}
use Rattle.mesh_base_values.specs.NameOrder.{names_total, names_exact}
use Rattle.mesh_base_values.specs.Kinds.{is_incremental}
use Rattle.mesh_base_values.specs.Names.{name_cmp}
use Rattle.mesh_base_values.specs.declared.times.Bounds.{Bounds}
use Rattle.mesh_base_values.specs.declared.values.ColType.TheVariants.{Text}
use Rattle.mesh_base_values.specs.declared.values.Name.{Name}
use Rattle.mesh_base_values.proofs.Equals.{equal_of}
use Rattle.mesh_base.specs.declared.jobs.Input.{Input}
use Rattle.mesh_base.specs.declared.definitions.Defn.{Defn}
use Rattle.mesh_base.specs.declared.definitions.Defn.TheVariants.{Seed, Sql}
use Rattle.mesh_base.specs.declared.definitions.Own.{Own}
use Rattle.mesh_base.specs.declared.queries.Query.{Query}
use Rattle.mesh_spec_query.specs.Tables.{columns_in, rows_in}
use Rattle.mesh_spec_query.specs.Sel.{Sel}
use Rattle.mesh_spec_model.specs.Scratch.{defn_rows, is_of_unit, no_bounds, piece_over, rows_over}
use Rattle.mesh_law_query.specs.Alike.{names, named, IsSameTable}
use Rattle.mesh_law_query.specs.Reads.{defn_reads}
use Rattle.mesh_law_query.specs.Cuts.{cut, AgreeAsBags}
use Rattle.mesh_law_query.proofs.Reading.{sel_reads}
use Rattle.mesh_law_query.proofs.Cutting.{under, twice}
use Rattle.mesh_law_query.proofs.Perm.{Perm, filtered, flat_each}
use Rattle.mesh_law_query.proofs.Bags.{bag_is_perm, counts_same, sel_bag}

module _ (q : Query) (a : List Input) where
  -- a table with what is read of a name, all its columns of one type
  abbrev plain : Name → Input
  plain name = record { name = name; columns = under (λ c. Text) (defn_reads (Sql q) name); rows = cut (defn_reads (Sql q) name) (named a name) }

  -- under each of the names it is found
  plain_named : (name : Name) (all : List Name) → list_any (λ n. is_eq (name_cmp n name)) all ≡ true → named (map plain all) name ≡ Some (plain name)
  plain_named name [] h = absurd (cc)
  plain_named name (n ∷ all) h = go (is_eq (name_cmp n name)) refl h (plain_named name all)
    where
      go : (b : Bool) → is_eq (name_cmp n name) ≡ b → (b || list_any (λ n. is_eq (name_cmp n name)) all) ≡ true → (list_any (λ n. is_eq (name_cmp n name)) all ≡ true → named (map plain all) name ≡ Some (plain name))
          → cond b (Some (plain n)) (named (map plain all) name) ≡ Some (plain name)
      go true e h ih = ap (λ n. Some (plain n)) (names_exact n name (equal_of (name_cmp n name) e))
      go false e h ih = ih h

  plain_agrees : (name : Name) (all : List Name) → list_any (λ n. is_eq (name_cmp n name)) all ≡ true → cut (defn_reads (Sql q) name) (named a name) ≡ cut (defn_reads (Sql q) name) (named (map plain all) name)
  plain_agrees name all h =
      sym (ap (cut (defn_reads (Sql q) name)) (plain_named name all h) ∙ twice (λ c. Text) (defn_reads (Sql q) name) (columns_in (named a name)) (rows_in (named a name)))

-- each of some names is among them
each_here : (P : Name → Type 0) (all : List Name) → ((name : Name) → list_any (λ n. is_eq (name_cmp n name)) all ≡ true → P name) → All P all
each_here P [] h = All-nil P
each_here P (n ∷ all) h =
    All-cons P n all (h n (ap (λ b. b || list_any (λ m. is_eq (name_cmp m n)) all) (ap is_eq (tied_itself names_total n))))
    (each_here P all (λ name k. h name (later (is_eq (name_cmp n name)) (list_any (λ n. is_eq (name_cmp n name)) all) k)))

all_at : (P : Name → Type 0) (all : List Name) → All P all → (name : Name) → list_any (λ n. is_eq (name_cmp n name)) all ≡ true → P name
all_at P [] h name k = absurd (cc)
all_at P (n ∷ all) h name k = go (is_eq (name_cmp n name)) refl k (all_at P all (All-tail P n all h) name)
  where
    go : (b : Bool) → is_eq (name_cmp n name) ≡ b → (b || list_any (λ n. is_eq (name_cmp n name)) all) ≡ true → (list_any (λ n. is_eq (name_cmp n name)) all ≡ true → P name) → P name
    go true e k ih = subst P (names_exact n name (equal_of (name_cmp n name) e)) (All-head P n all h)
    go false e k ih = ih k

pub sel_read_bag : (q : Query) (a b : List Input) → AgreeAsBags (Sql q) a b → (u : Bounds) → IsSameBag (Sel q a u) (Sel q b u)
sel_read_bag q a b h u =
    let left : Sel q a u ≡ Sel q (map (plain q a) (names q)) u = sel_reads q a (map (plain q a) (names q)) (each_here _ (names q) (λ name k. plain_agrees q a name (names q) k)) u in
    let right : Sel q b u ≡ Sel q (map (plain q b) (names q)) u = sel_reads q b (map (plain q b) (names q)) (each_here _ (names q) (λ name k. plain_agrees q b name (names q) k)) u in
    let bags : IsSameBag (Sel q (map (plain q a) (names q)) u) (Sel q (map (plain q b) (names q)) u) =
    sel_bag q (map (plain q a) (names q)) (map (plain q b) (names q)) (each_here _ (names q) (λ name k.
    let P : Option Input → Option Input → Type 0 = λ x y. IsSameTable x y in
    subst (λ x. P x (named (map (plain q b) (names q)) name)) (sym (plain_named q a name (names q) k))
    (subst (λ y. P (Some (plain q a name)) y) (sym (plain_named q b name (names q) k))
    (refl, all_at (λ name. IsSameBag (cut (defn_reads (Sql q) name) (named a name)) (cut (defn_reads (Sql q) name) (named b name))) (names q) h name k)))) u in
    subst (λ l. IsSameBag l (Sel q b u)) (sym left) (subst (λ r. IsSameBag (Sel q (map (plain q a) (names q)) u) r) (sym right) bags)

pub rows_read_bag : (d : Defn) (a b : List Input) → AgreeAsBags d a b → (u : Bounds) → IsSameBag (defn_rows d a u) (defn_rows d b u)
rows_read_bag (Seed columns rows) a b h u = λ row. refl
rows_read_bag (Sql q) a b h u = sel_read_bag q a b h u

piece_perm : (own : Own) (a b : List Input) → AgreeAsBags own.defn a b → (u : Bounds) → Perm (piece_over own a u) (piece_over own b u)
piece_perm own a b h u = filtered (is_of_unit own u) (bag_is_perm (defn_rows own.defn a u) (defn_rows own.defn b u) (rows_read_bag own.defn a b h u))

pub piece_read_bag : (own : Own) (a b : List Input) → AgreeAsBags own.defn a b → (u : Bounds) → IsSameBag (piece_over own a u) (piece_over own b u)
piece_read_bag own a b h u = counts_same (piece_perm own a b h u)

pub over_read_bag : (own : Own) (a b : List Input) → AgreeAsBags own.defn a b → (units : List Bounds) → IsSameBag (rows_over own a units) (rows_over own b units)
over_read_bag own a b h units = go (is_incremental own.kind)
  where
    go : (i : Bool) → IsSameBag (cond i (flat_map (piece_over own a) units) (defn_rows own.defn a no_bounds)) (cond i (flat_map (piece_over own b) units) (defn_rows own.defn b no_bounds))
    go true = counts_same (flat_each (piece_over own a) (piece_over own b) (piece_perm own a b h) units)
    go false = rows_read_bag own.defn a b h no_bounds
