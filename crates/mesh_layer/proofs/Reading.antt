-- What is read of a house, by name.
use Rattle.std.proofs.Common.{◌≡◌, ◌≢◌, Bool, true, false, cond, not, List, [], ◌∷◌, Some, None, IsTrue, refl, sym, ap, ◌∙◌, subst}
use Rattle.std.specs.Prelude.{◌&&◌}
use Rattle.std.specs.Ordering.{is_eq}
use Rattle.std.specs.Cmp.{Equal-is}
use Rattle.std.specs.Option.{option_map}
use Rattle.std.specs.declared.option.Option.{Option}
use Rattle.mesh_list.specs.Keyed.{found, placed}
use Rattle.mesh_list.proofs.Found.{found-placed}
use Rattle.mesh_base_values.specs.declared.values.Cell.{Cell}
use Rattle.mesh_base_values.specs.declared.values.Column.{Column}
use Rattle.mesh_base_values.specs.declared.values.Name.{Name}
use Rattle.mesh_base_values.specs.Names.{name_cmp}
use Rattle.mesh_base_values.specs.NameOrder.{names_exact}
use Rattle.mesh_base.specs.declared.definitions.Decl.{Decl}
use Rattle.mesh_base.specs.declared.jobs.Input.{Input}
use Rattle.mesh_base.specs.Keys.{input_name}
use Rattle.mesh_spec_model.specs.Sources.{declared_rows, source_named}
use Rattle.mesh_house.specs.declared.objects.Body.{Body}
use Rattle.mesh_house.specs.declared.objects.Body.TheVariants.{Rows, Stored}
use Rattle.mesh_house.specs.declared.objects.Object.{Object}
use Rattle.mesh_house.specs.declared.world.World.{World}
use Rattle.mesh_house.specs.Objects.{is_physical, object_name}
use Rattle.mesh_house.specs.Sources.{are_plain}
use Rattle.mesh_house.specs.World.{as_table, body, body_of, columns_of, head, kept_at, object_at, rows_of, source_at}
use Rattle.mesh_layer.specs.declared.known.Entry.{Entry}
use Rattle.mesh_layer.specs.declared.kept.Kept.{Kept}
use Rattle.mesh_layer.specs.declared.kept.Kept.TheVariants as read
use Rattle.mesh_layer.specs.Read.{AreKnown, IsFound, entry_name, kept_of, read_rows}

table_rows : (declared : List Column) (s : Option Input) → read_rows declared (columns_of (as_table s)) (rows_of (body_of (as_table s))) ≡ declared_rows declared s
table_rows declared None = refl
table_rows declared (Some s) = refl

kept_source : (w : World) (n : Name) → is_physical n ≡ false → kept_at w n ≡ as_table (source_at w n)
kept_source w n h = ap (λ (b : Bool). cond b (found name_cmp object_name n w.objects) (as_table (source_at w n))) h

-- a source is read under its name, where no object may have that
pub source_read : (w : World) (d : Decl) → is_physical d.name ≡ false → read_rows d.columns (head w d.name) (rows_of (body w d.name)) ≡ declared_rows d.columns (source_named w.sources d)
source_read w d h =
    ap (λ (o : Option Object). read_rows d.columns (columns_of o) (rows_of (body_of o))) (kept_source w d.name h)
    ∙ table_rows d.columns (source_at w d.name)

-- no source has a name that an object may have
pub no_source : (n : Name) (sources : List Input) → IsTrue (are_plain sources) → is_physical n ≡ true → found name_cmp input_name n sources ≡ None
no_source n [] plain h = refl
no_source n (s ∷ ss) plain h = at (λ k. no_source n ss k h) (is_eq (name_cmp s.name n)) refl (is_physical s.name) refl plain
  where
    at : (IsTrue (are_plain ss) → found name_cmp input_name n ss ≡ None) → (b : Bool) → is_eq (name_cmp s.name n) ≡ b → (p : Bool) → is_physical s.name ≡ p → IsTrue (not p && are_plain ss) → found name_cmp input_name n (s ∷ ss) ≡ None
    at rest true e true f k = absurd (let no : false ≡ true = k in cc)
    at rest true e false f k =
        let same : s.name ≡ n = names_exact s.name n ((Equal-is (name_cmp s.name n)).0 e) in
        absurd (let both : false ≡ true = sym f ∙ ap is_physical same ∙ h in cc)
    at rest false e true f k = absurd (let no : false ≡ true = k in cc)
    at rest false e false f k = rw e (rest k)

object_kept : (w : World) (n : Name) → is_physical n ≡ true → kept_at w n ≡ object_at w n
object_kept w n h =
    ap (λ (b : Bool). cond b (found name_cmp object_name n w.objects) (as_table (source_at w n))) h
    ∙ sym (ap (λ (b : Bool). cond b (found name_cmp object_name n w.objects) None) h)

no_object : (w : World) (n : Name) → is_physical n ≡ false → object_at w n ≡ None
no_object w n h = ap (λ (b : Bool). cond b (found name_cmp object_name n w.objects) None) h

pub body_there : (w : World) (n : Name) → is_physical n ≡ true → body w n ≡ body_of (object_at w n)
body_there w n h = ap body_of (object_kept w n h)

pub body_kept : (w : World) (n : Name) → is_physical n ≡ true → option_map kept_of (body w n) ≡ option_map kept_of (body_of (object_at w n))
body_kept w n h = ap (λ (o : Option Object). option_map kept_of (body_of o)) (object_kept w n h)

pub no_body : (w : World) (n : Name) → is_physical n ≡ false → option_map kept_of (body_of (object_at w n)) ≡ None
no_body w n h = ap (λ (o : Option Object). option_map kept_of (body_of o)) (no_object w n h)

-- a table is kept where its rows are read
pub rows_kept : (o : Option Body) (rows : List (List Cell)) → Some (read.Rows rows) ≡ option_map kept_of o → rows_of o ≡ Some rows
rows_kept None rows h = absurd (let no : Some (read.Rows rows) ≡ None = h in cc)
rows_kept (Some (Rows r)) rows h = let both : Some (read.Rows rows) ≡ Some (read.Rows r) = h in let same : r ≡ rows = cc in ap Some same
rows_kept (Some (Stored own targets)) rows h = absurd (let no : Some (read.Rows rows) ≡ Some (read.Query (Stored own targets)) = h in cc)

-- and a stored query where its body is
pub query_kept : (o : Option Body) (b : Body) → Some (read.Query b) ≡ option_map kept_of o → o ≡ Some b
query_kept None b h = absurd (let no : Some (read.Query b) ≡ None = h in cc)
query_kept (Some (Rows r)) b h = absurd (let no : Some (read.Query b) ≡ Some (read.Rows r) = h in cc)
query_kept (Some (Stored own targets)) b h = let both : Some (read.Query b) ≡ Some (read.Query (Stored own targets)) = h in let same : Stored own targets ≡ b = cc in ap Some same

-- a table isn't read as a query
pub no_query : (o : Option Body) (rows : List (List Cell)) → Some (read.Query (Rows rows)) ≢ option_map kept_of o
no_query None rows h = absurd (let no : Some (read.Query (Rows rows)) ≡ None = h in cc)
no_query (Some (Rows r)) rows h = absurd (let no : Some (read.Query (Rows rows)) ≡ Some (read.Rows r) = h in cc)
no_query (Some (Stored own targets)) rows h = absurd (let no : Some (read.Query (Rows rows)) ≡ Some (read.Query (Stored own targets)) = h in cc)

-- where nothing is read, nothing is kept
pub none_kept : (o : Option Body) (k : Option Kept) → ((x : Kept) → k ≢ Some x) → k ≡ option_map kept_of o → (b : Body) → o ≢ Some b
none_kept None k other is b h = absurd (let no : None ≡ Some b = h in cc)
none_kept (Some x) k other is b h = other (kept_of x) is

pub columns_kept : (w : World) (n : Name) → is_physical n ≡ true → head w n ≡ columns_of (object_at w n)
columns_kept w n h = ap columns_of (object_kept w n h)

pub no_head : (w : World) (n : Name) → is_physical n ≡ false → columns_of (object_at w n) ≡ None
no_head w n h = ap columns_of (no_object w n h)

-- what is kept under each name is so found
kept_there : (w : World) (known : List Entry) (e : Entry) → AreKnown w known → IsFound w e.name e.found → (n : Name) (x : Entry) → found name_cmp entry_name n (placed name_cmp entry_name e known) ≡ Some x → IsFound w n x.found
kept_there w known e are is n x there = at (is_eq (name_cmp e.name n)) refl (sym (found-placed name_cmp names_exact entry_name e n known) ∙ there)
  where
    at : (b : Bool) → is_eq (name_cmp e.name n) ≡ b → cond b (Some e) (found name_cmp entry_name n known) ≡ Some x → IsFound w n x.found
    at true f k =
        let name : e.name ≡ n = names_exact e.name n ((Equal-is (name_cmp e.name n)).0 f) in
        let same : e ≡ x = (let both : Some e ≡ Some x = k in cc) in
        subst (λ (y : Entry). IsFound w n y.found) same (subst (λ (m : Name). IsFound w m e.found) name is)
    at false f k = are n x k

pub kept : (w : World) (known : List Entry) (e : Entry) → AreKnown w known → IsFound w e.name e.found → AreKnown w (placed name_cmp entry_name e known)
kept w known e are is = kept_there w known e are is

pub nothing_known : (w : World) → AreKnown w []
nothing_known w n x there = absurd (let no : None ≡ Some x = there in cc)
