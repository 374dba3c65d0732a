-- Two things of one body are one.
use Rattle.std.proofs.Common.{◌≡◌, ℕ, Bool, true, false, if◌then◌else◌, List, [], ◌∷◌, length, refl, sym, ap, subst, ◌∙◌, arith}
use Rattle.std.specs.Prelude.{◌==◌, codes}
use Rattle.std.specs.List.{list_all}
use Rattle.std.specs.Fmt.{decimal, signed_decimal}
use Rattle.std.proofs.lemmas.Bool.{and_parts, eqb-true}
use Rattle.hex.specs.Hex.{encode_lower}
use Rattle.mesh_base.specs.declared.jobs.Input.{Input}
use Rattle.mesh_base.specs.declared.snapshots.Env.{Env}
use Rattle.mesh_base.specs.declared.snapshots.Snapshot.{Snapshot}
use Rattle.mesh_house_book.specs.declared.versions.Version.{Version}
use Rattle.mesh_house.specs.declared.objects.Body.{Body}
use Rattle.mesh_house.specs.declared.objects.Body.TheVariants.{Rows, Stored}
use Rattle.mesh_house.specs.declared.objects.Object.{Object}
use Rattle.mesh_house.specs.declared.world.ViewOf.{ViewOf}
use Rattle.mesh_time.specs.Ranges.{is_apart}
use Rattle.mesh_canon_text.specs.Text.{list_text}
use Rattle.mesh_canon_reading.specs.Fits.{are_texts, column_fits, is_own, text_fits}
use Rattle.mesh_keep_records.specs.declared.book_records.BookHead.{BookHead}
use Rattle.mesh_keep_records.specs.Parts.{bool_word, is_count, is_digest, option_fits}
use Rattle.mesh_canon.specs.canon.Forms.{IsOwnText}
use Rattle.mesh_keep_records.specs.Records.{IsObjectText, IsSnapshotText, IsStoredText, body_fits, body_parts, bounds_fits, bounds_list, column_list, each_text, env_fits, env_parts, env_text, head_fits, head_parts, head_text, moment_fits, name_list, newer_parts, object_fits, option_list, pair_fits, pair_list, ranges_fit, ref_fits, ref_list, rows_fit, rows_list, snapshot_fits, snapshot_parts, source_fits, source_text, version_fits, version_parts, version_text, view_text}
use Rattle.mesh_keep_records.proofs.Words.{cons_is}
use Rattle.mesh_keep_records.proofs.Tells.{bool_tells, both_fit, bounds_tells, column_tells, count_tells, digits_tells, first_fits, name_tells, option_tells, own_tells, pair_tells, ref_tells, rows_tell, same_parts, seq_tells, signed_tells, three_parts, two_parts}

head_by : (a b : BookHead) (p q : Bool) → (a.version == 1) ≡ p → (b.version == 1) ≡ q → head_fits a ≡ true → head_fits b ≡ true → are_texts (if p then signed_decimal a.moment ∷ [] else newer_parts a) ≡ true → (if p then signed_decimal a.moment ∷ [] else newer_parts a) ≡ (if q then signed_decimal b.moment ∷ [] else newer_parts b) → a ≡ b
head_by a b true true u v fa fb f e =
    let pa = both_fit (moment_fits a.moment) (is_count a.version) fa in
    let pb = both_fit (moment_fits b.moment) (is_count b.version) fb in
    let n : a.version ≡ b.version = eqb-true a.version 1 u ∙ sym (eqb-true b.version 1 v) in
    let m : a.moment ≡ b.moment = signed_tells a.moment b.moment pa.0 pb.0 (first_fits (signed_decimal a.moment) [] f).0 (cons_is (signed_decimal a.moment) (signed_decimal b.moment) [] [] e).0 in
    λ i. record { version = n i; moment = m i }
head_by a b true false u v fa fb f e = absurd (let n = ap length e in omega (arith, n))
head_by a b false true u v fa fb f e = absurd (let n = ap length e in omega (arith, n))
head_by a b false false u v fa fb f e =
    let pa = both_fit (moment_fits a.moment) (is_count a.version) fa in
    let pb = both_fit (moment_fits b.moment) (is_count b.version) fb in
    let h = cons_is (signed_decimal a.moment) (signed_decimal b.moment) (decimal a.version ∷ []) (decimal b.version ∷ []) e in
    let k = cons_is (decimal a.version) (decimal b.version) [] [] h.1 in
    let g = first_fits (signed_decimal a.moment) (decimal a.version ∷ []) f in
    let n : a.version ≡ b.version = count_tells a.version b.version pa.1 pb.1 (first_fits (decimal a.version) [] g.1).0 k.0 in
    let m : a.moment ≡ b.moment = signed_tells a.moment b.moment pa.0 pb.0 g.0 h.0 in
    λ i. record { version = n i; moment = m i }

pub head_tells : (t : List ℕ) (a b : BookHead) → text_fits t ≡ true → head_fits a ≡ true → head_fits b ≡ true → t ≡ head_text a → t ≡ head_text b → a ≡ b
head_tells t a b f fa fb x y =
    let s = same_parts (head_parts a) (head_parts b) (sym (ap text_fits x) ∙ f) (sym x ∙ y) in
    head_by a b (a.version == 1) (b.version == 1) refl refl fa fb s.1 s.0

pub snapshot_tells : (t : List ℕ) (a b : Snapshot) → text_fits t ≡ true → snapshot_fits a ≡ true → snapshot_fits b ≡ true → IsSnapshotText t a → IsSnapshotText t b → a ≡ b
snapshot_tells t a b f fa fb x y =
    let s = same_parts (snapshot_parts x.0 a) (snapshot_parts y.0 b) (sym (ap text_fits x.2) ∙ f) (sym x.2 ∙ y.2) in
    let pa = and_parts (is_own a.own) _ fa in
    let pb = and_parts (is_own b.own) _ fb in
    let qa = and_parts (is_digest a.fingerprint) _ pa.1 in
    let qb = and_parts (is_digest b.fingerprint) _ pb.1 in
    let ra = and_parts (list_all ref_fits a.parents) _ qa.1 in
    let rb = and_parts (list_all ref_fits b.parents) _ qb.1 in
    let sa = both_fit (is_count a.rank) (moment_fits a.expires) ra.1 in
    let sb = both_fit (is_count b.rank) (moment_fits b.expires) rb.1 in
    let h0 = cons_is (name_list a.name) (name_list b.name) _ _ s.0 in
    let h1 = cons_is (encode_lower a.fingerprint) (encode_lower b.fingerprint) _ _ h0.1 in
    let h2 = cons_is x.0 y.0 _ _ h1.1 in
    let h3 = cons_is (each_text ref_list a.parents) (each_text ref_list b.parents) _ _ h2.1 in
    let h4 = cons_is (decimal a.rank) (decimal b.rank) _ _ h3.1 in
    let h5 = cons_is (name_list a.object) (name_list b.object) _ _ h4.1 in
    let h6 = cons_is (signed_decimal a.expires) (signed_decimal b.expires) [] [] h5.1 in
    let g0 = first_fits (name_list a.name) (encode_lower a.fingerprint ∷ x.0 ∷ each_text ref_list a.parents ∷ decimal a.rank ∷ name_list a.object ∷ signed_decimal a.expires ∷ []) s.1 in
    let g1 = first_fits (encode_lower a.fingerprint) (x.0 ∷ each_text ref_list a.parents ∷ decimal a.rank ∷ name_list a.object ∷ signed_decimal a.expires ∷ []) g0.1 in
    let g2 = first_fits x.0 (each_text ref_list a.parents ∷ decimal a.rank ∷ name_list a.object ∷ signed_decimal a.expires ∷ []) g1.1 in
    let g3 = first_fits (each_text ref_list a.parents) (decimal a.rank ∷ name_list a.object ∷ signed_decimal a.expires ∷ []) g2.1 in
    let g4 = first_fits (decimal a.rank) (name_list a.object ∷ signed_decimal a.expires ∷ []) g3.1 in
    let g5 = first_fits (name_list a.object) (signed_decimal a.expires ∷ []) g4.1 in
    let g6 = first_fits (signed_decimal a.expires) [] g5.1 in
    let e0 : a.name ≡ b.name = name_tells a.name b.name refl refl g0.0 h0.0 in
    let e1 : a.fingerprint ≡ b.fingerprint = digits_tells a.fingerprint b.fingerprint qa.0 qb.0 g1.0 h1.0 in
    let e2 : a.own ≡ b.own = own_tells x.0 a.own b.own pa.0 pb.0 x.1 (subst (λ o. IsOwnText o b.own) (sym h2.0) y.1) in
    let e3 : a.parents ≡ b.parents = seq_tells ref_list ref_fits ref_tells a.parents b.parents ra.0 rb.0 g3.0 h3.0 in
    let e4 : a.rank ≡ b.rank = count_tells a.rank b.rank sa.0 sb.0 g4.0 h4.0 in
    let e5 : a.object ≡ b.object = name_tells a.object b.object refl refl g5.0 h5.0 in
    let e6 : a.expires ≡ b.expires = signed_tells a.expires b.expires sa.1 sb.1 g6.0 h6.0 in
    λ i. record { name = e0 i; fingerprint = e1 i; own = e2 i; parents = e3 i; rank = e4 i; object = e5 i; expires = e6 i }

pub version_tells : (t : List ℕ) (a b : Version) → text_fits t ≡ true → version_fits a ≡ true → version_fits b ≡ true → t ≡ version_text a → t ≡ version_text b → a ≡ b
version_tells t a b f fa fb x y =
    let s = same_parts (version_parts a) (version_parts b) (sym (ap text_fits x) ∙ f) (sym x ∙ y) in
    let pa = both_fit (ranges_fit a.ranges) (option_fits (list_all moment_fits) a.marks) fa in
    let pb = both_fit (ranges_fit b.ranges) (option_fits (list_all moment_fits) b.marks) fb in
    let ra = and_parts (is_apart a.ranges) (list_all bounds_fits a.ranges) pa.0 in
    let rb = and_parts (is_apart b.ranges) (list_all bounds_fits b.ranges) pb.0 in
    let h0 = cons_is (name_list a.object) (name_list b.object) _ _ s.0 in
    let h1 = cons_is (bool_word a.made) (bool_word b.made) _ _ h0.1 in
    let h2 = cons_is (each_text bounds_list a.ranges) (each_text bounds_list b.ranges) _ _ h1.1 in
    let h3 = cons_is (option_list (each_text signed_decimal) a.marks) (option_list (each_text signed_decimal) b.marks) [] [] h2.1 in
    let g0 = first_fits (name_list a.object) (bool_word a.made ∷ each_text bounds_list a.ranges ∷ option_list (each_text signed_decimal) a.marks ∷ []) s.1 in
    let g1 = first_fits (bool_word a.made) (each_text bounds_list a.ranges ∷ option_list (each_text signed_decimal) a.marks ∷ []) g0.1 in
    let g2 = first_fits (each_text bounds_list a.ranges) (option_list (each_text signed_decimal) a.marks ∷ []) g1.1 in
    let g3 = first_fits (option_list (each_text signed_decimal) a.marks) [] g2.1 in
    let e0 : a.object ≡ b.object = name_tells a.object b.object refl refl g0.0 h0.0 in
    let e1 : a.made ≡ b.made = bool_tells a.made b.made refl refl g1.0 h1.0 in
    let e2 : a.ranges ≡ b.ranges = seq_tells bounds_list bounds_fits bounds_tells a.ranges b.ranges ra.1 rb.1 g2.0 h2.0 in
    let e3 : a.marks ≡ b.marks = option_tells (each_text signed_decimal) (list_all moment_fits) (seq_tells signed_decimal moment_fits signed_tells) a.marks b.marks pa.1 pb.1 g3.0 h3.0 in
    λ i. record { object = e0 i; made = e1 i; ranges = e2 i; marks = e3 i }

pub env_tells : (t : List ℕ) (a b : Env) → text_fits t ≡ true → env_fits a ≡ true → env_fits b ≡ true → t ≡ env_text a → t ≡ env_text b → a ≡ b
env_tells t a b f fa fb x y =
    let s = same_parts (env_parts a) (env_parts b) (sym (ap text_fits x) ∙ f) (sym x ∙ y) in
    let pa = and_parts (list_all ref_fits a.list) _ fa in
    let pb = and_parts (list_all ref_fits b.list) _ fb in
    let qa = both_fit (list_all ref_fits a.previous) (option_fits moment_fits a.expires) pa.1 in
    let qb = both_fit (list_all ref_fits b.previous) (option_fits moment_fits b.expires) pb.1 in
    let h0 = cons_is a.name b.name _ _ s.0 in
    let h1 = cons_is (bool_word a.pending) (bool_word b.pending) _ _ h0.1 in
    let h2 = cons_is (each_text ref_list a.list) (each_text ref_list b.list) _ _ h1.1 in
    let h3 = cons_is (each_text ref_list a.previous) (each_text ref_list b.previous) _ _ h2.1 in
    let h4 = cons_is (option_list signed_decimal a.expires) (option_list signed_decimal b.expires) [] [] h3.1 in
    let g0 = first_fits a.name (bool_word a.pending ∷ each_text ref_list a.list ∷ each_text ref_list a.previous ∷ option_list signed_decimal a.expires ∷ []) s.1 in
    let g1 = first_fits (bool_word a.pending) (each_text ref_list a.list ∷ each_text ref_list a.previous ∷ option_list signed_decimal a.expires ∷ []) g0.1 in
    let g2 = first_fits (each_text ref_list a.list) (each_text ref_list a.previous ∷ option_list signed_decimal a.expires ∷ []) g1.1 in
    let g3 = first_fits (each_text ref_list a.previous) (option_list signed_decimal a.expires ∷ []) g2.1 in
    let g4 = first_fits (option_list signed_decimal a.expires) [] g3.1 in
    let e0 : a.name ≡ b.name = h0.0 in
    let e1 : a.pending ≡ b.pending = bool_tells a.pending b.pending refl refl g1.0 h1.0 in
    let e2 : a.list ≡ b.list = seq_tells ref_list ref_fits ref_tells a.list b.list pa.0 pb.0 g2.0 h2.0 in
    let e3 : a.previous ≡ b.previous = seq_tells ref_list ref_fits ref_tells a.previous b.previous qa.0 qb.0 g3.0 h3.0 in
    let e4 : a.expires ≡ b.expires = option_tells signed_decimal moment_fits signed_tells a.expires b.expires qa.1 qb.1 g4.0 h4.0 in
    λ i. record { name = e0 i; pending = e1 i; list = e2 i; previous = e3 i; expires = e4 i }

pub view_tells : (t : List ℕ) (a b : ViewOf) → text_fits t ≡ true → t ≡ view_text a → t ≡ view_text b → a ≡ b
view_tells t a b f x y =
    let h = two_parts (name_list a.view) (name_list a.target) (name_list b.view) (name_list b.target) (sym (ap text_fits x) ∙ f) (sym x ∙ y) in
    let e0 : a.view ≡ b.view = name_tells a.view b.view refl refl h.2 h.0 in
    let e1 : a.target ≡ b.target = name_tells a.target b.target refl refl h.3 h.1 in
    λ i. record { view = e0 i; target = e1 i }

body_tells : (own other : List ℕ) (a b : Body) → body_fits a ≡ true → body_fits b ≡ true → IsStoredText own a → IsStoredText other b → are_texts (body_parts own a) ≡ true → body_parts own a ≡ body_parts other b → a ≡ b
body_tells own other (Rows r) (Rows k) fa fb x y f e =
    let h = cons_is (codes "rows") (codes "rows") (rows_list r ∷ []) (rows_list k ∷ []) e in
    let g = first_fits (codes "rows") (rows_list r ∷ []) f in
    ap Rows (rows_tell r k (and_parts (rows_fit r) true fa).0 (and_parts (rows_fit k) true fb).0 (first_fits (rows_list r) [] g.1).0 (cons_is (rows_list r) (rows_list k) [] [] h.1).0)
body_tells own other (Rows r) (Stored m targets) fa fb x y f e = absurd (let n = ap length e in omega (arith, n))
body_tells own other (Stored m targets) (Rows r) fa fb x y f e = absurd (let n = ap length e in omega (arith, n))
body_tells own other (Stored m targets) (Stored k others) fa fb x y f e =
    let h0 = cons_is (codes "stored") (codes "stored") (own ∷ each_text pair_list targets ∷ []) (other ∷ each_text pair_list others ∷ []) e in
    let h1 = cons_is own other (each_text pair_list targets ∷ []) (each_text pair_list others ∷ []) h0.1 in
    let h2 = cons_is (each_text pair_list targets) (each_text pair_list others) [] [] h1.1 in
    let g0 = first_fits (codes "stored") (own ∷ each_text pair_list targets ∷ []) f in
    let g1 = first_fits own (each_text pair_list targets ∷ []) g0.1 in
    let g2 = first_fits (each_text pair_list targets) [] g1.1 in
    let pa = and_parts (is_own m) _ fa in
    let pb = and_parts (is_own k) _ fb in
    let a : m ≡ k = own_tells own m k pa.0 pb.0 x (subst (λ o. IsOwnText o k) (sym h1.0) y) in
    let b : targets ≡ others = seq_tells pair_list pair_fits pair_tells targets others (and_parts (list_all pair_fits targets) true pa.1).0 (and_parts (list_all pair_fits others) true pb.1).0 g2.0 h2.0 in
    λ i. Stored (a i) (b i)

pub object_tells : (t : List ℕ) (a b : Object) → text_fits t ≡ true → object_fits a ≡ true → object_fits b ≡ true → IsObjectText t a → IsObjectText t b → a ≡ b
object_tells t a b f fa fb x y =
    let h = three_parts (name_list a.name) (each_text column_list a.columns) (list_text (body_parts x.0 a.body)) (name_list b.name) (each_text column_list b.columns) (list_text (body_parts y.0 b.body)) (sym (ap text_fits x.2) ∙ f) (sym x.2 ∙ y.2) in
    let pa = and_parts (body_fits a.body) _ fa in
    let pb = and_parts (body_fits b.body) _ fb in
    let s = same_parts (body_parts x.0 a.body) (body_parts y.0 b.body) h.5 h.2 in
    let e0 : a.name ≡ b.name = name_tells a.name b.name refl refl h.3 h.0 in
    let e1 : a.columns ≡ b.columns = seq_tells column_list column_fits column_tells a.columns b.columns (and_parts (list_all column_fits a.columns) true pa.1).0 (and_parts (list_all column_fits b.columns) true pb.1).0 h.4 h.1 in
    let e2 : a.body ≡ b.body = body_tells x.0 y.0 a.body b.body pa.0 pb.0 x.1 y.1 s.1 s.0 in
    λ i. record { name = e0 i; columns = e1 i; body = e2 i }

pub source_tells : (t : List ℕ) (a b : Input) → text_fits t ≡ true → source_fits a ≡ true → source_fits b ≡ true → t ≡ source_text a → t ≡ source_text b → a ≡ b
source_tells t a b f fa fb x y =
    let h = three_parts (name_list a.name) (each_text column_list a.columns) (rows_list a.rows) (name_list b.name) (each_text column_list b.columns) (rows_list b.rows) (sym (ap text_fits x) ∙ f) (sym x ∙ y) in
    let pa = both_fit (list_all column_fits a.columns) (rows_fit a.rows) fa in
    let pb = both_fit (list_all column_fits b.columns) (rows_fit b.rows) fb in
    let e0 : a.name ≡ b.name = name_tells a.name b.name refl refl h.3 h.0 in
    let e1 : a.columns ≡ b.columns = seq_tells column_list column_fits column_tells a.columns b.columns pa.0 pb.0 h.4 h.1 in
    let e2 : a.rows ≡ b.rows = rows_tell a.rows b.rows pa.1 pb.1 h.5 h.2 in
    λ i. record { name = e0 i; columns = e1 i; rows = e2 i }
