-- What an object keeps, by the word that its parts begin with.
use Rattle.std.proofs.Common.{◌≡◌, ℕ, true, List, [], ◌∷◌, refl, sym, ◌∙◌, arith}
use Rattle.std.specs.Prelude.{codes}
use Rattle.std.specs.List.{list_all}
use Rattle.std.proofs.lemmas.Bool.{and_parts}
use Rattle.mesh_base_values.specs.declared.values.Cell.{Cell}
use Rattle.mesh_base_values.specs.declared.values.Pair.{Pair}
use Rattle.mesh_base.specs.declared.definitions.Own.{Own}
use Rattle.mesh_house.specs.declared.objects.Body.{Body}
use Rattle.mesh_house.specs.declared.objects.Body.TheVariants.{Rows, Stored}
use Rattle.mesh_canon_reading.specs.Fits.{is_own}
use Rattle.mesh_canon.specs.canon.Forms.{IsOwnText}
use Rattle.mesh_keep_records.specs.Records.{AreBodyParts, AreRowParts, AreStoredParts, all_fit, body_fits, each_text, pair_fits, pair_list, rows_fit, rows_list}
use Rattle.mesh_keep_records.proofs.Words.{cons_is}

pub rows_are : (parts : List (List ℕ)) (b : Body) → body_fits b ≡ true → AreRowParts parts b → (rows : List (List Cell)) × (b ≡ Rows rows) × (all_fit (rows_fit rows ∷ []) ≡ true) × (parts ≡ rows_list rows ∷ [])
rows_are parts (Rows rows) fit is = (rows, refl, fit, is)
rows_are parts (Stored m targets) fit is = absurd is

pub stored_is : (parts : List (List ℕ)) (b : Body) → body_fits b ≡ true → AreStoredParts parts b → (m : Own) × (targets : List Pair) × (own : List ℕ) × (b ≡ Stored m targets) × (is_own m ≡ true) × (all_fit (list_all pair_fits targets ∷ []) ≡ true) × IsOwnText own m × (parts ≡ own ∷ each_text pair_list targets ∷ [])
stored_is parts (Rows rows) fit is = absurd is
stored_is parts (Stored m targets) fit is =
    let p = and_parts (is_own m) (all_fit (list_all pair_fits targets ∷ [])) fit in
    (m, targets, is.0, refl, p.0, p.1, is.1, is.2)

pub rows_behind : (word : List ℕ) (rest : List (List ℕ)) (b : Body) → word ≡ codes "rows" → AreRowParts rest b → AreBodyParts (word ∷ rest) b
rows_behind word rest (Rows rows) e is = ([], tt, λ i. e i ∷ is i)
rows_behind word rest (Stored m targets) e is = absurd is

pub stored_behind : (word : List ℕ) (rest : List (List ℕ)) (b : Body) → word ≡ codes "stored" → AreStoredParts rest b → AreBodyParts (word ∷ rest) b
stored_behind word rest (Rows rows) e is = absurd is
stored_behind word rest (Stored m targets) e is =
    let h : rest ≡ is.0 ∷ each_text pair_list targets ∷ [] = is.2 in
    (is.0, is.1, λ i. e i ∷ h i)

words_differ : codes "rows" ≡ codes "stored" → ⊥
words_differ e = absurd (let h = (cons_is 114 115 _ _ e).0 in omega (arith, h))

pub behind_rows : (word : List ℕ) (rest : List (List ℕ)) (b : Body) → word ≡ codes "rows" → AreBodyParts (word ∷ rest) b → AreRowParts rest b
behind_rows word rest (Rows rows) e is = (cons_is word (codes "rows") rest (rows_list rows ∷ []) is.2).1
behind_rows word rest (Stored m targets) e is = absurd (words_differ (sym e ∙ (cons_is word (codes "stored") rest (is.0 ∷ each_text pair_list targets ∷ []) is.2).0))

pub behind_stored : (word : List ℕ) (rest : List (List ℕ)) (b : Body) → word ≡ codes "stored" → AreBodyParts (word ∷ rest) b → AreStoredParts rest b
behind_stored word rest (Rows rows) e is = absurd (words_differ (sym (cons_is word (codes "rows") rest (rows_list rows ∷ []) is.2).0 ∙ e))
behind_stored word rest (Stored m targets) e is = (is.0, is.1, (cons_is word (codes "stored") rest (is.0 ∷ each_text pair_list targets ∷ []) is.2).1)

pub behind_none : (word : List ℕ) (rest : List (List ℕ)) (b : Body) → (word ≡ codes "rows" → ⊥) → (word ≡ codes "stored" → ⊥) → AreBodyParts (word ∷ rest) b → ⊥
behind_none word rest (Rows rows) f g is = f (cons_is word (codes "rows") rest (rows_list rows ∷ []) is.2).0
behind_none word rest (Stored m targets) f g is = g (cons_is word (codes "stored") rest (is.0 ∷ each_text pair_list targets ∷ []) is.2).0
