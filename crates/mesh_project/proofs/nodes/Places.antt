-- The place of a name's first model.
use Rattle.std.proofs.Common.{◌≡◌, ℕ, suc, Bool, true, false, cond, List, [], ◌∷◌, ◌++◌, length, Option, None, Some, refl, sym, ap, ◌∙◌}
use Rattle.std.specs.Option.{is_some, option_map}
use Rattle.std.specs.BTreeMap.{BTreeMap, Updates, get}
use Rattle.std.specs.Ordering.{is_eq}
use Rattle.mesh_base_values.specs.Names.{name_cmp}
use Rattle.mesh_base_values.specs.declared.values.Name.{Name}
use Rattle.mesh_base_values.proofs.Equals.{name_is}
use Rattle.mesh_base.specs.declared.snapshots.Node.{Node}
use Rattle.mesh_project.specs.nodes.Earlier.{new_place, or_else, place_of}

-- a further model stands behind the others, where its name is new
pub place_pushed : (ns : List Node) (n : Node) (name : Name) → place_of (ns ++ n ∷ []) name ≡ or_else (place_of ns name) (new_place n.own.name (length ns) name)
place_pushed [] n name = refl
place_pushed (x ∷ xs) n name = by_first (is_eq (name_cmp x.own.name name)) (place_of xs name) (is_eq (name_cmp n.own.name name)) (place_pushed xs n name)
  where
    by_first : (b : Bool) (o : Option ℕ) (t : Bool) → place_of (xs ++ n ∷ []) name ≡ or_else o (cond t (Some (length xs)) None)
        → cond b (Some 0) (option_map suc (place_of (xs ++ n ∷ []) name)) ≡ or_else (cond b (Some 0) (option_map suc o)) (cond t (Some (suc (length xs))) None)
    by_first true o t more = refl
    by_first false None true more = ap (option_map suc) more
    by_first false None false more = ap (option_map suc) more
    by_first false (Some i) t more = ap (option_map suc) more

-- a name that has a place keeps it
pub has_place : (places : BTreeMap Name ℕ) (name : Name) (place : ℕ) → is_some (get name_cmp places name) ≡ true → (other : Name) → get name_cmp places other ≡ or_else (get name_cmp places other) (new_place name place other)
has_place places name place there other = by_place (get name_cmp places other) (is_eq (name_cmp name other)) refl refl
  where
    by_place : (o : Option ℕ) (b : Bool) → get name_cmp places other ≡ o → is_eq (name_cmp name other) ≡ b → o ≡ or_else o (cond b (Some place) None)
    by_place (Some i) b e f = refl
    by_place None false e f = refl
    by_place None true e f = absurd (let clash : false ≡ true = sym (ap is_some (ap (get name_cmp places) (name_is name other f) ∙ e)) ∙ there in cc)

-- a new name gets its place
pub gets_place : (old new : BTreeMap Name ℕ) (name : Name) (place : ℕ) → is_some (get name_cmp old name) ≡ false → Updates name_cmp old new name (Some place)
    → (other : Name) → get name_cmp new other ≡ or_else (get name_cmp old other) (new_place name place other)
gets_place old new name place absent updates other = updates.0 other ∙ by_place (get name_cmp old other) (is_eq (name_cmp name other)) refl refl
  where
    by_place : (o : Option ℕ) (b : Bool) → get name_cmp old other ≡ o → is_eq (name_cmp name other) ≡ b → cond b (Some place) o ≡ or_else o (cond b (Some place) None)
    by_place None true e f = refl
    by_place None false e f = refl
    by_place (Some i) false e f = refl
    by_place (Some i) true e f = absurd (let clash : true ≡ false = sym (ap is_some (ap (get name_cmp old) (name_is name other f) ∙ e)) ∙ absent in cc)

-- places stay right where a model is pushed and its name gets the next place
pub pushed_right : (old new : BTreeMap Name ℕ) (ns more : List Node) (n : Node) (name : Name) (place : ℕ) → ((other : Name) → get name_cmp old other ≡ place_of ns other) → more ≡ ns ++ n ∷ []
    → name ≡ n.own.name → place ≡ length ns → ((other : Name) → get name_cmp new other ≡ or_else (get name_cmp old other) (new_place name place other))
    → (other : Name) → get name_cmp new other ≡ place_of more other
pushed_right old new ns more n name place right all is next gets other =
    gets other ∙ ap (λ o. or_else o (new_place name place other)) (right other) ∙ ap (λ m. or_else (place_of ns other) (new_place m place other)) is
    ∙ ap (λ (p : ℕ). or_else (place_of ns other) (new_place n.own.name p other)) next ∙ sym (place_pushed ns n other) ∙ ap (λ l. place_of l other) (sym all)

pub undone_right : (old new : BTreeMap Name ℕ) (ns left : List Node) → ((other : Name) → get name_cmp old other ≡ place_of ns other) → left ≡ ns
    → ((other : Name) → get name_cmp new other ≡ get name_cmp old other) → (other : Name) → get name_cmp new other ≡ place_of left other
undone_right old new ns left right same kept other = kept other ∙ right other ∙ ap (λ l. place_of l other) (sym same)
