-- A path is listed exactly where a file stands at it below the folder, and the listed paths ascend.
use Rattle.std.proofs.Common.{◌≡◌, ℕ, Bool, true, false, cond, List, [], ◌∷◌, ◌++◌, nat_eq, length, drop, is_some, Some, None, refl, sym, ◌∙◌, ap, arith}
use Rattle.std.specs.declared.option.Option.{Option}
use Rattle.std.specs.Option.{option_map}
use Rattle.std.proofs.Math.Seq.{drop-append_seam}
use Rattle.mesh_io.proofs.Edited.{one, one_is}
use Rattle.std.specs.Cmp.{IsTotalOrder}
use Rattle.std.specs.Cmp.Lexicographic.{lists_total}
use Rattle.std.specs.List.{starts_with}
use Rattle.std.proofs.lemmas.Cmp.{nat_cmp_total}
use Rattle.std.proofs.lemmas.Map.Lookups.{exact_bytes}
use Rattle.std.proofs.lemmas.Bool.Decides.{Decides-eqb, nat_tests}
use Rattle.std.proofs.lemmas.Slice.Eq.{starts_is}
use Rattle.mesh_list.specs.Keyed.{found, ascends}
use Rattle.mesh_list.proofs.Ascends.{ascends-placed}
use Rattle.mesh_list.proofs.Found.{found-placed}
use Rattle.mesh_base_values.specs.Names.{text_cmp}
use Rattle.mesh_base_values.proofs.Equals.{self_equal}
use Rattle.mesh_io.specs.declared.files.File.{File}
use Rattle.mesh_io.specs.Files.{path_of, content_of, bytes_at, after_slash, below, same_path, with_path, are_ascending, listing}

text_total : IsTotalOrder text_cmp
text_total = lists_total nat_cmp_total

ascends_by : (o : Option (List ℕ)) (paths : List (List ℕ)) → ascends text_cmp same_path paths ≡ true → ascends text_cmp same_path (with_path o paths) ≡ true
ascends_by None paths h = h
ascends_by (Some path) paths h = ascends-placed text_cmp text_total same_path path paths h

pub ascends-listing : (dir : List ℕ) (fs : List File) → are_ascending (listing dir fs) ≡ true
ascends-listing dir [] = refl
ascends-listing dir (f ∷ fs) = ascends_by (below dir f.path) (listing dir fs) (ascends-listing dir fs)

one_self : (a : List ℕ) → one a a ≡ true
one_self a = self_equal (text_cmp a a) (text_total.antisymm a a)

slash_is : (rest : List ℕ) (q : List ℕ) → after_slash rest ≡ Some q → rest ≡ 47 ∷ q
slash_is [] q e = cc
slash_is (b ∷ bs) q e = grind (arith, nat_tests)

below_by : (dir path q : List ℕ) (b : Bool) → b ≡ starts_with nat_eq path dir → cond b (after_slash (drop (length dir) path)) None ≡ Some q → path ≡ dir ++ 47 ∷ q
below_by dir path q false s h = cc
below_by dir path q true s h = (starts_is Decides-eqb path dir true s).0 refl ∙ ap (λ (l : List ℕ). dir ++ l) (slash_is (drop (length dir) path) q h)

below_is : (dir path q : List ℕ) → below dir path ≡ Some q → path ≡ dir ++ 47 ∷ q
below_is dir path q e = below_by dir path q (starts_with nat_eq path dir) refl e

below_there : (dir q : List ℕ) → below dir (dir ++ 47 ∷ q) ≡ Some q
below_there dir q =
    let path : List ℕ = dir ++ 47 ∷ q in
    let starts : starts_with nat_eq path dir ≡ true = (starts_is Decides-eqb path dir (starts_with nat_eq path dir) refl).1 (47 ∷ q) refl in
    ap (λ (b : Bool). cond b (after_slash (drop (length dir) path)) None) starts ∙ ap after_slash (drop-append_seam dir (47 ∷ q))

-- whether there are bytes at a path, where it is told whether the first file has that path
abbrev there : Bool → List ℕ → File → List File → Bool
there b path f fs = is_some (option_map content_of (cond b (Some f) (found text_cmp path_of path fs)))

not_listed : (dir q path : List ℕ) (b : Bool) → None ≡ below dir path → b ≡ one path (dir ++ 47 ∷ q) → b ≡ false
not_listed dir q path false n e = refl
not_listed dir q path true n e =
    let clash : None ≡ Some q = n ∙ ap (below dir) (one_is path (dir ++ 47 ∷ q) (sym e)) ∙ below_there dir q in
    cc

another : (dir q r path : List ℕ) (b : Bool) → Some r ≡ below dir path → false ≡ one r q → b ≡ one path (dir ++ 47 ∷ q) → b ≡ false
another dir q r path false n d e = refl
another dir q r path true n d e =
    let both : Some r ≡ Some q = n ∙ ap (below dir) (one_is path (dir ++ 47 ∷ q) (sym e)) ∙ below_there dir q in
    let same : r ≡ q = cc in
    sym (d ∙ ap (λ (x : List ℕ). one x q) same ∙ one_self q)

listed_some : (dir q r : List ℕ) (f : File) (fs : List File) (b : Bool) → Some r ≡ below dir f.path → b ≡ one r q → is_some (found text_cmp same_path q (listing dir fs)) ≡ is_some (bytes_at (dir ++ 47 ∷ q) fs) → is_some (cond b (Some r) (found text_cmp same_path q (listing dir fs))) ≡ is_some (bytes_at (dir ++ 47 ∷ q) (f ∷ fs))
listed_some dir q r f fs true n e more =
    let path : List ℕ = dir ++ 47 ∷ q in
    let same : f.path ≡ path = below_is dir f.path r (sym n) ∙ ap (λ (x : List ℕ). dir ++ 47 ∷ x) (one_is r q (sym e)) in
    sym (ap (λ (b : Bool). there b path f fs) (ap (λ (x : List ℕ). one x path) same ∙ one_self path))
listed_some dir q r f fs false n e more =
    let path : List ℕ = dir ++ 47 ∷ q in
    more ∙ sym (ap (λ (b : Bool). there b path f fs) (another dir q r f.path (one f.path path) n e refl))

listed_by : (dir q : List ℕ) (f : File) (fs : List File) (o : Option (List ℕ)) → o ≡ below dir f.path → is_some (found text_cmp same_path q (listing dir fs)) ≡ is_some (bytes_at (dir ++ 47 ∷ q) fs) → is_some (found text_cmp same_path q (with_path o (listing dir fs))) ≡ is_some (bytes_at (dir ++ 47 ∷ q) (f ∷ fs))
listed_by dir q f fs None n more =
    let path : List ℕ = dir ++ 47 ∷ q in
    more ∙ sym (ap (λ (b : Bool). there b path f fs) (not_listed dir q f.path (one f.path path) n refl))
listed_by dir q f fs (Some r) n more =
    ap is_some (found-placed text_cmp exact_bytes same_path r q (listing dir fs))
    ∙ listed_some dir q r f fs (one r q) n refl more

pub listed_is : (dir q : List ℕ) (fs : List File) → is_some (found text_cmp same_path q (listing dir fs)) ≡ is_some (bytes_at (dir ++ 47 ∷ q) fs)
listed_is dir q [] = refl
listed_is dir q (f ∷ fs) = listed_by dir q f fs (below dir f.path) refl (listed_is dir q fs)

pub ruleset listed_laws = (listed_is, ascends-listing)
