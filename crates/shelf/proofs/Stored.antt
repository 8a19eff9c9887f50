-- A map in memory beside the finite map that it stands for.
use Rattle.std.proofs.Common.{◌≡◌, ℕ, List, [], ◌∷◌, map, Option, Some, option_map, String, Vec, BTreeMap, Global, string_bytes, string_cmp, nat_cmp, is_eq, cond, Bool, true, false, bytes_eq, refl, sym, ap, ◌∙◌}
use Rattle.std.proofs.lemmas.Cmp.{nat_list_cmp_total}
use Rattle.std.proofs.lemmas.Map.Text.{is_eq-slice_cmp, btree_map_updates_text}
use Rattle.std.specs.Cmp.Lexicographic.{slice_cmp}
use Rattle.std.specs.Cmp.{eq_by_cmp_equiv}
use Rattle.std.specs.Map.{lookup}
use Rattle.std.specs.BTreeMap.{get_by_text, is_at, Updates}
use Rattle.std.specs.FinMap.{insert, find, get-insert, get-from_entries, same_map, slice_cmp-IsAntisymmetric, nat_cmp-IsAntisymmetric}
use Rattle.shelf.specs.Files.{file}
use Rattle.shelf.specs.MemoryShelf.{entry_of, files_in}

abbrev Stored : Type 0
Stored = BTreeMap (String Global) (Vec ℕ Global)

cond_of_map : {A B : Type 0} (f : A → B) (b : Bool) (x : A) (rest : Option A) → cond b (Some (f x)) (option_map f rest) ≡ option_map f (cond b (Some x) rest)
cond_of_map f true x rest = refl
cond_of_map f false x rest = refl

find-lookup : (name : List ℕ) (es : List (String Global × Vec ℕ Global))
    → find (slice_cmp nat_cmp) name (map entry_of es) ≡ option_map (λ v. v.items) (lookup (is_at (λ k. slice_cmp nat_cmp name (string_bytes k))) es)
find-lookup name [] = refl
find-lookup name (e ∷ es) = ap (cond (is_eq (slice_cmp nat_cmp name (string_bytes e.0))) (Some e.1.items)) (find-lookup name es) ∙ cond_of_map (λ v. v.items) _ e.1 _

-- what the finite map has at a name
pub file_files_in : (m : Stored) (name : List ℕ) → file (files_in m) name ≡ option_map (λ v. v.items) (get_by_text m name)
file_files_in m name = get-from_entries nat_list_cmp_total _ _ ∙ find-lookup name m.entries

-- an insert is one of the finite map
pub files_in_insert : (m n : Stored) (k : String Global) (v : Vec ℕ Global) → Updates string_cmp m n k (Some v)
    → files_in n ≡ insert (files_in m) (string_bytes k) v.items
files_in_insert m n k v updates =
    let same_key : (q : List ℕ) → bytes_eq (string_bytes k) q ≡ is_eq (slice_cmp nat_cmp q (string_bytes k)) =
    λ q. sym (is_eq-slice_cmp (string_bytes k) q) ∙ (eq_by_cmp_equiv nat_list_cmp_total).symm (string_bytes k) q in
    same_map nat_list_cmp_total (slice_cmp-IsAntisymmetric nat_cmp-IsAntisymmetric) _ _
    (λ q. file_files_in n q
    ∙ ap (option_map (λ v. v.items)) (btree_map_updates_text (string_bytes k) m n (Some v) updates q)
    ∙ sym (cond_of_map (λ v. v.items) (bytes_eq (string_bytes k) q) v (get_by_text m q))
    ∙ ap (λ b. cond b (Some v.items) (option_map (λ v. v.items) (get_by_text m q))) (same_key q)
    ∙ ap (cond (is_eq (slice_cmp nat_cmp q (string_bytes k))) (Some v.items)) (sym (file_files_in m q))
    ∙ sym (get-insert nat_list_cmp_total (files_in m) (string_bytes k) v.items q))
