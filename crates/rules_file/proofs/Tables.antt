-- The table of a text, and its keys.
use Rattle.std.proofs.Common.{◌≡◌, ℕ, List, [], ◌∷◌, Bool, true, false, not, cond, find, Some, None, option_map, String, Global, string_bytes, Ordering, Less, Equal, Greater, nat_cmp, refl, sym, ◌∙◌, ap}
use Rattle.std.proofs.lemmas.Str.{IsUtf8-from_is_utf8, is_utf8-from_IsUtf8}
use Rattle.std.specs.Cmp.Lexicographic.{slice_cmp}
use Rattle.std.specs.List.{AllByRecursion}
use Rattle.std.specs.List.Sorted.{IsStrictlySortedBy}
use Rattle.std.specs.Map.{keys_of}
use Rattle.std.specs.Ordering.{is_lt, ordering_reverse}
use Rattle.std.specs.Str.{is_utf8, IsUtf8}
use Rattle.std.specs.String.{string_cmp, string_cmp_total}
use Rattle.toml.specs.Data.{Members}
use Rattle.toml.specs.Parse.{parse_document}
use Rattle.toml.specs.View.{members_view}
use Rattle.toml.specs.declared.value.Value.{Value}
use Rattle.rules_file.specs.Keys.{is_known, lesser, unknown}
use Rattle.rules_file.specs.Rules.{table_of}

pub table_of-none : (text : List ℕ) → (IsUtf8 text → parse_document text ≡ None) → table_of text ≡ None
unfolding table_of
table_of-none text h = go (is_utf8 text) refl
  where
    go : (b : Bool) → is_utf8 text ≡ b → cond b (parse_document text) None ≡ None
    go true e = h (IsUtf8-from_is_utf8 text e)
    go false e = refl

pub table_of-some : (text : List ℕ) (t : Members) → IsUtf8 text → parse_document text ≡ Some t → table_of text ≡ Some t
unfolding table_of
table_of-some text t u h = rw (is_utf8-from_IsUtf8 text u) h

-- a key before another is the lesser
less_back : (o : Ordering) → Less ≡ ordering_reverse o → is_lt o ≡ false
less_back Less e = cc
less_back Equal e = refl
less_back Greater e = refl

lesser-before : (k l : String Global) → string_cmp k l ≡ Less → lesser (string_bytes k) (Some (string_bytes l)) ≡ Some (string_bytes k)
lesser-before k l e =
    let back : is_lt (slice_cmp nat_cmp (string_bytes l) (string_bytes k)) ≡ false = less_back (string_cmp l k) (sym e ∙ string_cmp_total.antisymm k l) in
    rw back refl

lesser-first : (k : String Global) (ks : List (String Global)) → AllByRecursion (λ y. string_cmp k y ≡ Less) ks
    → lesser (string_bytes k) (option_map string_bytes (find (λ y. not (is_known (string_bytes y))) ks)) ≡ Some (string_bytes k)
lesser-first k [] h = refl
lesser-first k (y ∷ ys) h = go (is_known (string_bytes y)) (lesser-first k ys h.1)
  where
    go : (b : Bool) → lesser (string_bytes k) (option_map string_bytes (find (λ y. not (is_known (string_bytes y))) ys)) ≡ Some (string_bytes k)
        → lesser (string_bytes k) (option_map string_bytes (cond (not b) (Some y) (find (λ y. not (is_known (string_bytes y))) ys))) ≡ Some (string_bytes k)
    go true more = more
    go false more = lesser-before k y h.0

-- of ascending keys the first that is unknown is the least
pub unknown-first : (es : List (String Global × Value)) → IsStrictlySortedBy string_cmp (keys_of es)
    → unknown (members_view es) ≡ option_map string_bytes (find (λ k. not (is_known (string_bytes k))) (keys_of es))
unfolding unknown IsStrictlySortedBy
unknown-first [] h = refl
unknown-first (e ∷ es) h = go (is_known (string_bytes e.0)) (unknown-first es h.1)
  where
    go : (b : Bool) → unknown (members_view es) ≡ option_map string_bytes (find (λ k. not (is_known (string_bytes k))) (keys_of es))
        → cond b (unknown (members_view es)) (lesser (string_bytes e.0) (unknown (members_view es))) ≡ option_map string_bytes (cond (not b) (Some e.0) (find (λ k. not (is_known (string_bytes k))) (keys_of es)))
    go true more = more
    go false more = ap (lesser (string_bytes e.0)) more ∙ lesser-first e.0 (keys_of es) h.0
