-- Records of text, and the field at a place.
use Rattle.std.proofs.Common.{◌≡◌, ℕ, zero, suc, ◌≤◌, List, [], ◌∷◌, length, get_or, Bool, true, false, refl, arith, ◌&&◌}
use Rattle.std.proofs.lemmas.Str.{IsUtf8-from_is_utf8, is_utf8-from_IsUtf8}
use Rattle.std.specs.List.{list_all}
use Rattle.std.specs.Str.{is_utf8}
use Rattle.csv.specs.Records.{AllText}
use Rattle.field_text.specs.Records.{AreWithin}

-- each field is text, as a test
pub list_all-AllText : (fs : List (List ℕ)) → AllText fs → list_all is_utf8 fs ≡ true
unfolding AllText
list_all-AllText [] h = refl
list_all-AllText (f ∷ fs) h = rw (is_utf8-from_IsUtf8 f h.0, list_all-AllText fs h.1) refl

pub AllText-list_all : (fs : List (List ℕ)) → list_all is_utf8 fs ≡ true → AllText fs
unfolding AllText
AllText-list_all [] h = tt
AllText-list_all (f ∷ fs) h = go (is_utf8 f) refl h (AllText-list_all fs)
  where
    go : (b : Bool) → is_utf8 f ≡ b → (b && list_all is_utf8 fs) ≡ true → (list_all is_utf8 fs ≡ true → AllText fs) → AllText (f ∷ fs)
    go true e k more = (IsUtf8-from_is_utf8 f e, more k)
    go false e k more = absurd (cc)

pub not-AllText : (fs : List (List ℕ)) → ¬ (AllText fs) → list_all is_utf8 fs ≡ false
not-AllText fs h = go (list_all is_utf8 fs) refl
  where
    go : (b : Bool) → list_all is_utf8 fs ≡ b → b ≡ false
    go true e = absurd (h (AllText-list_all fs e))
    go false e = refl

pub within-at : (n : ℕ) (fs : List (List ℕ)) (i : ℕ) → AreWithin n fs → length (get_or fs i []) ≤ n
within-at n [] i h = omega arith
within-at n (f ∷ fs) zero h = h.0
within-at n (f ∷ fs) (suc i) h = within-at n fs i h.1
