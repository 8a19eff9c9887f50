-- What is left of labels, and labels that are found one after another.
use Rattle.std.proofs.Common.{◌≡◌, ℕ, ℤ, ◌≤ℤ◌, ◌++◌, ◌+◌, List, [], ◌∷◌, Bool, true, Option, Some, ap, ◌∙◌, inl, inr, sym, subst, arith, length, take, drop}
use Rattle.std.specs.Prelude.{Contains, slice_get}
use Rattle.std.specs.List.Sorted.{IsPermutation}
use Rattle.std.proofs.lemmas.Int.{ints}
use Rattle.std.proofs.lemmas.List.{append-nil, append_assoc, take-append-drop}
use Rattle.std.proofs.lemmas.List.Elements.{Contains-push, Contains-push_cases, Contains-append_left, Contains-append_right, Contains-append_cases}
use Rattle.std.proofs.lemmas.List.Sorted.{Contains-permutation, IsPermutation-sym}
use Rattle.label_lattice.specs.Laws.{LatticeLaws}
use Rattle.label_setter.specs.declared.labels.Label.{Label}
use Rattle.label_setter.specs.Labels.{Apart, CoveredBy, Gains, Thins, ThinsOver, kept_with}
use Rattle.label_setter.specs.Rooms.{IsOver}
use Rattle.label_setter.proofs.Keep.{kept_with-from, kept_with-covers, kept_with-keeps, kept_with-apart}
use Rattle.label_setter.proofs.Runs.{take_next}

le_through : (a b c : ℤ) → a ≤ℤ b → b ≤ℤ c → a ≤ℤ c
le_through a b c p q = omega (arith, ints)

module _ {R : Type 0} (below : R → R → Bool) where
  -- the same labels in another order
  pub Thins-same : (all other here : List (Label R)) → ((x : Label R) → Contains all x → Contains other x) → ((x : Label R) → Contains other x → Contains all x) → Thins below all here → Thins below other here
  Thins-same all other here there back thins = record {
    from = λ x h. there x (thins.from x h);
    kept = λ gain resource c. thins.kept gain resource (record { by = c.by; stands = back c.by c.stands; gain_ok = c.gain_ok; is_below = c.is_below });
  }

  pub Thins-start : (here : List (Label R)) → Thins below (here ++ []) here
  Thins-start here = rw (append-nil here) (record { from = λ x h. h; kept = λ gain resource c. c })

  pub Thins-none : (all here : List (Label R)) → Thins below all here → Thins below all (here ++ [])
  Thins-none all here thins = rw (append-nil here) thins

  pub Thins-found : (all here found : List (Label R)) → found ≡ [] → Thins below all here → Thins below all (here ++ found)
  Thins-found all here found none thins = rw none (Thins-none all here thins)

  pub Thins-sorted : (here found sorted last : List (Label R)) → IsPermutation found sorted → Thins below (here ++ sorted) last → Thins below (here ++ found) last
  Thins-sorted here found sorted last same =
      Thins-same (here ++ sorted) (here ++ found) last
      (λ x h. elim (Contains-append_cases here sorted x h) [
        | inl first ↦ Contains-append_left here found x first
        | inr second ↦ Contains-append_right here found x (Contains-permutation sorted found x (IsPermutation-sym found sorted same) second)
      ])
      (λ x h. elim (Contains-append_cases here found x h) [
        | inl first ↦ Contains-append_left here sorted x first
        | inr second ↦ Contains-append_right here sorted x (Contains-permutation found sorted x same second)
      ])

  pub ThinsOver-sorted : (here found sorted : List (Label R)) (left : Option ℕ) → IsPermutation found sorted → ThinsOver below (here ++ sorted) left → ThinsOver below (here ++ found) left
  ThinsOver-sorted here found sorted left same over = record {
    here = over.here;
    from = λ x h. elim (Contains-append_cases here sorted x (over.from x h)) [
      | inl first ↦ Contains-append_left here found x first
      | inr second ↦ Contains-append_right here found x (Contains-permutation sorted found x (IsPermutation-sym found sorted same) second)
    ];
    apart = over.apart;
    over = over.over;
  }

  module _ {meet : R → R → R} (laws : LatticeLaws below meet) where
    -- what covers the label covers what the label covers
    covered_through : (xs : List (Label R)) (label : Label R) (gain : ℤ) (resource : R) → CoveredBy below xs label.gain label.resource → gain ≤ℤ label.gain → below label.resource resource ≡ true → CoveredBy below xs gain resource
    covered_through xs label gain resource c le is_below = record {
      by = c.by;
      stands = c.stands;
      gain_ok = le_through gain label.gain c.by.gain le c.gain_ok;
      is_below = laws.transitive c.by.resource label.resource resource c.is_below is_below;
    }

    pub Thins-more : (all here : List (Label R)) (label : Label R) → Thins below all here → Thins below (all ++ label ∷ []) (kept_with below here label)
    Thins-more all here label thins = record {
      from = λ x h. elim (kept_with-from laws here label x h) [
        | inl there ↦ Contains-append_left all (label ∷ []) x (thins.from x there)
        | inr same ↦ subst (Contains (all ++ label ∷ [])) same (Contains-push all label)
      ];
      kept = λ gain resource c. elim (Contains-push_cases all label c.by c.stands) [
        | inl old ↦ kept_with-keeps laws here label gain resource (thins.kept gain resource (record { by = c.by; stands = old; gain_ok = c.gain_ok; is_below = c.is_below }))
        | inr same ↦ covered_through (kept_with below here label) label gain resource (kept_with-covers laws here label)
            (subst (λ (l : Label R). gain ≤ℤ l.gain) (sym same) c.gain_ok) (subst (λ (l : Label R). below l.resource resource ≡ true) (sym same) c.is_below)
      ];
    }

    -- one more of those that were found
    pub Thins-next : (old found here : List (Label R)) (i : ℕ) (label : Label R) → slice_get found i ≡ Some label → Thins below (old ++ take i found) here → Thins below (old ++ take (i + 1) found) (kept_with below here label)
    Thins-next old found here i label read thins =
        let next : old ++ take (i + 1) found ≡ old ++ take i found ++ label ∷ [] =
        ap (λ (xs : List (Label R)). old ++ xs) (take_next found i (i + 1) label (omega arith) read) ∙ sym (append_assoc old (take i found) (label ∷ [])) in
        subst (λ (xs : List (Label R)). Thins below xs (kept_with below here label)) (sym next) (Thins-more (old ++ take i found) here label thins)

    pub Thins-over : (old found here : List (Label R)) (i : ℕ) (label : Label R) (left : Option ℕ) → slice_get found i ≡ Some label → Apart below here → Thins below (old ++ take i found) here → IsOver (length (kept_with below here label)) left → ThinsOver below (old ++ found) left
    Thins-over old found here i label left read apart thins over =
        let next = Thins-next old found here i label read thins in
        let whole : old ++ take (i + 1) found ++ drop (i + 1) found ≡ old ++ found =
        append_assoc old (take (i + 1) found) (drop (i + 1) found) ∙ ap (λ (xs : List (Label R)). old ++ xs) (take-append-drop (i + 1) found) in
        record {
          here = kept_with below here label;
          from = λ x h. subst (λ (xs : List (Label R)). Contains xs x) whole (Contains-append_left (old ++ take (i + 1) found) (drop (i + 1) found) x (next.from x h));
          apart = kept_with-apart laws here label apart;
          over = over;
        }

    pub Gains-push : (here found : List (Label R)) (label : Label R) → Gains below label (here ++ found) (here ++ (found ++ label ∷ []))
    Gains-push here found label = subst (Gains below label (here ++ found)) (append_assoc here found (label ∷ [])) (record {
      from = λ x h. Contains-push_cases (here ++ found) label x h;
      itself = record { by = label; stands = Contains-push (here ++ found) label; gain_ok = omega (arith, ints); is_below = laws.reflexive label.resource };
      kept = λ gain resource c. record { by = c.by; stands = Contains-append_left (here ++ found) (label ∷ []) c.by c.stands; gain_ok = c.gain_ok; is_below = c.is_below };
    })

    pub Gains-thinned : (old mid new : List (Label R)) (label : Label R) → Thins below old mid → Gains below label mid new → Gains below label old new
    Gains-thinned old mid new label thins gains = record {
      from = λ x h. elim (gains.from x h) [ inl there ↦ inl (thins.from x there) | inr same ↦ inr same ];
      itself = gains.itself;
      kept = λ gain resource c. gains.kept gain resource (thins.kept gain resource c);
    }
