-- A certificate within the limits of its text has shown parts as the judge asks for them.
use Rattle.std.proofs.Common.{◌≡◌, ℕ, ◌<◌, ◌≤◌, ◌^◌, Bool, true, ◌&&◌, nat_le, nat_lt, ℤ, pos, negsuc, All, List, [], ◌∷◌, length, Option, Some, None, subst, arith}
use Rattle.std.proofs.lemmas.Int.{ints}
use Rattle.std.proofs.lemmas.Bool.{and_parts}
use Rattle.std.proofs.lemmas.Bool.Decides.{nat_tests}
use Rattle.std.proofs.lemmas.List.Elements.{All-nil, All-cons}
use Rattle.std.specs.List.{list_all}
use Rattle.std.specs.Option.{ForSome}
use Rattle.roster_model.specs.declared.award.Awarded.{Awarded}
use Rattle.roster_model.specs.declared.award.Shown.{Shown}
use Rattle.roster_model.specs.declared.award.Certificate.TheVariants.{Award}
use Rattle.roster_model.specs.declared.proof.Item.{Item}
use Rattle.roster_model.specs.declared.proof.Item.TheVariants.{Split, Count, Fixed, NoLine, Weights}
use Rattle.roster_model.specs.declared.proof.Lens.{Lens}
use Rattle.roster_model.specs.Weights.{IsSmallWeight}
use Rattle.cert_text.specs.declared.limits.TheConstants.{MOST_PROOFS, MOST_SHOWN, MOST_ITEMS, MOST_LENSES, MOST_ENTRIES, MOST_WINDOWS, LAST_MINUTE}
use Rattle.cert_text.specs.Limits.{is_index, is_weight, is_few, is_window, is_lens, is_item, is_proof, is_roster, is_shown_proof, is_shown, is_certificate}
use Rattle.cert_checker.specs.Given.{HasSmallWeights, HasFewWindows, HasFewParts, IsCountableProof, HasSmallProof, HasCountableProof, AreCountableParts}

pub all_of : {A : Type 0} (test : A → Bool) (P : A → Type 0) → ((x : A) → test x ≡ true → P x) → (xs : List A) → list_all test xs ≡ true → All P xs
all_of test P each [] h = All-nil P
all_of test P each (x ∷ xs) h =
    let parts = and_parts (test x) (list_all test xs) h in
    All-cons P x xs (each x parts.0) (all_of test P each xs parts.1)

below : (most n : ℕ) → most < 2 ^ 32 → nat_le n most ≡ true → n < 2 ^ 32
below most n small h = let le : n ≤ most = grind (arith, nat_tests) in omega (arith, small, le)

pub few : {A : Type 0} (most : ℕ) (test : A → Bool) (xs : List A) → is_few most test xs ≡ true → (nat_le (length xs) most ≡ true) × (list_all test xs ≡ true)
few most test xs h = and_parts (nat_le (length xs) most) (list_all test xs) h

small_weight : (w : ℤ) → is_weight w ≡ true → IsSmallWeight w
small_weight (pos n) h = let le : n ≤ 2147483647 = grind (arith, nat_tests) in (omega (arith, ints, le), omega (arith, ints, le))
small_weight (negsuc n) h = let le : n < 2147483647 = grind (arith, nat_tests) in (omega (arith, ints, le), omega (arith, ints, le))

pub small_weights : (i : Item) → is_item i ≡ true → HasSmallWeights i
small_weights (Split m p) h = tt
small_weights (Count p) h = tt
small_weights (Fixed m) h = tt
small_weights (NoLine m l) h = tt
small_weights (Weights ws ls) h =
    let parts = and_parts (is_few MOST_ENTRIES is_weight ws) (is_few MOST_LENSES is_lens ls) h in
    all_of is_weight IsSmallWeight small_weight ws (few MOST_ENTRIES is_weight ws parts.0).1

few_windows : (l : Lens) → is_lens l ≡ true → HasFewWindows l
few_windows l h =
    let a = and_parts (nat_le l.grain LAST_MINUTE) (nat_lt l.tracked (2 ^ 64) && is_few MOST_WINDOWS is_window l.windows) h in
    let b = and_parts (nat_lt l.tracked (2 ^ 64)) (is_few MOST_WINDOWS is_window l.windows) a.1 in
    below MOST_WINDOWS (length l.windows) (omega arith) (few MOST_WINDOWS is_window l.windows b.1).0

few_parts : (i : Item) → is_item i ≡ true → HasFewParts i
few_parts (Split m p) h = tt
few_parts (Count p) h = tt
few_parts (Fixed m) h = tt
few_parts (NoLine m l) h = few_windows l (and_parts (is_index m) (is_lens l) h).1
few_parts (Weights ws ls) h =
    let parts = and_parts (is_few MOST_ENTRIES is_weight ws) (is_few MOST_LENSES is_lens ls) h in
    let weights = few MOST_ENTRIES is_weight ws parts.0 in
    let lenses = few MOST_LENSES is_lens ls parts.1 in (
      below MOST_ENTRIES (length ws) (omega arith) weights.0,
      below MOST_LENSES (length ls) (omega arith) lenses.0,
      all_of is_lens HasFewWindows few_windows ls lenses.1,
    )

pub countable : (items : List Item) → is_proof items ≡ true → IsCountableProof items
countable items h =
    let parts = few MOST_ITEMS is_item items h in
    record { few_items = below MOST_ITEMS (length items) (omega arith) parts.0; few_parts = all_of is_item HasFewParts few_parts items parts.1 }

of_proof : (P : List Item → Type 0) → ((items : List Item) → is_proof items ≡ true → P items) → (o : Option (List Item)) → is_shown_proof o ≡ true → ForSome o P
of_proof P each (Some items) h = λ x e. let same : items ≡ x = cc in subst P same (each items h)
of_proof P each None h = λ x e. absurd cc

module _ (a : Awarded) (h : is_certificate (Award a) ≡ true) where
  shown_fits : (nat_le (length a.shown) MOST_SHOWN ≡ true) × (list_all is_shown a.shown ≡ true)
  shown_fits = few MOST_SHOWN is_shown a.shown (and_parts (is_few MOST_PROOFS is_proof a.proofs) (is_few MOST_SHOWN is_shown a.shown) h).1

  pub small_parts : All HasSmallProof a.shown
  small_parts = all_of is_shown HasSmallProof small a.shown shown_fits.1
    where
      small : (s : Shown) → is_shown s ≡ true → HasSmallProof s
      small s fits =
          of_proof (All HasSmallWeights) (λ items is. all_of is_item HasSmallWeights small_weights items (few MOST_ITEMS is_item items is).1) s.proof
          (and_parts (is_shown_proof s.proof) (is_roster s.roster) fits).0

  pub countable_parts : AreCountableParts a.shown
  countable_parts = record { few_parts = below MOST_SHOWN (length a.shown) (omega arith) shown_fits.0; each = all_of is_shown HasCountableProof each a.shown shown_fits.1 }
    where
      each : (s : Shown) → is_shown s ≡ true → HasCountableProof s
      each s fits = of_proof IsCountableProof countable s.proof (and_parts (is_shown_proof s.proof) (is_roster s.roster) fits).0
