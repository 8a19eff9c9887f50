-- Items that close a node, and splits on open pairs: they are within the limits of certificates, and short.
use Rattle.std.proofs.Common.{◌≡◌, ℕ, ◌+◌, ◌<◌, ◌≤◌, true, false, ℤ, List, [], ◌∷◌, length, decimal, codes, refl, arith, zero, suc, length-append}
use Rattle.std.specs.Prelude.{All}
use Rattle.std.proofs.lemmas.Bool.{and_from}
use Rattle.std.proofs.lemmas.List.Sums.{list_all-from_AllPass}
use Rattle.std.proofs.lemmas.Option.{slice_get-get_or}
use Rattle.roster_model.specs.declared.problem.Problem.{Problem}
use Rattle.roster_model.specs.declared.goal.Goal.{Goal}
use Rattle.roster_model.specs.declared.node.Decision.{Decision}
use Rattle.roster_model.specs.declared.proof.Lens.{Lens}
use Rattle.roster_model.specs.declared.proof.Item.{Item}
use Rattle.roster_model.specs.declared.proof.Item.TheVariants.{Split, Count, Fixed, NoLine, Weights}
use Rattle.roster_model.specs.Closing.{IsAccepted, IsOpenPair}
use Rattle.roster_model.specs.Lenses.{AreLenses, IsOutweighed}
use Rattle.roster_model.specs.Splits.{is_split}
use Rattle.cert_text.specs.declared.limits.TheConstants.{MOST_LENSES, MOST_ENTRIES}
use Rattle.cert_text.specs.Limits.{is_weight, is_lens, is_item}
use Rattle.cert_text.specs.Spelling.{line_text, index_text, item_text, number_text, numbers_text, keys_after, entries_text, lenses_of, numbered_item_text}
use Rattle.month_award.proofs.Numbers.{within, HasSmallNumbers, lens-numbers, lens-fits, weight-fits, index-fits}
use Rattle.month_award.proofs.Lengths.{three-digits, words-more, words-one, line-length, entries-length, number-of_lens, numbers-of_lenses, lens_lines, lines-more}

-- how long the text of a leaf is at most with the lines of its lenses, and that of a split
unfoldable pub leaf_most : ℕ
leaf_most = 55615

unfoldable pub split_most : ℕ
split_most = 30

lenses-numbers : (problem : Problem) (lenses : List Lens) → AreLenses problem lenses → All HasSmallNumbers lenses
lenses-numbers problem lenses shapes k d lt = lens-numbers problem k _ (shapes k _ (slice_get-get_or lenses k d lt))

pub index-length : (i : ℕ) → i < 600 → length (index_text i) ≤ 3
index-length i lt = three-digits (i + 1) (omega (arith, lt))

member-small : (problem : Problem) (m : ℕ) → m < length problem.base.members → m < 600
member-small problem m lt = omega (arith, lt, problem.valid.month.members_form.few)

pub pairing-small : (problem : Problem) (p : ℕ) → p < length problem.base.pairings → p < 600
pairing-small problem p lt = omega (arith, lt, problem.valid.month.pairings_form.few)

module _ (problem : Problem) (goal : Goal) (node : List Decision) where
  pub leaf-no_split : (leaf : Item) → IsAccepted problem goal node leaf → is_split leaf ≡ false
  unfolding IsAccepted
  leaf-no_split (Split m p) ok = absurd ok
  leaf-no_split (Count p) ok = refl
  leaf-no_split (Fixed m) ok = refl
  leaf-no_split (NoLine m lens) ok = refl
  leaf-no_split (Weights ys lenses) ok = refl

  weights-fits : (ys : List ℤ) (lenses : List Lens) → IsOutweighed problem goal node ys lenses → is_item (Weights ys lenses) ≡ true
  weights-fits ys lenses ok =
      let small = lenses-numbers problem lenses ok.shapes in
      and_from _ _
      (and_from _ _ (within (length ys) MOST_ENTRIES (omega (arith, ok.per_pairing, problem.valid.month.pairings_form.few)))
      (list_all-from_AllPass is_weight ys (λ k w lt. weight-fits _ (ok.small k w lt))))
      (and_from _ _ (within (length lenses) MOST_LENSES (omega (arith, ok.per_member, problem.valid.month.members_form.few)))
      (list_all-from_AllPass is_lens lenses (λ k l lt. lens-fits _ (small k l lt))))

  pub leaf-fits : (leaf : Item) → IsAccepted problem goal node leaf → is_item leaf ≡ true
  unfolding IsAccepted
  leaf-fits (Split m p) ok = absurd ok
  leaf-fits (Count p) ok = index-fits p (pairing-small problem p ok.in_range)
  leaf-fits (Fixed m) ok = index-fits m (member-small problem m ok.in_range)
  leaf-fits (NoLine m lens) ok =
      and_from _ _ (index-fits m (member-small problem m ok.in_range)) (lens-fits lens (lens-numbers problem m lens ok.shape))
  leaf-fits (Weights ys lenses) ok = weights-fits ys lenses ok

  few-lenses : (lenses : List Lens) → length lenses ≡ length problem.base.members → length lenses ≤ 200
  few-lenses lenses per_member = omega (arith, per_member, problem.valid.month.members_form.few)

  pub leaf-lenses : (leaf : Item) → IsAccepted problem goal node leaf → length (lenses_of leaf) ≤ 200
  unfolding IsAccepted
  leaf-lenses (Split m p) ok = absurd ok
  leaf-lenses (Count p) ok = omega arith
  leaf-lenses (Fixed m) ok = omega arith
  leaf-lenses (NoLine m lens) ok = omega arith
  leaf-lenses (Weights ys lenses) ok = few-lenses lenses ok.per_member

  -- the two lines of weights
  weights-text : (keys : List (List ℕ)) (ys : List ℤ) (lenses : List Lens) → IsOutweighed problem goal node ys lenses → length keys + 200 ≤ 8000200
      → length (numbered_item_text keys (Weights ys lenses)) ≤ 11215
  weights-text keys ys lenses ok room =
      let seven : length (codes "weights") ≡ 7 = refl in
      let two : length (codes "by") ≡ 2 = refl in
      let pairings : length ys ≤ 600 = omega (arith, ok.per_pairing, problem.valid.month.pairings_form.few) in
      let members = few-lenses lenses ok.per_member in
      let words = decimal (length ys) ∷ entries_text 0 ys in
      omega (
        arith,
        seven,
        two,
        pairings,
        members,
        length-append (line_text (codes "weights") words) (line_text (codes "by") (numbers_text keys lenses)),
        line-length (codes "weights") words,
        words-more (decimal (length ys)) (entries_text 0 ys),
        three-digits (length ys) (omega (arith, pairings)),
        entries-length 0 ys ok.small (omega (arith, pairings)),
        line-length (codes "by") (numbers_text keys lenses),
        numbers-of_lenses keys lenses (omega (arith, room, members)),
      )

  -- behind any lenses that were used before
  pub leaf-length : (leaf : Item) → IsAccepted problem goal node leaf → (keys : List (List ℕ)) → length keys + 200 ≤ 8000200
      → length (numbered_item_text keys leaf) + length (lens_lines (keys_after keys (lenses_of leaf))) ≤ length (lens_lines keys) + leaf_most
  unfolding IsAccepted leaf_most
  leaf-length (Split m p) ok keys room = absurd ok
  leaf-length (Count p) ok keys room =
      let five : length (codes "count") ≡ 5 = refl in
      omega (arith, five, line-length (codes "count") (index_text p ∷ []), words-one (index_text p), index-length p (pairing-small problem p ok.in_range))
  leaf-length (Fixed m) ok keys room =
      let five : length (codes "fixed") ≡ 5 = refl in
      omega (arith, five, line-length (codes "fixed") (index_text m ∷ []), words-one (index_text m), index-length m (member-small problem m ok.in_range))
  leaf-length (NoLine m lens) ok keys room =
      let six : length (codes "noline") ≡ 6 = refl in
      let words = number_text keys lens ∷ [] in
      omega (
        arith,
        six,
        line-length (codes "noline") (index_text m ∷ words),
        words-more (index_text m) words,
        words-one (number_text keys lens),
        index-length m (member-small problem m ok.in_range),
        number-of_lens keys lens (omega (arith, room)),
        lines-more keys (lens ∷ []) (one-lens lens (lens-numbers problem m lens ok.shape)),
      )
    where
      one-lens : (lens : Lens) → HasSmallNumbers lens → All HasSmallNumbers (lens ∷ [])
      one-lens lens small zero d lt = small
      one-lens lens small (suc k) d lt = absurd (omega arith)
  leaf-length (Weights ys lenses) ok keys room =
      omega (
        arith,
        weights-text keys ys lenses ok room,
        lines-more keys lenses (lenses-numbers problem lenses ok.shapes),
        few-lenses lenses ok.per_member,
      )

pub split-fits : (problem : Problem) (node : List Decision) (m p : ℕ) → IsOpenPair problem node m p → is_item (Split m p) ≡ true
split-fits problem node m p pair =
    and_from _ _ (index-fits m (member-small problem m pair.member_in_range)) (index-fits p (pairing-small problem p pair.pairing_in_range))

pub split-length : (problem : Problem) (node : List Decision) (m p : ℕ) → IsOpenPair problem node m p → length (item_text (Split m p)) ≤ split_most
unfolding split_most
split-length problem node m p pair =
    let five : length (codes "split") ≡ 5 = refl in
    omega (
      arith,
      five,
      line-length (codes "split") (index_text m ∷ index_text p ∷ []),
      words-more (index_text m) (index_text p ∷ []),
      words-one (index_text p),
      index-length m (member-small problem m pair.member_in_range),
      index-length p (pairing-small problem p pair.pairing_in_range),
    )
