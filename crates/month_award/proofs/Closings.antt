-- Closing proofs: how many items they have for their splits, that they are within the limits, and how long they are.
use Rattle.std.proofs.Common.{◌≡◌, ℕ, suc, ◌+◌, ◌*◌, ◌≤◌, Bool, true, false, cond, List, [], ◌∷◌, ◌++◌, length, decimal, codes, Some, refl, sym, ap, ◌∙◌, arith, append_assoc, length-append, mul-add, mul-one}
use Rattle.std.specs.Prelude.{slice_get}
use Rattle.std.specs.List.{flat_map, list_all}
use Rattle.std.proofs.lemmas.Bool.{and_from}
use Rattle.std.proofs.lemmas.List.Folds.{list_all-append}
use Rattle.std.proofs.lemmas.List.Sums.{sum_by-cons, sum_by-append}
use Rattle.roster_model.specs.declared.problem.Problem.{Problem}
use Rattle.roster_model.specs.declared.goal.Goal.{Goal}
use Rattle.roster_model.specs.declared.node.Decision.{Decision}
use Rattle.roster_model.specs.declared.proof.Item.{Item}
use Rattle.roster_model.specs.declared.proof.Item.TheVariants.{Split}
use Rattle.roster_model.specs.Decided.{decided}
use Rattle.roster_model.specs.Closing.{Closes, by_leaf, by_split, IsAccepted, IsOpenPair}
use Rattle.roster_model.specs.Splits.{is_split, splits_in, all_splits}
use Rattle.cert_text.specs.declared.limits.TheConstants.{MOST_ITEMS}
use Rattle.cert_text.specs.Limits.{is_item, is_proof}
use Rattle.cert_text.proofs.KeyLaws.{after_length}
use Rattle.cert_text.specs.Spelling.{line_text, item_text, lenses_of, keys_after, all_keys, numbered_item_text, numbered_items_text, proof_text}
use Rattle.cert_text.specs.declared.version.Version.TheVariants.{Two}
use Rattle.month_award.proofs.Numbers.{within}
use Rattle.month_award.proofs.Lengths.{number-length, words-more, words-one, line-length, lens_lines}
use Rattle.month_award.proofs.Leaves.{leaf_most, split_most, leaf-no_split, leaf-fits, leaf-lenses, leaf-length, split-fits, split-length}

-- how long the first line of a proof is at most
unfoldable pub head_most : ℕ
head_most = 28

-- so long are the items at most of which so many are splits
abbrev pub items_most : ℕ → ℕ
items_most splits = leaf_most * (splits + 1) + split_most * splits

-- and so long are so many proofs
abbrev pub proofs_most : ℕ → ℕ → ℕ
proofs_most splits count = leaf_most * (splits + count) + split_most * splits + head_most * count

-- behind any lenses that were used before, items add so much to the text at most, the lines of lenses that they add included
abbrev pub AddAtMost : ℕ → List Item → Type 0
AddAtMost most items =
    (keys : List (List ℕ)) → length keys + 200 * length items ≤ 8000200
    → length (numbered_items_text keys items) + length (lens_lines (all_keys keys items)) ≤ length (lens_lines keys) + most

-- a leaf more than splits, all within the limits, with few lenses, and short
pub record IsTidy (items : List Item) : Type 0 where
  pub count : length items ≡ splits_in items + splits_in items + 1
  pub fits : list_all is_item items ≡ true
  pub few : (keys : List (List ℕ)) → length (all_keys keys items) ≤ length keys + 200 * length items
  pub short : AddAtMost (items_most (splits_in items)) items

splits-leaf : (leaf : Item) → is_split leaf ≡ false → splits_in (leaf ∷ []) ≡ 0
unfolding splits_in
splits-leaf leaf no_split = ap (λ (b : Bool). 0 + cond b 1 0) no_split

splits-split : (m p : ℕ) (flown not_flown : List Item) → splits_in (Split m p ∷ flown ++ not_flown) ≡ 1 + (splits_in flown + splits_in not_flown)
unfolding splits_in
splits-split m p flown not_flown =
    let w : Item → ℕ = λ i. cond (is_split i) 1 0 in
    sum_by-cons w (Split m p) (flown ++ not_flown) ∙ ap (λ (n : ℕ). 1 + n) (sum_by-append w flown not_flown)

leaf-room : (leaf split s t front : ℕ) → s ≡ 0 → t ≤ front + leaf → t ≤ front + (leaf * (s + 1) + split * s)
leaf-room leaf split s t front none le =
    let one : leaf * (s + 1) ≡ leaf = ap (λ (n : ℕ). leaf * (n + 1)) none ∙ mul-one leaf in
    omega (arith, one, le)

split-room : (leaf split a b s x y z front between after : ℕ) → s ≡ 1 + (a + b) → x + between ≤ front + (leaf * (a + 1) + split * a)
    → y + after ≤ between + (leaf * (b + 1) + split * b) → z ≤ split → z + (x + y) + after ≤ front + (leaf * (s + 1) + split * s)
split-room leaf split a b s x y z front between after is first second third =
    let all : s + 1 ≡ (a + 1) + (b + 1) = omega (arith, is) in
    let leaves : leaf * (s + 1) ≡ leaf * (a + 1) + leaf * (b + 1) = ap (λ (n : ℕ). leaf * n) all ∙ mul-add leaf (a + 1) (b + 1) in
    let splits : split * s ≡ split * 1 + split * (a + b) = ap (λ (n : ℕ). split * n) is ∙ mul-add split 1 (a + b) in
    omega (arith, leaves, splits, mul-one split, mul-add split a b, first, second, third)

-- items behind others go on with the lenses that these used
keys-append : (keys : List (List ℕ)) (xs ys : List Item) → all_keys keys (xs ++ ys) ≡ all_keys (all_keys keys xs) ys
keys-append keys [] ys = refl
keys-append keys (x ∷ xs) ys = keys-append (keys_after keys (lenses_of x)) xs ys

numbered-append : (keys : List (List ℕ)) (xs ys : List Item)
    → numbered_items_text keys (xs ++ ys) ≡ numbered_items_text keys xs ++ numbered_items_text (all_keys keys xs) ys
numbered-append keys [] ys = refl
numbered-append keys (x ∷ xs) ys =
    let after = keys_after keys (lenses_of x) in
    ap (λ (t : List ℕ). numbered_item_text keys x ++ t) (numbered-append after xs ys)
    ∙ sym (append_assoc (numbered_item_text keys x) (numbered_items_text after xs) (numbered_items_text (all_keys after xs) ys))

leaf-tidy : (problem : Problem) (goal : Goal) (node : List Decision) (leaf : Item) → IsAccepted problem goal node leaf → IsTidy (leaf ∷ [])
leaf-tidy problem goal node leaf ok =
    let none = splits-leaf leaf (leaf-no_split problem goal node leaf ok) in
    record {
      count = omega (arith, none);
      fits = and_from _ _ (leaf-fits problem goal node leaf ok) refl;
      few = λ keys. omega (arith, after_length keys (lenses_of leaf), leaf-lenses problem goal node leaf ok);
      short = λ keys room.
          leaf-room leaf_most split_most (splits_in (leaf ∷ []))
          (length (numbered_items_text keys (leaf ∷ [])) + length (lens_lines (keys_after keys (lenses_of leaf)))) (length (lens_lines keys)) none
          (omega (arith, length-append (numbered_item_text keys leaf) [], leaf-length problem goal node leaf ok keys (omega (arith, room))));
    }

module _ (problem : Problem) (node : List Decision) (m p : ℕ) (flown not_flown : List Item) (pair : IsOpenPair problem node m p)
    (first : IsTidy flown) (second : IsTidy not_flown) where
  abbrev whole : List Item
  whole = Split m p ∷ flown ++ not_flown

  split-few : (keys : List (List ℕ)) → length (all_keys keys whole) ≤ length keys + 200 * length whole
  split-few keys =
      let same = ap (λ (ks : List (List ℕ)). length ks) (keys-append keys flown not_flown) in
      omega (arith, same, first.few keys, second.few (all_keys keys flown), length-append flown not_flown)

  split-short : AddAtMost (items_most (splits_in whole)) whole
  split-short keys room =
      let between = all_keys keys flown in
      let fewer = length-append flown not_flown in
      let lines = ap (λ (ks : List (List ℕ)). length (lens_lines ks)) (keys-append keys flown not_flown) in
      let text : length (numbered_items_text keys whole)
      ≡ length (item_text (Split m p)) + (length (numbered_items_text keys flown) + length (numbered_items_text between not_flown)) =
      length-append (item_text (Split m p)) (numbered_items_text keys (flown ++ not_flown))
      ∙ ap (λ (xs : List ℕ). length (item_text (Split m p)) + length xs) (numbered-append keys flown not_flown)
      ∙ ap (λ (n : ℕ). length (item_text (Split m p)) + n) (length-append (numbered_items_text keys flown) (numbered_items_text between not_flown)) in
      let all = split-room leaf_most split_most (splits_in flown) (splits_in not_flown) (splits_in whole)
      (length (numbered_items_text keys flown)) (length (numbered_items_text between not_flown)) (length (item_text (Split m p)))
      (length (lens_lines keys)) (length (lens_lines between)) (length (lens_lines (all_keys between not_flown)))
      (splits-split m p flown not_flown) (first.short keys (omega (arith, room, fewer)))
      (second.short between (omega (arith, room, fewer, first.few keys))) (split-length problem node m p pair) in
      omega (arith, text, lines, all)

  pub split-tidy : IsTidy whole
  split-tidy =
      let is = splits-split m p flown not_flown in
      record {
        count = omega (arith, is, length-append flown not_flown, first.count, second.count);
        fits = and_from _ _ (split-fits problem node m p pair) (list_all-append is_item flown not_flown ∙ and_from _ _ first.fits second.fits);
        few = split-few;
        short = split-short;
      }

pub closing-tidy : (problem : Problem) (goal : Goal) (node : List Decision) (items : List Item) → Closes problem goal node items → IsTidy items
closing-tidy problem goal node items (by_leaf node' leaf ok) = leaf-tidy problem goal node' leaf ok
closing-tidy problem goal node items (by_split node' m p flown not_flown pair first second) =
    split-tidy problem node' m p flown not_flown pair
    (closing-tidy problem goal (decided node' m p true) flown first) (closing-tidy problem goal (decided node' m p false) not_flown second)

pub proof-fits : (items : List Item) → IsTidy items → splits_in items ≤ 20000 → is_proof items ≡ true
proof-fits items tidy few = and_from _ _ (within (length items) MOST_ITEMS (omega (arith, tidy.count, few))) tidy.fits

pub proof-length : (items : List Item) → IsTidy items → splits_in items ≤ 20000 → length (proof_text Two items) ≤ head_most + items_most (splits_in items)
unfolding head_most
proof-length items tidy few =
    let five : length (codes "proof") ≡ 5 = refl in
    let keys = all_keys [] items in
    let items_few : length items ≤ 40001 = omega (arith, tidy.count, few) in
    let lenses_few : length keys ≤ 8000200 = omega (arith, tidy.few [], items_few) in
    let words = decimal (length keys) ∷ [] in
    let head = line_text (codes "proof") (decimal (length items) ∷ words) in
    omega (
      arith,
      five,
      length-append (head ++ lens_lines keys) (numbered_items_text [] items),
      length-append head (lens_lines keys),
      line-length (codes "proof") (decimal (length items) ∷ words),
      words-more (decimal (length items)) words,
      words-one (decimal (length keys)),
      number-length (length items) (omega (arith, items_few)),
      number-length (length keys) (omega (arith, lenses_few)),
      tidy.short [] (omega (arith, items_few)),
    )

-- each of the proofs
abbrev pub AreTidy : List (List Item) → Type 0
AreTidy proofs = (k : ℕ) (proof : List Item) → slice_get proofs k ≡ Some proof → IsTidy proof

all_splits-more : (proof : List Item) (proofs : List (List Item)) → all_splits (proof ∷ proofs) ≡ splits_in proof + all_splits proofs
unfolding all_splits
all_splits-more proof proofs = sum_by-cons splits_in proof proofs

pub proofs-room : (leaf split head a s n x y : ℕ) → x ≤ head + (leaf * (a + 1) + split * a) → y ≤ leaf * (s + n) + split * s + head * n
    → x + y ≤ leaf * ((a + s) + suc n) + split * (a + s) + head * suc n
proofs-room leaf split head a s n x y first rest =
    let all : (a + s) + suc n ≡ (a + 1) + (s + n) = omega arith in
    let more : suc n ≡ 1 + n = omega arith in
    let leaves : leaf * ((a + s) + suc n) ≡ leaf * (a + 1) + leaf * (s + n) = ap (λ (k : ℕ). leaf * k) all ∙ mul-add leaf (a + 1) (s + n) in
    let heads : head * suc n ≡ head * 1 + head * n = ap (λ (k : ℕ). head * k) more ∙ mul-add head 1 n in
    omega (arith, leaves, heads, mul-one head, mul-add split a s, first, rest)

pub proofs-fit : (proofs : List (List Item)) → AreTidy proofs → all_splits proofs ≤ 20000 → list_all is_proof proofs ≡ true
proofs-fit [] tidy few = refl
proofs-fit (proof ∷ proofs) tidy few =
    let is = all_splits-more proof proofs in
    and_from _ _ (proof-fits proof (tidy 0 proof refl) (omega (arith, is, few)))
    (proofs-fit proofs (λ k p here. tidy (suc k) p here) (omega (arith, is, few)))

pub proofs-length : (proofs : List (List Item)) → AreTidy proofs → all_splits proofs ≤ 20000
    → length (flat_map (proof_text Two) proofs) ≤ proofs_most (all_splits proofs) (length proofs)
proofs-length [] tidy few = omega arith
proofs-length (proof ∷ proofs) tidy few =
    let is = all_splits-more proof proofs in
    let first = proof-length proof (tidy 0 proof refl) (omega (arith, is, few)) in
    let rest = proofs-length proofs (λ k p here. tidy (suc k) p here) (omega (arith, is, few)) in
    let room = proofs-room leaf_most split_most head_most (splits_in proof) (all_splits proofs) (length proofs)
    (length (proof_text Two proof)) (length (flat_map (proof_text Two) proofs)) first rest in
    let same : proofs_most (all_splits (proof ∷ proofs)) (length (proof ∷ proofs)) ≡ proofs_most (splits_in proof + all_splits proofs) (suc (length proofs)) =
    ap (λ (n : ℕ). proofs_most n (suc (length proofs))) is in
    omega (arith, length-append (proof_text Two proof) (flat_map (proof_text Two) proofs), room, same)
