-- The parts that are shown for denials: they are within the limits of certificates, and short.
use Rattle.std.proofs.Common.{◌≡◌, ℕ, suc, ◌+◌, ◌*◌, ◌≤◌, true, List, [], ◌∷◌, ◌++◌, length, decimal, codes, Option, Some, None, refl, ap, arith, inl, inr, length-append}
use Rattle.std.specs.Prelude.{slice_get}
use Rattle.std.specs.List.{flat_map, list_all}
use Rattle.std.specs.Option.{ForSome}
use Rattle.std.proofs.lemmas.Bool.{and_from}
use Rattle.std.proofs.lemmas.List.Sums.{sum_by-cons}
use Rattle.std.proofs.lemmas.Option.{slice_get_cases, slice_get_past}
use Rattle.roster_model.specs.declared.problem.Problem.{Problem}
use Rattle.roster_model.specs.declared.award.Denial.{Denial}
use Rattle.roster_model.specs.declared.award.Shown.{Shown}
use Rattle.roster_model.specs.declared.proof.Item.{Item}
use Rattle.roster_model.specs.Denials.{DenialsFit, IsShown, granting, place_of}
use Rattle.roster_model.specs.Rosters.{scores_of}
use Rattle.roster_model.specs.Splits.{splits_of, shown_splits}
use Rattle.cert_text.specs.Limits.{is_shown, is_shown_proof, is_roster}
use Rattle.cert_text.specs.Spelling.{line_text, flag_text, row_text, has_proof, rows_of, shown_proof_text, shown_text}
use Rattle.cert_text.specs.declared.version.Version.TheVariants.{Two}
use Rattle.month_award.proofs.Lengths.{three-digits, flag-length, words-more, words-one, line-length}
use Rattle.month_award.proofs.Leaves.{leaf_most, split_most}
use Rattle.month_award.proofs.Closings.{head_most, items_most, IsTidy, closing-tidy, proof-fits, proof-length, proofs-room}
use Rattle.month_award.proofs.Rosters.{IsShort, rows_most, complete-short}

-- the proof of a part is tidy, and its roster is short
pub record IsTidyPart (part : Shown) : Type 0 where
  pub proof : ForSome part.proof IsTidy
  pub roster : ForSome part.roster IsShort

shown-tidy : (problem : Problem) (scores : List ℕ) (denial : Denial) (part : Shown) → IsShown problem scores denial part → IsTidyPart part
shown-tidy problem scores denial part is = record {
  proof = λ items here. closing-tidy problem (granting scores (place_of denial.cause) denial.bid) [] items (is.proof items here);
  roster = λ rows here. complete-short problem rows (is.roster rows here).grants.complete;
}

-- each of the parts
abbrev pub AreTidyParts : List Shown → Type 0
AreTidyParts shown = (k : ℕ) (part : Shown) → slice_get shown k ≡ Some part → IsTidyPart part

-- the parts of denials that fit
pub parts-tidy : (problem : Problem) (roster : List (List ℕ)) (reasons : List Denial) (shown : List Shown)
    → DenialsFit problem roster reasons shown → AreTidyParts shown
parts-tidy problem roster reasons shown fit k part here = elim (slice_get_cases reasons k).1 [
  | inl there ↦ shown-tidy problem (scores_of problem roster) there.0 part (fit.each k there.0 part there.2 here)
  | inr past ↦ absurd (let none : slice_get shown k ≡ None = slice_get_past shown k (omega (arith, past.0, fit.count)) in cc)
]

proof_part-fits : (proof : Option (List Item)) → ForSome proof IsTidy → splits_of proof ≤ 20000 → is_shown_proof proof ≡ true
proof_part-fits None tidy few = refl
proof_part-fits (Some items) tidy few = proof-fits items (tidy items refl) few

roster_part-fits : (roster : Option (List (List ℕ))) → ForSome roster IsShort → is_roster roster ≡ true
roster_part-fits None short = refl
roster_part-fits (Some rows) short = (short rows refl).fits

proof_part-length : (proof : Option (List Item)) → ForSome proof IsTidy → splits_of proof ≤ 20000
    → length (shown_proof_text Two proof) ≤ head_most + items_most (splits_of proof)
proof_part-length None tidy few = omega arith
proof_part-length (Some items) tidy few = proof-length items (tidy items refl) few

few-rows : (roster : Option (List (List ℕ))) → ForSome roster IsShort → length (rows_of roster) ≤ 200
few-rows None short = omega arith
few-rows (Some rows) short = (short rows refl).few

roster_part-length : (roster : Option (List (List ℕ))) → ForSome roster IsShort → length (flat_map row_text (rows_of roster)) ≤ rows_most
roster_part-length None short = omega arith
roster_part-length (Some rows) short = (short rows refl).short

-- how long a part is at most but for the items of its proof
unfoldable pub part_most : ℕ
part_most = head_most + (20 + rows_most)

part-fits : (part : Shown) → IsTidyPart part → splits_of part.proof ≤ 20000 → is_shown part ≡ true
part-fits part tidy few = and_from _ _ (proof_part-fits part.proof tidy.proof few) (roster_part-fits part.roster tidy.roster)

part-length : (part : Shown) → IsTidyPart part → splits_of part.proof ≤ 20000
    → length (shown_text Two part) ≤ part_most + items_most (splits_of part.proof)
unfolding part_most
part-length part tidy few =
    let five : length (codes "shown") ≡ 5 = refl in
    let rows = rows_of part.roster in
    let head = line_text (codes "shown") (flag_text (has_proof part.proof) ∷ decimal (length rows) ∷ []) in
    let few_rows = few-rows part.roster tidy.roster in
    omega (
      arith,
      five,
      length-append (head ++ shown_proof_text Two part.proof) (flat_map row_text rows),
      length-append head (shown_proof_text Two part.proof),
      line-length (codes "shown") (flag_text (has_proof part.proof) ∷ decimal (length rows) ∷ []),
      words-more (flag_text (has_proof part.proof)) (decimal (length rows) ∷ []),
      words-one (decimal (length rows)),
      flag-length (has_proof part.proof),
      three-digits (length rows) (omega (arith, few_rows)),
      proof_part-length part.proof tidy.proof few,
      roster_part-length part.roster tidy.roster,
    )

-- so long are so many parts at most whose proofs have so many splits
abbrev pub parts_most : ℕ → ℕ → ℕ
parts_most splits count = leaf_most * (splits + count) + split_most * splits + part_most * count

shown_splits-more : (part : Shown) (shown : List Shown) → shown_splits (part ∷ shown) ≡ splits_of part.proof + shown_splits shown
unfolding shown_splits
shown_splits-more part shown = sum_by-cons (λ (p : Shown). splits_of p.proof) part shown

pub parts-fit : (shown : List Shown) → AreTidyParts shown → shown_splits shown ≤ 20000 → list_all is_shown shown ≡ true
parts-fit [] tidy few = refl
parts-fit (part ∷ shown) tidy few =
    let is = shown_splits-more part shown in
    and_from _ _ (part-fits part (tidy 0 part refl) (omega (arith, is, few)))
    (parts-fit shown (λ k p here. tidy (suc k) p here) (omega (arith, is, few)))

pub parts-length : (shown : List Shown) → AreTidyParts shown → shown_splits shown ≤ 20000
    → length (flat_map (shown_text Two) shown) ≤ parts_most (shown_splits shown) (length shown)
parts-length [] tidy few = omega arith
parts-length (part ∷ shown) tidy few =
    let is = shown_splits-more part shown in
    let first = part-length part (tidy 0 part refl) (omega (arith, is, few)) in
    let rest = parts-length shown (λ k p here. tidy (suc k) p here) (omega (arith, is, few)) in
    let room = proofs-room leaf_most split_most part_most (splits_of part.proof) (shown_splits shown) (length shown)
    (length (shown_text Two part)) (length (flat_map (shown_text Two) shown)) first rest in
    let same : parts_most (shown_splits (part ∷ shown)) (length (part ∷ shown)) ≡ parts_most (splits_of part.proof + shown_splits shown) (suc (length shown)) =
    ap (λ (n : ℕ). parts_most n (suc (length shown))) is in
    omega (arith, length-append (shown_text Two part) (flat_map (shown_text Two) shown), room, same)
