-- Certificates of tidy proofs and parts have a text that is read and is not too long.
use Rattle.std.proofs.Common.{◌≡◌, ℕ, ◌+◌, ◌*◌, ◌≤◌, List, [], ◌∷◌, ◌++◌, length, decimal, codes, refl, ◌∙◌, arith, length-append}
use Rattle.std.specs.List.{flat_map}
use Rattle.std.proofs.lemmas.Bool.{and_from}
use Rattle.roster_model.specs.declared.proof.Item.{Item}
use Rattle.roster_model.specs.declared.award.Shown.{Shown}
use Rattle.roster_model.specs.declared.award.Certificate.{Certificate}
use Rattle.roster_model.specs.declared.award.Certificate.TheVariants as form
use Rattle.roster_model.specs.Splits.{splits_in, all_splits, shown_splits}
use Rattle.cert_text.specs.declared.limits.TheConstants.{MOST_PROOFS, MOST_SHOWN}
use Rattle.cert_text.specs.Spelling.{line_text, proof_text, shown_text, body_text, certificate_text, written_text}
use Rattle.cert_text.specs.declared.version.Version.TheVariants.{Two}
use Rattle.cert_text.proofs.Written.{written_length}
use Rattle.month_award.specs.Months.{IsWritable}
use Rattle.month_award.proofs.Numbers.{within}
use Rattle.month_award.proofs.Lengths.{number-length, words-more, words-one, line-length}
use Rattle.month_award.proofs.Leaves.{leaf_most, split_most}
use Rattle.month_award.proofs.Closings.{head_most, proofs_most, IsTidy, AreTidy, proof-fits, proof-length, proofs-fit, proofs-length}
use Rattle.month_award.proofs.Rosters.{rows_most}
use Rattle.month_award.proofs.Parts.{part_most, parts_most, AreTidyParts, parts-fit, parts-length}

-- the lines around the body
frame-two : (c : Certificate) → length (certificate_text Two c) ≡ 22 + length (body_text Two c)
unfolding certificate_text
frame-two c =
    let first = line_text (codes "pbs-certificate") (codes "2" ∷ []) in
    let last = line_text (codes "end") [] in
    let eighteen : length first ≡ 18 = refl in
    let four : length last ≡ 4 = refl in
    omega (arith, length-append first (body_text Two c ++ last), length-append (body_text Two c) last, eighteen, four)

frame-length : (c : Certificate) → length (written_text c) ≡ 22 + length (body_text Two c)
frame-length c = written_length c ∙ frame-two c

award-body : (proofs : List (List Item)) (shown : List Shown) → length proofs ≤ 200 → length shown ≤ 12800
    → length (body_text Two (form.Award (record { proofs = proofs; shown = shown })))
    ≤ 28 + (length (flat_map (proof_text Two) proofs) + length (flat_map (shown_text Two) shown))
award-body proofs shown few_proofs few_parts =
    let words = decimal (length shown) ∷ [] in
    let head = line_text (codes "award") (decimal (length proofs) ∷ words) in
    let five : length (codes "award") ≡ 5 = refl in
    omega (
      arith,
      five,
      length-append (head ++ flat_map (proof_text Two) proofs) (flat_map (shown_text Two) shown),
      length-append head (flat_map (proof_text Two) proofs),
      line-length (codes "award") (decimal (length proofs) ∷ words),
      words-more (decimal (length proofs)) words,
      words-one (decimal (length shown)),
      number-length (length proofs) (omega (arith, few_proofs)),
      number-length (length shown) (omega (arith, few_parts)),
    )

none-body : (proof : List Item) → length (body_text Two (form.NoRoster proof)) ≡ 5 + length (proof_text Two proof)
none-body proof =
    let five : length (line_text (codes "none") []) ≡ 5 = refl in
    omega (arith, five, length-append (line_text (codes "none") []) (proof_text Two proof))

-- so many proofs and parts with so many splits fit in the file
file-room : (a b proofs parts rest : ℕ) → a + b ≤ 20000 → proofs ≤ 200 → parts ≤ 12800 → rest ≤ 100
    → proofs_most a proofs + parts_most b parts + rest ≤ 2147483648
unfolding leaf_most split_most head_most rows_most part_most
file-room a b proofs parts rest few few_proofs few_parts little = omega (arith, few, few_proofs, few_parts, little)

pub award-writable : (proofs : List (List Item)) (shown : List Shown) → AreTidy proofs → AreTidyParts shown
    → length proofs ≤ 200 → length shown ≤ 12800 → all_splits proofs + shown_splits shown ≤ 20000
    → IsWritable (form.Award (record { proofs = proofs; shown = shown }))
award-writable proofs shown tidy tidy_parts few_proofs few_parts few =
    let c = form.Award (record { proofs = proofs; shown = shown }) in
    record {
      limits = and_from _ _
          (and_from _ _ (within (length proofs) MOST_PROOFS (omega (arith, few_proofs))) (proofs-fit proofs tidy (omega (arith, few))))
          (and_from _ _ (within (length shown) MOST_SHOWN (omega (arith, few_parts))) (parts-fit shown tidy_parts (omega (arith, few))));
      bytes = omega (
        arith,
        frame-length c,
        award-body proofs shown few_proofs few_parts,
        proofs-length proofs tidy (omega (arith, few)),
        parts-length shown tidy_parts (omega (arith, few)),
        file-room (all_splits proofs) (shown_splits shown) (length proofs) (length shown) 50 few few_proofs few_parts (omega arith),
      );
    }

one-room : (leaf split head s : ℕ) → head + (leaf * (s + 1) + split * s) ≡ leaf * (s + 1) + split * s + head * 1
one-room leaf split head s = omega arith

pub none-writable : (proof : List Item) → IsTidy proof → splits_in proof ≤ 20000 → IsWritable (form.NoRoster proof)
none-writable proof tidy few =
    let c = form.NoRoster proof in
    record {
      limits = proof-fits proof tidy few;
      bytes = omega (
        arith,
        frame-length c,
        none-body proof,
        proof-length proof tidy few,
        one-room leaf_most split_most head_most (splits_in proof),
        file-room (splits_in proof) 0 1 0 50 (omega (arith, few)) (omega arith) (omega arith) (omega arith),
      );
    }
