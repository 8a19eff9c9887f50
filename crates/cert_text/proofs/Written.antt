-- The texts of versions 2 and 3 differ in the first line alone, and are equally long.
use Rattle.std.proofs.Common.{◌≡◌, ℕ, Bool, true, false, List, [], ◌∷◌, ◌++◌, length, decimal, codes, Option, Some, None, refl, ap, ◌∙◌, arith, length-append}
use Rattle.std.specs.Prelude.{if◌then◌else◌}
use Rattle.std.specs.List.{flat_map}
use Rattle.roster_model.specs.declared.proof.Item.{Item}
use Rattle.roster_model.specs.declared.award.Shown.{Shown}
use Rattle.roster_model.specs.declared.award.Certificate.{Certificate}
use Rattle.roster_model.specs.declared.award.Certificate.TheVariants.{Award, NoRoster}
use Rattle.cert_text.specs.declared.version.Version.TheVariants.{Two, Three}
use Rattle.cert_text.specs.Limits.{is_plain_certificate}
use Rattle.cert_text.specs.Spelling.{line_text, flag_text, numbered_proof_text, proof_text, row_text, shown_proof_text, has_proof, rows_of, shown_text, body_text, certificate_text, written_text}

same_proofs : (proofs : List (List Item)) → flat_map (proof_text Three) proofs ≡ flat_map (proof_text Two) proofs
same_proofs [] = refl
same_proofs (p ∷ ps) = ap (λ (t : List ℕ). numbered_proof_text p ++ t) (same_proofs ps)

same_shown_proof : (proof : Option (List Item)) → shown_proof_text Three proof ≡ shown_proof_text Two proof
same_shown_proof None = refl
same_shown_proof (Some p) = refl

abbrev shown_head : Shown → List ℕ
shown_head s = line_text (codes "shown") (flag_text (has_proof s.proof) ∷ (decimal (length (rows_of s.roster)) ∷ []))

same_part : (s : Shown) → shown_text Three s ≡ shown_text Two s
same_part s = ap (λ (t : List ℕ). shown_head s ++ t ++ flat_map row_text (rows_of s.roster)) (same_shown_proof s.proof)

same_parts : (shown : List Shown) → flat_map (shown_text Three) shown ≡ flat_map (shown_text Two) shown
same_parts [] = refl
same_parts (s ∷ ss) = ap (λ (t : List ℕ). t ++ flat_map (shown_text Three) ss) (same_part s) ∙ ap (λ (t : List ℕ). shown_text Two s ++ t) (same_parts ss)

abbrev award_head : ℕ → ℕ → List ℕ
award_head n d = line_text (codes "award") (decimal n ∷ (decimal d ∷ []))

same_body : (c : Certificate) → body_text Three c ≡ body_text Two c
same_body (Award a) =
    ap (λ (t : List ℕ). award_head (length a.proofs) (length a.shown) ++ t ++ flat_map (shown_text Three) a.shown) (same_proofs a.proofs)
    ∙ ap (λ (t : List ℕ). award_head (length a.proofs) (length a.shown) ++ flat_map (proof_text Two) a.proofs ++ t) (same_parts a.shown)
same_body (NoRoster p) = refl

three_length : (c : Certificate) → length (certificate_text Three c) ≡ length (certificate_text Two c)
unfolding certificate_text
three_length c =
    let two = line_text (codes "pbs-certificate") (codes "2" ∷ []) in
    let three = line_text (codes "pbs-certificate") (codes "3" ∷ []) in
    let last = line_text (codes "end") [] in
    let two_long : length two ≡ 18 = refl in
    let three_long : length three ≡ 18 = refl in
    let body : length (body_text Three c) ≡ length (body_text Two c) = ap (λ (t : List ℕ). length t) (same_body c) in
    omega (
      arith,
      length-append three (body_text Three c ++ last),
      length-append (body_text Three c) last,
      length-append two (body_text Two c ++ last),
      length-append (body_text Two c) last,
      two_long,
      three_long,
      body,
    )

-- a certificate is written as long as version 2 would be
pub written_length : (c : Certificate) → length (written_text c) ≡ length (certificate_text Two c)
written_length c = by_case (is_plain_certificate c)
  where
    by_case : (b : Bool) → length (certificate_text (if b then Two else Three) c) ≡ length (certificate_text Two c)
    by_case true = refl
    by_case false = three_length c
