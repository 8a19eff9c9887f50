-- Lines that are as each decision wants them.
use Rattle.std.proofs.Common.{◌≡◌, ℕ, Bool, true, false, ◌&&◌, ◌==◌, List, [], ◌∷◌, reverse, refl, ap, sym, subst, ◌∙◌, inl, inr}
use Rattle.std.specs.Prelude.{All}
use Rattle.std.proofs.lemmas.Bool.{and_parts, eqb-true, or_cases}
use Rattle.std.proofs.lemmas.List.Elements.{All-head, All-tail}
use Rattle.roster_model.specs.declared.node.Decision.{Decision}
use Rattle.roster_model.specs.Decided.{is_on, is_same, is_decided_as}
use Rattle.roster_model.specs.Goals.{Obeys}
use Rattle.roster_model.specs.Scores.{is_flown}
use Rattle.line_bounds.specs.Serving.{Keeps}
use Rattle.line_bounds.proofs.Turned.{is_decided_as_reverse}

same_flies : (a b : Bool) → is_same a b ≡ true → a ≡ b
same_flies true true e = refl
same_flies true false e = absurd (cc e)
same_flies false true e = absurd (cc e)
same_flies false false e = refl

pub kept_obeys : (decisions : List Decision) (member : ℕ) (line : List ℕ) → All (Keeps member line) decisions → Obeys decisions member line
kept_obeys [] member line all p flies e = absurd (cc e)
kept_obeys (d ∷ ds) member line all p flies e = elim (or_cases (is_on member p d && is_same d.flies flies) (is_decided_as ds member p flies) e) [
  | inl here ↦
      let parts = and_parts (is_on member p d) (is_same d.flies flies) here in
      let on = and_parts (d.member == member) (d.pairing == p) parts.0 in
      let kept = All-head (Keeps member line) d ds all (eqb-true d.member member on.0) in
      let pairing : d.pairing ≡ p = eqb-true d.pairing p on.1 in
      subst (λ (q : ℕ). is_flown line q ≡ flies) pairing (kept ∙ same_flies d.flies flies parts.1)
  | inr later ↦ kept_obeys ds member line (All-tail (Keeps member line) d ds all) p flies later
]

-- a node whose vector has the newest decision last
pub kept_obeys_turned : (node decisions : List Decision) (member : ℕ) (line : List ℕ) → reverse decisions ≡ node
    → All (Keeps member line) decisions → Obeys node member line
kept_obeys_turned node decisions member line turned all p flies e =
    kept_obeys decisions member line all p flies
    (sym (is_decided_as_reverse decisions member p flies) ∙ ap (λ (ds : List Decision). is_decided_as ds member p flies) turned ∙ e)
