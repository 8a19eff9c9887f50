use Rattle.std.proofs.Common.{◌≡◌, FitsSigned, w64, rules, length, ap, ◌∙◌, List}
use Rattle.std.specs.Prelude.{ℤ}
use Rattle.std.proofs.lemmas.Int.{to_z-of_z}
use Rattle.roster_model.specs.Weights.{weight_at}
use Rattle.weight_certificates.proofs.Bounded.{product-needs}
use Rattle.weight_certificates.proofs.Evened.{written}
use Rattle.weight_certificates.proofs.bounds.needed.Goals as goal

pub returns : goal.returns
returns c =
    let fits : FitsSigned w64 c.product.result = search rules in
    let len : length c.set_needs.new.row ≡ c.in_ok-needs.needs.len = search rules in
    let row = c.deref.ensures.value ∙ written _ c.set_needs.new.row c.in_ok-needs.needs.len len in
    record {
      needed =
          to_z-of_z w64 c.product.result fits ∙ c.product.ensures.value
          ∙ product-needs c.args.problem.now c.args.weights.now c.deref.result.now
          (λ p lt. ap (λ (xs : List ℤ). weight_at xs p) row ∙ c.set_needs.ensures.needs p lt) c.requires.per_pairing;
    }
