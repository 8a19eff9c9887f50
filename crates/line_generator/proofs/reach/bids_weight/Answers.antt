use Rattle.std.proofs.Common.{◌∙◌, arith}
use Rattle.roster_model.proofs.Bounds.{bids_weight_small}
use Rattle.line_generator.proofs.Reaching.{weight_read}
use Rattle.line_generator.proofs.reach.bids_weight.Goals as goal

pub total-requires : goal.total-requires
total-requires c =
    let e = weight_read c.args.problem.now c.args.member c.as_slice-lists.result.now c.index-lists-member.result c.as_slice.result.now c.requires.member c.as_slice-lists.ensures c.index-lists-member.is c.as_slice.ensures in
    record { fits = omega (arith, e, bids_weight_small c.args.problem.now c.args.member) }

pub returns : goal.returns
returns c = record {
  weight =
      c.total.ensures.total
      ∙ weight_read c.args.problem.now c.args.member c.as_slice-lists.result.now c.index-lists-member.result c.as_slice.result.now c.requires.member c.as_slice-lists.ensures c.index-lists-member.is c.as_slice.ensures;
}
