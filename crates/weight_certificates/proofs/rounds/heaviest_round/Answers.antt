use Rattle.std.proofs.Common.{◌≡◌, ℕ, length, refl, sym, ◌∙◌, subst, arith}
use Rattle.std.proofs.lemmas.Option.{slice_get_read}
use Rattle.roster_model.specs.Lenses.{HasNoLine}
use Rattle.weight_certificates.specs.Pricing.{AreHeaviest, IsHeaviestLine}
use Rattle.weight_certificates.proofs.Evened.{heaviest_more, without_line}
use Rattle.weight_certificates.proofs.rounds.heaviest_round.Goals as goal

pub heaviest_line-requires-clause-shape : goal.heaviest_line-requires-clause-shape
heaviest_line-requires-clause-shape c =
    let list = c.args.lenses.now in
    let here = slice_get_read list (length list) c.loop-member.member c.index-lenses-member.result refl c.loop-member-test.true c.index-lenses-member.is in
    c.requires.lenses.shapes c.loop-member.member c.index-lenses-member.result here

pub loop-member-preserved : goal.loop-member-preserved
loop-member-preserved c =
    let list = c.args.lenses.now in
    let here = slice_get_read list (length list) c.loop-member.member c.index-lenses-member.result refl c.loop-member-test.true c.index-lenses-member.is in
    let is : IsHeaviestLine c.args.problem.now c.loop-member.member c.args.goal.now c.args.node.now c.index-lenses-member.result c.args.weights.now c.in-Some.line = rw c.in-Some.is at c.in_ok-line.ensures.heaviest in
    heaviest_more c.args.problem.now c.args.goal.now c.args.node.now c.args.weights.now list c.loop-member.member c.loop-member.round c.append.new.list
    c.in-Some.line c.index-lenses-member.result c.loop-member.invariant here is c.in_ok-append.ensures.added

pub returns-in_default : goal.returns-in_default
returns-in_default c =
    let list = c.args.lenses.now in
    let here = slice_get_read list (length list) c.loop-member.member c.index-lenses-member.result refl c.loop-member-test.true c.index-lenses-member.is in
    let none : HasNoLine c.args.problem.now c.loop-member.member c.args.goal.now c.args.node.now c.index-lenses-member.result = rw c.in_default.is at c.in_ok-line.ensures.heaviest in
    record {
      priced =
          without_line c.args.problem.now c.args.goal.now c.args.node.now list c.loop-member.member c.index-lenses-member.result c.requires.lenses
          (omega (arith, c.loop-member-test.true, c.requires.lenses.per_member)) here none;
    }

pub returns : goal.returns
returns c =
    let all : length c.args.lenses.now ≡ c.loop-member.member = omega arith in
    let whole : c.loop-member.member ≡ length c.args.problem.now.base.members = sym all ∙ c.requires.lenses.per_member in
    record {
      priced =
          subst (λ (n : ℕ). AreHeaviest c.args.problem.now c.args.goal.now c.args.node.now c.args.weights.now c.args.lenses.now n c.loop-member.round)
          whole c.loop-member.invariant;
    }
