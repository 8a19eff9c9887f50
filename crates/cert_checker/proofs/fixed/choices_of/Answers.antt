use Rattle.std.proofs.Common.{◌+◌, Bool, Option, Vec, Global, take, refl, sym, ap, subst}
use Rattle.cert_checker.specs.Choices.{AreChoices}
use Rattle.cert_checker.proofs.Choices.{choices_kept, choices_set}
use Rattle.cert_checker.proofs.fixed.choices_of.Goals.{then-decision-member, else-decision-member}
use Rattle.cert_checker.proofs.fixed.choices_of.Goals as goal

pub loop-decision-preserved : goal.loop-decision-preserved
loop-decision-preserved c =
    let ds = c.args.decisions.now in
    let i = c.loop-decision.decision-index in
    elim c.if-decision-member.branch [
      | then-decision-member w ↦
          choices_set ds i c.args.member c.args.pairings _ _ c.loop-decision.choices.items c.if-decision-member.choices.items
          c.loop-decision-test.true refl w.if-decision-member.true (c.requires.pairings i _ c.loop-decision-test.true)
          (ap (λ (v : Vec (Option Bool) Global). v.items) w.choices-is) c.loop-decision.invariant
      | else-decision-member w ↦
          subst (λ (v : Vec (Option Bool) Global). AreChoices (take (i + 1) ds) c.args.member c.args.pairings v.items) (sym w.choices-is)
          (choices_kept ds i c.args.member c.args.pairings _ _ c.loop-decision.choices.items c.loop-decision-test.true refl w.if-decision-member.false c.loop-decision.invariant)
    ]
