use Rattle.std.proofs.Common.{List, sym, subst, ◌∙◌}
use Rattle.std.proofs.lemmas.List.{take_all}
use Rattle.next_month.specs.Heirs.{AreHeirs}
use Rattle.duty_calendar.specs.declared.member.Member.{Member}
use Rattle.next_month.proofs.Crews.{from_ok, heirs_more, each_more, heirs_valid}
use Rattle.next_month.proofs.crew.all_heirs.Goals as goal

pub loop-place-preserved : goal.loop-place-preserved
loop-place-preserved c = record {
  made = heirs_more c.args.problem.now c.args.roster.now c.args.lag c.args.crew.now c.loop-place.place c.index-crew-place.result c.in_ok-next.next c.loop-place.heirs c.push.new.self
      c.loop-place-test.true c.index-crew-place.is c.loop-place.invariant.made c.in_ok-next.ensures.heir (from_ok c.push.result _ (sym c.is_err.ensures.value ∙ c.if-is_err.false) c.push.ensures.ok);
  each = λ next ends all.
      each_more next c.args.crew.now c.loop-place.place c.index-crew-place.result c.in_ok-next.next c.loop-place.heirs c.push.new.self
      c.loop-place-test.true c.index-crew-place.is all (c.loop-place.invariant.each next ends all) (c.in_ok-next.ensures.valid next ends) (from_ok c.push.result _ (sym c.is_err.ensures.value ∙ c.if-is_err.false) c.push.ensures.ok);
}

pub returns-clause-valid : goal.returns-clause-valid
returns-clause-valid c = λ next ends form.
    heirs_valid c.args.problem.now c.args.roster.now c.args.lag c.args.crew.now c.loop-place.heirs
    (subst (λ (es : List Member). AreHeirs c.args.problem.now c.args.roster.now c.args.lag es c.loop-place.heirs) (take_all c.loop-place.place c.args.crew.now c.loop-place-test.false) c.loop-place.invariant.made)
    next form (c.loop-place.invariant.each next ends form.each)
