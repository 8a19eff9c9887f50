use Rattle.std.proofs.Common.{ℕ, List, sym, subst, ◌∙◌}
use Rattle.std.proofs.lemmas.Bool.{false≢true}
use Rattle.open_time.specs.Moves.{IsAsGood}
use Rattle.open_time.proofs.Moving.{moved_is, line_refuses}
use Rattle.open_time.proofs.moves.try_move.Goals as goal

pub returns-then-not-may : goal.returns-then-not-may
returns-then-not-may c = record {
  found = λ can.
      line_refuses c.args.problem.now c.args.roster.now c.args.giver c.args.taker c.args.pairing c.known_line-to.result.now c.in_ok-more.more
      c.requires.complete c.requires.giver c.requires.taker c.known_line-to.ensures.line c.in_ok-more.ensures.value
      (λ takes. false≢true (sym c.if-not-may.true ∙ c.in_ok-may.ensures.value.1 takes)) can;
}

pub returns-then-not-good : goal.returns-then-not-good
returns-then-not-good c = record {
  found = λ can.
      let is = moved_is c.args.roster.now c.args.giver c.args.taker c.args.pairing c.known_line-from.result.now c.known_line-to.result.now c.in_ok-less.less c.in_ok-more.more c.in_ok-made.made
      c.known_line-from.ensures.line c.in_ok-less.ensures.value c.known_line-to.ensures.line c.in_ok-more.ensures.value c.in_ok-made.ensures.value in
      false≢true (sym c.if-not-good.true
      ∙ c.in_ok-good.ensures.value.1 (subst (λ (xs : List (List ℕ)). IsAsGood c.args.problem.now c.args.roster.now xs) (sym is) can.good));
}

pub returns : goal.returns
returns c = record {
  found =
      let is = moved_is c.args.roster.now c.args.giver c.args.taker c.args.pairing c.known_line-from.result.now c.known_line-to.result.now c.in_ok-less.less c.in_ok-more.more c.in_ok-made.made
      c.known_line-from.ensures.line c.in_ok-less.ensures.value c.known_line-to.ensures.line c.in_ok-more.ensures.value c.in_ok-made.ensures.value in (
        is,
        record {
          has = c.requires.has;
          good = subst (λ (xs : List (List ℕ)). IsAsGood c.args.problem.now c.args.roster.now xs) is (c.in_ok-good.ensures.value.0 c.if-not-good.false);
        },
      );
}
