use Rattle.std.proofs.Common.{◌+◌, arith, add-one, []}
use Rattle.std.proofs.lemmas.List.{take_rest}
use Rattle.bid_language.proofs.LineSteps.{lines-first, lines-whole}
use Rattle.bid_language.proofs.lines.next_line.Goals as goal

pub returns-then-end-text-clause-lines : goal.returns-then-end-text-clause-lines
returns-then-end-text-clause-lines c = lines-whole c.args.text.now c.place_of-end.result c.requires.some c.if-end-text.true c.place_of-end.ensures.before

pub returns-clause-lines : goal.returns-clause-lines
returns-clause-lines c =
    let t = c.args.text.now in
    let n = c.place_of-end.result in
    rw (take_rest t (n + 1), add-one n, c.without_return.ensures.value) (lines-first n [] t (omega arith) c.place_of-end.ensures.before (c.place_of-end.ensures.found (omega arith)))
