use Rattle.std.proofs.Common.{◌∙◌, ap, ℕ, List}
use Rattle.roster_model.specs.Ascending.{is_ascending}
use Rattle.open_time.proofs.Inserted.{put_together, with_pairing-ascends}
use Rattle.open_time.proofs.lines.numbers_with.Goals as goal

pub returns-clause-value : goal.returns-clause-value
returns-clause-value c =
    put_together c.args.line.now c.args.pairing c.pairings-known.result.now c.new-numbers.result c.add_below.new.list c.add.new.list c.add_above.new.list
    c.new-numbers.ensures c.pairings-known.ensures.numbers c.in_ok-add_below.ensures.more c.in_ok-add.ensures.ok c.in_ok-add_above.ensures.more

pub returns-clause-ascending : goal.returns-clause-ascending
returns-clause-ascending c =
    ap (λ (xs : List ℕ). is_ascending xs)
    (put_together c.args.line.now c.args.pairing c.pairings-known.result.now c.new-numbers.result c.add_below.new.list c.add.new.list c.add_above.new.list
    c.new-numbers.ensures c.pairings-known.ensures.numbers c.in_ok-add_below.ensures.more c.in_ok-add.ensures.ok c.in_ok-add_above.ensures.more)
    ∙ with_pairing-ascends c.args.line.now c.args.pairing c.pairings-known.ensures.ascending
