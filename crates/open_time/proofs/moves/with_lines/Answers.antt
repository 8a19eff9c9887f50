use Rattle.std.proofs.Common.{◌≡◌, ℕ, ◌<◌, List, length, sym, ap, subst, ◌∙◌, arith}
use Rattle.std.specs.Prelude.{All, slice_set}
use Rattle.open_time.proofs.Moving.{made_length, made_known, lines_known}
use Rattle.open_time.proofs.moves.with_lines.Goals as goal

pub returns-clause-lines : goal.returns-clause-lines
returns-clause-lines c =
    let whole : c.put_lines.new.roster ≡ slice_set (slice_set c.args.roster.now c.args.giver c.args.given) c.args.taker c.args.taken =
    c.put_lines.ensures.value ∙ ap (λ (xs : List (List ℕ)). slice_set (slice_set xs c.args.giver c.args.given) c.args.taker c.args.taken) c.in_ok-made.ensures.equal in
    ap (λ (xs : List (List ℕ)). length xs) whole
    ∙ made_length c.args.roster.now c.args.giver c.args.taker c.args.given c.args.taken
    (omega (arith, c.requires.giver, c.requires.complete.lines)) (omega (arith, c.requires.taker, c.requires.complete.lines))
    ∙ c.requires.complete.lines

pub returns-clause-known : goal.returns-clause-known
returns-clause-known c =
    let whole : c.put_lines.new.roster ≡ slice_set (slice_set c.args.roster.now c.args.giver c.args.given) c.args.taker c.args.taken =
    c.put_lines.ensures.value ∙ ap (λ (xs : List (List ℕ)). slice_set (slice_set xs c.args.giver c.args.given) c.args.taker c.args.taken) c.in_ok-made.ensures.equal in
    subst (λ (xs : List (List ℕ)). All (All (λ p. p < length c.args.problem.now.base.pairings)) xs) (sym whole)
    (made_known (length c.args.problem.now.base.pairings) c.args.roster.now c.args.giver c.args.taker c.args.given c.args.taken
    (lines_known c.args.problem.now c.args.roster.now c.requires.complete) c.requires.given c.requires.taken)
