use Rattle.std.proofs.Common.{◌≡◌, ◌∷◌, [], ◌++◌, ℕ, List, true, length, arith, sym, ap, subst, ◌∙◌}
use Rattle.std.specs.Prelude.{filter}
use Rattle.std.specs.List.{range_with_len}
use Rattle.std.proofs.lemmas.Bool.{false≢true}
use Rattle.roster_model.specs.Ascending.{is_ascending}
use Rattle.roster_model.specs.Decided.{is_decided_as}
use Rattle.roster_model.specs.Closing.{decided_line}
use Rattle.weight_certificates.proofs.Lines.{ascends_from-filter, filter_kept, filter_passed}
use Rattle.weight_certificates.proofs.Facts.{ok_fact}
use Rattle.weight_certificates.proofs.fixed.decided_line.Goals.{then-is_decided_as+else-is_err, else-is_decided_as}
use Rattle.weight_certificates.proofs.fixed.decided_line.Goals as goal

pub loop-pairing-preserved : goal.loop-pairing-preserved
loop-pairing-preserved c =
    let test = λ (p : ℕ). is_decided_as c.args.node.now c.args.member p true in
    elim c.if-is_decided_as.branch [
      | then-is_decided_as+else-is_err w ↦
          w.flown-is
          ∙ ok_fact w.push.result (sym w.is_err.ensures.value ∙ w.if-is_err.false) w.push.ensures.ok
          ∙ ap (λ (xs : List ℕ). xs ++ c.loop-pairing.pairing ∷ []) c.loop-pairing.invariant
          ∙ sym (filter_kept test c.loop-pairing.pairing (sym c.is_decided_as.ensures.value ∙ w.if-is_decided_as.true))
      | else-is_decided_as w ↦
          w.flown-is ∙ c.loop-pairing.invariant ∙ sym (filter_passed test c.loop-pairing.pairing (sym c.is_decided_as.ensures.value ∙ w.if-is_decided_as.false))
    ]

pub unreachable-requires : goal.unreachable-requires
unreachable-requires c =
    let test = λ (p : ℕ). is_decided_as c.args.node.now c.args.member p true in
    false≢true (c.in-None.ensures.succeeds.1 (subst (λ (xs : List ℕ). is_ascending xs ≡ true) (sym c.loop-pairing.invariant) (ascends_from-filter test 0 0 c.loop-pairing.pairing (omega arith))))

pub returns : goal.returns
unfolding decided_line
returns c =
    let test = λ (p : ℕ). is_decided_as c.args.node.now c.args.member p true in
    let all : c.loop-pairing.pairing ≡ length c.args.problem.now.base.pairings = omega arith in
    record { line = c.in-Some.ensures.value ∙ c.loop-pairing.invariant ∙ ap (λ (n : ℕ). filter test (range_with_len 0 n)) all }
