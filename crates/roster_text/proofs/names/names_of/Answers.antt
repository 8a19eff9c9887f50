use Rattle.std.proofs.Common.{◌≡◌, ℕ, List, [], ◌∷◌, ◌++◌, Bool, true, false, Some, sym, ap, ◌∙◌, length, arith}
use Rattle.field_text.specs.Steps.{or_fault}
use Rattle.roster_text.specs.declared.fault.RosterTextCode.TheVariants.{Pairing}
use Rattle.roster_text.specs.NameReading.{name_at}
use Rattle.roster_text.proofs.Several.{pushed}
use Rattle.roster_text.proofs.NameLaws.{names_skip, names_more_of, names_last, names_end}
use Rattle.roster_text.proofs.names.names_of.Goals as goal

pub loop-pairing-preserved-in_default : goal.loop-pairing-preserved-in_default
loop-pairing-preserved-in_default c =
    names_skip c.args.problem.now c.loop-pairing.line (length c.args.problem.now.base.pairings) c.loop-pairing.pairing c.loop-pairing.rest.now _
    (omega (arith, c.loop-pairing-test.true, c.len-pairing-end.ensures)) (sym c.in_default.ensures.value) c.loop-pairing.invariant

pub returns-then-is_last : goal.returns-then-is_last
returns-then-is_last c =
    let e : c.push.new.self ≡ c.loop-pairing.line ++ c.loop-pairing.pairing ∷ [] = pushed c.push.result c.push.ensures.ok (sym c.is_err.ensures.value ∙ c.if-is_err.false) in
    let here : name_at c.args.problem.now c.loop-pairing.pairing c.loop-pairing.rest.now ≡ Some (c.in-Some.after.now, true) =
    sym c.in-Some.ensures.value ∙ ap (λ (b : Bool). Some (c.in-Some.after.now, b)) c.if-is_last.true in
    record {
      read = ap (or_fault Pairing)
          (names_last c.args.problem.now c.loop-pairing.line (length c.args.problem.now.base.pairings) c.loop-pairing.pairing c.loop-pairing.rest.now c.in-Some.after.now _
          (omega (arith, c.loop-pairing-test.true, c.len-pairing-end.ensures)) here c.loop-pairing.invariant
          ∙ ap (λ (line : List ℕ). Some (line, c.in-Some.after.now)) (sym e));
    }

pub loop-pairing-preserved : goal.loop-pairing-preserved
loop-pairing-preserved c =
    let e : c.push.new.self ≡ c.loop-pairing.line ++ c.loop-pairing.pairing ∷ [] = pushed c.push.result c.push.ensures.ok (sym c.is_err.ensures.value ∙ c.if-is_err.false) in
    let here : name_at c.args.problem.now c.loop-pairing.pairing c.loop-pairing.rest.now ≡ Some (c.in-Some.after.now, false) =
    sym c.in-Some.ensures.value ∙ ap (λ (b : Bool). Some (c.in-Some.after.now, b)) c.if-is_last.false in
    rw e (names_more_of c.args.problem.now c.loop-pairing.line (length c.args.problem.now.base.pairings) c.loop-pairing.pairing c.loop-pairing.rest.now c.in-Some.after.now _
    (omega (arith, c.loop-pairing-test.true, c.len-pairing-end.ensures)) here c.loop-pairing.invariant)

pub returns : goal.returns
returns c =
    record {
      read = λ _. ap (or_fault Pairing) (names_end c.args.problem.now c.loop-pairing.line (length c.args.problem.now.base.pairings) c.loop-pairing.pairing c.loop-pairing.rest.now _
          (omega (arith, c.loop-pairing-test.false, c.len-pairing-end.ensures)) c.loop-pairing.invariant);
    }
