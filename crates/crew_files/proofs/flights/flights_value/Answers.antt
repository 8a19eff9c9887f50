use Rattle.std.proofs.Common.{◌∙◌, ◌+◌, ◌*◌, sym, ap, arith, Option, drop}
use Rattle.field_text.specs.declared.field_fault.FieldFault.{FieldFault}
use Rattle.field_text.specs.Rows.{in_column}
use Rattle.crew_files.specs.Flights.{gathered}
use Rattle.crew_files.proofs.FlightSteps.{value-step, value-end}
use Rattle.crew_files.proofs.flights.flights_value.Goals as goal

pub loop-i-preserved : goal.loop-i-preserved
loop-i-preserved c = λ k e.
    value-step c.args.horizon.now (gathered c.loop-i.fault c.loop-i.flights) (gathered c.gather.new.fault c.gather.new.flights) c.flight_value-found.result k c.loop-i.i c.args.text.now c.flight_value-found.ensures.value c.in_ok-gather.ensures.ok
    ∙ c.loop-i.invariant (k + 1) (omega arith)

pub returns-in-Some-clause-fault : goal.returns-in-Some-clause-fault
returns-in-Some-clause-fault c = λ n.
    let all = value-end c.args.horizon.now (gathered c.loop-i.fault c.loop-i.flights) _ (drop (36 * c.loop-i.i) c.args.text.now) (c.loop-i.invariant 0 (omega arith)) in
    sym (ap (in_column 6) (ap (λ (f : Option FieldFault). gathered f c.loop-i.flights) (sym c.in-Some.is) ∙ all))

pub returns-in-None-clause-ok : goal.returns-in-None-clause-ok
returns-in-None-clause-ok c =
    let all = value-end c.args.horizon.now (gathered c.loop-i.fault c.loop-i.flights) _ (drop (36 * c.loop-i.i) c.args.text.now) (c.loop-i.invariant 0 (omega arith)) in
    sym all ∙ ap (λ (f : Option FieldFault). gathered f c.loop-i.flights) c.in-None.is
