use Rattle.std.proofs.Common.{ap, sym, ◌∙◌, arith}
use Rattle.jiff.specs.Words.{epoch_day}
use Rattle.field_text.specs.declared.field_fault.FieldFault.TheVariants.{OutsideHorizon}
use Rattle.field_text.specs.Steps.{or_fault}
use Rattle.field_text.proofs.Moments.{moment-day, moment-clock, moment-no_day, moment-on}
use Rattle.field_text.proofs.time.moment_of.Goals as goal

pub clock_value-requires : goal.clock_value-requires
clock_value-requires c = record { form = moment-clock c.args.bytes.now c.clock_part.result.now c.in_default.ensures.row c.clock_part.ensures.value }

pub day_value-requires : goal.day_value-requires
day_value-requires c = record { form = moment-day c.args.bytes.now c.day_part.result.now c.in_default.ensures.row c.day_part.ensures.value }

pub returns-in_default-day_value : goal.returns-in_default-day_value
returns-in_default-day_value c =
    let read = moment-no_day c.args.horizon.now c.args.bytes.now c.clock_part.result.now c.day_part.result.now c.in-Some-clock_value.minute (omega (arith, c.in_default.ensures.whole)) (sym c.in_default.ensures.value)
    c.clock_part.ensures.value c.day_part.ensures.value (sym c.in-Some-clock_value.ensures.value) (sym c.in_default-day_value.ensures.value) in
    record { value = sym (read) }

pub returns-in-Some-minute_of : goal.returns-in-Some-minute_of
returns-in-Some-minute_of c =
    let read = moment-on c.args.horizon.now c.args.bytes.now c.clock_part.result.now c.day_part.result.now c.in-Some-clock_value.minute (epoch_day c.in-Some-day_value.date) (omega (arith, c.in_default.ensures.whole)) (sym c.in_default.ensures.value)
    c.clock_part.ensures.value c.day_part.ensures.value (sym c.in-Some-clock_value.ensures.value) (sym c.in-Some-day_value.ensures.value) in
    record { value = sym (read ∙ ap (or_fault OutsideHorizon) (sym c.in-Some-minute_of.ensures.value)) }

pub returns-in-None : goal.returns-in-None
returns-in-None c =
    let read = moment-on c.args.horizon.now c.args.bytes.now c.clock_part.result.now c.day_part.result.now c.in-Some-clock_value.minute (epoch_day c.in-Some-day_value.date) (omega (arith, c.in_default.ensures.whole)) (sym c.in_default.ensures.value)
    c.clock_part.ensures.value c.day_part.ensures.value (sym c.in-Some-clock_value.ensures.value) (sym c.in-Some-day_value.ensures.value) in
    record { value = sym (read ∙ ap (or_fault OutsideHorizon) (sym c.in-None.ensures.value)) }
