use Rattle.std.proofs.Common.{◌∙◌, sym, arith, w16, FitsSigned}
use Rattle.std.proofs.lemmas.Int.{to_z-of_z}
use Rattle.jiff_core.proofs.SignedLemmas.{signed_arith}
use Rattle.toml.specs.View.{table_view}
use Rattle.rules_file.specs.Rules.{year_in, month_in, days_off_in}
use Rattle.rules_file.proofs.Values.{no_base, no_seat, no_year, no_month, no_offset, no_days_off, all_in}
use Rattle.rules_file.proofs.fields.rules_of.Goals as goal

pub returns-in_default-clause-value : goal.returns-in_default-clause-value
returns-in_default-clause-value c = no_base (table_view c.args.table.now) (sym c.in_default.ensures.value)

pub returns-in_default-seat_in-clause-value : goal.returns-in_default-seat_in-clause-value
returns-in_default-seat_in-clause-value c =
    no_seat (table_view c.args.table.now) c.in-Some.base (sym c.in-Some.ensures.value) (sym c.in_default-seat_in.ensures.value)

pub returns-in_default-whole_between-clause-value : goal.returns-in_default-whole_between-clause-value
unfolding year_in
returns-in_default-whole_between-clause-value c =
    no_year (table_view c.args.table.now) c.in-Some.base c.in-Some-seat_in.seat (sym c.in-Some.ensures.value) (sym c.in-Some-seat_in.ensures.value)
    (sym c.in_default-whole_between.ensures.value)

pub returns-in_default-whole_between-2-clause-value : goal.returns-in_default-whole_between-2-clause-value
unfolding year_in month_in
returns-in_default-whole_between-2-clause-value c =
    no_month (table_view c.args.table.now) c.in-Some.base c.in-Some-seat_in.seat c.in-Some-whole_between.year (sym c.in-Some.ensures.value) (sym c.in-Some-seat_in.ensures.value)
    (sym c.in-Some-whole_between.ensures.value) (sym c.in_default-whole_between-2.ensures.value)

pub returns-in_default-offset_in-clause-value : goal.returns-in_default-offset_in-clause-value
unfolding year_in month_in
returns-in_default-offset_in-clause-value c =
    no_offset (table_view c.args.table.now) c.in-Some.base c.in-Some-seat_in.seat c.in-Some-whole_between.year c.in-Some-whole_between-2.month (sym c.in-Some.ensures.value) (sym c.in-Some-seat_in.ensures.value)
    (sym c.in-Some-whole_between.ensures.value) (sym c.in-Some-whole_between-2.ensures.value) (sym c.in_default-offset_in.ensures.value)

pub returns-in_default-whole_between-3-clause-value : goal.returns-in_default-whole_between-3-clause-value
unfolding year_in month_in days_off_in
returns-in_default-whole_between-3-clause-value c =
    no_days_off (table_view c.args.table.now) c.in-Some.base c.in-Some-seat_in.seat c.in-Some-whole_between.year c.in-Some-whole_between-2.month c.in-Some-offset_in.offset (sym c.in-Some.ensures.value) (sym c.in-Some-seat_in.ensures.value)
    (sym c.in-Some-whole_between.ensures.value) (sym c.in-Some-whole_between-2.ensures.value) (sym c.in-Some-offset_in.ensures.value) (sym c.in_default-whole_between-3.ensures.value)

pub returns-clause-value : goal.returns-clause-value
unfolding year_in month_in days_off_in
returns-clause-value c =
    let fits : FitsSigned w16 c.in-Some-offset_in.offset = omega (arith, signed_arith, c.in-Some-offset_in.ensures.bound.0, c.in-Some-offset_in.ensures.bound.1) in
    rw (c.horizon_of.ensures.year, c.horizon_of.ensures.month, c.horizon_of.ensures.offset ∙ to_z-of_z w16 c.in-Some-offset_in.offset fits)
    (all_in (table_view c.args.table.now) c.in-Some.base c.in-Some-seat_in.seat c.in-Some-whole_between.year c.in-Some-whole_between-2.month c.in-Some-whole_between-3.days_off c.in-Some-offset_in.offset
    (sym c.in-Some.ensures.value) (sym c.in-Some-seat_in.ensures.value)
    (sym c.in-Some-whole_between.ensures.value) (sym c.in-Some-whole_between-2.ensures.value) (sym c.in-Some-offset_in.ensures.value) (sym c.in-Some-whole_between-3.ensures.value))
