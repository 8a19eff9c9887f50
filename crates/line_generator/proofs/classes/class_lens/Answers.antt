use Rattle.std.proofs.Common.{◌∙◌, false, refl}
use Rattle.std.specs.Prelude.{nat_lt}
use Rattle.line_generator.proofs.ClassBests.{class_shape}
use Rattle.line_generator.proofs.classes.class_lens.Goals as goal

pub returns-clause-shape : goal.returns-clause-shape
returns-clause-shape c = λ shape.
    class_shape c.args.problem.now c.args.member c.args.lens.now
    (record { grain = c.args.lens.now.grain; tracked = c.trackable_bids.result; free30 = c.args.lens.now.free30; days = nat_lt 0 c.args.days_off; whole = false; windows = c.in_ok-windows.windows }) c.args.days_off
    (record { grain = refl; tracked = c.trackable_bids.ensures.bids; free30 = refl; days = refl; whole = refl; windows = c.in_ok-windows.ensures.same ∙ c.as_slice.ensures }) shape
