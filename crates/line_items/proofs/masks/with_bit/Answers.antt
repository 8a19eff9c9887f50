use Rattle.std.proofs.Common.{◌∙◌, Bool, cond, sym, ap}
use Rattle.std.specs.Int.{bit_at, w64}
use Rattle.std.proofs.lemmas.Nat.Bits.{bit_at_set_same, bit_at_set_other}
use Rattle.line_items.proofs.masks.with_bit.Goals as goal

pub returns-then-on-clause-here : goal.returns-then-on-clause-here
returns-then-on-clause-here c =
    bit_at_set_same w64 c.args.mask c.args.bit c.requires.within
    ∙ sym (ap (λ (b : Bool). cond b 1 (bit_at c.args.mask c.args.bit)) c.if-on.true)

pub returns-then-on-clause-others : goal.returns-then-on-clause-others
returns-then-on-clause-others c = λ b apart. bit_at_set_other w64 c.args.mask c.args.bit c.requires.within b apart
