use Rattle.std.proofs.Common.{◌||◌, ◌∙◌, ℕ, Bool, ap, sym}
use Rattle.std.specs.Prelude.{◌==◌}
use Rattle.std.specs.Int.{w64}
use Rattle.std.proofs.lemmas.Nat.Bits.{bit_at_set_same, bit_at_set_other}
use Rattle.lens_classes.specs.Classes.{is_in}
use Rattle.line_generator.proofs.sets.with_bid.Goals as goal

pub returns-then-wanted-clause-here : goal.returns-then-wanted-clause-here
returns-then-wanted-clause-here c =
    ap (λ (n : ℕ). n == 1) (bit_at_set_same w64 c.args.bids c.args.bid c.requires.in_bits)
    ∙ sym (ap (λ (b : Bool). b || is_in c.args.bids c.args.bid) c.if-wanted.true)

pub returns-then-wanted-clause-others : goal.returns-then-wanted-clause-others
returns-then-wanted-clause-others c = λ other apart.
    ap (λ (n : ℕ). n == 1) (bit_at_set_other w64 c.args.bids c.args.bid c.requires.in_bits other apart)
