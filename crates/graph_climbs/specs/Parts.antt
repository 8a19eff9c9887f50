-- The labels of a graph of lines: credit, bids, and whatever else a label holds.
use Rattle.std.specs.Prelude.{Bool, Option}
use Rattle.label_lattice.specs.Mask.{mask_below, mask_done, mask_extend}
use Rattle.label_lattice.specs.Pair.{pair_below, pair_done, pair_extend}
use Rattle.label_lattice.specs.Span.{span_below, span_done, span_extend}
use Rattle.label_lattice.specs.declared.masks.Mask.{Mask}
use Rattle.label_lattice.specs.declared.masks.MaskEnd.{MaskEnd}
use Rattle.label_lattice.specs.declared.masks.MaskStep.{MaskStep}
use Rattle.label_lattice.specs.declared.pairs.Pair.{Pair}
use Rattle.label_lattice.specs.declared.spans.Span.{Span}
use Rattle.label_lattice.specs.declared.spans.SpanEnd.{SpanEnd}
use Rattle.label_lattice.specs.declared.spans.SpanStep.{SpanStep}

abbrev pub PartsOf : Type 0 → Type 0
PartsOf B = Pair Span (Pair Mask B)

abbrev pub PartsStepOf : Type 0 → Type 0
PartsStepOf S = SpanStep × (MaskStep × S)

abbrev pub PartsEndOf : Type 0 → Type 0
PartsEndOf E = SpanEnd × (MaskEnd × E)

abbrev pub parts_extend : {B S : Type 0} → (B → S → Option B) → PartsOf B → PartsStepOf S → Option (PartsOf B)
parts_extend extend = pair_extend span_extend (pair_extend mask_extend extend)

abbrev pub parts_below : {B : Type 0} → (B → B → Bool) → PartsOf B → PartsOf B → Bool
parts_below below = pair_below span_below (pair_below mask_below below)

abbrev pub parts_done : {B E : Type 0} → (B → E → Bool) → PartsOf B → PartsEndOf E → Bool
parts_done done = pair_done span_done (pair_done mask_done done)
