-- No item is accepted at a node where it has a fault.
use Rattle.std.proofs.Common.{◌≡◌, ℕ, ◌<◌, inl, inr, List, length, get_or, sym, ◌∙◌, arith}
use Rattle.std.specs.Prelude.{ℤ, pos, ◌≤ℤ◌}
use Rattle.std.proofs.lemmas.Bool.{false≢true}
use Rattle.std.proofs.lemmas.Int.{ints}
use Rattle.std.proofs.lemmas.Option.{slice_get-get_or, slice_get_within}
use Rattle.roster_model.specs.declared.problem.Problem.{Problem}
use Rattle.roster_model.specs.declared.goal.Goal.{Goal}
use Rattle.roster_model.specs.declared.node.Decision.{Decision}
use Rattle.roster_model.specs.declared.proof.Item.{Item}
use Rattle.roster_model.specs.declared.proof.Item.TheVariants.{Split, Count, Fixed, NoLine, Weights}
use Rattle.roster_model.specs.declared.proof.Lens.{Lens}
use Rattle.roster_model.specs.Closing.{IsAccepted, IsOpenPair, IsMiscrewed, IsMisfit, IsLineless}
use Rattle.roster_model.specs.Lenses.{IsOutweighed}
use Rattle.roster_model.specs.Weights.{total}
use Rattle.cert_checker.specs.declared.refusal.ItemFault.{ItemFault}
use Rattle.cert_checker.specs.declared.refusal.ItemFault.TheVariants as fault
use Rattle.cert_checker.specs.Faults.{Fails, SplitFails, CountFails, FixedFails, NoLineFails, WeightsFails, IsFirstLineless, IsHeavyEnough}
use Rattle.cert_checker.proofs.Shapes.{lens_excluded}
use Rattle.cert_checker.proofs.Together.{bests_least}

pub split_excluded : (problem : Problem) (node : List Decision) (m p : ℕ) (why : ItemFault)
    → IsOpenPair problem node m p → SplitFails problem node m p why → ⊥
split_excluded problem node m p fault.Index ok (inl h) = omega (arith, ok.member_in_range, h)
split_excluded problem node m p fault.Index ok (inr h) = omega (arith, ok.pairing_in_range, h)
split_excluded problem node m p fault.Decided ok h = false≢true (sym ok.undecided ∙ h.decided)
split_excluded problem node m p fault.Covered ok h = h
split_excluded problem node m p (fault.Undecided q) ok h = h
split_excluded problem node m p fault.Fits ok h = h
split_excluded problem node m p (fault.Lens k lens_why) ok h = h
split_excluded problem node m p (fault.Line k) ok h = h
split_excluded problem node m p (fault.Nothing k) ok h = h
split_excluded problem node m p (fault.Sum lines needs) ok h = h
split_excluded problem node m p (fault.Width w l) ok h = h

count_excluded : (problem : Problem) (node : List Decision) (p : ℕ) (why : ItemFault)
    → IsMiscrewed problem node p → CountFails problem node p why → ⊥
count_excluded problem node p fault.Index ok h = omega (arith, ok.in_range, h)
count_excluded problem node p fault.Decided ok h = h
count_excluded problem node p fault.Covered ok h =
    elim ok.crew [
      | inl more ↦ omega (arith, more, h.not_more)
      | inr fewer ↦ omega (arith, fewer, h.not_fewer)
    ]
count_excluded problem node p (fault.Undecided q) ok h = h
count_excluded problem node p fault.Fits ok h = h
count_excluded problem node p (fault.Lens k lens_why) ok h = h
count_excluded problem node p (fault.Line k) ok h = h
count_excluded problem node p (fault.Nothing k) ok h = h
count_excluded problem node p (fault.Sum lines needs) ok h = h
count_excluded problem node p (fault.Width w l) ok h = h

fixed_excluded : (problem : Problem) (goal : Goal) (node : List Decision) (m : ℕ) (why : ItemFault)
    → IsMisfit problem goal node m → FixedFails problem goal node m why → ⊥
fixed_excluded problem goal node m fault.Index ok h = omega (arith, ok.in_range, h)
fixed_excluded problem goal node m fault.Decided ok h = h
fixed_excluded problem goal node m fault.Covered ok h = h
fixed_excluded problem goal node m (fault.Undecided q) ok h =
    false≢true (sym h.1.undecided ∙ ok.decided q h.1.in_range)
fixed_excluded problem goal node m fault.Fits ok h = ok.misfit h.2.legal h.2.meets
fixed_excluded problem goal node m (fault.Lens k lens_why) ok h = h
fixed_excluded problem goal node m (fault.Line k) ok h = h
fixed_excluded problem goal node m (fault.Nothing k) ok h = h
fixed_excluded problem goal node m (fault.Sum lines needs) ok h = h
fixed_excluded problem goal node m (fault.Width w l) ok h = h

noline_excluded : (problem : Problem) (goal : Goal) (node : List Decision) (m : ℕ) (lens : Lens) (why : ItemFault)
    → IsLineless problem goal node m lens → NoLineFails problem goal node m lens why → ⊥
noline_excluded problem goal node m lens fault.Index ok h = omega (arith, ok.in_range, h)
noline_excluded problem goal node m lens fault.Decided ok h = h
noline_excluded problem goal node m lens fault.Covered ok h = h
noline_excluded problem goal node m lens (fault.Undecided q) ok h = h
noline_excluded problem goal node m lens fault.Fits ok h = h
noline_excluded problem goal node m lens (fault.Lens k lens_why) ok h = lens_excluded problem m lens lens_why ok.shape h.2
noline_excluded problem goal node m lens (fault.Line k) ok h = ok.none h.2.line h.2.passes
noline_excluded problem goal node m lens (fault.Nothing k) ok h = h
noline_excluded problem goal node m lens (fault.Sum lines needs) ok h = h
noline_excluded problem goal node m lens (fault.Width w l) ok h = h

-- a member of whom no line passes has no bound
nothing_excluded : (problem : Problem) (goal : Goal) (node : List Decision) (weights : List ℤ) (lenses : List Lens) (k : ℕ)
    → IsOutweighed problem goal node weights lenses → IsFirstLineless problem goal node lenses k → ⊥
nothing_excluded problem goal node weights lenses k ok h =
    let lt : k < length ok.bounds = omega (arith, slice_get_within lenses k h.lens h.here, ok.per_member, ok.each) in
    let bound = ok.bound k h.lens (get_or ok.bounds k (pos 0)) h.here (slice_get-get_or ok.bounds k (pos 0) lt) in
    h.none bound.some.0 bound.some.1

-- what is outweighed is not heavy enough
heavy_excluded : (problem : Problem) (goal : Goal) (node : List Decision) (weights : List ℤ) (lenses : List Lens) (lines needs : ℤ)
    → IsOutweighed problem goal node weights lenses → IsHeavyEnough problem goal node weights lenses lines needs → ⊥
heavy_excluded problem goal node weights lenses lines needs ok h =
    let least : total h.bests ≤ℤ total ok.bounds =
    bests_least problem goal node weights lenses h.bests ok.bounds (h.each ∙ sym ok.per_member) (ok.each ∙ sym ok.per_member) h.best ok.bound in
    omega (arith, ints, ok.less, h.enough, h.lines_are, h.needs_are, least)

weights_excluded : (problem : Problem) (goal : Goal) (node : List Decision) (weights : List ℤ) (lenses : List Lens) (why : ItemFault)
    → IsOutweighed problem goal node weights lenses → WeightsFails problem goal node weights lenses why → ⊥
weights_excluded problem goal node weights lenses fault.Index ok h = h
weights_excluded problem goal node weights lenses fault.Decided ok h = h
weights_excluded problem goal node weights lenses fault.Covered ok h = h
weights_excluded problem goal node weights lenses (fault.Undecided q) ok h = h
weights_excluded problem goal node weights lenses fault.Fits ok h = h
weights_excluded problem goal node weights lenses (fault.Lens k lens_why) ok h =
    lens_excluded problem k h.1.lens lens_why (ok.shapes k h.1.lens h.1.here) h.1.fault
weights_excluded problem goal node weights lenses (fault.Line k) ok h = h
weights_excluded problem goal node weights lenses (fault.Nothing k) ok h = nothing_excluded problem goal node weights lenses k ok h.2
weights_excluded problem goal node weights lenses (fault.Sum lines needs) ok h =
    heavy_excluded problem goal node weights lenses lines needs ok h.2
weights_excluded problem goal node weights lenses (fault.Width w l) ok h =
    elim h.wrong [
      | inl wrong ↦ wrong (h.weights_are ∙ ok.per_pairing)
      | inr wrong ↦ wrong (h.lenses_are ∙ ok.per_member)
    ]

-- an item that closes a node by itself has no fault there
pub leaf_excluded : (problem : Problem) (goal : Goal) (node : List Decision) (item : Item) (why : ItemFault)
    → IsAccepted problem goal node item → Fails problem goal node item why → ⊥
unfolding IsAccepted
leaf_excluded problem goal node (Split m p) why ok h = ok
leaf_excluded problem goal node (Count p) why ok h = count_excluded problem node p why ok h
leaf_excluded problem goal node (Fixed m) why ok h = fixed_excluded problem goal node m why ok h
leaf_excluded problem goal node (NoLine m lens) why ok h = noline_excluded problem goal node m lens why ok h
leaf_excluded problem goal node (Weights ys lenses) why ok h = weights_excluded problem goal node ys lenses why ok h
