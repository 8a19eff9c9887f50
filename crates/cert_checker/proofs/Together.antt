-- What best lines weigh together, and how much that can be.
use Rattle.std.proofs.Common.{◌≡◌, ℕ, zero, suc, ◌+◌, ◌*◌, ◌<◌, ◌≤◌, List, [], ◌∷◌, ◌++◌, Option, Some, length, get_or, refl, sym, ap, subst, ◌∙◌, arith, inl, inr, ◌⊎◌, length-append, false, true, FitsSigned, w64, to_z, of_z}
use Rattle.std.specs.Prelude.{ℤ, pos, ◌+ℤ◌, ◌*ℤ◌, ◌≤ℤ◌, ◌<ℤ◌, slice_get}
use Rattle.std.specs.Option.{option_map_or}
use Rattle.std.proofs.lemmas.Bool.{cases_lt}
use Rattle.std.proofs.lemmas.Int.{ints, to_z-of_z, fits_signed_from_abs}
use Rattle.std.proofs.Math.IntN.{negsuc}
use Rattle.std.specs.Int.Signed.{lt_z}
use Rattle.std.proofs.lemmas.Option.{slice_get-get_or, slice_get_within}
use Rattle.duty_calendar.specs.declared.pairing.Pairing.{Pairing}
use Rattle.roster_model.specs.declared.problem.Problem.{Problem}
use Rattle.roster_model.specs.declared.goal.Goal.{Goal}
use Rattle.roster_model.specs.declared.node.Decision.{Decision}
use Rattle.roster_model.specs.declared.proof.Lens.{Lens}
use Rattle.roster_model.specs.Lenses.{IsLens, IsLensLine, IsBestWeight, HasNoLine, IsOutweighed, AreLenses, IsWeightBound, AreBestWeights, AreWeightBounds}
use Rattle.roster_model.specs.Rosters.{need_of}
use Rattle.roster_model.specs.Weights.{AreSmallWeights, weight_at, weight_of, sum_below, needed_weight, total}
use Rattle.roster_model.proofs.Bounds.{ascending-length}
use Rattle.term_lines.proofs.LineWeights.{small_at, weight_within}
use Rattle.cert_checker.specs.declared.refusal.ItemFault.TheVariants as fault
use Rattle.cert_checker.specs.declared.refusal.StepFault.{StepFault}
use Rattle.cert_checker.specs.declared.refusal.StepFault.TheVariants as step
use Rattle.cert_checker.specs.Faults.{AreWide, IsFirstLineless, IsHeavyEnough, WeightsFails, IsStepFault}
use Rattle.cert_checker.specs.Given.{AreQuestions}
use Rattle.cert_checker.specs.Bests.{IsWithin, IsNothingFault, IsLinelessFault, WeighTogether, BoundTogether}
use Rattle.cert_checker.proofs.Shapes.{has_line}

-- an element of a list that got one more is an old one, or the new one
get_pushed : {X : Type 0} (xs : List X) (y : X) (k : ℕ) (x : X) → slice_get (xs ++ y ∷ []) k ≡ Some x
    → (slice_get xs k ≡ Some x) ⊎ ((k ≡ length xs) × (x ≡ y))
get_pushed [] y zero x e = inr (refl, cc e)
get_pushed [] y (suc k) x e = absurd (cc e)
get_pushed (z ∷ xs) y zero x e = inl e
get_pushed (z ∷ xs) y (suc k) x e =
    elim (get_pushed xs y k x e) [ inl a ↦ inl a | inr b ↦ inr (ap suc b.0, b.1) ]

total-push : (xs : List ℤ) (x : ℤ) → total (xs ++ x ∷ []) ≡ total xs +ℤ x
total-push [] x = omega (arith, ints)
total-push (y ∷ xs) x = let rest = total-push xs x in omega (arith, ints, rest)

within_widened : (n : ℕ) (z : ℤ) → n ≤ 600 → IsWithin (n * 2147483647) z → IsWithin 1288490188200 z
within_widened n z le w = (omega (arith, ints, w.0), omega (arith, ints, w.1))

-- no line weighs more than 600 pairings can
pub line_within : (problem : Problem) (member : ℕ) (goal : Goal) (node : List Decision) (lens : Lens) (weights : List ℤ) (line : List ℕ) (weight : ℤ)
    → AreSmallWeights weights → IsLensLine problem member goal node lens line → weight_of weights line ≡ weight → IsWithin 1288490188200 weight
line_within problem member goal node lens weights line weight small is e =
    let few = ascending-length line (length problem.base.pairings) is.ascending is.in_range in
    subst (IsWithin 1288490188200) e
    (within_widened (length line) (weight_of weights line) (omega (arith, few, problem.valid.month.pairings_form.few)) (weight_within weights line small))

-- one best line more
pub together_more : (problem : Problem) (goal : Goal) (node : List Decision) (weights : List ℤ) (lenses : List Lens) (k : ℕ) (sum new best : ℤ) (lens : Lens)
    → WeighTogether problem goal node weights lenses k sum → slice_get lenses k ≡ Some lens
    → IsBestWeight problem k goal node lens weights best → new ≡ sum +ℤ best
    → WeighTogether problem goal node weights lenses (k + 1) new
together_more problem goal node weights lenses k sum new best lens old here is e = record {
  bests = old.bests ++ best ∷ [];
  each = length-append old.bests (best ∷ []) ∙ ap (λ (n : ℕ). n + 1) old.each;
  best =
      λ m other b at got.
      elim (get_pushed old.bests best m b got) [
        | inl before ↦ old.best m other b at before
        | inr last ↦
            let same : m ≡ k = last.0 ∙ old.each in
            let lens_is : lens ≡ other = let e : Some lens ≡ Some other = sym here ∙ ap (slice_get lenses) (sym same) ∙ at in cc in
            subst (λ (n : ℕ). IsBestWeight problem n goal node other weights b) (sym same)
            (subst (λ (l : Lens). IsBestWeight problem k goal node l weights b) lens_is
            (subst (λ (z : ℤ). IsBestWeight problem k goal node lens weights z) (sym last.1) is))
      ];
  sum_is = e ∙ ap (λ (z : ℤ). z +ℤ best) old.sum_is ∙ sym (total-push old.bests best);
}

-- the first member without a line
first_lineless : (problem : Problem) (goal : Goal) (node : List Decision) (weights : List ℤ) (lenses : List Lens) (k : ℕ) (sum : ℤ) (lens : Lens)
    → WeighTogether problem goal node weights lenses k sum → AreLenses problem lenses → slice_get lenses k ≡ Some lens
    → HasNoLine problem k goal node lens → IsFirstLineless problem goal node lenses k
first_lineless problem goal node weights lenses k sum lens old shapes here none = record {
  lens = lens;
  here = here;
  none = none;
  before =
      λ m other lt at.
      has_line problem goal node m other weights (get_or old.bests m (pos 0)) (shapes m other at)
      (old.best m other (get_or old.bests m (pos 0)) at (slice_get-get_or old.bests m (pos 0) (omega (arith, old.each))));
}

pub nothing_first : (problem : Problem) (goal : Goal) (node : List Decision) (weights : List ℤ) (lenses : List Lens) (k : ℕ) (sum : ℤ) (lens : Lens) (why : StepFault)
    → WeighTogether problem goal node weights lenses k sum → AreLenses problem lenses → slice_get lenses k ≡ Some lens
    → IsStepFault (IsNothingFault problem goal node k lens) why → IsStepFault (IsLinelessFault problem goal node lenses) why
nothing_first problem goal node weights lenses k sum lens step.NoMemory old shapes here h = tt
nothing_first problem goal node weights lenses k sum lens (step.Of fault.Index) old shapes here h = h
nothing_first problem goal node weights lenses k sum lens (step.Of fault.Decided) old shapes here h = h
nothing_first problem goal node weights lenses k sum lens (step.Of fault.Covered) old shapes here h = h
nothing_first problem goal node weights lenses k sum lens (step.Of (fault.Undecided q)) old shapes here h = h
nothing_first problem goal node weights lenses k sum lens (step.Of fault.Fits) old shapes here h = h
nothing_first problem goal node weights lenses k sum lens (step.Of (fault.Lens j why)) old shapes here h = h
nothing_first problem goal node weights lenses k sum lens (step.Of (fault.Line j)) old shapes here h = h
nothing_first problem goal node weights lenses k sum lens (step.Of (fault.Nothing j)) old shapes here h =
    subst (λ (n : ℕ). IsFirstLineless problem goal node lenses n) (sym h.0)
    (first_lineless problem goal node weights lenses k sum lens old shapes here h.1)
nothing_first problem goal node weights lenses k sum lens (step.Of (fault.Sum lines needs)) old shapes here h = h
nothing_first problem goal node weights lenses k sum lens (step.Of (fault.Width w l)) old shapes here h = h

-- lines that do not weigh less than the needs are heavy enough
not_less : (x y : ℤ) → lt_z x y ≡ false → y ≤ℤ x
not_less x y e = grind (arith, ints)

pub heavy_from : (problem : Problem) (goal : Goal) (node : List Decision) (weights wide again : List ℤ) (lenses : List Lens) (lines needs lines' needs' : ℤ)
    → wide ≡ weights → again ≡ weights → lines' ≡ lines → needs' ≡ needs → AreWide problem weights lenses → AreLenses problem lenses
    → WeighTogether problem goal node wide lenses (length lenses) lines → needs ≡ needed_weight problem again → lt_z lines' needs' ≡ false
    → WeightsFails problem goal node weights lenses (fault.Sum lines' needs')
heavy_from problem goal node weights wide again lenses lines needs lines' needs' same same' same_lines same_needs widths shapes all needs_are less =
    let moved = subst (λ (ys : List ℤ). WeighTogether problem goal node ys lenses (length lenses) lines) same all in
    let needed = subst (λ (ys : List ℤ). needs ≡ needed_weight problem ys) same' needs_are in
    let heavy : IsHeavyEnough problem goal node weights lenses lines' needs' = record {
      bests = moved.bests;
      each = moved.each ∙ widths.per_member;
      best = moved.best;
      lines_are = same_lines ∙ moved.sum_is;
      needs_are = same_needs ∙ needed;
      enough = not_less lines' needs' less;
    } in
    (widths, shapes, heavy)

-- one lens more that has its shape
pub shapes_more : (problem : Problem) (lenses : List Lens) (k : ℕ) (lens : Lens)
    → ((m : ℕ) (other : Lens) → m < k → slice_get lenses m ≡ Some other → IsLens problem m other)
    → slice_get lenses k ≡ Some lens → IsLens problem k lens
    → (m : ℕ) (other : Lens) → m < k + 1 → slice_get lenses m ≡ Some other → IsLens problem m other
shapes_more problem lenses k lens before here shape m other lt at =
    elim (cases_lt m k) [
      | inl less ↦ before m other less at
      | inr more ↦
          let same : m ≡ k = omega arith in
          let lens_is : lens ≡ other = let e : Some lens ≡ Some other = sym here ∙ ap (slice_get lenses) (sym same) ∙ at in cc in
          subst (λ (n : ℕ). IsLens problem n other) (sym same) (subst (λ (l : Lens). IsLens problem k l) lens_is shape)
    ]

-- all lenses have their shape
pub shapes_all : (problem : Problem) (lenses : List Lens) (k : ℕ) → length lenses ≤ k
    → ((m : ℕ) (other : Lens) → m < k → slice_get lenses m ≡ Some other → IsLens problem m other) → AreLenses problem lenses
shapes_all problem lenses k le before m other at =
    before m other (omega (arith, slice_get_within lenses m other at)) at

-- best weights are bounds, and the least ones together
total-le : {L : Type 0} (lenses : List L) (xs ys : List ℤ) → length xs ≡ length lenses → length ys ≡ length lenses
    → ((m : ℕ) (lens : L) (x y : ℤ) → slice_get lenses m ≡ Some lens → slice_get xs m ≡ Some x → slice_get ys m ≡ Some y → x ≤ℤ y)
    → total xs ≤ℤ total ys
total-le [] [] [] ex ey h = omega (arith, ints)
total-le [] [] (y ∷ ys) ex ey h = absurd (omega arith)
total-le [] (x ∷ xs) ys ex ey h = absurd (omega arith)
total-le (l ∷ ls) [] ys ex ey h = absurd (omega arith)
total-le (l ∷ ls) (x ∷ xs) [] ex ey h = absurd (omega arith)
total-le (l ∷ ls) (x ∷ xs) (y ∷ ys) ex ey h =
    omega (
      arith,
      ints,
      h 0 l x y refl refl refl,
      total-le ls xs ys (omega arith) (omega arith) (λ m lens a b at here there. h (suc m) lens a b at here there),
    )

pub bests_least : (problem : Problem) (goal : Goal) (node : List Decision) (weights : List ℤ) (lenses : List Lens) (bests bounds : List ℤ)
    → length bests ≡ length lenses → length bounds ≡ length lenses → AreBestWeights problem goal node weights lenses bests
    → AreWeightBounds problem goal node weights lenses bounds → total bests ≤ℤ total bounds
bests_least problem goal node weights lenses bests bounds eb ec best bound =
    total-le lenses bests bounds eb ec
    (λ m lens x y at here there.
    let own = best m lens x at here in
    let most = (bound m lens y at there).most own.attained.0 own.attained.1 in
    omega (arith, ints, most, own.attained.2))

pub best_bounds : (problem : Problem) (goal : Goal) (node : List Decision) (weights : List ℤ) (lenses : List Lens) (bests : List ℤ)
    → AreBestWeights problem goal node weights lenses bests → AreWeightBounds problem goal node weights lenses bests
best_bounds problem goal node weights lenses bests best m lens bound at here =
    let own = best m lens bound at here in
    record { some = (own.attained.0, own.attained.1); most = own.most }

-- one bound more
pub bound_more : (problem : Problem) (goal : Goal) (node : List Decision) (weights : List ℤ) (lenses : List Lens) (k : ℕ) (sum new bound : ℤ) (lens : Lens)
    → BoundTogether problem goal node weights lenses k sum → slice_get lenses k ≡ Some lens
    → IsWeightBound problem k goal node lens weights bound → new ≡ sum +ℤ bound
    → BoundTogether problem goal node weights lenses (k + 1) new
bound_more problem goal node weights lenses k sum new bound lens old here is e = record {
  bounds = old.bounds ++ bound ∷ [];
  each = length-append old.bounds (bound ∷ []) ∙ ap (λ (n : ℕ). n + 1) old.each;
  bound =
      λ m other b at got.
      elim (get_pushed old.bounds bound m b got) [
        | inl before ↦ old.bound m other b at before
        | inr last ↦
            let same : m ≡ k = last.0 ∙ old.each in
            let lens_is : lens ≡ other = let e : Some lens ≡ Some other = sym here ∙ ap (slice_get lenses) (sym same) ∙ at in cc in
            subst (λ (n : ℕ). IsWeightBound problem n goal node other weights b) (sym same)
            (subst (λ (l : Lens). IsWeightBound problem k goal node l weights b) lens_is
            (subst (λ (z : ℤ). IsWeightBound problem k goal node lens weights z) (sym last.1) is))
      ];
  sum_is = e ∙ ap (λ (z : ℤ). z +ℤ bound) old.sum_is ∙ sym (total-push old.bounds bound);
}

-- bounds that are less than the needs
pub bounds_light : (problem : Problem) (goal : Goal) (node : List Decision) (weights : List ℤ) (lenses : List Lens) (sum needs : ℤ)
    → AreQuestions problem goal node weights lenses → BoundTogether problem goal node weights lenses (length lenses) sum
    → needs ≡ needed_weight problem weights → sum <ℤ needs → IsOutweighed problem goal node weights lenses
bounds_light problem goal node weights lenses sum needs asked all needs_are less = record {
  per_pairing = asked.per_pairing;
  per_member = asked.per_member;
  small = asked.small;
  shapes = asked.shapes;
  bounds = all.bounds;
  each = all.each ∙ asked.per_member;
  bound = all.bound;
  less = omega (arith, ints, less, needs_are, all.sum_is);
}

-- best lines that weigh less than the needs
less_than : (x y : ℤ) → lt_z x y ≡ true → x <ℤ y
less_than x y e = grind (arith, ints)

pub light_from : (problem : Problem) (goal : Goal) (node : List Decision) (weights wide again : List ℤ) (lenses : List Lens) (lines needs lines' needs' : ℤ)
    → wide ≡ weights → again ≡ weights → lines' ≡ lines → needs' ≡ needs → AreWide problem weights lenses → AreLenses problem lenses → AreSmallWeights weights
    → WeighTogether problem goal node wide lenses (length lenses) lines → needs ≡ needed_weight problem again → lt_z lines' needs' ≡ true
    → IsOutweighed problem goal node weights lenses
light_from problem goal node weights wide again lenses lines needs lines' needs' same same' same_lines same_needs widths shapes small all needs_are less =
    let moved = subst (λ (ys : List ℤ). WeighTogether problem goal node ys lenses (length lenses) lines) same all in
    let needed = subst (λ (ys : List ℤ). needs ≡ needed_weight problem ys) same' needs_are in
    record {
      per_pairing = widths.per_pairing;
      per_member = widths.per_member;
      small = small;
      shapes = shapes;
      bounds = moved.bests;
      each = moved.each ∙ widths.per_member;
      bound = best_bounds problem goal node weights lenses moved.bests moved.best;
      less = omega (arith, ints, less_than lines' needs' less, same_lines, moved.sum_is, same_needs, needed);
    }

-- what is needed of one pairing more
sum_more : (f : ℕ → ℤ) (k n : ℕ) → n ≡ suc k → sum_below f n ≡ sum_below f k +ℤ f k
unfolding sum_below
sum_more f k n e = ap (λ (i : ℕ). sum_below f i) e

-- what the crews that the first pairings need weigh together
abbrev pub needed_below : Problem → List ℤ → ℕ → ℤ
needed_below problem weights count =
    sum_below (λ p. pos (need_of problem p) *ℤ weight_at weights p) count

pub needed_more : (problem : Problem) (weights : List ℤ) (k : ℕ) (x : Pairing) (sum one new : ℤ)
    → sum ≡ needed_below problem weights k → slice_get problem.base.pairings k ≡ Some x
    → one ≡ pos x.need *ℤ weight_at weights k → new ≡ sum +ℤ one → new ≡ needed_below problem weights (k + 1)
needed_more problem weights k x sum one new old here one_is new_is =
    let need : x.need ≡ need_of problem k =
    sym (ap (λ (o : Option Pairing). option_map_or (λ (p : Pairing). p.need) o 0) here) in
    new_is ∙ ap (λ (z : ℤ). z +ℤ one) old
    ∙ ap (λ (z : ℤ). needed_below problem weights k +ℤ z) (one_is ∙ ap (λ (n : ℕ). pos n *ℤ weight_at weights k) need)
    ∙ sym (sum_more (λ p. pos (need_of problem p) *ℤ weight_at weights p) k (k + 1) (omega arith))

pub needed_none : (problem : Problem) (weights : List ℤ) → pos 0 ≡ needed_below problem weights 0
unfolding sum_below
needed_none problem weights = refl

-- sums that stay within bounds, as the machine computes them
pub sum_within : (n each m : ℕ) (a b : ℤ) → m ≡ n + each → IsWithin n a → IsWithin each b → IsWithin m (a +ℤ b)
sum_within n each m a b e wa wb = (omega (arith, ints, wa.0, wb.0), omega (arith, ints, wa.1, wb.1))

pub fits_within : (n : ℕ) (z : ℤ) → n < 9223372036854775808 → IsWithin n z → FitsSigned w64 z
fits_within n (pos k) lt w = fits_signed_from_abs w64 (pos k) (omega (arith, ints, lt, w.1))
fits_within n (negsuc k) lt w = fits_signed_from_abs w64 (negsuc k) (omega (arith, ints, lt, w.0))

-- a weight as the machine reads it
pub small_kept : (weights : List ℤ) (p : ℕ) → AreSmallWeights weights → to_z w64 (of_z w64 (weight_at weights p)) ≡ weight_at weights p
small_kept weights p small =
    to_z-of_z w64 (weight_at weights p) (fits_within 2147483647 (weight_at weights p) (omega arith) (small_at weights p small))

pub sum_fits : (n each : ℕ) (a b : ℤ) → n + each < 9223372036854775808 → IsWithin n a → IsWithin each b
    → FitsSigned w64 (a +ℤ to_z w64 (of_z w64 b))
sum_fits n each a b lt wa wb =
    subst (λ (z : ℤ). FitsSigned w64 (a +ℤ z)) (sym (to_z-of_z w64 b (fits_within each b (omega arith) wb)))
    (fits_within (n + each) (a +ℤ b) lt (sum_within n each (n + each) a b refl wa wb))

pub sum_kept : (n each : ℕ) (a b : ℤ) → n + each < 9223372036854775808 → IsWithin n a → IsWithin each b
    → to_z w64 (of_z w64 (a +ℤ to_z w64 (of_z w64 b))) ≡ a +ℤ b
sum_kept n each a b lt wa wb =
    to_z-of_z w64 (a +ℤ to_z w64 (of_z w64 b)) (sum_fits n each a b lt wa wb)
    ∙ ap (λ (z : ℤ). a +ℤ z) (to_z-of_z w64 b (fits_within each b (omega arith) wb))
