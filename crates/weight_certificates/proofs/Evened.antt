-- Rounds of heaviest lines: one more, and what a round says that weighs less than the needs.
use Rattle.std.proofs.Common.{◌≡◌, ℕ, zero, suc, ◌+◌, ◌<◌, ◌≤◌, List, [], ◌∷◌, ◌++◌, length, length-append, take, drop, get_or, refl, ap, sym, subst, ◌∙◌, arith, inl, inr, Some}
use Rattle.std.specs.Prelude.{ℤ, pos, neg_ℤ, ◌+ℤ◌, ◌-ℤ◌, ◌*ℤ◌, ◌≤ℤ◌, ◌<ℤ◌, All, map, replicate, slice_get, Option}
use Rattle.std.specs.Option.{option_map}
use Rattle.std.proofs.lemmas.Bool.{cases_lt}
use Rattle.std.proofs.lemmas.Int.{ints}
use Rattle.std.proofs.lemmas.List.{length-map, length-replicate, get_or_append_left, get_or_default, take-append-le}
use Rattle.std.proofs.Math.Seq.{get_or-append_seam, take-length}
use Rattle.std.proofs.lemmas.List.Elements.{All-append, All-nil, All-cons}
use Rattle.std.proofs.lemmas.Option.{slice_get-get_or, slice_get_cases, slice_get_within, slice_get-map}
use Rattle.roster_model.specs.declared.problem.Problem.{Problem}
use Rattle.roster_model.specs.declared.goal.Goal.{Goal}
use Rattle.roster_model.specs.declared.node.Decision.{Decision}
use Rattle.roster_model.specs.declared.proof.Lens.{Lens}
use Rattle.roster_model.specs.Rosters.{line_at}
use Rattle.roster_model.specs.Lenses.{AreLenses, HasNoLine, IsLensLine, IsOutweighed}
use Rattle.roster_model.specs.Rounds.{IsRound, miss_of, missed}
use Rattle.roster_model.specs.Weights.{AreSmallWeights, weight_at, weight_of, total}
use Rattle.roster_model.proofs.Rounds.{missed-append, even-none, even-append, miss-weight}
use Rattle.roster_model.proofs.Standard.{standard-passes}
use Rattle.roster_model.proofs.Sums.{product_of, sum_below-same, product-comm, product-neg}
use Rattle.roster_model.proofs.WeightSums.{total_weight}
use Rattle.weight_certificates.specs.Rows as rows
use Rattle.weight_certificates.specs.Rows.{AreWithin}
use Rattle.weight_certificates.specs.Columns.{IsHeavyEnough}
use Rattle.weight_certificates.specs.Pricing.{AreHeaviest, AreStandard, IsHeaviestLine, IsWithoutLine}
use Rattle.weight_certificates.specs.Evidence.{HaveEvened, HasLastRound}

-- weights that rounds give are small
pub small_weights : (weights : List ℤ) → AreWithin 400000 weights → AreSmallWeights weights
small_weights weights within = λ k d lt.
    let same : get_or weights k d ≡ weight_at weights k = get_or_any weights k d (pos 0) lt in
    let here = within k lt in
    (omega (arith, ints, same, here), omega (arith, ints, same, here))
  where
    get_or_any : (xs : List ℤ) (k : ℕ) (d e : ℤ) → k < length xs → get_or xs k d ≡ get_or xs k e
    get_or_any [] k d e lt = absurd (omega arith)
    get_or_any (x ∷ xs) zero d e lt = refl
    get_or_any (x ∷ xs) (suc k) d e lt = get_or_any xs k d e (omega arith)

pub within_weights : (weights : List ℤ) → AreSmallWeights weights → AreWithin 2147483647 weights
within_weights weights small = λ k lt. let here = small k (pos 0) lt in omega (arith, ints, here.0, here.1)

pub get_or-replicate : (n p : ℕ) → get_or (replicate n (pos 0)) p (pos 0) ≡ pos 0
get_or-replicate zero p = refl
get_or-replicate (suc n) zero = refl
get_or-replicate (suc n) (suc p) = get_or-replicate n p

total-map : (weights : List ℤ) (round : List (List ℕ)) → total (map (weight_of weights) round) ≡ total_weight weights round
unfolding total_weight
total-map weights [] = refl
total-map weights (line ∷ lines) = ap (λ (z : ℤ). weight_of weights line +ℤ z) (total-map weights lines)

-- the lens of a member
lens_of : (problem : Problem) (lenses : List Lens) (m : ℕ) → length lenses ≡ length problem.base.members → m < length problem.base.members
    → (lens : Lens) × (slice_get lenses m ≡ Some lens)
lens_of problem lenses m per_member lt = elim (slice_get_cases lenses m).1 [
  | inl found ↦ (found.0, found.2)
  | inr past ↦ absurd (omega (arith, lt, past.0, per_member))
]

-- a row that was lent as a slice and written
pub written : (xs ys : List ℤ) (n : ℕ) → length ys ≡ n → take n (ys ++ drop (length ys) xs) ≡ ys
written xs ys n e = rw (sym e) (take-append-le (length ys) ys (drop (length ys) xs) (omega arith) ∙ take-length ys)

module _ (problem : Problem) (goal : Goal) (node : List Decision) where
  -- a member of whom no line passes its standard lens
  pub without_line : (lenses : List Lens) (m : ℕ) (lens : Lens) → AreStandard problem lenses → m < length problem.base.members
      → slice_get lenses m ≡ Some lens → HasNoLine problem m goal node lens → IsWithoutLine problem goal node m
  without_line lenses m lens standard lt here none = record {
    in_range = lt;
    none =
        λ other is line passes.
        none line (standard-passes problem m other lens is (standard.standard m lens here) line goal node passes);
  }

  -- the inner product of weights and a miss
  product-misses : (weights miss : List ℤ) (round : List (List ℕ))
      → ((p : ℕ) → p < length problem.base.pairings → weight_at miss p ≡ miss_of problem round p)
      → length weights ≡ length problem.base.pairings
      → rows.product_of weights miss ≡ product_of (weight_at weights) (miss_of problem round) (length problem.base.pairings)
  product-misses weights miss round is per_pairing =
      ap (λ (n : ℕ). product_of (weight_at weights) (weight_at miss) n) per_pairing
      ∙ sum_below-same _ _ (length problem.base.pairings) (λ p lt. ap (λ (z : ℤ). weight_at weights p *ℤ z) (is p lt))

  module _ (weights : List ℤ) (lenses : List Lens) where
    pub heaviest_none : AreHeaviest problem goal node weights lenses 0 []
    heaviest_none = record { lines = refl; each = λ m lens lt at. absurd (omega arith) }

    pub heaviest_more : (k : ℕ) (round longer : List (List ℕ)) (line : List ℕ) (lens : Lens)
        → AreHeaviest problem goal node weights lenses k round → slice_get lenses k ≡ Some lens
        → IsHeaviestLine problem k goal node lens weights line → longer ≡ round ++ line ∷ []
        → AreHeaviest problem goal node weights lenses (k + 1) longer
    heaviest_more k round longer line lens before here is longer_is =
        subst (λ (r : List (List ℕ)). AreHeaviest problem goal node weights lenses (k + 1) r) (sym longer_is)
        (record {
          lines = length-append round (line ∷ []) ∙ ap (λ (n : ℕ). n + 1) before.lines;
          each =
              λ m other lt at.
              elim (cases_lt m k) [
                | inl less ↦
                    subst (λ (l : List ℕ). IsHeaviestLine problem m goal node other weights l)
                    (sym (get_or_append_left round (line ∷ []) [] m (omega (arith, less, before.lines)))) (before.each m other less at)
                | inr more ↦
                    let same : m ≡ k = omega (arith, lt, more) in
                    let lens_is : lens ≡ other = let e : Some lens ≡ Some other = sym here ∙ ap (slice_get lenses) (sym same) ∙ at in cc in
                    let last : line_at (round ++ line ∷ []) m ≡ line =
                    ap (λ (n : ℕ). line_at (round ++ line ∷ []) n) (same ∙ sym before.lines) ∙ get_or-append_seam round line [] [] in
                    subst (λ (l : List ℕ). IsHeaviestLine problem m goal node other weights l) (sym last)
                    (subst (λ (n : ℕ). IsHeaviestLine problem n goal node other weights line) (sym same)
                    (subst (λ (l : Lens). IsHeaviestLine problem k goal node l weights line) lens_is is))
              ];
        })

    module _ (round : List (List ℕ)) (per_member : length lenses ≡ length problem.base.members)
        (heavy : AreHeaviest problem goal node weights lenses (length problem.base.members) round) where
      line_passes : (m : ℕ) → m < length problem.base.members
          → (lens : Lens) × (slice_get lenses m ≡ Some lens) × IsLensLine problem m goal node lens (line_at round m)
      line_passes m lt =
          let own = lens_of problem lenses m per_member lt in
          (own.0, own.1, (heavy.each m own.0 lt own.1).passes)

      pub heaviest_is_round : AreStandard problem lenses → IsRound problem goal node round
      heaviest_is_round standard = record {
        lines = heavy.lines;
        each =
            λ m lt.
            let own = line_passes m lt in
            record { lens = own.0; standard = standard.standard m own.0 own.1; passes = own.2 };
      }

      pub round_in_range : All (All (λ p. p < length problem.base.pairings)) round
      round_in_range = λ m d lt.
          let own = line_passes m (omega (arith, lt, heavy.lines)) in
          let same : get_or round m d ≡ line_at round m = cc (slice_get-get_or round m d lt, slice_get-get_or round m [] lt) in
          subst (λ (l : List ℕ). All (λ p. p < length problem.base.pairings) l) (sym same) own.2.in_range

      -- heaviest lines that weigh less than what is needed
      pub round_outweighed : AreLenses problem lenses → (miss : List ℤ) (product : ℤ)
          → ((p : ℕ) → p < length problem.base.pairings → weight_at miss p ≡ miss_of problem round p)
          → product ≡ rows.product_of weights miss
          → length weights ≡ length problem.base.pairings → AreSmallWeights weights → product <ℤ pos 0
          → IsOutweighed problem goal node weights lenses
      round_outweighed shapes miss product is product_is weighted small less =
          let turned = product-comm (weight_at weights) (miss_of problem round) (length problem.base.pairings) in
          let weighed =
          miss-weight problem weights round heavy.lines (λ m lt. (line_passes m (omega (arith, lt, heavy.lines))).2.ascending)
          (λ m lt. (line_passes m (omega (arith, lt, heavy.lines))).2.in_range) in
          record {
            per_pairing = weighted;
            per_member = per_member;
            small = small;
            shapes = shapes;
            bounds = map (weight_of weights) round;
            each = length-map round (weight_of weights) ∙ heavy.lines;
            bound =
                λ m lens bound at got.
                let inside : m < length round = omega (arith, slice_get_within (map (weight_of weights) round) m bound got, length-map round (weight_of weights)) in
                let here = heavy.each m lens (omega (arith, inside, heavy.lines)) at in
                let found = slice_get-get_or round m [] inside in
                let mapped : slice_get (map (weight_of weights) round) m ≡ Some (weight_of weights (line_at round m)) =
                slice_get-map (weight_of weights) round m ∙ ap (λ (o : Option (List ℕ)). option_map (weight_of weights) o) found in
                let value : weight_of weights (line_at round m) ≡ bound = let e : Some (weight_of weights (line_at round m)) ≡ Some bound = sym mapped ∙ got in cc in
                record {
                  some = (line_at round m, here.passes);
                  most = λ line passes. omega (arith, ints, here.most line passes, value);
                };
            less = omega (arith, ints, product_is, product-misses weights miss round is weighted, turned, weighed, total-map weights round, less);
          }

  pub is_round_in_range : (round : List (List ℕ)) → IsRound problem goal node round → All (All (λ p. p < length problem.base.pairings)) round
  is_round_in_range round is = λ m d lt.
      let same : get_or round m d ≡ line_at round m = get_or_default round m d [] lt in
      subst (λ (l : List ℕ). All (λ p. p < length problem.base.pairings) l) (sym same) ((is.each m (omega (arith, lt, is.lines))).passes.in_range)

  -- one round more, which does not weigh less
  pub evened_more : (weights miss after : List ℤ) (round : List (List ℕ)) (count : ℕ) → HaveEvened problem goal node count weights
      → IsHeavyEnough problem goal node weights miss round → length after ≡ length weights
      → ((p : ℕ) → p < length weights → weight_at after p ≡ weight_at weights p -ℤ weight_at miss p)
      → HaveEvened problem goal node (count + 1) after
  evened_more weights miss after round count before enough same taken =
      let rounds = before.rounds in
      let turned : product_of (weight_at weights) (miss_of problem round) (length problem.base.pairings) ≡ neg_ℤ (product_of (missed problem rounds) (miss_of problem round) (length problem.base.pairings)) =
      sum_below-same _ _ (length problem.base.pairings) (λ p lt. ap (λ (z : ℤ). z *ℤ miss_of problem round p) (before.summed.negated p lt))
      ∙ product-neg (missed problem rounds) (miss_of problem round) (length problem.base.pairings) in
      let towards : product_of (missed problem rounds) (miss_of problem round) (length problem.base.pairings) ≤ℤ pos 0 =
      omega (arith, ints, product-misses weights miss round enough.is_miss before.summed.per_pairing, turned, enough.not_less) in
      let longer = length-append rounds (round ∷ []) in
      record {
        rounds = rounds ++ round ∷ [];
        count_is = longer ∙ ap (λ (n : ℕ). n + 1) before.count_is;
        each = All-append (IsRound problem goal node) rounds (round ∷ []) before.each (All-cons (IsRound problem goal node) round [] enough.is_round (All-nil (IsRound problem goal node)));
        even = even-append problem rounds round towards before.even;
        summed = record {
          per_pairing = same ∙ before.summed.per_pairing;
          negated =
              λ p lt.
              omega (
                arith,
                ints,
                taken p (omega (arith, lt, before.summed.per_pairing)),
                before.summed.negated p lt,
                enough.is_miss p lt,
                missed-append problem rounds round p,
              );
          small =
              λ p lt.
              omega (
                arith,
                ints,
                taken p (omega (arith, lt, same)),
                before.summed.small p (omega (arith, lt, same)),
                enough.within p (omega (arith, lt, same, enough.per_pairing, before.summed.per_pairing)),
                longer,
              );
        };
      }

  -- no round yet
  pub evened_none : (weights : List ℤ) → weights ≡ replicate (length problem.base.pairings) (pos 0) → HaveEvened problem goal node 0 weights
  unfolding missed
  evened_none weights zeros = record {
    rounds = [];
    count_is = refl;
    each = All-nil (IsRound problem goal node);
    even = even-none problem;
    summed = record {
      per_pairing = ap (λ (xs : List ℤ). length xs) zeros ∙ length-replicate (length problem.base.pairings) (pos 0);
      negated = λ p lt. ap (λ (xs : List ℤ). weight_at xs p) zeros ∙ get_or-replicate (length problem.base.pairings) p;
      small =
          λ p lt.
          let zero_here : weight_at weights p ≡ pos 0 = ap (λ (xs : List ℤ). weight_at xs p) zeros ∙ get_or-replicate (length problem.base.pairings) p in
          omega (arith, ints, zero_here);
    };
  }

  -- the weights of few rounds are small
  pub evened_small : (count : ℕ) (weights : List ℤ) → count ≤ 2000 → HaveEvened problem goal node count weights → AreWithin 400000 weights
  evened_small count weights few is = λ p lt. omega (arith, is.summed.small p lt, is.count_is, few)

  pub evened_all : (count all : ℕ) (weights : List ℤ) (last : List (List ℕ)) → count ≡ all → HaveEvened problem goal node count weights
      → IsRound problem goal node last → HasLastRound problem goal node all last
  evened_all count all weights last same is round = record {
    even = record { rounds = is.rounds; count_is = is.count_is ∙ same; each = is.each; even = is.even };
    round = round;
  }
