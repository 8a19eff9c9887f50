-- What moves from a problem to another one with the same base.
use Rattle.std.proofs.Common.{◌≡◌, ℕ, ◌≤◌, ◌||◌, ◌&&◌, Bool, true, false, cond, not, List, None, refl, ap, subst, ◌∙◌}
use Rattle.std.specs.Prelude.{ℤ, nat_lt, sum_by, slice_get}
use Rattle.std.specs.List.{enumerate_from}
use Rattle.std.specs.Option.{ForSome, option_map_or}
use Rattle.std.proofs.Math.Path.{fun_ext}
use Rattle.duty_calendar.specs.Minutes.{count_between}
use Rattle.duty_calendar.specs.declared.member.Base.{Base}
use Rattle.roster_model.specs.declared.problem.Problem.{Problem}
use Rattle.roster_model.specs.declared.goal.Goal.{Goal}
use Rattle.roster_model.specs.declared.node.Decision.{Decision}
use Rattle.roster_model.specs.declared.bid.Bid.{Bid}
use Rattle.roster_model.specs.declared.bid.Wish.{Wish}
use Rattle.roster_model.specs.declared.bid.Wish.TheVariants.{Fly, Avoid, Prefer, Off, CreditBelow, CreditAbove, DaysOff}
use Rattle.roster_model.specs.declared.proof.Lens.{Lens}
use Rattle.roster_model.specs.Valid.{IsValid}
use Rattle.roster_model.specs.Legality.{IsLegal}
use Rattle.roster_model.specs.Scores.{bids_of}
use Rattle.roster_model.specs.Closing.{IsOpenPair, IsMiscrewed, decided_line}
use Rattle.roster_model.specs.Weights.{needed_weight}
use Rattle.roster_model.specs.Lenses.{IsLens, IsLensLine, is_granting_at, is_tracked, is_trackable, is_whole, lens_score, may_track}

-- the problem with other bids
abbrev rebid : (base : Base) (bids : List (List Bid)) → IsValid base bids → Problem
rebid base bids valid = record { base = base; bids = bids; valid = valid }

-- the lens with other bids tracked
abbrev pub retrack : Lens → ℕ → Lens
retrack lens tracked = record {
  grain = lens.grain;
  tracked = tracked;
  free30 = lens.free30;
  days = lens.days;
  whole = lens.whole;
  windows = lens.windows;
}

-- what holds of every problem with this base holds of the other
moved : (old new : Problem) → old.base ≡ new.base → (P : Problem → Type 0)
    → ((bids : List (List Bid)) (valid : IsValid old.base bids) → P (rebid old.base bids valid)) → P new
moved old new e P h =
    subst (λ (base : Base). (bids : List (List Bid)) (valid : IsValid base bids) → P (rebid base bids valid)) e h new.bids new.valid

-- legal lines, open pairs and crews are matters of the base
pub legal-moved : (old new : Problem) → old.base ≡ new.base → (m : ℕ) (line : List ℕ) → IsLegal old m line → IsLegal new m line
legal-moved old new e m line h =
    moved old new e (λ p. IsLegal p m line) (λ bids valid. record {
      ascending = h.ascending;
      in_range = h.in_range;
      limits = h.limits;
      least_credit = h.least_credit;
      most_credit = h.most_credit;
      enough_days_off = h.enough_days_off;
    })

pub open_pair-moved : (old new : Problem) → old.base ≡ new.base → (node : List Decision) (m p : ℕ) → IsOpenPair old node m p → IsOpenPair new node m p
open_pair-moved old new e node m p h =
    moved old new e (λ x. IsOpenPair x node m p) (λ bids valid. record {
      member_in_range = h.member_in_range;
      pairing_in_range = h.pairing_in_range;
      undecided = h.undecided;
    })

pub miscrewed-moved : (old new : Problem) → old.base ≡ new.base → (node : List Decision) (p : ℕ) → IsMiscrewed old node p → IsMiscrewed new node p
miscrewed-moved old new e node p h =
    moved old new e (λ x. IsMiscrewed x node p) (λ bids valid. record { in_range = h.in_range; crew = h.crew })

pub decided_line-moved : (old new : Problem) → old.base ≡ new.base → (node : List Decision) (m : ℕ) → decided_line old node m ≡ decided_line new node m
unfolding decided_line
decided_line-moved old new e node m = moved old new e (λ x. decided_line old node m ≡ decided_line x node m) (λ bids valid. refl)

-- and what the crews that are needed weigh
pub needed-same : (old new : Problem) (weights : List ℤ) → old.base ≡ new.base → needed_weight old weights ≡ needed_weight new weights
needed-same old new weights e = moved old new e (λ x. needed_weight old weights ≡ needed_weight x weights) (λ bids valid. refl)

-- what the lens may be, where the bids that it tracks can be tracked
pub lens-moved : (old new : Problem) → old.base ≡ new.base → (m : ℕ) (lens : Lens) (tracked : ℕ)
    → ((bid : ℕ) → is_tracked (retrack lens tracked) bid ≡ true → may_track new m (retrack lens tracked) bid ≡ true)
    → IsLens old m lens → IsLens new m (retrack lens tracked)
lens-moved old new e m lens tracked tracks h =
    moved old new e
    (λ x. ((bid : ℕ) → is_tracked (retrack lens tracked) bid ≡ true → may_track x m (retrack lens tracked) bid ≡ true) → IsLens x m (retrack lens tracked))
    (λ bids valid t. record { trackable = t; few_windows = h.few_windows; windows = h.windows; grain = h.grain })
    tracks

-- a line that passes the lens passes the other, where it reaches the floor there
pub lens_line-moved : (old new : Problem) → old.base ≡ new.base → (m : ℕ) (goal : Goal) (node : List Decision) (lens : Lens) (tracked : ℕ) (line : List ℕ)
    → goal.grant ≡ None → (h : IsLensLine old m goal node lens line)
    → ForSome (slice_get goal.floors m) (λ floor. floor ≤ lens_score new m (retrack lens tracked) h.credit line)
    → IsLensLine new m goal node (retrack lens tracked) line
lens_line-moved old new e m goal node lens tracked line no_bid h floors =
    moved old new e
    (λ x. ForSome (slice_get goal.floors m) (λ floor. floor ≤ lens_score x m (retrack lens tracked) h.credit line) → IsLensLine x m goal node (retrack lens tracked) line)
    (λ bids valid reached. record {
      ascending = h.ascending;
      in_range = h.in_range;
      obeys = h.obeys;
      apart = h.apart;
      rested = h.rested;
      credit = h.credit;
      least_credit = h.least_credit;
      most_credit = h.most_credit;
      rounded_down = h.rounded_down;
      rounded_up = h.rounded_up;
      floor = reached;
      grant = λ b is. cc;
      free = h.free;
      nights = h.nights;
      enough_days_off = h.enough_days_off;
      windows = h.windows;
    })
    floors

-- what a line grants is a matter of the base, and what a lens scores of the member's bids as well
granting-rebid : (old : Problem) (bids : List (List Bid)) (valid : IsValid old.base bids) (m credit : ℕ) (line : List ℕ) (wish : Wish)
    → is_granting_at old m credit line wish ≡ is_granting_at (rebid old.base bids valid) m credit line wish
granting-rebid old bids valid m credit line (Fly p) = refl
granting-rebid old bids valid m credit line (Avoid f) = refl
granting-rebid old bids valid m credit line (Prefer n f) = refl
granting-rebid old bids valid m credit line (Off first last) = refl
granting-rebid old bids valid m credit line (CreditBelow x) = refl
granting-rebid old bids valid m credit line (CreditAbove x) = refl
granting-rebid old bids valid m credit line (DaysOff n) = refl

lens_score-rebid : (old : Problem) (bids : List (List Bid)) (valid : IsValid old.base bids) (m : ℕ) (lens : Lens) (credit : ℕ) (line : List ℕ)
    → bids_of old m ≡ bids_of (rebid old.base bids valid) m
    → lens_score old m lens credit line ≡ lens_score (rebid old.base bids valid) m lens credit line
unfolding lens_score
lens_score-rebid old bids valid m lens credit line e =
    let worth : Problem → (ℕ × Bid) → ℕ = λ p nb. cond (not (is_tracked lens nb.0) || is_granting_at p m credit line nb.1.wish) nb.1.weight 0 in
    let same : worth old ≡ worth (rebid old.base bids valid) =
    fun_ext (λ (nb : ℕ × Bid). ap (λ (t : Bool). cond (not (is_tracked lens nb.0) || t) nb.1.weight 0) (granting-rebid old bids valid m credit line nb.1.wish)) in
    ap (λ (f : (ℕ × Bid) → ℕ). sum_by f (enumerate_from 0 (bids_of old m))) same
    ∙ ap (λ (xs : List Bid). sum_by (worth (rebid old.base bids valid)) (enumerate_from 0 xs)) e

pub lens_score-same : (old new : Problem) (m : ℕ) (lens : Lens) (credit : ℕ) (line : List ℕ) → old.base ≡ new.base → bids_of old m ≡ bids_of new m
    → lens_score old m lens credit line ≡ lens_score new m lens credit line
lens_score-same old new m lens credit line e same =
    moved old new e (λ x. bids_of old m ≡ bids_of x m → lens_score old m lens credit line ≡ lens_score x m lens credit line)
    (λ bids valid. lens_score-rebid old bids valid m lens credit line) same

-- and which bids a lens may track is a matter of the member's bids
pub trackable-same : (old new : Problem) (m : ℕ) (lens : Lens) (bid : ℕ) → bids_of old m ≡ bids_of new m
    → may_track old m lens bid ≡ may_track new m lens bid
trackable-same old new m lens bid e =
    ap
    (λ (xs : List Bid). option_map_or (λ b. is_trackable b.wish) (slice_get xs bid) false
    || (lens.whole
    && (option_map_or (λ b. is_whole b.wish) (slice_get xs bid) false
    && nat_lt (count_between (λ n. is_tracked lens n && option_map_or (λ b. is_whole b.wish) (slice_get xs n) false) 0 bid) 6)))
    e
