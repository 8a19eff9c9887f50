-- Where a lens tracks only what a pairing can decide, lines pass it as they did before.
use Rattle.std.proofs.Common.{◌≡◌, ℕ, zero, suc, ◌+◌, ◌≤◌, max, Bool, true, false, not, ◌||◌, ◌&&◌, List, [], ◌∷◌, refl, sym, ◌∙◌, arith}
use Rattle.std.specs.Prelude.{All, slice_get, if◌then◌else◌}
use Rattle.std.specs.List.{enumerate_from}
use Rattle.std.specs.Option.{option_map_or}
use Rattle.std.proofs.lemmas.List.Elements.{All-head, All-tail}
use Rattle.std.proofs.lemmas.List.Sums.{sum_by-cons}
use Rattle.duty_calendar.specs.declared.horizon.Horizon.{Horizon}
use Rattle.duty_calendar.specs.declared.member.Member.{Member}
use Rattle.duty_calendar.specs.Checks.{IsMember}
use Rattle.roster_model.proofs.Relaxation.{sum_by-le, floor_below, ceil_above}
use Rattle.roster_model.specs.declared.problem.Problem.{Problem}
use Rattle.roster_model.specs.declared.bid.Bid.{Bid}
use Rattle.roster_model.specs.declared.bid.Wish.{Wish}
use Rattle.roster_model.specs.declared.goal.Goal.{Goal}
use Rattle.roster_model.specs.declared.node.Decision.{Decision}
use Rattle.roster_model.specs.declared.proof.Lens.{Lens}
use Rattle.roster_model.specs.Legality.{low_of}
use Rattle.roster_model.specs.Timelines.{pairings_of}
use Rattle.roster_model.specs.Scores.{bids_of, is_granted, is_granting}
use Rattle.roster_model.specs.Lenses.{IsLens, IsLensLine, ceil_to, floor_to, has_trackable, is_granted_at, is_granting_at, is_trackable, is_tracked, lens_score, rounded_credit}
use Rattle.lens_classes.specs.Laws.{PassesAsBefore}
use Rattle.lens_classes.specs.Today.{IsLensLineBefore, score_before}
use Rattle.lens_classes.proofs.Grants.{granting_trackable}
use Rattle.lens_classes.proofs.Scores.{Each, counted_by, each_first, each_of, each_rest}
use Rattle.lens_classes.proofs.ClassLines.{own_at, some_grain, test_of}

-- a member's window has its two ends in order
pub window_in_order : (h : Horizon) (members : List Member) (m : ℕ) → All (IsMember h) members
    → option_map_or (λ (x : Member). x.low) (slice_get members m) 0 ≤ option_map_or (λ (x : Member). x.high) (slice_get members m) 0
window_in_order h [] m each = omega arith
window_in_order h (x ∷ xs) zero each = (All-head (IsMember h) x xs each).window
window_in_order h (x ∷ xs) (suc m) each = window_in_order h xs m (All-tail (IsMember h) x xs each)

pub plain_track : (h w z : Bool) → (h || (w && z)) ≡ true → w ≡ false → h ≡ true
plain_track true w z e f = refl
plain_track false true z e f = cc
plain_track false false z e f = cc

module _ (tracks : ℕ → Bool) (at own : Wish → Bool) where
  abbrev Agrees : ℕ → Bid → Type 0
  Agrees n b = tracks n ≡ true → at b.wish ≡ own b.wish

  one : (t a o : Bool) (w : ℕ) → (t ≡ true → a ≡ o) → (if not t || a then w else 0) ≡ (if not t || o then w else 0)
  one true a o w h = rw (h refl) refl
  one false a o w h = refl

  pub same_counts : (n : ℕ) (bids : List Bid) → Each Agrees n bids → counted_by tracks at n bids ≡ counted_by tracks own n bids
  same_counts n [] each = refl
  same_counts n (b ∷ bids) each =
      let here = one (tracks n) (at b.wish) (own b.wish) b.weight (each_first Agrees n b bids each) in
      let rest = same_counts (n + 1) bids (each_rest Agrees n b bids each) in
      let first = sum_by-cons (λ (nb : ℕ × Bid). if not (tracks nb.0) || at nb.1.wish then nb.1.weight else 0) (n, b) (enumerate_from (n + 1) bids) in
      let second = sum_by-cons (λ (nb : ℕ × Bid). if not (tracks nb.0) || own nb.1.wish then nb.1.weight else 0) (n, b) (enumerate_from (n + 1) bids) in
      omega (arith, here, rest, first, second)

module _ (problem : Problem) (member : ℕ) (goal : Goal) (node : List Decision) (lens : Lens) (shape : IsLens problem member lens) (plain : lens.whole ≡ false) (line : List ℕ) where
  pub trackable : (bid : ℕ) → is_tracked lens bid ≡ true → has_trackable problem member bid ≡ true
  trackable bid t = plain_track (has_trackable problem member bid) lens.whole _ (shape.trackable bid t) plain

  same_score : (x : ℕ) → lens_score problem member lens x line ≡ score_before problem member lens line
  unfolding lens_score score_before
  same_score x =
      same_counts (is_tracked lens) (is_granting_at problem member x line) (is_granting problem member line) 0 (bids_of problem member)
      (each_of (λ n b. is_tracked lens n ≡ true → is_granting_at problem member x line b.wish ≡ is_granting problem member line b.wish) (bids_of problem member)
      (λ k b e t. granting_trackable problem member x line b.wish (sym (test_of (λ (y : Bid). is_trackable y.wish) (slice_get (bids_of problem member) k) b e) ∙ trackable k t)))

  same_grant : (x bid : ℕ) → is_tracked lens bid ≡ true → is_granted_at problem member x bid line ≡ is_granted problem member bid line
  same_grant x bid t = own_at problem member goal node lens shape x line (slice_get (bids_of problem member) bid) (trackable bid t)

  before : IsLensLine problem member goal node lens line → IsLensLineBefore problem member goal node lens line
  before is = record {
    ascending = is.ascending;
    in_range = is.in_range;
    obeys = is.obeys;
    apart = is.apart;
    rested = is.rested;
    least_credit = let low = is.least_credit in let up = is.rounded_up in omega (arith, low, up);
    most_credit = let high = is.most_credit in let down = is.rounded_down in omega (arith, high, down);
    floor = λ f e. let h = is.floor f e in let same = same_score is.credit in omega (arith, h, same);
    grant = λ b e mine t. sym (same_grant is.credit b.bid t) ∙ is.grant b e mine t;
    free = is.free;
    nights = is.nights;
    enough_days_off = is.enough_days_off;
    windows = is.windows;
  }

  since : IsLensLineBefore problem member goal node lens line → IsLensLine problem member goal node lens line
  since is =
      let down = rounded_credit (floor_to lens.grain) problem member line in
      let a = sum_by-le (λ p. p.credit) (λ p. ceil_to lens.grain p.credit) (λ p. ceil_above lens.grain p.credit (some_grain lens.grain shape.grain)) (pairings_of problem line) in
      let b = sum_by-le (λ p. floor_to lens.grain p.credit) (λ p. p.credit) (λ p. floor_below lens.grain p.credit) (pairings_of problem line) in
      let least = is.least_credit in
      let most = is.most_credit in
      let order = window_in_order problem.base.rules.horizon problem.base.members member problem.valid.month.members_form.each in
      record {
        ascending = is.ascending;
        in_range = is.in_range;
        obeys = is.obeys;
        apart = is.apart;
        rested = is.rested;
        credit = max (low_of problem member) down;
        least_credit = omega arith;
        most_credit = omega (arith, most, order);
        rounded_down = omega arith;
        rounded_up = omega (arith, least, a, b);
        floor = λ f e. let h = is.floor f e in let same = same_score (max (low_of problem member) down) in omega (arith, h, same);
        grant = λ g e mine t. same_grant (max (low_of problem member) down) g.bid t ∙ is.grant g e mine t;
        free = is.free;
        nights = is.nights;
        enough_days_off = is.enough_days_off;
        windows = is.windows;
      }

pub passes_as_before : (problem : Problem) (member : ℕ) (goal : Goal) (node : List Decision) (lens : Lens) → IsLens problem member lens
    → lens.whole ≡ false → PassesAsBefore problem member goal node lens
passes_as_before problem member goal node lens shape plain = record {
  before = λ line is. before problem member goal node lens shape plain line is;
  since = λ line is. since problem member goal node lens shape plain line is;
}
