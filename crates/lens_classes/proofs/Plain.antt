-- The terms of a lens that looks at pairings one by one.
use Rattle.std.proofs.Common.{◌≡◌, ℕ, zero, suc, ◌<◌, ◌==◌, true, false, List, [], ◌∷◌, length, Option, refl, ap, sym, subst, ◌∙◌, arith}
use Rattle.std.specs.Int.{bit_at}
use Rattle.std.proofs.lemmas.Bool.{false≢true}
use Rattle.std.proofs.lemmas.Nat.Bits.{bit_at-zero}
use Rattle.std.specs.Prelude.{◌↔◌, slice_get, if◌then◌else◌}
use Rattle.std.specs.Option.{ForSome, option_map_or}
use Rattle.roster_model.specs.declared.problem.Problem.{Problem}
use Rattle.roster_model.specs.declared.bid.Bid.{Bid}
use Rattle.roster_model.specs.declared.goal.Goal.{Goal}
use Rattle.roster_model.specs.declared.node.Decision.{Decision}
use Rattle.roster_model.specs.declared.proof.Lens.{Lens}
use Rattle.roster_model.specs.Legality.{low_of, high_of}
use Rattle.roster_model.specs.Scores.{bids_of, is_granted}
use Rattle.roster_model.specs.Lenses.{IsLens, IsLensLine, is_trackable}
use Rattle.lens_classes.specs.declared.terms.Terms.{Terms}
use Rattle.lens_classes.specs.TermLines.{IsTermLine, is_counted, term_score}
use Rattle.lens_classes.specs.Classes.{asked_bid, floor_of}
use Rattle.lens_classes.specs.Today.{IsLensLineBefore, score_before}
use Rattle.lens_classes.proofs.Before.{passes_as_before, trackable}
use Rattle.lens_classes.proofs.ClassLines.{asked_is, asks_own, base_is, floor_at, floor_is}

-- a bid that one pairing can decide is there
there : (bids : List Bid) (bid : ℕ) → option_map_or (λ (b : Bid). is_trackable b.wish) (slice_get bids bid) false ≡ true → bid < length bids
there [] bid h = cc
there (b ∷ bids) zero h = omega arith
there (b ∷ bids) (suc bid) h = let rest = there bids bid h in omega (arith, rest)

pub asked_there : (problem : Problem) (member : ℕ) (goal : Goal) (lens : Lens) (asked : Option ℕ) → asked ≡ asked_bid problem member goal lens
    → ForSome asked (λ bid. bid < length (bids_of problem member))
asked_there problem member goal lens asked same bid e =
    let is = asked_is problem member lens goal.grant bid (sym same ∙ e) in
    subst (λ (n : ℕ). n < length (bids_of problem member)) is.same (there (bids_of problem member) is.ref.bid is.trackable)

-- the terms of a plain lens are the member's window, the rules' days off, and the goal
pub record ArePlain (problem : Problem) (member : ℕ) (goal : Goal) (lens : Lens) (terms : Terms) : Type 0 where
  pub low : terms.low ≡ low_of problem member
  pub high : terms.high ≡ high_of problem member
  pub days_off : terms.days_off ≡ (if lens.days then problem.base.rules.days_off else 0)
  pub floor : terms.floor ≡ floor_of goal member
  pub asked : terms.asked ≡ asked_bid problem member goal lens
  pub counted : terms.counted ≡ 0

-- where nothing is counted, no bid is
pub none_counted : (terms : Terms) → terms.counted ≡ 0 → (bid : ℕ) → is_counted terms bid ≡ false
none_counted terms none bid = ap (λ (n : ℕ). n == 1) (ap (λ (m : ℕ). bit_at m bid) none ∙ bit_at-zero bid)

module _ (problem : Problem) (member : ℕ) (goal : Goal) (node : List Decision) (lens : Lens) (shape : IsLens problem member lens) (plain : lens.whole ≡ false) (terms : Terms) (are : ArePlain problem member goal lens terms) (line : List ℕ) where
  same_counted : term_score problem member lens line ≡ score_before problem member lens line
  unfolding term_score score_before
  same_counted = refl

  pub to_terms : IsLensLineBefore problem member goal node lens line → IsTermLine problem member node lens terms line
  to_terms is = record {
    ascending = is.ascending;
    in_range = is.in_range;
    obeys = is.obeys;
    apart = is.apart;
    rested = is.rested;
    least_credit = let e = are.low in let least = is.least_credit in omega (arith, e, least);
    most_credit = let e = are.high in let most = is.most_credit in omega (arith, e, most);
    floor =
        let e = are.floor in
        let same = same_counted in
        let f = floor_at (slice_get goal.floors member) (score_before problem member lens line) is.floor in
        omega (arith, e, same, f);
    grant = λ bid e t.
        let asked = asked_is problem member lens goal.grant bid (sym are.asked ∙ e) in
        subst (λ (n : ℕ). is_granted problem member n line ≡ true) asked.same (is.grant asked.ref asked.there asked.mine asked.tracked);
    counts = λ bid h. absurd (false≢true (sym (none_counted terms are.counted bid) ∙ h));
    free = is.free;
    nights = is.nights;
    enough_days_off = λ on.
        let e = are.days_off in
        let same = base_is lens.days problem.base.rules.days_off on in
        let days = is.enough_days_off on in
        omega (arith, e, same, days);
    windows = is.windows;
  }

  pub of_terms : IsTermLine problem member node lens terms line → IsLensLineBefore problem member goal node lens line
  of_terms is = record {
    ascending = is.ascending;
    in_range = is.in_range;
    obeys = is.obeys;
    apart = is.apart;
    rested = is.rested;
    least_credit = let e = are.low in let least = is.least_credit in omega (arith, e, least);
    most_credit = let e = are.high in let most = is.most_credit in omega (arith, e, most);
    floor = λ f e.
        let floor = are.floor in
        let same = same_counted in
        let f_is = floor_is (slice_get goal.floors member) f e in
        let h = is.floor in
        omega (arith, floor, same, f_is, h);
    grant = λ b e mine t.
        is.grant b.bid (are.asked ∙ asks_own problem member lens goal.grant b e mine t (trackable problem member goal node lens shape plain line b.bid t)) t;
    free = is.free;
    nights = is.nights;
    enough_days_off = λ on.
        let e = are.days_off in
        let same = base_is lens.days problem.base.rules.days_off on in
        let days = is.enough_days_off on in
        omega (arith, e, same, days);
    windows = is.windows;
  }

-- the lines of a plain lens are those that keep its terms
pub plain_same : (problem : Problem) (member : ℕ) (goal : Goal) (lens : Lens) → IsLens problem member lens → lens.whole ≡ false
    → (terms : Terms) → ArePlain problem member goal lens terms → (node : List Decision) (line : List ℕ)
    → IsLensLine problem member goal node lens line ↔ IsTermLine problem member node lens terms line
plain_same problem member goal lens shape plain terms are node line =
    let both = passes_as_before problem member goal node lens shape plain in (
      λ is. to_terms problem member goal node lens shape plain terms are line (both.before line is),
      λ is. both.since line (of_terms problem member goal node lens shape plain terms are line is),
    )
