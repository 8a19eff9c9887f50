-- Classes that ask more than others and gain nothing: terms that ask no more have their lines.
use Rattle.std.proofs.Common.{◌≡◌, ℕ, ◌<◌, ◌≤◌, Bool, true, false, not, ◌&&◌, ◌+◌, refl, ap, sym, ◌∙◌, subst, arith}
use Rattle.std.specs.Prelude.{bit_and, max, nat_lt, sum_by, if◌then◌else◌}
use Rattle.std.specs.Int.{bit_at}
use Rattle.std.specs.List.{enumerate_from}
use Rattle.std.proofs.Math.Path.{fun_ext}
use Rattle.std.proofs.lemmas.Bool.{false≢true}
use Rattle.std.proofs.lemmas.Bool.Decides.{nat_tests}
use Rattle.std.proofs.lemmas.Nat.Bits.{bit_at-lt, bit_at_and}
use Rattle.roster_model.specs.declared.bid.Wish.{Wish}
use Rattle.roster_model.specs.declared.bid.Wish.TheVariants.{Fly, Avoid, Prefer, Off, CreditBelow, CreditAbove, DaysOff}
use Rattle.roster_model.specs.declared.goal.Goal.{Goal}
use Rattle.roster_model.specs.declared.problem.Problem.{Problem}
use Rattle.roster_model.specs.declared.proof.Lens.{Lens}
use Rattle.roster_model.specs.Legality.{high_of}
use Rattle.roster_model.specs.Lenses.{is_tracked}
use Rattle.roster_model.specs.Scores.{bids_of}
use Rattle.lens_classes.specs.Classes.{IsClass, IsClassLens, IsImplied, IsTerms, beyond_for, class_beyond, is_in}
use Rattle.lens_classes.specs.Laws.{IsWider}
use Rattle.lens_classes.specs.TermLines.{loose_weight}
use Rattle.lens_classes.specs.declared.terms.Terms.{Terms}
use Rattle.lens_classes.proofs.Wider.{wider_passes}
use Rattle.line_generator.specs.ClassLines.{HasLinesOf, IsImpliedBy, IsSpared, KeepsImplied, spread}

-- a number that has all its bits in common with another
pub in_both : (a b bid : ℕ) → bit_and a b ≡ a → is_in a bid ≡ true → is_in b bid ≡ true
in_both a b bid same here =
    let both = bit_at_and a b bid in
    let at : bit_at (bit_and a b) bid ≡ bit_at a bid = ap (λ (n : ℕ). bit_at n bid) same in
    let one : bit_at a bid ≡ 1 = grind (arith, nat_tests) in
    let small = bit_at-lt b bid in
    let other : bit_at b bid ≡ 1 = omega (arith, both, at, one, small) in
    grind (arith, nat_tests)

-- a tracked bid that a set leaves out
pub left_parts : (t g : Bool) → (t && not g) ≡ true → (t ≡ true) × (g ≡ false)
left_parts true false e = (refl, refl)
left_parts true true e = absurd (false≢true e)
left_parts false g e = absurd (false≢true e)

pub none_lost : (b : Bool) → not b ≡ true → b ≡ false
none_lost true e = absurd (false≢true e)
none_lost false e = refl

-- what is implied by a class is implied by its terms
beyond_by : (wish : Wish) (high base class_base beyond : ℕ) → high + 1 ≡ beyond → beyond ≤ beyond_for class_base wish → high < base → high < beyond_for base wish
beyond_by (Fly p) high base class_base beyond e le less = less
beyond_by (Avoid f) high base class_base beyond e le less = less
beyond_by (Prefer n f) high base class_base beyond e le less = less
beyond_by (Off first last) high base class_base beyond e le less = less
beyond_by (CreditBelow m) high base class_base beyond e le less = omega (arith, e, le)
beyond_by (CreditAbove m) high base class_base beyond e le less = less
beyond_by (DaysOff n) high base class_base beyond e le less = less

implied_by : (problem : Problem) (member : ℕ) (goal : Goal) (lens : Lens) (granted : ℕ → Bool) (terms : Terms) (wish : Wish)
    → IsTerms problem member goal lens granted terms → IsImplied problem member lens granted wish → IsImpliedBy wish terms
implied_by problem member goal lens granted terms wish ts is =
    let low = is.low in
    let low_is = ts.low in
    let days = is.days in
    let days_is = ts.days_off in
    record {
      whole = is.whole;
      single = is.single;
      low = omega (arith, low, low_is);
      beyond = λ base less. beyond_by wish terms.high base (high_of problem member + 1) (class_beyond problem member lens granted) ts.high is.beyond less;
      days = omega (arith, days, days_is);
    }

-- what is not tracked weighs the same by each lens that tracks the same
same_loose : (problem : Problem) (member : ℕ) (first second : Lens) → ((bid : ℕ) → is_tracked first bid ≡ is_tracked second bid)
    → loose_weight problem member first ≡ loose_weight problem member second
unfolding loose_weight
same_loose problem member first second same =
    ap (λ (tracks : ℕ → Bool). sum_by (λ nb. if tracks nb.0 then 0 else nb.1.weight) (enumerate_from 0 (bids_of problem member))) (fun_ext same)

module _ (problem : Problem) (member : ℕ) (goal : Goal) (lens narrow : Lens) (first second : ℕ → Bool) (wide terms : Terms)
    (class : IsClass problem member goal lens first) (wide_is : IsTerms problem member goal lens first wide)
    (kept : KeepsImplied problem member lens first wide) (terms_is : IsTerms problem member goal lens second terms)
    (narrow_is : IsClassLens problem member lens 0 narrow) (wider : IsWider problem member narrow wide terms) where
  -- the lens of the class that asks more
  abbrev own : Lens
  own = record { grain = narrow.grain; tracked = narrow.tracked; free30 = narrow.free30; days = nat_lt 0 terms.days_off; whole = narrow.whole; windows = narrow.windows }

  is_own : IsClassLens problem member lens terms.days_off own
  is_own = record {
    grain = narrow_is.grain;
    tracked = narrow_is.tracked;
    free30 = narrow_is.free30;
    days = refl;
    whole = narrow_is.whole;
    windows = narrow_is.windows;
  }

  wider_of : (t : Terms) (l : Lens) → IsTerms problem member goal lens first t → IsClassLens problem member lens t.days_off l → IsWider problem member l t terms
  wider_of t l t_is l_is =
      let low = wider.low in
      let low_of_wide = wide_is.low in
      let low_of_t = t_is.low in
      let high = wider.high in
      let high_of_wide = wide_is.high in
      let high_of_t = t_is.high in
      let days = wider.days_off in
      let days_of_wide = wide_is.days_off in
      let days_of_t = t_is.days_off in
      let floor : t.floor ≡ wide.floor = t_is.floor ∙ sym wide_is.floor in
      let loose = same_loose problem member narrow l (λ bid. narrow_is.tracked bid ∙ sym (l_is.tracked bid)) in
      record {
        low = omega (arith, low, low_of_wide, low_of_t);
        high = omega (arith, high, high_of_wide, high_of_t);
        days_off = omega (arith, days, days_of_wide, days_of_t);
        floor = subst (λ (w : ℕ). t.floor ≤ max terms.floor w) loose (subst (λ (f : ℕ). f ≤ max terms.floor (loose_weight problem member narrow)) (sym floor) wider.floor);
        asked = t_is.asked ∙ sym wide_is.asked ∙ wider.asked;
        counted = λ bid h. wider.counted bid (wide_is.counted bid ∙ sym (t_is.counted bid) ∙ h);
      }

  pub lines_of : HasLinesOf problem member goal lens first second
  lines_of node line is = record {
    is = class;
    closed = λ bid b there tracked implied. kept bid b there tracked (implied_by problem member goal lens first wide b.wish wide_is implied);
    keeps = λ t l t_is l_is. wider_passes problem member node lens l own t terms line l_is is_own (wider_of t l t_is l_is) (is.keeps terms own terms_is is_own);
  }

-- the same sets have the same lines
pub lines_at : (problem : Problem) (member : ℕ) (goal : Goal) (lens : Lens) (bids less number granted : ℕ) → less < number
    → ((bid : ℕ) → is_in granted bid ≡ spread (is_in bids) less bid) → HasLinesOf problem member goal lens (is_in granted) (spread (is_in bids) number)
    → IsSpared problem member goal lens (is_in bids) number
lines_at problem member goal lens bids less number granted below are lines = record {
  less = less;
  below = below;
  lines = subst (λ (set : ℕ → Bool). HasLinesOf problem member goal lens set (spread (is_in bids) number)) (fun_ext are) lines;
}

-- terms of a set by its bits are those of the set
pub terms_at : (problem : Problem) (member : ℕ) (goal : Goal) (lens : Lens) (bids number granted : ℕ) (terms : Terms)
    → ((bid : ℕ) → is_in granted bid ≡ spread (is_in bids) number bid) → IsTerms problem member goal lens (is_in granted) terms
    → IsTerms problem member goal lens (spread (is_in bids) number) terms
terms_at problem member goal lens bids number granted terms are is = subst (λ (set : ℕ → Bool). IsTerms problem member goal lens set terms) (fun_ext are) is
