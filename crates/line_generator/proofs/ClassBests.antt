-- The lines of a lens, by its classes: what holds of the weights of all classes holds of all lines.
use Rattle.std.proofs.Common.{◌≡◌, ℕ, ℤ, ◌+◌, ◌^◌, ◌<◌, ◌≤◌, ◌≤ℤ◌, Bool, ◌&&◌, ◌||◌, length, true, false, List, Option, Some, None, refl, ap, sym, ◌∙◌, subst, inl, inr, arith}
use Rattle.std.specs.Prelude.{All, IfNone, IfSome, int_lt, if◌then◌else◌}
use Rattle.std.specs.Int.Signed.{◌<ℤ◌}
use Rattle.std.proofs.Math.Path.{fun_ext}
use Rattle.std.proofs.lemmas.Bool.{and_parts, cases_lt, false≢true}
use Rattle.std.proofs.lemmas.Int.{ints}
use Rattle.duty_calendar.specs.Minutes.{count_between}
use Rattle.roster_model.specs.declared.problem.Problem.{Problem}
use Rattle.roster_model.specs.declared.goal.Goal.{Goal}
use Rattle.roster_model.specs.declared.node.Decision.{Decision}
use Rattle.roster_model.specs.declared.proof.Lens.{Lens}
use Rattle.roster_model.specs.declared.proof.Window.{Window}
use Rattle.roster_model.specs.Legality.{high_of}
use Rattle.roster_model.specs.Lenses.{HasNoLine, IsLens, IsLensLine, IsMostWeight, IsWindow, has_trackable, is_grain, is_tracked, is_whole_tracked, may_track}
use Rattle.roster_model.specs.Weights.{weight_of}
use Rattle.lens_classes.specs.Classes.{IsClassLens, IsTerms, is_in}
use Rattle.lens_classes.specs.TermLines.{AreTermsOf, IsTermLine}
use Rattle.lens_classes.specs.declared.terms.Terms.{Terms}
use Rattle.lens_classes.specs.Laws.{IsInClass}
use Rattle.lens_classes.proofs.ClassLines.{passes_by_classes}
use Rattle.count_graphs.proofs.FewCounted.{class_counts}
use Rattle.line_generator.specs.declared.classes.Class.{Class}
use Rattle.term_lines.specs.declared.priced.PricedLine.{PricedLine}
use Rattle.line_generator.specs.ClassLines.{AllBelow, AllOfClass, AtMost, IsClassLine, IsClassOf, IsSpared, LosesImplied, heavier, spread}
use Rattle.term_lines.specs.Overs.{HasNone, IsMost}
use Rattle.term_lines.specs.Questions.{IsTermQuestionOf}
use Rattle.line_generator.specs.Questions.{IsQuestionOf}
use Rattle.line_generator.proofs.BidSets.{not_in, number_of, number_small, set_met}

or_first : (a b : Bool) → a ≡ true → (a || b) ≡ true
or_first true b e = refl
or_first false b e = cc

-- the lens of a class has the shape
pub class_shape : (problem : Problem) (member : ℕ) (lens narrow : Lens) (days : ℕ) → IsClassLens problem member lens days narrow → IsLens problem member lens → IsLens problem member narrow
class_shape problem member lens narrow days is shape = record {
  trackable = λ bid t. tracks bid (sym (is.tracked bid) ∙ t);
  few_windows = subst (λ (ws : List Window). length ws ≤ 16) (sym is.windows) shape.few_windows;
  windows = subst (λ (ws : List Window). All (IsWindow problem) ws) (sym is.windows) shape.windows;
  grain = ap is_grain is.grain ∙ shape.grain;
} where
  tracks : (bid : ℕ) → (is_tracked lens bid && has_trackable problem member bid) ≡ true → may_track problem member narrow bid ≡ true
  tracks bid both = or_first (has_trackable problem member bid) _ (and_parts (is_tracked lens bid) (has_trackable problem member bid) both).1

module _ (problem : Problem) (member : ℕ) (goal : Goal) (node : List Decision) (lens : Lens) (weights : List ℤ) where
  -- a line that keeps the terms of a class by its lens passes, and the lines of the class keep them
  pub class_passes : (granted : ℕ → Bool) (class : Class) (line : List ℕ) → IsLens problem member lens → IsClassOf problem member goal lens granted class
      → IsTermLine problem member node class.lens class.terms line → IsLensLine problem member goal node lens line
  class_passes granted class line shape of keeps =
      (passes_by_classes problem member goal node lens shape).each granted class.terms class.lens line of.is of.are_terms of.is_lens keeps

  pub class_keeps : (granted : ℕ → Bool) (class : Class) (line : List ℕ) → IsClassOf problem member goal lens granted class
      → IsClassLine problem member goal node lens granted line → IsTermLine problem member node class.lens class.terms line
  class_keeps granted class line of is = is.keeps class.terms class.lens of.are_terms of.is_lens

  -- what the search for the best line of a class is asked
  pub term_question : (granted : ℕ → Bool) (class : Class) → IsQuestionOf problem member goal node lens weights → IsClassOf problem member goal lens granted class
      → IsTermQuestionOf problem member node class.lens class.terms weights
  term_question granted class asked of = record {
    in_range = asked.in_range;
    fits = of.fits;
    counted = class_counts problem member goal lens granted class.terms (passes_by_classes problem member goal node lens asked.shape).few of.are_terms;
    decisions = asked.decisions;
    shape = of.shape asked.shape;
    plain = of.is_lens.whole;
    per_pairing = asked.per_pairing;
    small = asked.small;
  }

  -- what a best line of the class says of all its lines
  pub most_of_class : (granted : ℕ → Bool) (answer : Option PricedLine)
      → IfSome answer (λ b. IsMost (IsClassLine problem member goal node lens granted) weights b.weight)
      → IfNone answer (HasNone (IsClassLine problem member goal node lens granted))
      → AllOfClass problem member goal node lens weights granted (AtMost answer)
  most_of_class granted None most none = none
  most_of_class granted (Some b) most none = most

  -- a set that leaves out what its terms imply is no class's
  pub loses_none : (granted : ℕ → Bool) (terms : Terms) → IsTerms problem member goal lens granted terms → AreTermsOf problem member terms
      → LosesImplied problem member lens granted terms → (line : List ℕ) → IsClassLine problem member goal node lens granted line → ⊥
  loses_none granted terms ts fits loses line is =
      let low = loses.implied.low in
      let low_is = ts.low in
      let high = fits.high in
      let beyond = loses.implied.beyond (high_of problem member + 1) (omega (arith, high)) in
      let beyond_is = ts.high in
      let days = loses.implied.days in
      let days_is = ts.days_off in
      let yes : granted loses.bid ≡ true = is.closed loses.bid loses.lost loses.there loses.tracked (record {
        whole = loses.implied.whole;
        single = loses.implied.single;
        low = omega (arith, low, low_is);
        beyond = omega (arith, beyond, beyond_is);
        days = omega (arith, days, days_is);
      }) in
      false≢true (sym loses.left ∙ yes)

  -- few bids tell classes apart
  pub few_whole : (bids : ℕ) → IsLens problem member lens → ((bid : ℕ) → is_in bids bid ≡ is_whole_tracked problem member lens bid) → count_between (is_in bids) 0 64 ≤ 8
  few_whole bids shape are =
      let same : is_in bids ≡ is_whole_tracked problem member lens = fun_ext are in
      let few : count_between (is_in bids) 0 64 ≤ 6 = subst (λ (test : ℕ → Bool). count_between test 0 64 ≤ 6) (sym same) ((passes_by_classes problem member goal node lens shape).few 64) in
      omega (arith, few)

  module _ (bids : ℕ) where
    pub below_none : (P : ℤ → Type 0) → AllBelow problem member goal node lens weights (is_in bids) 0 P
    below_none P = λ number less. absurd (omega (arith, less))

    pub below_more : (n granted : ℕ) (P Q R : ℤ → Type 0) → ((z : ℤ) → P z → R z) → ((z : ℤ) → Q z → R z) → ((bid : ℕ) → is_in granted bid ≡ spread (is_in bids) n bid)
        → AllBelow problem member goal node lens weights (is_in bids) n P → AllOfClass problem member goal node lens weights (is_in granted) Q
        → AllBelow problem member goal node lens weights (is_in bids) (n + 1) R
    below_more n granted P Q R first second are below here = λ number less line is. elim (cases_lt number n) [
      | inl low ↦ first (weight_of weights line) (below number low line is)
      | inr high ↦
          let e : number ≡ n = omega (arith, less, high) in
          let same : is_in granted ≡ spread (is_in bids) n = fun_ext are in
          let there : spread (is_in bids) number ≡ is_in granted = ap (λ (k : ℕ). spread (is_in bids) k) e ∙ sym same in
          second (weight_of weights line) (here line (subst (λ (test : ℕ → Bool). IsClassLine problem member goal node lens test line) there is))
    ]

    -- a class that another has all lines of adds nothing
    pub below_spared : (n : ℕ) (P : ℤ → Type 0) → IsSpared problem member goal lens (is_in bids) n
        → AllBelow problem member goal node lens weights (is_in bids) n P → AllBelow problem member goal node lens weights (is_in bids) (n + 1) P
    below_spared n P spared below = λ number less line is. elim (cases_lt number n) [
      | inl low ↦ below number low line is
      | inr high ↦
          let e : number ≡ n = omega (arith, less, high) in
          below spared.less spared.below line (spared.lines node line (subst (λ (k : ℕ). IsClassLine problem member goal node lens (spread (is_in bids) k) line) e is))
    ]

    -- what holds of all sets of the bids that only a whole line decides holds of all lines
    pub below_all : (n : ℕ) (P : ℤ → Type 0) → bids < 2 ^ 64 → 2 ^ count_between (is_in bids) 0 64 ≤ n
        → IsLens problem member lens → ((bid : ℕ) → is_in bids bid ≡ is_whole_tracked problem member lens bid)
        → AllBelow problem member goal node lens weights (is_in bids) n P
        → (line : List ℕ) → IsLensLine problem member goal node lens line → P (weight_of weights line)
    below_all n P small all shape are below = λ line is.
        let here : IsInClass problem member goal node lens line = (passes_by_classes problem member goal node lens shape).some line is in
        let number = number_of (is_in bids) (is_in here.granted) 64 in
        let less = number_small (is_in bids) (is_in here.granted) 64 in
        let same : is_in here.granted ≡ spread (is_in bids) number = set_met (is_in bids) (is_in here.granted) 64 (λ bid t. within bid t) (λ bid t. are bid ∙ here.only bid t) in
        below number (omega (arith, less, all)) line
        (subst (λ (test : ℕ → Bool). IsClassLine problem member goal node lens test line) same (record { is = here.class; closed = here.closed; keeps = here.keeps }))
      where
        within : (bid : ℕ) → is_in bids bid ≡ true → bid < 64
        within bid t = elim (cases_lt bid 64) [
          | inl low ↦ low
          | inr high ↦ absurd (let f = not_in bids bid small high in let e : true ≡ false = sym t ∙ f in cc)
        ]

    -- the best line of all
    pub most_of_all : (n : ℕ) (best : Option PricedLine) → bids < 2 ^ 64 → 2 ^ count_between (is_in bids) 0 64 ≤ n
        → IsLens problem member lens → ((bid : ℕ) → is_in bids bid ≡ is_whole_tracked problem member lens bid)
        → AllBelow problem member goal node lens weights (is_in bids) n (AtMost best)
        → IfSome best (λ b. IsMostWeight problem member goal node lens weights b.weight)
    most_of_all n None small all shape are below = tt
    most_of_all n (Some b) small all shape are below = below_all n (AtMost (Some b)) small all shape are below

    pub none_of_all : (n : ℕ) (best : Option PricedLine) → bids < 2 ^ 64 → 2 ^ count_between (is_in bids) 0 64 ≤ n
        → IsLens problem member lens → ((bid : ℕ) → is_in bids bid ≡ is_whole_tracked problem member lens bid)
        → AllBelow problem member goal node lens weights (is_in bids) n (AtMost best)
        → IfNone best (HasNoLine problem member goal node lens)
    none_of_all n None small all shape are below = below_all n (AtMost None) small all shape are below
    none_of_all n (Some b) small all shape are below = tt

-- the heavier of two lines is no lighter than each, and one of them
less_or : (a b z : ℤ) (t : Bool) → int_lt a b ≡ t → (z ≤ℤ a → z ≤ℤ (if t then b else a)) × (z ≤ℤ b → z ≤ℤ (if t then b else a))
less_or a b z true e = let lt : a <ℤ b = grind (arith, ints) in (λ le. omega (arith, ints, lt, le), λ le. le)
less_or a b z false e = (λ le. le, λ le. let ge : b ≤ℤ a = grind (arith, ints) in omega (arith, ints, ge, le))

picked : (P : PricedLine → Type 0) (t : Bool) (a b : PricedLine) → P a → P b → IfSome (if t then Some b else Some a) P
picked P true a b p q = q
picked P false a b p q = p

at_picked : (t : Bool) (a b : PricedLine) (z : ℤ) → z ≤ℤ (if t then b.weight else a.weight) → AtMost (if t then Some b else Some a) z
at_picked true a b z le = le
at_picked false a b z le = le

pub heavier_first : (first second : Option PricedLine) (z : ℤ) → AtMost first z → AtMost (heavier first second) z
heavier_first (Some a) (Some b) z le = at_picked (int_lt a.weight b.weight) a b z ((less_or a.weight b.weight z (int_lt a.weight b.weight) refl).0 le)
heavier_first (Some a) None z le = le
heavier_first None second z none = absurd none

pub heavier_second : (first second : Option PricedLine) (z : ℤ) → AtMost second z → AtMost (heavier first second) z
heavier_second (Some a) (Some b) z le = at_picked (int_lt a.weight b.weight) a b z ((less_or a.weight b.weight z (int_lt a.weight b.weight) refl).1 le)
heavier_second (Some a) None z none = absurd none
heavier_second None second z le = le

pub heavier_has : (P : PricedLine → Type 0) (first second : Option PricedLine) → IfSome first P → IfSome second P → IfSome (heavier first second) P
heavier_has P (Some a) (Some b) p q = picked P (int_lt a.weight b.weight) a b p q
heavier_has P (Some a) None p q = p
heavier_has P None second p q = q
