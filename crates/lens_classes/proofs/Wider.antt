-- Terms that ask no more have the lines of those that ask more.
use Rattle.std.proofs.Common.{◌≡◌, ℕ, ◌≤◌, Bool, true, false, not, ◌||◌, List, ap, sym, subst, ◌∙◌, inl, inr, arith}
use Rattle.std.proofs.Math.Path.{fun_ext}
use Rattle.std.specs.Prelude.{All, nat_lt, sum_by, if◌then◌else◌}
use Rattle.std.specs.List.{enumerate_from}
use Rattle.std.proofs.lemmas.Bool.{cases_Bool}
use Rattle.std.proofs.lemmas.Bool.Decides.{nat_tests}
use Rattle.roster_model.proofs.Relaxation.{sum_by-le}
use Rattle.roster_model.specs.declared.problem.Problem.{Problem}
use Rattle.roster_model.specs.declared.bid.Bid.{Bid}
use Rattle.roster_model.specs.declared.node.Decision.{Decision}
use Rattle.roster_model.specs.declared.proof.Lens.{Lens}
use Rattle.roster_model.specs.declared.proof.Window.{Window}
use Rattle.roster_model.specs.Timelines.{events_of}
use Rattle.roster_model.specs.Scores.{bids_of, days_off, is_granting}
use Rattle.roster_model.specs.Lenses.{KeepsWindow, ceil_to, floor_to, is_tracked, rounded_credit}
use Rattle.lens_classes.specs.declared.terms.Terms.{Terms}
use Rattle.lens_classes.specs.TermLines.{IsTermLine, loose_weight, term_score}
use Rattle.lens_classes.specs.Classes.{IsClassLens}
use Rattle.lens_classes.specs.Laws.{IsWider}

module _ (problem : Problem) (member : ℕ) (node : List Decision) (lens first second : Lens) (wide terms : Terms) (line : List ℕ) (a : IsClassLens problem member lens wide.days_off first) (b : IsClassLens problem member lens terms.days_off second) (wider : IsWider problem member first wide terms) (is : IsTermLine problem member node second terms line) where
  same_score : term_score problem member second line ≡ term_score problem member first line
  unfolding term_score
  same_score =
      ap (λ (tracks : ℕ → Bool). sum_by (λ nb. if not (tracks nb.0) || is_granting problem member line nb.1.wish then nb.1.weight else 0) (enumerate_from 0 (bids_of problem member)))
      (fun_ext (λ bid. b.tracked bid ∙ sym (a.tracked bid)))

  part : (t g : Bool) (w : ℕ) → (if t then 0 else w) ≤ (if not t || g then w else 0)
  part true true w = omega arith
  part true false w = omega arith
  part false g w = omega arith

  loose_below : loose_weight problem member first ≤ term_score problem member first line
  unfolding loose_weight term_score
  loose_below =
      sum_by-le (λ (nb : ℕ × Bid). if is_tracked first nb.0 then 0 else nb.1.weight)
      (λ (nb : ℕ × Bid). if not (is_tracked first nb.0) || is_granting problem member line nb.1.wish then nb.1.weight else 0)
      (λ nb. part (is_tracked first nb.0) (is_granting problem member line nb.1.wish) nb.1.weight)
      (enumerate_from 0 (bids_of problem member))

  enough : wide.days_off ≤ days_off problem member line
  enough = let less = wider.days_off in elim (cases_Bool (nat_lt 0 terms.days_off)) [
    | inl some ↦ let days = is.enough_days_off (b.days ∙ some) in omega (arith, less, days)
    | inr none ↦ let z : terms.days_off ≤ 0 = grind (arith, nat_tests) in omega (arith, less, z)
  ]

  pub wider_passes : IsTermLine problem member node first wide line
  wider_passes =
      let grain : second.grain ≡ first.grain = b.grain ∙ sym a.grain in
      record {
        ascending = is.ascending;
        in_range = is.in_range;
        obeys = is.obeys;
        apart = is.apart;
        rested = is.rested;
        least_credit = subst (λ (g : ℕ). wide.low ≤ rounded_credit (ceil_to g) problem member line) grain (let low = wider.low in let up = is.least_credit in omega (arith, low, up));
        most_credit = subst (λ (g : ℕ). rounded_credit (floor_to g) problem member line ≤ wide.high) grain (let high = wider.high in let down = is.most_credit in omega (arith, high, down));
        floor = let f = wider.floor in let g = is.floor in let same = same_score in let loose = loose_below in omega (arith, f, g, same, loose);
        grant = λ bid e t. is.grant bid (sym wider.asked ∙ e) (b.tracked bid ∙ sym (a.tracked bid) ∙ t);
        counts = λ bid h. is.counts bid (wider.counted bid h);
        free = λ on. is.free (b.free30 ∙ sym a.free30 ∙ on);
        nights = λ on. is.nights (b.free30 ∙ sym a.free30 ∙ on);
        enough_days_off = λ on. enough;
        windows = subst (λ (ws : List Window). All (KeepsWindow (events_of problem member line)) ws) (b.windows ∙ sym a.windows) is.windows;
      }
