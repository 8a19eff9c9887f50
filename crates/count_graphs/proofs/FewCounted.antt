-- What terms of classes count: bids of the lens that only a whole line decides.
use Rattle.std.proofs.Common.{◌≡◌, ℕ, zero, suc, ◌+◌, ◌≤◌, Bool, true, false, cond, Option, Some, None, refl, ap, sym, ◌∙◌, arith}
use Rattle.std.specs.Prelude.{slice_get}
use Rattle.std.specs.Option.{option_map_or}
use Rattle.std.proofs.lemmas.Bool.{and_parts, and_from, false≢true}
use Rattle.duty_calendar.specs.Minutes.{count_between}
use Rattle.duty_calendar.proofs.Counting.{count_between-none, count_between-one}
use Rattle.roster_model.specs.declared.bid.Bid.{Bid}
use Rattle.roster_model.specs.declared.bid.Wish.{Wish}
use Rattle.roster_model.specs.declared.bid.Wish.TheVariants.{Fly, Avoid, Prefer, Off, CreditBelow, CreditAbove, DaysOff}
use Rattle.roster_model.specs.declared.goal.Goal.{Goal}
use Rattle.roster_model.specs.declared.problem.Problem.{Problem}
use Rattle.roster_model.specs.declared.proof.Lens.{Lens}
use Rattle.roster_model.specs.Lenses.{has_whole, is_tracked, is_whole, is_whole_tracked}
use Rattle.roster_model.specs.Scores.{bids_of}
use Rattle.lens_classes.specs.Classes.{IsTerms, asks, has_counting, is_counting}
use Rattle.lens_classes.specs.TermLines.{is_counted}
use Rattle.lens_classes.specs.declared.terms.Terms.{Terms}
use Rattle.lens_classes.proofs.Plain.{none_counted}
use Rattle.count_graphs.specs.Counts.{AreCounted}

-- fewer pass a test that asks more
fewer : (f g : ℕ → Bool) → ((n : ℕ) → f n ≡ true → g n ≡ true) → (k : ℕ) → count_between f 0 k ≤ count_between g 0 k
fewer f g more zero = let e = count_between-none f 0 in omega (arith, e)
fewer f g more (suc k) =
    let rest = fewer f g more k in
    let one = count_between-one f 0 k (omega arith) in
    let two = count_between-one g 0 k (omega arith) in
    let here = less (f k) (g k) (more k) in
    let a : count_between f 0 (suc k) ≡ count_between f 0 (k + 1) = ap (count_between f 0) (omega arith) in
    let b : count_between g 0 (suc k) ≡ count_between g 0 (k + 1) = ap (count_between g 0) (omega arith) in
    omega (arith, rest, one, two, here, a, b)
  where
    less : (a b : Bool) → (a ≡ true → b ≡ true) → cond a 1 0 ≤ cond b 1 0
    less true b h = let e : ◌≡◌ {A = ℕ} (cond b 1 0) 1 = ap (λ (x : Bool). cond x 1 0) (h refl) in omega (arith, e)
    less false b h = omega arith

wish_whole : (wish : Wish) → is_counting wish ≡ true → is_whole wish ≡ true
wish_whole (Fly p) h = cc
wish_whole (Avoid f) h = cc
wish_whole (Prefer n f) h = h
wish_whole (Off first last) h = cc
wish_whole (CreditBelow m) h = cc
wish_whole (CreditAbove m) h = cc
wish_whole (DaysOff n) h = cc

bid_whole : (o : Option Bid) → option_map_or (λ (b : Bid). is_counting b.wish) o false ≡ true → option_map_or (λ (b : Bid). is_whole b.wish) o false ≡ true
bid_whole None h = cc
bid_whole (Some b) h = wish_whole b.wish h

pub class_counts : (problem : Problem) (member : ℕ) (goal : Goal) (lens : Lens) (granted : ℕ → Bool) (terms : Terms)
    → ((bids : ℕ) → count_between (is_whole_tracked problem member lens) 0 bids ≤ 6) → IsTerms problem member goal lens granted terms → AreCounted problem member terms
class_counts problem member goal lens granted terms few are = record {
  counting = λ bid h. (parts bid h).1;
  few =
      let most = few 64 in
      let less = fewer (is_counted terms) (is_whole_tracked problem member lens)
      (λ bid h.
      let both = parts bid h in
      and_from (is_tracked lens bid) (has_whole problem member bid) (and_parts (is_tracked lens bid) (granted bid) both.0).0
      (bid_whole (slice_get (bids_of problem member) bid) both.1)) 64 in
      omega (arith, most, less);
}
  where
    parts : (bid : ℕ) → is_counted terms bid ≡ true → (asks lens granted bid ≡ true) × (has_counting problem member bid ≡ true)
    parts bid h = and_parts (asks lens granted bid) (has_counting problem member bid) (sym (are.counted bid) ∙ h)

-- terms that count nothing
pub nothing_counted : (problem : Problem) (member : ℕ) (terms : Terms) → terms.counted ≡ 0 → AreCounted problem member terms
nothing_counted problem member terms none = record {
  counting = λ bid h. absurd (false≢true (sym (none_counted terms none bid) ∙ h));
  few = let less = fewer (is_counted terms) (λ n. false) (λ n h. sym (none_counted terms none n) ∙ h) 64 in let zero_is = no_false 64 in omega (arith, less, zero_is);
}
  where
    no_false : (k : ℕ) → count_between (λ n. false) 0 k ≡ 0
    no_false zero = count_between-none (λ n. false) 0
    no_false (suc k) =
        let rest = no_false k in
        let one = count_between-one (λ n. false) 0 k (omega arith) in
        let a : count_between (λ n. false) 0 (suc k) ≡ count_between (λ n. false) 0 (k + 1) = ap (count_between (λ n. false) 0) (omega arith) in
        omega (arith, rest, one, a)
