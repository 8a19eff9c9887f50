-- Answers that stay right: a line passes a lens at each goal that asks the same of its member.
use Rattle.std.proofs.Common.{◌≡◌, ℕ, List, [], ◌++◌, ◌∷◌, ◌≤◌, Option, None, Some, Result, Ok, Err, length, get_or, refl, sym, ap, subst, ◌∙◌}
use Rattle.std.specs.Prelude.{ℤ, All, Contains, IfNone, IfSome, OnErr, OnOk, slice_get, slice_set}
use Rattle.std.specs.Option.{ForSome}
use Rattle.std.proofs.lemmas.Option.{IfSome_then, same_Some, slice_get_read, slice_get_within}
use Rattle.std.proofs.lemmas.List.Elements.{All-contains, All-nil, All-push, All-same, All-set}
use Rattle.roster_model.specs.declared.problem.Problem.{Problem}
use Rattle.roster_model.specs.declared.goal.Goal.{Goal}
use Rattle.roster_model.specs.declared.node.Decision.{Decision}
use Rattle.roster_model.specs.declared.proof.Lens.{Lens}
use Rattle.roster_model.specs.Lenses.{HasNoLine, IsBestWeight, IsLensLine, lens_score}
use Rattle.cert_checker.specs.declared.recall.Answer.{Answer}
use Rattle.cert_checker.specs.declared.recall.Sheet.{Sheet}
use Rattle.cert_checker.specs.Bests.{IsWithin}
use Rattle.cert_checker.proofs.Shapes.{all_at}
use Rattle.cert_checker.specs.Recalls.{AsksAlone, IsRightAnswer, IsRightSheet, IsSheetOf, answer_of}

-- a line that passes at a goal passes at each goal that asks the same floor of the member alone
line_moved : (problem : Problem) (member : ℕ) (least : Option ℕ) (lens : Lens) (line : List ℕ) (a b : Goal)
    → AsksAlone a member least → AsksAlone b member least → IsLensLine problem member a [] lens line → IsLensLine problem member b [] lens line
line_moved problem member least lens line a b here there is = record {
  ascending = is.ascending;
  in_range = is.in_range;
  obeys = is.obeys;
  apart = is.apart;
  rested = is.rested;
  credit = is.credit;
  least_credit = is.least_credit;
  most_credit = is.most_credit;
  rounded_down = is.rounded_down;
  rounded_up = is.rounded_up;
  floor =
      subst (λ (o : Option ℕ). ForSome o (λ floor. floor ≤ lens_score problem member lens is.credit line))
      (here.same_floor ∙ sym there.same_floor) is.floor;
  grant = λ bid at same. absurd (there.no_bid bid at same);
  free = is.free;
  nights = is.nights;
  enough_days_off = is.enough_days_off;
  windows = is.windows;
}

-- so what is true of all lines there is true here
best_moved : (problem : Problem) (member : ℕ) (least : Option ℕ) (lens : Lens) (weights : List ℤ) (best : ℤ) (a b : Goal)
    → AsksAlone a member least → AsksAlone b member least → IsBestWeight problem member a [] lens weights best → IsBestWeight problem member b [] lens weights best
best_moved problem member least lens weights best a b here there is = record {
  attained = (is.attained.0, line_moved problem member least lens is.attained.0 a b here there is.attained.1, is.attained.2);
  most = λ line passes. is.most line (line_moved problem member least lens line b a there here passes);
}

none_moved : (problem : Problem) (member : ℕ) (least : Option ℕ) (lens : Lens) (best : Option ℤ) (a b : Goal)
    → AsksAlone a member least → AsksAlone b member least → IfNone best (HasNoLine problem member a [] lens) → IfNone best (HasNoLine problem member b [] lens)
none_moved problem member least lens None a b here there is = λ line passes. is line (line_moved problem member least lens line b a there here passes)
none_moved problem member least lens (Some best) a b here there is = is

-- what is found at a goal is right at each that asks the same
pub answer_right : (problem : Problem) (weights : List ℤ) (member : ℕ) (least least' : Option ℕ) (lens lens' : Lens) (best : Option ℤ) (goal : Goal) (node : List Decision)
    → node ≡ [] → least' ≡ least → lens' ≡ lens → AsksAlone goal member least → IfSome best (IsBestWeight problem member goal node lens weights) → IfSome best (IsWithin 1288490188200)
    → IfNone best (HasNoLine problem member goal node lens) → IsRightAnswer problem weights (answer_of member least' lens' best)
answer_right problem weights member least least' lens lens' best goal node empty same copied asks is within none =
    let here = subst (λ (o : Option ℕ). AsksAlone goal member o) (sym same) asks in
    let best_here = subst (λ (ds : List Decision). IfSome best (IsBestWeight problem member goal ds lens weights)) empty is in
    let none_here = subst (λ (ds : List Decision). IfNone best (HasNoLine problem member goal ds lens)) empty none in
    subst (λ (l : Lens). IsRightAnswer problem weights (answer_of member least' l best)) (sym copied)
    (record {
      at = λ other asked. record {
        best = IfSome_then best best_here (λ x. best_moved problem member least' lens weights x goal other here asked);
        within = within;
        none = none_moved problem member least' lens best goal other here asked none_here;
      };
    })

-- and what is right there serves here
pub right_best : (problem : Problem) (weights : List ℤ) (member : ℕ) (least least' : Option ℕ) (lens : Lens) (best : Option ℤ) (goal : Goal) (node : List Decision)
    → node ≡ [] → least' ≡ least → AsksAlone goal member least → IsRightAnswer problem weights (answer_of member least' lens best)
    → IfSome best (IsBestWeight problem member goal node lens weights)
right_best problem weights member least least' lens best goal node empty same asks right =
    subst (λ (ds : List Decision). IfSome best (IsBestWeight problem member goal ds lens weights)) (sym empty)
    (right.at goal (subst (λ (o : Option ℕ). AsksAlone goal member o) (sym same) asks)).best

pub right_within : (problem : Problem) (weights : List ℤ) (member : ℕ) (least least' : Option ℕ) (lens : Lens) (best : Option ℤ) (goal : Goal)
    → least' ≡ least → AsksAlone goal member least → IsRightAnswer problem weights (answer_of member least' lens best) → IfSome best (IsWithin 1288490188200)
right_within problem weights member least least' lens best goal same asks right =
    (right.at goal (subst (λ (o : Option ℕ). AsksAlone goal member o) (sym same) asks)).within

pub right_none : (problem : Problem) (weights : List ℤ) (member : ℕ) (least least' : Option ℕ) (lens : Lens) (best : Option ℤ) (goal : Goal) (node : List Decision)
    → node ≡ [] → least' ≡ least → AsksAlone goal member least → IsRightAnswer problem weights (answer_of member least' lens best)
    → IfNone best (HasNoLine problem member goal node lens)
right_none problem weights member least least' lens best goal node empty same asks right =
    subst (λ (ds : List Decision). IfNone best (HasNoLine problem member goal ds lens)) (sym empty)
    (right.at goal (subst (λ (o : Option ℕ). AsksAlone goal member o) (sym same) asks)).none

-- one more, where it was appended
pub pushed : {X : Type 0} (P : X → Type 0) (xs new : List X) (x : X) (r : Result (Unit {0}) X) → OnOk r (new ≡ xs ++ x ∷ []) → OnErr r (new ≡ xs) → All P xs → P x → All P new
pushed P xs new x (Ok done) ok err all one = All-same P new (xs ++ x ∷ []) ok (All-push P xs x all one)
pushed P xs new x (Err back) ok err all one = All-same P new xs err all

-- a sheet of one answer
pub sheet_right : (problem : Problem) (weights weights' : List ℤ) (none answers : List Answer) (answer : Answer) → none ≡ [] → weights' ≡ weights
    → ((month : Problem) (ys : List ℤ) → All (IsRightAnswer month ys) none → IsRightAnswer month ys answer → All (IsRightAnswer month ys) answers)
    → IsRightAnswer problem weights answer → IsRightSheet problem (record { weights = weights'; answers = answers })
sheet_right problem weights weights' none answers answer empty same adds one = record {
  each = adds problem weights' (All-same (IsRightAnswer problem weights') none [] empty (All-nil (IsRightAnswer problem weights')))
      (subst (λ (ys : List ℤ). IsRightAnswer problem ys answer) (sym same) one);
}

-- a sheet that is read is right
sheet_at : (problem : Problem) (sheets : List Sheet) (weights : List ℤ) (place : ℕ) (sheet : Sheet) → All (IsRightSheet problem) sheets → IsSheetOf sheets weights place
    → slice_get sheets place ≡ Some sheet → (sheet.weights ≡ weights) × IsRightSheet problem sheet
sheet_at problem sheets weights place sheet all is here =
    let same : is.sheet ≡ sheet = same_Some is.sheet sheet (sym is.here ∙ here) in
    (sym (ap (λ (s : Sheet). s.weights) same) ∙ is.same_weights, all_at (IsRightSheet problem) sheets place sheet all here)

-- what is found on the sheet is right
pub found_right : (problem : Problem) (sheets : List Sheet) (weights : List ℤ) (place : ℕ) (sheet : Sheet) (answers : List Answer) (member : ℕ) (least : Option ℕ) (lens : Lens) (best : Option (Option ℤ))
    → IsSheetOf sheets weights place → sheet ≡ get_or sheets place sheet → answers ≡ sheet.answers
    → IfSome best (λ b. Contains answers (answer_of member least lens b)) → All (IsRightSheet problem) sheets
    → IfSome best (λ b. IsRightAnswer problem weights (answer_of member least lens b))
found_right problem sheets weights place sheet answers member least lens best is here same kept all =
    let at = sheet_at problem sheets weights place sheet all is (slice_get_read sheets (length sheets) place sheet refl (slice_get_within sheets place is.sheet is.here) here) in
    IfSome_then best kept (λ b has.
    subst (λ (ys : List ℤ). IsRightAnswer problem ys (answer_of member least lens b)) at.0
    (All-contains (IsRightAnswer problem sheet.weights) sheet.answers (answer_of member least lens b) at.1.each
    (subst (λ (xs : List Answer). Contains xs (answer_of member least lens b)) same has)))

-- an answer more on the sheet of its weights
pub sheet_kept : (problem : Problem) (sheets same : List Sheet) (weights : List ℤ) (place : ℕ) (sheet : Sheet) (answers : List Answer) (answer : Answer)
    → same ≡ sheets → IsSheetOf same weights place → slice_get sheets place ≡ Some sheet
    → ((month : Problem) (ys : List ℤ) → All (IsRightAnswer month ys) sheet.answers → IsRightAnswer month ys answer → All (IsRightAnswer month ys) answers)
    → All (IsRightSheet problem) sheets → IsRightAnswer problem weights answer
    → All (IsRightSheet problem) (slice_set sheets place (record { weights = sheet.weights; answers = answers }))
sheet_kept problem sheets same weights place sheet answers answer e is here adds all one =
    let at = sheet_at problem sheets weights place sheet all (subst (λ (xs : List Sheet). IsSheetOf xs weights place) e is) here in
    All-set (IsRightSheet problem) sheets place (record { weights = sheet.weights; answers = answers })
    (record { each = adds problem sheet.weights at.1.each (subst (λ (ys : List ℤ). IsRightAnswer problem ys answer) (sym at.0) one) }) all

-- where all is let go, nothing is wrong
pub none_right : (problem : Problem) (sheets : List Sheet) → sheets ≡ [] → All (IsRightSheet problem) sheets
none_right problem sheets e = All-same (IsRightSheet problem) sheets [] e (All-nil (IsRightSheet problem))
