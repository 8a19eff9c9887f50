-- Small facts on answers, reads and walks.
use Rattle.std.proofs.Common.{◌≡◌, ℕ, ◌+◌, ◌<◌, ◌≤◌, Bool, true, false, List, [], ◌∷◌, length, get_or, take, sym, subst}
use Rattle.std.specs.Prelude.{OnOk, IfErr, IfSome, Result, Ok, Err, Option, Some, None, ℤ}
use Rattle.std.specs.Result.{IsErrAnd}
use Rattle.std.proofs.lemmas.Result.{err_from_is_err_and}
use Rattle.std.specs.Result.{is_err}
use Rattle.std.proofs.lemmas.List.{take_more, take_all}
use Rattle.roster_model.specs.declared.problem.Problem.{Problem}
use Rattle.roster_model.specs.declared.goal.Goal.{Goal}
use Rattle.roster_model.specs.declared.node.Decision.{Decision}
use Rattle.roster_model.specs.declared.proof.Item.{Item}
use Rattle.roster_model.specs.Decided.{nodes_behind, open_nodes}
use Rattle.roster_model.specs.Walk.{Leads}
use Rattle.roster_model.specs.declared.proof.Item.TheVariants.{Count, Fixed, NoLine, Weights}
use Rattle.roster_model.specs.declared.proof.Lens.{Lens}
use Rattle.roster_model.specs.Closing.{Closes, IsAccepted, IsMiscrewed, IsMisfit, IsLineless}
use Rattle.roster_model.specs.Lenses.{IsOutweighed}
use Rattle.roster_model.proofs.Walk.{Leads-append, Closes_walked}
use Rattle.term_lines.specs.Overs.{IfLine}
use Rattle.term_lines.specs.declared.above.Over.{Over}
use Rattle.term_lines.specs.declared.above.Over.TheVariants.{Line, Nothing, Limit}
use Rattle.term_lines.specs.declared.priced.PricedLine.{PricedLine}

-- what a call that did not fail ensures
pub ok_fact : {T E P : Type 0} (r : Result T E) → is_err r ≡ false → OnOk r P → P
ok_fact (Ok x) e h = h
ok_fact (Err y) e h = cc

-- what is said of the value that is there
pub some_at : {X : Type 0} (o : Option X) (x : X) (P : X → Type 0) → o ≡ Some x → IfSome o P → P x
some_at (Some y) x P e h = let same : y ≡ x = cc e in subst P same h
some_at None x P e h = absurd (cc e)

pub line_at : (o : Over) (x : PricedLine) (P : PricedLine → Type 0) → o ≡ Line x → IfLine o P → P x
line_at (Line y) x P e h = let same : y ≡ x = cc e in subst P same h
line_at Nothing x P e h = absurd (cc e)
line_at Limit x P e h = absurd (cc e)

-- what is said of the error that a call hands on
pub err_at : {T E : Type 0} (r : Result T E) (e : E) (P : E → Type 0) → IsErrAnd r (λ y. y ≡ e) → P e → IfErr r P
err_at r e P is h =
    let found = err_from_is_err_and r is in
    subst (λ (q : Result _ _). IfErr q P) (sym found.1) (subst P (sym found.2) h)

-- one item more
pub Leads-more : (problem : Problem) (goal : Goal) (start after : List (List Decision)) (items : List Item) (at : ℕ) (item : Item) (is_open : Bool) (node : List Decision)
    → at < length items → item ≡ get_or items at item → is_open ≡ true
    → Leads problem goal start (take at items) (open_nodes is_open node)
    → Leads problem goal (node ∷ nodes_behind node) (item ∷ []) after
    → Leads problem goal start (take (at + 1) items) after
Leads-more problem goal start after items at item is_open node lt is o f g =
    subst (λ (s : List Item). Leads problem goal start s after) (sym (take_more items at item lt))
    (Leads-append problem goal start (node ∷ nodes_behind node) after (take at items) (get_or items at item ∷ [])
    (subst (λ (b : Bool). Leads problem goal start (take at items) (open_nodes b node)) o f)
    (subst (λ (i : Item). Leads problem goal (node ∷ nodes_behind node) (i ∷ []) after) is g))

-- the walk over one leaf
pub count_leads : (problem : Problem) (goal : Goal) (node : List Decision) (behind after : List (List Decision)) (item : Item) (p : ℕ)
    → item ≡ Count p → IsMiscrewed problem node p → behind ≡ after → Leads problem goal (node ∷ behind) (item ∷ []) after
unfolding IsAccepted
count_leads problem goal node behind after item p is ok same =
    subst (λ (i : Item). Leads problem goal (node ∷ behind) (i ∷ []) after) (sym is) (ok, sym same)

pub fixed_leads : (problem : Problem) (goal : Goal) (node : List Decision) (behind after : List (List Decision)) (item : Item) (m : ℕ)
    → item ≡ Fixed m → IsMisfit problem goal node m → behind ≡ after → Leads problem goal (node ∷ behind) (item ∷ []) after
unfolding IsAccepted
fixed_leads problem goal node behind after item m is ok same =
    subst (λ (i : Item). Leads problem goal (node ∷ behind) (i ∷ []) after) (sym is) (ok, sym same)

pub noline_leads : (problem : Problem) (goal : Goal) (node : List Decision) (behind after : List (List Decision)) (item : Item) (m : ℕ) (lens : Lens)
    → item ≡ NoLine m lens → IsLineless problem goal node m lens → behind ≡ after → Leads problem goal (node ∷ behind) (item ∷ []) after
unfolding IsAccepted
noline_leads problem goal node behind after item m lens is ok same =
    subst (λ (i : Item). Leads problem goal (node ∷ behind) (i ∷ []) after) (sym is) (ok, sym same)

pub weights_leads : (problem : Problem) (goal : Goal) (node : List Decision) (behind after : List (List Decision)) (item : Item) (ys ys' : List ℤ) (lenses lenses' : List Lens)
    → item ≡ Weights ys lenses → ys' ≡ ys → lenses' ≡ lenses → IsOutweighed problem goal node ys' lenses' → behind ≡ after
    → Leads problem goal (node ∷ behind) (item ∷ []) after
unfolding IsAccepted
weights_leads problem goal node behind after item ys ys' lenses lenses' is e f ok same =
    let here = subst (λ (zs : List ℤ). IsOutweighed problem goal node zs lenses) e (subst (λ (ls : List Lens). IsOutweighed problem goal node ys' ls) f ok) in
    subst (λ (i : Item). Leads problem goal (node ∷ behind) (i ∷ []) after) (sym is) (here, sym same)

-- nothing is open behind the last item
pub Closes_at_end : (problem : Problem) (goal : Goal) (items : List Item) (at : ℕ) (is_open : Bool) (node : List Decision)
    → length items ≤ at → is_open ≡ false → Leads problem goal ([] ∷ []) (take at items) (open_nodes is_open node)
    → Closes problem goal [] items
Closes_at_end problem goal items at is_open node le shut w =
    Closes_walked problem goal [] items
    (subst (λ (s : List Item). Leads problem goal ([] ∷ []) s []) (take_all at items le)
    (subst (λ (b : Bool). Leads problem goal ([] ∷ []) (take at items) (open_nodes b node)) shut w))
