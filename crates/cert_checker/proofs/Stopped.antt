-- Items that stop do not close the goal.
use Rattle.std.proofs.Common.{◌≡◌, ℕ, ◌+◌, inl, inr, List, [], ◌∷◌, take, drop, length, slice_get, Some, refl, sym, ap, subst, ◌∙◌, arith}
use Rattle.std.proofs.lemmas.List.{take-append-drop, append-nil, drop_more, length-drop}
use Rattle.std.proofs.lemmas.Option.{slice_get_within, get_or_from_slice_get}
use Rattle.roster_model.specs.declared.problem.Problem.{Problem}
use Rattle.roster_model.specs.declared.goal.Goal.{Goal}
use Rattle.roster_model.specs.declared.node.Decision.{Decision}
use Rattle.roster_model.specs.declared.proof.Item.{Item}
use Rattle.roster_model.specs.declared.proof.Item.TheVariants.{Split, Count, Fixed, NoLine, Weights}
use Rattle.roster_model.specs.Closing.{Closes}
use Rattle.roster_model.specs.Walk.{Leads}
use Rattle.roster_model.proofs.Walk.{Leads-rest, Leads_closed}
use Rattle.cert_checker.specs.declared.refusal.No.{No}
use Rattle.cert_checker.specs.declared.refusal.No.TheVariants as no
use Rattle.cert_checker.specs.declared.refusal.ItemFault.{ItemFault}
use Rattle.cert_checker.specs.Faults.{Fails}
use Rattle.cert_checker.specs.Stops.{Stops}
use Rattle.cert_checker.specs.Awards.{NamesFault}
use Rattle.cert_checker.proofs.Excluded.{split_excluded, leaf_excluded}

-- an item with a fault is not gone over
stuck : (problem : Problem) (goal : Goal) (node : List Decision) (behind after : List (List Decision)) (item : Item) (items : List Item) (why : ItemFault)
    → Fails problem goal node item why → Leads problem goal (node ∷ behind) (item ∷ items) after → ⊥
stuck problem goal node behind after (Split m p) items why h w = split_excluded problem node m p why w.0 h
stuck problem goal node behind after (Count p) items why h w = leaf_excluded problem goal node (Count p) why w.0 h
stuck problem goal node behind after (Fixed m) items why h w = leaf_excluded problem goal node (Fixed m) why w.0 h
stuck problem goal node behind after (NoLine m lens) items why h w = leaf_excluded problem goal node (NoLine m lens) why w.0 h
stuck problem goal node behind after (Weights ys lenses) items why h w = leaf_excluded problem goal node (Weights ys lenses) why w.0 h

-- what is at a place, and the rest behind it
drop_item : (items : List Item) (at : ℕ) (item : Item) → slice_get items at ≡ Some item
    → (rest : List Item) × (drop at items ≡ item ∷ rest)
drop_item items at item e =
    (drop (at + 1) items, drop_more items at item (slice_get_within items at item e) ∙ ap (λ (x : Item). x ∷ drop (at + 1) items) (get_or_from_slice_get items at item item e))

-- nothing follows where nothing is open
ends : (problem : Problem) (goal : Goal) (items : List Item) → Leads problem goal [] items [] → items ≡ []
ends problem goal [] w = refl
ends problem goal (i ∷ items) w = absurd w

-- what closes leads on from each place
goes_on : (problem : Problem) (goal : Goal) (items : List Item) (at : ℕ) (mid : List (List Decision))
    → Closes problem goal [] items → Leads problem goal ([] ∷ []) (take at items) mid → Leads problem goal mid (drop at items) []
goes_on problem goal items at mid closes w =
    Leads-rest problem goal ([] ∷ []) mid [] (take at items) (drop at items) w (subst (λ (s : List Item). Leads problem goal ([] ∷ []) s []) (sym (take-append-drop at items)) (Leads_closed problem goal [] items closes []))

-- items that stop do not close the goal
pub stopped : (problem : Problem) (goal : Goal) (search : ℕ) (items : List Item) (why : No)
    → Stops problem goal search items why → NamesFault why → Closes problem goal [] items → ⊥
stopped problem goal search items (no.Item k at f) s _ closes =
    let (rest, is) = drop_item items at s.1.item s.1.here in
    stuck problem goal s.1.node s.1.behind [] s.1.item rest f s.1.fault (subst (λ (t : List Item). Leads problem goal (s.1.node ∷ s.1.behind) t []) is (goes_on problem goal items at (s.1.node ∷ s.1.behind) closes s.1.before))
stopped problem goal search items (no.Left k) (e, inl s) _ closes =
    let none : [] ≡ s.node ∷ s.behind = Leads-rest problem goal ([] ∷ []) (s.node ∷ s.behind) [] items [] s.before (subst (λ (t : List Item). Leads problem goal ([] ∷ []) t []) (sym (append-nil items)) (Leads_closed problem goal [] items closes [])) in cc
stopped problem goal search items (no.Left k) (e, inr s) _ closes =
    let none = ap length (ends problem goal (drop s.at items) (goes_on problem goal items s.at [] closes s.before)) in omega (arith, s.more, length-drop s.at items, none)
stopped problem goal search items no.NoMemory s h closes = h
stopped problem goal search items (no.Member m why) s _ closes = s
stopped problem goal search items (no.Cover p count) s _ closes = s
stopped problem goal search items (no.Amount found) s _ closes = s
stopped problem goal search items (no.Reason m b) s _ closes = s
stopped problem goal search items (no.Shown m b) s _ closes = s
