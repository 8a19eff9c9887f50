-- How a ledger grows over a search.
use Rattle.std.proofs.Common.{◌≡◌, ◌≢◌, ◌↔◌, ℕ, ◌+◌, ◌^◌, ◌<◌, ◌≤◌, ◌==◌, inl, inr, Bool, true, false, cond, List, [], ◌∷◌, ◌++◌, length, slice_get, Some, None, refl, sym, ap, subst, ◌∙◌, arith}
use Rattle.std.specs.Prelude.{count_by, sum_by}
use Rattle.std.proofs.lemmas.Bool.{eq-eqb}
use Rattle.std.proofs.lemmas.Nat.{pow_pos}
use Rattle.std.proofs.lemmas.List.{append_assoc, append-nil, length-append}
use Rattle.std.proofs.lemmas.List.Sums.{sum_by-append, sum_by-cons}
use Rattle.roster_model.specs.declared.problem.Problem.{Problem}
use Rattle.roster_model.specs.declared.goal.Goal.{Goal}
use Rattle.roster_model.specs.declared.node.Decision.{Decision}
use Rattle.roster_model.specs.declared.entry.Entry.{Entry}
use Rattle.roster_model.specs.declared.proof.Item.{Item}
use Rattle.roster_model.specs.declared.proof.Item.TheVariants.{Split}
use Rattle.roster_model.specs.Decided.{decided, nodes_behind, open_nodes}
use Rattle.roster_model.specs.Closing.{IsOpenPair, IsAccepted, Closes}
use Rattle.roster_model.specs.Ledgers.{Each, pairs_of}
use Rattle.roster_model.specs.OpenNodes.{IsOpenNode}
use Rattle.roster_model.specs.Walk.{Leads}
use Rattle.roster_model.proofs.Ledgers.{Each-weaker, Each-append, AreOrderly-more, searches_below, get-behind}
use Rattle.roster_model.proofs.Entries.{few_entries}
use Rattle.roster_model.proofs.Walk.{Leads-append, Closes_walked, leaf_leads}
use Rattle.branch_log.specs.Book.{Book, IsOrderly}
use Rattle.completion_search.specs.Path.{HasGrown, IsAt}
use Rattle.completion_search.specs.Found.{AddsSearch, IsFinding, IsNotSpent}
use Rattle.completion_search.specs.declared.walk.Finding.{Finding}
use Rattle.completion_search.specs.declared.walk.Finding.TheVariants.{Found, Refuted, Spent}

pub iff_then : {A B C : Type 0} → A ↔ B → B ↔ C → A ↔ C
iff_then f g = (λ h. g.0 (f.0 h), λ h. f.1 (g.1 h))

pub HasGrown_none : (problem : Problem) (s : ℕ) (a : Book) → HasGrown problem s a a
HasGrown_none problem s a = record { cap = refl; rounds = refl; goals = refl; more = []; entries = refl; of_search = tt; orderly = λ l. l }

pub HasGrown_then : (problem : Problem) (s : ℕ) (a b c : Book) → HasGrown problem s a b → HasGrown problem s b c → HasGrown problem s a c
HasGrown_then problem s a b c f g = record {
  cap = g.cap ∙ f.cap;
  rounds = g.rounds ∙ f.rounds;
  goals = g.goals ∙ f.goals;
  more = g.more ++ f.more;
  entries = g.entries ∙ ap (λ (es : List Entry). g.more ++ es) f.entries ∙ sym (append_assoc g.more f.more a.entries);
  of_search = Each-append (λ e. e.search ≡ s) g.more f.more g.of_search f.of_search;
  orderly = λ l. g.orderly (f.orderly l);
}

pub IsOpenNode-at : (problem : Problem) (rounds rounds' : ℕ) (goal : Goal) (node : List Decision)
    → IsOpenNode problem rounds goal node → rounds ≡ rounds' → IsOpenNode problem rounds' goal node
IsOpenNode-at problem rounds rounds' goal node h e = subst (λ (x : ℕ). IsOpenNode problem x goal node) e h

pub numbered_at : (goals goals' : List Goal) (number : ℕ) (goal : Goal) → goals' ≡ goals → slice_get goals number ≡ Some goal
    → slice_get goals' number ≡ Some goal
numbered_at goals goals' number goal f i = ap (λ (gs : List Goal). slice_get gs number) f ∙ i

-- a leaf more
pub Leads-leaf : (problem : Problem) (goal : Goal) (start : List (List Decision)) (items items' : List Item) (leaf : Item) (was : Bool) (node : List Decision) (after : List (List Decision))
    → was ≡ true → Leads problem goal start items (open_nodes was node) → IsAccepted problem goal node leaf
    → items' ≡ items ++ leaf ∷ [] → nodes_behind node ≡ after → Leads problem goal start items' after
Leads-leaf problem goal start items items' leaf was node after e f ok is same =
    let g : Leads problem goal start items (node ∷ nodes_behind node) = subst (λ (b : Bool). Leads problem goal start items (open_nodes b node)) e f in
    subst (λ (s : List Item). Leads problem goal start s after) (sym is)
    (Leads-append problem goal start (node ∷ nodes_behind node) after items (leaf ∷ []) g
    (subst (λ (x : List (List Decision)). Leads problem goal (node ∷ nodes_behind node) (leaf ∷ []) x) same (leaf_leads problem goal node leaf ok (nodes_behind node))))

-- a split more
pub Leads-split : (problem : Problem) (goal : Goal) (start : List (List Decision)) (items items' : List Item) (m p : ℕ) (was : Bool) (node new : List Decision)
    → was ≡ true → Leads problem goal start items (open_nodes was node) → IsOpenPair problem node m p
    → items' ≡ items ++ Split m p ∷ [] → new ≡ decided node m p true → Leads problem goal start items' (open_nodes was new)
Leads-split problem goal start items items' m p was node new e f ok is same =
    let g : Leads problem goal start items (node ∷ nodes_behind node) = subst (λ (b : Bool). Leads problem goal start items (open_nodes b node)) e f in
    subst (λ (b : Bool). Leads problem goal start items' (open_nodes b new)) (sym e)
    (subst (λ (x : List Decision). Leads problem goal start items' (x ∷ nodes_behind x)) (sym same)
    (subst (λ (s : List Item). Leads problem goal start s (decided node m p true ∷ decided node m p false ∷ nodes_behind node)) (sym is)
    (Leads-append problem goal start (node ∷ nodes_behind node) (decided node m p true ∷ decided node m p false ∷ nodes_behind node) items (Split m p ∷ []) g (ok, refl))))

pub Leads-start : (problem : Problem) (goal : Goal) (items : List Item) (node : List Decision) → items ≡ [] → node ≡ []
    → Leads problem goal ([] ∷ []) items (node ∷ nodes_behind node)
Leads-start problem goal items node e f =
    subst (λ (s : List Item). Leads problem goal ([] ∷ []) s (node ∷ nodes_behind node)) (sym e) (ap (λ (x : List Decision). x ∷ nodes_behind x) f)

pub Closes_done : (problem : Problem) (goal : Goal) (items : List Item) (is_open : Bool) (node : List Decision) → is_open ≡ false
    → Leads problem goal ([] ∷ []) items (open_nodes is_open node) → Closes problem goal [] items
Closes_done problem goal items is_open node e h =
    Closes_walked problem goal [] items (subst (λ (b : Bool). Leads problem goal ([] ∷ []) items (open_nodes b node)) e h)

pub IsAt-start : (problem : Problem) (es : List Entry) (s : ℕ) (node : List Decision) (parents : List ℕ) → node ≡ []
    → Each (λ e. e.search ≢ s) es → IsAt problem es s node parents
IsAt-start problem es s node parents is h =
    subst (λ (x : List Decision). IsAt problem es s x parents) (sym is)
    (record { stands = tt; new = Each-weaker (λ e. e.search ≢ s) (λ e. e.search ≡ s → e.parent ≢ None) (λ e f q. absurd (f q)) es h; long = omega arith })

-- a search that was numbered and whose entries were added
pub AddsSearch-grown : (problem : Problem) (goal : Goal) (number : ℕ) (a b c : Book) → number ≡ length a.goals
    → b ≡ record a { goals = a.goals ++ goal ∷ [] } → HasGrown problem number b c → IsOrderly problem b → AddsSearch problem goal a c
AddsSearch-grown problem goal number a b c n is h orderly = record {
  cap = h.cap ∙ ap (λ (x : Book). x.cap) is;
  rounds = h.rounds ∙ ap (λ (x : Book). x.rounds) is;
  asked = goal ∷ [];
  once = inr refl;
  goals = h.goals ∙ ap (λ (x : Book). x.goals) is;
  more = h.more;
  entries = h.entries ∙ ap (λ (x : Book). h.more ++ x.entries) is;
  of_search = Each-weaker (λ e. e.search ≡ number) (λ e. e.search ≡ length a.goals) (λ e f. f ∙ n) h.more h.of_search;
  orderly = h.orderly orderly;
}

-- no search was numbered
pub AddsSearch-none : (problem : Problem) (goal : Goal) (a b : Book) → b ≡ a → IsOrderly problem a → AddsSearch problem goal a b
AddsSearch-none problem goal a b is orderly =
    subst (λ (x : Book). AddsSearch problem goal a x) (sym is)
    (record { cap = refl; rounds = refl; asked = []; once = inl refl; goals = sym (append-nil a.goals); more = []; entries = refl; of_search = tt; orderly = orderly })

pub IsOrderly-started : (problem : Problem) (goal : Goal) (a b : Book) → b ≡ record a { goals = a.goals ++ goal ∷ [] }
    → IsOrderly problem a → IsOrderly problem b
IsOrderly-started problem goal a b is h =
    subst (λ (x : Book). IsOrderly problem x) (sym is) (AreOrderly-more problem a.rounds a.goals goal a.entries h)

pub searches_new : (problem : Problem) (goal : Goal) (number : ℕ) (a b : Book) → number ≡ length a.goals
    → b ≡ record a { goals = a.goals ++ goal ∷ [] } → IsOrderly problem a → Each (λ e. e.search ≢ number) b.entries
searches_new problem goal number a b n is h =
    subst (λ (es : List Entry). Each (λ e. e.search ≢ number) es) (sym (ap (λ (x : Book). x.entries) is))
    (Each-weaker (λ e. e.search < length a.goals) (λ e. e.search ≢ number) (λ e f q. absurd (omega (arith, f, q, n))) a.entries (searches_below problem a.rounds a.goals a.entries h))

pub numbered_new : (goal : Goal) (number : ℕ) (a b : Book) → number ≡ length a.goals
    → b ≡ record a { goals = a.goals ++ goal ∷ [] } → slice_get b.goals number ≡ Some goal
numbered_new goal number a b n is =
    ap (λ (x : Book). slice_get x.goals number) is ∙ ap (λ (k : ℕ). slice_get (a.goals ++ goal ∷ []) k) n ∙ get-behind a.goals goal

count-own : (s : ℕ) (es : List Entry) → Each (λ e. e.search ≡ s) es → count_by (λ e. e.search == s) es ≡ length es
count-own s [] h = refl
count-own s (e ∷ es) h =
    let rest = count-own s es h.1 in
    let w : Entry → ℕ = λ x. cond (x.search == s) 1 0 in
    let here : w e ≡ 1 = ap (λ (b : Bool). cond b 1 0) (eq-eqb e.search s h.0) in
    omega (arith, sum_by-cons w e es, here, rest)

-- the entries of one search are few
pub few_added : (problem : Problem) (number : ℕ) (a b : Book) → HasGrown problem number a b → IsOrderly problem b
    → length b.entries + 1 ≤ length a.entries + 2 ^ pairs_of problem
few_added problem number a b h orderly =
    let w : Entry → ℕ = λ x. cond (x.search == number) 1 0 in
    let all = few_entries problem b.rounds b.goals b.entries orderly number in
    let own = count-own number h.more h.of_search in
    let is : count_by (λ e. e.search == number) b.entries ≡ count_by (λ e. e.search == number) (h.more ++ a.entries) = ap (λ (es : List Entry). sum_by w es) h.entries in
    omega (arith, all, own, is, sum_by-append w h.more a.entries, ap (λ (es : List Entry). length es) h.entries, length-append h.more a.entries, pow_pos (pairs_of problem))

-- where room is left, the search came to an end
pub not_spent : (problem : Problem) (goal : Goal) (after : Book) (o : Finding) → length after.entries ≢ after.cap
    → IsFinding problem goal after o → IsNotSpent o
not_spent problem goal after (Found roster) room h = tt
not_spent problem goal after (Refuted items) room h = tt
not_spent problem goal after Spent room h = absurd (room h)
