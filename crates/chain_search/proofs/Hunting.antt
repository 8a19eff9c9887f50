-- How a search goes on.
use Rattle.std.proofs.Common.{◌≡◌, ℕ, ℤ, pos, suc, ◌+◌, ◌-◌, ◌<◌, ◌≤◌, ◌+ℤ◌, ◌≤ℤ◌, List, [], ◌∷◌, ◌++◌, Bool, true, false, Option, Some, None, inl, inr, refl, sym, ◌∙◌, ap, subst, arith, length, get_or, take, length-append, append_assoc}
use Rattle.std.specs.Prelude.{All, AllPairs, Contains, IfSome, int_lt, slice_get, ◌&&◌}
use Rattle.std.specs.Int.Signed.{◌<ℤ◌}
use Rattle.std.specs.List.{Any, list_any}
use Rattle.std.proofs.lemmas.Bool.{and_parts}
use Rattle.std.proofs.lemmas.Int.{ints}
use Rattle.std.proofs.lemmas.Option.{slice_get_read, slice_get_within}
use Rattle.std.proofs.lemmas.List.{append-nil, get_or_append_left, get_or-append-add, length-take-le, take-append-le, take-take, take_all}
use Rattle.std.proofs.Math.Seq.{get_or-append_seam}
use Rattle.std.proofs.lemmas.List.Folds.{Any-from_list_any}
use Rattle.std.proofs.lemmas.List.Kept.{AllPairs-cons}
use Rattle.std.proofs.lemmas.List.Elements.{All-nil, All-append, All-contains, All-push, All-weaker}
use Rattle.label_setter.specs.declared.graph.Arc.{Arc}
use Rattle.label_setter.specs.Graphs.{FitsPlaces, IsGraph}
use Rattle.label_setter.specs.Chains.{GraphOf, IsFeasible, Leads, Reached, Takes, source}
use Rattle.chain_search.specs.Bounds.{IsBound}
use Rattle.chain_search.specs.declared.marks.Mark.{Mark}
use Rattle.chain_search.specs.declared.turns.Label.{Label}
use Rattle.chain_search.specs.declared.turns.Open.{Open}
use Rattle.chain_search.specs.Leavings.{Leaving}
use Rattle.chain_search.specs.Marking.{KeepsMark, Stands, dispenses}
use Rattle.chain_search.specs.Orders.{IsOrder}
use Rattle.chain_search.specs.Searches.{ComesFrom, Enters, Hunts, IsNext, IsOnPath, IsWithin, NoneAboveFrom, Owes, Puts, Spreads, reached_label, reached_mark, reached_open}
use Rattle.chain_search.proofs.ListReads.{below_or_at, contains_read, same_some}
use Rattle.chain_search.proofs.Walking.{NoneByFirst, fits_at, le_through, leads_push, none_at_sink, none_by_all, none_dispensed, none_in_rest, same_next}

-- parts of lists
all_left : {X : Type 0} (P : X → Type 0) (xs ys : List X) → All P (xs ++ ys) → All P xs
all_left P xs ys all = λ k d less. subst P (get_or_append_left xs ys d k less) (all k d (let sum = length-append xs ys in omega (arith, sum, less)))

all_right : {X : Type 0} (P : X → Type 0) (xs ys : List X) → All P (xs ++ ys) → All P ys
all_right P xs ys all = λ k d less. subst P (get_or-append-add xs ys k d) (all (length xs + k) d (let sum = length-append xs ys in omega (arith, sum, less)))

one_more : {X : Type 0} (xs : List X) (x : X) → length (xs ++ x ∷ []) ≡ length xs + 1
one_more xs x = length-append xs (x ∷ [])

all_last : {X : Type 0} (P : X → Type 0) (xs : List X) (x : X) → All P (xs ++ x ∷ []) → P x
all_last P xs x all = subst P (get_or-append_seam xs x [] x) (all (length xs) x (let sum = one_more xs x in omega (arith, sum)))

pairs_left : {X : Type 0} (Q : X → X → Type 0) (xs ys : List X) → AllPairs Q (xs ++ ys) → AllPairs Q xs
pairs_left Q xs ys pairs = λ i j d less within.
    subst (λ x. Q x (get_or xs j d)) (get_or_append_left xs ys d i (omega (arith, less, within)))
    (subst (λ y. Q (get_or (xs ++ ys) i d) y) (get_or_append_left xs ys d j within) (pairs i j d less (let sum = length-append xs ys in omega (arith, sum, within))))

pairs_last : {X : Type 0} (Q : X → X → Type 0) (xs : List X) (y : X) → AllPairs Q (xs ++ y ∷ []) → All (λ x. Q x y) xs
pairs_last Q xs y pairs = λ k d less.
    subst (λ x. Q x y) (get_or_append_left xs (y ∷ []) d k less)
    (subst (λ z. Q (get_or (xs ++ y ∷ []) k d) z) (get_or-append_seam xs y [] d) (pairs k (length xs) d less (let sum = one_more xs y in omega (arith, sum))))

pairs_append : {X : Type 0} (Q : X → X → Type 0) (xs ys : List X) → AllPairs Q xs → AllPairs Q ys → All (λ x. All (Q x) ys) xs → AllPairs Q (xs ++ ys)
pairs_append Q [] ys first second across = second
pairs_append Q (x ∷ xs) ys first second across =
    AllPairs-cons Q x (xs ++ ys)
    (All-append (Q x) xs ys (λ k d within. first 0 (suc k) d (omega arith) (omega (arith, within))) (across 0 x (omega arith)))
    (pairs_append Q xs ys (λ i j d less within. first (suc i) (suc j) d (omega (arith, less)) (omega (arith, within))) second (λ k d within. across (suc k) d (omega (arith, within))))

less_test : (a b : ℤ) → int_lt a b ≡ true → a <ℤ b
less_test a b h = grind (arith, ints)

not_less : (a b : ℤ) → int_lt a b ≡ false → b ≤ℤ a
not_less a b h = grind (arith, ints)

le_self : (a : ℤ) → a ≤ℤ a
le_self a = omega (arith, ints)

pub from_zero : (result rest over : ℤ) → result ≡ rest → result ≤ℤ over → (pos 0 +ℤ rest) ≤ℤ over
from_zero result rest over is low = omega (arith, ints)

pub none_left : {X : Type 0} (xs ys : List X) (count : ℕ) → count ≡ 0 → ys ≡ take (count - 1) xs → xs ≡ ys ++ [] → xs ≡ []
none_left xs ys count none rest all = all ∙ (append-nil ys ∙ (rest ∙ ap (λ n. take (n - 1) xs) none))

-- how many labels an option holds
abbrev pub one_if : {X : Type 0} → Option X → ℕ
one_if None = 0
one_if (Some x) = 1

pub put_length : {R : Type 0} (old new : List (Open R)) (best : Option (Open R)) (next ahead : Open R) → Puts old best next new ahead → length new ≡ length old + one_if best
put_length old new None next ahead puts = ap length puts.0 ∙ omega arith
put_length old new (Some last) next ahead puts = elim puts [
  | inl other ↦ ap length other.0 ∙ one_more old last
  | inr other ↦ ap length other.0 ∙ one_more old next
]

-- an arc that leaves the place
pub record ArcRead {S : Type 0} (arcs : List (Arc S)) (places place number : ℕ) (arc : Arc S) : Type 0 where
  pub is : slice_get arcs number ≡ Some arc
  pub from : arc.from ≡ place
  pub fits : FitsPlaces places arc

pub listed_within : {S : Type 0} (arcs : List (Arc S)) (place : ℕ) (numbers : List ℕ) (k : ℕ) → Leaving arcs place numbers → k < length numbers → get_or numbers k 0 < length arcs
listed_within arcs place numbers k leaving less = (let leaves = leaving.right k 0 less in slice_get_within arcs (get_or numbers k 0) leaves.arc leaves.is)

pub listed_read : {S : Type 0} (arcs : List (Arc S)) (places place : ℕ) (numbers : List ℕ) (k : ℕ) (arc : Arc S) → IsGraph places arcs → Leaving arcs place numbers → k < length numbers → arc ≡ get_or arcs (get_or numbers k 0) arc → ArcRead arcs places place (get_or numbers k 0) arc
listed_read arcs places place numbers k arc fit leaving less read =
    let leaves = leaving.right k 0 less in
    let is : slice_get arcs (get_or numbers k 0) ≡ Some arc = slice_get_read arcs (length arcs) (get_or numbers k 0) arc refl (listed_within arcs place numbers k leaving less) read in
    let same : leaves.arc ≡ arc = same_some (slice_get arcs (get_or numbers k 0)) leaves.arc arc leaves.is is in
    record { is = is; from = ap (λ (a : Arc _). a.from) (sym same) ∙ leaves.from; fits = fits_at places arcs (get_or numbers k 0) arc fit.arcs_fit is }

module _ {R S E : Type 0} (extend : R → S → Option R) (done : R → E → Bool) (graph : GraphOf R S E) (over : ℤ) where
  abbrev None_at : ℤ → Open R → Type 0
  None_at most next = NoneAboveFrom extend done graph most (reached_open next)

  -- the labels that were spread by the first of the arcs
  pub record Spreading (label : Label R) (old waiting : List (Open R)) (best : Option (Open R)) (numbers : List ℕ) (count : ℕ) : Type 0 where
    pub more : List (Open R)
    pub added : waiting ≡ old ++ more
    pub come : All (ComesFrom extend graph label) more
    pub best_comes : IfSome best (ComesFrom extend graph label)
    pub none : (most : ℤ) → over ≤ℤ most → All (λ next. NoneAboveFrom extend done graph most (reached_open next)) more → IfSome best (λ next. NoneAboveFrom extend done graph most (reached_open next)) → NoneByFirst extend done graph most (reached_label label) numbers count

  pub spreading_start : (label : Label R) (old : List (Open R)) (numbers : List ℕ) → Spreading label old old None numbers 0
  spreading_start label old numbers = record {
    more = [];
    added = sym (append-nil old);
    come = All-nil (ComesFrom extend graph label);
    best_comes = tt;
    none = λ most up all none k number next less. absurd (omega (arith, less));
  }

  by_more : (most : ℤ) (label : Label R) (numbers : List ℕ) (count number : ℕ) → slice_get numbers count ≡ Some number → NoneByFirst extend done graph most (reached_label label) numbers count
      → ((next : Reached R) → Takes extend graph.arcs (reached_label label) number next → NoneAboveFrom extend done graph most next) → NoneByFirst extend done graph most (reached_label label) numbers (count + 1)
  by_more most label numbers count number is before here k other next less other_is takes = elim (below_or_at k count less) [
    | inl earlier ↦ before k other next earlier other_is takes
    | inr now ↦ (
        let same : other ≡ number = same_some (slice_get numbers count) other number (subst (λ j. slice_get numbers j ≡ Some other) now other_is) is in
        here next (subst (λ n. Takes extend graph.arcs (reached_label label) n next) same takes))
  ]

  -- the arc is not worth going by
  pub spreading_skip : (label : Label R) (old waiting : List (Open R)) (best : Option (Open R)) (numbers : List ℕ) (count number : ℕ) (arc : Arc S) (rest : ℕ → R → ℤ) → IsBound extend done graph rest
      → slice_get numbers count ≡ Some number → slice_get graph.arcs number ≡ Some arc → Enters extend rest over label number arc None
      → Spreading label old waiting best numbers count → Spreading label old waiting best numbers (count + 1)
  spreading_skip label old waiting best numbers count number arc rest rests at is enters so_far = record {
    more = so_far.more;
    added = so_far.added;
    come = so_far.come;
    best_comes = so_far.best_comes;
    none = λ most up all none. by_more most label numbers count number at (so_far.none most up all none) (λ next takes.
        let extends : extend label.resource arc.step ≡ Some next.resource = subst (λ (a : Arc S). extend label.resource a.step ≡ Some next.resource) (same_some (slice_get graph.arcs number) takes.arc arc takes.is is) takes.extends in
        let same = same_next extend graph.arcs (reached_label label) next number arc (label.gain +ℤ arc.gain) next.resource is refl extends takes in
        subst (NoneAboveFrom extend done graph most) (sym same) (none_in_rest extend done graph most rest rests (record { place = arc.to; gain = label.gain +ℤ arc.gain; resource = next.resource }) (le_through (label.gain +ℤ arc.gain +ℤ rest arc.to next.resource) over most (enters next.resource extends) up)));
  }

  pub comes : (label : Label R) (number : ℕ) (arc : Arc S) (next : Open R) → IsGraph graph.places graph.arcs → slice_get graph.arcs number ≡ Some arc → arc.from ≡ label.place → IsNext extend label number arc next → ComesFrom extend graph label next
  comes label number arc next fit is from enters =
      let fits = fits_at graph.places graph.arcs number arc fit.arcs_fit is in
      let forward = fits.forward in
      let inside = fits.within in
      let place = enters.place in
      record {
        takes = record { arc = arc; is = subst (λ n. slice_get graph.arcs n ≡ Some arc) (sym enters.arc_is) is; from = from; to = sym enters.place; gain = enters.sum; extends = enters.extends };
        before = enters.before;
        forward = omega (arith, forward, place, from);
        inside = omega (arith, inside, place);
        within = subst (λ p. IsWithin p next.gain) (sym enters.place) enters.within;
      }

  none_by_next : (most : ℤ) (label : Label R) (number : ℕ) (arc : Arc S) (next : Open R) → slice_get graph.arcs number ≡ Some arc → IsNext extend label number arc next → None_at most next
      → (to : Reached R) → Takes extend graph.arcs (reached_label label) number to → NoneAboveFrom extend done graph most to
  none_by_next most label number arc next is enters none to takes =
      let same : to ≡ record { place = arc.to; gain = label.gain +ℤ arc.gain; resource = next.resource } = same_next extend graph.arcs (reached_label label) to number arc (label.gain +ℤ arc.gain) next.resource is refl enters.extends takes in
      subst (NoneAboveFrom extend done graph most) (sym same)
      (subst (λ p. NoneAboveFrom extend done graph most (record { place = p; gain = label.gain +ℤ arc.gain; resource = next.resource })) enters.place
      (subst (λ g. NoneAboveFrom extend done graph most (record { place = next.place; gain = g; resource = next.resource })) enters.sum none))

  -- the arc leads to a label that waits, or that is the best so far
  pub spreading_put : (label : Label R) (old waiting new : List (Open R)) (best : Option (Open R)) (next ahead : Open R) (numbers : List ℕ) (count number : ℕ) (arc : Arc S)
      → slice_get numbers count ≡ Some number → slice_get graph.arcs number ≡ Some arc → IsNext extend label number arc next → ComesFrom extend graph label next → Puts waiting best next new ahead
      → Spreading label old waiting best numbers count → Spreading label old new (Some ahead) numbers (count + 1)
  spreading_put label old waiting new None next ahead numbers count number arc at is enters from puts so_far = record {
    more = so_far.more;
    added = puts.0 ∙ so_far.added;
    come = so_far.come;
    best_comes = subst (ComesFrom extend graph label) (sym puts.1) from;
    none = λ most up all none. by_more most label numbers count number at (so_far.none most up all tt) (none_by_next most label number arc next is enters (subst (None_at most) puts.1 none));
  }
  spreading_put label old waiting new (Some last) next ahead numbers count number arc at is enters from puts so_far = elim puts [
    | inl other ↦ record {
      more = so_far.more ++ last ∷ [];
      added = other.0 ∙ (ap (λ (xs : List (Open R)). xs ++ last ∷ []) so_far.added ∙ append_assoc old so_far.more (last ∷ []));
      come = All-push (ComesFrom extend graph label) so_far.more last so_far.come so_far.best_comes;
      best_comes = subst (ComesFrom extend graph label) (sym other.1) from;
      none = λ most up all none. by_more most label numbers count number at (so_far.none most up (all_left (None_at most) so_far.more (last ∷ []) all) (all_last (None_at most) so_far.more last all)) (none_by_next most label number arc next is enters (subst (None_at most) other.1 none));
    }
    | inr other ↦ record {
      more = so_far.more ++ next ∷ [];
      added = other.0 ∙ (ap (λ (xs : List (Open R)). xs ++ next ∷ []) so_far.added ∙ append_assoc old so_far.more (next ∷ []));
      come = All-push (ComesFrom extend graph label) so_far.more next so_far.come from;
      best_comes = subst (ComesFrom extend graph label) (sym other.1) so_far.best_comes;
      none = λ most up all none. by_more most label numbers count number at (so_far.none most up (all_left (None_at most) so_far.more (next ∷ []) all) (subst (None_at most) other.1 none)) (none_by_next most label number arc next is enters (all_last (None_at most) so_far.more next all));
    }
  ]

  pub spread_none : (label : Label R) (old waiting : List (Open R)) (numbers : List ℕ) (count : ℕ) → label.place + 1 < graph.places → Leaving graph.arcs label.place numbers → length numbers ≤ count → Spreading label old waiting None numbers count → Spreads extend done graph over label old waiting
  spread_none label old waiting numbers count inside leaving all spread = record {
    more = spread.more;
    added = spread.added;
    come = spread.come;
    none = λ most up none. none_by_all extend done graph most (reached_label label) numbers (λ e. omega (arith, e, inside)) leaving (λ k number next less. spread.none most up none tt k number next (omega (arith, less, all)));
  }

  pub spread_last : (label : Label R) (old waiting new : List (Open R)) (last : Open R) (numbers : List ℕ) (count : ℕ) → label.place + 1 < graph.places → Leaving graph.arcs label.place numbers → length numbers ≤ count → new ≡ waiting ++ last ∷ [] → Spreading label old waiting (Some last) numbers count → Spreads extend done graph over label old new
  spread_last label old waiting new last numbers count inside leaving all pushed spread = record {
    more = spread.more ++ last ∷ [];
    added = pushed ∙ (ap (λ (xs : List (Open R)). xs ++ last ∷ []) spread.added ∙ append_assoc old spread.more (last ∷ []));
    come = All-push (ComesFrom extend graph label) spread.more last spread.come spread.best_comes;
    none = λ most up none. none_by_all extend done graph most (reached_label label) numbers (λ e. omega (arith, e, inside)) leaving (λ k number next less.
        spread.none most up (all_left (None_at most) spread.more (last ∷ []) none) (all_last (None_at most) spread.more last none) k number next (omega (arith, less, all)));
  }

  -- what waits from this place on has nothing above the bound
  abbrev None_from : ℤ → ℕ → Open R → Type 0
  None_from most place next = place ≤ next.place → NoneAboveFrom extend done graph most (reached_open next)

  -- the label took its turn
  owes_on : (before after : List (Open R)) (next : Open R) (place : ℕ) (label : Reached R) → Owes extend done graph over after (next.place + 1) (reached_open next) → ((most : ℤ) → All (None_from most place) after → All (None_from most place) before)
      → Owes extend done graph over (before ++ next ∷ []) place label → Owes extend done graph over after place label
  owes_on before after next place label owes kept old = record {
    none = λ most up all. old.none most up (All-push (None_from most place) before next (kept most all) (λ from. owes.none most up (All-weaker (None_from most place) (None_from most (next.place + 1)) (λ other none later. none (omega (arith, from, later))) after all)));
  }

  owes_spread : (old new : List (Open R)) (label : Label R) → Spreads extend done graph over label old new → Owes extend done graph over new (label.place + 1) (reached_label label)
  owes_spread old new label spreads = record {
    none = λ most up all.
        let more = all_right (None_from most (label.place + 1)) old spreads.more (subst (All (None_from most (label.place + 1))) spreads.added all) in
        spreads.none most up (λ k d less. more k d less (let forward = (spreads.come k d less).forward in omega (arith, forward)));
  }

  owes_less : (waiting : List (Open R)) (next : Open R) (place : ℕ) (label : Reached R) → next.place < place → Owes extend done graph over (waiting ++ next ∷ []) place label → Owes extend done graph over waiting place label
  owes_less waiting next place label before owes = record { none = λ most up all. owes.none most up (All-push (None_from most place) waiting next all (λ from. absurd (omega (arith, before, from)))) }

  -- a label after which nothing is above the bound is let go
  hunt_drop : (path : List ℕ) (marks : List (List (Mark R))) (waiting : List (Open R)) (next : Open R) → Owes extend done graph over waiting (next.place + 1) (reached_open next) → Hunts extend done graph over path marks (waiting ++ next ∷ []) → Hunts extend done graph over path marks waiting
  hunt_drop path marks waiting next owes hunts = record {
    first = owes_on waiting waiting next 0 (source graph.start) owes (λ most all. all) hunts.first;
    marked = λ place mark stands. owes_on waiting waiting next (place + 1) (reached_mark place mark) owes (λ most all. all) (hunts.marked place mark stands);
    on_path = all_left (IsOnPath extend graph path) waiting (next ∷ []) hunts.on_path;
    ascend = pairs_left (λ a b. a.before ≤ b.before) waiting (next ∷ []) hunts.ascend;
    count = hunts.count;
  }

  pub hunt_low : (path : List ℕ) (marks : List (List (Mark R))) (waiting : List (Open R)) (next : Open R) → IsGraph graph.places graph.arcs → next.place + 1 ≡ graph.places → (done next.resource graph.end && int_lt over next.gain) ≡ false
      → Hunts extend done graph over path marks (waiting ++ next ∷ []) → Hunts extend done graph over path marks waiting
  hunt_low path marks waiting next fit at fails hunts = hunt_drop path marks waiting next
      (record { none = λ most up all. none_at_sink extend done graph most (reached_open next) fit (omega (arith, at)) (λ is_done. le_through next.gain over most (not_less over next.gain (second (done next.resource graph.end) (int_lt over next.gain) is_done fails)) up) }) hunts
    where
      second : (a b : Bool) → a ≡ true → (a && b) ≡ false → b ≡ false
      second true b p q = q
      second false b p q = cc

  -- a label from which what may still be gained is too little is let go
  pub hunt_rest : (path : List ℕ) (marks : List (List (Mark R))) (waiting : List (Open R)) (next : Open R) (rest : ℕ → R → ℤ) → IsBound extend done graph rest → (next.gain +ℤ rest next.place next.resource) ≤ℤ over
      → Hunts extend done graph over path marks (waiting ++ next ∷ []) → Hunts extend done graph over path marks waiting
  hunt_rest path marks waiting next rest bound low hunts = hunt_drop path marks waiting next
      (record { none = λ most up all. none_in_rest extend done graph most rest bound (reached_open next) (le_through (next.gain +ℤ rest next.place next.resource) over most low up) }) hunts

  pub hunt_ends : (path : List ℕ) (marks : List (List (Mark R))) (waiting : List (Open R)) (next : Open R) → next.place + 1 ≡ graph.places → (done next.resource graph.end && int_lt over next.gain) ≡ true
      → Hunts extend done graph over path marks (waiting ++ next ∷ []) → IsFeasible extend done graph (take next.before path ++ next.arc ∷ []) next.gain
  hunt_ends path marks waiting next at ends hunts =
      let on = all_last (IsOnPath extend graph path) waiting next hunts.on_path in
      record {
        last = next.resource;
        leads = subst (λ (p : ℕ). Leads extend graph.arcs (source graph.start) (take next.before path ++ next.arc ∷ []) (record { place = p; gain = next.gain; resource = next.resource })) (omega (arith, at)) on.leads;
        is_done = (and_parts (done next.resource graph.end) (int_lt over next.gain) ends).0;
      }

  -- what waits goes on under a greater bound
  pub hunt_raised : (more : ℤ) (path : List ℕ) (marks : List (List (Mark R))) (waiting : List (Open R)) → over ≤ℤ more → Hunts extend done graph over path marks waiting → Hunts extend done graph more path marks waiting
  hunt_raised more path marks waiting raise hunts = record {
    first = owes_raised 0 (source graph.start) hunts.first;
    marked = λ place mark stands. owes_raised (place + 1) (reached_mark place mark) (hunts.marked place mark stands);
    on_path = hunts.on_path;
    ascend = hunts.ascend;
    count = hunts.count;
  }
    where
      owes_raised : (place : ℕ) (label : Reached R) → Owes extend done graph over waiting place label → Owes extend done graph more waiting place label
      owes_raised place label owes = record { none = λ most up. owes.none most (le_through over more most raise up) }

  pub hunt_above : (next : Open R) → (done next.resource graph.end && int_lt over next.gain) ≡ true → over <ℤ next.gain
  hunt_above next ends = less_test over next.gain (and_parts (done next.resource graph.end) (int_lt over next.gain) ends).1

  pub on_path_of : (path : List ℕ) (marks : List (List (Mark R))) (waiting : List (Open R)) (next : Open R) → Hunts extend done graph over path marks (waiting ++ next ∷ []) → IsOnPath extend graph path next
  on_path_of path marks waiting next hunts = all_last (IsOnPath extend graph path) waiting next hunts.on_path

  -- a mark dispenses with the label
  pub hunt_dispensed : (spares : ℕ → R → R → Bool) → IsOrder extend done graph spares → (path : List ℕ) (marks : List (List (Mark R))) (waiting : List (Open R)) (next : Open R) (row : List (Mark R)) → slice_get marks next.place ≡ Some row → list_any (λ mark. dispenses (spares next.place) mark next.gain next.resource) row ≡ true
      → Hunts extend done graph over path marks (waiting ++ next ∷ []) → Hunts extend done graph over path marks waiting
  hunt_dispensed spares order path marks waiting next row is any hunts =
      hunt_drop path marks waiting next (by_mark (Any-from_list_any (λ mark. dispenses (spares next.place) mark next.gain next.resource) row any)) hunts
    where
      by_mark : Any (λ mark. dispenses (spares next.place) mark next.gain next.resource ≡ true) row → Owes extend done graph over waiting (next.place + 1) (reached_open next)
      by_mark found = record {
        none = λ most up all.
            let marked = hunts.marked next.place found.1 (record { row = row; is = is; listed = (found.0, found.2, found.3) }) in
            let earlier = owes_less waiting next (next.place + 1) (reached_mark next.place found.1) (omega arith) marked in
            none_dispensed extend done graph most spares order next.place found.1 next.gain next.resource found.4 (earlier.none most up all);
      }

  -- the label went on by each arc
  pub hunt_on : (path new : List ℕ) (marks kept : List (List (Mark R))) (waiting more : List (Open R)) (next : Open R) → new ≡ take next.before path ++ next.arc ∷ []
      → KeepsMark marks next.place (record { gain = next.gain; resource = next.resource }) kept
      → Spreads extend done graph over (record { before = length new; place = next.place; gain = next.gain; resource = next.resource }) waiting more
      → Hunts extend done graph over path marks (waiting ++ next ∷ []) → Hunts extend done graph over new kept more
  hunt_on path new marks kept waiting more next is keeps spreads hunts =
      let label : Label R = record { before = length new; place = next.place; gain = next.gain; resource = next.resource } in
      let on = all_last (IsOnPath extend graph path) waiting next hunts.on_path in
      let owes : Owes extend done graph over more (next.place + 1) (reached_open next) = owes_spread waiting more label spreads in
      let low = pairs_last (λ a b. a.before ≤ b.before) waiting next hunts.ascend in
      let kept_from : (place : ℕ) (most : ℤ) → All (None_from most place) more → All (None_from most place) waiting = λ place most all. all_left (None_from most place) waiting spreads.more (subst (All (None_from most place)) spreads.added all) in
      let long : length new ≡ next.before + 1 = ap length is ∙ (one_more (take next.before path) next.arc ∙ ap (λ n. n + 1) (length-take-le next.before path on.before)) in
      record {
        first = owes_on waiting more next 0 (source graph.start) owes (kept_from 0) hunts.first;
        marked = λ place mark stands. elim (keeps.from place mark stands) [
          | inl old ↦ owes_on waiting more next (place + 1) (reached_mark place mark) owes (kept_from (place + 1)) (hunts.marked place mark old)
          | inr now ↦ marked_now place mark now.0 now.1 owes
        ];
        on_path = subst (All (IsOnPath extend graph new)) (sym spreads.added) (All-append (IsOnPath extend graph new) waiting spreads.more
            (λ k d less. still path new (get_or waiting k d) next.before next.arc (all_left (IsOnPath extend graph path) waiting (next ∷ []) hunts.on_path k d less) (low k d less) on.before is)
            (λ k d less. on_new new label next (get_or spreads.more k d) (subst (λ (chain : List ℕ). Leads extend graph.arcs (source graph.start) chain (reached_open next)) (sym is) on.leads) refl (spreads.come k d less)));
        ascend = subst (AllPairs (λ a b. a.before ≤ b.before)) (sym spreads.added) (pairs_append (λ a b. a.before ≤ b.before) waiting spreads.more
            (pairs_left (λ a b. a.before ≤ b.before) waiting (next ∷ []) hunts.ascend)
            (λ i j d less within. let a = (spreads.come i d (omega (arith, less, within))).before in let b = (spreads.come j d within).before in omega (arith, a, b))
            (λ k d less. λ j e within. let a = low k d less in let b = (spreads.come j e within).before in let most = on.before in omega (arith, a, b, long)));
        count = (let same = keeps.count in let count = hunts.count in omega (arith, same, count));
      }
    where
      marked_now : (place : ℕ) (mark : Mark R) → place ≡ next.place → mark ≡ record { gain = next.gain; resource = next.resource } → Owes extend done graph over more (next.place + 1) (reached_open next) → Owes extend done graph over more (place + 1) (reached_mark place mark)
      marked_now place mark same is owes =
          subst (λ (m : Mark R). Owes extend done graph over more (place + 1) (reached_mark place m)) (sym is)
          (subst (λ (p : ℕ). Owes extend done graph over more (p + 1) (record { place = p; gain = next.gain; resource = next.resource })) (sym same) owes)

      still : (path new : List ℕ) (other : Open R) (before arc : ℕ) → IsOnPath extend graph path other → other.before ≤ before → before ≤ length path → new ≡ take before path ++ arc ∷ [] → IsOnPath extend graph new other
      still path new other before arc on less within is =
          let cut : length (take before path) ≡ before = length-take-le before path within in
          let same : take other.before new ≡ take other.before path =
          ap (take other.before) is ∙ (take-append-le other.before (take before path) (arc ∷ []) (omega (arith, cut, less)) ∙ take-take other.before before path less) in
          let long : length new ≡ before + 1 = ap length is ∙ (one_more (take before path) arc ∙ ap (λ n. n + 1) cut) in
          record {
            leads = subst (λ (front : List ℕ). Leads extend graph.arcs (source graph.start) (front ++ other.arc ∷ []) (reached_open other)) (sym same) on.leads;
            before = omega (arith, long, less);
            inside = on.inside;
            within = on.within;
          }

      on_new : (new : List ℕ) (label : Label R) (by other : Open R) → Leads extend graph.arcs (source graph.start) new (reached_label label) → length new ≡ label.before → ComesFrom extend graph label other → IsOnPath extend graph new other
      on_new new label by other leads long from =
          let all : take other.before new ≡ new = take_all other.before new (let e = from.before in omega (arith, long, e)) in
          record {
            leads = subst (λ (front : List ℕ). Leads extend graph.arcs (source graph.start) (front ++ other.arc ∷ []) (reached_open other)) (sym all) (leads_push extend graph.arcs (source graph.start) (reached_label label) (reached_open other) new other.arc leads from.takes);
            before = (let e = from.before in omega (arith, long, e));
            inside = from.inside;
            within = from.within;
          }

  -- the source went on by each arc
  pub hunt_start : (marks : List (List (Mark R))) (waiting : List (Open R)) → All (λ row. row ≡ []) marks → length marks + 1 ≡ graph.places → Spreads extend done graph over (record { before = 0; place = 0; gain = pos 0; resource = graph.start }) [] waiting → Hunts extend done graph over [] marks waiting
  hunt_start marks waiting bare count spreads =
      let label : Label R = record { before = 0; place = 0; gain = pos 0; resource = graph.start } in
      let owes = owes_spread [] waiting label spreads in
      record {
        first = record { none = λ most up all. owes.none most up (All-weaker (None_from most 0) (None_from most 1) (λ other none later. none (omega arith)) waiting all) };
        marked = λ place mark stands. absurd (no_mark place mark stands bare);
        on_path = subst (All (IsOnPath extend graph [])) (sym spreads.added) (λ k d less. let from = spreads.come k d less in record {
          leads = subst (λ (front : List ℕ). Leads extend graph.arcs (source graph.start) (front ++ (get_or spreads.more k d).arc ∷ []) (reached_open (get_or spreads.more k d))) (sym (take_all (get_or spreads.more k d).before [] (omega arith))) ((reached_open (get_or spreads.more k d), from.takes, refl));
          before = (let e = from.before in omega (arith, e));
          inside = from.inside;
          within = from.within;
        });
        ascend = subst (AllPairs (λ a b. a.before ≤ b.before)) (sym spreads.added) (λ i j d less within. let a = (spreads.come i d (omega (arith, less, within))).before in let b = (spreads.come j d within).before in omega (arith, a, b));
        count = count;
      }
    where
      no_mark : (place : ℕ) (mark : Mark R) → Stands marks place mark → All (λ row. row ≡ []) marks → ⊥
      no_mark place mark stands bare =
          let none : stands.row ≡ [] = All-contains (λ (row : List (Mark R)). row ≡ []) marks stands.row bare (contains_read marks place stands.row stands.is) in
          let listed : Contains [] mark = subst (λ (row : List (Mark R)). Contains row mark) none stands.listed in
          omega (arith, listed.1)

  pub hunt_over : (path : List ℕ) (marks : List (List (Mark R))) → Hunts extend done graph over path marks [] → NoneAboveFrom extend done graph over (source graph.start)
  hunt_over path marks hunts = hunts.first.none over (le_self over) (All-nil (None_from over 0))

module _ {R S E : Type 0} (extend : R → S → Option R) (done : R → E → Bool) (graph : GraphOf R S E) where
  -- the label came above the bound, which rises to what it gained
  pub hunt_on_above : (over : ℤ) (path : List ℕ) (marks : List (List (Mark R))) (waiting : List (Open R)) (next : Open R) → IsGraph graph.places graph.arcs → next.place + 1 ≡ graph.places → over <ℤ next.gain
      → Hunts extend done graph over path marks (waiting ++ next ∷ []) → Hunts extend done graph next.gain path marks waiting
  hunt_on_above over path marks waiting next fit at above hunts =
      hunt_low extend done graph next.gain path marks waiting next fit at (no_more (done next.resource graph.end))
      (hunt_raised extend done graph over next.gain path marks (waiting ++ next ∷ []) (no_less over next.gain above) hunts)
    where
      no_less : (a b : ℤ) → a <ℤ b → a ≤ℤ b
      no_less a b p = omega (arith, ints, p)

      no_more : (a : Bool) → (a && int_lt next.gain next.gain) ≡ false
      no_more true = grind (arith, ints)
      no_more false = refl
