-- A month with vacant lines keeps the checks of its readers.
use Rattle.std.proofs.Common.{◌≡◌, ◌≢◌, ℕ, ◌+◌, ◌-◌, ◌<◌, ◌≤◌, inl, inr, List, [], ◌∷◌, ◌++◌, length, get_or, map, Some, refl, subst, sym, ap, ◌∙◌, arith, length-append, append_assoc}
use Rattle.std.specs.Prelude.{All, AllPairs, slice_get}
use Rattle.std.specs.List.{range_with_len}
use Rattle.std.proofs.lemmas.Bool.{cases_lt}
use Rattle.std.proofs.lemmas.List.{get_or_append_left, get_or-append_right, append-nil}
use Rattle.std.proofs.lemmas.List.Elements.{All-append}
use Rattle.std.proofs.lemmas.List.FromFn.{length-map-range_with_len, get_or-map-range_with_len, map-range_with_len_more}
use Rattle.std.proofs.lemmas.Option.{slice_get-get_or}
use Rattle.duty_calendar.specs.declared.horizon.Horizon.{Horizon}
use Rattle.duty_calendar.specs.declared.member.Base.{Base}
use Rattle.duty_calendar.specs.declared.member.Member.{Member}
use Rattle.duty_calendar.specs.declared.member.Rules.{Rules}
use Rattle.duty_calendar.specs.declared.pairing.Pairing.{Pairing}
use Rattle.duty_calendar.specs.Checks.{IsRules, IsMember, AreMembers, ArePairings}
use Rattle.roster_model.specs.declared.bid.Bid.{Bid}
use Rattle.roster_model.specs.declared.problem.Problem.{Problem}
use Rattle.roster_model.specs.Valid.{IsBid, IsValid}
use Rattle.open_time.specs.Vacant.{vacant_member, vacant_members, no_bids, IsVacantName, HasRoomFor}
use Rattle.open_time.proofs.Spelled.{vacant_is_name, vacant_differ}

-- the list with one more
pub range_more : {A : Type 0} (f : ℕ → A) (before list longer : List A) (made : A) (n : ℕ)
    → list ≡ before ++ map f (range_with_len 0 n) → made ≡ f n → longer ≡ list ++ made ∷ []
    → longer ≡ before ++ map f (range_with_len 0 (n + 1))
range_more f before list longer made n is here whole =
    whole ∙ ap (λ (xs : List _). xs ++ made ∷ []) is
    ∙ append_assoc before (map f (range_with_len 0 n)) (made ∷ [])
    ∙ ap (λ (x : _). before ++ (map f (range_with_len 0 n) ++ x ∷ [])) here
    ∙ ap (λ (xs : List _). before ++ xs) (sym (map-range_with_len_more f 0 n n (omega arith)))

pub range_none : {A : Type 0} (f : ℕ → A) (before list : List A) → list ≡ before → list ≡ before ++ map f (range_with_len 0 0)
range_none f before list e = e ∙ sym (append-nil before)

vacant_form : (h : Horizon) (n : ℕ) → n + 1 ≤ 200 → IsMember h (vacant_member n)
vacant_form h n few = record {
  named = vacant_is_name (n + 1) few;
  window = omega arith;
  few_credit = omega arith;
  few_history = omega arith;
  few_fixed = omega arith;
  past = λ k d lt. absurd (omega arith);
  coming = λ k d lt. absurd (omega arith);
  before = λ k d lt. absurd (omega arith);
  inside = λ k d lt. absurd (omega arith);
  in_order = λ i j d less lt. absurd (omega arith);
}

-- a vacant line of the list
vacant_at : (count k : ℕ) (d : Member) → k < count → get_or (vacant_members count) k d ≡ vacant_member k
vacant_at count k d lt = get_or-map-range_with_len vacant_member 0 count k k d lt (omega arith)

-- no two members have one name
names_differ : (members : List Member) (count : ℕ) → length members + count ≤ 200
    → AllPairs (λ a b. a.name ≢ b.name) members → All (λ m. IsVacantName count m.name → ⊥) members
    → AllPairs (λ a b. a.name ≢ b.name) (members ++ vacant_members count)
names_differ members count few apart free i j d less lt same =
    let n : ℕ = length members in
    let size : length (vacant_members count) ≡ count = length-map-range_with_len vacant_member 0 count in
    let whole = length-append members (vacant_members count) in
    elim (cases_lt j n) [
      | inl left ↦
          (let a = get_or_append_left members (vacant_members count) d i (omega (arith, less, left)) in
          let b = get_or_append_left members (vacant_members count) d j left in
          apart i j d less left (sym (ap (λ (m : Member). m.name) a) ∙ same ∙ ap (λ (m : Member). m.name) b))
      | inr right ↦
          (let b : get_or (members ++ vacant_members count) j d ≡ vacant_member (j - n) =
          get_or-append_right members (vacant_members count) n j d refl right ∙ vacant_at count (j - n) d (omega (arith, lt, whole, size, right)) in
          elim (cases_lt i n) [
            | inl first ↦
                (let a = get_or_append_left members (vacant_members count) d i first in
                free i d first (j - n, omega (arith, lt, whole, size, right), sym (ap (λ (m : Member). m.name) a) ∙ same ∙ ap (λ (m : Member). m.name) b))
            | inr both ↦
                (let a : get_or (members ++ vacant_members count) i d ≡ vacant_member (i - n) =
                get_or-append_right members (vacant_members count) n i d refl both ∙ vacant_at count (i - n) d (omega (arith, lt, less, whole, size, right)) in
                vacant_differ (i - n + 1) (j - n + 1) (omega (arith, less, both)) (omega (arith, lt, few, whole, size, right))
                (sym (ap (λ (m : Member). m.name) a) ∙ same ∙ ap (λ (m : Member). m.name) b))
          ])
    ]

each_vacant : (h : Horizon) (count : ℕ) → count ≤ 200 → All (IsMember h) (vacant_members count)
each_vacant h count few =
    λ k d lt.
    let size : length (vacant_members count) ≡ count = length-map-range_with_len vacant_member 0 count in
    subst (λ (m : Member). IsMember h m) (sym (vacant_at count k d (omega (arith, lt, size)))) (vacant_form h k (omega (arith, lt, size, few)))

members_form : (h : Horizon) (members : List Member) (count : ℕ) → length members + count ≤ 200
    → AreMembers h members → All (λ m. IsVacantName count m.name → ⊥) members
    → AreMembers h (members ++ vacant_members count)
members_form h members count few form free =
    let size : length (vacant_members count) ≡ count = length-map-range_with_len vacant_member 0 count in
    let whole = length-append members (vacant_members count) in
    record {
      some = omega (arith, form.some, whole);
      few = omega (arith, few, size, whole);
      each = All-append (IsMember h) members (vacant_members count) form.each (each_vacant h count (omega (arith, few)));
      names = names_differ members count few form.names free;
    }

-- those who do not bid keep each rule of bids
none_bid : (P : List Bid → Type 0) (count : ℕ) → P [] → All P (map no_bids (range_with_len 0 count))
none_bid P count h =
    λ k d lt.
    let size : length (map no_bids (range_with_len 0 count)) ≡ count = length-map-range_with_len no_bids 0 count in
    subst P (sym (get_or-map-range_with_len no_bids 0 count k k d (omega (arith, lt, size)) (omega arith))) h

-- the month with vacant lines, given by its parts
pub vacant_valid : (problem : Problem) (count : ℕ) (base : Base) (bids : List (List Bid)) → HasRoomFor problem count
    → base.rules ≡ problem.base.rules → base.pairings ≡ problem.base.pairings
    → base.members ≡ problem.base.members ++ vacant_members count
    → bids ≡ problem.bids ++ map no_bids (range_with_len 0 count) → IsValid base bids
vacant_valid problem count base bids room rules pairings members given =
    let valid = problem.valid in
    let h : Rules → Horizon = λ r. r.horizon in
    let size : length (vacant_members count) ≡ count = length-map-range_with_len vacant_member 0 count in
    let whole = length-append problem.base.members (vacant_members count) in
    let size' : length (map no_bids (range_with_len 0 count)) ≡ count = length-map-range_with_len no_bids 0 count in
    let whole' = length-append problem.bids (map no_bids (range_with_len 0 count)) in
    let here = ap (λ (xs : List Member). length xs) members in
    let there = ap (λ (xs : List (List Bid)). length xs) given in
    let few : All (λ list. length list ≤ 64) (problem.bids ++ map no_bids (range_with_len 0 count)) =
    All-append (λ (list : List Bid). length list ≤ 64) problem.bids (map no_bids (range_with_len 0 count)) valid.few_bids
    (none_bid (λ (list : List Bid). length list ≤ 64) count (omega arith)) in
    let each : All (All (IsBid problem.base.rules.horizon (length problem.base.pairings))) (problem.bids ++ map no_bids (range_with_len 0 count)) =
    All-append (All (IsBid problem.base.rules.horizon (length problem.base.pairings))) problem.bids (map no_bids (range_with_len 0 count)) valid.each_bid
    (none_bid (All (IsBid problem.base.rules.horizon (length problem.base.pairings))) count (λ k d lt. absurd (omega arith))) in
    record {
      month = record {
        rules_form = subst (λ (r : Rules). IsRules r) (sym rules) valid.month.rules_form;
        pairings_form =
            subst (λ (r : Rules). ArePairings (h r) base.pairings) (sym rules)
            (subst (λ (ps : List Pairing). ArePairings problem.base.rules.horizon ps) (sym pairings) valid.month.pairings_form);
        members_form =
            subst (λ (r : Rules). AreMembers (h r) base.members) (sym rules)
            (subst (λ (ms : List Member). AreMembers problem.base.rules.horizon ms) (sym members)
            (members_form problem.base.rules.horizon problem.base.members count room.few valid.month.members_form room.free));
      };
      lists = omega (arith, here, there, size, whole, size', whole', valid.lists);
      few_bids = subst (λ (xs : List (List Bid)). All (λ list. length list ≤ 64) xs) (sym given) few;
      each_bid =
          subst (λ (r : Rules). All (All (IsBid (h r) (length base.pairings))) bids) (sym rules)
          (subst (λ (ps : List Pairing). All (All (IsBid problem.base.rules.horizon (length ps))) bids) (sym pairings)
          (subst (λ (xs : List (List Bid)). All (All (IsBid problem.base.rules.horizon (length problem.base.pairings))) xs) (sym given) each));
    }

-- the first member with such a name, among those that were looked at
pub free_more : (members : List Member) (count i : ℕ) (m : Member) → ((k : ℕ) (x : Member) → k < i → slice_get members k ≡ Some x → IsVacantName count x.name → ⊥)
    → slice_get members i ≡ Some m → (IsVacantName count m.name → ⊥)
    → (k : ℕ) (x : Member) → k < i + 1 → slice_get members k ≡ Some x → IsVacantName count x.name → ⊥
free_more members count i m before here not k x lt at =
    elim (cases_lt k i) [
      | inl sooner ↦ before k x sooner at
      | inr last ↦
          (let k_is : k ≡ i = omega (arith, lt, last) in
          let same : slice_get members i ≡ Some x = subst (λ (j : ℕ). slice_get members j ≡ Some x) k_is at in
          let m_is : m ≡ x = cc in
          subst (λ (y : Member). IsVacantName count y.name → ⊥) m_is not)
    ]

pub free_all : (members : List Member) (count i : ℕ) → length members ≤ i
    → ((k : ℕ) (x : Member) → k < i → slice_get members k ≡ Some x → IsVacantName count x.name → ⊥)
    → All (λ m. IsVacantName count m.name → ⊥) members
free_all members count i all before =
    λ k d lt. before k (get_or members k d) (omega (arith, lt, all)) (slice_get-get_or members k d lt)

-- fewer vacant lines have room where more have
pub fewer_room : (problem : Problem) (count less : ℕ) → less ≤ count → HasRoomFor problem count → HasRoomFor problem less
fewer_room problem count less le room = record {
  few = omega (arith, room.few, le);
  free = λ k d lt taken. room.free k d lt (taken.0, omega (arith, taken.1, le), taken.2);
}
