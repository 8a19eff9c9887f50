-- What the parts of the judge's answer on denials say together.
use Rattle.std.proofs.Common.{◌≡◌, ℕ, zero, suc, ◌+◌, ◌*◌, ◌^◌, ◌<◌, ◌≤◌, false, List, [], ◌∷◌, length, get_or, Some, Result, Ok, Err, refl, sym, ap, subst, ◌∙◌, arith, inl, inr, ◌⊎◌}
use Rattle.std.specs.Prelude.{All, IfErr, IsErrAnd, slice_get, unwrap_or}
use Rattle.std.proofs.lemmas.Bool.{cases_eq, cases_order, cases_Bool, true≢false}
use Rattle.std.proofs.lemmas.Option.{slice_get_within, slice_get-get_or}
use Rattle.std.proofs.lemmas.List.Elements.{All-head, All-tail}
use Rattle.roster_model.specs.declared.problem.Problem.{Problem}
use Rattle.roster_model.specs.declared.bid.Bid.{Bid}
use Rattle.roster_model.specs.declared.goal.BidRef.{BidRef}
use Rattle.roster_model.specs.declared.award.Denial.{Denial}
use Rattle.roster_model.specs.declared.award.Shown.{Shown}
use Rattle.roster_model.specs.Rosters.{scores_of}
use Rattle.roster_model.specs.Goals.{IsBidOf}
use Rattle.roster_model.specs.Denials.{AreReasons, DenialsFit, IsBefore, IsListed, IsShown, granting, is_granted_by, place_of}
use Rattle.cert_checker.specs.declared.refusal.No.{No}
use Rattle.cert_checker.specs.declared.refusal.No.TheVariants as no
use Rattle.cert_checker.specs.Given.{NameBids}
use Rattle.cert_checker.specs.Reasons.{IsMislistedIn, IsRightList, IsFirstMislisted, misplaced, past_last, granted_listed, denied_missing}
use Rattle.cert_checker.specs.Unshown.{AreShownBefore, IsFirstUnshown, IsUnshown}
use Rattle.cert_checker.specs.Awards.{DenialsFail, HaveRightPlaces, IsWrongList, NamesFault}
use Rattle.cert_checker.proofs.Stopped.{stopped}
use Rattle.cert_checker.proofs.Shapes.{all_at}

same_bid : (a b : BidRef) → a.member ≡ b.member → a.bid ≡ b.bid → a ≡ b
same_bid a b m n =
    ap (λ (k : ℕ). record { member = k; bid = a.bid }) m ∙ ap (λ (k : ℕ). record { member = b.member; bid = k }) n

-- a bid is before another one, or is it, or comes after it
order_cases : (a b : BidRef) → IsBefore a b ⊎ ((a ≡ b) ⊎ IsBefore b a)
order_cases a b = elim (cases_order a.member b.member) [
  | inl same ↦
      elim (cases_order a.bid b.bid) [
        | inl e ↦ inr (inl (same_bid a b same e))
        | inr other ↦ elim other [ inl lt ↦ inl (inr (same, lt)) | inr gt ↦ inr (inr (inr (sym same, gt))) ]
      ]
  | inr other ↦ elim other [ inl lt ↦ inl (inl lt) | inr gt ↦ inr (inr (inl gt)) ]
]

not_before_itself : (a : BidRef) → IsBefore a a → ⊥
not_before_itself a h = elim h [ inl lt ↦ omega arith | inr same ↦ omega (arith, same.1) ]

never_both : (a b : BidRef) → IsBefore a b → IsBefore b a → ⊥
never_both a b (inl lt) (inl gt) = omega arith
never_both a b (inl lt) (inr same) = omega (arith, same.0)
never_both a b (inr same) (inl gt) = omega (arith, same.0)
never_both a b (inr same) (inr again) = omega (arith, same.1, again.1)

-- both are one bid, or not
same_cases : (a b : BidRef) → (a ≡ b) ⊎ (a ≡ b → ⊥)
same_cases a b = elim (order_cases a b) [
  | inl before ↦ inr (λ e. not_before_itself b (subst (λ (x : BidRef). IsBefore x b) e before))
  | inr other ↦
      elim other [
        | inl e ↦ inl e
        | inr behind ↦ inr (λ e. not_before_itself b (subst (λ (x : BidRef). IsBefore b x) e behind))
      ]
]

-- the bid has a reason, or not
listed_further : (d : Denial) (reasons : List Denial) (bid : BidRef) → IsListed reasons bid → IsListed (d ∷ reasons) bid
listed_further d reasons bid h = record { at = suc h.at; denial = h.denial; here = h.here; is = h.is }

not_listed : (d : Denial) (reasons : List Denial) (bid : BidRef) → (d.bid ≡ bid → ⊥) → (IsListed reasons bid → ⊥)
    → (at : ℕ) (denial : Denial) → slice_get (d ∷ reasons) at ≡ Some denial → denial.bid ≡ bid → ⊥
not_listed d reasons bid other none zero denial here is =
    let same : d ≡ denial = cc in
    other (ap (λ (x : Denial). x.bid) same ∙ is)
not_listed d reasons bid other none (suc at) denial here is =
    none (record { at = at; denial = denial; here = here; is = is })

listed_cases : (reasons : List Denial) (bid : BidRef) → IsListed reasons bid ⊎ (IsListed reasons bid → ⊥)
listed_cases [] bid = inr (λ h. none_listed h.at h.denial h.here)
  where
    none_listed : (at : ℕ) (denial : Denial) → slice_get [] at ≡ Some denial → ⊥
    none_listed at denial here = let past = slice_get_within [] at denial here in omega arith
listed_cases (d ∷ reasons) bid = elim (same_cases d.bid bid) [
  | inl e ↦ inl (record { at = 0; denial = d; here = refl; is = e })
  | inr other ↦
      elim (listed_cases reasons bid) [
        | inl h ↦ inl (listed_further d reasons bid h)
        | inr none ↦ inr (λ h. not_listed d reasons bid other none h.at h.denial h.here h.is)
      ]
]

module _ (problem : Problem) (roster : List (List ℕ)) (reasons : List Denial) where
  bid_at : NameBids problem reasons → (at : ℕ) (denial : Denial) → slice_get reasons at ≡ Some denial → IsBidOf problem denial.bid
  bid_at named at denial here = all_at (λ (d : Denial). IsBidOf problem d.bid) reasons at denial named here

  -- a list with nothing wrong at any bid is right
  pub right_reasons : NameBids problem reasons → IsRightList problem roster reasons → AreReasons problem roster reasons
  right_reasons named right = record {
    bids = bid_at named;
    denied =
        λ at denial here.
        elim (cases_Bool (is_granted_by problem roster denial.bid)) [
          | inl granted ↦
              absurd (right denial.bid (bid_at named at denial here) (granted_listed granted (record { at = at; denial = denial; here = here; is = refl })))
          | inr denied ↦ denied
        ];
    all = λ bid known denied. listed_or bid known denied;
    ordered =
        λ sooner later first second lt first_here second_here.
        elim (order_cases first.bid second.bid) [
          | inl before ↦ before
          | inr behind ↦
              absurd (right second.bid (bid_at named later second second_here) (misplaced (record {
                sooner = sooner;
                later = later;
                first = first;
                second = second;
                order = lt;
                first_here = first_here;
                second_here = second_here;
                is = refl;
                behind = behind;
              })))
        ];
  }
    where
      listed_or : (bid : BidRef) → IsBidOf problem bid → is_granted_by problem roster bid ≡ false → IsListed reasons bid
      listed_or bid known denied = elim (listed_cases reasons bid) [
        | inl listed ↦ listed
        | inr none ↦ absurd (right bid known (denied_missing denied none))
      ]

  pub right_places : NameBids problem reasons → IsRightList problem roster reasons → HaveRightPlaces problem reasons
  right_places named right at denial here =
      elim (cases_order (place_of denial.cause) (length problem.base.members)) [
        | inl same ↦ omega arith
        | inr other ↦
            elim other [
              | inl lt ↦ omega arith
              | inr past ↦
                  absurd (right denial.bid (bid_at named at denial here) (past_last (record { at = at; denial = denial; here = here; is = refl; past = past })))
            ]
      ]

  -- a list with something wrong at a bid is not right
  pub mislisted_unfit : (shown : List Shown) (bid : BidRef) → IsFirstMislisted problem roster reasons bid
      → DenialsFit problem roster reasons shown → ⊥
  mislisted_unfit shown bid first fit = refute first.wrong
    where
      refute : IsMislistedIn problem roster reasons bid → ⊥
      refute (misplaced h) =
          let before : IsBefore h.first.bid bid =
          subst (λ (b : BidRef). IsBefore h.first.bid b) h.is (fit.listed.ordered h.sooner h.later h.first h.second h.order h.first_here h.second_here) in
          elim h.behind [
            | inl e ↦ not_before_itself bid (subst (λ (b : BidRef). IsBefore b bid) e before)
            | inr behind ↦ never_both h.first.bid bid before behind
          ]
      refute (past_last h) = let within = fit.places h.at h.denial h.here in omega (arith, within, h.past)
      refute (granted_listed g h) =
          true≢false (sym g ∙ ap (is_granted_by problem roster) (sym h.is) ∙ fit.listed.denied h.at h.denial h.here)
      refute (denied_missing d none) = none (fit.listed.all bid first.known d)

  -- a reason that is not shown does not fit
  pub unshown_unfit : (shown : List Shown) (why : No) → IsFirstUnshown problem (scores_of problem roster) reasons shown why
      → NamesFault why → DenialsFit problem roster reasons shown → ⊥
  unshown_unfit shown no.NoMemory first named fit = named
  unshown_unfit shown (no.Member m why) first named fit = first.unshown
  unshown_unfit shown (no.Cover p count) first named fit = first.unshown
  unshown_unfit shown (no.Amount found) first named fit = first.unshown
  unshown_unfit shown (no.Item k at why) first named fit =
      let h = first.unshown.1 in
      stopped problem (granting (scores_of problem roster) (place_of first.denial.cause) first.denial.bid) (length problem.base.members + first.at)
      h.items (no.Item k at why) h.stops tt ((fit.each first.at first.denial first.part first.reason first.beside).proof h.items h.here)
  unshown_unfit shown (no.Left k) first named fit =
      let h = first.unshown.1 in
      stopped problem (granting (scores_of problem roster) (place_of first.denial.cause) first.denial.bid) (length problem.base.members + first.at)
      h.items (no.Left k) h.stops tt ((fit.each first.at first.denial first.part first.reason first.beside).proof h.items h.here)
  unshown_unfit shown (no.Reason m b) first named fit = first.unshown
  unshown_unfit shown (no.Shown m b) first named fit =
      let is = fit.each first.at first.denial first.part first.reason first.beside in
      elim first.unshown.1 [
        | inl wrong ↦ wrong is.parts
        | inr h ↦ h.2.wrong (is.roster h.2.roster h.2.here)
      ]

  -- the first test of the denials that fails
  pub fails_of_unshown : (shown : List Shown) (why : No) → length shown ≡ length reasons → AreReasons problem roster reasons
      → HaveRightPlaces problem reasons → IsFirstUnshown problem (scores_of problem roster) reasons shown why
      → DenialsFail problem roster reasons shown why
  fails_of_unshown shown no.NoMemory amount listed places first = tt
  fails_of_unshown shown (no.Member m why) amount listed places first = absurd first.unshown
  fails_of_unshown shown (no.Cover p count) amount listed places first = absurd first.unshown
  fails_of_unshown shown (no.Amount found) amount listed places first = absurd first.unshown
  fails_of_unshown shown (no.Item k at why) amount listed places first =
      record { amount = amount; listed = listed; places = places; first = first }
  fails_of_unshown shown (no.Left k) amount listed places first =
      record { amount = amount; listed = listed; places = places; first = first }
  fails_of_unshown shown (no.Reason m b) amount listed places first = absurd first.unshown
  fails_of_unshown shown (no.Shown m b) amount listed places first =
      record { amount = amount; listed = listed; places = places; first = first }

  -- all parts fit
  pub fit_of : (shown : List Shown) → length shown ≡ length reasons → AreReasons problem roster reasons
      → HaveRightPlaces problem reasons → AreShownBefore problem (scores_of problem roster) reasons shown (length reasons)
      → DenialsFit problem roster reasons shown
  fit_of shown amount listed places each = record {
    listed = listed;
    places = places;
    count = amount;
    each = λ at denial part here beside. each at denial part (slice_get_within reasons at denial here) here beside;
  }

-- the number of a bid among all bids, if each member had 64
key_of : Denial → ℕ
key_of d = d.bid.member * 64 + d.bid.bid

-- a list of numbers that ascend, each below a bound, is no longer than the bound
keys_few : (key : Denial → ℕ) (reasons : List Denial) (low bound : ℕ)
    → ((at : ℕ) (d : Denial) → slice_get reasons at ≡ Some d → (low ≤ key d) × (key d < bound))
    → ((sooner later : ℕ) (a b : Denial) → sooner < later → slice_get reasons sooner ≡ Some a → slice_get reasons later ≡ Some b → key a < key b)
    → low ≤ bound → length reasons + low ≤ bound
keys_few key [] low bound within up le = omega arith
keys_few key (d ∷ reasons) low bound within up le =
    let here = within 0 d refl in
    let rest : length reasons + (key d + 1) ≤ bound =
    keys_few key reasons (key d + 1) bound
    (λ at e h. (let more = up 0 (suc at) d e (omega arith) refl h in omega arith, (within (suc at) e h).1))
    (λ sooner later a b lt ha hb. up (suc sooner) (suc later) a b (omega arith) ha hb)
    (omega arith) in
    omega (arith, here.0)

few_bids : (lists : List (List Bid)) (m : ℕ) → All (λ list. length list ≤ 64) lists → length (unwrap_or (slice_get lists m) []) ≤ 64
few_bids [] m few = omega arith
few_bids (x ∷ xs) zero few = All-head (λ (list : List Bid). length list ≤ 64) x xs few
few_bids (x ∷ xs) (suc m) few = few_bids xs m (All-tail (λ (list : List Bid). length list ≤ 64) x xs few)

key_rises : (a b : Denial) → a.bid.bid < 64 → IsBefore a.bid b.bid → key_of a < key_of b
unfolding key_of
key_rises a b small (inl lt) = omega arith
key_rises a b small (inr same) = omega (arith, same.0, same.1)

key_within : (problem : Problem) (d : Denial) → IsBidOf problem d.bid → d.bid.bid < 64 → key_of d < length problem.base.members * 64
unfolding key_of
key_within problem d is small = omega (arith, is.member)

-- 32 bits number the searches of the reasons
pub few_searches : (problem : Problem) (roster : List (List ℕ)) (reasons : List Denial) → AreReasons problem roster reasons
    → length problem.base.members + length reasons < 2 ^ 32
few_searches problem roster reasons listed =
    let members = length problem.base.members in
    let small : (at : ℕ) (d : Denial) → slice_get reasons at ≡ Some d → d.bid.bid < 64 =
    λ at d here. let is = listed.bids at d here in omega (arith, is.number, few_bids problem.bids d.bid.member problem.valid.few_bids) in
    let count : length reasons + 0 ≤ members * 64 =
    keys_few key_of reasons 0 (members * 64)
    (λ at d here. (omega arith, key_within problem d (listed.bids at d here) (small at d here)))
    (λ sooner later a b lt ha hb. key_rises a b (small sooner a ha) (listed.ordered sooner later a b lt ha hb))
    (omega arith) in
    let most : members ≤ 200 = problem.valid.month.members_form.few in
    omega (arith, count, most)

-- the places, element by element
pub places_all : (problem : Problem) (reasons : List Denial) → HaveRightPlaces problem reasons
    → All (λ d. place_of d.cause ≤ length problem.base.members) reasons
places_all problem reasons right k d lt = right k (get_or reasons k d) (slice_get-get_or reasons k d lt)

-- one reason more that is shown
pub shown_more : (problem : Problem) (scores : List ℕ) (reasons : List Denial) (shown : List Shown) (count : ℕ) (d : Denial) (part : Shown)
    → count < length reasons → slice_get shown count ≡ Some part → IsShown problem scores (get_or reasons count d) part
    → AreShownBefore problem scores reasons shown count → AreShownBefore problem scores reasons shown (count + 1)
shown_more problem scores reasons shown count d part inside beside is before at denial other lt here there =
    elim (cases_eq at count) [
      | inl e ↦
          let reason : slice_get reasons count ≡ Some denial = ap (λ (k : ℕ). slice_get reasons k) (sym e) ∙ here in
          let read : slice_get reasons count ≡ Some (get_or reasons count d) = slice_get-get_or reasons count d inside in
          let same : get_or reasons count d ≡ denial = cc in
          let shown_there : slice_get shown count ≡ Some other = ap (λ (k : ℕ). slice_get shown k) (sym e) ∙ there in
          let part_same : part ≡ other = cc in
          subst (λ (x : Denial). IsShown problem scores x other) same (subst (λ (p : Shown). IsShown problem scores (get_or reasons count d) p) part_same is)
      | inr else ↦ before at denial other (omega (arith, lt, else)) here there
    ]

pub shown_all : (problem : Problem) (scores : List ℕ) (reasons : List Denial) (shown : List Shown) (count : ℕ) → length reasons ≤ count
    → AreShownBefore problem scores reasons shown count → AreShownBefore problem scores reasons shown (length reasons)
shown_all problem scores reasons shown count all before at denial part lt here there =
    before at denial part (omega (arith, lt, all)) here there

pub shown_none : (problem : Problem) (scores : List ℕ) (reasons : List Denial) (shown : List Shown) → AreShownBefore problem scores reasons shown 0
shown_none problem scores reasons shown at denial part lt here there = absurd (omega (arith, lt))

-- the first reason that is not shown, as it is handed on
pub first_at : {A : Type 0} (problem : Problem) (scores : List ℕ) (reasons : List Denial) (shown : List Shown) (at search : ℕ) (d : Denial) (part : Shown) (why : No) (result : Result A No)
    → IsErrAnd result (λ e. e ≡ why) → length scores ≡ length problem.base.members → search ≡ length scores + at
    → at < length reasons → slice_get shown at ≡ Some part → AreShownBefore problem scores reasons shown at
    → IsUnshown problem scores search (get_or reasons at d) part why → IfErr result (IsFirstUnshown problem scores reasons shown)
first_at problem scores reasons shown at search d part why (Ok x) is members numbered lt beside before unshown = absurd is
first_at problem scores reasons shown at search d part why (Err e) is members numbered lt beside before unshown =
    subst (λ (w : No). IsFirstUnshown problem scores reasons shown w) (sym is)
    (record {
      at = at;
      denial = get_or reasons at d;
      part = part;
      reason = slice_get-get_or reasons at d lt;
      beside = beside;
      before = before;
      unshown =
          subst (λ (k : ℕ). IsUnshown problem scores k (get_or reasons at d) part why)
          (numbered ∙ ap (λ (k : ℕ). k + at) members) unshown;
    })

-- the same of slices that hold the reasons and the parts, and of scores that are read
module _ (problem : Problem) (roster : List (List ℕ)) (reasons slice : List Denial) (e : slice ≡ reasons) where
  pub named_slice : NameBids problem reasons → NameBids problem slice
  named_slice named = subst (λ (xs : List Denial). NameBids problem xs) (sym e) named

  pub few_slice : NameBids problem reasons → IsRightList problem roster slice → length problem.base.members + length slice < 2 ^ 32
  few_slice named right = few_searches problem roster slice (right_reasons problem roster slice (named_slice named) right)

  pub places_slice : NameBids problem reasons → IsRightList problem roster slice
      → All (λ d. place_of d.cause ≤ length problem.base.members) slice
  places_slice named right = places_all problem slice (right_places problem roster slice (named_slice named) right)

  module _ (shown parts : List Shown) (f : parts ≡ shown) (amount : length parts ≡ length slice) where
    pub amount_slice : length shown ≡ length reasons
    amount_slice = ap (λ (xs : List Shown). length xs) (sym f) ∙ amount ∙ ap (λ (xs : List Denial). length xs) e

    pub list_fails : (bid : BidRef) → IsFirstMislisted problem roster slice bid → IsWrongList problem roster reasons shown bid
    list_fails bid first = record {
      amount = amount_slice;
      first = subst (λ (xs : List Denial). IsFirstMislisted problem roster xs bid) e first;
    }

    pub list_refused : (bid : BidRef) → IsFirstMislisted problem roster slice bid → DenialsFit problem roster reasons shown → ⊥
    list_refused bid first = mislisted_unfit problem roster reasons shown bid (subst (λ (xs : List Denial). IsFirstMislisted problem roster xs bid) e first)

    module _ (scores : List ℕ) (s : scores ≡ scores_of problem roster) (named : NameBids problem reasons) (right : IsRightList problem roster slice) where
      pub fit_slice : AreShownBefore problem scores slice parts (length slice) → DenialsFit problem roster reasons shown
      fit_slice each =
          subst (λ (xs : List Denial). DenialsFit problem roster xs shown) e
          (subst (λ (ps : List Shown). DenialsFit problem roster slice ps) f
          (fit_of problem roster slice parts amount (right_reasons problem roster slice (named_slice named) right) (right_places problem roster slice (named_slice named) right)
          (subst (λ (ys : List ℕ). AreShownBefore problem ys slice parts (length slice)) s each)))

      pub first_slice : (why : No) → IsFirstUnshown problem scores slice parts why → IsFirstUnshown problem (scores_of problem roster) reasons shown why
      first_slice why first =
          subst (λ (xs : List Denial). IsFirstUnshown problem (scores_of problem roster) xs shown why) e
          (subst (λ (ps : List Shown). IsFirstUnshown problem (scores_of problem roster) slice ps why) f
          (subst (λ (ys : List ℕ). IsFirstUnshown problem ys slice parts why) s first))

      pub fails_slice : (why : No) → IsFirstUnshown problem scores slice parts why → DenialsFail problem roster reasons shown why
      fails_slice why first =
          fails_of_unshown problem roster reasons shown why amount_slice
          (subst (λ (xs : List Denial). AreReasons problem roster xs) e (right_reasons problem roster slice (named_slice named) right))
          (subst (λ (xs : List Denial). HaveRightPlaces problem xs) e (right_places problem roster slice (named_slice named) right))
          (first_slice why first)

      pub refused_slice : (why : No) → IsFirstUnshown problem scores slice parts why → NamesFault why → DenialsFit problem roster reasons shown → ⊥
      refused_slice why first = unshown_unfit problem roster reasons shown why (first_slice why first)
