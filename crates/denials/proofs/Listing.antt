-- Reasons and parts, added bid by bid.
use Rattle.std.proofs.Common.{◌≡◌, ◌≢◌, ℕ, zero, suc, ◌+◌, ◌<◌, ◌≤◌, ◌⊎◌, inl, inr, Bool, true, false, nat_lt, cond, List, [], ◌∷◌, ◌++◌, length, Option, Some, refl, sym, ap, subst, ◌∙◌, arith, length-append}
use Rattle.std.specs.Prelude.{slice_get, sum_by, slice_index}
use Rattle.std.specs.Option.{is_some}
use Rattle.std.proofs.lemmas.Bool.{cases_lt, cases_eq, true≢false, ltb-true, lt-ltb, le-leb, leb-true, false_from_ne_true}
use Rattle.std.proofs.lemmas.Option.{slice_get_within}
use Rattle.std.proofs.lemmas.List.Sums.{sum_by-append}
use Rattle.roster_model.specs.declared.problem.Problem.{Problem}
use Rattle.roster_model.specs.declared.goal.BidRef.{BidRef}
use Rattle.roster_model.specs.declared.proof.Item.{Item}
use Rattle.roster_model.specs.declared.award.Cause.{Cause}
use Rattle.roster_model.specs.declared.award.Cause.TheVariants.{Tie, Place}
use Rattle.roster_model.specs.declared.award.Denial.{Denial}
use Rattle.roster_model.specs.declared.award.Shown.{Shown}
use Rattle.roster_model.specs.Scores.{bids_of, score_of}
use Rattle.roster_model.specs.Rosters.{line_at, scores_of}
use Rattle.roster_model.specs.Awards.{IsGreatest}
use Rattle.roster_model.specs.Closing.{Closes}
use Rattle.roster_model.specs.Denials.{DenialsFit, IsBefore, IsShown, granting, has_roster, is_granted_by, place_of}
use Rattle.roster_model.specs.Goals.{IsBidOf}
use Rattle.roster_model.proofs.Denials.{all_reached_same}
use Rattle.branch_log.specs.Book.{Book}
use Rattle.completion_search.specs.Found.{HasRoom}
use Rattle.denials.specs.declared.places.Settled.{Settled}
use Rattle.denials.specs.declared.bids.Made.{Made}
use Rattle.denials.specs.declared.explained.Explained.{Explained}
use Rattle.denials.specs.declared.explained.Explained.TheVariants.{All, Spent}
use Rattle.denials.specs.Explained.{IsExplanation, IsNotSpent}
use Rattle.denials.specs.declared.known.Known.{Known}
use Rattle.denials.specs.Known.{AreFound}
use Rattle.denials.specs.Settled.{IsBracketed, IsSettled}
use Rattle.roster_model.specs.Splits.{splits_of, shown_splits}
use Rattle.denials.specs.Made.{AreExplained, GoesOn, bid_behind, cause_at, first_bid}

-- what is read of a list with one element more
last_cases : {X : Type 0} (xs : List X) (x y : X) (at : ℕ) → slice_get (xs ++ x ∷ []) at ≡ Some y
    → (slice_get xs at ≡ Some y) ⊎ ((at ≡ length xs) × (y ≡ x))
last_cases [] x y zero e = inr (refl, cc)
last_cases [] x y (suc at) e = absurd (let past = slice_get_within [] at y e in omega arith)
last_cases (z ∷ xs) x y zero e = inl e
last_cases (z ∷ xs) x y (suc at) e =
    elim (last_cases xs x y at e) [
      | inl before ↦ inl before
      | inr last ↦ inr (ap suc last.0, last.1)
    ]

kept : {X : Type 0} (xs : List X) (x y : X) (at : ℕ) → slice_get xs at ≡ Some y → slice_get (xs ++ x ∷ []) at ≡ Some y
kept [] x y at e = absurd (let past = slice_get_within [] at y e in omega arith)
kept (z ∷ xs) x y zero e = e
kept (z ∷ xs) x y (suc at) e = kept xs x y at e

last_read : {X : Type 0} (xs : List X) (x : X) → slice_get (xs ++ x ∷ []) (length xs) ≡ Some x
last_read [] x = refl
last_read (z ∷ xs) x = last_read xs x

-- a bid before the next one is before this one, or is this one
before_next : (other bid : BidRef) → IsBefore other (bid_behind bid) → IsBefore other bid ⊎ (other ≡ bid)
before_next other bid (inl lt) = inl (inl lt)
before_next other bid (inr same) =
    elim (cases_eq other.bid bid.bid) [
      | inl e ↦
          inr (ap (λ (k : ℕ). record { member = k; bid = other.bid }) same.0 ∙ ap (λ (k : ℕ). record { member = bid.member; bid = k }) e)
      | inr ne ↦ inl (inr (same.0, omega (arith, same.1, ne)))
    ]

still_before : (other bid : BidRef) → IsBefore other bid → IsBefore other (bid_behind bid)
still_before other bid (inl lt) = inl lt
still_before other bid (inr same) = inr (same.0, omega (arith, same.1))

this_before : (bid : BidRef) → IsBefore bid (bid_behind bid)
this_before bid = inr (refl, omega arith)

-- nothing is to be explained before the first bid
pub none_explained : (problem : Problem) (roster : List (List ℕ)) (reasons : List Denial) (shown : List Shown) → reasons ≡ [] → shown ≡ []
    → AreExplained problem roster reasons shown (first_bid 0)
none_explained problem roster reasons shown e f =
    subst (λ (xs : List Denial). AreExplained problem roster xs shown (first_bid 0)) (sym e)
    (subst (λ (ps : List Shown). AreExplained problem roster [] ps (first_bid 0)) (sym f) (record {
      bids = λ at d here. absurd (past at d here);
      before = λ at d here. absurd (past at d here);
      denied = λ at d here. absurd (past at d here);
      all = λ other known sooner denied. elim sooner [ inl lt ↦ absurd (omega arith) | inr same ↦ absurd (omega (arith, same.1)) ];
      ordered = λ i j a b lt here there. absurd (past i a here);
      places = λ at d here. absurd (past at d here);
      count = refl;
      each = λ at d part here there. absurd (past at d here);
    }))
  where
    past : (at : ℕ) (d : Denial) → slice_get [] at ≡ Some d → ⊥
    past at d here = let le = slice_get_within [] at d here in omega arith

module _ (problem : Problem) (roster : List (List ℕ)) (reasons : List Denial) (shown : List Shown) (bid : BidRef) where
  -- a bid that is granted has no reason
  pub next_granted : is_granted_by problem roster bid ≡ true → AreExplained problem roster reasons shown bid
      → AreExplained problem roster reasons shown (bid_behind bid)
  next_granted granted was = record {
    bids = was.bids;
    before = λ at d here. still_before d.bid bid (was.before at d here);
    denied = was.denied;
    all =
        λ other known sooner denied.
        elim (before_next other bid sooner) [
          | inl earlier ↦ was.all other known earlier denied
          | inr same ↦ absurd (true≢false (sym granted ∙ ap (is_granted_by problem roster) (sym same) ∙ denied))
        ];
    ordered = was.ordered;
    places = was.places;
    count = was.count;
    each = was.each;
  }

  -- a bid that is denied has one, with a part that shows it
  pub next_denied : (cause : Cause) (part : Shown) → IsBidOf problem bid → is_granted_by problem roster bid ≡ false
      → IsShown problem (scores_of problem roster) (record { bid = bid; cause = cause }) part → place_of cause ≤ length problem.base.members
      → AreExplained problem roster reasons shown bid
      → AreExplained problem roster (reasons ++ (record { bid = bid; cause = cause }) ∷ []) (shown ++ part ∷ []) (bid_behind bid)
  next_denied cause part known denied is within was =
      let this : Denial = record { bid = bid; cause = cause } in
      let Fits : Denial → Type 0 = λ d. IsBidOf problem d.bid × IsBefore d.bid (bid_behind bid) × (is_granted_by problem roster d.bid ≡ false) × (place_of d.cause ≤ length problem.base.members) in
      let fits : (at : ℕ) (d : Denial) → slice_get (reasons ++ this ∷ []) at ≡ Some d → Fits d =
      λ at d here.
      elim (last_cases reasons this d at here) [
        | inl old ↦ (was.bids at d old, still_before d.bid bid (was.before at d old), was.denied at d old, was.places at d old)
        | inr new ↦ subst Fits (sym new.1) (known, this_before bid, denied, within)
      ] in
      record {
        bids = λ at d here. (fits at d here).0;
        before = λ at d here. (fits at d here).1;
        denied = λ at d here. (fits at d here).2;
        all =
            λ other is_bid sooner other_denied.
            elim (before_next other bid sooner) [
              | inl earlier ↦
                  let listed = was.all other is_bid earlier other_denied in
                  record { at = listed.at; denial = listed.denial; here = kept reasons this listed.denial listed.at listed.here; is = listed.is }
              | inr same ↦ record { at = length reasons; denial = this; here = last_read reasons this; is = sym same }
            ];
        ordered =
            λ i j a b lt here there.
            elim (last_cases reasons this b j there) [
              | inl old ↦
                  elim (last_cases reasons this a i here) [
                    | inl old_a ↦ was.ordered i j a b lt old_a old
                    | inr new_a ↦ absurd (let inside = slice_get_within reasons j b old in omega (arith, inside, lt, new_a.0))
                  ]
              | inr new ↦
                  elim (last_cases reasons this a i here) [
                    | inl old_a ↦ subst (λ (d : Denial). IsBefore a.bid d.bid) (sym new.1) (was.before i a old_a)
                    | inr new_a ↦ absurd (omega (arith, lt, new.0, new_a.0))
                  ]
            ];
        places = λ at d here. (fits at d here).3;
        count = omega (arith, length-append shown (part ∷ []), length-append reasons (this ∷ []), was.count);
        each =
            λ at d p here there.
            elim (last_cases reasons this d at here) [
              | inl old ↦
                  elim (last_cases shown part p at there) [
                    | inl old_p ↦ was.each at d p old old_p
                    | inr new_p ↦ absurd (let inside = slice_get_within reasons at d old in omega (arith, inside, new_p.0, was.count))
                  ]
              | inr new ↦
                  elim (last_cases shown part p at there) [
                    | inl old_p ↦ absurd (let inside = slice_get_within shown at p old_p in omega (arith, inside, new.0, was.count))
                    | inr new_p ↦
                        subst (λ (x : Denial). IsShown problem (scores_of problem roster) x p) (sym new.1)
                        (subst (λ (x : Shown). IsShown problem (scores_of problem roster) this x) (sym new_p.1) is)
                  ]
            ];
      }

-- all bids of a member are explained
pub member_done : (problem : Problem) (roster : List (List ℕ)) (reasons : List Denial) (shown : List Shown) (member number : ℕ)
    → length (bids_of problem member) ≤ number → AreExplained problem roster reasons shown (record { member = member; bid = number })
    → AreExplained problem roster reasons shown (first_bid (member + 1))
member_done problem roster reasons shown member number all was = record {
  bids = was.bids;
  before =
      λ at d here.
      elim (was.before at d here) [
        | inl lt ↦ inl (omega (arith, lt))
        | inr same ↦ inl (omega (arith, same.0))
      ];
  denied = was.denied;
  all =
      λ other known sooner denied.
      was.all other known
      (elim sooner [
        | inl lt ↦
            elim (cases_eq other.member member) [
              | inl e ↦ inr (e, (let few : other.bid < length (bids_of problem member) = subst (λ (k : ℕ). other.bid < length (bids_of problem k)) e known.number in omega (arith, few, all)))
              | inr ne ↦ inl (omega (arith, lt, ne))
            ]
        | inr same ↦ absurd (omega (arith, same.1))
      ])
      denied;
  ordered = was.ordered;
  places = was.places;
  count = was.count;
  each = was.each;
}

-- all bids are explained
pub all_fit : (problem : Problem) (roster : List (List ℕ)) (reasons : List Denial) (shown : List Shown) (member : ℕ)
    → length problem.base.members ≤ member → AreExplained problem roster reasons shown (first_bid member)
    → DenialsFit problem roster reasons shown
all_fit problem roster reasons shown member all was = record {
  listed = record {
    bids = was.bids;
    denied = was.denied;
    all = λ bid known denied. was.all bid known (inl (omega (arith, known.member, all))) denied;
    ordered = was.ordered;
  };
  places = was.places;
  count = was.count;
  each = was.each;
}

-- what is settled is shown
module _ (problem : Problem) (roster : List (List ℕ)) (scores : List ℕ) (bid : BidRef) (same : scores ≡ scores_of problem roster) (greatest : IsGreatest problem roster) where
  shown_tie : (place : ℕ) (reached : Option (List (List ℕ))) (closing : Option (List Item)) → length problem.base.members < place
      → IsBracketed problem scores bid place place reached closing
      → IsShown problem (scores_of problem roster) (record { bid = bid; cause = Tie }) (record { proof = closing; roster = reached })
  shown_tie place reached closing over is =
      let members = length problem.base.members in
      let no_proof : is_some closing ≡ false =
      is.has_proof ∙ false_from_ne_true _ (λ t. (let le : place ≤ members = leb-true place members t in omega (arith, le, over))) in
      record {
        parts = (no_proof, is.has_roster ∙ lt-ltb 0 place (omega (arith, over)));
        proof = λ items here. absurd (true≢false (sym (ap is_some here) ∙ no_proof));
        roster =
            λ other here.
            let r = is.roster_is other here in
            record {
              grants = r.grants;
              scored =
                  all_reached_same problem roster other greatest r.grants.complete
                  (λ m known lt. subst (λ (xs : List ℕ). slice_index xs m ≤ score_of problem m (line_at other m)) same (r.reaches m known (omega (arith, known, over))));
            };
      }

  shown_place : (place : ℕ) (reached : Option (List (List ℕ))) (closing : Option (List Item)) → place ≤ length problem.base.members
      → IsBracketed problem scores bid place place reached closing
      → IsShown problem (scores_of problem roster) (record { bid = bid; cause = Place place }) (record { proof = closing; roster = reached })
  shown_place place reached closing within is = record {
    parts = (is.has_proof ∙ le-leb place (length problem.base.members) within, is.has_roster ∙ some_place place);
    proof = λ items here. subst (λ (xs : List ℕ). Closes problem (granting xs place bid) [] items) same (is.proof_is items here);
    roster =
        λ other here.
        let r = is.roster_is other here in
        record {
          grants = r.grants;
          scored = λ m known lt. subst (λ (xs : List ℕ). slice_index xs m ≤ score_of problem m (line_at other m)) same (r.reaches m known lt);
        };
  }
    where
      some_place : (place : ℕ) → nat_lt 0 place ≡ has_roster (Place place)
      some_place zero = refl
      some_place (suc place) = lt-ltb 0 (suc place) (omega arith)

  pub settled_shown : (place : ℕ) (reached : Option (List (List ℕ))) (closing : Option (List Item))
      → IsBracketed problem scores bid place place reached closing
      → IsShown problem (scores_of problem roster) (record { bid = bid; cause = cause_at (length problem.base.members) place }) (record { proof = closing; roster = reached })
      × (place_of (cause_at (length problem.base.members) place) ≤ length problem.base.members)
  settled_shown place reached closing is =
      let members = length problem.base.members in
      elim (cases_lt members place) [
        | inl over ↦
            let e : cause_at members place ≡ Tie = ap (λ (b : Bool). cond b Tie (Place place)) (lt-ltb members place over) in
            subst (λ (c : Cause). IsShown problem (scores_of problem roster) (record { bid = bid; cause = c }) (record { proof = closing; roster = reached }) × (place_of c ≤ members)) (sym e)
            (shown_tie place reached closing over is, omega arith)
        | inr within ↦
            let test : nat_lt members place ≡ false = false_from_ne_true _ (λ t. (let lt : members < place = ltb-true members place t in omega arith)) in
            let e : cause_at members place ≡ Place place = ap (λ (b : Bool). cond b Tie (Place place)) test in
            subst (λ (c : Cause). IsShown problem (scores_of problem roster) (record { bid = bid; cause = c }) (record { proof = closing; roster = reached }) × (place_of c ≤ members)) (sym e)
            (shown_place place reached closing within is, within)
      ]

-- the splits of one part more
pub splits_more : (shown : List Shown) (part : Shown) → shown_splits (shown ++ part ∷ []) ≡ shown_splits shown + splits_of part.proof
unfolding shown_splits
splits_more shown part = omega (arith, sum_by-append (λ (p : Shown). splits_of p.proof) shown (part ∷ []))

-- the bid is granted
pub goes_granted : (problem : Problem) (roster : List (List ℕ)) (scores : List ℕ) (bid : BidRef) (book : Book) (made : Made) → scores ≡ scores_of problem roster
    → HasRoom book → is_granted_by problem roster bid ≡ true → AreExplained problem roster made.reasons made.shown bid
    → AreFound problem scores made.known → GoesOn problem roster (bid_behind bid) book book made made
goes_granted problem roster scores bid book made same room granted was found = record {
  room = room;
  explained = next_granted problem roster made.reasons made.shown bid granted was;
  known = subst (λ (xs : List ℕ). AreFound problem xs made.known) same found;
  short = omega arith;
}

-- the bid is settled
pub goes_denied : (problem : Problem) (roster : List (List ℕ)) (scores : List ℕ) (bid : BidRef) (before after : Book) (had made : Made) (known : List Known) (members : ℕ) (settled : Settled)
    → scores ≡ scores_of problem roster → IsGreatest problem roster → members ≡ length problem.base.members → IsBidOf problem bid
    → is_granted_by problem roster bid ≡ false → AreExplained problem roster had.reasons had.shown bid
    → IsSettled problem scores bid before after settled → AreFound problem scores known
    → made.reasons ≡ had.reasons ++ (record { bid = bid; cause = cause_at members settled.place }) ∷ []
    → made.shown ≡ had.shown ++ (record { proof = settled.proof; roster = settled.roster }) ∷ []
    → made.known ≡ known
    → GoesOn problem roster (bid_behind bid) before after had made
goes_denied problem roster scores bid before after had made known members settled same greatest count is_bid denied was is found reasons shown kept =
    let part : Shown = record { proof = settled.proof; roster = settled.roster } in
    let right = settled_shown problem roster scores bid same greatest settled.place settled.roster settled.proof is.bracketed in
    let cause = cause_at (length problem.base.members) settled.place in
    let reasons' : made.reasons ≡ had.reasons ++ (record { bid = bid; cause = cause }) ∷ [] =
    reasons ∙ ap (λ (n : ℕ). had.reasons ++ (record { bid = bid; cause = cause_at n settled.place }) ∷ []) count in
    record {
      room = is.room;
      explained =
          subst (λ (xs : List Denial). AreExplained problem roster xs made.shown (bid_behind bid)) (sym reasons')
          (subst (λ (ps : List Shown). AreExplained problem roster (had.reasons ++ (record { bid = bid; cause = cause }) ∷ []) ps (bid_behind bid)) (sym shown)
          (next_denied problem roster had.reasons had.shown bid cause part is_bid denied right.0 right.1 was));
      known = subst (λ (xs : List ℕ). AreFound problem xs made.known) same (subst (AreFound problem scores) (sym kept) found);
      short = omega (arith, ap shown_splits shown, splits_more had.shown part, is.short);
    }

-- one bid after another
pub goes_then : (problem : Problem) (roster : List (List ℕ)) (middle next : BidRef) (a b c : Book) (x y z : Made)
    → GoesOn problem roster middle a b x y → GoesOn problem roster next b c y z → GoesOn problem roster next a c x z
goes_then problem roster middle next a b c x y z f g = record {
  room = g.room;
  explained = g.explained;
  known = g.known;
  short = omega (arith, f.short, g.short);
}

-- the last bid of a member
pub goes_member : (problem : Problem) (roster : List (List ℕ)) (member number : ℕ) (a b : Book) (x y : Made)
    → length (bids_of problem member) ≤ number → GoesOn problem roster (record { member = member; bid = number }) a b x y
    → GoesOn problem roster (first_bid (member + 1)) a b x y
goes_member problem roster member number a b x y all f = record {
  room = f.room;
  explained = member_done problem roster y.reasons y.shown member number all f.explained;
  known = f.known;
  short = f.short;
}

-- one member after another
pub splits_then : (problem : Problem) (roster : List (List ℕ)) (next : BidRef) (a b c : Book) (y z : Made)
    → shown_splits y.shown + length a.entries ≤ length b.entries → GoesOn problem roster next b c y z
    → shown_splits z.shown + length a.entries ≤ length c.entries
splits_then problem roster next a b c y z short g = omega (arith, short, g.short)

pub splits_none : (shown : List Shown) → shown ≡ [] → shown_splits shown ≡ 0
unfolding shown_splits
splits_none shown e = ap (sum_by (λ (p : Shown). splits_of p.proof)) e

-- where room is left, all was explained
pub not_spent : (problem : Problem) (roster : List (List ℕ)) (after : Book) (o : Explained) → length after.entries ≢ after.cap
    → IsExplanation problem roster after o → IsNotSpent o
not_spent problem roster after (All reasons shown) room is = tt
not_spent problem roster after Spent room is = absurd (room is)
