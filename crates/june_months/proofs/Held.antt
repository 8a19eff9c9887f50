-- Months that hold little.
use Rattle.std.proofs.Common.{◌≡◌, ◌≢◌, ℕ, ◌<◌, List, [], ◌∷◌, ◌++◌, length, get_or, ap, sym, ◌∙◌, subst, arith}
use Rattle.std.specs.Prelude.{All, AllPairs}
use Rattle.std.proofs.lemmas.List.{length_push}
use Rattle.std.proofs.lemmas.List.Elements.{All-from_recursion, All-get_or, All-push, All-weaker}
use Rattle.std.proofs.lemmas.List.Kept.{AllPairs-cons}
use Rattle.std.proofs.lemmas.List.Quantifiers.{all_pairs_push}
use Rattle.duty_calendar.specs.declared.horizon.Horizon.{Horizon}
use Rattle.duty_calendar.specs.declared.member.Member.{Member}
use Rattle.duty_calendar.specs.declared.pairing.Pairing.{Pairing}
use Rattle.roster_model.specs.declared.bid.Bid.{Bid}
use Rattle.roster_model.specs.Valid.{IsBid}
use Rattle.duty_calendar.specs.Checks.{AreMembers, ArePairings, IsMember, IsPairing}

no_pairs : {X : Type 0} (R : X → X → Type 0) → AllPairs R []
no_pairs R i j d lt within = absurd (omega arith)

none : {X : Type 0} (P : X → Type 0) → All P []
none P = All-from_recursion P [] tt

pub no_pairings : (h : Horizon) → ArePairings h []
no_pairings h = record { few = omega arith; each = none (IsPairing h); names = no_pairs (λ a b. a.name ≢ b.name) }

-- one pairing more, with a name of its own
pub more_pairings : (h : Horizon) (list : List Pairing) (p : Pairing) → ArePairings h list → length list < 600 → IsPairing h p → All (λ q. q.name ≢ p.name) list
    → ArePairings h (list ++ p ∷ [])
more_pairings h list p are lt is new = record {
  few = let l = length_push list p in omega arith;
  each = All-push (IsPairing h) list p are.each is;
  names = all_pairs_push (λ (a b : Pairing). a.name ≢ b.name) list p are.names (λ k d w. All-get_or (λ (q : Pairing). q.name ≢ p.name) list k d w new);
}

pub one_member : (h : Horizon) (m : Member) → IsMember h m → AreMembers h (m ∷ [])
one_member h m is = record {
  some = omega arith;
  few = omega arith;
  each = All-from_recursion (IsMember h) (m ∷ []) (is, tt);
  names = AllPairs-cons (λ (a b : Member). a.name ≢ b.name) m [] (none (λ (b : Member). m.name ≢ b.name)) (no_pairs (λ a b. a.name ≢ b.name));
}

-- one member more, with a name of its own
pub more_members : (h : Horizon) (list : List Member) (m : Member) → AreMembers h list → length list < 200 → IsMember h m → All (λ n. n.name ≢ m.name) list
    → AreMembers h (list ++ m ∷ [])
more_members h list m are lt is new = record {
  some = let l = length_push list m in omega arith;
  few = let l = length_push list m in omega arith;
  each = All-push (IsMember h) list m are.each is;
  names = all_pairs_push (λ (a b : Member). a.name ≢ b.name) list m are.names (λ k d w. All-get_or (λ (n : Member). n.name ≢ m.name) list k d w new);
}

pub other_names : (list : List Member) (m : Member) → All (λ n. n.name ≡ 77 ∷ 49 ∷ []) list → m.name ≡ 77 ∷ 50 ∷ [] → All (λ n. n.name ≢ m.name) list
other_names list m first second = All-weaker (λ (n : Member). n.name ≡ 77 ∷ 49 ∷ []) (λ (n : Member). n.name ≢ m.name) (λ n e same. clash (sym e ∙ same ∙ second)) list first
  where
    clash : ◌≡◌ {A = List ℕ} (77 ∷ 49 ∷ []) (77 ∷ 50 ∷ []) → ⊥
    clash e = let second : ◌≡◌ {A = ℕ} 49 50 = ap (λ (xs : List ℕ). get_or xs 1 0) e in absurd (omega arith)

pub named : (list : List Member) (m : Member) → list ≡ m ∷ [] → m.name ≡ 77 ∷ 49 ∷ [] → All (λ n. n.name ≡ 77 ∷ 49 ∷ []) list
named list m is e = subst (All (λ (n : Member). n.name ≡ 77 ∷ 49 ∷ [])) (sym is) (All-from_recursion (λ (n : Member). n.name ≡ 77 ∷ 49 ∷ []) (m ∷ []) (e, tt))

-- the bids of one member
pub bids_of_one : (h : Horizon) (count : ℕ) (list : List Bid) (bids : List (List Bid)) → bids ≡ list ∷ [] → All (IsBid h count) list → All (All (IsBid h count)) bids
bids_of_one h count list bids is each = subst (All (All (IsBid h count))) (sym is) (All-from_recursion (All (IsBid h count)) (list ∷ []) (each, tt))

-- the bids of two members, where there are four pairings
pub bids_of_two : (h : Horizon) (count : ℕ) (senior junior : List Bid) (bids : List (List Bid)) → bids ≡ senior ∷ junior ∷ [] → count ≡ 4 → All (IsBid h 4) senior → All (IsBid h 4) junior
    → All (All (IsBid h count)) bids
bids_of_two h count senior junior bids both four s j =
    let each : All (All (IsBid h 4)) bids = subst (All (All (IsBid h 4))) (sym both) (All-from_recursion (All (IsBid h 4)) (senior ∷ junior ∷ []) (s, (j, tt))) in
    subst (λ (n : ℕ). All (All (IsBid h n)) bids) (sym four) each
