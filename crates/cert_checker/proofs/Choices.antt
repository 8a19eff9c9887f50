-- What a node says of a member, written down one decision after the other.
use Rattle.std.proofs.Common.{◌≡◌, ℕ, ◌+◌, ◌-◌, ◌<◌, ◌≤◌, Bool, true, false, ◌&&◌, ◌==◌, List, [], ◌∷◌, ◌++◌, Option, Some, reverse, length, set, take, get_or, refl, sym, ap, subst, ◌∙◌, arith, inl, inr}
use Rattle.std.specs.Prelude.{All, None, filter, slice_get}
use Rattle.std.specs.List.{range_with_len}
use Rattle.std.proofs.lemmas.Bool.{and_from, and_left, cases_eq, eq-eqb, ne_eqb}
use Rattle.std.proofs.lemmas.List.{get_or-reverse, get_or-set_other, get_or-set_same, length-reverse, length-set, reverse-reverse, take_all}
use Rattle.std.proofs.lemmas.List.Folds.{list_any_more}
use Rattle.std.proofs.lemmas.Option.{get_or_from_slice_get, slice_get_within, slice_get-get_or}
use Rattle.roster_model.specs.declared.node.Decision.{Decision}
use Rattle.roster_model.specs.Decided.{is_on, is_same, is_decided, is_decided_as, HasNoPairTwice}
use Rattle.roster_model.proofs.Turn.{is_decided_reverse}
use Rattle.cert_checker.specs.Choices.{IsChoice, AreChoices}
use Rattle.cert_checker.proofs.Lines.{filter_kept, filter_passed}
use Rattle.cert_checker.proofs.Decisions.{decided_by, is_decided_as_reverse, one_way, or_first, or_none, or_second}

-- a decision on another pair says nothing of this one
off_pair : (ds : List Decision) (i m p : ℕ) (d e : Decision) (choice : Option Bool) → i < length ds → d ≡ get_or ds i e
    → is_on m p d ≡ false → IsChoice (take i ds) m p choice → IsChoice (take (i + 1) ds) m p choice
off_pair ds i m p d e None lt is off h =
    list_any_more (is_on m p) ds i e lt
    ∙ or_none _ _ h (subst (λ (x : Decision). is_on m p x ≡ false) is off)
off_pair ds i m p d e (Some flies) lt is off h =
    list_any_more (λ (x : Decision). is_on m p x && is_same x.flies flies) ds i e lt ∙ or_first _ _ h

-- one on this pair decides it
same_self : (a : Bool) → is_same a a ≡ true
same_self true = refl
same_self false = refl

on_pair : (ds : List Decision) (i m p : ℕ) (d e : Decision) → i < length ds → d ≡ get_or ds i e
    → is_on m p d ≡ true → IsChoice (take (i + 1) ds) m p (Some d.flies)
on_pair ds i m p d e lt is on =
    list_any_more (λ (x : Decision). is_on m p x && is_same x.flies d.flies) ds i e lt
    ∙ or_second _ _
    (subst (λ (x : Decision). (is_on m p x && is_same x.flies d.flies) ≡ true) is
    (and_from (is_on m p d) (is_same d.flies d.flies) on (same_self d.flies)))

-- a decision on another member
pub choices_kept : (ds : List Decision) (i member count : ℕ) (d e : Decision) (choices : List (Option Bool))
    → i < length ds → d ≡ get_or ds i e → (d.member ≡ member → ⊥)
    → AreChoices (take i ds) member count choices → AreChoices (take (i + 1) ds) member count choices
choices_kept ds i member count d e choices lt is other old = record {
  each = old.each;
  here =
      λ p choice at.
      off_pair ds i member p d e choice lt is (and_left (d.member == member) (d.pairing == p) (ne_eqb d.member member other)) (old.here p choice at);
}

-- one on this member
and_no : (a b : Bool) → b ≡ false → (a && b) ≡ false
and_no true b e = e
and_no false b e = refl

pub choices_set : (ds : List Decision) (i member count : ℕ) (d e : Decision) (choices new : List (Option Bool))
    → i < length ds → d ≡ get_or ds i e → d.member ≡ member → d.pairing < count
    → new ≡ set choices d.pairing (Some d.flies)
    → AreChoices (take i ds) member count choices → AreChoices (take (i + 1) ds) member count new
choices_set ds i member count d e choices new lt is same known made old =
    let said : Option Bool = Some d.flies in
    let written = set choices d.pairing said in
    record {
      each = ap (λ (xs : List (Option Bool)). length xs) made ∙ length-set choices d.pairing said ∙ old.each;
      here =
          λ p choice at.
          let at' = subst (λ (xs : List (Option Bool)). slice_get xs p ≡ Some choice) made at in
          elim (cases_eq p d.pairing) [
            | inl here ↦
                let on = subst (λ (q : ℕ). (d.pairing == q) ≡ true) (sym here) (eq-eqb d.pairing d.pairing refl) in
                let there = subst (λ (q : ℕ). slice_get written q ≡ Some choice) here at' in
                let found : said ≡ choice =
                sym (get_or-set_same choices d.pairing said said (omega (arith, old.each, known)))
                ∙ get_or_from_slice_get written d.pairing choice said there in
                subst (λ (c : Option Bool). IsChoice (take (i + 1) ds) member p c) found
                (on_pair ds i member p d e lt is (and_from (d.member == member) (d.pairing == p) (eq-eqb d.member member same) on))
            | inr else ↦
                let off : (d.pairing == p) ≡ false = ne_eqb d.pairing p (λ same. else (sym same)) in
                let within : p < length choices = omega (arith, slice_get_within written p choice at', length-set choices d.pairing said) in
                let before : slice_get choices p ≡ Some choice =
                slice_get-get_or choices p choice within
                ∙ ap (λ (c : Option Bool). Some c)
                (sym (get_or-set_other choices d.pairing p said choice else) ∙ get_or_from_slice_get written p choice choice at') in
                off_pair ds i member p d e choice lt is (and_no (d.member == member) (d.pairing == p) off) (old.here p choice before)
          ];
    }

-- all decisions, newest first
turned : (ds : List Decision) (m p : ℕ) (choice : Option Bool) → IsChoice ds m p choice → IsChoice (reverse ds) m p choice
turned ds m p None h = is_decided_reverse ds m p ∙ h
turned ds m p (Some flies) h = is_decided_as_reverse ds m p flies ∙ h

pub choices_all : (ds : List Decision) (i member count : ℕ) (choices : List (Option Bool))
    → length ds ≤ i → AreChoices (take i ds) member count choices → AreChoices ds member count choices
choices_all ds i member count choices le old =
    subst (λ (ns : List Decision). AreChoices ns member count choices) (take_all i ds le) old

pub choices_turned : (ds node : List Decision) (member count : ℕ) (choices : List (Option Bool))
    → reverse ds ≡ node → AreChoices ds member count choices → AreChoices node member count choices
choices_turned ds node member count choices e old = record {
  each = old.each;
  here =
      λ p choice at.
      subst (λ (ns : List Decision). IsChoice ns member p choice) e (turned ds member p choice (old.here p choice at));
}

-- pairings that decisions name, in any order
all_reversed : (P : Decision → Type 0) (xs : List Decision) → All P xs → All P (reverse xs)
all_reversed P xs all k d lt =
    let same = length-reverse xs in
    subst P (sym (get_or-reverse xs k d (omega (arith, lt, same)))) (all (length xs - 1 - k) d (omega (arith, lt, same)))

pub known_turned : (ds node : List Decision) (count : ℕ) → reverse ds ≡ node
    → All (λ d. d.pairing < count) node → All (λ d. d.pairing < count) ds
known_turned ds node count e known =
    let P = λ (d : Decision). d.pairing < count in
    subst (λ (ns : List Decision). All P ns) (reverse-reverse ds)
    (all_reversed P (reverse ds) (subst (λ (ns : List Decision). All P ns) (sym e) known))

-- one pairing more of the line, and of those that are decided
pub line_more : (node : List Decision) (member count k : ℕ) (choices : List (Option Bool)) (flies : Bool)
    → AreChoices node member count choices → slice_get choices k ≡ Some (Some flies)
    → ((p : ℕ) → p < k → is_decided node member p ≡ true)
    → (p : ℕ) → p < k + 1 → is_decided node member p ≡ true
line_more node member count k choices flies all here before p lt =
    elim (cases_eq p k) [
      | inl same ↦
          subst (λ (q : ℕ). is_decided node member q ≡ true) (sym same) (decided_by node member k flies (all.here k (Some flies) here))
      | inr else ↦ before p (omega (arith, lt, else))
    ]

pub line_with : (node : List Decision) (member count k : ℕ) (choices : List (Option Bool)) (flies : Bool) (flown : List ℕ)
    → AreChoices node member count choices → slice_get choices k ≡ Some (Some flies) → flies ≡ true
    → flown ≡ filter (λ p. is_decided_as node member p true) (range_with_len 0 k)
    → flown ++ k ∷ [] ≡ filter (λ p. is_decided_as node member p true) (range_with_len 0 (k + 1))
line_with node member count k choices flies flown all here is old =
    ap (λ (xs : List ℕ). xs ++ k ∷ []) old
    ∙ sym
    (filter_kept (λ (p : ℕ). is_decided_as node member p true) k
    (subst (λ (b : Bool). is_decided_as node member k b ≡ true) is (all.here k (Some flies) here)))

pub line_without : (node : List Decision) (member count k : ℕ) (choices : List (Option Bool)) (flies : Bool) (flown : List ℕ)
    → HasNoPairTwice node → AreChoices node member count choices → slice_get choices k ≡ Some (Some flies) → flies ≡ false
    → flown ≡ filter (λ p. is_decided_as node member p true) (range_with_len 0 k)
    → flown ≡ filter (λ p. is_decided_as node member p true) (range_with_len 0 (k + 1))
line_without node member count k choices flies flown once all here is old =
    old
    ∙ sym
    (filter_passed (λ (p : ℕ). is_decided_as node member p true) k
    (one_way node member k once
    (subst (λ (b : Bool). is_decided_as node member k b ≡ true) is (all.here k (Some flies) here))))

-- an element as the loop reads it
pub choice_read : (slice choices : List (Option Bool)) (k : ℕ) (choice : Option Bool)
    → slice ≡ choices → k < length slice → get_or slice k None ≡ choice → slice_get choices k ≡ Some choice
choice_read slice choices k choice e lt is =
    subst (λ (xs : List (Option Bool)). slice_get xs k ≡ Some choice) e
    (slice_get-get_or slice k None lt ∙ ap (λ (c : Option Bool). Some c) is)
