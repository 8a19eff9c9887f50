-- What each step of a sweep over vacant lines leaves.
use Rattle.std.proofs.Common.{◌≡◌, ℕ, ◌+◌, ◌<◌, ◌≤◌, Bool, true, false, List, length, Some, ◌⊎◌, refl, sym, ap, subst, ◌∙◌, arith, inl, inr}
use Rattle.std.specs.Option.{ForSome}
use Rattle.std.proofs.lemmas.Bool.{cases_eq, false≢true}
use Rattle.roster_model.specs.declared.problem.Problem.{Problem}
use Rattle.roster_model.specs.Rosters.{IsComplete, line_at}
use Rattle.roster_model.specs.Scores.{is_flown}
use Rattle.open_time.specs.Moves.{IsFewer, IsSettled, CanMove, IsRefusedBefore, IsMove, IsSwept, open_pairings}
use Rattle.open_time.proofs.Moving.{kept_same, kept_more, line_known, flown_known, fewer_open}

-- ---- one pairing

bool_cases : (b : Bool) → (b ≡ true) ⊎ (b ≡ false)
bool_cases true = inl refl
bool_cases false = inr refl

pub not_there : (problem : Problem) (roster : List (List ℕ)) (giver pairing stop : ℕ)
    → is_flown (line_at roster giver) pairing ≡ false → IsRefusedBefore problem roster giver pairing stop
not_there problem roster giver pairing stop none taker lt can = absurd (false≢true (sym none ∙ can.has))

pub one_refused : (problem : Problem) (roster : List (List ℕ)) (giver pairing stop : ℕ) → IsRefusedBefore problem roster giver pairing stop
    → (CanMove problem roster giver stop pairing → ⊥) → IsRefusedBefore problem roster giver pairing (stop + 1)
one_refused problem roster giver pairing stop before none taker lt can =
    elim (cases_eq taker stop) [
      | inl same ↦ none (subst (λ (m : ℕ). CanMove problem roster giver m pairing) same can)
      | inr differs ↦ before taker (omega (arith, lt, differs)) can
    ]

-- a pairing that went
pub one_taken : (problem : Problem) (roster made : List (List ℕ)) (crew giver taker pairing : ℕ) → IsComplete problem roster → crew ≤ giver
    → giver < length problem.base.members → taker < crew → IsMove problem roster giver taker pairing (Some made) → IsFewer problem crew roster made
one_taken problem roster made crew giver taker pairing is le lt before can =
    subst (IsFewer problem crew roster) (sym can.0)
    (fewer_open roster crew giver taker pairing le (omega (arith, lt, is.lines)) before problem is.lines can.1)

-- ---- one pairing after the other

module _ (problem : Problem) (crew giver p : ℕ) (roster current : List (List ℕ)) (moves : Bool) (is : IsSwept problem crew giver p roster current moves) where
  -- fewer than before, or as many
  no_more_open : open_pairings problem crew current ≤ open_pairings problem crew roster
  no_more_open =
      elim (bool_cases moves) [
        | inl e ↦ omega (arith, is.fewer e)
        | inr e ↦ omega (arith, ap (λ (xs : List (List ℕ)). open_pairings problem crew xs) (is.still e))
      ]

  pub pairing_moved : (made : List (List ℕ)) → IsFewer problem crew current made → IsSwept problem crew giver (p + 1) roster made true
  pairing_moved made fewer = record {
    kept = kept_more problem crew roster current made is.kept fewer.kept;
    fewer = λ e. omega (arith, fewer.fewer, no_more_open);
    still = λ e. absurd (false≢true (sym e));
    lines = λ e. absurd (false≢true (sym e));
    here = λ e. absurd (false≢true (sym e));
  }

  pub pairing_stays : IsRefusedBefore problem current giver p crew → IsSwept problem crew giver (p + 1) roster current moves
  pairing_stays none = record {
    kept = is.kept;
    fewer = is.fewer;
    still = is.still;
    lines = is.lines;
    here = λ e q lt.
        elim (cases_eq q p) [
          | inl same ↦
              subst (λ (k : ℕ). IsRefusedBefore problem roster giver k crew) (sym same)
              (subst (λ (xs : List (List ℕ)). IsRefusedBefore problem xs giver p crew) (is.still e) none)
          | inr differs ↦ is.here e q (omega (arith, lt, differs))
        ];
  }

  -- the line's last pairing
  pub line_done : length problem.base.pairings ≤ p → IsSwept problem crew (giver + 1) 0 roster current moves
  line_done all = record {
    kept = is.kept;
    fewer = is.fewer;
    still = is.still;
    lines = λ e v q le lt in_range.
        elim (cases_eq v giver) [
          | inl same ↦
              subst (λ (k : ℕ). IsRefusedBefore problem roster k q crew) (sym same)
              (is.here e q (omega (arith, in_range, all)))
          | inr differs ↦ is.lines e v q le (omega (arith, lt, differs)) in_range
        ];
    here = λ e q lt. absurd (omega (arith, lt));
  }

pub sweep_begun : (problem : Problem) (crew : ℕ) (roster : List (List ℕ)) → IsComplete problem roster → IsSwept problem crew crew 0 roster roster false
sweep_begun problem crew roster is = record {
  kept = kept_same problem crew roster is;
  fewer = λ e. absurd (false≢true e);
  still = λ e. refl;
  lines = λ e v p le lt. absurd (omega (arith, le, lt));
  here = λ e p lt. absurd (omega (arith, lt));
}

-- where nothing moved, nothing can
pub sweep_settled : (problem : Problem) (crew stop : ℕ) (roster made : List (List ℕ)) (moves : Bool) → IsComplete problem roster → moves ≡ false
    → length problem.base.members ≤ stop → IsSwept problem crew stop 0 roster made moves → IsSettled problem crew made
sweep_settled problem crew stop roster made moves is none all swept giver taker pairing le lt before can =
    let old : CanMove problem roster giver taker pairing =
    subst (λ (xs : List (List ℕ)). CanMove problem xs giver taker pairing) (swept.still none) can in
    swept.lines none giver pairing le (omega (arith, lt, all))
    (flown_known (length problem.base.pairings) (line_at roster giver) pairing (line_known problem roster giver is lt) old.has) taker before old

-- a value that is there
pub for_some : (P : List (List ℕ) → Type 0) (a : List (List ℕ)) → P a → ForSome (Some a) P
for_some P a h x e =
    let same : a ≡ x = cc in
    subst P same h
