-- Which pairings a member's line may have together, and which items a chain visits.
use Rattle.std.specs.Option.{option_map_or}
use Rattle.std.specs.Prelude.{ℕ, ◌+◌, Bool, true, not, ◌&&◌, nat_lt, slice_get, ◌||◌, nat_le, length, ◌≡◌, ◌≤◌, ◌≢◌, ◌⊎◌, ◌==◌, if◌then◌else◌}
use Rattle.roster_model.specs.Spans.{first_report, last_release}
use Rattle.roster_model.specs.declared.problem.Problem.{Problem}
use Rattle.roster_model.specs.declared.proof.Lens.{Lens}
use Rattle.line_items.specs.Items.{item_count}

-- what is known of the pairings of a line, by number: which may be flown, which must, when each begins and when the rest after it ends
pub record IsApartLine (base : Bool) (allowed must : ℕ → Bool) (begins rests : ℕ → ℕ) (flown : ℕ → Bool) : Type 0 where
  pub base_holds : base ≡ true
  pub each_allowed : (p : ℕ) → flown p ≡ true → allowed p ≡ true
  pub all_must : (p : ℕ) → must p ≡ true → flown p ≡ true
  pub each_two : (p q : ℕ) → flown p ≡ true → flown q ≡ true → p ≢ q → (rests p ≤ begins q) ⊎ (rests q ≤ begins p)

-- the sink may always be visited, and a place whose pairing may be flown
abbrev pub may_visit : Bool → (ℕ → Bool) → (ℕ → ℕ) → ℕ → ℕ → Bool
may_visit base allowed adds sink j = base && (j == sink || allowed (adds j))

-- the sink comes last, and a pairing after the rest that follows the one before
abbrev pub is_near : (ℕ → ℕ) → (ℕ → ℕ) → (ℕ → ℕ) → ℕ → ℕ → ℕ → Bool
is_near begins rests adds sink i j = not (i == sink) && (j == sink || nat_le (rests (adds i)) (begins (adds j)))

-- when the pairing of this number begins, and when the rest after it ends
abbrev pub begins_at : Problem → ℕ → ℕ
begins_at problem p = option_map_or (λ q. first_report q.duties) (slice_get problem.base.pairings p) 0

abbrev pub rests_until : Problem → ℕ → ℕ
rests_until problem p = option_map_or (λ q. last_release q.duties + 600) (slice_get problem.base.pairings p) 0

-- whether a chain visits the item, where its line has the pairings that pass
abbrev pub is_visited : Problem → ℕ → Lens → (ℕ → Bool) → ℕ → Bool
is_visited problem member lens flown item =
    if nat_lt item (length problem.base.pairings) then flown item else nat_lt item (item_count problem member lens)
