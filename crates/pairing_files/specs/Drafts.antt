-- What the rows that were read have given, and what a row adds.
use Rattle.std.specs.Prelude.{◌≡◌, ℕ, Bool, List, [], ◌∷◌, ◌++◌, length, map, nat_eq, position, Option, slice_set}
use Rattle.std.specs.Cmp.Lexicographic.{pointwise}
use Rattle.duty_calendar.specs.declared.pairing.Duty.{Duty}
use Rattle.duty_calendar.specs.declared.pairing.Leg.{Leg}
use Rattle.duty_calendar.specs.declared.pairing.Pairing.{Pairing}
use Rattle.pairing_files.specs.declared.tables.Place.{Place}
use Rattle.pairing_files.specs.declared.tables.Tables.{Tables}

-- the pairings in the order of their file, and the place of each duty in the order of its file
pub record Draft : Type 0 where
  pub list : List Pairing
  pub places : List Place

abbrev pub no_draft : Draft
no_draft = record { list = []; places = [] }

abbrev pub is_called : List ℕ → Pairing → Bool
is_called name p = pointwise nat_eq name p.name

-- the place of the pairing of this name
abbrev pub place_of : List ℕ → List Pairing → Option ℕ
place_of name list = position (is_called name) list

abbrev pub adding_duty : Pairing → Duty → Pairing
adding_duty p d = record p { duties = p.duties ++ d ∷ [] }

abbrev pub adding_leg : Duty → Leg → Duty
adding_leg d l = record d { legs = d.legs ++ l ∷ [] }

abbrev pub with_pairing : Draft → Pairing → Draft
with_pairing before p = record { list = before.list ++ p ∷ []; places = before.places }

-- p stands at place i, and gets the duty as its last
abbrev pub with_duty : Draft → ℕ → Pairing → Duty → Draft
with_duty before i p d = record {
  list = slice_set before.list i (adding_duty p d);
  places = before.places ++ record { pairing = i; duty = length p.duties } ∷ [];
}

-- p stands at place i and d at its place k, and gets the leg as its last
abbrev pub with_leg : Draft → ℕ → Pairing → ℕ → Duty → Leg → Draft
with_leg before i p k d l = record {
  list = slice_set before.list i (record p { duties = slice_set p.duties k (adding_leg d l) });
  places = before.places;
}

-- what the reader's tables hold
abbrev pub draft_of : Tables → Draft
draft_of t = record { list = t.list; places = t.places.items }

-- the table of names names the pairings in their order
abbrev pub IsNamed : Tables → Type 0
IsNamed t = t.names.keys ≡ map (λ p. p.name) t.list
