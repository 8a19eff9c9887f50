-- The texts of members are lines of clean fields.
use Rattle.std.proofs.Common.{◌≡◌, ℕ, ◌≤◌, List, [], ◌∷◌, ◌++◌, length, map, flat_map, refl, sym, ap, ◌∙◌, append_assoc, All}
use Rattle.std.proofs.lemmas.List.Elements.{All-head, All-tail}
use Rattle.duty_calendar.specs.declared.horizon.Horizon.{Horizon}
use Rattle.duty_calendar.specs.declared.member.Member.{Member}
use Rattle.field_text.proofs.CleanLines.{clean_lines, AreClean, AreCleanRows}
use Rattle.crew_files.specs.declared.part.Part.{Part}
use Rattle.crew_files.specs.Crew.{crew_header}
use Rattle.crew_files.specs.Events.{event_header, part_of}
use Rattle.crew_files.specs.Texts.{crew_fields, crew_text, event_fields, events_of_member, events_text}
use Rattle.field_text.specs.Rows.{line}

lines-append : (rs qs : List (List (List ℕ))) → clean_lines (rs ++ qs) ≡ clean_lines rs ++ clean_lines qs
lines-append [] qs = refl
lines-append (r ∷ rs) qs = ap (λ (t : List ℕ). line r ++ t) (lines-append rs qs) ∙ sym (append_assoc (line r) (clean_lines rs) (clean_lines qs))

module _ {X : Type 0} (fields : X → List (List ℕ)) where
  each-line : (xs : List X) → flat_map (λ (x : X). line (fields x)) xs ≡ clean_lines (map fields xs)
  each-line [] = refl
  each-line (x ∷ xs) = ap (λ (t : List ℕ). line (fields x) ++ t) (each-line xs)

  pub each-clean : (P : X → Type 0) → ((x : X) → P x → (2 ≤ length (fields x)) × AreClean (fields x)) → (xs : List X) → All P xs → AreCleanRows (map fields xs)
  each-clean P h [] a = tt
  each-clean P h (x ∷ xs) a = let p = h x (All-head P x xs a) in (p.0, p.1, each-clean P h xs (All-tail P x xs a))

pub clean-rows : (rs qs : List (List (List ℕ))) → AreCleanRows rs → AreCleanRows qs → AreCleanRows (rs ++ qs)
clean-rows [] qs a b = b
clean-rows (r ∷ rs) qs a b = (a.0, a.1, clean-rows rs qs a.2 b)

pub crew-lines : (list : List Member) → crew_text list ≡ clean_lines (crew_header ∷ map crew_fields list)
crew-lines list = ap (λ (t : List ℕ). line crew_header ++ t) (each-line crew_fields list)

-- the rows of a part of a member
abbrev pub member_rows : Horizon → Part → Member → List (List (List ℕ))
member_rows h part m = map (event_fields h m.name) (part_of part m)

module _ (h : Horizon) (part : Part) where
  rows-lines : (list : List Member) → flat_map (events_of_member h part) list ≡ clean_lines (flat_map (member_rows h part) list)
  rows-lines [] = refl
  rows-lines (m ∷ ms) =
      ap (λ (t : List ℕ). t ++ flat_map (events_of_member h part) ms)
      (each-line (event_fields h m.name) (part_of part m))
      ∙ ap (λ (t : List ℕ). clean_lines (member_rows h part m) ++ t) (rows-lines ms)
      ∙ sym (lines-append (member_rows h part m) (flat_map (member_rows h part) ms))

  pub events-lines : (list : List Member) → events_text h part list ≡ clean_lines (event_header ∷ flat_map (member_rows h part) list)
  events-lines list = ap (λ (t : List ℕ). line event_header ++ t) (rows-lines list)
