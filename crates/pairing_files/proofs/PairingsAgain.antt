-- The three texts of pairings are read as these pairings.
use Rattle.std.proofs.Common.{◌≡◌, ℕ, ◌+◌, ◌≤◌, List, [], ◌∷◌, ◌++◌, length, map, false, ◌==◌, get_or, Option, Some, None, Result, Ok, slice_get, position, All, refl, arith, ap, sym, subst, ◌∙◌}
use Rattle.std.specs.Option.{option_map_or}
use Rattle.std.specs.Prelude.{codes, IsTrue}
use Rattle.std.proofs.lemmas.Bool.Decides.{nat_tests}
use Rattle.std.proofs.lemmas.List.Elements.{All-weaker}
use Rattle.duty_calendar.specs.Calendar.{horizon_end}
use Rattle.duty_calendar.specs.Checks.{IsDuty, IsPairing, ArePairings}
use Rattle.duty_calendar.specs.Forms.{is_name}
use Rattle.duty_calendar.specs.declared.horizon.Horizon.{Horizon}
use Rattle.duty_calendar.specs.declared.pairing.Duty.{Duty}
use Rattle.duty_calendar.specs.declared.pairing.Leg.{Leg}
use Rattle.duty_calendar.specs.declared.pairing.Pairing.{Pairing}
use Rattle.field_text.specs.Rows.{file, line, line_end}
use Rattle.field_text.specs.Steps.{◌>>=◌}
use Rattle.field_text.specs.declared.file_fault.FileFault.{FileFault}
use Rattle.field_text.specs.declared.file_fault.FileName.TheVariants.{Pairings, Duties, Legs}
use Rattle.field_text.proofs.CleanLines.{AreCleanRows, clean_lines, lines-read}
use Rattle.pairing_files.specs.declared.tables.Place.{Place}
use Rattle.pairing_files.specs.Columns.{pairings_header, duties_header, legs_header}
use Rattle.pairing_files.specs.Drafts.{Draft, no_draft}
use Rattle.pairing_files.specs.Files.{pairing_row, duty_row, leg_row, pairings_file, duties_file, legs_file, is_idle, is_bare, lacks_parts, part_fault, unless, finished, pairings_of}
use Rattle.field_text.specs.Records.{records_of}
use Rattle.pairing_files.specs.Texts.{lines, pairing_rows, duty_rows, all_duty_rows, leg_rows, duties_leg_rows, all_leg_rows, pairings_text, duties_text, legs_text}
use Rattle.pairing_files.proofs.FaultsAgain.{both-fit}
use Rattle.pairing_files.proofs.FilesAgain.{draft, stripped, undressed, pairing-spelt, duty-spelt, leg-spelt, pairings-lead, all-duties-lead, all-legs-lead}
use Rattle.pairing_files.proofs.ListFacts.{all-get}
use Rattle.pairing_files.proofs.RowsAgain.{pairing-clean, duty-clean, leg-clean}
use Rattle.pairing_files.proofs.RowsLead.{lead-file}
use Rattle.pairing_files.proofs.Seams.{seam-next, seam-size, seam-short, seam-all, all-head, all-tail, none-found}

-- lines

lines-same : (rows : List (List (List ℕ))) → lines rows ≡ clean_lines rows
unfolding lines
lines-same [] = refl
lines-same (r ∷ rs) = ap (λ (t : List ℕ). line r ++ t) (lines-same rs)

-- a header that begins with such a byte, and rows
records-again : (a : ℕ) (bs : List ℕ) (fs : List (List ℕ)) (rows : List (List (List ℕ))) → a ≤ 122 → AreCleanRows (((a ∷ bs) ∷ fs) ∷ rows) → records_of (line ((a ∷ bs) ∷ fs) ++ lines rows) ≡ ((a ∷ bs) ∷ fs) ∷ rows
records-again a bs fs rows low clean =
    let header = (a ∷ bs) ∷ fs in
    let same : line header ++ lines rows ≡ clean_lines (header ∷ rows) = ap (λ (t : List ℕ). line header ++ t) (lines-same rows) in
    ap records_of same ∙ lines-read a ((bs ++ line_end fs) ++ clean_lines rows) (header ∷ rows) low refl clean

clean-join : (xs ys : List (List (List ℕ))) → AreCleanRows xs → AreCleanRows ys → AreCleanRows (xs ++ ys)
clean-join [] ys a b = b
clean-join (x ∷ xs) ys a b = (a.0, a.1, clean-join xs ys a.2 b)

-- rows

pairings-clean : (h : Horizon) (list : List Pairing) → All (IsPairing h) list → AreCleanRows (pairing_rows list)
unfolding pairing_rows
pairings-clean h [] all = tt
pairings-clean h (p ∷ ps) all =
    (omega arith, pairing-clean p (pairing-spelt h p (all-head (IsPairing h) p ps all)), pairings-clean h ps (all-tail (IsPairing h) p ps all))

duties-clean : (h : Horizon) (p : Pairing) (had todo : List Duty) (number : ℕ) → IsPairing h p → p.duties ≡ had ++ todo → number ≡ length had + 1 → AreCleanRows (duty_rows h p.name number todo)
unfolding duty_rows
duties-clean h p had [] number v e n = tt
duties-clean h p had (d ∷ ds) number v e n =
    let size = seam-size had d in (
      omega arith,
      duty-clean h p.name number d (duty-spelt h p had ds d number v e n),
      duties-clean h p (had ++ d ∷ []) ds (number + 1) v (e ∙ sym (seam-next had d ds)) (omega (arith, size, n)),
    )

all-duties-clean : (h : Horizon) (list : List Pairing) → All (IsPairing h) list → AreCleanRows (all_duty_rows h list)
unfolding all_duty_rows
all-duties-clean h [] all = tt
all-duties-clean h (p ∷ ps) all =
    clean-join (duty_rows h p.name 1 p.duties) (all_duty_rows h ps) (duties-clean h p [] p.duties 1 (all-head (IsPairing h) p ps all) refl refl) (all-duties-clean h ps (all-tail (IsPairing h) p ps all))

legs-clean : (h : Horizon) (name : List ℕ) (number : ℕ) (d : Duty) (had todo : List Leg) → IsTrue (is_name name) → number ≤ 12 → IsDuty d → d.release ≤ horizon_end h → d.legs ≡ had ++ todo → AreCleanRows (leg_rows h name number todo)
unfolding leg_rows
legs-clean h name number d had [] named few v ends e = tt
legs-clean h name number d had (l ∷ ls) named few v ends e = (
  omega arith,
  leg-clean h name number l (leg-spelt h name d had ls l number named few v ends e),
  legs-clean h name number d (had ++ l ∷ []) ls named few v ends (e ∙ sym (seam-next had l ls)),
)

duties-legs-clean : (h : Horizon) (p : Pairing) (had todo : List Duty) (number : ℕ) → IsPairing h p → p.duties ≡ had ++ todo → number ≡ length had + 1 → AreCleanRows (duties_leg_rows h p.name number todo)
unfolding duties_leg_rows
duties-legs-clean h p had [] number v e n = tt
duties-legs-clean h p had (d ∷ ds) number v e n =
    let good : IsDuty d = seam-all IsDuty had d ds (subst (All IsDuty) e v.each_duty) in
    let ends : d.release ≤ horizon_end h = seam-all (λ (x : Duty). x.release ≤ horizon_end h) had d ds (subst (All (λ (x : Duty). x.release ≤ horizon_end h)) e v.ends) in
    let few : number ≤ 12 = omega (arith, n, seam-short had d ds, ap length e, v.few_duties) in
    let size = seam-size had d in
    clean-join (leg_rows h p.name number d.legs) (duties_leg_rows h p.name (number + 1) ds) (legs-clean h p.name number d [] d.legs v.named few good ends refl)
    (duties-legs-clean h p (had ++ d ∷ []) ds (number + 1) v (e ∙ sym (seam-next had d ds)) (omega (arith, size, n)))

all-legs-clean : (h : Horizon) (list : List Pairing) → All (IsPairing h) list → AreCleanRows (all_leg_rows h list)
unfolding all_leg_rows
all-legs-clean h [] all = tt
all-legs-clean h (p ∷ ps) all =
    clean-join (duties_leg_rows h p.name 1 p.duties) (all_leg_rows h ps) (duties-legs-clean h p [] p.duties 1 (all-head (IsPairing h) p ps all) refl refl) (all-legs-clean h ps (all-tail (IsPairing h) p ps all))

-- files

pairings-records : (h : Horizon) (list : List Pairing) → All (IsPairing h) list → records_of (pairings_text list) ≡ pairings_header ∷ pairing_rows list
pairings-records h list all =
    records-again 112 (codes "airing") (codes "need" ∷ codes "credit" ∷ []) (pairing_rows list) (omega arith) (omega arith, (refl, (refl, (refl, tt))), pairings-clean h list all)

duties-records : (h : Horizon) (list : List Pairing) → All (IsPairing h) list → records_of (duties_text h list) ≡ duties_header ∷ all_duty_rows h list
duties-records h list all =
    records-again 112 (codes "airing") (codes "no" ∷ codes "report" ∷ codes "parked" ∷ codes "release" ∷ codes "layover" ∷ []) (all_duty_rows h list) (omega arith) (omega arith, (refl, (refl, (refl, (refl, (refl, (refl, tt)))))), all-duties-clean h list all)

legs-records : (h : Horizon) (list : List Pairing) → All (IsPairing h) list → records_of (legs_text h list) ≡ legs_header ∷ all_leg_rows h list
legs-records h list all =
    records-again 112 (codes "airing") (codes "no" ∷ codes "from" ∷ codes "to" ∷ codes "out" ∷ codes "in" ∷ []) (all_leg_rows h list) (omega arith) (omega arith, (refl, (refl, (refl, (refl, (refl, (refl, tt)))))), all-legs-clean h list all)

three-steps : {A B C E : Type 0} (x : Result A E) (f : A → Result B E) (g : B → Result C E) (a : A) (b : B) (c : C) → x ≡ Ok a → f a ≡ Ok b → g b ≡ Ok c → (x >>= (λ n. f n >>= (λ m. g m))) ≡ Ok c
three-steps x f g a b c e1 e2 e3 = rw (e1, e2, e3) refl

-- no pairing lacks duties, and no duty legs

some-there : (n : ℕ) → 1 ≤ n → (n == 0) ≡ false
some-there n h = grind (arith, nat_tests)

clad-at : (list : List Pairing) (h : Horizon) (place : Place) → All (IsPairing h) list → is_bare list place ≡ false
clad-at list h place all = go (slice_get list place.pairing) refl
  where
    legs : (p : Pairing) → IsPairing h p → (o : Option Duty) → slice_get p.duties place.duty ≡ o → option_map_or (λ d. length d.legs == 0) o false ≡ false
    legs p v None e = refl
    legs p v (Some d) e = let good : IsDuty d = all-get IsDuty p.duties place.duty d v.each_duty e in some-there (length d.legs) good.some_legs

    go : (o : Option Pairing) → slice_get list place.pairing ≡ o → option_map_or (λ p. option_map_or (λ d. length d.legs == 0) (slice_get p.duties place.duty) false) o false ≡ false
    go None e = refl
    go (Some p) e = legs p (all-get (IsPairing h) list place.pairing p all e) (slice_get p.duties place.duty) refl

parts-there : (h : Horizon) (list : List Pairing) (places : List Place) → All (IsPairing h) list → part_fault (draft list places) ≡ None
parts-there h list places all =
    both-fit (lacks_parts Pairings (position is_idle list)) (lacks_parts Duties (position (is_bare list) places))
    (ap (lacks_parts Pairings) (none-found is_idle list (All-weaker (IsPairing h) (λ (p : Pairing). is_idle p ≡ false) (λ (p : Pairing). λ v. some-there (length p.duties) v.some_duties) list all)))
    (ap (lacks_parts Duties) (none-found (is_bare list) places (λ k d w. clad-at list h (get_or places k d) all)))

pub pairings-again : (h : Horizon) (list : List Pairing) → ArePairings h list → pairings_of h (pairings_text list) (duties_text h list) (legs_text h list) ≡ Ok list
pairings-again h list v =
    let duties = all-duties-lead h [] list [] v.each v.names in
    let first : pairings_file (pairings_text list) no_draft ≡ Ok (draft (map stripped list) []) =
    ap (file Pairings pairings_header pairing_row no_draft) (pairings-records h list v.each)
    ∙ lead-file Pairings pairing_row pairings_header no_draft (draft (map stripped list) []) (pairing_rows list) refl (pairings-lead h [] list v.each v.names v.few) in
    let second : duties_file h (duties_text h list) (draft (map stripped list) []) ≡ Ok (draft (map undressed list) duties.places) =
    ap (file Duties duties_header (duty_row h) (draft (map stripped list) [])) (duties-records h list v.each)
    ∙ lead-file Duties (duty_row h) duties_header (draft (map stripped list) []) (draft (map undressed list) duties.places) (all_duty_rows h list) refl duties.leads in
    let third : legs_file h (legs_text h list) (draft (map undressed list) duties.places) ≡ Ok (draft list duties.places) =
    ap (file Legs legs_header (leg_row h) (draft (map undressed list) duties.places)) (legs-records h list v.each)
    ∙ lead-file Legs (leg_row h) legs_header (draft (map undressed list) duties.places) (draft list duties.places) (all_leg_rows h list) refl (all-legs-lead h [] list duties.places v.each v.names) in
    ap (λ (r : Result Draft FileFault). r >>= finished)
    (three-steps (pairings_file (pairings_text list) no_draft) (duties_file h (duties_text h list)) (legs_file h (legs_text h list)) (draft (map stripped list) []) (draft (map undressed list) duties.places) (draft list duties.places) first second third)
    ∙ ap (λ (o : Option FileFault). unless o list) (parts-there h list duties.places v.each)

-- the same of texts that are these
pub texts-again : (h : Horizon) (list : List Pairing) (pairings duties legs : List ℕ) → pairings ≡ pairings_text list → duties ≡ duties_text h list → legs ≡ legs_text h list → ArePairings h list
    → pairings_of h pairings duties legs ≡ Ok list
texts-again h list pairings duties legs a b c v =
    ap (λ (t : List ℕ). pairings_of h t duties legs) a ∙ ap (λ (t : List ℕ). pairings_of h (pairings_text list) t legs) b
    ∙ ap (λ (t : List ℕ). pairings_of h (pairings_text list) (duties_text h list) t) c ∙ pairings-again h list v
