-- The three files that are written are read as the pairings.
use Rattle.std.proofs.Common.{◌≡◌, ◌≢◌, ℕ, suc, ◌+◌, ◌-◌, ◌<◌, ◌≤◌, List, [], ◌∷◌, ◌++◌, length, map, false, Option, Some, None, Result, Ok, slice_get, slice_set, All, AllPairs, refl, arith, ap, sym, subst, ◌∙◌, append-nil}
use Rattle.std.specs.Prelude.{IsTrue}
use Rattle.std.proofs.lemmas.List.Elements.{All-map, All-weaker}
use Rattle.duty_calendar.specs.Calendar.{horizon_end}
use Rattle.duty_calendar.specs.Checks.{IsDuty, IsPairing}
use Rattle.duty_calendar.specs.Forms.{is_name, is_station_code}
use Rattle.duty_calendar.specs.declared.horizon.Horizon.{Horizon}
use Rattle.duty_calendar.specs.declared.pairing.Duty.{Duty}
use Rattle.duty_calendar.specs.declared.pairing.Leg.{Leg}
use Rattle.duty_calendar.specs.declared.pairing.Pairing.{Pairing}
use Rattle.field_text.specs.Steps.{◌>>=◌}
use Rattle.field_text.specs.declared.file_fault.FileCode.{FileCode}
use Rattle.field_text.specs.declared.file_fault.FileName.TheVariants.{Pairings, Duties, Legs}
use Rattle.pairing_files.specs.declared.row.DutyRow.{DutyRow}
use Rattle.pairing_files.specs.declared.row.LegRow.{LegRow}
use Rattle.pairing_files.specs.declared.tables.Place.{Place}
use Rattle.pairing_files.specs.Columns.{pairing_columns, duty_columns, leg_columns}
use Rattle.pairing_files.specs.Drafts.{Draft, is_called, place_of, adding_duty, with_pairing, with_duty, with_leg}
use Rattle.pairing_files.specs.Faults.{duty_fault, leg_fault, numbered}
use Rattle.pairing_files.specs.Files.{unless, place_pairing, place_duty, place_leg, pairing_row, duty_row, leg_row}
use Rattle.pairing_files.specs.Texts.{pairing_fields, duty_fields, leg_fields, pairing_rows, duty_rows, all_duty_rows, leg_rows, duties_leg_rows, all_leg_rows}
use Rattle.pairing_files.proofs.Begun.{same-self}
use Rattle.pairing_files.proofs.FaultsAgain.{pairing-fits, FitsBehind, duty-fits, FliesBehind, leg-fits}
use Rattle.pairing_files.proofs.NameFacts.{length-map_of, map-append_of}
use Rattle.pairing_files.proofs.RowsAgain.{dutied, legged, IsPairingRow, pairing-read, pairing-clean, IsDutyRow, a_duty_row, duty-read, duty-clean, IsLegRow, a_leg_row, leg-read, leg-clean}
use Rattle.pairing_files.proofs.RowsLead.{Leads, lead-none, lead-row, lead-more, clean-row}
use Rattle.pairing_files.proofs.Seams.{seam-get, seam-set, seam-next, seam-size, seam-short, seam-all, seam-pairs, all-head, all-tail, seam-found, apart-bytes}

abbrev pub draft : List Pairing → List Place → Draft
draft list places = record { list = list; places = places }

-- what the files of pairings and of duties give of a pairing
abbrev pub stripped : Pairing → Pairing
stripped p = dutied p []

abbrev pub bare : Duty → Duty
bare d = legged d []

abbrev pub undressed : Pairing → Pairing
undressed p = dutied p (map bare p.duties)

abbrev pub Apart : List Pairing → Type 0
Apart list = AllPairs (λ a b. a.name ≢ b.name) list

-- none of these is called so
abbrev Unnamed : List ℕ → List Pairing → Type 0
Unnamed name list = All (λ a. is_called name a ≡ false) list

unnamed-of : (name : List ℕ) (done : List Pairing) → All (λ a. a.name ≢ name) done → Unnamed name done
unnamed-of name done apart =
    All-weaker (λ (a : Pairing). a.name ≢ name) (λ (a : Pairing). is_called name a ≡ false) (λ (a : Pairing). λ other. apart-bytes name a.name other) done apart

unnamed : (f : Pairing → Pairing) (name : List ℕ) (done : List Pairing) → ((p : Pairing) → (f p).name ≡ p.name) → All (λ a. a.name ≢ name) done → Unnamed name (map f done)
unnamed f name done keeps apart =
    All-map (λ (a : Pairing). is_called name a ≡ false) f done
    (All-weaker (λ (a : Pairing). a.name ≢ name) (λ (a : Pairing). is_called name (f a) ≡ false)
    (λ (a : Pairing). λ other. apart-bytes name (f a).name (λ same. other (sym (keeps a) ∙ same))) done apart)

-- one more pairing behind those that were done
map-next : {X Y : Type 0} (f : X → Y) (done : List X) (p : X) (rest : List Y) → map f done ++ f p ∷ rest ≡ map f (done ++ p ∷ []) ++ rest
map-next {X} {Y} f done p rest = sym (seam-next (map f done) (f p) rest) ∙ ap (λ (t : List Y). t ++ rest) (sym (map-append_of f done (p ∷ [])))

-- the file of pairings

pub pairing-spelt : (h : Horizon) (p : Pairing) → IsPairing h p → IsPairingRow p
pairing-spelt h p v =
    let need : p.need ≤ 9 = v.few_need in
    let credit : p.credit ≤ 12000 = v.few_credit in
    record { named = v.named; need = omega arith; credit = omega arith }

pairing-row : (h : Horizon) (done rest : List Pairing) (p : Pairing) → IsPairing h p → Apart (done ++ p ∷ rest) → length (done ++ p ∷ rest) ≤ 600
    → pairing_row (draft (map stripped done) []) (pairing_fields p) ≡ Ok (draft (map stripped (done ++ p ∷ [])) [])
pairing-row h done rest p v apart few =
    let need : p.need ≤ 9 = v.few_need in
    let credit : p.credit ≤ 12000 = v.few_credit in
    let g = pairing-spelt h p v in
    let before = map stripped done in
    let size = seam-short done p rest in
    let fits = pairing-fits before (stripped p)
    (unnamed stripped p.name done (λ q. refl) (seam-pairs (λ (a b : Pairing). a.name ≢ b.name) done p rest apart))
    (omega (arith, length-map_of stripped done)) v.some_need need credit in
    ap (λ (r : Result Pairing FileCode). r >>= place_pairing (draft before [])) (clean-row 3 (pairing_fields p) (pairing_columns (pairing_fields p)) (pairing-clean p g) refl ∙ pairing-read p g)
    ∙ ap (λ (o : Option FileCode). unless o (with_pairing (draft before []) (stripped p))) fits
    ∙ ap (λ (list : List Pairing). let given : Result Draft FileCode = Ok (draft list []) in given) (sym (map-append_of stripped done (p ∷ [])))

pub pairings-lead : (h : Horizon) (done todo : List Pairing) → All (IsPairing h) todo → Apart (done ++ todo) → length (done ++ todo) ≤ 600
    → Leads Pairings pairing_row (draft (map stripped done) []) (pairing_rows todo) (draft (map stripped (done ++ todo)) [])
unfolding pairing_rows
pairings-lead h done [] all apart few =
    subst (λ (list : List Pairing). Leads Pairings pairing_row (draft (map stripped done) []) [] (draft (map stripped list) [])) (sym (append-nil done)) (lead-none Pairings pairing_row (draft (map stripped done) []))
pairings-lead h done (p ∷ ps) all apart few =
    let same : (done ++ p ∷ []) ++ ps ≡ done ++ p ∷ ps = seam-next done p ps in
    let more = pairings-lead h (done ++ p ∷ []) ps (all-tail (IsPairing h) p ps all) (subst Apart (sym same) apart) (subst (λ (list : List Pairing). length list ≤ 600) (sym same) few) in
    lead-row Pairings pairing_row (draft (map stripped done) []) (draft (map stripped (done ++ p ∷ [])) []) (draft (map stripped (done ++ p ∷ ps)) []) (pairing_fields p) (pairing_rows ps)
    (pairing-row h done ps p (all-head (IsPairing h) p ps all) apart few)
    (subst (λ (list : List Pairing). Leads Pairings pairing_row (draft (map stripped (done ++ p ∷ [])) []) (pairing_rows ps) (draft (map stripped list) [])) same more)

-- the file of duties

place-duty : (h : Horizon) (before : Draft) (r : DutyRow) (i : ℕ) (p : Pairing) → place_of r.name before.list ≡ Some i → slice_get before.list i ≡ Some p → duty_fault h p r.number r.duty ≡ None
    → place_duty h before r ≡ Ok (with_duty before i p r.duty)
place-duty h before r i p a b c = rw (a, b, c) refl

found-place : (before after : List Pairing) (p : Pairing) → Unnamed p.name before → place_of p.name (before ++ p ∷ after) ≡ Some (length before)
found-place before after p none = seam-found (is_called p.name) before p after none (same-self p.name)

duty-row : (h : Horizon) (before after : List Pairing) (p : Pairing) (places : List Place) (had : List Duty) (number : ℕ) (d : Duty)
    → IsDutyRow h p.name number d → Unnamed p.name before → number ≡ length had + 1 → FitsBehind h had d
    → duty_row h (draft (before ++ dutied p (map bare had) ∷ after) places) (duty_fields h p.name number d)
    ≡ Ok (draft (before ++ dutied p (map bare (had ++ d ∷ [])) ∷ after) (places ++ record { pairing = length before; duty = length (map bare had) } ∷ []))
duty-row h before after p places had number d g none n f =
    let q : Pairing = dutied p (map bare had) in
    let s : Draft = draft (before ++ q ∷ after) places in
    let size = length-map_of bare had in
    let behind : FitsBehind h (map bare had) (bare d) = record {
      reported = f.reported;
      parked = f.parked;
      lasts = f.lasts;
      begins = λ e. f.begins (omega (arith, size));
      rested = All-map (λ (x : Duty). x.release + 600 ≤ d.report) bare had f.rested;
      room = omega (arith, size, f.room);
    } in
    let fits = duty-fits h q number (bare d) (omega (arith, size, n)) behind in
    let set = seam-set before q (adding_duty q (bare d)) after in
    let grown : adding_duty q (bare d) ≡ dutied p (map bare (had ++ d ∷ [])) = ap (dutied p) (sym (map-append_of bare had (d ∷ []))) in
    ap (λ (r : Result DutyRow FileCode). r >>= place_duty h s) (clean-row 6 (duty_fields h p.name number d) (duty_columns h (duty_fields h p.name number d)) (duty-clean h p.name number d g) refl ∙ duty-read h p.name number d g)
    ∙ place-duty h s (a_duty_row p.name number d) (length before) q (found-place before after q none) (seam-get before q after) fits
    ∙ ap (λ (list : List Pairing). let given : Result Draft FileCode = Ok (draft list (places ++ record { pairing = length before; duty = length (map bare had) } ∷ [])) in given)
    (set ∙ ap (λ (x : Pairing). before ++ x ∷ after) grown)

-- a duty of a pairing that keeps the checks fits behind the ones before it
duty-good : (h : Horizon) (p : Pairing) (had todo : List Duty) (d : Duty) → IsPairing h p → p.duties ≡ had ++ d ∷ todo → FitsBehind h had d
duty-good h p had todo d v e =
    let good : IsDuty d = seam-all IsDuty had d todo (subst (All IsDuty) e v.each_duty) in
    let came : 525600 ≤ d.report = seam-all (λ (x : Duty). 525600 ≤ x.report) had d todo (subst (All (λ (x : Duty). 525600 ≤ x.report)) e v.coming) in
    record {
      reported = good.reported;
      parked = good.parked;
      lasts = good.lasts;
      begins = λ none.
          (came, v.begins d (ap (λ (ds : List Duty). slice_get ds 0) e ∙ ap (slice_get (had ++ d ∷ todo)) (sym none) ∙ seam-get had d todo));
      rested = seam-pairs (λ (x y : Duty). x.release + 600 ≤ y.report) had d todo (subst (AllPairs (λ (x y : Duty). x.release + 600 ≤ y.report)) e v.in_order);
      room = omega (arith, seam-short had d todo, ap length e, v.few_duties);
    }

pub duty-spelt : (h : Horizon) (p : Pairing) (had todo : List Duty) (d : Duty) (number : ℕ) → IsPairing h p → p.duties ≡ had ++ d ∷ todo → number ≡ length had + 1 → IsDutyRow h p.name number d
duty-spelt h p had todo d number v e n =
    let good : IsDuty d = seam-all IsDuty had d todo (subst (All IsDuty) e v.each_duty) in
    let ends : d.release ≤ horizon_end h = seam-all (λ (x : Duty). x.release ≤ horizon_end h) had d todo (subst (All (λ (x : Duty). x.release ≤ horizon_end h)) e v.ends) in
    let a : d.report ≤ d.parked = good.reported in
    let b : d.parked ≤ d.release = good.parked in
    record {
      named = v.named;
      numbered = omega (arith, n, seam-short had d todo, ap length e, v.few_duties);
      report = omega arith;
      parked = omega arith;
      release = ends;
      stays = good.stays;
    }

-- rows of duties give these pairings, and some places
pub record GivesDuties (h : Horizon) (s : Draft) (rows : List (List (List ℕ))) (list : List Pairing) : Type 0 where
  pub places : List Place
  pub leads : Leads Duties (duty_row h) s rows (draft list places)

gives-same : (h : Horizon) (s : Draft) (rows : List (List (List ℕ))) (a b : List Pairing) → a ≡ b → GivesDuties h s rows a → GivesDuties h s rows b
gives-same h s rows a b e g = subst (GivesDuties h s rows) e g

duties-lead : (h : Horizon) (before after : List Pairing) (p : Pairing) (places : List Place) (had todo : List Duty) (number : ℕ) → IsPairing h p → Unnamed p.name before → p.duties ≡ had ++ todo → number ≡ length had + 1
    → GivesDuties h (draft (before ++ dutied p (map bare had) ∷ after) places) (duty_rows h p.name number todo) (before ++ dutied p (map bare (had ++ todo)) ∷ after)
unfolding duty_rows
duties-lead h before after p places had [] number v none e n =
    let s : Draft = draft (before ++ dutied p (map bare had) ∷ after) places in
    gives-same h s [] (before ++ dutied p (map bare had) ∷ after) (before ++ dutied p (map bare (had ++ [])) ∷ after) (ap (λ (ds : List Duty). before ++ dutied p (map bare ds) ∷ after) (sym (append-nil had)))
    (record { places = places; leads = lead-none Duties (duty_row h) s })
duties-lead h before after p places had (d ∷ ds) number v none e n =
    let s : Draft = draft (before ++ dutied p (map bare had) ∷ after) places in
    let t : List Place = places ++ record { pairing = length before; duty = length (map bare had) } ∷ [] in
    let size = seam-size had d in
    let more = duties-lead h before after p t (had ++ d ∷ []) ds (number + 1) v none (e ∙ sym (seam-next had d ds)) (omega (arith, size, n)) in
    let step = duty-row h before after p places had number d (duty-spelt h p had ds d number v e n) none n (duty-good h p had ds d v e) in
    let last : List Pairing = before ++ dutied p (map bare ((had ++ d ∷ []) ++ ds)) ∷ after in
    gives-same h s (duty_fields h p.name number d ∷ duty_rows h p.name (number + 1) ds) last (before ++ dutied p (map bare (had ++ d ∷ ds)) ∷ after)
    (ap (λ (xs : List Duty). before ++ dutied p (map bare xs) ∷ after) (seam-next had d ds))
    (record {
      places = more.places;
      leads = lead-row Duties (duty_row h) s (draft (before ++ dutied p (map bare (had ++ d ∷ [])) ∷ after) t) (draft last more.places) (duty_fields h p.name number d) (duty_rows h p.name (number + 1) ds) step more.leads;
    })

pub all-duties-lead : (h : Horizon) (done todo : List Pairing) (places : List Place) → All (IsPairing h) todo → Apart (done ++ todo)
    → GivesDuties h (draft (map undressed done ++ map stripped todo) places) (all_duty_rows h todo) (map undressed (done ++ todo))
unfolding all_duty_rows
all-duties-lead h done [] places all apart =
    let s : Draft = draft (map undressed done ++ []) places in
    gives-same h s [] (map undressed done ++ []) (map undressed (done ++ [])) (append-nil (map undressed done) ∙ ap (map undressed) (sym (append-nil done)))
    (record { places = places; leads = lead-none Duties (duty_row h) s })
all-duties-lead h done (p ∷ ps) places all apart =
    let s : Draft = draft (map undressed done ++ stripped p ∷ map stripped ps) places in
    let none = unnamed undressed p.name done (λ q. refl) (seam-pairs (λ (a b : Pairing). a.name ≢ b.name) done p ps apart) in
    let one = gives-same h s (duty_rows h p.name 1 p.duties) (map undressed done ++ undressed p ∷ map stripped ps) (map undressed (done ++ p ∷ []) ++ map stripped ps) (map-next undressed done p (map stripped ps))
    (duties-lead h (map undressed done) (map stripped ps) p places [] p.duties 1 (all-head (IsPairing h) p ps all) none refl refl) in
    let same : (done ++ p ∷ []) ++ ps ≡ done ++ p ∷ ps = seam-next done p ps in
    let more = all-duties-lead h (done ++ p ∷ []) ps one.places (all-tail (IsPairing h) p ps all) (subst Apart (sym same) apart) in
    gives-same h s (duty_rows h p.name 1 p.duties ++ all_duty_rows h ps) (map undressed ((done ++ p ∷ []) ++ ps)) (map undressed (done ++ p ∷ ps)) (ap (map undressed) same)
    (record {
      places = more.places;
      leads = lead-more Duties (duty_row h) s (draft (map undressed (done ++ p ∷ []) ++ map stripped ps) one.places) (draft (map undressed ((done ++ p ∷ []) ++ ps)) more.places) (duty_rows h p.name 1 p.duties) (all_duty_rows h ps) one.leads more.leads;
    })

-- the file of legs

place-leg : (before : Draft) (r : LegRow) (i : ℕ) (p : Pairing) (d : Duty) → place_of r.name before.list ≡ Some i → slice_get before.list i ≡ Some p → numbered p.duties r.number ≡ Some d → leg_fault d r.leg ≡ None
    → place_leg before r ≡ Ok (with_leg before i p (r.number - 1) d r.leg)
place-leg before r i p d a b c e = rw (a, b, c, e) refl

numbered-at : {A : Type 0} (xs : List A) (y : A) (zs : List A) (n : ℕ) → n ≡ length xs + 1 → numbered (xs ++ y ∷ zs) n ≡ Some y
numbered-at xs y zs n e = let m : n ≡ suc (length xs) = omega arith in ap (numbered (xs ++ y ∷ zs)) m ∙ seam-get xs y zs

leg-row : (h : Horizon) (before after : List Pairing) (p : Pairing) (places : List Place) (clad rest : List Duty) (d : Duty) (had : List Leg) (number : ℕ) (l : Leg)
    → IsLegRow h p.name number l → Unnamed p.name before → number ≡ length clad + 1 → FliesBehind (legged d had) l
    → leg_row h (draft (before ++ dutied p (clad ++ legged d had ∷ rest) ∷ after) places) (leg_fields h p.name number l)
    ≡ Ok (draft (before ++ dutied p (clad ++ legged d (had ++ l ∷ []) ∷ rest) ∷ after) places)
leg-row h before after p places clad rest d had number l g none n f =
    let q : Pairing = dutied p (clad ++ legged d had ∷ rest) in
    let s : Draft = draft (before ++ q ∷ after) places in
    let e : Duty = legged d (had ++ l ∷ []) in
    let k : number - 1 ≡ length clad = omega (arith, n) in
    let inner : slice_set q.duties (number - 1) e ≡ clad ++ e ∷ rest = ap (λ (m : ℕ). slice_set q.duties m e) k ∙ seam-set clad (legged d had) e rest in
    let outer = seam-set before q (dutied p (slice_set q.duties (number - 1) e)) after in
    ap (λ (r : Result LegRow FileCode). r >>= place_leg s) (clean-row 6 (leg_fields h p.name number l) (leg_columns h (leg_fields h p.name number l)) (leg-clean h p.name number l g) refl ∙ leg-read h p.name number l g)
    ∙ place-leg s (a_leg_row p.name number l) (length before) q (legged d had) (found-place before after q none) (seam-get before q after) (numbered-at clad (legged d had) rest number n) (leg-fits (legged d had) l f)
    ∙ ap (λ (list : List Pairing). let given : Result Draft FileCode = Ok (draft list places) in given) (outer ∙ ap (λ (ds : List Duty). before ++ dutied p ds ∷ after) inner)

abbrev Flies : Duty → Leg → Type 0
Flies d l = (d.report ≤ l.flown.out_at) × (l.flown.out_at < l.flown.in_at) × (l.flown.in_at ≤ d.parked)

leg-good : (d : Duty) (had todo : List Leg) (l : Leg) → IsDuty d → d.legs ≡ had ++ l ∷ todo → FliesBehind (legged d had) l
leg-good d had todo l v e =
    let flies : Flies d l = seam-all (Flies d) had l todo (subst (All (Flies d)) e v.legs) in
    record {
      reported = flies.0;
      lasts = flies.1;
      parked = flies.2;
      behind = seam-pairs (λ (k m : Leg). k.flown.in_at ≤ m.flown.out_at) had l todo (subst (AllPairs (λ (k m : Leg). k.flown.in_at ≤ m.flown.out_at)) e v.in_order);
      room = omega (arith, seam-short had l todo, ap length e, v.few_legs);
    }

pub leg-spelt : (h : Horizon) (name : List ℕ) (d : Duty) (had todo : List Leg) (l : Leg) (number : ℕ) → IsTrue (is_name name) → number ≤ 12 → IsDuty d → d.release ≤ horizon_end h → d.legs ≡ had ++ l ∷ todo → IsLegRow h name number l
leg-spelt h name d had todo l number named few v ends e =
    let flies : Flies d l = seam-all (Flies d) had l todo (subst (All (Flies d)) e v.legs) in
    let a : l.flown.out_at < l.flown.in_at = flies.1 in
    let b : l.flown.in_at ≤ d.parked = flies.2 in
    let c : d.parked ≤ d.release = v.parked in
    record {
      named = named;
      numbered = omega arith;
      out_at = omega arith;
      in_at = omega arith;
      joins = seam-all (λ (m : Leg). IsTrue (is_station_code m.from) × IsTrue (is_station_code m.to)) had l todo (subst (All (λ (m : Leg). IsTrue (is_station_code m.from) × IsTrue (is_station_code m.to))) e v.stations);
    }

legs-lead : (h : Horizon) (before after : List Pairing) (p : Pairing) (places : List Place) (clad rest : List Duty) (d : Duty) (had todo : List Leg) (number : ℕ)
    → IsTrue (is_name p.name) → IsDuty d → d.release ≤ horizon_end h → Unnamed p.name before → number ≡ length clad + 1 → number ≤ 12 → d.legs ≡ had ++ todo
    → Leads Legs (leg_row h) (draft (before ++ dutied p (clad ++ legged d had ∷ rest) ∷ after) places) (leg_rows h p.name number todo) (draft (before ++ dutied p (clad ++ legged d (had ++ todo) ∷ rest) ∷ after) places)
unfolding leg_rows
legs-lead h before after p places clad rest d had [] number named v ends none n few e =
    let s : Draft = draft (before ++ dutied p (clad ++ legged d had ∷ rest) ∷ after) places in
    subst (λ (ls : List Leg). Leads Legs (leg_row h) s [] (draft (before ++ dutied p (clad ++ legged d ls ∷ rest) ∷ after) places)) (sym (append-nil had)) (lead-none Legs (leg_row h) s)
legs-lead h before after p places clad rest d had (l ∷ ls) number named v ends none n few e =
    let at : List Leg → Draft = λ (ls : List Leg). draft (before ++ dutied p (clad ++ legged d ls ∷ rest) ∷ after) places in
    let same : (had ++ l ∷ []) ++ ls ≡ had ++ l ∷ ls = seam-next had l ls in
    let more = legs-lead h before after p places clad rest d (had ++ l ∷ []) ls number named v ends none n few (e ∙ sym same) in
    let step = leg-row h before after p places clad rest d had number l (leg-spelt h p.name d had ls l number named few v ends e) none n (leg-good d had ls l v e) in
    lead-row Legs (leg_row h) (at had) (at (had ++ l ∷ [])) (at (had ++ l ∷ ls)) (leg_fields h p.name number l) (leg_rows h p.name number ls) step
    (subst (λ (ms : List Leg). Leads Legs (leg_row h) (at (had ++ l ∷ [])) (leg_rows h p.name number ls) (at ms)) same more)

duties-legs-lead : (h : Horizon) (before after : List Pairing) (p : Pairing) (places : List Place) (clad todo : List Duty) (number : ℕ) → IsPairing h p → Unnamed p.name before → p.duties ≡ clad ++ todo → number ≡ length clad + 1
    → Leads Legs (leg_row h) (draft (before ++ dutied p (clad ++ map bare todo) ∷ after) places) (duties_leg_rows h p.name number todo) (draft (before ++ dutied p (clad ++ todo) ∷ after) places)
unfolding duties_leg_rows
duties-legs-lead h before after p places clad [] number v none e n = lead-none Legs (leg_row h) (draft (before ++ dutied p (clad ++ []) ∷ after) places)
duties-legs-lead h before after p places clad (d ∷ ds) number v none e n =
    let at : List Duty → Draft = λ (xs : List Duty). draft (before ++ dutied p xs ∷ after) places in
    let good : IsDuty d = seam-all IsDuty clad d ds (subst (All IsDuty) e v.each_duty) in
    let ends : d.release ≤ horizon_end h = seam-all (λ (x : Duty). x.release ≤ horizon_end h) clad d ds (subst (All (λ (x : Duty). x.release ≤ horizon_end h)) e v.ends) in
    let few : number ≤ 12 = omega (arith, n, seam-short clad d ds, ap length e, v.few_duties) in
    let one = legs-lead h before after p places clad (map bare ds) d [] d.legs number v.named good ends none n few refl in
    let same : (clad ++ d ∷ []) ++ ds ≡ clad ++ d ∷ ds = seam-next clad d ds in
    let more = duties-legs-lead h before after p places (clad ++ d ∷ []) ds (number + 1) v none (e ∙ sym same) (omega (arith, n, seam-size clad d)) in
    lead-more Legs (leg_row h) (at (clad ++ bare d ∷ map bare ds)) (at (clad ++ d ∷ map bare ds)) (at (clad ++ d ∷ ds)) (leg_rows h p.name number d.legs) (duties_leg_rows h p.name (number + 1) ds) one
    (subst (λ (xs : List Duty). Leads Legs (leg_row h) (at xs) (duties_leg_rows h p.name (number + 1) ds) (at (clad ++ d ∷ ds))) (seam-next clad d (map bare ds))
    (subst (λ (xs : List Duty). Leads Legs (leg_row h) (at ((clad ++ d ∷ []) ++ map bare ds)) (duties_leg_rows h p.name (number + 1) ds) (at xs)) same more))

pub all-legs-lead : (h : Horizon) (done todo : List Pairing) (places : List Place) → All (IsPairing h) todo → Apart (done ++ todo)
    → Leads Legs (leg_row h) (draft (done ++ map undressed todo) places) (all_leg_rows h todo) (draft (done ++ todo) places)
unfolding all_leg_rows
all-legs-lead h done [] places all apart = lead-none Legs (leg_row h) (draft (done ++ []) places)
all-legs-lead h done (p ∷ ps) places all apart =
    let at : List Pairing → Draft = λ (list : List Pairing). draft list places in
    let none = unnamed-of p.name done (seam-pairs (λ (a b : Pairing). a.name ≢ b.name) done p ps apart) in
    let one = duties-legs-lead h done (map undressed ps) p places [] p.duties 1 (all-head (IsPairing h) p ps all) none refl refl in
    let same : (done ++ p ∷ []) ++ ps ≡ done ++ p ∷ ps = seam-next done p ps in
    let more = all-legs-lead h (done ++ p ∷ []) ps places (all-tail (IsPairing h) p ps all) (subst Apart (sym same) apart) in
    lead-more Legs (leg_row h) (at (done ++ undressed p ∷ map undressed ps)) (at (done ++ p ∷ map undressed ps)) (at (done ++ p ∷ ps)) (duties_leg_rows h p.name 1 p.duties) (all_leg_rows h ps) one
    (subst (λ (list : List Pairing). Leads Legs (leg_row h) (at list) (all_leg_rows h ps) (at (done ++ p ∷ ps))) (seam-next done p (map undressed ps))
    (subst (λ (list : List Pairing). Leads Legs (leg_row h) (at ((done ++ p ∷ []) ++ map undressed ps)) (all_leg_rows h ps) (at list)) same more))
