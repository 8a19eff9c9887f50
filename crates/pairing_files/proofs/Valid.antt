-- What the three files give keeps the checks of pairings.
use Rattle.std.proofs.Common.{◌≡◌, ℕ, zero, suc, ◌+◌, ◌-◌, ◌≤◌, List, [], ◌∷◌, length, Bool, true, false, ◌==◌, nat_le, if◌then◌else◌, Option, Some, None, Result, Ok, Err, slice_get, slice_range, position, All, ℤ, pos, negsuc, refl, arith, sym, ap, subst, ◌∙◌, length-append}
use Rattle.std.specs.Option.{ForSome, option_map_or}
use Rattle.std.specs.Prelude.{IsTrue}
use Rattle.std.proofs.lemmas.List.Elements.{All-nil}
use Rattle.duty_calendar.specs.Calendar.{horizon_end, up_to, minute_on, local_minute_on}
use Rattle.duty_calendar.specs.Forms.{is_name, is_station_code}
use Rattle.duty_calendar.specs.Checks.{IsDuty, IsPairing, ArePairings}
use Rattle.duty_calendar.specs.declared.horizon.Horizon.{Horizon}
use Rattle.duty_calendar.specs.declared.pairing.Duty.{Duty}
use Rattle.duty_calendar.specs.declared.pairing.Pairing.{Pairing}
use Rattle.field_text.specs.Fields.{shaped, moment, clock_value, day_value, moment_value, moment_field, name_field, number_field, minutes_field, station_field}
use Rattle.field_text.specs.Form.{fault_from, row}
use Rattle.field_text.specs.Rows.{in_column, text_row}
use Rattle.field_text.specs.Sizes.{longest}
use Rattle.field_text.specs.Steps.{◌>>=◌, or_fault}
use Rattle.field_text.specs.declared.field_fault.FieldFault.{FieldFault}
use Rattle.field_text.specs.declared.field_fault.FieldFault.TheVariants.{Range, NoSuchDay, OutsideHorizon}
use Rattle.field_text.specs.declared.file_fault.FileCode.{FileCode}
use Rattle.field_text.specs.declared.file_fault.FileCode.TheVariants.{Unknown}
use Rattle.field_text.specs.declared.file_fault.FileFault.{FileFault}
use Rattle.field_text.specs.declared.file_fault.FileName.{FileName}
use Rattle.field_text.specs.declared.file_fault.FileName.TheVariants.{Pairings, Duties, Legs}
use Rattle.field_text.proofs.FieldsAgain.{name-read, station-read}
use Rattle.field_text.proofs.RecordsLeft.{length-records}
use Rattle.pairing_files.specs.declared.row.DutyRow.{DutyRow}
use Rattle.pairing_files.specs.declared.row.LegRow.{LegRow}
use Rattle.pairing_files.specs.declared.tables.Place.{Place}
use Rattle.pairing_files.specs.Columns.{field_at, layover_field, pairing_columns, duty_columns, leg_columns, pairings_header, duties_header, legs_header}
use Rattle.pairing_files.specs.Drafts.{Draft, no_draft, place_of, with_pairing, with_duty, with_leg}
use Rattle.pairing_files.specs.Faults.{pairing_fault, duty_fault, leg_fault, numbered}
use Rattle.pairing_files.specs.Files.{unless, place_pairing, place_duty, place_leg, pairing_row, duty_row, leg_row, pairings_file, duties_file, legs_file, is_idle, is_bare, lacks_parts, part_fault, draft_from, finished, pairings_of}
use Rattle.field_text.specs.Records.{records_of}
use Rattle.pairing_files.proofs.Begun.{IsBegunDuty, IsBegun, Stays, Joins, place_at, IsBegunDraft, keeps-pairing, keeps-duty, keeps-leg}
use Rattle.pairing_files.proofs.HeaderFacts.{get_or-map_of}
use Rattle.pairing_files.proofs.Inverse.{both-none, bind-ok, unless-ok, or_fault-ok, in_column-ok, text_row-ok, three-ok, six-ok, le-true, file-keeps}
use Rattle.pairing_files.proofs.ListFacts.{all-get, all-from, position-none, pairs-map}
use Rattle.pairing_files.proofs.NameFacts.{length-map_of}

-- a moment that was read lies up to the horizon's end

up_to-le : (limit : ℕ) (z : ℤ) (m : ℕ) → up_to limit z ≡ Some m → m ≤ limit
up_to-le limit (pos n) m e = go (nat_le n limit) refl e
  where
    go : (b : Bool) → nat_le n limit ≡ b → (if b then Some n else None) ≡ Some m → m ≤ limit
    go true f g = let same : n ≡ m = cc g in let low : n ≤ limit = le-true n limit f in omega arith
    go false f g = absurd (cc g)
up_to-le limit (negsuc n) m e = absurd (cc e)

shaped-ok : {A : Type 0} (o : Option ℕ) (v : Result A FieldFault) (m : A) → shaped o v ≡ Ok m → v ≡ Ok m
shaped-ok None v m e = e
shaped-ok (Some k) v m e = absurd (cc e)

two-steps : {A B C E : Type 0} (a : Result A E) (b : Result B E) (f : A → B → Result C E) (z : C) → (a >>= (λ x. b >>= (λ y. f x y))) ≡ Ok z → (x : A) × (y : B) × (f x y ≡ Ok z)
two-steps (Ok x) (Ok y) f z e = (x, y, e)
two-steps (Ok x) (Err c) f z e = absurd (cc e)
two-steps (Err c) b f z e = absurd (cc e)

moment-within : (h : Horizon) (text : List ℕ) (m : ℕ) → moment_field h text ≡ Ok m → m ≤ horizon_end h
moment-within h [] m e = absurd (cc e)
moment-within h (b ∷ bs) m e =
    let value : moment_value h (b ∷ bs) ≡ Ok m = shaped-ok (fault_from 1 (row moment) (b ∷ bs)) (moment_value h (b ∷ bs)) m e in
    let parts = two-steps (or_fault Range (clock_value (slice_range (b ∷ bs) 11 16))) (or_fault NoSuchDay (day_value (slice_range (b ∷ bs) 0 10)))
    (λ (minute : ℕ) (d : ℤ). or_fault OutsideHorizon (minute_on h d minute)) m value in
    let inside : minute_on h parts.1 parts.0 ≡ Some m = or_fault-ok OutsideHorizon (minute_on h parts.1 parts.0) m parts.2 in
    up_to-le (horizon_end h) (local_minute_on h parts.1 parts.0) m inside

-- rows

pub row-keeps_pairing : (h : Horizon) (s t : Draft) (fields : List (List ℕ)) → IsBegunDraft h s → pairing_row s fields ≡ Ok t → IsBegunDraft h t
row-keeps_pairing h s t fields good e =
    let outer = bind-ok (text_row 3 fields (pairing_columns fields)) (place_pairing s) t e in
    let p : Pairing = outer.0 in
    let columns : pairing_columns fields ≡ Ok p = text_row-ok 3 fields (pairing_columns fields) p outer.1 in
    let parts = three-ok (in_column 1 (name_field (field_at fields 0))) (in_column 2 (number_field (field_at fields 1))) (in_column 3 (minutes_field (field_at fields 2)))
    (λ (name : List ℕ) (need credit : ℕ). let made : Pairing = record { name = name; need = need; credit = credit; duties = [] } in made) p columns in
    let none : p.duties ≡ [] = sym (ap (λ (q : Pairing). q.duties) parts.made) in
    let read = in_column-ok 1 (name_field (field_at fields 0)) parts.x parts.first in
    let named : IsTrue (is_name p.name) = subst (λ (n : List ℕ). IsTrue (is_name n)) (ap (λ (q : Pairing). q.name) parts.made) (name-read (field_at fields 0) parts.x read) in
    let placed = unless-ok (pairing_fault s.list p) (with_pairing s p) t outer.2 in
    subst (IsBegunDraft h) placed.1 (keeps-pairing h s p good named none placed.0)

layover-read : (text : List ℕ) (o : Option (List ℕ)) → layover_field text ≡ Ok o → ForSome o (λ s. IsTrue (is_station_code s))
layover-read [] o e s f = absurd (let same : None ≡ o = cc e in cc (same ∙ f))
layover-read (b ∷ bs) o e s f =
    let read = bind-ok (station_field (b ∷ bs)) (λ (t : List ℕ). let given : Result (Option (List ℕ)) FieldFault = Ok (Some t) in given) o e in
    let same : Some read.0 ≡ o = cc read.2 in
    let there : read.0 ≡ s = cc (same ∙ f) in
    subst (λ (t : List ℕ). IsTrue (is_station_code t)) there (station-read (b ∷ bs) read.0 read.1)

-- the duty of a row, and the leg of one
record IsDutyRead (h : Horizon) (d : Duty) : Type 0 where
  bare : d.legs ≡ []
  within : d.release ≤ horizon_end h
  stays : Stays d

duty-columns : (h : Horizon) (fields : List (List ℕ)) (r : DutyRow) → duty_columns h fields ≡ Ok r → IsDutyRead h r.duty
duty-columns h fields r e =
    let parts = six-ok (in_column 1 (name_field (field_at fields 0))) (in_column 2 (number_field (field_at fields 1))) (in_column 3 (moment_field h (field_at fields 2)))
    (in_column 4 (moment_field h (field_at fields 3))) (in_column 5 (moment_field h (field_at fields 4))) (in_column 6 (layover_field (field_at fields 5)))
    (λ (name : List ℕ) (number report parked release : ℕ) (layover : Option (List ℕ)).
    let made : DutyRow = record { name = name; number = number; duty = record { report = report; parked = parked; release = release; layover = layover; legs = [] } } in made) r e in
    let within : parts.x5 ≤ horizon_end h = moment-within h (field_at fields 4) parts.x5 (in_column-ok 5 (moment_field h (field_at fields 4)) parts.x5 parts.fifth) in
    let stays = layover-read (field_at fields 5) parts.x6 (in_column-ok 6 (layover_field (field_at fields 5)) parts.x6 parts.sixth) in
    record {
      bare = sym (ap (λ (q : DutyRow). q.duty.legs) parts.made);
      within = subst (λ (n : ℕ). n ≤ horizon_end h) (ap (λ (q : DutyRow). q.duty.release) parts.made) within;
      stays = subst (λ (o : Option (List ℕ)). ForSome o (λ s. IsTrue (is_station_code s))) (ap (λ (q : DutyRow). q.duty.layover) parts.made) stays;
    }

leg-columns : (h : Horizon) (fields : List (List ℕ)) (r : LegRow) → leg_columns h fields ≡ Ok r → Joins r.leg
leg-columns h fields r e =
    let parts = six-ok (in_column 1 (name_field (field_at fields 0))) (in_column 2 (number_field (field_at fields 1))) (in_column 3 (station_field (field_at fields 2)))
    (in_column 4 (station_field (field_at fields 3))) (in_column 5 (moment_field h (field_at fields 4))) (in_column 6 (moment_field h (field_at fields 5)))
    (λ (name : List ℕ) (number : ℕ) (from to : List ℕ) (out_at in_at : ℕ).
    let made : LegRow = record { name = name; number = number; leg = record { from = from; to = to; flown = record { out_at = out_at; in_at = in_at } } } in made) r e in
    let from = station-read (field_at fields 2) parts.x3 (in_column-ok 3 (station_field (field_at fields 2)) parts.x3 parts.third) in
    let to = station-read (field_at fields 3) parts.x4 (in_column-ok 4 (station_field (field_at fields 3)) parts.x4 parts.fourth) in (
      subst (λ (s : List ℕ). IsTrue (is_station_code s)) (ap (λ (q : LegRow). q.leg.from) parts.made) from,
      subst (λ (s : List ℕ). IsTrue (is_station_code s)) (ap (λ (q : LegRow). q.leg.to) parts.made) to,
    )

pub row-keeps_duty : (h : Horizon) (s t : Draft) (fields : List (List ℕ)) → IsBegunDraft h s → duty_row h s fields ≡ Ok t → IsBegunDraft h t × (length t.places ≤ length s.places + 1)
row-keeps_duty h s t fields good e =
    let outer = bind-ok (text_row 6 fields (duty_columns h fields)) (place_duty h s) t e in
    let r : DutyRow = outer.0 in
    let columns = duty-columns h fields r (text_row-ok 6 fields (duty_columns h fields) r outer.1) in
    let found = bind-ok (or_fault Unknown (place_of r.name s.list)) (λ (i : ℕ). or_fault Unknown (slice_get s.list i) >>= (λ (p : Pairing). unless (duty_fault h p r.number r.duty) (with_duty s i p r.duty))) t outer.2 in
    let i : ℕ = found.0 in
    let there = bind-ok (or_fault Unknown (slice_get s.list i)) (λ (p : Pairing). unless (duty_fault h p r.number r.duty) (with_duty s i p r.duty)) t found.2 in
    let p : Pairing = there.0 in
    let at : slice_get s.list i ≡ Some p = or_fault-ok Unknown (slice_get s.list i) p there.1 in
    let placed = unless-ok (duty_fault h p r.number r.duty) (with_duty s i p r.duty) t there.2 in
    let size : length (with_duty s i p r.duty).places ≤ length s.places + 1 = omega (arith, length-append s.places (record { pairing = i; duty = length p.duties } ∷ [])) in (
      subst (IsBegunDraft h) placed.1 (keeps-duty h s i p r.number r.duty good at columns.stays columns.bare columns.within placed.0),
      subst (λ (d : Draft). length d.places ≤ length s.places + 1) placed.1 size,
    )

numbered-place : {A : Type 0} (xs : List A) (n : ℕ) (x : A) → numbered xs n ≡ Some x → slice_get xs (n - 1) ≡ Some x
numbered-place xs zero x e = absurd (cc e)
numbered-place xs (suc k) x e = let n : suc k - 1 ≡ k = omega arith in ap (slice_get xs) n ∙ e

pub row-keeps_leg : (h : Horizon) (s t : Draft) (fields : List (List ℕ)) → IsBegunDraft h s → leg_row h s fields ≡ Ok t → IsBegunDraft h t × (t.places ≡ s.places)
row-keeps_leg h s t fields good e =
    let outer = bind-ok (text_row 6 fields (leg_columns h fields)) (place_leg s) t e in
    let r : LegRow = outer.0 in
    let joins = leg-columns h fields r (text_row-ok 6 fields (leg_columns h fields) r outer.1) in
    let last : ℕ → Pairing → Duty → Result Draft FileCode = λ i p d. unless (leg_fault d r.leg) (with_leg s i p (r.number - 1) d r.leg) in
    let found = bind-ok (or_fault Unknown (place_of r.name s.list)) (λ (i : ℕ). or_fault Unknown (slice_get s.list i) >>= (λ (p : Pairing). or_fault Unknown (numbered p.duties r.number) >>= (λ (d : Duty). last i p d))) t outer.2 in
    let i : ℕ = found.0 in
    let there = bind-ok (or_fault Unknown (slice_get s.list i)) (λ (p : Pairing). or_fault Unknown (numbered p.duties r.number) >>= (λ (d : Duty). last i p d)) t found.2 in
    let p : Pairing = there.0 in
    let held = bind-ok (or_fault Unknown (numbered p.duties r.number)) (λ (d : Duty). last i p d) t there.2 in
    let d : Duty = held.0 in
    let at : slice_get s.list i ≡ Some p = or_fault-ok Unknown (slice_get s.list i) p there.1 in
    let duty : slice_get p.duties (r.number - 1) ≡ Some d = numbered-place p.duties r.number d (or_fault-ok Unknown (numbered p.duties r.number) d held.1) in
    let placed = unless-ok (leg_fault d r.leg) (with_leg s i p (r.number - 1) d r.leg) t held.2 in
    (subst (IsBegunDraft h) placed.1 (keeps-leg h s i p (r.number - 1) d r.leg good at duty joins placed.0), sym (ap (λ (x : Draft). x.places) placed.1))

-- files

begun-none : (h : Horizon) → IsBegunDraft h no_draft
begun-none h = record {
  few = omega arith;
  each = All-nil (IsBegun h);
  names = λ i j d lt within. absurd (omega arith);
  covered = λ i k p e at there. absurd (cc at);
}

pairing-places : (s t : Draft) (fields : List (List ℕ)) → pairing_row s fields ≡ Ok t → t.places ≡ s.places
pairing-places s t fields e =
    let outer = bind-ok (text_row 3 fields (pairing_columns fields)) (place_pairing s) t e in
    let placed = unless-ok (pairing_fault s.list outer.0) (with_pairing s outer.0) t outer.2 in
    sym (ap (λ (x : Draft). x.places) placed.1)

-- a draft of files that were read keeps what it should, and has at most so many places
pub record IsRead (h : Horizon) (most : ℕ) (d : Draft) : Type 0 where
  pub begun : IsBegunDraft h d
  pub few : length d.places ≤ most

pub files_keep : (h : Horizon) (pairings duties legs : List ℕ) (d : Draft) → draft_from h pairings duties legs no_draft ≡ Ok d → IsRead h (length duties + 1) d
files_keep h pairings duties legs d e =
    let first = bind-ok (pairings_file pairings no_draft) (λ (named : Draft). duties_file h duties named >>= (λ (dutied : Draft). legs_file h legs dutied)) d e in
    let second = bind-ok (duties_file h duties first.0) (λ (dutied : Draft). legs_file h legs dutied) d first.2 in
    let one = file-keeps Pairings pairing_row (λ (k : ℕ) (s : Draft). IsRead h 0 s)
    (λ (k : ℕ) (s t : Draft) (r : List (List ℕ)). λ g f. record { begun = row-keeps_pairing h s t r g.begun f; few = omega (arith, g.few, ap length (pairing-places s t r f)) })
    pairings_header no_draft first.0 (records_of pairings) (record { begun = begun-none h; few = omega arith }) first.1 in
    let two = file-keeps Duties (duty_row h) (λ (k : ℕ) (s : Draft). IsRead h k s)
    (λ (k : ℕ) (s t : Draft) (r : List (List ℕ)). λ g f. let kept = row-keeps_duty h s t r g.begun f in record { begun = kept.0; few = omega (arith, kept.1, g.few) })
    duties_header first.0 second.0 (records_of duties) one.2 second.1 in
    let three = file-keeps Legs (leg_row h) (λ (k : ℕ) (s : Draft). IsRead h two.0 s)
    (λ (k : ℕ) (s t : Draft) (r : List (List ℕ)). λ g f. let kept = row-keeps_leg h s t r g.begun f in record { begun = kept.0; few = omega (arith, g.few, ap length kept.1) })
    legs_header second.0 d (records_of legs) two.2 second.2 in
    record { begun = three.2.begun; few = omega (arith, three.2.few, two.1, length-records duties) }

-- the finished list

busy : (n : ℕ) → (n == 0) ≡ false → 1 ≤ n
busy zero z = absurd (cc z)
busy (suc n) z = omega arith

clad : (o : Option Duty) (e : Duty) → o ≡ Some e → option_map_or (λ d. length d.legs == 0) o false ≡ false → 1 ≤ length e.legs
clad None e f g = absurd (cc f)
clad (Some d) e f g = let same : d ≡ e = cc f in subst (λ (x : Duty). 1 ≤ length x.legs) same (busy (length d.legs) g)

bare-at : (list : List Pairing) (i k : ℕ) (p : Pairing) (e : Duty) → slice_get list i ≡ Some p → slice_get p.duties k ≡ Some e → is_bare list (place_at i k) ≡ false → 1 ≤ length e.legs
bare-at list i k p e at there test = go (slice_get list i) at test
  where
    go : (o : Option Pairing) → o ≡ Some p → option_map_or (λ q. option_map_or (λ d. length d.legs == 0) (slice_get q.duties k) false) o false ≡ false → 1 ≤ length e.legs
    go None f g = absurd (cc f)
    go (Some q) f g = let same : q ≡ p = cc f in clad (slice_get q.duties k) e (ap (λ (x : Pairing). slice_get x.duties k) same ∙ there) g

none-lacks : (name : FileName) (o : Option ℕ) → lacks_parts name o ≡ None → o ≡ None
none-lacks name None e = refl
none-lacks name (Some k) e = absurd (cc e)

whole-duty : (d : Duty) → IsBegunDuty d → 1 ≤ length d.legs → IsDuty d
whole-duty d b some = record {
  reported = b.reported;
  parked = b.parked;
  lasts = b.lasts;
  some_legs = some;
  few_legs = b.few_legs;
  legs = b.legs;
  in_order = b.in_order;
  stations = b.stations;
  stays = b.stays;
}

pub finished-valid : (h : Horizon) (d : Draft) (list : List Pairing) → IsBegunDraft h d → finished d ≡ Ok list → ArePairings h list
finished-valid h d list good e =
    let done = unless-ok (part_fault d) d.list list e in
    let both = both-none (lacks_parts Pairings (position is_idle d.list)) (lacks_parts Duties (position (is_bare d.list) d.places)) done.0 in
    let busy_all = position-none is_idle d.list (none-lacks Pairings (position is_idle d.list) both.0) in
    let clad_all = position-none (is_bare d.list) d.places (none-lacks Duties (position (is_bare d.list) d.places) both.1) in
    let whole : All (IsPairing h) d.list = all-from (IsPairing h) d.list (λ (i : ℕ) (p : Pairing). λ at.
    let b = all-get (IsBegun h) d.list i p good.each at in
    record {
      named = b.named;
      some_need = b.some_need;
      few_need = b.few_need;
      few_credit = b.few_credit;
      some_duties = busy (length p.duties) (all-get (λ (x : Pairing). is_idle x ≡ false) d.list i p busy_all at);
      few_duties = b.few_duties;
      each_duty = all-from IsDuty p.duties (λ (k : ℕ) (x : Duty). λ there.
          let c = good.covered i k p x at there in
          let worn = all-get (λ (z : Place). is_bare d.list z ≡ false) d.places c.0 (place_at i k) clad_all c.1 in
          whole-duty x (all-get IsBegunDuty p.duties k x b.each_duty there) (bare-at d.list i k p x at there worn));
      in_order = b.in_order;
      coming = b.coming;
      begins = b.begins;
      ends = b.ends;
    }) in
    subst (ArePairings h) done.1 (record {
      few = good.few;
      each = whole;
      names = pairs-map (λ (p : Pairing). p.name) d.list (λ (n : ℕ) (x : Pairing). λ w. get_or-map_of (λ (p : Pairing). p.name) d.list n x x.name w) (length-map_of (λ (p : Pairing). p.name) d.list) good.names;
    })

pub pairings_valid : (h : Horizon) (pairings duties legs : List ℕ) (list : List Pairing) → pairings_of h pairings duties legs ≡ Ok list → ArePairings h list
pairings_valid h pairings duties legs list e =
    let parts = bind-ok (draft_from h pairings duties legs no_draft) finished list e in
    finished-valid h parts.0 list (files_keep h pairings duties legs parts.0 parts.1).begun parts.2

-- what was read, and lacks no parts
pub read-valid : (h : Horizon) (pairings duties legs : List ℕ) (d : Draft) → draft_from h pairings duties legs no_draft ≡ Ok d → part_fault d ≡ None → ArePairings h d.list
read-valid h pairings duties legs d e f =
    finished-valid h d d.list (files_keep h pairings duties legs d e).begun (ap (λ (o : Option FileFault). unless o d.list) f)

-- the reader's tables began empty
pub read-from_none : (h : Horizon) (pairings duties legs : List ℕ) (start d : Draft) → start ≡ no_draft → draft_from h pairings duties legs start ≡ Ok d → draft_from h pairings duties legs no_draft ≡ Ok d
read-from_none h pairings duties legs start d s e = ap (draft_from h pairings duties legs) (sym s) ∙ e

pub few-pairings : (h : Horizon) (pairings duties legs : List ℕ) (start d : Draft) → start ≡ no_draft → draft_from h pairings duties legs start ≡ Ok d → length d.list ≤ longest + 1
few-pairings h pairings duties legs start d s e =
    let few : length d.list ≤ 600 = (files_keep h pairings duties legs d (read-from_none h pairings duties legs start d s e)).begun.few in
    omega arith

pub few-places : (h : Horizon) (pairings duties legs : List ℕ) (start d : Draft) → length duties ≤ longest → start ≡ no_draft → draft_from h pairings duties legs start ≡ Ok d → length d.places ≤ longest + 1
few-places h pairings duties legs start d short s e =
    let few : length d.places ≤ length duties + 1 = (files_keep h pairings duties legs d (read-from_none h pairings duties legs start d s e)).few in
    omega arith
