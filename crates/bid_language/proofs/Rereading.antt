-- Reading the words that a printer wrote.
use Rattle.std.proofs.Common.{◌≡◌, ◌≢◌, ℕ, zero, suc, ◌+◌, ◌<◌, ◌≤◌, List, [], ◌∷◌, ◌++◌, length, map, Bool, true, false, Option, Some, Result, Ok, refl, ap, sym, subst, ◌∙◌, ◌^◌, arith, append_assoc}
use Rattle.std.specs.Prelude.{◌&&◌, ◌==◌, nat_le, nat_lt, codes, if◌then◌else◌}
use Rattle.std.specs.List.{list_all}
use Rattle.std.proofs.lemmas.Bool.{and_parts, false≢true, false_from_ne_true}
use Rattle.std.proofs.lemmas.Bool.Decides.{nat_tests}
use Rattle.std.proofs.lemmas.List.{append-nil}
use Rattle.duty_calendar.specs.declared.horizon.Horizon.{Horizon}
use Rattle.duty_calendar.specs.declared.member.Base.{Base}
use Rattle.duty_calendar.specs.declared.pairing.Pairing.{Pairing}
use Rattle.duty_calendar.specs.declared.weekday.Weekday.{Weekday}
use Rattle.duty_calendar.specs.declared.weekday.Weekday.TheVariants.{Mon, Tue, Wed, Thu, Fri, Sat, Sun}
use Rattle.duty_calendar.specs.Calendar.{month_days}
use Rattle.duty_calendar.specs.Forms.{is_name}
use Rattle.field_text.specs.Fields.{number_field, clock_field, minutes_field, day_field, station_of}
use Rattle.field_text.specs.Spelling.{number_text, clock_text, minutes_text}
use Rattle.field_text.specs.declared.field_fault.FieldFault.{FieldFault}
use Rattle.field_text.proofs.Again.{number-again, minutes-again}
use Rattle.field_text.proofs.Days.{clock-again}
use Rattle.roster_model.specs.declared.bid.Test.{Test}
use Rattle.roster_model.specs.declared.bid.Test.TheVariants.{Layover, Departs, Arrives, ReportBefore, ReportAfter, ReleaseBefore, ReleaseAfter, Days, OnWeekday, Is}
use Rattle.roster_model.specs.declared.bid.Atom.{Atom}
use Rattle.roster_model.specs.declared.bid.Wish.{Wish}
use Rattle.roster_model.specs.declared.bid.Wish.TheVariants.{Fly, Avoid, Prefer, Off, CreditBelow, CreditAbove, DaysOff}
use Rattle.roster_model.specs.declared.bid.Bid.{Bid}
use Rattle.roster_model.specs.Valid.{is_test, is_filter, is_wish, IsBid}
use Rattle.bid_language.specs.declared.fault.BidCode.{BidCode}
use Rattle.bid_language.specs.declared.fault.BidCode.TheVariants as code
use Rattle.bid_language.specs.declared.fault.Word.{Word}
use Rattle.bid_language.specs.declared.fault.Word.TheVariants as word
use Rattle.bid_language.specs.declared.keywords.Bound.TheVariants.{Below, Above}
use Rattle.bid_language.specs.declared.keywords.Kind.{Kind}
use Rattle.bid_language.specs.declared.keywords.Kind.TheVariants as kind
use Rattle.bid_language.specs.declared.keywords.Side.TheVariants.{Before, After}
use Rattle.bid_language.specs.declared.keywords.TestKind.{TestKind}
use Rattle.bid_language.specs.declared.keywords.TestKind.TheVariants as test
use Rattle.bid_language.specs.Keywords.{is_text, kind_of, test_kind_of, side_of, bound_of, weekday_of}
use Rattle.bid_language.specs.Words.{Spot, Reader, ◌>>=◌, done, or_wrong, next, optional, finished}
use Rattle.bid_language.specs.Values.{value_of, value_in, number, clock, minutes, pairing, pairing_named, station, weekday, side, bound}
use Rattle.bid_language.specs.Days.{day_in, day, not_before, later_day, last_day}
use Rattle.bid_language.specs.Grammar.{report_test, release_test, test_of, test_from, atom_from, atom, follows, joined, atoms, filter, credit_wish, wish_of, wish, weight, room, bid}
use Rattle.bid_language.specs.Spelling.{weekday_word, name_of, day_word}
use Rattle.duty_calendar.specs.Forms.{is_station_code}
use Rattle.bid_language.proofs.Spelt.{is_spelt_test, is_spelt_filter, is_spelt_wish}
use Rattle.bid_language.proofs.BidWords.{test_word, test_values, test_words, atom_words, filter_words, to_words, wish_word, wish_values, wish_words}

abbrev pub texts : List Spot → List (List ℕ)
texts spots = map (λ s. s.text) spots

-- these words, in front of more, are read os this value
abbrev pub Again : {A : Type 0} → Reader A → A → List (List ℕ) → List (List ℕ) → Type 0
Again read x ws more =
    (spots : List Spot) (stop : ℕ) → texts spots ≡ ws ++ more
    → (rest : List Spot) × (texts rest ≡ more) × (read (record { spots = spots; stop = stop }) ≡ Ok (x, record { spots = rest; stop = stop }))

pub again-then : {A B : Type 0} (read : Reader A) (f : A → Reader B) (x : A) (y : B) (a b more : List (List ℕ))
    → Again read x a (b ++ more) → Again (f x) y b more → Again (read >>= f) y (a ++ b) more
again-then read f x y a b more g h spots stop e =
    let u = g spots stop (e ∙ append_assoc a b more) in
    let v = h u.0 stop u.1 in
    (v.0, v.1, rw u.2 v.2)

pub again-next : {B : Type 0} (w' : Word) (f : Spot → Reader B) (y : B) (w : List ℕ) (b more : List (List ℕ))
    → ((s : Spot) → s.text ≡ w → Again (f s) y b more) → Again (next w' >>= f) y (w ∷ b) more
unfolding next
again-next w' f y w b more g [] stop e = cc
again-next w' f y w b more g (s ∷ ss) stop e = g s (cc) ss stop (cc)

pub again-done : {A : Type 0} (x : A) (more : List (List ℕ)) → Again (done x) x [] more
again-done x more spots stop e = (spots, e, refl)

again-value : {A : Type 0} (s : Spot) (c : BidCode) (o : Option A) (x : A) (more : List (List ℕ)) → o ≡ Some x → Again (or_wrong s c o) x [] more
again-value s c o x more h spots stop e = (spots, e, rw h refl)

pub again-known : {A B : Type 0} (s : Spot) (c : BidCode) (o : Option A) (x : A) (f : A → Reader B) (y : B) (b more : List (List ℕ))
    → o ≡ Some x → Again (f x) y b more → Again (or_wrong s c o >>= f) y b more
again-known s c o x f y b more h g spots stop e = let v = g spots stop e in (v.0, v.1, rw h v.2)

-- one word os a value
one_word : {A : Type 0} (w' : Word) (c : Spot → BidCode) (o : List ℕ → Option A) (x : A) (w : List ℕ) (more : List (List ℕ)) → o w ≡ Some x
    → Again (next w' >>= (λ s. or_wrong s (c s) (o s.text))) x (w ∷ []) more
one_word w' c o x w more h = again-next w' _ x w [] more (λ s t. again-value s (c s) (o s.text) x more (ap o t ∙ h))

value_in-here : (low high n : ℕ) (r : Result ℕ FieldFault) → r ≡ Ok n → low ≤ n → n ≤ high → value_in low high r ≡ Some n
value_in-here low high n r e l h =
    let i : (nat_le low n && nat_le n high) ≡ true = grind (arith, nat_tests) in
    rw (e, i) refl

again-number : (low high n : ℕ) (more : List (List ℕ)) → low ≤ n → n ≤ high → n < 2 ^ 32 → Again (number low high) n (number_text n ∷ []) more
unfolding number
again-number low high n more l h fits =
    one_word word.Value (λ s. code.Number) (λ t. value_in low high (number_field t)) n (number_text n) more
    (value_in-here low high n (number_field (number_text n)) (number-again n fits) l h)

again-clock : (c : ℕ) (more : List (List ℕ)) → c < 1440 → Again clock c (clock_text c ∷ []) more
unfolding clock
again-clock c more h = one_word word.Value (λ s. code.Number) (λ t. value_of (clock_field t)) c (clock_text c) more (ap value_of (clock-again c h))

again-minutes : (m : ℕ) (more : List (List ℕ)) → m < 60000 → Again minutes m (minutes_text m ∷ []) more
unfolding minutes
again-minutes m more h = one_word word.Value (λ s. code.Number) (λ t. value_of (minutes_field t)) m (minutes_text m) more (ap value_of (minutes-again m h))

pub again-if : {A : Type 0} (b : Bool) (first other : Reader A) (x : A) (ws more : List (List ℕ)) → b ≡ true → Again first x ws more → Again (if b then first else other) x ws more
again-if true first other x ws more e h = h
again-if false first other x ws more e h = absurd (false≢true e)

again-else : {A : Type 0} (b : Bool) (first other : Reader A) (x : A) (ws more : List (List ℕ)) → b ≡ false → Again other x ws more → Again (if b then first else other) x ws more
again-else true first other x ws more e h = absurd (false≢true (sym e))
again-else false first other x ws more e h = h

-- words that are split otherwise, and what is made of one value
again-parts : {A B : Type 0} (read : Reader A) (f : A → Reader B) (x : A) (y : B) (ws a b more : List (List ℕ))
    → ws ≡ a ++ b → Again read x a (b ++ more) → Again (f x) y b more → Again (read >>= f) y ws more
again-parts read f x y ws a b more e g h = subst (λ (v : List (List ℕ)). Again (read >>= f) y v more) (sym e) (again-then read f x y a b more g h)

pub again-map : {A B : Type 0} (read : Reader A) (f : A → B) (x : A) (ws more : List (List ℕ)) → Again read x ws more → Again (read >>= (λ v. done (f v))) (f x) ws more
again-map read f x ws more g spots stop e = let u = g spots stop e in (u.0, u.1, rw u.2 refl)

-- texts that are the same
pub text-same : (w : List ℕ) → is_text w w ≡ true
unfolding is_text
text-same [] = refl
text-same (b ∷ bs) = let here : (b == b) ≡ true = grind (arith, nat_tests) in rw here (text-same bs)

pub text-equal : (v w : List ℕ) → is_text v w ≡ true → v ≡ w
unfolding is_text
text-equal [] [] h = refl
text-equal [] (b ∷ bs) h = absurd (false≢true h)
text-equal (a ∷ os) [] h = absurd (false≢true h)
text-equal (a ∷ os) (b ∷ bs) h =
    let p = and_parts (a == b) (is_text os bs) h in
    let head : a ≡ b = let here : (a == b) ≡ true = p.0 in grind (arith, nat_tests) in
    let tail : os ≡ bs = text-equal os bs p.1 in
    rw (head, tail) refl

pub text-other : (v w : List ℕ) → v ≢ w → is_text v w ≡ false
text-other v w ne = false_from_ne_true (is_text v w) (λ h. ne (text-equal v w h))

-- pairings by their names
again-pairing : (ps : List Pairing) (p : ℕ) (more : List (List ℕ)) → is_name (name_of ps p) ≡ true → pairing_named ps (name_of ps p) ≡ Some p
    → Again (pairing ps) p (name_of ps p ∷ []) more
unfolding pairing
again-pairing ps p more form found =
    again-next word.Name _ p (name_of ps p) [] more
    (λ s t. again-if (is_name s.text) _ _ p [] more (ap is_name t ∙ form)
    (again-value s code.UnknownPairing (pairing_named ps s.text) p more (ap (pairing_named ps) t ∙ found)))

again-station : (s : List ℕ) (more : List (List ℕ)) → is_station_code s ≡ true → Again station s (s ∷ []) more
unfolding station
again-station s more h = one_word word.Station (λ t. code.Expected word.Station) station_of s s more (rw h refl)

weekday-back : (w : Weekday) → weekday_of (weekday_word w) ≡ Some w
unfolding is_text
weekday-back Mon = refl
weekday-back Tue = refl
weekday-back Wed = refl
weekday-back Thu = refl
weekday-back Fri = refl
weekday-back Sat = refl
weekday-back Sun = refl

again-weekday : (w : Weekday) (more : List (List ℕ)) → Again weekday w (weekday_word w ∷ []) more
unfolding weekday
again-weekday w more = one_word word.Weekday (λ t. code.Expected word.Weekday) weekday_of w (weekday_word w) more (weekday-back w)

again-before : (more : List (List ℕ)) → Again side Before (codes "before" ∷ []) more
unfolding side is_text
again-before more = one_word word.Side (λ t. code.Expected word.Side) side_of Before (codes "before") more refl

again-after : (more : List (List ℕ)) → Again side After (codes "after" ∷ []) more
unfolding side is_text
again-after more = one_word word.Side (λ t. code.Expected word.Side) side_of After (codes "after") more refl

again-below : (more : List (List ℕ)) → Again bound Below (codes "below" ∷ []) more
unfolding bound is_text
again-below more = one_word word.Credit (λ t. code.Expected word.Credit) bound_of Below (codes "below") more refl

again-above : (more : List (List ℕ)) → Again bound Above (codes "above" ∷ []) more
unfolding bound is_text
again-above more = one_word word.Credit (λ t. code.Expected word.Credit) bound_of Above (codes "above") more refl

-- tests
abbrev test_kind : Test → TestKind
test_kind (Layover s) = test.Layover
test_kind (Departs s) = test.Departs
test_kind (Arrives s) = test.Arrives
test_kind (ReportBefore c) = test.Report
test_kind (ReportAfter c) = test.Report
test_kind (ReleaseBefore c) = test.Release
test_kind (ReleaseAfter c) = test.Release
test_kind (Days n) = test.Days
test_kind (OnWeekday w) = test.Weekday
test_kind (Is p) = test.Pairing

test_kind-back : (t : Test) → test_kind_of (test_word t) ≡ Some (test_kind t)
unfolding is_text
test_kind-back (Layover s) = refl
test_kind-back (Departs s) = refl
test_kind-back (Arrives s) = refl
test_kind-back (ReportBefore c) = refl
test_kind-back (ReportAfter c) = refl
test_kind-back (ReleaseBefore c) = refl
test_kind-back (ReleaseAfter c) = refl
test_kind-back (Days n) = refl
test_kind-back (OnWeekday w) = refl
test_kind-back (Is p) = refl

-- the pairings' names differ from one another
abbrev pub AreNamed : List Pairing → Type 0
AreNamed ps = (p : ℕ) → p < length ps → pairing_named ps (name_of ps p) ≡ Some p

below_1440 : (c : ℕ) → nat_lt c 1440 ≡ true → c < 1440
below_1440 c h = grind (arith, nat_tests)

again-test_of : (ps : List Pairing) (t : Test) (more : List (List ℕ)) → AreNamed ps → is_test (length ps) t ≡ true → is_spelt_test ps t ≡ true
    → Again (test_of ps (test_kind t)) t (test_values ps t) more
unfolding test_of
again-test_of ps (Layover s) more named form spelt = again-map station Layover s (s ∷ []) more (again-station s more spelt)
again-test_of ps (Departs s) more named form spelt = again-map station Departs s (s ∷ []) more (again-station s more spelt)
again-test_of ps (Arrives s) more named form spelt = again-map station Arrives s (s ∷ []) more (again-station s more spelt)
again-test_of ps (ReportBefore c) more named form spelt =
    again-then side _ Before (ReportBefore c) (codes "before" ∷ []) (clock_text c ∷ []) more (again-before (clock_text c ∷ more)) (again-map clock (report_test Before) c (clock_text c ∷ []) more (again-clock c more (below_1440 c form)))
again-test_of ps (ReportAfter c) more named form spelt =
    again-then side _ After (ReportAfter c) (codes "after" ∷ []) (clock_text c ∷ []) more (again-after (clock_text c ∷ more)) (again-map clock (report_test After) c (clock_text c ∷ []) more (again-clock c more (below_1440 c form)))
again-test_of ps (ReleaseBefore c) more named form spelt =
    again-then side _ Before (ReleaseBefore c) (codes "before" ∷ []) (clock_text c ∷ []) more (again-before (clock_text c ∷ more)) (again-map clock (release_test Before) c (clock_text c ∷ []) more (again-clock c more (below_1440 c form)))
again-test_of ps (ReleaseAfter c) more named form spelt =
    again-then side _ After (ReleaseAfter c) (codes "after" ∷ []) (clock_text c ∷ []) more (again-after (clock_text c ∷ more)) (again-map clock (release_test After) c (clock_text c ∷ []) more (again-clock c more (below_1440 c form)))
again-test_of ps (Days n) more named form spelt =
    let p = and_parts (nat_le 1 n) (nat_le n 40) form in
    let least : 1 ≤ n = let a : nat_le 1 n ≡ true = p.0 in grind (arith, nat_tests) in
    let most : n ≤ 40 = let a : nat_le n 40 ≡ true = p.1 in grind (arith, nat_tests) in
    again-map (number 1 40) Days n (number_text n ∷ []) more (again-number 1 40 n more least most (omega arith))
again-test_of ps (OnWeekday w) more named form spelt = again-map weekday OnWeekday w (weekday_word w ∷ []) more (again-weekday w more)
again-test_of ps (Is p) more named form spelt =
    let known : p < length ps = let a : nat_lt p (length ps) ≡ true = form in grind (arith, nat_tests) in
    again-map (pairing ps) Is p (name_of ps p ∷ []) more (again-pairing ps p more spelt (named p known))

again-test_from : (ps : List Pairing) (t : Test) (s : Spot) (more : List (List ℕ)) → AreNamed ps → is_test (length ps) t ≡ true → is_spelt_test ps t ≡ true
    → s.text ≡ test_word t → Again (test_from ps s) t (test_values ps t) more
unfolding test_from
again-test_from ps t s more named form spelt e =
    again-known s (code.Expected word.Filter) (test_kind_of s.text) (test_kind t) (test_of ps) t (test_values ps t) more
    (ap test_kind_of e ∙ test_kind-back t) (again-test_of ps t more named form spelt)

-- atoms
not_not : (t : Test) → is_text (test_word t) (codes "not") ≡ false
unfolding is_text
not_not (Layover s) = refl
not_not (Departs s) = refl
not_not (Arrives s) = refl
not_not (ReportBefore c) = refl
not_not (ReportAfter c) = refl
not_not (ReleaseBefore c) = refl
not_not (ReleaseAfter c) = refl
not_not (Days n) = refl
not_not (OnWeekday w) = refl
not_not (Is p) = refl

-- the negated atom of a test, or the plain one
abbrev atom_of : Bool → Test → Atom
atom_of b t = record { negated = b; test = t }

again-atom_from : (ps : List Pairing) (t : Test) (s : Spot) (b : Bool) (c : Bool) (ws more : List (List ℕ)) → b ≡ c → Again (atom_from ps s c) (atom_of c t) ws more
    → Again (atom_from ps s b) (atom_of c t) ws more
again-atom_from ps t s b c ws more e h = subst (λ (x : Bool). Again (atom_from ps s x) (atom_of c t) ws more) (sym e) h

again-either : (ps : List Pairing) (negated : Bool) (t : Test) (more : List (List ℕ)) → AreNamed ps → is_test (length ps) t ≡ true → is_spelt_test ps t ≡ true
    → Again (atom ps) (atom_of negated t) (if negated then codes "not" ∷ test_words ps t else test_words ps t) more
unfolding atom
again-either ps true t more named form spelt =
    again-next word.Filter _ (atom_of true t) (codes "not") (test_words ps t) more
    (λ s e. again-atom_from ps t s (is_text s.text (codes "not")) true (test_words ps t) more (ap (λ (v : List ℕ). is_text v (codes "not")) e ∙ text-same (codes "not"))
    (again-next word.Filter _ (atom_of true t) (test_word t) (test_values ps t) more
    (λ u f. again-map (test_from ps u) (atom_of true) t (test_values ps t) more (again-test_from ps t u more named form spelt f))))
again-either ps false t more named form spelt =
    again-next word.Filter _ (atom_of false t) (test_word t) (test_values ps t) more
    (λ s e. again-atom_from ps t s (is_text s.text (codes "not")) false (test_values ps t) more (ap (λ (v : List ℕ). is_text v (codes "not")) e ∙ not_not t)
    (again-map (test_from ps s) (atom_of false) t (test_values ps t) more (again-test_from ps t s more named form spelt e)))

again-atom : (ps : List Pairing) (a : Atom) (more : List (List ℕ)) → AreNamed ps → is_test (length ps) a.test ≡ true → is_spelt_test ps a.test ≡ true
    → Again (atom ps) a (atom_words ps a) more
again-atom ps a more named form spelt = again-either ps a.negated a.test more named form spelt

-- whether another atom follows
again-end : Again follows false [] []
unfolding follows optional
again-end [] stop e = ([], refl, refl)
again-end (s ∷ ss) stop e = cc

again-and : (more : List (List ℕ)) → Again follows true (codes "and" ∷ []) more
unfolding follows optional
again-and more [] stop e = cc
again-and more (s ∷ ss) stop e =
    let first : s.text ≡ codes "and" = cc in
    let is_and : is_text s.text (codes "and") ≡ true = ap (λ (v : List ℕ). is_text v (codes "and")) first ∙ text-same (codes "and") in
    (ss, cc, rw is_and refl)

again-joined : (ps : List Pairing) (a : Atom) (next_word : Bool) (end more : List (List ℕ)) → AreNamed ps → is_test (length ps) a.test ≡ true → is_spelt_test ps a.test ≡ true
    → Again follows next_word end more → Again (joined ps) (a, next_word) (atom_words ps a ++ end) more
unfolding joined
again-joined ps a next_word end more named form spelt h =
    again-then (atom ps) _ a (a, next_word) (atom_words ps a) end more (again-atom ps a (end ++ more) named form spelt)
    (again-map follows (λ (b : Bool). (a, b)) next_word end more h)

-- filters
again-atoms : (ps : List Pairing) (n : ℕ) (list : List Atom) → AreNamed ps → 1 ≤ length list → length list ≤ n
    → list_all (λ a. is_test (length ps) a.test) list ≡ true → is_spelt_filter ps list ≡ true → Again (atoms ps n) list (filter_words ps list) []
unfolding atoms
again-atoms ps n [] named some few form spelt = absurd (omega arith)
again-atoms ps zero (a ∷ os) named some few form spelt = absurd (omega arith)
again-atoms ps (suc n) (a ∷ []) named some few form spelt =
    let f = and_parts (is_test (length ps) a.test) true form in
    let g = and_parts (is_spelt_test ps a.test) true spelt in
    again-parts (joined ps) _ (a, false) (a ∷ []) (filter_words ps (a ∷ [])) (atom_words ps a ++ []) [] [] (sym (append-nil (atom_words ps a ++ [])))
    (again-joined ps a false [] [] named f.0 g.0 again-end) (again-done (a ∷ []) [])
again-atoms ps (suc n) (a ∷ (b ∷ bs)) named some few form spelt =
    let f = and_parts (is_test (length ps) a.test) (list_all (λ x. is_test (length ps) x.test) (b ∷ bs)) form in
    let g = and_parts (is_spelt_test ps a.test) (is_spelt_filter ps (b ∷ bs)) spelt in
    again-parts (joined ps) _ (a, true) (a ∷ (b ∷ bs)) (filter_words ps (a ∷ (b ∷ bs))) (atom_words ps a ++ codes "and" ∷ []) (filter_words ps (b ∷ bs)) []
    (sym (append_assoc (atom_words ps a) (codes "and" ∷ []) (filter_words ps (b ∷ bs))))
    (again-joined ps a true (codes "and" ∷ []) (filter_words ps (b ∷ bs) ++ []) named f.0 g.0 (again-and (filter_words ps (b ∷ bs) ++ [])))
    (again-map (atoms ps n) (λ (others : List Atom). a ∷ others) (b ∷ bs) (filter_words ps (b ∷ bs)) []
    (again-atoms ps n (b ∷ bs) named (omega arith) (omega arith) f.1 g.1))

pub again-filter : (ps : List Pairing) (f : List Atom) → AreNamed ps → is_filter (length ps) f ≡ true → is_spelt_filter ps f ≡ true → Again (filter ps) f (filter_words ps f) []
again-filter ps f named form spelt =
    let p = and_parts (nat_le 1 (length f) && nat_le (length f) 8) (list_all (λ a. is_test (length ps) a.test) f) form in
    let q = and_parts (nat_le 1 (length f)) (nat_le (length f) 8) p.0 in
    let some : 1 ≤ length f = let a : nat_le 1 (length f) ≡ true = q.0 in grind (arith, nat_tests) in
    let few : length f ≤ 8 = let a : nat_le (length f) 8 ≡ true = q.1 in grind (arith, nat_tests) in
    again-atoms ps 8 f named some few p.1 spelt

-- days
abbrev pub AreDays : Horizon → Type 0
AreDays h = (d : ℕ) → 365 ≤ d → d < 365 + month_days h → day_in h (day_field (day_word h d)) ≡ Some d

again-day : (h : Horizon) (d : ℕ) (more : List (List ℕ)) → day_in h (day_field (day_word h d)) ≡ Some d → Again (day h) d (day_word h d ∷ []) more
unfolding day
again-day h d more back = one_word word.Value (λ s. code.Date) (λ t. day_in h (day_field t)) d (day_word h d) more back

again-later_day : (h : Horizon) (first d : ℕ) (more : List (List ℕ)) → first ≤ d → day_in h (day_field (day_word h d)) ≡ Some d → Again (later_day h first) d (day_word h d ∷ []) more
unfolding later_day
again-later_day h first d more order back =
    let t : nat_le first d ≡ true = grind (arith, nat_tests) in
    one_word word.Value (λ s. code.Date) (λ v. not_before first (day_in h (day_field v))) d (day_word h d) more (ap (not_before first) back ∙ rw t refl)

again-to : (h : Horizon) (first last : ℕ) (b : Bool) → (first == last) ≡ b → first ≤ last → day_in h (day_field (day_word h last)) ≡ Some last
    → Again (last_day h first) last (if b then [] else codes "to" ∷ day_word h last ∷ []) []
unfolding last_day optional
again-to h first last true e order back [] stop f = let same : first ≡ last = grind (arith, nat_tests) in ([], refl, rw same refl)
again-to h first last true e order back (s ∷ ss) stop f = cc
again-to h first last false e order back [] stop f = cc
again-to h first last false e order back (s ∷ ss) stop f =
    let word_to : s.text ≡ codes "to" = cc in
    let is_to : is_text s.text (codes "to") ≡ true = ap (λ (v : List ℕ). is_text v (codes "to")) word_to ∙ text-same (codes "to") in
    let rest : texts ss ≡ (day_word h last ∷ []) ++ [] = cc in
    let u = again-later_day h first last [] order back ss stop rest in
    (u.0, u.1, rw (is_to, u.2) refl)

again-last_day : (h : Horizon) (first last : ℕ) → first ≤ last → day_in h (day_field (day_word h last)) ≡ Some last → Again (last_day h first) last (to_words h first last) []
again-last_day h first last order back = again-to h first last (first == last) refl order back

-- wishes
abbrev wish_kind : Wish → Kind
wish_kind (Fly p) = kind.Fly
wish_kind (Avoid f) = kind.Avoid
wish_kind (Prefer n f) = kind.Prefer
wish_kind (Off first last) = kind.Off
wish_kind (CreditBelow m) = kind.Credit
wish_kind (CreditAbove m) = kind.Credit
wish_kind (DaysOff n) = kind.DaysOff

kind-back : (w : Wish) → kind_of (wish_word w) ≡ Some (wish_kind w)
unfolding is_text
kind-back (Fly p) = refl
kind-back (Avoid f) = refl
kind-back (Prefer n f) = refl
kind-back (Off first last) = refl
kind-back (CreditBelow m) = refl
kind-back (CreditAbove m) = refl
kind-back (DaysOff n) = refl

credit-small : (m : ℕ) → nat_le m 59999 ≡ true → m < 60000
credit-small m h = grind (arith, nat_tests)

again-wish_of : (base : Base) (w : Wish) → AreNamed base.pairings → AreDays base.rules.horizon → is_wish base.rules.horizon (length base.pairings) w ≡ true → is_spelt_wish base w ≡ true
    → Again (wish_of base (wish_kind w)) w (wish_values base w) []
unfolding wish_of
again-wish_of base (Fly p) named days form spelt =
    let known : p < length base.pairings = let a : nat_lt p (length base.pairings) ≡ true = form in grind (arith, nat_tests) in
    again-map (pairing base.pairings) Fly p (name_of base.pairings p ∷ []) [] (again-pairing base.pairings p [] spelt (named p known))
again-wish_of base (Avoid f) named days form spelt = again-map (filter base.pairings) Avoid f (filter_words base.pairings f) [] (again-filter base.pairings f named form spelt)
again-wish_of base (Prefer n f) named days form spelt =
    let p = and_parts (nat_le 1 n && nat_le n 600) (is_filter (length base.pairings) f) form in
    let q = and_parts (nat_le 1 n) (nat_le n 600) p.0 in
    let some : 1 ≤ n = let a : nat_le 1 n ≡ true = q.0 in grind (arith, nat_tests) in
    let few : n ≤ 600 = let a : nat_le n 600 ≡ true = q.1 in grind (arith, nat_tests) in
    again-then (number 1 600) _ n (Prefer n f) (number_text n ∷ []) (filter_words base.pairings f) []
    (again-number 1 600 n (filter_words base.pairings f ++ []) some few (omega arith))
    (again-map (filter base.pairings) (Prefer n) f (filter_words base.pairings f) [] (again-filter base.pairings f named p.1 spelt))
again-wish_of base (Off first last) named days form spelt =
    let h = base.rules.horizon in
    let p = and_parts (nat_le 365 first && nat_le first last) (nat_lt last (365 + month_days h)) form in
    let q = and_parts (nat_le 365 first) (nat_le first last) p.0 in
    let begins : 365 ≤ first = let a : nat_le 365 first ≡ true = q.0 in grind (arith, nat_tests) in
    let order : first ≤ last = let a : nat_le first last ≡ true = q.1 in grind (arith, nat_tests) in
    let ends : last < 365 + month_days h = let a : nat_lt last (365 + month_days h) ≡ true = p.1 in grind (arith, nat_tests) in
    again-then (day h) _ first (Off first last) (day_word h first ∷ []) (to_words h first last) []
    (again-day h first (to_words h first last ++ []) (days first begins (omega arith)))
    (again-map (last_day h first) (Off first) last (to_words h first last) [] (again-last_day h first last order (days last (omega arith) ends)))
again-wish_of base (CreditBelow m) named days form spelt =
    again-then bound _ Below (CreditBelow m) (codes "below" ∷ []) (minutes_text m ∷ []) [] (again-below (minutes_text m ∷ [])) (again-map minutes (credit_wish Below) m (minutes_text m ∷ []) [] (again-minutes m [] (credit-small m form)))
again-wish_of base (CreditAbove m) named days form spelt =
    again-then bound _ Above (CreditAbove m) (codes "above" ∷ []) (minutes_text m ∷ []) [] (again-above (minutes_text m ∷ [])) (again-map minutes (credit_wish Above) m (minutes_text m ∷ []) [] (again-minutes m [] (credit-small m form)))
again-wish_of base (DaysOff n) named days form spelt =
    let few : n ≤ 31 = let a : nat_le n 31 ≡ true = form in grind (arith, nat_tests) in
    again-map (number 0 31) DaysOff n (number_text n ∷ []) [] (again-number 0 31 n [] (omega arith) few (omega arith))

again-wish : (base : Base) (w : Wish) → AreNamed base.pairings → AreDays base.rules.horizon → is_wish base.rules.horizon (length base.pairings) w ≡ true → is_spelt_wish base w ≡ true
    → Again (wish base) w (wish_words base w) []
unfolding wish
again-wish base w named days form spelt =
    again-next word.Kind _ w (wish_word w) (wish_values base w) []
    (λ s e. again-known s (code.Expected word.Kind) (kind_of s.text) (wish_kind w) (wish_of base) w (wish_values base w) []
    (ap kind_of e ∙ kind-back w) (again-wish_of base w named days form spelt))

-- bids
again-weight : (s : Spot) (w : ℕ) (more : List (List ℕ)) → s.text ≡ number_text w → 1 ≤ w → w ≤ 1000 → Again (weight s) w [] more
unfolding weight
again-weight s w more e low high spots stop f =
    let fits : w < 2 ^ 32 = omega arith in
    let reads : number_field s.text ≡ Ok w = ap number_field e ∙ number-again w fits in
    let i : (nat_le 1 w && nat_le w 1000) ≡ true = grind (arith, nat_tests) in
    (spots, f, rw (reads, i) refl)

again-room : (count : ℕ) (more : List (List ℕ)) → count < 64 → Again (room count) tt [] more
again-room count more h spots stop f = let i : nat_lt count 64 ≡ true = grind (arith, nat_tests) in (spots, f, rw i refl)

pub again-finished : Again finished tt [] []
unfolding finished
again-finished [] stop e = ([], refl, refl)
again-finished (s ∷ ss) stop e = cc

pub again-bid : (base : Base) (count : ℕ) (s : Spot) (b : Bid) → AreNamed base.pairings → AreDays base.rules.horizon → IsBid base.rules.horizon (length base.pairings) b → is_spelt_wish base b.wish ≡ true
    → count < 64 → s.text ≡ number_text b.weight → Again (bid base count s) b (wish_words base b.wish) []
unfolding bid
again-bid base count s b named days form spelt few e =
    let ws = wish_words base b.wish in
    again-then (weight s) _ b.weight b [] ws [] (again-weight s b.weight (ws ++ []) e form.some_weight form.few_weight)
    (again-then (room count) _ tt b [] ws [] (again-room count (ws ++ []) few)
    (again-parts (wish base) _ b.wish b ws ws [] [] (sym (append-nil ws)) (again-wish base b.wish named days form.wish_form spelt)
    (again-then finished _ tt b [] [] [] again-finished (again-done b []))))
