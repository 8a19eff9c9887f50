-- Where a text leaves the form of flights.
use Rattle.std.proofs.Common.{◌≡◌, ◌≢◌, ◌↔◌, ℕ, zero, suc, ◌+◌, ◌%◌, ◌<◌, ◌≤◌, List, [], ◌∷◌, ◌++◌, length, map, flat_map, get_or, take, drop, Bool, true, false, cond, ◌==◌, Option, Some, None, refl, sym, ap, subst, ◌∙◌, arith, inl, inr, All}
use Rattle.std.proofs.lemmas.Bool.{cases_lt}
use Rattle.std.proofs.lemmas.Bool.Decides.{nat_tests}
use Rattle.std.proofs.lemmas.List.{get_or_append_left}
use Rattle.std.proofs.lemmas.List.Elements.{All-cons, All-head, All-tail}
use Rattle.std.proofs.Math.Seq.{drop-cons}
use Rattle.field_text.specs.declared.form.Class.{Class}
use Rattle.field_text.specs.declared.form.Class.TheVariants.{Digit, Byte}
use Rattle.field_text.specs.Columns.{Begins, StopsAt, a_byte}
use Rattle.field_text.specs.Form.{is_in, IsRow}
use Rattle.field_text.proofs.ColumnLaws.{byte-in}
use Rattle.crew_files.specs.Flights.{flight, AndFlights, AreFlights, flight_row, flights_fault}

-- one byte at the head of such a text
in-class : (c : Class) (cs : List Class) (b : ℕ) (bs : List ℕ) → is_in c b ≡ true → AndFlights cs bs → AndFlights (c ∷ cs) (b ∷ bs)
in-class c cs b bs h w = record { first = b ∷ w.first; more = w.more; row = (h, w.row); rows = w.rows; text_is = ap (λ (t : List ℕ). b ∷ t) w.text_is }

out-class : (c : Class) (cs : List Class) (b : ℕ) (bs : List ℕ) → AndFlights (c ∷ cs) (b ∷ bs) → (is_in c b ≡ true) × AndFlights cs bs
out-class c cs b bs w = go w.first w.row w.text_is
  where
    go : (first : List ℕ) → IsRow (c ∷ cs) first → b ∷ bs ≡ first ++ flat_map (λ (f : List ℕ). 32 ∷ f) w.more → (is_in c b ≡ true) × AndFlights cs bs
    go [] r e = absurd r
    go (x ∷ xs) r e =
        let s : b ≡ x = cc e in
        (ap (is_in c) s ∙ r.0, record { first = xs; more = w.more; row = r.1; rows = w.rows; text_is = cc e })

no-class : (c : Class) (cs : List Class) → AndFlights (c ∷ cs) [] → ⊥
no-class c cs w = go w.first w.row w.text_is
  where
    go : (first : List ℕ) → IsRow (c ∷ cs) first → [] ≡ first ++ flat_map (λ (f : List ℕ). 32 ∷ f) w.more → ⊥
    go [] r e = r
    go (x ∷ xs) r e = absurd (cc e)

-- the blank behind a flight
in-blank : (bs : List ℕ) → AndFlights flight bs → AndFlights [] (32 ∷ bs)
in-blank bs w = record {
  first = [];
  more = w.first ∷ w.more;
  row = tt;
  rows = All-cons (IsRow flight) w.first w.more w.row w.rows;
  text_is = ap (λ (t : List ℕ). 32 ∷ t) w.text_is;
}

out-blank : (b : ℕ) (bs : List ℕ) → AndFlights [] (b ∷ bs) → (b ≡ 32) × AndFlights flight bs
out-blank b bs w = go w.first w.row w.more w.rows w.text_is
  where
    go : (first : List ℕ) → IsRow [] first → (more : List (List ℕ)) → All (IsRow flight) more → b ∷ bs ≡ first ++ flat_map (λ (f : List ℕ). 32 ∷ f) more → (b ≡ 32) × AndFlights flight bs
    go (x ∷ xs) r more a e = absurd r
    go [] r [] a e = absurd (cc e)
    go [] r (f ∷ fs) a e = (cc e, record { first = f; more = fs; row = All-head (IsRow flight) f fs a; rows = All-tail (IsRow flight) f fs a; text_is = cc e })

at-end : AndFlights [] []
at-end = record { first = []; more = []; row = tt; rows = λ k d l. absurd (omega arith); text_is = refl }

row-of : (cs : List Class) → IsRow cs (map a_byte cs)
row-of [] = tt
row-of (c ∷ cs) = (byte-in c, row-of cs)

-- some text goes on
some-text : (cs : List Class) → Begins (AndFlights cs) []
some-text cs = (map a_byte cs ++ [], record { first = map a_byte cs; more = []; row = row-of cs; rows = λ k d l. absurd (omega arith); text_is = refl })

-- the classes that are left behind so many bytes of a flight
abbrev left : ℕ → List Class
left j = drop j flight

left-next : (j : ℕ) → j < 35 → left j ≡ get_or flight j Digit ∷ left (suc j)
left-next j l = drop-cons flight j Digit l

class-at : (j : ℕ) → j < 35 → get_or flight_row j Digit ≡ get_or flight j Digit
class-at j l = get_or_append_left flight (Byte 32 ∷ []) Digit j l

-- a byte that may stand at a place, and the place behind it
record Step (n j b : ℕ) : Type 0 where
  next : ℕ
  place : (n + 1) % 36 ≡ next
  into : (t : List ℕ) → AndFlights (left next) t → AndFlights (left j) (b ∷ t)
  out : (t : List ℕ) → AndFlights (left j) (b ∷ t) → AndFlights (left next) t

step : (n j b : ℕ) → n % 36 ≡ j → is_in (get_or flight_row (n % 36) Digit) b ≡ true → Step n j b
step n j b e h = elim (cases_lt j 35) [
  | inl l ↦
      let class : is_in (get_or flight j Digit) b ≡ true = ap (λ (c : Class). is_in c b) (sym (ap (λ (i : ℕ). get_or flight_row i Digit) e ∙ class-at j l)) ∙ h in
      record {
        next = suc j;
        place = omega (arith, e);
        into = λ t w. subst (λ (cs : List Class). AndFlights cs (b ∷ t)) (sym (left-next j l)) (in-class (get_or flight j Digit) (left (suc j)) b t class w);
        out = λ t w. (out-class (get_or flight j Digit) (left (suc j)) b t (subst (λ (cs : List Class). AndFlights cs (b ∷ t)) (left-next j l) w)).1;
      }
  | inr m ↦
      let last : j ≡ 35 = omega (arith, e) in
      let blank : is_in (Byte 32) b ≡ true = ap (λ (i : ℕ). is_in (get_or flight_row i Digit) b) (sym (e ∙ last)) ∙ h in
      let here : b ≡ 32 = grind (arith, nat_tests) in
      record {
        next = 0;
        place = omega (arith, e);
        into = λ t w. subst (λ (i : ℕ). AndFlights (left i) (b ∷ t)) (sym last) (subst (λ (x : ℕ). AndFlights [] (x ∷ t)) (sym here) (in-blank t w));
        out = λ t w. (out-blank b t (subst (λ (i : ℕ). AndFlights (left i) (b ∷ t)) last w)).1;
      }
]

stuck : (n j b : ℕ) (t : List ℕ) → n % 36 ≡ j → is_in (get_or flight_row (n % 36) Digit) b ≡ false → AndFlights (left j) (b ∷ t) → ⊥
stuck n j b t e h w = elim (cases_lt j 35) [
  | inl l ↦
      let class : is_in (get_or flight j Digit) b ≡ false = ap (λ (c : Class). is_in c b) (sym (ap (λ (i : ℕ). get_or flight_row i Digit) e ∙ class-at j l)) ∙ h in
      let in_it : is_in (get_or flight j Digit) b ≡ true = (out-class (get_or flight j Digit) (left (suc j)) b t (subst (λ (cs : List Class). AndFlights cs (b ∷ t)) (left-next j l) w)).0 in
      absurd (cc (sym class ∙ in_it))
  | inr m ↦
      let last : j ≡ 35 = omega (arith, e) in
      let blank : is_in (Byte 32) b ≡ false = ap (λ (i : ℕ). is_in (get_or flight_row i Digit) b) (sym (e ∙ last)) ∙ h in
      let here : b ≡ 32 = (out-blank b t (subst (λ (i : ℕ). AndFlights (left i) (b ∷ t)) last w)).0 in
      absurd (grind (arith, nat_tests))
]

-- the end of the text
ends-there : (n j : ℕ) → n % 36 ≡ j → (n % 36 == 35) ≡ true → AndFlights (left j) []
ends-there n j e h = let last : 35 ≡ j = grind (arith, nat_tests) in subst (λ (i : ℕ). AndFlights (left i) []) last at-end

goes-on : (n j : ℕ) → n % 36 ≡ j → (n % 36 == 35) ≡ false → AndFlights (left j) [] → ⊥
goes-on n j e h w =
    let short : j ≢ 35 = grind (arith, nat_tests) in
    let l : j < 35 = omega (arith, e) in
    no-class (get_or flight j Digit) (left (suc j)) (subst (λ (cs : List Class). AndFlights cs []) (left-next j l) w)

fits-of : (n j : ℕ) (text : List ℕ) → n % 36 ≡ j → flights_fault n text ≡ None → AndFlights (left j) text
unfolding flights_fault
fits-of n j [] e h = go (n % 36 == 35) refl h
  where
    go : (t : Bool) → (n % 36 == 35) ≡ t → cond t None (Some (n + 1)) ≡ None → AndFlights (left j) []
    go true k i = ends-there n j e k
    go false k i = absurd (cc i)
fits-of n j (b ∷ bs) e h = go (is_in (get_or flight_row (n % 36) Digit) b) refl h (λ i k. fits-of (n + 1) i bs k)
  where
    go : (t : Bool) → is_in (get_or flight_row (n % 36) Digit) b ≡ t → cond t (flights_fault (n + 1) bs) (Some (n + 1)) ≡ None
        → ((i : ℕ) → (n + 1) % 36 ≡ i → flights_fault (n + 1) bs ≡ None → AndFlights (left i) bs) → AndFlights (left j) (b ∷ bs)
    go true k i more = let s = step n j b e k in s.into bs (more s.next s.place i)
    go false k i more = absurd (cc i)

fault-least : (n k : ℕ) (text : List ℕ) → flights_fault n text ≡ Some k → n + 1 ≤ k
unfolding flights_fault
fault-least n k [] h = go (n % 36 == 35) h
  where
    go : (t : Bool) → cond t None (Some (n + 1)) ≡ Some k → n + 1 ≤ k
    go true i = absurd (cc i)
    go false i = let s : n + 1 ≡ k = cc i in omega arith
fault-least n k (b ∷ bs) h = go (is_in (get_or flight_row (n % 36) Digit) b) h (fault-least (n + 1) k bs)
  where
    go : (t : Bool) → cond t (flights_fault (n + 1) bs) (Some (n + 1)) ≡ Some k → (flights_fault (n + 1) bs ≡ Some k → n + 1 + 1 ≤ k) → n + 1 ≤ k
    go true i more = let s = more i in omega arith
    go false i more = let s : n + 1 ≡ k = cc i in omega arith

-- where a text leaves the form, as so many bytes that it shares with texts of the form
record Leaves (cs : List Class) (text : List ℕ) (i : ℕ) : Type 0 where
  within : i ≤ length text
  before : Begins (AndFlights cs) (take i text)
  here : i < length text → ¬ Begins (AndFlights cs) (take (suc i) text)
  ends : ¬ AndFlights cs text

leaves-end : (cs : List Class) → (AndFlights cs [] → ⊥) → Leaves cs [] 0
leaves-end cs never = record { within = omega arith; before = some-text cs; here = λ l. absurd (omega arith); ends = λ w. never w }

leaves-here : (cs : List Class) (b : ℕ) (bs : List ℕ) → ((t : List ℕ) → AndFlights cs (b ∷ t) → ⊥) → Leaves cs (b ∷ bs) 0
leaves-here cs b bs never = record { within = omega arith; before = some-text cs; here = λ l (w : Begins (AndFlights cs) (b ∷ [])). never w.0 w.1; ends = λ w. never bs w }

leaves-later : (n j b : ℕ) (bs : List ℕ) (i : ℕ) (s : Step n j b) → Leaves (left s.next) bs i → Leaves (left j) (b ∷ bs) (suc i)
leaves-later n j b bs i s l = record {
  within = omega (arith, l.within);
  before = (l.before.0, s.into (take i bs ++ l.before.0) l.before.1);
  here = λ p w. l.here (omega arith) (w.0, s.out (take (suc i) bs ++ w.0) w.1);
  ends = λ w. l.ends (s.out bs w);
}

leaves : (n j i : ℕ) (text : List ℕ) → n % 36 ≡ j → flights_fault n text ≡ Some (n + 1 + i) → Leaves (left j) text i
unfolding flights_fault
leaves n j i [] e h = go (n % 36 == 35) refl h
  where
    go : (t : Bool) → (n % 36 == 35) ≡ t → cond t None (Some (n + 1)) ≡ Some (n + 1 + i) → Leaves (left j) [] i
    go true k g = absurd (cc g)
    go false k g =
        let s : n + 1 ≡ n + 1 + i = cc g in
        let z : 0 ≡ i = omega arith in
        subst (λ (x : ℕ). Leaves (left j) [] x) z (leaves-end (left j) (goes-on n j e k))
leaves n j i (b ∷ bs) e h = go (is_in (get_or flight_row (n % 36) Digit) b) refl h (λ x k y. leaves (n + 1) x y bs k)
  where
    go : (t : Bool) → is_in (get_or flight_row (n % 36) Digit) b ≡ t → cond t (flights_fault (n + 1) bs) (Some (n + 1)) ≡ Some (n + 1 + i)
        → ((x : ℕ) → (n + 1) % 36 ≡ x → (y : ℕ) → flights_fault (n + 1) bs ≡ Some (n + 1 + 1 + y) → Leaves (left x) bs y) → Leaves (left j) (b ∷ bs) i
    go false k g more =
        let s : n + 1 ≡ n + 1 + i = cc g in
        let z : 0 ≡ i = omega arith in
        subst (λ (x : ℕ). Leaves (left j) (b ∷ bs) x) z (leaves-here (left j) b bs (λ t w. stuck n j b t e k w))
    go true k g more = later i g (fault-least (n + 1) (n + 1 + i) bs g)
      where
        later : (i : ℕ) → flights_fault (n + 1) bs ≡ Some (n + 1 + i) → n + 1 + 1 ≤ n + 1 + i → Leaves (left j) (b ∷ bs) i
        later zero g l = absurd (omega arith)
        later (suc y) g l =
            let s = step n j b e k in
            let same : n + 1 + suc y ≡ n + 1 + 1 + y = omega arith in
            leaves-later n j b bs y s (more s.next s.place y (g ∙ ap Some same))

pub stops : (text : List ℕ) (column : ℕ) → flights_fault 0 text ≡ Some column → StopsAt AreFlights text column
stops text zero h = absurd (omega (arith, fault-least 0 0 text h))
stops text (suc i) h =
    let l = leaves 0 0 i text refl (h ∙ ap Some (omega arith)) in
    record {
      counted = omega arith;
      within = omega (arith, l.within);
      before = λ k s. let z : i ≡ k = omega arith in subst (λ (x : ℕ). Begins AreFlights (take x text)) z l.before;
      here = λ p. l.here (omega arith);
      ends = l.ends;
    }

pub fits : (text : List ℕ) → (flights_fault 0 text ≡ None) ↔ AreFlights text
fits text = (fits-of 0 0 text refl, λ w. go (flights_fault 0 text) refl w)
  where
    go : (o : Option ℕ) → flights_fault 0 text ≡ o → AreFlights text → o ≡ None
    go None e w = refl
    go (Some k) e w = absurd ((stops text k e).ends w)
