-- Lines of rows, written one after another.
use Rattle.std.proofs.Common.{◌≡◌, ℕ, ◌+◌, ◌<◌, ◌≤◌, suc, List, [], ◌∷◌, ◌++◌, length, get_or, drop, refl, sym, ap, ◌∙◌, append_assoc, add-one, drop_of_length-le}
use Rattle.std.proofs.Math.Seq.{drop-cons}
use Rattle.std.proofs.lemmas.List.{append-nil}
use Rattle.duty_calendar.specs.declared.horizon.Horizon.{Horizon}
use Rattle.duty_calendar.specs.declared.pairing.Duty.{Duty}
use Rattle.duty_calendar.specs.declared.pairing.Leg.{Leg}
use Rattle.duty_calendar.specs.declared.pairing.Pairing.{Pairing}
use Rattle.pairing_files.specs.Texts.{lines, pairing_fields, duty_fields, leg_fields, pairing_rows, duty_rows, all_duty_rows, leg_rows, duties_leg_rows, all_leg_rows}
use Rattle.field_text.specs.Rows.{line}

pub chain-three : (o o1 o2 o3 a b c : List ℕ) → o1 ≡ o ++ (a ++ 44 ∷ []) → o2 ≡ o1 ++ (b ++ 44 ∷ []) → o3 ≡ o2 ++ (c ++ 10 ∷ []) → o3 ≡ o ++ line (a ∷ b ∷ c ∷ [])
chain-three o o1 o2 o3 a b c e1 e2 e3 = rw (e3, e2, e1) (simp append_assoc)

pub chain-six : (o o1 o2 o3 o4 o5 o6 a b c d e f : List ℕ) → o1 ≡ o ++ (a ++ 44 ∷ []) → o2 ≡ o1 ++ (b ++ 44 ∷ []) → o3 ≡ o2 ++ (c ++ 44 ∷ []) → o4 ≡ o3 ++ (d ++ 44 ∷ []) → o5 ≡ o4 ++ (e ++ 44 ∷ []) → o6 ≡ o5 ++ (f ++ 10 ∷ [])
    → o6 ≡ o ++ line (a ∷ b ∷ c ∷ d ∷ e ∷ f ∷ [])
chain-six o o1 o2 o3 o4 o5 o6 a b c d e f e1 e2 e3 e4 e5 e6 = rw (e6, e5, e4, e3, e2, e1) (simp append_assoc)

pub lines-append : (xs ys : List (List (List ℕ))) → lines (xs ++ ys) ≡ lines xs ++ lines ys
unfolding lines
lines-append [] ys = refl
lines-append (x ∷ xs) ys = ap (λ (t : List ℕ). line x ++ t) (lines-append xs ys) ∙ sym (append_assoc (line x) (lines xs) (lines ys))

-- one more line
pub write-step : (out next start : List ℕ) (r : List (List ℕ)) (rows more all : List (List (List ℕ))) → next ≡ out ++ line r → rows ≡ r ∷ more → out ++ lines rows ≡ start ++ lines all → next ++ lines more ≡ start ++ lines all
unfolding lines
write-step out next start r rows more all e split same =
    ap (λ (t : List ℕ). t ++ lines more) e ∙ append_assoc out (line r) (lines more) ∙ ap (λ (t : List (List (List ℕ))). out ++ lines t) (sym split) ∙ same

-- the lines of some more rows
pub write-block : (out next start : List ℕ) (block rows more all : List (List (List ℕ))) → next ≡ out ++ lines block → rows ≡ block ++ more → out ++ lines rows ≡ start ++ lines all → next ++ lines more ≡ start ++ lines all
write-block out next start block rows more all e split same =
    ap (λ (t : List ℕ). t ++ lines more) e ∙ append_assoc out (lines block) (lines more) ∙ ap (λ (t : List ℕ). out ++ t) (sym (lines-append block more)) ∙ ap (λ (t : List (List (List ℕ))). out ++ lines t) (sym split) ∙ same

-- no row is left
pub write-end : (out start : List ℕ) (rows all : List (List (List ℕ))) → rows ≡ [] → out ++ lines rows ≡ start ++ lines all → out ≡ start ++ lines all
unfolding lines
write-end out start rows all none same = sym (append-nil out) ∙ ap (λ (t : List (List (List ℕ))). out ++ lines t) (sym none) ∙ same

drop-at : {X : Type 0} (xs : List X) (i : ℕ) (x : X) → i < length xs → x ≡ get_or xs i x → drop i xs ≡ x ∷ drop (i + 1) xs
drop-at {X} xs i x h e =
    drop-cons xs i x h ∙ ap (λ (y : X). y ∷ drop (suc i) xs) (sym e) ∙ ap (λ (n : ℕ). x ∷ drop n xs) (sym (add-one i))

pub pairing-next : (list : List Pairing) (i : ℕ) (p : Pairing) → i < length list → p ≡ get_or list i p → pairing_rows (drop i list) ≡ pairing_fields p ∷ pairing_rows (drop (i + 1) list)
unfolding pairing_rows
pairing-next list i p h e = ap pairing_rows (drop-at list i p h e)

pub pairing-done : (list : List Pairing) (i : ℕ) → length list ≤ i → pairing_rows (drop i list) ≡ []
unfolding pairing_rows
pairing-done list i h = ap pairing_rows (drop_of_length-le list h)

pub duty-next : (h : Horizon) (name : List ℕ) (list : List Duty) (i : ℕ) (d : Duty) → i < length list → d ≡ get_or list i d → duty_rows h name (i + 1) (drop i list) ≡ duty_fields h name (i + 1) d ∷ duty_rows h name (i + 1 + 1) (drop (i + 1) list)
unfolding duty_rows
duty-next h name list i d w e = ap (duty_rows h name (i + 1)) (drop-at list i d w e)

pub duty-done : (h : Horizon) (name : List ℕ) (list : List Duty) (i n : ℕ) → length list ≤ i → duty_rows h name n (drop i list) ≡ []
unfolding duty_rows
duty-done h name list i n w = ap (duty_rows h name n) (drop_of_length-le list w)

pub duties-next : (h : Horizon) (list : List Pairing) (i : ℕ) (p : Pairing) → i < length list → p ≡ get_or list i p → all_duty_rows h (drop i list) ≡ duty_rows h p.name 1 p.duties ++ all_duty_rows h (drop (i + 1) list)
unfolding all_duty_rows
duties-next h list i p w e = ap (all_duty_rows h) (drop-at list i p w e)

pub duties-done : (h : Horizon) (list : List Pairing) (i : ℕ) → length list ≤ i → all_duty_rows h (drop i list) ≡ []
unfolding all_duty_rows
duties-done h list i w = ap (all_duty_rows h) (drop_of_length-le list w)

pub leg-next : (h : Horizon) (name : List ℕ) (number : ℕ) (list : List Leg) (i : ℕ) (l : Leg) → i < length list → l ≡ get_or list i l → leg_rows h name number (drop i list) ≡ leg_fields h name number l ∷ leg_rows h name number (drop (i + 1) list)
unfolding leg_rows
leg-next h name number list i l w e = ap (leg_rows h name number) (drop-at list i l w e)

pub leg-done : (h : Horizon) (name : List ℕ) (number : ℕ) (list : List Leg) (i : ℕ) → length list ≤ i → leg_rows h name number (drop i list) ≡ []
unfolding leg_rows
leg-done h name number list i w = ap (leg_rows h name number) (drop_of_length-le list w)

pub duties_leg-next : (h : Horizon) (name : List ℕ) (list : List Duty) (i : ℕ) (d : Duty) → i < length list → d ≡ get_or list i d → duties_leg_rows h name (i + 1) (drop i list) ≡ leg_rows h name (i + 1) d.legs ++ duties_leg_rows h name (i + 1 + 1) (drop (i + 1) list)
unfolding duties_leg_rows
duties_leg-next h name list i d w e = ap (duties_leg_rows h name (i + 1)) (drop-at list i d w e)

pub duties_leg-done : (h : Horizon) (name : List ℕ) (list : List Duty) (i n : ℕ) → length list ≤ i → duties_leg_rows h name n (drop i list) ≡ []
unfolding duties_leg_rows
duties_leg-done h name list i n w = ap (duties_leg_rows h name n) (drop_of_length-le list w)

pub legs-next : (h : Horizon) (list : List Pairing) (i : ℕ) (p : Pairing) → i < length list → p ≡ get_or list i p → all_leg_rows h (drop i list) ≡ duties_leg_rows h p.name 1 p.duties ++ all_leg_rows h (drop (i + 1) list)
unfolding all_leg_rows
legs-next h list i p w e = ap (all_leg_rows h) (drop-at list i p w e)

pub legs-done : (h : Horizon) (list : List Pairing) (i : ℕ) → length list ≤ i → all_leg_rows h (drop i list) ≡ []
unfolding all_leg_rows
legs-done h list i w = ap (all_leg_rows h) (drop_of_length-le list w)
