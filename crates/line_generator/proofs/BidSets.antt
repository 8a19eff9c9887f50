-- Sets of bids as bits, collected bid by bid; and the numbers of the sets of some bids.
use Rattle.std.proofs.Common.{◌≡◌, ◌≢◌, ℕ, zero, suc, ◌+◌, ◌-◌, ◌*◌, ◌^◌, ◌<◌, ◌≤◌, Bool, true, false, cond, ◌&&◌, ◌||◌, ◌==◌, refl, ap, sym, ◌∙◌, subst, inl, inr, arith}
use Rattle.std.specs.Prelude.{nat_lt}
use Rattle.std.specs.Int.{bit_at}
use Rattle.std.proofs.Math.Path.{fun_ext}
use Rattle.std.proofs.lemmas.Bool.{cases_Bool, cases_lt, false≢true}
use Rattle.std.proofs.lemmas.Bool.Decides.{nat_tests}
use Rattle.std.proofs.lemmas.Nat.Bits.{bit_at-zero, bit_at_above, bit_at_cat_high, bit_at_cat_low}
use Rattle.duty_calendar.specs.Minutes.{count_between}
use Rattle.duty_calendar.proofs.Counting.{count_between-append, count_between-none, count_between-one}
use Rattle.roster_model.specs.declared.proof.Lens.{Lens}
use Rattle.roster_model.specs.Lenses.{is_tracked}
use Rattle.lens_classes.specs.Classes.{is_in}
use Rattle.line_generator.specs.ClassLines.{spread}

-- the bits are those of the bids below a number that pass a test
abbrev pub Collects : (ℕ → Bool) → ℕ → ℕ → Type 0
Collects test n bits = (bid : ℕ) → is_in bits bid ≡ (nat_lt bid n && test bid)

-- a bit that stands beyond those of a number
pub not_in : (bits bid : ℕ) → bits < 2 ^ 64 → 64 ≤ bid → is_in bits bid ≡ false
not_in bits bid small le =
    let none = bit_at_above bits 64 bid small le in
    grind (arith, nat_tests)

module _ (test : ℕ → Bool) where
  pub collect_none : Collects test 0 0
  collect_none bid =
      let none = bit_at-zero bid in
      let past : nat_lt bid 0 ≡ false = grind (arith, nat_tests) in
      let e : is_in 0 bid ≡ false = grind (arith, nat_tests) in
      e ∙ sym (ap (λ (b : Bool). b && test bid) past)

  false_and : (b : Bool) → (b && false) ≡ false
  false_and true = refl
  false_and false = refl

  at_or_not : (n bid : ℕ) → bid ≢ n → nat_lt bid (n + 1) ≡ nat_lt bid n
  at_or_not n bid apart = grind (arith, nat_tests)

  or_false : (b : Bool) → (b || false) ≡ b
  or_false true = refl
  or_false false = refl

  pub collect_more : (n bits more : ℕ) (wanted : Bool) → wanted ≡ test n → is_in more n ≡ (wanted || is_in bits n) → ((other : ℕ) → other ≢ n → is_in more other ≡ is_in bits other)
      → Collects test n bits → Collects test (n + 1) more
  collect_more n bits more wanted is here others so_far bid = elim (cases_Bool (bid == n)) [
    | inl same ↦
        let e : bid ≡ n = grind (arith, nat_tests) in
        let low : nat_lt n (n + 1) ≡ true = grind (arith, nat_tests) in
        let high : nat_lt n n ≡ false = grind (arith, nat_tests) in
        let none : is_in bits n ≡ false = so_far n ∙ ap (λ (b : Bool). b && test n) high in
        let now : is_in more n ≡ test n = here ∙ (ap (λ (b : Bool). wanted || b) none ∙ (or_false wanted ∙ is)) in
        subst (λ (b : ℕ). is_in more b ≡ (nat_lt b (n + 1) && test b)) (sym e) (now ∙ sym (ap (λ (b : Bool). b && test n) low))
    | inr other ↦
        let apart : bid ≢ n = λ e. differ n bid e other in
        others bid apart ∙ (so_far bid ∙ sym (ap (λ (b : Bool). b && test bid) (at_or_not n bid apart)))
  ]
    where
      differ : (n p : ℕ) → p ≡ n → (p == n) ≡ false → ⊥
      differ n p e f = grind (arith, nat_tests)

  pub collect_all : (n bits : ℕ) → 64 ≤ n → ((bid : ℕ) → 64 ≤ bid → test bid ≡ false) → Collects test n bits → (bid : ℕ) → is_in bits bid ≡ test bid
  collect_all n bits all past collected bid = elim (cases_lt bid 64) [
    | inl low ↦ (
        let t : nat_lt bid n ≡ true = grind (arith, nat_tests) in
        collected bid ∙ ap (λ (b : Bool). b && test bid) t)
    | inr high ↦ collected bid ∙ (ap (λ (b : Bool). nat_lt bid n && b) (past bid high) ∙ (false_and (nat_lt bid n) ∙ sym (past bid high)))
  ]

pub at_most_one : (b : Bool) → cond b 1 0 ≤ 1
at_most_one true = omega arith
at_most_one false = omega arith

-- no lens tracks more than 64 bids
pub none_tracked : (lens : Lens) (test : ℕ → Bool) → lens.tracked < 2 ^ 64 → (bid : ℕ) → 64 ≤ bid → (is_tracked lens bid && test bid) ≡ false
none_tracked lens test small bid high = ap (λ (b : Bool). b && test bid) (not_in lens.tracked bid small high)

-- nor has a set of them
pub none_spread : (bids number : ℕ) → bids < 2 ^ 64 → (bid : ℕ) → 64 ≤ bid → spread (is_in bids) number bid ≡ false
none_spread bids number small bid high = ap (λ (b : Bool). b && is_in number (count_between (is_in bids) 0 bid)) (not_in bids bid small high)

-- the number of a set of some bids: its bits tell in order which of the bids are in the set
module _ (bids holds : ℕ → Bool) where
  abbrev pub number_of : ℕ → ℕ
  number_of zero = 0
  number_of (suc n) = cond (bids n) (cond (holds n) 1 0 * 2 ^ count_between bids 0 n + number_of n) (number_of n)

  count_more : (n : ℕ) → count_between bids 0 (suc n) ≡ count_between bids 0 n + cond (bids n) 1 0
  count_more n = let e : suc n ≡ n + 1 = omega arith in ap (λ (m : ℕ). count_between bids 0 m) e ∙ count_between-one bids 0 n (omega arith)

  one_of : (b : Bool) → cond b 1 0 ≤ 1
  one_of true = omega arith
  one_of false = omega arith

  times : (c p : ℕ) → c ≤ 1 → c * p ≤ p
  times zero p le = omega arith
  times (suc zero) p le = omega arith
  times (suc (suc c)) p le = absurd (omega (arith, le))

  doubled : (c m : ℕ) → c ≡ m + 1 → 2 ^ c ≡ 2 * 2 ^ m
  doubled c m e = let s : c ≡ suc m = omega (arith, e) in rw s (omega arith)

  small_more : (b h : Bool) (c m r : ℕ) → c ≡ m + cond b 1 0 → r < 2 ^ m → cond b (cond h 1 0 * 2 ^ m + r) r < 2 ^ c
  small_more true h c m r e less = let two = doubled c m e in let top = times (cond h 1 0) (2 ^ m) (one_of h) in omega (arith, two, top, less)
  small_more false h c m r e less = let s : c ≡ m = omega (arith, e) in subst (λ (k : ℕ). r < 2 ^ k) (sym s) less

  pub number_small : (n : ℕ) → number_of n < 2 ^ count_between bids 0 n
  number_small zero = let none = count_between-none bids 0 in subst (λ (k : ℕ). 0 < 2 ^ k) (sym none) (omega arith)
  number_small (suc n) = small_more (bids n) (holds n) (count_between bids 0 (suc n)) (count_between bids 0 n) (number_of n) (count_more n) (number_small n)

  is_bit : (b : Bool) (i : ℕ) → i ≡ 0 → (bit_at (cond b 1 0) i == 1) ≡ b
  is_bit true i e = rw e refl
  is_bit false i e = rw e refl

  rises : (n bid : ℕ) → bid < n → bids bid ≡ true → count_between bids 0 bid < count_between bids 0 n
  rises n bid less is =
      let parts = count_between-append bids 0 (bid + 1) n (omega arith) (omega (arith, less)) in
      let one = count_between-one bids 0 bid (omega arith) in
      let yes : ◌≡◌ {A = ℕ} (cond (bids bid) 1 0) 1 = ap (λ (b : Bool). cond b 1 0) is in
      omega (arith, parts, one, yes)

  bit_here : (b h : Bool) (m r : ℕ) → b ≡ true → r < 2 ^ m → is_in (cond b (cond h 1 0 * 2 ^ m + r) r) m ≡ h
  bit_here true h m r e less =
      let none : m - m ≡ 0 = omega arith in
      ap (λ (k : ℕ). k == 1) (bit_at_cat_high (cond h 1 0) m r m less (omega arith)) ∙ is_bit h (m - m) none
  bit_here false h m r e less = absurd (false≢true e)

  bit_below : (b h : Bool) (m r i : ℕ) → i < m → is_in (cond b (cond h 1 0 * 2 ^ m + r) r) i ≡ is_in r i
  bit_below true h m r i less = ap (λ (k : ℕ). k == 1) (bit_at_cat_low (cond h 1 0) m r i less)
  bit_below false h m r i less = refl

  pub number_bit : (n bid : ℕ) → bid < n → bids bid ≡ true → is_in (number_of n) (count_between bids 0 bid) ≡ holds bid
  number_bit zero bid less is = absurd (omega (arith, less))
  number_bit (suc n) bid less is = elim (cases_lt bid n) [
    | inl low ↦ bit_below (bids n) (holds n) (count_between bids 0 n) (number_of n) (count_between bids 0 bid) (rises n bid low is) ∙ number_bit n bid low is
    | inr high ↦
        let e : bid ≡ n = omega (arith, less, high) in
        let here : is_in (number_of (suc n)) (count_between bids 0 n) ≡ holds n =
        bit_here (bids n) (holds n) (count_between bids 0 n) (number_of n) (subst (λ (k : ℕ). bids k ≡ true) e is) (number_small n) in
        subst (λ (k : ℕ). is_in (number_of (suc n)) (count_between bids 0 k) ≡ holds k) (sym e) here
  ]

  -- each set of bids below n is that of its number
  pub set_met : (n : ℕ) → ((bid : ℕ) → bids bid ≡ true → bid < n) → ((bid : ℕ) → holds bid ≡ true → bids bid ≡ true) → holds ≡ spread bids (number_of n)
  set_met n within only = fun_ext (λ bid. at bid (bids bid) refl (holds bid) refl)
    where
      at : (bid : ℕ) (b : Bool) → bids bid ≡ b → (h : Bool) → holds bid ≡ h → holds bid ≡ spread bids (number_of n) bid
      at bid true is h e = sym (ap (λ (b : Bool). b && is_in (number_of n) (count_between bids 0 bid)) is ∙ number_bit n bid (within bid is) is)
      at bid false not true e = absurd (false≢true (sym not ∙ only bid e))
      at bid false not false e = e ∙ sym (ap (λ (b : Bool). b && is_in (number_of n) (count_between bids 0 bid)) not)
