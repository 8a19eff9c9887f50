-- What is drawn in order: how much it is, what stands at each place, and one thing more.
use Rattle.std.proofs.Common.{◌≡◌, ℕ, zero, suc, ◌+◌, ◌^◌, ◌/◌, ◌<◌, ◌≤◌, List, [], ◌∷◌, ◌++◌, length, get_or, refl, sym, ap, subst, ◌∙◌, arith, length-append, inl, inr}
use Rattle.std.proofs.lemmas.Bool.{cases_lt}
use Rattle.std.proofs.lemmas.List.{get_or_append_left}
use Rattle.std.proofs.lemmas.Nat.{mod_below}
use Rattle.std.proofs.Math.Seq.{get_or-append_seam}
use Rattle.instance_maker.specs.Draws.{Draw, after, below, in_order}

-- a draw lies below its limit
pub below_limit : (k state : ℕ) → 1 ≤ k → (below k state).0 < k
unfolding below
below_limit k state some = mod_below (after state / 2 ^ 33) k (omega arith)

-- what 7 draws first, of 31 bits
pub first_of_seven : (below (2 ^ 31) 7).0 ≡ 1059165278
unfolding below after
first_of_seven = refl

pub in_order_length : {A : Type 0} (draw : ℕ → Draw A) (n state : ℕ) → length (in_order draw n state).0 ≡ n
unfolding in_order
in_order_length draw zero state = refl
in_order_length draw (suc n) state =
    let before = (in_order draw n state).0 in
    let last = (draw n (in_order draw n state).1).0 in
    let shorter : length before ≡ n = in_order_length draw n state in
    length-append before (last ∷ []) ∙ omega (arith, shorter)

-- at each place stands what was drawn for it
pub in_order_at : {A : Type 0} (draw : ℕ → Draw A) (n state k : ℕ) (d : A) → k < n
    → get_or (in_order draw n state).0 k d ≡ (draw k (in_order draw k state).1).0
unfolding in_order
in_order_at draw zero state k d lt = absurd (omega arith)
in_order_at {A} draw (suc n) state k d lt =
    let before = (in_order draw n state).0 in
    let last = (draw n (in_order draw n state).1).0 in
    let size : length before ≡ n = in_order_length draw n state in
    elim (cases_lt k n) [
      | inl less ↦ get_or_append_left before (last ∷ []) d k (omega (arith, size)) ∙ in_order_at draw n state k d less
      | inr more ↦
          let here : k ≡ n = omega arith in
          let seam : get_or (before ++ last ∷ []) (length before) d ≡ last = get_or-append_seam before last [] d in
          let at : k ≡ length before = omega (arith, size) in
          ap (λ (j : ℕ). get_or (before ++ last ∷ []) j d) at ∙ seam
          ∙ ap (λ (j : ℕ). (draw j (in_order draw j state).1).0) (sym here)
    ]

-- so it has what each drawn thing has
pub in_order_each : {A : Type 0} (P : ℕ → A → Type 0) (draw : ℕ → Draw A) (n state : ℕ)
    → ((k left : ℕ) → k < n → P k (draw k left).0)
    → (k : ℕ) (d : A) → k < length (in_order draw n state).0 → P k (get_or (in_order draw n state).0 k d)
in_order_each {A} P draw n state each k d within =
    let lt : k < n = omega (arith, in_order_length draw n state) in
    subst (λ (x : A). P k x) (sym (in_order_at draw n state k d lt)) (each k (in_order draw k state).1 lt)

-- one thing more
pub in_order_more : {A : Type 0} (draw : ℕ → Draw A) (n m state : ℕ) (items longer : List A) (item : A) (left last : ℕ)
    → m ≡ n + 1 → in_order draw n state ≡ (items, left) → draw n left ≡ (item, last) → longer ≡ items ++ item ∷ []
    → in_order draw m state ≡ (longer, last)
unfolding in_order
in_order_more draw n m state items longer item left last next before here whole =
    let more : m ≡ suc n = omega arith in
    ap (λ (j : ℕ). in_order draw j state) more ∙ rw (before, here, whole) refl

-- nothing yet
pub in_order_none : {A : Type 0} (draw : ℕ → Draw A) (state : ℕ) (items : List A) → items ≡ []
    → in_order draw 0 state ≡ (items, state)
unfolding in_order
in_order_none draw state items none = rw none refl
