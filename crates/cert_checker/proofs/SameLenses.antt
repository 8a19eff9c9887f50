-- Lenses that are equal by all their parts.
use Rattle.std.proofs.Common.{◌≡◌, ℕ, Bool, true, false, List, refl, sym, ap, subst, ◌∙◌}
use Rattle.std.specs.Prelude.{◌&&◌, ◌==◌}
use mathlib.Core.Bool.{beq}
use Rattle.std.specs.Bool.{Decides}
use Rattle.std.proofs.lemmas.Bool.{and_parts}
use Rattle.std.proofs.lemmas.Bool.Decides.{Decides-eqb}
use Rattle.std.proofs.lemmas.Slice.Eq.{slice_eq-Decides}
use Rattle.roster_model.specs.declared.proof.Lens.{Lens}
use Rattle.roster_model.specs.declared.proof.Window.{Window}
use Rattle.roster_model.specs.declared.proof.WindowKind.{WindowKind}
use Rattle.roster_model.specs.declared.proof.WindowKind.TheVariants.{Flight672, Duty672, Duty168, Flight365}
use Rattle.roster_model.specs.contracts.proof.LensPartialEq.TheImpl as lens
use Rattle.roster_model.specs.contracts.proof.WindowPartialEq.TheImpl as window
use Rattle.roster_model.specs.contracts.proof.WindowKindPartialEq.TheImpl as kind

kind_is : (a b : WindowKind) → kind.ghosts.eq a b ≡ true → a ≡ b
kind_is Flight672 Flight672 e = refl
kind_is Flight672 Duty672 e = absurd cc
kind_is Flight672 Duty168 e = absurd cc
kind_is Flight672 Flight365 e = absurd cc
kind_is Duty672 Flight672 e = absurd cc
kind_is Duty672 Duty672 e = refl
kind_is Duty672 Duty168 e = absurd cc
kind_is Duty672 Flight365 e = absurd cc
kind_is Duty168 Flight672 e = absurd cc
kind_is Duty168 Duty672 e = absurd cc
kind_is Duty168 Duty168 e = refl
kind_is Duty168 Flight365 e = absurd cc
kind_is Flight365 Flight672 e = absurd cc
kind_is Flight365 Duty672 e = absurd cc
kind_is Flight365 Duty168 e = absurd cc
kind_is Flight365 Flight365 e = refl

abbrev window_of : WindowKind → ℕ → Window
window_of kind start = record { kind = kind; start = start }

window_is : (a b : Window) → window.ghosts.eq a b ≡ true → a ≡ b
window_is a b e =
    let p = and_parts (kind.ghosts.eq a.kind b.kind) (a.start == b.start) e in
    ap (λ (k : WindowKind). window_of k a.start) (kind_is a.kind b.kind p.0) ∙ ap (window_of b.kind) ((Decides-eqb a.start b.start).0 p.1)

kind_self : (a : WindowKind) → kind.ghosts.eq a a ≡ true
kind_self Flight672 = refl
kind_self Duty672 = refl
kind_self Duty168 = refl
kind_self Flight365 = refl

and_true : (x y : Bool) → x ≡ true → y ≡ true → (x && y) ≡ true
and_true true true _ _ = refl
and_true true false _ h = h
and_true false y h _ = h

windows_decide : (a b : Window) → Decides (window.ghosts.eq a b) (a ≡ b)
windows_decide a b = (
  window_is a b,
  λ same. subst (λ (w : Window). window.ghosts.eq a w ≡ true) same (and_true (kind.ghosts.eq a.kind a.kind) (a.start == a.start) (kind_self a.kind) ((Decides-eqb a.start a.start).1 refl)),
)

bit_is : (x y : Bool) → beq x y ≡ true → x ≡ y
bit_is true true e = refl
bit_is true false e = absurd cc
bit_is false true e = absurd cc
bit_is false false e = refl

abbrev lens_of : ℕ → ℕ → Bool → Bool → Bool → List Window → Lens
lens_of grain tracked free days whole windows = record { grain = grain; tracked = tracked; free30 = free; days = days; whole = whole; windows = windows }

-- lenses whose parts are equal are equal
lens_from : (g g' t t' : ℕ) (f f' d d' w w' : Bool) (ws ws' : List Window) → g ≡ g' → t ≡ t' → f ≡ f' → d ≡ d' → w ≡ w' → ws ≡ ws' → lens_of g t f d w ws ≡ lens_of g' t' f' d' w' ws'
lens_from g g' t t' f f' d d' w w' ws ws' eg et ef ed ew es =
    ap (λ (x : ℕ). lens_of x t f d w ws) eg ∙ ap (λ (x : ℕ). lens_of g' x f d w ws) et ∙ ap (λ (x : Bool). lens_of g' t' x d w ws) ef
    ∙ ap (λ (x : Bool). lens_of g' t' f' x w ws) ed ∙ ap (λ (x : Bool). lens_of g' t' f' d' x ws) ew ∙ ap (λ (x : List Window). lens_of g' t' f' d' w' x) es

pub lens_is : (a b : Lens) → lens.ghosts.eq a b ≡ true → a ≡ b
lens_is a b e =
    let grain = and_parts (a.grain == b.grain) _ e in
    let tracked = and_parts (a.tracked == b.tracked) _ grain.1 in
    let free = and_parts (beq a.free30 b.free30) _ tracked.1 in
    let days = and_parts (beq a.days b.days) _ free.1 in
    let whole = and_parts (beq a.whole b.whole) _ days.1 in
    let windows = (slice_eq-Decides windows_decide a.windows b.windows true (sym whole.1)).0 refl in
    lens_from a.grain b.grain a.tracked b.tracked a.free30 b.free30 a.days b.days a.whole b.whole a.windows b.windows
    ((Decides-eqb a.grain b.grain).0 grain.0) ((Decides-eqb a.tracked b.tracked).0 tracked.0) (bit_is a.free30 b.free30 free.0)
    (bit_is a.days b.days days.0) (bit_is a.whole b.whole whole.0) windows
