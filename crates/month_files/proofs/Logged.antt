-- Eight texts added one after the other.
use Rattle.std.proofs.Common.{◌≡◌, ℕ, List, [], ◌∷◌, ◌++◌, ap, ◌∙◌, append_assoc}
use Rattle.shelf.specs.Logs.{Entries}

abbrev Entry : Type 0
Entry = List ℕ × List ℕ

one_more : (log before : Entries) (x : Entry) (now next : Entries) → now ≡ log ++ before → next ≡ now ++ x ∷ [] → next ≡ log ++ (before ++ x ∷ [])
one_more log before x now next e f = f ∙ ap (λ (l : Entries). l ++ x ∷ []) e ∙ append_assoc log before (x ∷ [])

pub eight : (log l1 l2 l3 l4 l5 l6 l7 l8 : Entries) (a b c d e f g h : Entry) → l1 ≡ log ++ a ∷ [] → l2 ≡ l1 ++ b ∷ [] → l3 ≡ l2 ++ c ∷ [] → l4 ≡ l3 ++ d ∷ []
    → l5 ≡ l4 ++ e ∷ [] → l6 ≡ l5 ++ f ∷ [] → l7 ≡ l6 ++ g ∷ [] → l8 ≡ l7 ++ h ∷ [] → l8 ≡ log ++ a ∷ b ∷ c ∷ d ∷ e ∷ f ∷ g ∷ h ∷ []
eight log l1 l2 l3 l4 l5 l6 l7 l8 a b c d e f g h e1 e2 e3 e4 e5 e6 e7 e8 =
    one_more log (a ∷ b ∷ c ∷ d ∷ e ∷ f ∷ g ∷ []) h l7 l8
    (one_more log (a ∷ b ∷ c ∷ d ∷ e ∷ f ∷ []) g l6 l7
    (one_more log (a ∷ b ∷ c ∷ d ∷ e ∷ []) f l5 l6
    (one_more log (a ∷ b ∷ c ∷ d ∷ []) e l4 l5
    (one_more log (a ∷ b ∷ c ∷ []) d l3 l4
    (one_more log (a ∷ b ∷ []) c l2 l3
    (one_more log (a ∷ []) b l1 l2 e1 e2) e3) e4) e5) e6) e7) e8
