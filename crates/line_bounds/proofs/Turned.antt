-- A node whose vector has the newest decision last.
use Rattle.std.proofs.Common.{◌≡◌, ℕ, Bool, ◌&&◌, List, reverse, sym}
use Rattle.std.proofs.lemmas.List.Sorted.{list_any-IsPermutation, IsPermutation-reverse}
use Rattle.roster_model.specs.declared.node.Decision.{Decision}
use Rattle.roster_model.specs.Decided.{is_on, is_same, is_decided_as}

pub is_decided_as_reverse : (node : List Decision) (m p : ℕ) (flies : Bool)
    → is_decided_as (reverse node) m p flies ≡ is_decided_as node m p flies
is_decided_as_reverse node m p flies =
    sym (list_any-IsPermutation (λ (d : Decision). is_on m p d && is_same d.flies flies) node (reverse node) (IsPermutation-reverse node))
