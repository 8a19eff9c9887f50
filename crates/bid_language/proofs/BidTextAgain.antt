-- The text of a problem's bid is read as that bid.
use Rattle.std.proofs.Common.{◌≡◌, ℕ, zero, suc, List, [], ◌∷◌, true, Option, Some, ap, subst, ◌∙◌, length}
use Rattle.std.specs.Prelude.{All, slice_get, unwrap_or}
use Rattle.std.specs.Option.{option_map_or}
use Rattle.std.proofs.lemmas.List.Elements.{All-head, All-tail}
use Rattle.roster_model.specs.declared.bid.Bid.{Bid}
use Rattle.roster_model.specs.declared.goal.BidRef.{BidRef}
use Rattle.roster_model.specs.declared.problem.Problem.{Problem}
use Rattle.roster_model.specs.Valid.{IsBid}
use Rattle.bid_language.specs.Lines.{line_of}
use Rattle.bid_language.specs.Rereads.{IsBidText}
use Rattle.bid_language.specs.Spelling.{bid_text, text_of}
use Rattle.bid_language.proofs.Spelt.{is_spelt_wish, pairings-spelt, spelt-wish}
use Rattle.bid_language.proofs.Rereading.{AreDays}
use Rattle.bid_language.proofs.BidsAgain.{bid-says, pairings-named}

-- the text of a problem's bid
form_at : {X : Type 0} (P : X → Type 0) (xs : List X) (i : ℕ) (x : X) → All P xs → slice_get xs i ≡ Some x → P x
form_at P [] i x h e = cc
form_at P (y ∷ ys) zero x h e = let same : y ≡ x = cc in subst P same (All-head P y ys h)
form_at P (y ∷ ys) (suc i) x h e = form_at P ys i x (All-tail P y ys h) e

form_in : {X : Type 0} (P : X → Type 0) (lists : List (List X)) (m i : ℕ) (x : X) → All (All P) lists → slice_get (unwrap_or (slice_get lists m) []) i ≡ Some x → P x
form_in P [] m i x h e = cc
form_in P (y ∷ ys) zero i x h e = form_at P y i x (All-head (All P) y ys h) e
form_in P (y ∷ ys) (suc m) i x h e = form_in P ys m i x (All-tail (All P) y ys h) e

pub text-again : (problem : Problem) (b : BidRef) → AreDays problem.base.rules.horizon → IsBidText problem b (text_of problem b)
text-again problem b days n read x e current few =
    let form : IsBid problem.base.rules.horizon (length problem.base.pairings) x =
    form_in (IsBid problem.base.rules.horizon (length problem.base.pairings)) problem.bids b.member b.bid x problem.valid.each_bid e in
    let spelt_x : is_spelt_wish problem.base x.wish ≡ true = spelt-wish problem.base (pairings-spelt problem.base problem.bids problem.valid) x.wish form.wish_form in
    let text : text_of problem b ≡ bid_text problem.base x = ap (λ (o : Option Bid). option_map_or (bid_text problem.base) o []) e in
    ap (line_of problem.base n read) text
    ∙ bid-says problem.base n read b.member x (pairings-named problem.base.pairings problem.valid.month.pairings_form.names) days form spelt_x current few
