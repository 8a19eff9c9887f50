use Rattle.std.proofs.Common.{◌≡◌, List, Result, refl, subst, Ok}
use Rattle.bid_language.specs.Sheets.{FailsBy}
use Rattle.bid_language.specs.declared.fault.BidFault.{BidFault}
use Rattle.roster_model.specs.declared.bid.Bid.{Bid}
use Rattle.bid_language.specs.Lines.{bids_in}
use Rattle.month_files.specs.declared.fault.InputFault.TheVariants as input
use Rattle.month_files.specs.Reading.{view_texts}
use Rattle.month_files.proofs.Ends.{bid_ends}
use Rattle.month_files.proofs.month.bids_of.Goals as goal

pub returns-in-Err-clause-bids : goal.returns-in-Err-clause-bids
returns-in-Err-clause-bids c =
    let t = view_texts c.args.texts.now in
    let same : bids_in c.args.base.now c.deref.result.now ≡ bids_in c.args.base.now t.bids = rw c.deref.ensures.value refl in
    rw c.bid_end.ensures.value
    (bid_ends (λ bids. bids_in c.args.base.now t.bids ≡ Ok bids) t (input.Bids c.in-Err.fault) c.in-Err.fault (bids_in c.args.base.now t.bids)
    (λ h. record { base = c.args.base.now; before = c.requires.base; here = h }) c.in-Err.fault.code
    (subst (λ (r : Result (List (List Bid)) BidFault). FailsBy c.in-Err.fault.code c.in-Err.fault r) same c.in-Err.ensures.read))
