use Rattle.roster_text.proofs.ReasonSteps.{are_reasons}
use Rattle.open_commands.specs.Opening.{none_drafts}
use Rattle.open_commands.proofs.OpeningLaws.{few_reasons, known_bids, known_places, three_more, writable_award}
use Rattle.open_commands.proofs.open_drafts.award_drafts.Goals as goal

pub add_award-requires : goal.add_award-requires
add_award-requires c = record { writable = writable_award c.args.made.now c.args.roster.now c.args.reasons.now c.args.awarded c.requires.accepted c.requires.splits }

pub add_reasons-requires-clause-bids : goal.add_reasons-requires-clause-bids
add_reasons-requires-clause-bids c = known_bids c.args.made.now c.args.roster.now c.args.reasons.now c.args.awarded c.requires.accepted

pub add_reasons-requires-clause-places : goal.add_reasons-requires-clause-places
add_reasons-requires-clause-places c = known_places c.args.made.now c.args.roster.now c.args.reasons.now c.args.awarded c.requires.accepted

pub add_reasons-requires-clause-few : goal.add_reasons-requires-clause-few
add_reasons-requires-clause-few c = few_reasons c.args.made.now c.args.roster.now c.args.reasons.now c.args.awarded c.requires.accepted

pub add_roster-requires : goal.add_roster-requires
add_roster-requires c = record { complete = c.requires.accepted.best.complete }

pub returns : goal.returns
returns c = record {
  drafts = record {
    drafts_are = three_more (none_drafts c.args.none) c.in_ok-drafts.drafts c.add_award.new.drafts c.add_reasons.new.drafts c.add_roster.new.drafts _ _ _
        c.in_ok-drafts.ensures.drafts c.in_ok-add_award.ensures.drafts c.in_ok-add_reasons.ensures.drafts c.in_ok-add_roster.ensures.drafts;
    proof_readable = c.in_ok-drafts.ensures.readable;
    certificate_readable = c.in_ok-add_award.ensures.readable;
    reasons_readable = record {
      form = are_reasons c.args.made.now c.args.reasons.now
          (known_bids c.args.made.now c.args.roster.now c.args.reasons.now c.args.awarded c.requires.accepted)
          (known_places c.args.made.now c.args.roster.now c.args.reasons.now c.args.awarded c.requires.accepted);
      fits = c.in_ok-add_reasons.ensures.fits;
    };
    roster_readable = c.in_ok-add_roster.ensures.readable;
  };
}
