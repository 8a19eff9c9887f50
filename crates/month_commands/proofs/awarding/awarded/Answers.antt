use Rattle.std.proofs.Common.{[], ◌∷◌, ◌++◌, List, refl, ap, ◌∙◌}
use Rattle.month_files.specs.declared.writing.Draft.{Draft}
use Rattle.month_commands.specs.Award.{reasons_draft, roster_draft}
use Rattle.month_commands.proofs.AwardLaws.{known_bids, known_places, each_reason}
use Rattle.month_commands.proofs.awarding.awarded.Goals as goal

pub add_reasons-requires-clause-bids : goal.add_reasons-requires-clause-bids
add_reasons-requires-clause-bids c = known_bids c.args.problem.now c.args.month.now.roster c.args.month.now.reasons c.requires.month.awarded c.requires.month.accepted

pub add_reasons-requires-clause-places : goal.add_reasons-requires-clause-places
add_reasons-requires-clause-places c = known_places c.args.problem.now c.args.month.now.roster c.args.month.now.reasons c.requires.month.awarded c.requires.month.accepted

pub returns : goal.returns
returns c = record {
  found = record {
    month = c.args.month.now;
    awarded = c.requires.month;
    seniors = c.requires.seniors;
    scores_are = c.in_ok-scores.ensures.value;
    denied_are = c.len.ensures;
    ledger_is = refl;
    drafts_are = c.in_ok-add_roster.ensures.drafts ∙ ap (λ (ds : List Draft). ds ++ roster_draft c.args.problem.now c.args.month.now.roster ∷ [])
        (c.in_ok-add_reasons.ensures.drafts ∙ ap (λ (ds : List Draft). ds ++ reasons_draft c.args.problem.now c.args.month.now.reasons ∷ []) c.in_ok-drafts.ensures.drafts);
    certificate = c.in_ok-drafts.ensures.readable;
    reasons = record {
      form = each_reason c.args.problem.now c.args.month.now.reasons
          (known_bids c.args.problem.now c.args.month.now.roster c.args.month.now.reasons c.requires.month.awarded c.requires.month.accepted)
          (known_places c.args.problem.now c.args.month.now.roster c.args.month.now.reasons c.requires.month.awarded c.requires.month.accepted);
      fits = c.in_ok-add_reasons.ensures.fits;
    };
    roster = c.in_ok-add_roster.ensures.readable;
  };
}
