use Rattle.roster_model.proofs.Greatest.{best-greatest}
use Rattle.open_commands.proofs.OpeningLaws.{award_of, writable_none}
use Rattle.open_commands.proofs.opening.say_award.Goals as goal

pub month_with-requires : goal.month_with-requires
month_with-requires c = record { room = c.requires.award.room }

pub award_drafts-requires-clause-below : goal.award_drafts-requires-clause-below
award_drafts-requires-clause-below c = writable_none c.args.problem.now c.args.count c.args.none c.requires.award.fewer c.requires.short

pub award_drafts-requires-clause-accepted : goal.award_drafts-requires-clause-accepted
award_drafts-requires-clause-accepted c =
    award_of c.args.problem.now c.args.count c.args.none c.args.roster.now c.args.reasons.now c.args.awarded c.in_ok-made.made c.requires.award c.in_ok-made.ensures.made

pub show_roster-requires-clause-complete : goal.show_roster-requires-clause-complete
show_roster-requires-clause-complete c =
    (award_of c.args.problem.now c.args.count c.args.none c.args.roster.now c.args.reasons.now c.args.awarded c.in_ok-made.made c.requires.award c.in_ok-made.ensures.made).best.complete

pub returns : goal.returns
returns c =
    let made = c.in_ok-made.made in
    let accepted = award_of c.args.problem.now c.args.count c.args.none c.args.roster.now c.args.reasons.now c.args.awarded made c.requires.award c.in_ok-made.ensures.made in
    let drafts = c.in_ok-drafts.ensures.drafts in
    record {
      says = record {
        made = made;
        of = c.in_ok-made.ensures.made;
        greatest = best-greatest made c.args.roster.now c.args.awarded.proofs accepted.best;
        scores_are = c.in_ok-shown.ensures.scores;
        rows_are = c.in_ok-shown.ensures.rows;
        drafts_are = drafts.drafts_are;
        proof_readable = drafts.proof_readable;
        certificate_readable = drafts.certificate_readable;
        reasons_readable = drafts.reasons_readable;
        roster_readable = drafts.roster_readable;
      };
    }
