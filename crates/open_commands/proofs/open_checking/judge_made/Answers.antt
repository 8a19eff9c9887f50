use Rattle.std.proofs.Common.{◌≡◌, ℕ, List, Ok, subst}
use Rattle.cert_text.specs.Reading.{certificate_in}
use Rattle.roster_model.specs.declared.award.Certificate.TheVariants.{Award}
use Rattle.open_commands.proofs.open_checking.judge_made.Goals as goal

pub judge_proofs-requires-clause-says : goal.judge_proofs-requires-clause-says
judge_proofs-requires-clause-says c = record {
  of = c.requires.made;
  none_read = c.in_ok-none.ensures.read;
  award_read = subst (λ (b : List ℕ). certificate_in b ≡ Ok (Award c.in_ok-awarded.awarded)) c.deref.ensures.value c.in_ok-awarded.ensures.read;
}
