use Rattle.std.proofs.Common.{◌≡◌, List, ℕ, Ok, subst}
use Rattle.std.proofs.lemmas.Result.{err_from_is_err_and}
use Rattle.cert_text.specs.Lines as lines
use Rattle.cert_text.specs.Reading.{certificate_in}
use Rattle.roster_model.specs.declared.award.Certificate.{Certificate}
use Rattle.whatif_commands.specs.AskingTexts.{view_asked}
use Rattle.whatif_commands.proofs.AskingEnds.{unasked_certificate}
use Rattle.whatif_commands.proofs.question.award_of.Goals as goal

pub returns-in_err-awarded-clause-unasked : goal.returns-in_err-awarded-clause-unasked
returns-in_err-awarded-clause-unasked c =
    let p = err_from_is_err_and c.from_residual.result c.from_residual.ensures.1 in
    rw (p.1, p.2) (λ name before. unasked_certificate name (view_asked c.args.texts.now) before c.in_err-awarded.field-0.0.code c.in_err-awarded.field-0.0
    (subst (λ (b : List ℕ). lines.FailsBy c.in_err-awarded.field-0.0.code c.in_err-awarded.field-0.0 (certificate_in b)) c.deref.ensures.value c.in_err-awarded.ensures.read))

pub returns-clause-unasked : goal.returns-clause-unasked
returns-clause-unasked c = λ name before. record {
  before = before;
  proof = c.in-NoRoster.field-0;
  read = subst (λ (x : Certificate). certificate_in (view_asked c.args.texts.now).certificate ≡ Ok x) c.in-NoRoster.is
      (subst (λ (b : List ℕ). certificate_in b ≡ Ok c.in_ok-awarded.field-0) c.deref.ensures.value c.in_ok-awarded.ensures.read);
}
