use Rattle.std.proofs.Common.{◌≡◌, ℕ, List, Ok, ◌∙◌, subst}
use Rattle.std.proofs.lemmas.Result.{err_from_is_err_and}
use Rattle.roster_model.specs.declared.award.Certificate.{Certificate}
use Rattle.roster_model.specs.declared.award.Certificate.TheVariants.{Award, NoRoster}
use Rattle.cert_text.specs.Lines.{FailsBy}
use Rattle.cert_text.specs.Reading.{certificate_in}
use Rattle.month_commands.specs.Check.{NamesCertificate, view_given}
use Rattle.month_commands.proofs.CheckLaws.{ends_at_given, ends_at_month, ends_at_certificate, names_certificate, none_accepted, none_refused}
use Rattle.month_commands.proofs.HandedLaws.{handed_month, handed_certificate, handed_in, handed_none, handed_open}
use Rattle.month_commands.proofs.checking.check.Goals as goal

pub returns-in_err-texts-clause-told : goal.returns-in_err-texts-clause-told
returns-in_err-texts-clause-told g c = λ files told.
    let p = err_from_is_err_and c.from_residual.result c.from_residual.ensures.1 in
    rw (p.1, p.2) (ends_at_given files c.in_err-texts.field-0.0 (c.in_err-texts.ensures.told files told))

pub returns-in_err-problem-clause-told : goal.returns-in_err-problem-clause-told
returns-in_err-problem-clause-told g c = λ files told.
    let p = err_from_is_err_and c.from_residual-in_err-problem.result c.from_residual-in_err-problem.ensures.1 in
    rw (p.1, p.2) (ends_at_month files (view_given (c.in_ok-texts.texts, c.in_ok-texts.certificate)) (c.in_ok-texts.ensures.told files told) c.in_err-problem.field-0.0 c.in_err-problem.ensures.month)

pub returns-in_err-awarded-clause-told : goal.returns-in_err-awarded-clause-told
returns-in_err-awarded-clause-told g c = λ files told.
    let p = err_from_is_err_and c.from_residual-in_err-awarded.result c.from_residual-in_err-awarded.ensures.1 in
    rw (p.1, p.2) (ends_at_certificate files (view_given (c.in_ok-texts.texts, c.in_ok-texts.certificate)) (c.in_ok-texts.ensures.told files told) c.in_ok-problem.problem c.in_ok-problem.ensures.month
    c.in_err-awarded.field-0.0 c.in_err-awarded.field-0.0.code (subst (λ (b : List ℕ). FailsBy c.in_err-awarded.field-0.0.code c.in_err-awarded.field-0.0 (certificate_in b)) c.deref.ensures.value c.in_err-awarded.ensures.read))

pub returns-in-Award-clause-told : goal.returns-in-Award-clause-told
returns-in-Award-clause-told g c = λ files told.
    let named = names_certificate files (view_given (c.in_ok-texts.texts, c.in_ok-texts.certificate)) (c.in_ok-texts.ensures.told files told) c.in_ok-problem.problem c.in_ok-problem.ensures.month
    c.in_ok-awarded.field-0 (subst (λ (b : List ℕ). certificate_in b ≡ Ok c.in_ok-awarded.field-0) c.deref.ensures.value c.in_ok-awarded.ensures.read) in
    c.check_award.ensures.told files (c.in_ok-texts.ensures.kept ∙ told) (subst (λ (x : Certificate). NamesCertificate files c.in_ok-problem.problem x) c.in-Award.is named)

pub returns-in_err-judge_none-in-NoRoster-clause-told : goal.returns-in_err-judge_none-in-NoRoster-clause-told
returns-in_err-judge_none-in-NoRoster-clause-told g c = λ files told.
    let p = err_from_is_err_and c.from_residual-in_err-judge_none-in-NoRoster.result c.from_residual-in_err-judge_none-in-NoRoster.ensures.1 in
    let named = names_certificate files (view_given (c.in_ok-texts.texts, c.in_ok-texts.certificate)) (c.in_ok-texts.ensures.told files told) c.in_ok-problem.problem c.in_ok-problem.ensures.month
    c.in_ok-awarded.field-0 (subst (λ (b : List ℕ). certificate_in b ≡ Ok c.in_ok-awarded.field-0) c.deref.ensures.value c.in_ok-awarded.ensures.read) in
    rw (p.1, p.2) (none_refused files c.in_ok-problem.problem c.in-NoRoster.proof (subst (λ (x : Certificate). NamesCertificate files c.in_ok-problem.problem x) c.in-NoRoster.is named)
    c.in_err-judge_none-in-NoRoster.field-0.0 c.in_err-judge_none-in-NoRoster.ensures.first c.in_err-judge_none-in-NoRoster.ensures.refused)

pub returns-clause-told : goal.returns-clause-told
returns-clause-told g c = λ files told.
    let named = names_certificate files (view_given (c.in_ok-texts.texts, c.in_ok-texts.certificate)) (c.in_ok-texts.ensures.told files told) c.in_ok-problem.problem c.in_ok-problem.ensures.month
    c.in_ok-awarded.field-0 (subst (λ (b : List ℕ). certificate_in b ≡ Ok c.in_ok-awarded.field-0) c.deref.ensures.value c.in_ok-awarded.ensures.read) in
    none_accepted files c.in_ok-problem.problem c.in-NoRoster.proof (subst (λ (x : Certificate). NamesCertificate files c.in_ok-problem.problem x) c.in-NoRoster.is named)
    c.in_ok-judge_none-in-NoRoster.ensures.accepted c.in_ok-judge_none-in-NoRoster.ensures.none

pub returns-in_err-texts-clause-handed : goal.returns-in_err-texts-clause-handed
returns-in_err-texts-clause-handed g c =
    let p = err_from_is_err_and c.from_residual.result c.from_residual.ensures.1 in
    rw (p.1, p.2) tt

pub returns-in_err-problem-clause-handed : goal.returns-in_err-problem-clause-handed
returns-in_err-problem-clause-handed g c =
    let p = err_from_is_err_and c.from_residual-in_err-problem.result c.from_residual-in_err-problem.ensures.1 in
    rw (p.1, p.2) (handed_month _ _ (view_given (c.in_ok-texts.texts, c.in_ok-texts.certificate)) c.in_ok-texts.ensures.logged c.in_ok-texts.ensures.short c.in_ok-texts.ensures.limit c.in_err-problem.field-0.0 c.in_err-problem.ensures.month)

pub returns-in_err-awarded-clause-handed : goal.returns-in_err-awarded-clause-handed
returns-in_err-awarded-clause-handed g c =
    let p = err_from_is_err_and c.from_residual-in_err-awarded.result c.from_residual-in_err-awarded.ensures.1 in
    rw (p.1, p.2) (handed_certificate _ _ (view_given (c.in_ok-texts.texts, c.in_ok-texts.certificate)) c.in_ok-texts.ensures.logged c.in_ok-texts.ensures.short c.in_ok-texts.ensures.limit c.in_ok-problem.problem c.in_ok-problem.ensures.month
    c.in_err-awarded.field-0.0 c.in_err-awarded.field-0.0.code (subst (λ (b : List ℕ). FailsBy c.in_err-awarded.field-0.0.code c.in_err-awarded.field-0.0 (certificate_in b)) c.deref.ensures.value c.in_err-awarded.ensures.read))

pub returns-in-Award-clause-handed : goal.returns-in-Award-clause-handed
returns-in-Award-clause-handed g c =
    let read = (subst (λ (b : List ℕ). certificate_in b ≡ Ok c.in_ok-awarded.field-0) c.deref.ensures.value c.in_ok-awarded.ensures.read) in
    c.check_award.ensures.handed _ (handed_in _ _ (view_given (c.in_ok-texts.texts, c.in_ok-texts.certificate)) c.in_ok-texts.ensures.logged c.in_ok-texts.ensures.short c.in_ok-texts.ensures.limit c.in_ok-problem.problem c.in_ok-problem.ensures.month
    (Award c.in-Award.awarded) (subst (λ (x : Certificate). certificate_in c.in_ok-texts.certificate.items ≡ Ok x) c.in-Award.is read))

pub returns-in_err-judge_none-in-NoRoster-clause-handed : goal.returns-in_err-judge_none-in-NoRoster-clause-handed
returns-in_err-judge_none-in-NoRoster-clause-handed g c =
    let p = err_from_is_err_and c.from_residual-in_err-judge_none-in-NoRoster.result c.from_residual-in_err-judge_none-in-NoRoster.ensures.1 in
    let read = (subst (λ (b : List ℕ). certificate_in b ≡ Ok c.in_ok-awarded.field-0) c.deref.ensures.value c.in_ok-awarded.ensures.read) in
    rw (p.1, p.2) (handed_open _ _ c.in_ok-problem.problem c.in-NoRoster.proof (handed_in _ _ (view_given (c.in_ok-texts.texts, c.in_ok-texts.certificate)) c.in_ok-texts.ensures.logged c.in_ok-texts.ensures.short c.in_ok-texts.ensures.limit c.in_ok-problem.problem c.in_ok-problem.ensures.month
    (NoRoster c.in-NoRoster.proof) (subst (λ (x : Certificate). certificate_in c.in_ok-texts.certificate.items ≡ Ok x) c.in-NoRoster.is read))
    c.in_err-judge_none-in-NoRoster.field-0.0 c.in_err-judge_none-in-NoRoster.ensures.first c.in_err-judge_none-in-NoRoster.ensures.refused)

pub returns-clause-handed : goal.returns-clause-handed
returns-clause-handed g c =
    let read = (subst (λ (b : List ℕ). certificate_in b ≡ Ok c.in_ok-awarded.field-0) c.deref.ensures.value c.in_ok-awarded.ensures.read) in
    handed_none _ _ c.in_ok-problem.problem c.in-NoRoster.proof (handed_in _ _ (view_given (c.in_ok-texts.texts, c.in_ok-texts.certificate)) c.in_ok-texts.ensures.logged c.in_ok-texts.ensures.short c.in_ok-texts.ensures.limit c.in_ok-problem.problem c.in_ok-problem.ensures.month
    (NoRoster c.in-NoRoster.proof) (subst (λ (x : Certificate). certificate_in c.in_ok-texts.certificate.items ≡ Ok x) c.in-NoRoster.is read))
    c.in_ok-judge_none-in-NoRoster.ensures.accepted c.in_ok-judge_none-in-NoRoster.ensures.none
