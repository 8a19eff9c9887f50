use Rattle.std.proofs.Common.{ℕ, List, [], ◌∷◌, length, sym, ap, ◌∙◌, arith}
use Rattle.month_files.specs.declared.file.File.TheVariants.{Certificate as CertificateFile}
use Rattle.month_files.specs.declared.writing.Draft.{Draft}
use Rattle.desk_commands.proofs.Respelt.{respelt_is}
use Rattle.desk_commands.proofs.migrating.respell.Goals as goal

abbrev draft_of : List ℕ → List Draft
draft_of bytes = record { file = CertificateFile; bytes = bytes } ∷ []

pub returns : goal.returns
returns c =
    let whole = c.in_ok-bytes.ensures.whole in
    let long = ap (λ (b : List ℕ). length b) whole in
    record {
      respelt =
          respelt_is c.args.text.now c.in_ok-certificate.certificate c.in-Some.version c.in_ok-drafts.drafts c.in_ok-certificate.ensures.found (sym c.in-Some.ensures.value) c.in_ok-certificate.ensures.read
          (c.in_ok-drafts.ensures.drafts ∙ ap draft_of whole) (omega (arith, long, c.if-len-limit.false, c.len.ensures, c.limit.ensures.limit));
    }
