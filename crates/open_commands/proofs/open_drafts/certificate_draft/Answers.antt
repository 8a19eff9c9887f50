use Rattle.cert_text.proofs.ShortLists.{certificate_short}
use Rattle.open_commands.proofs.open_drafts.certificate_draft.Goals as goal

pub print_certificate-requires : goal.print_certificate-requires
print_certificate-requires c = record { short = certificate_short c.args.certificate.now c.requires.writable.limits }
