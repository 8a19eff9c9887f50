use Rattle.std.proofs.Common.{sym, ◌∙◌}
use Rattle.cert_text.proofs.LineSteps.{lens_is, lens_none}
use Rattle.cert_text.proofs.numbered.lens_at.Goals as goal

pub returns-in-Ok : goal.returns-in-Ok
returns-in-Ok c = record { lens = sym (c.line.ensures.lens ∙ lens_is c.line.result.now c.in-Ok.lens (sym c.in_ok-said.ensures.said ∙ c.in-Ok.is)) }

pub returns-in-Err : goal.returns-in-Err
returns-in-Err c = record { lens = c.no_lens.ensures.lens ∙ sym (c.line.ensures.lens ∙ lens_none c.line.result.now _ (sym c.in_ok-said.ensures.said ∙ c.in-Err.is)) }
