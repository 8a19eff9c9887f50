use Rattle.std.proofs.Common.{refl}
use Rattle.next_folder.specs.Texts.{view_theirs}
use Rattle.next_folder.proofs.Bars.{bars_last}
use Rattle.next_folder.proofs.rules.drafted_rules.Goals as goal

pub returns-in_default-clause-cause : goal.returns-in_default-clause-cause
returns-in_default-clause-cause c = λ ours force roster month.
    let e = c.in_default.ensures.last refl in
    bars_last ours (view_theirs c.args.theirs.now) force c.args.problem.now roster month c.requires.none e.0 e.1
