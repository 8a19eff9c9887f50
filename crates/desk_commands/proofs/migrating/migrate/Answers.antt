use Rattle.std.proofs.Common.{ℕ, List, subst}
use Rattle.std.specs.Prelude.{Err, Ok}
use Rattle.std.proofs.lemmas.Result.{err_from_is_err_and}
use Rattle.desk_commands.specs.Migrate.{IsRespelling}
use Rattle.desk_commands.proofs.MigrateLaws.{text_handed, migrated_handed}
use Rattle.desk_commands.proofs.migrating.migrate.Goals as goal

pub returns-in_err-migrated-clause-handed : goal.returns-in_err-migrated-clause-handed
returns-in_err-migrated-clause-handed g c =
    let p = err_from_is_err_and c.from_residual-in_err-migrated.result c.from_residual-in_err-migrated.ensures.1 in
    rw (p.1, p.2) (text_handed _ _ c.in_ok-text.text.items c.in_ok-text.ensures.logged c.in_ok-text.ensures.limit c.in_err-migrated.field-0.0
    (subst (λ (b : List ℕ). IsRespelling b (Err c.in_err-migrated.field-0.0)) c.deref.ensures.value c.in_err-migrated.ensures.respelt))

pub returns-clause-handed : goal.returns-clause-handed
returns-clause-handed g c =
    c.write_migrated.ensures.handed _
    (migrated_handed _ _ c.in_ok-text.text.items c.in_ok-text.ensures.logged c.in_ok-text.ensures.limit c.in_ok-migrated.migrated
    (subst (λ (b : List ℕ). IsRespelling b (Ok c.in_ok-migrated.migrated)) c.deref.ensures.value c.in_ok-migrated.ensures.respelt))
