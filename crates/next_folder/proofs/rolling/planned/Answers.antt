use Rattle.next_folder.specs.Texts.{view_ours, view_theirs}
use Rattle.next_folder.proofs.Rolls.{handed_by, told_by}
use Rattle.next_folder.proofs.Spares.{plan_may}
use Rattle.next_folder.proofs.rolling.planned.Goals as goal

pub returns-in-Ok-clause-told : goal.returns-in-Ok-clause-told
returns-in-Ok-clause-told g c = λ files f others o.
    told_by files others c.args.is_forced (view_ours c.in_ok-ours.ours) (view_theirs c.in-Ok.theirs) c.plan.result
    (c.in_ok-ours.ensures.told files f) (c.in-Ok.ensures.told others o) c.plan.ensures.rolled c.plan.ensures.cause

pub returns-in-Ok-clause-handed : goal.returns-in-Ok-clause-handed
returns-in-Ok-clause-handed g c =
    handed_by _ _ _ _ c.args.is_forced (view_ours c.in_ok-ours.ours) (view_theirs c.in-Ok.theirs) c.plan.result
    c.in_ok-ours.ensures.logged c.in-Ok.ensures.logged c.plan.ensures.rolled c.plan.ensures.cause

pub returns-in-Ok-clause-spared : goal.returns-in-Ok-clause-spared
returns-in-Ok-clause-spared g c =
    plan_may c.args.is_forced _ (view_ours c.in_ok-ours.ours) (view_theirs c.in-Ok.theirs) c.plan.result c.in-Ok.ensures.told c.plan.ensures.rolled

pub returns-clause-told : goal.returns-clause-told
returns-clause-told g c = λ files f others o.
    record { ours = view_ours c.in_ok-ours.ours; read = c.in_ok-ours.ensures.told files f; due = c.in-Err.ensures.told others o }
