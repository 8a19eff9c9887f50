use Rattle.std.proofs.Common.{◌≡◌, ◌<◌, ◌^◌, List, true, length, arith, refl, sym, subst}
use Rattle.std.specs.Prelude.{All}
use Rattle.chain_search.specs.declared.chosen.Chosen.{Chosen}
use Rattle.chain_search.specs.BitStates.{are_known}
use Rattle.chain_search.proofs.BitChoice.{chosen_all, chosen_inside, chosen_known, chosen_light, chosen_more, chosen_start, group_is}
use Rattle.chain_search.proofs.bits.choose.Goals as goal

pub loop-group-init : goal.loop-group-init
loop-group-init c = rw c.new-chosen.ensures.items (chosen_start c.args.groups.now c.args.weights.now)

pub loop-group-preserved : goal.loop-group-preserved
loop-group-preserved c =
    let room : length c.loop-group.chosen.items < 14 = omega arith in
    chosen_more c.loop-group.used c.loop-group.group-index _ c.args.groups.now c.args.weights.now c.loop-group.chosen.items c.push.new.self.items c.loop-group-test.true room
    (group_is _ c.loop-group.used _ c.weight_of_set-weight.result c.args.weights.now refl c.weight_of_set-weight.ensures.weight) c.in_ok-push.ensures.items c.loop-group.invariant

pub returns-clause-inside : goal.returns-clause-inside
returns-clause-inside c =
    let all = chosen_all c.loop-group.used c.loop-group.group-index c.args.groups.now c.args.weights.now c.loop-group.chosen.items c.loop-group-test.false c.loop-group.invariant in
    subst (λ (xs : List Chosen). All (λ (bit : Chosen). bit.bits < 2 ^ 64) xs) (sym all) (chosen_inside c.args.groups.now c.args.weights.now)

pub returns-clause-light : goal.returns-clause-light
returns-clause-light c =
    let all = chosen_all c.loop-group.used c.loop-group.group-index c.args.groups.now c.args.weights.now c.loop-group.chosen.items c.loop-group-test.false c.loop-group.invariant in
    subst (λ (xs : List Chosen). All (λ (bit : Chosen). bit.weight < 2 ^ 39) xs) (sym all) (chosen_light c.args.groups.now c.args.weights.now c.requires.small)

pub returns-clause-known : goal.returns-clause-known
returns-clause-known c =
    let all = chosen_all c.loop-group.used c.loop-group.group-index c.args.groups.now c.args.weights.now c.loop-group.chosen.items c.loop-group-test.false c.loop-group.invariant in
    subst (λ (xs : List Chosen). are_known 0 xs c.args.weights.now ≡ true) (sym all) (chosen_known c.args.groups.now c.args.weights.now)
