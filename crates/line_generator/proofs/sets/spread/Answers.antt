use Rattle.std.proofs.Common.{◌^◌, ◌<◌, ◌&&◌, ◌∙◌, ℕ, ap, sym, arith, rules}
use Rattle.duty_calendar.proofs.Counting.{count_between-none, count_between-one}
use Rattle.lens_classes.specs.Classes.{is_in}
use Rattle.line_generator.specs.ClassLines.{spread}
use Rattle.line_generator.proofs.BidSets.{at_most_one, collect_all, collect_more, collect_none, none_spread}
use Rattle.line_generator.proofs.sets.spread.Goals as goal

pub loop-bid-init : goal.loop-bid-init
loop-bid-init c = record {
  collects = collect_none (spread (is_in c.args.bids) c.args.number);
  place = sym (count_between-none (is_in c.args.bids) 0);
  small = omega arith;
}

pub loop-bid-preserved : goal.loop-bid-preserved
loop-bid-preserved c =
    let bid = c.loop-bid.bid in
    let before = c.loop-bid.invariant.place in
    let small = c.loop-bid.invariant.small in
    let after = c.place_after-place.ensures.after in
    let one = count_between-one (is_in c.args.bids) 0 bid (omega arith) in
    let most = at_most_one (is_in c.args.bids bid) in
    record {
      collects = collect_more (spread (is_in c.args.bids) c.args.number) bid c.loop-bid.granted c.with_bid-granted.result c.is_chosen-wanted.result
          (c.is_chosen-wanted.ensures.chosen ∙ ap (λ (place : ℕ). is_in c.args.bids bid && is_in c.args.number place) before) c.with_bid-granted.ensures.here c.with_bid-granted.ensures.others c.loop-bid.invariant.collects;
      place = omega (arith, before, after, one);
      small = omega (arith, small, after, most);
    }

pub returns : goal.returns
returns c =
    let small : c.args.bids < 2 ^ 64 = search rules in
    let past = c.loop-bid-test.false in
    record {
      spread = collect_all (spread (is_in c.args.bids) c.args.number) c.loop-bid.bid c.loop-bid.granted (omega (arith, past)) (none_spread c.args.bids c.args.number small) c.loop-bid.invariant.collects;
    }
