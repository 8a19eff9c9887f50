use Rattle.std.proofs.Common.{sym, arith}
use Rattle.roster_text.proofs.Bytes.{cut_none, cut_at}
use Rattle.roster_text.proofs.reason_words.cut.Goals as goal

pub returns-in-None : goal.returns-in-None
returns-in-None c = record {
  value = sym (cut_none c.args.byte c.place_of.result c.args.bytes.now
      (omega (arith, c.split_at.ensures.back_len, c.in-None.ensures.cases, c.place_of.ensures.within)) c.place_of.ensures.before);
}

pub returns-in-Some : goal.returns-in-Some
returns-in-Some c = record {
  value =
      cut_at c.args.byte c.place_of.result c.args.bytes.now c.split_at.result.0.now c.split_at.result.1.now c.in-Some._byte.now c.in-Some.behind.now c.place_of.ensures.within
      c.split_at.ensures.front c.split_at.ensures.back c.in-Some.ensures.cases.0 c.place_of.ensures.before c.place_of.ensures.found;
}
