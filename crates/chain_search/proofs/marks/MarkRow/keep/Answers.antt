use Rattle.std.proofs.Common.{◌%◌, ◌<◌, length, arith, refl}
use Rattle.chain_search.proofs.Marked.{more_set}
use Rattle.chain_search.proofs.marks.MarkRow.keep.Goals as goal

pub returns : goal.returns
returns g c =
    let within : c.args.self.now.next % 16 < length c.args.self.now.marks.items = omega arith in
    record { kept = more_set c.args.self.now.marks.items _ (c.args.self.now.next % 16) c.args.mark within refl }
