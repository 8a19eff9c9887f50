use Rattle.std.proofs.Common.{arith}
use Rattle.field_text.proofs.Prefixes.{on_err_is}
use Rattle.rules_file.proofs.Pieces.{pieces-partly}
use Rattle.rules_file.proofs.writing.put_all.Goals as goal

pub returns-in_err-put_bytes-clause-partly : goal.returns-in_err-put_bytes-clause-partly
returns-in_err-put_bytes-clause-partly c =
    on_err_is c.from_residual.result (pieces-partly c.args.out.now c.loop-piece.out c.put_bytes.new.out c.args.pieces.now c.loop-piece.piece-index _ (omega arith) c.loop-piece.invariant c.in_err-put_bytes.ensures.partly)
