use Rattle.std.proofs.Common.{◌≡◌, false, true, sym, ◌∙◌}
use Rattle.rules_file.proofs.Values.{seat-name}
use Rattle.rules_file.proofs.fields.seat_in.Goals as goal

pub unreachable-requires : goal.unreachable-requires
unreachable-requires c =
    let named = seat-name c.as_bytes-bytes.result.now (sym c.is_seat.ensures.value ∙ c.if-not-is_seat.false) in
    let some : false ≡ true = c.in-None.ensures.succeeds.1 named in cc
