use Rattle.std.proofs.Common.{◌≡◌, length, sym, ◌∙◌, arith}
use Rattle.cert_text.proofs.PlaceLaws.{there, placed_then}
use Rattle.cert_text.proofs.keys.Keys.place.Goals as goal

pub returns-in-Some-clause-within : goal.returns-in-Some-clause-within
returns-in-Some-clause-within c =
    let t = there c.self.inside.keys.items c.in_ok-key.key c.in-Some.place.now (sym (c.self.inside.placed c.in_ok-key.key) ∙ sym c.in-Some.ensures.value) in
    let lt = t.within in
    omega (arith, lt, c.len-count.ensures, c.len-count.type_inv)

pub invariant_of-self-inside-in-Ok-insert : goal.invariant_of-self-inside-in-Ok-insert
invariant_of-self-inside-in-Ok-insert c =
    let count : c.len-count.result ≡ length c.self.inside.keys.items = omega (arith, c.len-count.ensures) in (
      placed_then c.self.inside.keys.items c.push.new.self.items c.in_ok-key.key c.in_ok-new.field-0 c.self.inside.places c.insert.new.self c.len-count.result
          c.self.inside.placed (sym c.in_default.ensures.value) count c.in-Ok.ensures.items
          (c.in_ok-new.ensures.value ∙ sym c.in_ok-key.ensures.value) c.in-Ok-insert.ensures.updates,
      tt,
    )
