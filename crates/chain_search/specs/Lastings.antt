-- What chains may still gain, by bits that are set and that no later arc clears.
use Rattle.std.specs.Prelude.{◌-◌, ◌*◌, ◌^◌, ◌≤◌, ◌+ℤ◌, neg_ℤ, pos, ℕ, ℤ, bit_and, get_or, if◌then◌else◌}
use Rattle.std.specs.Int.{bit_at}
use Rattle.label_lattice.specs.declared.masks.Mask.{Mask}
use Rattle.label_lattice.specs.declared.pairs.Pair.{Pair}
use Rattle.label_lattice.specs.Mask.{mask_done}
use Rattle.chain_search.specs.declared.lasting.Lasting.{Lasting}

-- each bit of the first is in the second
abbrev pub IsIn : ℕ → ℕ → Type 0
IsIn a b = (i : ℕ) → bit_at a i ≤ bit_at b i

-- what so many arcs may gain, and far less where the bits that last weigh too much
abbrev pub lasting : {A B : Type 0} → Lasting → ℕ → Pair A (Pair Mask B) → ℤ
lasting rest place a =
    if mask_done (record { bits = bit_and a.second.first.bits (get_or rest.rows.items (rest.sink - place) 0) }) rest.last.end
    then pos ((rest.sink - place) * 2 ^ 40)
    else (pos ((rest.sink - place) * 2 ^ 40) +ℤ neg_ℤ (pos (2 ^ 60)))
