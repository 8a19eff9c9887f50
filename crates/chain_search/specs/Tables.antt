-- What chains may still gain, read from a table by places and states.
use Rattle.std.specs.Prelude.{◌+◌, ◌-◌, ◌*◌, pos, ℕ, ℤ, get_or}
use Rattle.chain_search.specs.declared.table.CoarseRest.{CoarseRest}

-- the number of this place and state; the rows stand from the sink back
abbrev pub rested : {C R : Type 0} → (C → ℕ) → (C → R → ℕ) → CoarseRest C → ℕ → R → ℤ
rested count shows rest place resource =
    get_or rest.table.items ((rest.sink - place) * count rest.coarse + shows rest.coarse resource) (pos 0)
