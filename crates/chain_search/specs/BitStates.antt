-- Chosen groups of bits of a set as a state, and what they weigh.
use Rattle.std.specs.Prelude.{◌+◌, ◌-◌, ◌*◌, ◌/◌, ◌%◌, ◌^◌, ◌==◌, ◌&&◌, ◌||◌, ℕ, Bool, true, List, [], ◌∷◌, Option, Some, bit_and, bit_or, length, nat_le, sum, take, if◌then◌else◌}
use Rattle.std.specs.List.{list_all}
use Rattle.label_lattice.specs.declared.masks.MaskStep.{MaskStep}
use Rattle.label_lattice.specs.declared.masks.MaskEnd.{MaskEnd}
use Rattle.label_lattice.specs.declared.masks.Mask.{Mask}
use Rattle.label_lattice.specs.Mask.{unset_weight}
use Rattle.chain_search.specs.declared.chosen.Chosen.{Chosen}
use Rattle.chain_search.specs.declared.chosen.Bits.{Bits}
use Rattle.chain_search.specs.declared.bits.BitsMove.{BitsMove}

-- what the bits of a set weigh
abbrev pub set_weight : ℕ → List ℕ → ℕ
set_weight bits weights = sum weights - unset_weight bits weights (length weights)

-- of each mask the bits that are not used before it, with what they weigh
abbrev pub chosen_from : ℕ → List ℕ → List ℕ → List Chosen
chosen_from used [] weights = []
chosen_from used (mask ∷ masks) weights =
    record { bits = bit_and mask (2 ^ 64 - 1 - used); weight = set_weight (bit_and mask (2 ^ 64 - 1 - used)) weights }
    ∷ chosen_from (bit_or used mask) masks weights

-- the first fourteen groups of bits, each without the bits of those before it
unfoldable pub chosen_of : List ℕ → List ℕ → List Chosen
chosen_of masks weights = take 14 (chosen_from 0 masks weights)

-- one where all bits of the mask are set, else 0
abbrev pub all_set : ℕ → ℕ → ℕ
all_set bits mask = if bit_and bits mask == mask then 1 else 0

-- the chosen groups, the first as the lowest bit
abbrev pub state_of : List Chosen → ℕ → ℕ
state_of [] bits = 0
state_of (bit ∷ chosen) bits = all_set bits bit.bits + 2 * state_of chosen bits

-- what the bits of a state weigh
abbrev pub weight_of : List Chosen → ℕ → ℕ
weight_of [] state = 0
weight_of (bit ∷ chosen) state = (if state % 2 == 1 then bit.weight else 0) + weight_of chosen (state / 2)

-- none of the bits of the mask, or all
abbrev pub is_even : ℕ → ℕ → Bool
is_even bits mask = (bit_and bits mask == 0) || (bit_and bits mask == mask)

-- none of the bits of each chosen group, or all
abbrev pub are_even : List Chosen → ℕ → Bool
are_even chosen bits = list_all (λ bit. is_even bits bit.bits) chosen

-- the group has no bit that is used, and weighs no more than its bits do at the end
abbrev pub is_known : ℕ → Chosen → List ℕ → Bool
is_known used bit weights = (bit_and bit.bits used == 0) && nat_le bit.weight (set_weight bit.bits weights)

-- the chosen groups have no bit that is used, nor one in common, and weigh no more than their bits do at the end
abbrev pub are_known : ℕ → List Chosen → List ℕ → Bool
are_known used [] weights = true
are_known used (bit ∷ chosen) weights = is_known used bit weights && are_known (bit_or used bit.bits) chosen weights

abbrev pub bits_count : Bits → ℕ
bits_count view = 2 ^ length view.chosen.items

abbrev pub bits_shows : Bits → Mask → ℕ
bits_shows view a = state_of view.chosen.items a.bits

-- what is left of a state, and what is set
abbrev pub bits_moves : BitsMove → ℕ → Option ℕ
bits_moves by state = Some (bit_or (bit_and state by.keep) by.set)

abbrev pub bits_move : Bits → MaskStep → BitsMove
bits_move view step =
    record { keep = state_of view.chosen.items (2 ^ 64 - 1 - step.clear); set = state_of view.chosen.items step.set }

-- just the state that is shown
abbrev pub bits_sees : Bits → Mask → ℕ → Bool
bits_sees view a state = state == bits_shows view a

abbrev pub bits_ends : Bits → ℕ → Bool
bits_ends view state = nat_le (weight_of view.chosen.items state) view.allowed

-- a step that clears all bits of a group or none, and sets all or none
abbrev pub bits_fit_step : Bits → MaskStep → Bool
bits_fit_step view step = are_even view.chosen.items step.clear && are_even view.chosen.items step.set

-- an end at which all bits weigh no more than its floor and what is allowed
abbrev pub bits_fit_end : Bits → MaskEnd → Bool
bits_fit_end view end = are_known 0 view.chosen.items end.weights && nat_le (sum end.weights) (view.allowed + end.floor)
