-- Where an arc that passes or takes leads, and what it takes.
use Rattle.std.proofs.Common.{◌≡◌, ℕ, ◌<◌, ◌≤◌, Bool, true, not, ◌&&◌, ◌==◌, arith, inl, inr}
use Rattle.std.proofs.lemmas.Bool.{and_parts}
use Rattle.take_graphs.specs.Takes.{leads_by, passes_by, takes_by, IsWay}
use Rattle.take_graphs.proofs.Taking.{leads_parts}

-- what an arc takes is a place before its end
pub taken_before : (may must : ℕ → Bool) (near : ℕ → ℕ → Bool) (i j t : ℕ) → IsWay (passes_by may must) (takes_by may must near) i j t → (t < j) × (may j ≡ true)
taken_before may must near i j t (inl p) =
    let to = leads_parts may must i j (and_parts (not (must i)) (leads_by may must i j) p.1).1 in
    let lt = to.later in
    let e = p.0 in
    (omega arith, to.holds)
taken_before may must near i j t (inr p) =
    let parts = and_parts (not (i == 0)) _ p.1 in
    let to = leads_parts (λ k. may k && near i k) must i j (and_parts (may i) (leads_by (λ k. may k && near i k) must i j) parts.1).1 in
    let lt = to.later in
    let e = p.0 in
    (omega arith, (and_parts (may j) (near i j) to.holds).0)

-- an arc leads on, and takes nothing but where it begins
pub way_up : (may must : ℕ → Bool) (near : ℕ → ℕ → Bool) (i j t : ℕ) → IsWay (passes_by may must) (takes_by may must near) i j t → (i < j) × (t ≤ i)
way_up may must near i j t (inl p) =
    let to = leads_parts may must i j (and_parts (not (must i)) (leads_by may must i j) p.1).1 in
    let e = p.0 in
    (to.later, omega arith)
way_up may must near i j t (inr p) =
    let parts = and_parts (not (i == 0)) _ p.1 in
    let to = leads_parts (λ k. may k && near i k) must i j (and_parts (may i) (leads_by (λ k. may k && near i k) must i j) parts.1).1 in
    let e = p.0 in
    (to.later, omega arith)
