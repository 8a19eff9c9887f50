use Rattle.std.proofs.Common.{◌≡◌, ◌<◌, ◌||◌, ◌&&◌, ℕ, false}
use Rattle.take_graphs.proofs.takes.next_open.Given as goal

abbrev pub invariant-loop-to : goal.invariant-loop-to
invariant-loop-to g l =
    let m = g.M.Choices in
    record { none : (k : ℕ) → l.from < k → k < l.to → ((m.may l.choices k && m.near l.choices l.from k) || m.must l.choices k) ≡ false }
