-- The laws of `Clock`.
use Rattle.std.specs.Prelude.{◌≡◌, ◌≤◌, ◌&&◌, Some, None, Bool, true, false, nat_le, refl}
use Rattle.std.proofs.Common.{arith, cond, subst}
use Rattle.std.proofs.lemmas.Bool.{and_parts}
use Rattle.std.proofs.lemmas.Bool.Decides.{nat_tests}
use Rattle.label_lattice.specs.Laws.{LatticeLaws, ExtendsBelow, RankLaw}
use Rattle.chain_search.specs.declared.clocks.Clock.{Clock}
use Rattle.chain_search.specs.declared.clocks.ClockStep.{ClockStep}
use Rattle.chain_search.specs.Clocks.{clock_at, clock_below, clock_extend, clock_meet, clock_rank}

pub clock_lattice_laws : LatticeLaws clock_below clock_meet
clock_lattice_laws = record {
  reflexive = λ a. grind (arith, nat_tests);
  transitive = λ a b c p q. grind (arith, nat_tests);
  meet_below_first = λ a b. grind (arith, nat_tests);
  meet_below_second = λ a b. grind (arith, nat_tests);
  meet_greatest = λ a b c p q. grind (arith, nat_tests);
}

-- a step that is taken
pub record Ticked (a b : Clock) (step : ClockStep) : Type 0 where
  pub early : a.early ≤ step.from
  pub late : step.from ≤ a.late
  pub is : clock_at step.to ≡ b

pub ticked : (a b : Clock) (step : ClockStep) → clock_extend a step ≡ Some b → Ticked a b step
ticked a b step is = by (nat_le a.early step.from && nat_le step.from a.late) refl is
  where
    by : (t : Bool) → (nat_le a.early step.from && nat_le step.from a.late) ≡ t → cond t (Some (clock_at step.to)) None ≡ Some b → Ticked a b step
    by true e h =
        let parts = and_parts (nat_le a.early step.from) (nat_le step.from a.late) e in
        record { early = let t = parts.0 in grind (arith, nat_tests); late = let t = parts.1 in grind (arith, nat_tests); is = cc }
    by false e h = cc

pub clock_goes : (a : Clock) (step : ClockStep) → a.early ≤ step.from → step.from ≤ a.late → clock_extend a step ≡ Some (clock_at step.to)
clock_goes a step p q = grind (arith, nat_tests)

below_reflexive : (a : Clock) → clock_below a a ≡ true
below_reflexive a = grind (arith, nat_tests)

pub clock_extends : (a b c : Clock) (step : ClockStep) → clock_below a b ≡ true → clock_extend b step ≡ Some c → ExtendsBelow clock_below clock_extend a step c
clock_extends a b c step p q =
    let parts = and_parts (nat_le a.early b.early) (nat_le b.late a.late) p in
    let t = ticked b c step q in
    let early = t.early in
    let late = t.late in
    record {
      to = clock_at step.to;
      extends = clock_goes a step (let x = parts.0 in grind (arith, nat_tests)) (let x = parts.1 in grind (arith, nat_tests));
      is_below = subst (λ (x : Clock). clock_below (clock_at step.to) x ≡ true) t.is (below_reflexive (clock_at step.to));
    }

pub clock_rank_law : RankLaw clock_below clock_rank
clock_rank_law a b p =
    let parts = and_parts (nat_le a.early b.early) (nat_le b.late a.late) p in
    let early = parts.0 in
    grind (arith, nat_tests)
