use Rattle.std.proofs.Common.{◌≡◌, ℕ, List, get_or, sym, subst, arith}
use Rattle.roster_text.proofs.Printed.{rows_more}
use Rattle.roster_text.proofs.printing.put_rows.Goals as goal

pub loop-member-preserved : goal.loop-member-preserved
loop-member-preserved c =
    rows_more c.args.problem.now c.loop-member.out c.put_row.new.out c.args.roster.now c.loop-member.member c.index-as_slice-member.result _
    (omega (arith, c.loop-member-test.true, c.len-member-end.ensures, c.requires.lines))
    (subst (λ (rows : List (List ℕ)). get_or rows c.loop-member.member c.index-as_slice-member.result ≡ c.index-as_slice-member.result) c.as_slice.ensures (sym c.index-as_slice-member.is))
    c.in_ok-put_row.ensures.whole c.loop-member.invariant
