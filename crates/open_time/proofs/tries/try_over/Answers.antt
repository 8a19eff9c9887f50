use Rattle.open_time.proofs.Attempts.{run_of}
use Rattle.open_time.proofs.tries.try_over.Goals as goal

pub returns : goal.returns
returns g c = record {
  attempt = record {
    run = run_of c.args.problem.now c.args.nodes c.in_ok-ledger.ledger c.try_month.new.ledger c.in_ok-ledger.ensures.empty
        c.try_month.ensures.cap c.try_month.ensures.rounds c.try_month.ensures.lawful;
    tried = c.in_ok-tried.ensures.tried;
  };
}
