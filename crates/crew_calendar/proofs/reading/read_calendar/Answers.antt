use Rattle.crew_calendar.proofs.ReadSays.{said, only, again}
use Rattle.crew_calendar.proofs.reading.read_calendar.Goals as goal

pub returns : goal.returns
returns c =
    let text = c.args.text.now in
    let read = c.read_lines.ensures.read in
    let timed = c.read_lines.ensures.timed in
    record {
      said = said text c.read_lines.result read timed;
      only = only text c.read_lines.result read timed;
      again = again text c.read_lines.result read timed;
      read = read;
    }
