use Rattle.crew_files.proofs.FlightForm.{fits, stops}
use Rattle.crew_files.proofs.laws.flights_laws.Goals as goal

pub returns : goal.returns
returns c = record { fits = fits; stops = stops }
