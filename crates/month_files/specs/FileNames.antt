-- The names and limits of files.
use Rattle.std.specs.Prelude.{ℕ, List, codes}
use Rattle.month_files.specs.declared.file.File.{File}
use Rattle.month_files.specs.declared.file.File.TheVariants.{Rules, Pairings, Duties, Legs, Crew, History, Fixed, Bids, Certificate, Roster, Reasons, Trades, OtherBids, OtherRoster, OpenNone, OpenCertificate, OpenReasons, OpenRoster}

abbrev pub name_of : File → List ℕ
name_of Rules = codes "rules.toml"
name_of Pairings = codes "pairings.csv"
name_of Duties = codes "duties.csv"
name_of Legs = codes "legs.csv"
name_of Crew = codes "crew.csv"
name_of History = codes "history.csv"
name_of Fixed = codes "fixed.csv"
name_of Bids = codes "bids.txt"
name_of Certificate = codes "certificate.txt"
name_of Roster = codes "roster.csv"
name_of Reasons = codes "reasons.txt"
name_of Trades = codes "trades.txt"
name_of OtherBids = codes "bids2.txt"
name_of OtherRoster = codes "whatif-roster.csv"
name_of OpenNone = codes "open-none.txt"
name_of OpenCertificate = codes "open-certificate.txt"
name_of OpenReasons = codes "open-reasons.txt"
name_of OpenRoster = codes "open-roster.csv"

-- the most bytes that the file may have: 64 MiB, and a certificate 2 GiB
abbrev pub limit_of : File → ℕ
limit_of Rules = 67108864
limit_of Pairings = 67108864
limit_of Duties = 67108864
limit_of Legs = 67108864
limit_of Crew = 67108864
limit_of History = 67108864
limit_of Fixed = 67108864
limit_of Bids = 67108864
limit_of Certificate = 2147483648
limit_of Roster = 67108864
limit_of Reasons = 67108864
limit_of Trades = 67108864
limit_of OtherBids = 67108864
limit_of OtherRoster = 67108864
limit_of OpenNone = 2147483648
limit_of OpenCertificate = 2147483648
limit_of OpenReasons = 67108864
limit_of OpenRoster = 67108864
