-- The files that say a month.
use Rattle.std.specs.Prelude.{List, [], ◌∷◌}
use Rattle.bid_language.specs.Spelling.{bids_text}
use Rattle.crew_files.specs.Texts.{crew_text, events_text}
use Rattle.crew_files.specs.declared.part.Part.TheVariants.{History as Past, Fixed as Given}
use Rattle.duty_calendar.specs.declared.member.Base.{Base}
use Rattle.pairing_files.specs.Texts.{pairings_text, duties_text, legs_text}
use Rattle.roster_model.specs.declared.problem.Problem.{Problem}
use Rattle.rules_file.specs.Rules.{values}
use Rattle.rules_file.specs.Spelling.{rules_text}
use Rattle.month_files.specs.declared.file.File.TheVariants.{Rules, Pairings, Duties, Legs, Crew, History, Fixed, Bids}
use Rattle.month_files.specs.declared.writing.Draft.{Draft}
use Rattle.month_files.specs.Reading.{Inputs}

-- the texts of a month
unfoldable pub inputs_of : Problem → Inputs
inputs_of problem = record {
  rules = rules_text (values problem.base.rules);
  pairings = pairings_text problem.base.pairings;
  duties = duties_text problem.base.rules.horizon problem.base.pairings;
  legs = legs_text problem.base.rules.horizon problem.base.pairings;
  crew = crew_text problem.base.members;
  history = events_text problem.base.rules.horizon Past problem.base.members;
  fixed = events_text problem.base.rules.horizon Given problem.base.members;
  bids = bids_text problem;
}

-- the eight files of these texts, in the order in which they are read
abbrev pub input_drafts : Inputs → List Draft
input_drafts t =
    record { file = Rules; bytes = t.rules } ∷ record { file = Pairings; bytes = t.pairings }
    ∷ record { file = Duties; bytes = t.duties } ∷ record { file = Legs; bytes = t.legs }
    ∷ record { file = Crew; bytes = t.crew } ∷ record { file = History; bytes = t.history }
    ∷ record { file = Fixed; bytes = t.fixed } ∷ record { file = Bids; bytes = t.bids } ∷ []

-- of these, those of the rules, of the pairings and of the members
abbrev pub rules_drafts : Base → List Draft
rules_drafts base = record { file = Rules; bytes = rules_text (values base.rules) } ∷ []

abbrev pub pairings_drafts : Base → List Draft
pairings_drafts base =
    record { file = Pairings; bytes = pairings_text base.pairings }
    ∷ record { file = Duties; bytes = duties_text base.rules.horizon base.pairings }
    ∷ record { file = Legs; bytes = legs_text base.rules.horizon base.pairings } ∷ []

abbrev pub members_drafts : Base → List Draft
members_drafts base =
    record { file = Crew; bytes = crew_text base.members }
    ∷ record { file = History; bytes = events_text base.rules.horizon Past base.members }
    ∷ record { file = Fixed; bytes = events_text base.rules.horizon Given base.members } ∷ []
