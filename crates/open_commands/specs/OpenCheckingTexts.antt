-- The texts that `opencheck` reads, as its reads hand them in.
use Rattle.std.specs.Prelude.{◌≤◌, ℕ, List, [], ◌∷◌, ◌++◌, length, Option, Some, None, Vec}
use Rattle.std.specs.Option.{ForSome, option_map}
use Rattle.std.specs.declared.alloc.Global.{Global}
use Rattle.shelf.specs.Logs.{Entries}
use Rattle.month_files.specs.declared.file.File.TheVariants.{OpenNone, OpenCertificate, OpenReasons, OpenRoster}
use Rattle.month_files.specs.FileNames.{name_of, limit_of}
use Rattle.month_files.specs.Handing.{input_texts}
use Rattle.month_files.specs.Reading.{view_texts}
use Rattle.open_commands.specs.declared.open_checking.LodgedTexts.{LodgedTexts}
use Rattle.open_commands.specs.OpenChecking.{Lodged}

abbrev pub view_none : Option (Vec ℕ Global) → Option (List ℕ)
view_none none = option_map (λ v. v.items) none

abbrev pub view_lodged : LodgedTexts → Lodged
view_lodged t = record {
  inputs = view_texts t.inputs;
  below = view_none t.none;
  certificate = t.certificate.items;
  reasons = t.reasons.items;
  roster = t.roster.items;
}

-- each once, in the order in which they are read
abbrev pub none_texts : Option (List ℕ) → Entries
none_texts None = []
none_texts (Some text) = (name_of OpenNone, text) ∷ []

abbrev pub lodged_texts : Lodged → Entries
lodged_texts t =
    input_texts t.inputs
    ++ (none_texts t.below
    ++ (name_of OpenCertificate, t.certificate) ∷ (name_of OpenReasons, t.reasons) ∷ (name_of OpenRoster, t.roster) ∷ [])

-- those behind the inputs are no longer than their limits
pub record AreBriefLodged (t : Lodged) : Type 0 where
  pub below : ForSome t.below (λ text. length text ≤ limit_of OpenNone)
  pub certificate : length t.certificate ≤ limit_of OpenCertificate
  pub reasons : length t.reasons ≤ limit_of OpenReasons
  pub roster : length t.roster ≤ limit_of OpenRoster
