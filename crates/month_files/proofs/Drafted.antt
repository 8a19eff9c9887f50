-- The files of a month, added one after the other.
use Rattle.std.proofs.Common.{◌≡◌, ℕ, List, [], ◌∷◌, ◌++◌, Ok, ap, ◌∙◌, append_assoc}
use Rattle.bid_language.specs.Lines.{bids_in}
use Rattle.bid_language.specs.Spelling.{bids_text}
use Rattle.crew_files.specs.Files.{members_of}
use Rattle.crew_files.specs.Texts.{crew_text, events_text}
use Rattle.crew_files.specs.declared.part.Part.TheVariants.{History as Past, Fixed as Given}
use Rattle.month_files.specs.Drafts.{inputs_of, input_drafts, rules_drafts, pairings_drafts, members_drafts}
use Rattle.month_files.specs.Months.{Names}
use Rattle.month_files.specs.declared.file.File.{File}
use Rattle.month_files.specs.declared.file.File.TheVariants.{Bids}
use Rattle.month_files.specs.declared.writing.Draft.{Draft}
use Rattle.pairing_files.specs.Files.{pairings_of}
use Rattle.pairing_files.specs.Texts.{pairings_text, duties_text, legs_text}
use Rattle.roster_model.specs.declared.problem.Problem.{Problem}
use Rattle.rules_file.specs.Rules.{rules_file, values}
use Rattle.rules_file.specs.Spelling.{rules_text}

abbrev of_file : File → List ℕ → Draft
of_file f bytes = record { file = f; bytes = bytes }

-- three files more, each with the text that its bytes are
pub three : (f g h : File) (before one two all : List Draft) (a b c x y z : List ℕ) → one ≡ before ++ of_file f a ∷ [] → two ≡ one ++ of_file g b ∷ [] → all ≡ two ++ of_file h c ∷ []
    → a ≡ x → b ≡ y → c ≡ z → all ≡ before ++ of_file f x ∷ of_file g y ∷ of_file h z ∷ []
three f g h before one two all a b c x y z first second third is_x is_y is_z =
    third
    ∙ ap (λ (ds : List Draft). ds ++ of_file h c ∷ []) (second ∙ ap (λ (ds : List Draft). ds ++ of_file g b ∷ []) first ∙ append_assoc before (of_file f a ∷ []) (of_file g b ∷ []))
    ∙ append_assoc before (of_file f a ∷ of_file g b ∷ []) (of_file h c ∷ [])
    ∙ ap (λ (t : List ℕ). before ++ of_file f t ∷ of_file g b ∷ of_file h c ∷ []) is_x
    ∙ ap (λ (t : List ℕ). before ++ of_file f x ∷ of_file g t ∷ of_file h c ∷ []) is_y
    ∙ ap (λ (t : List ℕ). before ++ of_file f x ∷ of_file g y ∷ of_file h t ∷ []) is_z

module _ (problem : Problem) where
  pub all_eight : (none rules pairings members all : List Draft) (bytes : List ℕ) → none ≡ [] → rules ≡ none ++ rules_drafts problem.base → pairings ≡ rules ++ pairings_drafts problem.base
      → members ≡ pairings ++ members_drafts problem.base → all ≡ members ++ of_file Bids bytes ∷ [] → bytes ≡ bids_text problem → all ≡ input_drafts (inputs_of problem)
  unfolding inputs_of
  all_eight none rules pairings members all bytes e0 e1 e2 e3 e4 is =
      e4
      ∙ ap (λ (ds : List Draft). ds ++ of_file Bids bytes ∷ [])
      (e3 ∙ ap (λ (ds : List Draft). ds ++ members_drafts problem.base)
      (e2 ∙ ap (λ (ds : List Draft). ds ++ pairings_drafts problem.base) (e1 ∙ ap (λ (ds : List Draft). ds ++ rules_drafts problem.base) e0)))
      ∙ ap (λ (t : List ℕ). rules_drafts problem.base ++ pairings_drafts problem.base ++ members_drafts problem.base ++ of_file Bids t ∷ []) is

  pub names_again : rules_file (rules_text (values problem.base.rules)) ≡ Ok (values problem.base.rules)
      → pairings_of problem.base.rules.horizon (pairings_text problem.base.pairings) (duties_text problem.base.rules.horizon problem.base.pairings)
      (legs_text problem.base.rules.horizon problem.base.pairings) ≡ Ok problem.base.pairings
      → members_of problem.base.rules.horizon (crew_text problem.base.members) (events_text problem.base.rules.horizon Past problem.base.members)
      (events_text problem.base.rules.horizon Given problem.base.members) ≡ Ok problem.base.members
      → bids_in problem.base (bids_text problem) ≡ Ok problem.bids → Names (inputs_of problem) problem
  unfolding inputs_of
  names_again rules pairings members bids = record { base_is = record { rules = rules; pairings = pairings; members = members }; bids_are = bids }
