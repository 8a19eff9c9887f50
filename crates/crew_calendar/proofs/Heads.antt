-- The content lines can be folded, and no line ends within them.
use Rattle.std.proofs.Common.{◌≡◌, ℕ, true, List, ◌++◌, refl}
use Rattle.std.specs.List.{list_all}
use Rattle.crew_calendar.specs.Folding.{is_inner}
use Rattle.crew_calendar.specs.Printing.{first_line, version_line, product_line, open_line, uid_head, stamp_head, start_head, stop_head, summary_head, text_head, close_line, last_line}
use Rattle.crew_calendar.proofs.LinesAgain.{is_line, line_inner}

pub word_lines : (is_line first_line ≡ true) × (is_line version_line ≡ true) × (is_line product_line ≡ true)
    × (is_line open_line ≡ true) × (is_line close_line ≡ true) × (is_line last_line ≡ true)
unfolding first_line version_line product_line open_line close_line last_line
word_lines = (refl, refl, refl, refl, refl, refl)

pub words_inner : (list_all is_inner first_line ≡ true) × (list_all is_inner version_line ≡ true) × (list_all is_inner product_line ≡ true)
    × (list_all is_inner open_line ≡ true) × (list_all is_inner close_line ≡ true) × (list_all is_inner last_line ≡ true)
words_inner = (
  line_inner first_line word_lines.0,
  line_inner version_line word_lines.1,
  line_inner product_line word_lines.2,
  line_inner open_line word_lines.3,
  line_inner close_line word_lines.4,
  line_inner last_line word_lines.5,
)

module _ (v : List ℕ) (h : list_all is_inner v ≡ true) where
  pub uid_is_line : is_line (uid_head ++ v) ≡ true
  unfolding uid_head
  uid_is_line = h

  pub stamp_is_line : is_line (stamp_head ++ v) ≡ true
  unfolding stamp_head
  stamp_is_line = h

  pub start_is_line : is_line (start_head ++ v) ≡ true
  unfolding start_head
  start_is_line = h

  pub stop_is_line : is_line (stop_head ++ v) ≡ true
  unfolding stop_head
  stop_is_line = h

  pub summary_is_line : is_line (summary_head ++ v) ≡ true
  unfolding summary_head
  summary_is_line = h

  pub text_is_line : is_line (text_head ++ v) ≡ true
  unfolding text_head
  text_is_line = h

  pub uid_inner : list_all is_inner (uid_head ++ v) ≡ true
  uid_inner = line_inner (uid_head ++ v) uid_is_line

  pub stamp_inner : list_all is_inner (stamp_head ++ v) ≡ true
  stamp_inner = line_inner (stamp_head ++ v) stamp_is_line

  pub start_inner : list_all is_inner (start_head ++ v) ≡ true
  start_inner = line_inner (start_head ++ v) start_is_line

  pub stop_inner : list_all is_inner (stop_head ++ v) ≡ true
  stop_inner = line_inner (stop_head ++ v) stop_is_line

  pub summary_inner : list_all is_inner (summary_head ++ v) ≡ true
  summary_inner = line_inner (summary_head ++ v) summary_is_line

  pub head_inner : list_all is_inner (text_head ++ v) ≡ true
  head_inner = line_inner (text_head ++ v) text_is_line
