use Rattle.std.proofs.Common.{◌≡◌, ◌++◌, ◌∙◌, ap, sym, subst, List, ℕ}
use Rattle.std.specs.List.{flat_map, list_all}
use Rattle.crew_calendar.specs.declared.types.CalendarEntry.{CalendarEntry}
use Rattle.crew_calendar.specs.Folding.{text_of, ended, folded, rows_of, is_short, unfolded}
use Rattle.crew_calendar.specs.Moments.{moment_text}
use Rattle.crew_calendar.specs.Seen.{entry_seen, seen}
use Rattle.crew_calendar.specs.Printing.{head_lines, entry_lines, last_line, lines_of}
use Rattle.crew_calendar.specs.Content.{Says}
use Rattle.crew_calendar.proofs.Printed.{text_says, calendar_short}
use Rattle.crew_calendar.proofs.Chains.{whole_text}
use Rattle.crew_calendar.proofs.printing.print_calendar.Goals as goal

pub returns : goal.returns
returns c =
    let lines = entry_lines (moment_text c.args.calendar.now.stamp) in
    let whole : c.put_line.new.out ≡ text_of (lines_of (seen c.args.calendar.now)) =
    whole_text entry_seen lines head_lines c.args.calendar.now.entries last_line c.new-out.result c.put_head.new.out c.put_entries.new.out c.put_line.new.out
    c.new-out.ensures c.in_ok-put_head.ensures.ok
    (subst (λ (es : List CalendarEntry). c.put_entries.new.out ≡ c.put_head.new.out ++ flat_map (λ e. text_of (lines (entry_seen e))) es) c.as_slice.ensures c.in_ok-put_entries.ensures.ok)
    (subst (λ (l : List ℕ). c.put_line.new.out ≡ c.put_entries.new.out ++ ended (folded l)) c.last_line.ensures.value c.in_ok-put_line.ensures.ok) in
    record {
      whole = whole;
      said = subst (λ (t : List ℕ). Says (unfolded t) c.args.calendar.now) (sym whole) (text_says c.args.calendar.now c.requires.form);
      short = ap (λ (t : List ℕ). list_all is_short (rows_of t)) whole ∙ calendar_short c.args.calendar.now c.requires.form;
    }
