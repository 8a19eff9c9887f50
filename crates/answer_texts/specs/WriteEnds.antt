-- How a run ends, and what it prints, where a file was not written.
use Rattle.std.specs.Prelude.{ℕ, List, [], ◌++◌, codes}
use Rattle.month_files.specs.FileNames.{name_of}
use Rattle.month_files.specs.declared.writing.Unwritten.{Unwritten}
use Rattle.month_files.specs.declared.writing.WriteStop.{WriteStop}
use Rattle.month_files.specs.declared.writing.WriteStop.TheVariants as write
use Rattle.answer_texts.specs.declared.status.Status.{Status}
use Rattle.answer_texts.specs.declared.status.Status.TheVariants as status
use Rattle.answer_texts.specs.Lines.{line}

abbrev pub write_status : WriteStop → Status
write_status write.Fault = status.WriteFault
write_status write.NoMemory = status.NoMemory

abbrev pub stop_text : Unwritten → WriteStop → List ℕ
stop_text u write.Fault = line (codes "write fault " ++ name_of u.file)
stop_text u write.NoMemory = []

abbrev pub unwritten_text : Unwritten → List ℕ
unwritten_text u = stop_text u (u.why)
