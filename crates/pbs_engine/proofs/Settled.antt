-- The end of a command that writes what it finds, be its file written or not.
use Rattle.std.proofs.Common.{◌≡◌, inl, inr, refl, sym, subst}
use Rattle.std.specs.Prelude.{◌⊎◌}
use Rattle.shelf.specs.Files.{Files}
use Rattle.command_words.specs.declared.command.Command.{Command}
use Rattle.month_files.specs.declared.writing.WriteStop.{WriteStop}
use Rattle.month_files.specs.declared.writing.WriteStop.TheVariants as write
use Rattle.answer_texts.specs.WriteEnds.{write_status}
use Rattle.answer_texts.specs.declared.status.Status.{Status}
use Rattle.answer_texts.specs.declared.status.Status.TheVariants as status
use Rattle.pbs_engine.proofs.Meaning.{CommandMeans}

-- what was found and not written counts as found
abbrev pub settled : Status → Status
settled status.Done = status.Done
settled status.WriteFault = status.Done
settled status.Usage = status.Usage
settled status.NoRoster = status.NoRoster
settled status.Budget = status.Budget
settled status.No = status.No
settled status.BadInput = status.BadInput
settled status.Missing = status.Missing
settled status.ReadFault = status.ReadFault
settled status.TooLong = status.TooLong
settled status.NoMemory = status.NoMemory

-- nothing was found
abbrev pub IsBare : Status → Type 0
IsBare status.Done = ⊥
IsBare status.WriteFault = Unit {0}
IsBare status.Usage = Unit {0}
IsBare status.NoRoster = Unit {0}
IsBare status.Budget = Unit {0}
IsBare status.No = Unit {0}
IsBare status.BadInput = Unit {0}
IsBare status.Missing = Unit {0}
IsBare status.ReadFault = Unit {0}
IsBare status.TooLong = Unit {0}
IsBare status.NoMemory = Unit {0}

pub settled_bare : (s due : Status) → IsBare due → settled s ≡ due → s ≡ due
settled_bare status.Done due bare e = e
settled_bare status.WriteFault due bare e = absurd (subst IsBare (sym e) bare)
settled_bare status.Usage due bare e = e
settled_bare status.NoRoster due bare e = e
settled_bare status.Budget due bare e = e
settled_bare status.No due bare e = e
settled_bare status.BadInput due bare e = e
settled_bare status.Missing due bare e = e
settled_bare status.ReadFault due bare e = e
settled_bare status.TooLong due bare e = e
settled_bare status.NoMemory due bare e = e

pub settled_done : (s : Status) → (s ≡ status.WriteFault → ⊥) → settled s ≡ status.Done → s ≡ status.Done
settled_done status.Done written e = refl
settled_done status.WriteFault written e = absurd (written refl)
settled_done status.Usage written e = e
settled_done status.NoRoster written e = e
settled_done status.Budget written e = e
settled_done status.No written e = e
settled_done status.BadInput written e = e
settled_done status.Missing written e = e
settled_done status.ReadFault written e = e
settled_done status.TooLong written e = e
settled_done status.NoMemory written e = e

-- a file that was not written
pub unwritten_way : (F : Status → Type 0) (why : WriteStop) → F status.Done → F (settled (write_status why)) ⊎ (write_status why ≡ status.NoMemory)
unwritten_way F write.Fault h = inl h
unwritten_way F write.NoMemory h = inr refl

pub unwritten_means : (files : Files) (c : Command) (why : WriteStop) → CommandMeans files c (write_status why)
unwritten_means files c write.Fault = tt
unwritten_means files c write.NoMemory = tt
