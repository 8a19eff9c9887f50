-- The program's exit codes.
use Rattle.std.specs.Prelude.{ℕ}
use Rattle.answer_texts.specs.declared.status.Status.{Status}
use Rattle.answer_texts.specs.declared.status.Status.TheVariants.{Done, Usage, NoRoster, Budget, No, BadInput, Missing, ReadFault, WriteFault, TooLong, NoMemory}

abbrev pub exit_code : Status → ℕ
exit_code Done = 0
exit_code Usage = 2
exit_code NoRoster = 3
exit_code Budget = 4
exit_code No = 5
exit_code BadInput = 6
exit_code Missing = 7
exit_code ReadFault = 8
exit_code WriteFault = 9
exit_code TooLong = 10
exit_code NoMemory = 11
