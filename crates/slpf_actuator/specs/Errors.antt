-- Promise: What a refusal of the journal means for the filter.
use Rattle.run_journal.specs.declared.error.JournalError.{JournalError}
use Rattle.run_journal.specs.declared.error.JournalError.TheVariants as journal
use Rattle.slpf_actuator.specs.declared.error.ActError.{ActError}
use Rattle.slpf_actuator.specs.declared.error.ActError.TheVariants.{Disk, Damaged, Full, Broken, Memory}

abbrev pub error_of : JournalError → ActError
error_of journal.Disk = Disk
error_of (journal.Damaged place) = Damaged place
error_of (journal.Full length) = Full length
error_of journal.Broken = Broken
error_of journal.Memory = Memory
