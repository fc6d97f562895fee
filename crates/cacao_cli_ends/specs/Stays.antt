-- Promise: What a call of the program that holds no session leaves as it was.
use Rattle.std.specs.Prelude.{◌≡◌, ℕ, ◌+◌, ◌/◌, ◌≤◌, IsTrue, length, Option, IfSome}
use Rattle.cacao_site.specs.DiskCalls.{EachBeat, IsLeft}
use Rattle.cacao_site.specs.SayCalls.{KeepsTime}
use Rattle.cacao_site.specs.View.{LinkView, SiteView, device_calls}
use Rattle.cacao_cli_ends.specs.Files.{Counts}
use Rattle.cacao_cli_ends.specs.Ends.{unsaid}
use Rattle.cacao_cli_ends.specs.Lines.{SaysAtMostALine}

-- at most one call of `say` was made, and nothing else changed
pub record SaysAtMostOnce (old new : SiteView) (answer : ℕ) : Type 0 where
  pub once : SaysAtMostALine old new
  pub unsaid : answer ≡ 9 → new.link.said ≡ old.link.said
  pub no_memory : answer ≡ 10 → new ≡ old

-- of a link the lines said alone may have changed
pub record SaysAtMost (old new : LinkView) : Type 0 where
  pub puts : new.puts ≡ old.puts
  pub taken : new.taken ≡ old.taken
  pub empty_takes : new.empty_takes ≡ old.empty_takes
  pub pending : new.pending ≡ old.pending

-- The calls of a command that opens a file of so many bytes: three, one for each 4,096 bytes, one for each line said and one that
-- may have failed to say a line.
abbrev pub CallsFew : ℕ → SiteView → SiteView → Type 0
CallsFew bytes old new = IsTrue old.disk.told → IfSome old.link.said (λ before. IfSome new.link.said (λ after.
    device_calls new + length before ≤ device_calls old + length after + 4 + bytes / 4096))

-- No file was written, nothing was put or taken, and no time went by: each image that a crash may leave of a file at each beat of
-- the call is one that it could leave before. Of the disk three calls were made, and one for each 4,096 bytes, at most.
pub record WritesNothing (file : ℕ) (old new : SiteView) : Type 0 where
  pub reads_only : (other : ℕ) → EachBeat other old.disk new.disk (IsLeft old.disk other old.disk.beat)
  pub written : new.disk.written ≤ old.disk.written
  pub link : SaysAtMost old.link new.link
  pub time : KeepsTime old.clock new.clock
  pub mishaps : new.counts.mishaps ≡ old.counts.mishaps
  pub calls : CallsFew (length (new.disk.reads file)) old new
  pub disk_calls : IsTrue old.disk.told → new.disk.calls ≤ old.disk.calls + 3 + length (new.disk.reads file) / 4096

-- at most so many reads were counted, where the shelf tells them
abbrev pub ReadsAtMost : ℕ → Option ℕ → Option ℕ → Type 0
ReadsAtMost most old new = (count : ℕ) × (count ≤ most) × Counts old count new

-- no fault was counted: of the shelf, of the disk, or of `say`
pub record NoFault (faults_before faults_after : ℕ) (old new : SiteView) : Type 0 where
  pub shelf : faults_after ≡ faults_before
  pub disk : new.disk.faults ≡ old.disk.faults
  pub say : new.counts.unsaid ≡ old.counts.unsaid
