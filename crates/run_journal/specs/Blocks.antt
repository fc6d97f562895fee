-- Promise: Calls that read.
use Rattle.std.specs.Prelude.{ℕ, ◌+◌, ◌≤◌}
use Rattle.cacao_site.specs.DiskCalls.{GoesOn, StaysAt, SameRest}
use Rattle.cacao_site.specs.View.{SiteView}

-- so many calls at most, which leave each file as it was and write nothing
pub record OnlyReads (most : ℕ) (old new : SiteView) : Type 0 where
  pub goes_on : GoesOn old.disk new.disk
  pub stays : (file : ℕ) → StaysAt old.disk new.disk file
  pub rest : SameRest old new
  pub calls : new.disk.calls ≤ old.disk.calls + most
  pub written : new.disk.written ≤ old.disk.written
