-- Promise: Which status may stand in the place of which.
use Rattle.std.specs.Prelude.{◌≡◌, ◌⊎◌, ℕ, Bool, true, false, nat_eq, nat_lt, if◌then◌else◌, List, [], ◌∷◌, ◌++◌, Option, Some}
use Rattle.std.specs.Prelude.{None, IfSome, IsTrue, is_some}
use Rattle.std.specs.List.{list_any}
use Rattle.cacao_site.specs.Counts.{last_count}
use Rattle.cacao_site.specs.View.{DiskView, SiteView}
use Rattle.cacao_cli_ends.specs.Asked.{Asked, canonises, checks, shows, lists_rules, decides, shadows, rehearses, audits, runs}
use Rattle.cacao_cli_ends.specs.Files.{File, Files, files_of}

abbrev pub IsOneOf : ℕ → List ℕ → Type 0
IsOneOf n [] = ⊥
IsOneOf n (m ∷ ms) = (n ≡ m) ⊎ IsOneOf n ms

-- the status comes exactly where its cause holds, but that a fault of this list may stand in its place
pub record ComesExactly (status : ℕ) (faults : List ℕ) (cause : Type 0) (answer : ℕ) : Type 0 where
  pub only : answer ≡ status → cause
  pub always : cause → IsOneOf answer (status ∷ faults)

-- so of the files, where the shelf tells them; where none is read, so of any files
abbrev pub IfFilesTold : List File → Option Files → (Files → Type 0) → Type 0
IfFilesTold [] told P = (files : Files) → P files
IfFilesTold (file ∷ more) told P = IfSome told P

-- so of any files, where the disk is told
abbrev pub IfDiskTold : SiteView → (Files → Type 0) → Type 0
IfDiskTold old P = IsTrue old.disk.told → (files : Files) → P files

-- so of the files, where all is told that the command reads
abbrev pub IfTold : Option Asked → Option Files → SiteView → (Files → Type 0) → Type 0
IfTold None told old P = IfFilesTold [] told P
IfTold (Some (canonises book)) told old P = IfFilesTold (files_of (Some (canonises book))) told P
IfTold (Some (checks books)) told old P = IfFilesTold (files_of (Some (checks books))) told P
IfTold (Some (runs wanted)) told old P = IfFilesTold (files_of (Some (runs wanted))) told P
IfTold (Some shows) told old P = IfDiskTold old P
IfTold (Some (lists_rules agent)) told old P = IfDiskTold old P
IfTold (Some (decides agent packets)) told old P =
    IsTrue old.disk.told → IfFilesTold (files_of (Some (decides agent packets))) told P
IfTold (Some (shadows agent)) told old P = IfDiskTold old P
IfTold (Some (rehearses positions)) told old P = IfFilesTold [] told P
IfTold (Some (audits engine filters)) told old P = IfFilesTold (files_of (Some (audits engine filters))) told P

-- the faults that may stand in the place of a status that rests on the files alone
abbrev pub file_faults : List File → List ℕ
file_faults [] = 9 ∷ 10 ∷ []
file_faults (file ∷ more) = 3 ∷ 9 ∷ 10 ∷ []

-- the same of a status that rests on all that the command reads
abbrev pub faults_of : Option Asked → List ℕ
faults_of None = file_faults []
faults_of (Some (canonises book)) = file_faults (files_of (Some (canonises book)))
faults_of (Some (checks books)) = file_faults (files_of (Some (checks books)))
faults_of (Some (runs wanted)) = file_faults (files_of (Some (runs wanted)))
faults_of (Some shows) = 8 ∷ 9 ∷ 10 ∷ []
faults_of (Some (lists_rules agent)) = 8 ∷ 9 ∷ 10 ∷ []
faults_of (Some (decides agent packets)) = 3 ∷ 8 ∷ 9 ∷ 10 ∷ []
faults_of (Some (shadows agent)) = 8 ∷ 9 ∷ 10 ∷ []
faults_of (Some (rehearses positions)) = file_faults []
faults_of (Some (audits engine filters)) = file_faults (files_of (Some (audits engine filters)))

-- of `run`, what comes only where the clock came to the moment that it was asked for last
abbrev pub reached_statuses : List ℕ
reached_statuses = 0 ∷ 6 ∷ 7 ∷ 15 ∷ 16 ∷ []

-- and what comes only where its session closed
abbrev pub closed_statuses : List ℕ
closed_statuses = 0 ∷ 6 ∷ 7 ∷ 14 ∷ 15 ∷ 16 ∷ []

-- The statuses of sessions that may stand in the place of this one, by whether the disk tells its files, and the link the parcels
-- that were taken. Where both are told, they and the clock settle which comes. Where the disk alone is told, 11, 15 and 16 stand
-- for one another. Where the disk is not told, the clock tells 14 from 0, 6, 7, 15 and 16.
abbrev pub statuses_beside : Bool → Bool → ℕ → List ℕ
statuses_beside true true status = []
statuses_beside true false status =
    if nat_eq status 11 then 15 ∷ 16 ∷ []
    else if nat_eq status 15 then 11 ∷ 16 ∷ []
    else if nat_eq status 16 then 11 ∷ 15 ∷ []
    else []
statuses_beside false taken status = 11 ∷ 12 ∷ 13 ∷ (if list_any (nat_eq status) reached_statuses then reached_statuses else
    if nat_eq status 14 then [] else 14 ∷ reached_statuses)

-- A failed disk may stand in its place only where the count of its faults can't rise any more.
abbrev pub disk_failed_if_full : DiskView → List ℕ
disk_failed_if_full disk = if nat_lt disk.faults last_count then [] else 8 ∷ []

-- the statuses of a rehearsal that ran
abbrev pub run_rehearsal_statuses : List ℕ
run_rehearsal_statuses = 0 ∷ 6 ∷ 9 ∷ 10 ∷ 11 ∷ []

-- The statuses that may stand in the place of one that the command settles, from the one view to the other. (A rehearsal that ran
-- had a site of its own, of which nothing is left to tell.)
abbrev pub stands_for : Option Asked → SiteView → SiteView → ℕ → List ℕ
stands_for None old new status = faults_of None
stands_for (Some (canonises book)) old new status = faults_of (Some (canonises book))
stands_for (Some (checks books)) old new status = faults_of (Some (checks books))
stands_for (Some (runs wanted)) old new status =
    3 ∷ 9 ∷ 10 ∷ (disk_failed_if_full new.disk ++ statuses_beside new.disk.told (is_some old.link.taken) status)
stands_for (Some shows) old new status = faults_of (Some shows)
stands_for (Some (lists_rules agent)) old new status = faults_of (Some (lists_rules agent))
stands_for (Some (decides agent packets)) old new status = faults_of (Some (decides agent packets))
stands_for (Some (shadows agent)) old new status = faults_of (Some (shadows agent))
stands_for (Some (rehearses positions)) old new status = run_rehearsal_statuses
stands_for (Some (audits engine filters)) old new status = faults_of (Some (audits engine filters))

-- the status comes exactly where its cause holds, but that one of these may stand in its place
abbrev pub ComesFor : Option Asked → SiteView → SiteView → ℕ → Type 0 → ℕ → Type 0
ComesFor asked old new status cause answer = ComesExactly status (stands_for asked old new status) cause answer
