-- Promise: Which status comes, and why.
use Rattle.std.specs.Prelude.{◌≡◌, ◌≢◌, ℕ, List, [], ◌∷◌, Option, Some, None}
use Rattle.cacao_site.specs.Counts.{Rose}
use Rattle.cacao_site.specs.View.{SiteView}
use Rattle.cacao_cli_ends.specs.Comes.{ComesExactly}
use Rattle.cacao_cli_ends.specs.Files.{Files}
use Rattle.cacao_view_words.specs.Requests.{Request, helps, helps_with, tells_version, logs, graphs, graphs_run, explains, explains_books, preflights, lacks}
use Rattle.cacao_view.specs.BookStatuses.{BookStatus}
use Rattle.cacao_view.specs.Drawing.{Pictures}
use Rattle.cacao_view.specs.Explaining.{ChecksTo}
use Rattle.cacao_view.specs.Flying.{Foresees, bound_names}
use Rattle.cacao_view.specs.LogStatuses.{LogDiskStatuses, LogFileStatuses}

-- which status comes of these words, by what the files and the disk hold: of words that read none 0, or 2 where they have no reading
abbrev pub StatusesTell : Request → Option Files → SiteView → SiteView → ℕ → Type 0
StatusesTell helps told old new answer = ComesExactly 0 (9 ∷ []) (Unit {0}) answer
StatusesTell (helps_with topic) told old new answer = ComesExactly 0 (9 ∷ []) (Unit {0}) answer
StatusesTell tells_version told old new answer = ComesExactly 0 (9 ∷ []) (Unit {0}) answer
StatusesTell (logs as_json None) told old new answer = LogDiskStatuses old new answer
StatusesTell (logs as_json (Some name)) told old new answer = LogFileStatuses name told answer
StatusesTell (graphs books) told old new answer = BookStatus Pictures books books told answer
StatusesTell graphs_run told old new answer = LogDiskStatuses old new answer
StatusesTell (explains rule) told old new answer = ComesExactly 0 (9 ∷ []) (Unit {0}) answer
StatusesTell (explains_books books) told old new answer = BookStatus ChecksTo books books told answer
StatusesTell (preflights bind books) told old new answer = BookStatus (Foresees bind) books (bound_names bind books) told answer
StatusesTell (lacks wanted) told old new answer = ComesExactly 2 (9 ∷ []) (Unit {0}) answer

-- the words have no reading
abbrev pub IsNotUnderstood : Request → Type 0
IsNotUnderstood helps = ⊥
IsNotUnderstood (helps_with topic) = ⊥
IsNotUnderstood tells_version = ⊥
IsNotUnderstood (logs as_json engine) = ⊥
IsNotUnderstood (graphs books) = ⊥
IsNotUnderstood graphs_run = ⊥
IsNotUnderstood (explains rule) = ⊥
IsNotUnderstood (explains_books books) = ⊥
IsNotUnderstood (preflights bind books) = ⊥
IsNotUnderstood (lacks wanted) = Unit {0}

-- 8 comes only where a call on the disk failed, which was counted, and no other status but 9 hides such a failure
pub record OpensDisk (old new : SiteView) (answer : ℕ) : Type 0 where
  pub failed : answer ≡ 8 → Rose old.disk.faults new.disk.faults
  pub steady : answer ≢ 8 → answer ≢ 9 → new.disk.faults ≡ old.disk.faults

-- No call on the disk fails: where one is made, this is told of it.
abbrev pub DiskTells : Request → SiteView → SiteView → ℕ → Type 0
DiskTells helps old new answer = new.disk.faults ≡ old.disk.faults
DiskTells (helps_with topic) old new answer = new.disk.faults ≡ old.disk.faults
DiskTells tells_version old new answer = new.disk.faults ≡ old.disk.faults
DiskTells (logs as_json None) old new answer = OpensDisk old new answer
DiskTells (logs as_json (Some name)) old new answer = new.disk.faults ≡ old.disk.faults
DiskTells (graphs books) old new answer = new.disk.faults ≡ old.disk.faults
DiskTells graphs_run old new answer = OpensDisk old new answer
DiskTells (explains rule) old new answer = new.disk.faults ≡ old.disk.faults
DiskTells (explains_books books) old new answer = new.disk.faults ≡ old.disk.faults
DiskTells (preflights bind books) old new answer = new.disk.faults ≡ old.disk.faults
DiskTells (lacks wanted) old new answer = new.disk.faults ≡ old.disk.faults

-- the statuses that a request may have
abbrev pub statuses_of : Request → List ℕ
statuses_of helps = 0 ∷ 9 ∷ []
statuses_of (helps_with topic) = 0 ∷ 9 ∷ []
statuses_of tells_version = 0 ∷ 9 ∷ []
statuses_of (logs as_json None) = 0 ∷ 8 ∷ 9 ∷ 10 ∷ 11 ∷ 13 ∷ []
statuses_of (logs as_json (Some name)) = 0 ∷ 3 ∷ 4 ∷ 9 ∷ 10 ∷ 11 ∷ 13 ∷ []
statuses_of (graphs books) = 0 ∷ 1 ∷ 3 ∷ 4 ∷ 5 ∷ 9 ∷ 10 ∷ 11 ∷ []
statuses_of graphs_run = 0 ∷ 8 ∷ 9 ∷ 10 ∷ 11 ∷ 13 ∷ []
statuses_of (explains rule) = 0 ∷ 9 ∷ []
statuses_of (explains_books books) = 0 ∷ 1 ∷ 3 ∷ 4 ∷ 5 ∷ 9 ∷ 10 ∷ 11 ∷ []
statuses_of (preflights bind books) = 0 ∷ 1 ∷ 3 ∷ 4 ∷ 5 ∷ 9 ∷ 10 ∷ 11 ∷ []
statuses_of (lacks wanted) = 2 ∷ 9 ∷ []
