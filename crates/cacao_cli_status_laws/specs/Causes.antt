-- Promise: The causes of the statuses, in words of their own.
use Rattle.std.specs.Prelude.{◌≡◌, ◌⊎◌, ℕ, List, [], ◌∷◌, true, false, Option, Some, None}
use Rattle.serde_json.specs.Data.{Data}
use Rattle.cacao_check.specs.FirstBreak.{IsAccepted}
use Rattle.cacao_check.specs.declared.breaks.Mode.{Mode}
use Rattle.cacao_check.specs.declared.breaks.Mode.TheVariants.{Read}
use Rattle.cacao_site.specs.View.{SiteView}
use Rattle.cacao_cli_ends.specs.Asked.{Asked, canonises, checks, shows, lists_rules, decides, shadows, rehearses, audits, runs}
use Rattle.cacao_cli_looks.specs.Audited.{FilesAgree, Disagree, PassTasks}
use Rattle.cacao_cli_ends.specs.Ends.{End, asked_for, damaged, ended_ok, other_book, other_run, past, rehearsed, run_used}
use Rattle.cacao_cli_ends.specs.Ends.{waiting}
use Rattle.cacao_cli_words.specs.Requests.{RunRequest}
use Rattle.cacao_cli_status_laws.specs.Exact.{IsBroken}
use Rattle.cacao_cli_session_laws.specs.Holding.{CameTo, HasBadAnswer, IsRefusedStart}
use Rattle.cacao_cli_ends.specs.declared.limit.Limit.{Limit}
use Rattle.cacao_cli_looks.specs.Openings.{HoldsFilter, HoldsRun, IsDamagedFilter, IsDamagedRun, IsTooLargeRun}
use Rattle.cacao_cli_ends.specs.Files.{File, Files, files_of, has_too_many, packet_file, NamedText}
use Rattle.cacao_cli_status_laws.specs.Rehearsing.{IsBrokenRehearsal, RehearsalTo}
use Rattle.cacao_cli_ends.specs.Work.{start_of, trees_wanted}
use Rattle.cacao_cli_ends.specs.FileCauses.{AllWithin, HasBadLine, HasTexts, HasTrees, IsAuditOf, IsPacketFile, IsTooLong}
use Rattle.cacao_cli_ends.specs.FileCauses.{IsWithin, LacksTree, SomeTreeless, Trees}

-- a session was held with what the texts give, and came to this end
pub record SessionTo (wanted : RunRequest) (files : Files) (last : End) (old new : SiteView) : Type 0 where
  pub texts : List NamedText
  pub has : HasTexts files wanted texts
  pub trees : HasTrees wanted texts
  pub came : CameTo (start_of wanted texts) last old new

-- so it was with a command that holds a session; that of a rehearsal is held on a site of its own
abbrev pub EndsAs : Option Asked → Files → End → SiteView → SiteView → Type 0
EndsAs None files last old new = ⊥
EndsAs (Some (canonises book)) files last old new = ⊥
EndsAs (Some (checks books)) files last old new = ⊥
EndsAs (Some (runs wanted)) files last old new = SessionTo wanted files last old new
EndsAs (Some shows) files last old new = ⊥
EndsAs (Some (lists_rules agent)) files last old new = ⊥
EndsAs (Some (decides agent packets)) files last old new = ⊥
EndsAs (Some (shadows agent)) files last old new = ⊥
EndsAs (Some (rehearses positions)) files last old new = RehearsalTo positions last
EndsAs (Some (audits engine filters)) files last old new = ⊥

-- It found the engine's file taken by another run, or by one of other texts, or the number used. (No rehearsal does: see
-- `MayEndSo`.)
abbrev pub EndsAsAnother : Option Asked → Files → SiteView → SiteView → Type 0
EndsAsAnother asked files old new =
    ((held : ℕ) × (number : ℕ) × EndsAs asked files (other_run held number) old new)
    ⊎ (((index : ℕ) × EndsAs asked files (other_book index) old new)
    ⊎ ((agent : ℕ) × EndsAs asked files (run_used agent) old new))

-- It waits for a moment, or for an operator's answer. (No rehearsal does.)
abbrev pub EndsAsWaiting : Option Asked → Files → SiteView → SiteView → Type 0
EndsAsWaiting asked files old new = (moment : ℕ) × EndsAs asked files (waiting moment) old new

abbrev pub EndsAsAsked : Option Asked → Files → SiteView → SiteView → Type 0
EndsAsAsked asked files old new = (issue : ℕ) × EndsAs asked files (asked_for issue) old new

-- a file of the words has no reading, and all are there within their limits
abbrev pub IsUnreadable : Option Asked → Files → Type 0
IsUnreadable None files = ⊥
IsUnreadable (Some (canonises book)) files =
    AllWithin files (files_of (Some (canonises book))) × SomeTreeless files (files_of (Some (canonises book)))
IsUnreadable (Some (checks books)) files =
    AllWithin files (files_of (Some (checks books))) × SomeTreeless files (files_of (Some (checks books)))
IsUnreadable (Some (runs wanted)) files =
    (texts : List NamedText) × HasTexts files wanted texts
    × (LacksTree (trees_wanted wanted texts) ⊎ HasBadAnswer (start_of wanted texts))
IsUnreadable (Some shows) files = ⊥
IsUnreadable (Some (lists_rules agent)) files = ⊥
IsUnreadable (Some (decides agent packets)) files = IsWithin files (packet_file packets) × HasBadLine files (packet_file packets)
IsUnreadable (Some (shadows agent)) files = ⊥
IsUnreadable (Some (rehearses positions)) files = ⊥
IsUnreadable (Some (audits engine filters)) files = ⊥

-- a rule is broken, by playbooks each of which is there within its limit and has a tree
pub record BreaksRule (files : Files) (list : List File) (mode : Mode) : Type 0 where
  pub roots : List Data
  pub trees : Trees files list roots
  pub broken : IsBroken roots mode

abbrev pub IsRefused : Option Asked → Files → Type 0
IsRefused None files = ⊥
IsRefused (Some (canonises book)) files = ⊥
IsRefused (Some (checks books)) files =
    (has_too_many (checks books) ≡ false) × BreaksRule files (files_of (Some (checks books))) Read
IsRefused (Some (runs wanted)) files =
    (texts : List NamedText) × HasTexts files wanted texts × HasTrees wanted texts × IsRefusedStart (start_of wanted texts)
IsRefused (Some shows) files = ⊥
IsRefused (Some (lists_rules agent)) files = ⊥
IsRefused (Some (decides agent packets)) files = ⊥
IsRefused (Some (shadows agent)) files = ⊥
IsRefused (Some (rehearses positions)) files = IsBrokenRehearsal positions
IsRefused (Some (audits engine filters)) files = ⊥

-- The words name too many playbooks, or the first file that is not there within its limit is longer than that. (A rehearsal names
-- none, and its playbook is never too long.)
abbrev pub NamesTooMuch : Option Asked → Files → Type 0
NamesTooMuch None files = ⊥
NamesTooMuch (Some command) files = (has_too_many command ≡ true) ⊎ IsTooLong files (files_of (Some command))

-- a quantity passes its limit
abbrev pub IsPastLimit : Option Asked → Files → SiteView → SiteView → Type 0
IsPastLimit None files old new = ⊥
IsPastLimit (Some (canonises book)) files old new =
    (has_too_many (canonises book) ≡ true) ⊎ IsTooLong files (files_of (Some (canonises book)))
IsPastLimit (Some (checks books)) files old new =
    (has_too_many (checks books) ≡ true) ⊎ IsTooLong files (files_of (Some (checks books)))
IsPastLimit (Some (runs wanted)) files old new =
    ((has_too_many (runs wanted) ≡ true) ⊎ IsTooLong files (files_of (Some (runs wanted))))
    ⊎ ((limit : Limit) × SessionTo wanted files (past limit) old new)
IsPastLimit (Some shows) files old new = IsTooLargeRun new
IsPastLimit (Some (lists_rules agent)) files old new = ⊥
IsPastLimit (Some (decides agent packets)) files old new = IsTooLong files (files_of (Some (decides agent packets)))
IsPastLimit (Some (shadows agent)) files old new = ⊥
IsPastLimit (Some (rehearses positions)) files old new = (limit : Limit) × RehearsalTo positions (past limit)
IsPastLimit (Some (audits engine filters)) files old new =
    IsTooLong files (files_of (Some (audits engine filters))) ⊎ IsAuditOf files engine filters PassTasks

-- no rule is broken, by playbooks each of which is there within its limit and has a tree
pub record KeepsRules (files : Files) (list : List File) (mode : Mode) : Type 0 where
  pub roots : List Data
  pub trees : Trees files list roots
  pub accepted : IsAccepted roots mode

-- the command can do its work to the end
abbrev pub CanBeDone : Option Asked → Files → SiteView → SiteView → Type 0
CanBeDone None files old new = ⊥
CanBeDone (Some (canonises book)) files old new = (root : Data) × Trees files (files_of (Some (canonises book))) (root ∷ [])
CanBeDone (Some (checks books)) files old new =
    (has_too_many (checks books) ≡ false) × KeepsRules files (files_of (Some (checks books))) Read
CanBeDone (Some (runs wanted)) files old new = SessionTo wanted files ended_ok old new
CanBeDone (Some shows) files old new = HoldsRun new
CanBeDone (Some (lists_rules agent)) files old new = HoldsFilter agent new
CanBeDone (Some (decides agent packets)) files old new = IsPacketFile files (packet_file packets) × HoldsFilter agent new
CanBeDone (Some (shadows agent)) files old new = HoldsFilter agent new
CanBeDone (Some (rehearses positions)) files old new =
    (records : ℕ) × (acts : ℕ) × (rules : ℕ) × RehearsalTo positions (rehearsed positions records acts rules)
CanBeDone (Some (audits engine filters)) files old new = IsAuditOf files engine filters FilesAgree

-- The file of the disk that the command opens holds nothing that the program wrote, and nothing else stops the command before.
-- (The files of the site of a rehearsal are blank.)
abbrev pub FindsItDamaged : Option Asked → Files → SiteView → SiteView → Type 0
FindsItDamaged None files old new = ⊥
FindsItDamaged (Some (canonises book)) files old new = ⊥
FindsItDamaged (Some (checks books)) files old new = ⊥
FindsItDamaged (Some (runs wanted)) files old new = (file : ℕ) × (place : ℕ) × SessionTo wanted files (damaged file place) old new
FindsItDamaged (Some shows) files old new = IsDamagedRun new
FindsItDamaged (Some (lists_rules agent)) files old new = IsDamagedFilter agent new
FindsItDamaged (Some (decides agent packets)) files old new = IsPacketFile files (packet_file packets) × IsDamagedFilter agent new
FindsItDamaged (Some (shadows agent)) files old new = IsDamagedFilter agent new
FindsItDamaged (Some (rehearses positions)) files old new = ⊥
FindsItDamaged (Some (audits engine filters)) files old new = ⊥

-- the files of a run do not agree
abbrev pub FindsDisagreement : Option Asked → Files → Type 0
FindsDisagreement None files = ⊥
FindsDisagreement (Some (canonises book)) files = ⊥
FindsDisagreement (Some (checks books)) files = ⊥
FindsDisagreement (Some (runs wanted)) files = ⊥
FindsDisagreement (Some shows) files = ⊥
FindsDisagreement (Some (lists_rules agent)) files = ⊥
FindsDisagreement (Some (decides agent packets)) files = ⊥
FindsDisagreement (Some (shadows agent)) files = ⊥
FindsDisagreement (Some (rehearses positions)) files = ⊥
FindsDisagreement (Some (audits engine filters)) files = IsAuditOf files engine filters Disagree
