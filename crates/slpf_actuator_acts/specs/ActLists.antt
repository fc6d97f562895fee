-- Promise: The acts that a filter holds, and which may follow.
use Rattle.std.specs.Prelude.{◌≡◌, ◌≢◌, ℕ, ◌+◌, ◌≤◌, List, [], ◌∷◌, map, length, All, Contains, Some}
use Rattle.std.specs.List.{AllByRecursion}
use Rattle.oc2_msg.specs.declared.answers.Answer.{Answer}
use Rattle.oc2_msg.specs.Responses.{answer}
use Rattle.run_journal.specs.Layout.{front}
use Rattle.run_records.specs.declared.act.Act.{Act}
use Rattle.run_records.specs.Layout.{act_layout}
use Rattle.run_records.specs.Ranges.{ActInRange}
use Rattle.slpf_rules_acts.specs.Acts.{AreActs, IsReplied}

-- the acts that a filter holds: they are acts of one filter, their fields lie in their ranges, and they can be counted
pub record IsHistory (acts : List Act) : Type 0 where
  pub are : AreActs acts
  pub ranges : AllByRecursion ActInRange acts
  pub few : length acts ≤ 4_294_967_295

-- no act has this run and issue
abbrev pub IsNew : List Act → ℕ → ℕ → Type 0
IsNew acts run issue = All (λ (act : Act). act.run ≡ run → act.issue ≢ issue) acts

-- one act has this run and issue
pub record HasActed (acts : List Act) (run issue : ℕ) (act : Act) : Type 0 where
  pub has : Contains acts act
  pub of_run : act.run ≡ run
  pub of_issue : act.issue ≡ issue

-- the act may follow these
pub record MayFollow (acts : List Act) (act : Act) : Type 0 where
  pub is_new : IsNew acts act.run act.issue
  pub replied : IsReplied acts act

-- the moment of the last act, or this one where there is none
abbrev pub last_of : ℕ → List Act → ℕ
last_of moment [] = moment
last_of moment (act ∷ acts) = last_of act.moment acts

abbrev pub moment_of_last : List Act → ℕ
moment_of_last acts = last_of 0 acts

-- the entries of a filter's file
abbrev pub entries_of : List Act → List (List ℕ)
entries_of acts = map act_layout acts

-- how many bytes the file has with one act more, up to its closed gate and with it
abbrev pub length_with : List Act → Act → ℕ
length_with acts act = length (front (entries_of acts)) + 6 + length (act_layout act)

-- bytes that read as a response with a status other than 102, and at most 1,048,576 of them
pub record IsFinalReply (bytes : List ℕ) : Type 0 where
  pub read : Answer
  pub reads : answer bytes ≡ Some read
  pub final : read.status ≢ 102
  pub short : length bytes ≤ 1_048_576
