-- Promise: The ranges of the fields of records and acts.
use Rattle.std.specs.Prelude.{◌≡◌, ℕ, ◌<◌, ◌≤◌, ◌^◌, List, length, IsUtf8}
use Rattle.std.specs.List.{AllByRecursion}
use Rattle.run_records.specs.declared.record.Record.{Record}
use Rattle.run_records.specs.declared.record.Record.TheVariants.{Begin, Walk, Send, Reply, Expire, Upgrade, Ask, Told}
use Rattle.run_records.specs.declared.act.Act.{Act}

-- the most bytes of a canonical text, a command or a reply
abbrev pub most_text : ℕ
most_text = 1_048_576

-- the most bytes of a status text
abbrev pub most_status_text : ℕ
most_status_text = 4_096

-- the last moment of an act
abbrev pub last_moment : ℕ
last_moment = 9_000_000_000_000_000

-- a text of at most that many bytes
abbrev pub IsShort : List ℕ → Type 0
IsShort text = length text ≤ most_text

pub record BeginsInRange (run moment : ℕ) (books : List (List ℕ)) (bind : List ℕ) : Type 0 where
  pub run_fits : run < 2 ^ 64
  pub moment_fits : moment < 2 ^ 64
  pub some_book : 1 ≤ length books
  pub few_books : length books ≤ 16
  pub short_books : AllByRecursion IsShort books
  pub short_bind : IsShort bind

pub record SendsInRange (task issue agent moment : ℕ) (bytes : List ℕ) : Type 0 where
  pub task_fits : task < 2 ^ 32
  pub issue_fits : issue < 2 ^ 32
  pub some_agent : 1 ≤ agent
  pub last_agent : agent ≤ 16
  pub moment_fits : moment < 2 ^ 64
  pub short_bytes : IsShort bytes

pub record RepliesInRange (issue moment status rule : ℕ) (text : List ℕ) : Type 0 where
  pub issue_fits : issue < 2 ^ 32
  pub moment_fits : moment < 2 ^ 64
  pub status_fits : status < 2 ^ 16
  pub rule_fits : rule < 2 ^ 32
  pub short_text : length text ≤ most_status_text
  pub text_is_utf8 : IsUtf8 text

pub record AsksInRange (task issue moment : ℕ) (text : List ℕ) : Type 0 where
  pub task_fits : task < 2 ^ 32
  pub issue_fits : issue < 2 ^ 32
  pub moment_fits : moment < 2 ^ 64
  pub short_text : IsShort text
  pub text_is_utf8 : IsUtf8 text

pub record TellsInRange (issue moment status : ℕ) (text : List ℕ) : Type 0 where
  pub issue_fits : issue < 2 ^ 32
  pub moment_fits : moment < 2 ^ 64
  pub status_fits : status < 2 ^ 16
  pub short_text : length text ≤ most_status_text
  pub text_is_utf8 : IsUtf8 text

-- the fields of a record lie in their ranges; the one version is 2
abbrev pub InRange : Record → Type 0
InRange (Begin run moment books bind) = BeginsInRange run moment books bind
InRange (Walk task moment) = (task < 2 ^ 32) × (moment < 2 ^ 64)
InRange (Send task issue agent moment bytes) = SendsInRange task issue agent moment bytes
InRange (Reply issue moment status rule text) = RepliesInRange issue moment status rule text
InRange (Expire issue moment) = (issue < 2 ^ 32) × (moment < 2 ^ 64)
InRange (Upgrade version moment) = (version ≡ 2) × (moment < 2 ^ 64)
InRange (Ask task issue moment bytes) = AsksInRange task issue moment bytes
InRange (Told issue moment status text) = TellsInRange issue moment status text

-- the fields of an act lie in their ranges
pub record ActInRange (a : Act) : Type 0 where
  pub run_fits : a.run < 2 ^ 64
  pub issue_fits : a.issue < 2 ^ 32
  pub moment_fits : a.moment ≤ last_moment
  pub short_command : IsShort a.command
  pub short_reply : IsShort a.reply
