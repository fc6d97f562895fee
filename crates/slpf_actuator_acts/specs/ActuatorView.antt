-- Promise: What contracts see of a filter.
use Rattle.std.specs.Prelude.{◌≡◌, ℕ, ◌≤◌, max, Bool, true, false, List}
use Rattle.cacao_site.specs.declared.parcel.Parcel.{Parcel}
use Rattle.cacao_site.specs.DiskCalls.{AllLeft}
use Rattle.cacao_site.specs.View.{SiteView}
use Rattle.run_journal.specs.Durable.{IsImage}
use Rattle.run_journal.specs.JournalView.{JournalView}
use Rattle.run_journal.specs.Layout.{Stands}
use Rattle.run_records.specs.declared.act.Act.{Act}
use Rattle.slpf_rules_acts.specs.Acts.{reply_text, table_of}
use Rattle.slpf_actuator_acts.specs.ActLists.{IsHistory, entries_of, moment_of_last}

pub record ActuatorView : Type 0 where
  pub agent : ℕ  -- its number, which is that of its file
  pub acts : List Act
  pub prepared : Bool  -- whether the header need not be written any more
  pub broken : Bool  -- whether a call of `handle` was refused

-- the filter of a journal and its acts, as long as no call was refused
abbrev pub view_over : JournalView → List Act → ActuatorView
view_over journal acts = record { agent = journal.file; acts = acts; prepared = journal.prepared; broken = false }

-- the image stands for the acts
abbrev pub HoldsActs : List Act → List ℕ → Type 0
HoldsActs acts image = Stands image (entries_of acts)

-- what holds of a filter and of its file between its calls
pub record IsReady (v : ActuatorView) (site : SiteView) : Type 0 where
  pub low : 1 ≤ v.agent
  pub high : v.agent ≤ 16
  pub history : IsHistory v.acts
  pub images : v.broken ≡ false → AllLeft v.agent site.disk (IsImage v.prepared (entries_of v.acts))

-- the moment of the next act: the one handed in, or that of the last act, if it is greater
abbrev pub moment_for : List Act → ℕ → ℕ
moment_for acts moment = max moment (moment_of_last acts)

-- the act on a command: its run, its issue and its bytes, with the reply of the table
abbrev pub act_for : List Act → Parcel → ℕ → Act
act_for acts parcel moment = record {
  run = parcel.run;
  issue = parcel.issue;
  moment = moment_for acts moment;
  command = parcel.bytes;
  reply = reply_text (table_of acts) parcel.bytes (moment_for acts moment);
}

-- what the filter of an agent sends back for a command
abbrev pub reply_parcel_of : ℕ → Parcel → List ℕ → Parcel
reply_parcel_of agent parcel bytes =
    record { agent = agent; back = true; run = parcel.run; issue = parcel.issue; bytes = bytes }
