-- Promise: What reading gives: the one value in range whose layout the bytes are.
use Rattle.std.specs.Prelude.{ℕ, List, [], ◌∷◌, length, Option, Some, None, nat_le, ◌==◌, if◌then◌else◌}
use Rattle.std.specs.Int.{w16, w32, w64}
use Rattle.run_records.specs.declared.record.Record.{Record}
use Rattle.run_records.specs.declared.record.Record.TheVariants.{Begin, Walk, Send, Reply, Expire, Upgrade, Ask, Told}
use Rattle.run_records.specs.declared.act.Act.{Act}
use Rattle.std.specs.Borrow.{Bor}
use Rattle.run_records.specs.Ranges.{most_text, most_status_text, last_moment}
use Rattle.run_records.specs.Fields.{◌>>=◌, number_at, small_at, string_at, text_at, strings_at}

-- the value, if no bytes are left
abbrev pub at_end : {A : Type 0} → List ℕ → A → Option A
at_end rest value = if length rest == 0 then Some value else None

-- each kind of record, from the bytes behind its tag
unfoldable pub begin_at : List ℕ → Option Record
begin_at bytes = do
  run ← number_at w64 bytes
  moment ← number_at w64 run.1
  count ← small_at moment.1
  books ← strings_at count.0 count.1
  bind ← string_at most_text books.1
  at_end bind.1 (Begin run.0 moment.0 books.0 bind.0)

unfoldable pub walk_at : List ℕ → Option Record
walk_at bytes = do
  task ← number_at w32 bytes
  moment ← number_at w64 task.1
  at_end moment.1 (Walk task.0 moment.0)

unfoldable pub send_at : List ℕ → Option Record
send_at bytes = do
  task ← number_at w32 bytes
  issue ← number_at w32 task.1
  agent ← small_at issue.1
  moment ← number_at w64 agent.1
  command ← string_at most_text moment.1
  at_end command.1 (Send task.0 issue.0 agent.0 moment.0 command.0)

unfoldable pub reply_at : List ℕ → Option Record
reply_at bytes = do
  issue ← number_at w32 bytes
  moment ← number_at w64 issue.1
  status ← number_at w16 moment.1
  rule ← number_at w32 status.1
  text ← text_at most_status_text rule.1
  at_end text.1 (Reply issue.0 moment.0 status.0 rule.0 text.0)

unfoldable pub expire_at : List ℕ → Option Record
expire_at bytes = do
  issue ← number_at w32 bytes
  moment ← number_at w64 issue.1
  at_end moment.1 (Expire issue.0 moment.0)

-- the one version is 2
unfoldable pub upgrade_at : List ℕ → Option Record
upgrade_at [] = None
upgrade_at (version ∷ bytes) =
    if version == 2 then (number_at w64 bytes >>= λ moment. at_end moment.1 (Upgrade version moment.0)) else None

unfoldable pub ask_at : List ℕ → Option Record
ask_at bytes = do
  task ← number_at w32 bytes
  issue ← number_at w32 task.1
  moment ← number_at w64 issue.1
  text ← text_at most_text moment.1
  at_end text.1 (Ask task.0 issue.0 moment.0 text.0)

unfoldable pub told_at : List ℕ → Option Record
told_at bytes = do
  issue ← number_at w32 bytes
  moment ← number_at w64 issue.1
  status ← number_at w16 moment.1
  text ← text_at most_status_text status.1
  at_end text.1 (Told issue.0 moment.0 status.0 text.0)

unfoldable pub record_of : List ℕ → Option Record
record_of [] = None
record_of (tag ∷ bytes) =
    if tag == 1 then begin_at bytes
    else (if tag == 2 then walk_at bytes
    else (if tag == 3 then send_at bytes
    else (if tag == 4 then reply_at bytes
    else (if tag == 5 then expire_at bytes
    else (if tag == 6 then upgrade_at bytes
    else (if tag == 7 then ask_at bytes
    else (if tag == 8 then told_at bytes else None)))))))

unfoldable pub act_at : List ℕ → Option Act
act_at bytes = do
  run ← number_at w64 bytes
  issue ← number_at w32 run.1
  moment ← number_at w64 issue.1
  command ← string_at most_text moment.1
  reply ← string_at most_text command.1
  if nat_le moment.0 last_moment
      then at_end reply.1 (record {
        run = run.0;
        issue = issue.0;
        moment = moment.0;
        command = command.0;
        reply = reply.0;
      }) else None

unfoldable pub act_of : List ℕ → Option Act
act_of [] = None
act_of (tag ∷ bytes) = if tag == 16 then act_at bytes else None

-- what the code has of the fields of a record with a text, and of an act
abbrev pub sent : ℕ × ℕ × ℕ × ℕ × Bor (List ℕ) → Record
sent x = Send x.0 x.1 x.2 x.3 x.4.now

abbrev pub replied : ℕ × ℕ × ℕ × ℕ × Bor (List ℕ) → Record
replied x = Reply x.0 x.1 x.2 x.3 x.4.now

abbrev pub asked : ℕ × ℕ × ℕ × Bor (List ℕ) → Record
asked x = Ask x.0 x.1 x.2 x.3.now

abbrev pub told : ℕ × ℕ × ℕ × Bor (List ℕ) → Record
told x = Told x.0 x.1 x.2 x.3.now

abbrev pub acted : ℕ × ℕ × ℕ × Bor (List ℕ) × Bor (List ℕ) → Act
acted x = record { run = x.0; issue = x.1; moment = x.2; command = x.3.now; reply = x.4.now }
