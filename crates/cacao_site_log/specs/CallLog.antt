-- Promise: What a `CallLog` holds.
use Rattle.std.specs.Prelude.{◌≤◌, All, vec_len, vec_capacity}
use Rattle.cacao_site_log.specs.declared.call_log.CallLog.TheInside.{Inside}
use Rattle.cacao_site_log.specs.Entries.{calls_of, FitsIn}
use Rattle.cacao_site_log.specs.LogView.{LogView}
use Rattle.cacao_site_log.specs.SaidLines.{lines_of, LiesIn}

abbrev pub log_view : Inside → LogView
log_view a = record {
  calls = calls_of a.bytes.items a.entries.items;
  lines = lines_of a.bytes.items a.lines.items;
  used = vec_len a.bytes;
  room = a.room;
  most = a.most;
  most_lines = a.most_lines;
}

pub record IsKept (a : Inside) : Type 0 where
  pub fits : All (FitsIn (vec_len a.bytes)) a.entries.items
  pub in_bytes : All (LiesIn (vec_len a.bytes)) a.lines.items
  pub byte_room : a.room ≤ vec_capacity a.bytes
  pub entry_room : a.most ≤ vec_capacity a.entries
  pub line_room : a.most_lines ≤ vec_capacity a.lines
