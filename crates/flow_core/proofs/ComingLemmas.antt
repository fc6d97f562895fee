-- What the record of a move changes.
use Rattle.std.proofs.Common.{◌≡◌, ℕ, ◌==◌, ◌&&◌, Bool, true, cond, List, length, Option, Some, None, ap, sym, ◌∙◌}
use Rattle.std.specs.Prelude.{option_and_then, option_map}
use Rattle.std.specs.Str.{bytes_eq}
use Rattle.run_records.specs.declared.record.Record.{Record}
use Rattle.run_records.specs.declared.record.Record.TheVariants as entry
use Rattle.flow_core_rules.specs.declared.moves.Move.{Move}
use Rattle.flow_core_rules.specs.declared.moves.Move.TheVariants as move
use Rattle.flow_core_rules.specs.Changes.{Issuing, change, is_in_time, next_command, send}
use Rattle.flow_core_rules.specs.Edits.{Edit}
use Rattle.flow_core_rules.specs.Moves.{record_of}
use Rattle.flow_core_rules.specs.State.{Shown}
use Rattle.flow_core_rules.proofs.MoveLemmas.{same_bytes, same_number, three}
use Rattle.flow_core.specs.Views.{View, taken, taken_by}

-- ---- what a run that has begun issues next

module _ (s : Shown) (now t : ℕ) where
  abbrev sent_as : Issuing → Record
  sent_as made = entry.Send t (length s.lists.issues) (made.0).agent now (made.0).bytes

  pub sent : (made : Issuing) → is_in_time s now ≡ true → next_command s now t ≡ Some made → option_and_then (change s) (record_of s now (move.Send t)) ≡ Some made.1
  sent made timely is =
      ap (λ (o : Option Issuing). option_and_then (change s) (option_map sent_as o)) is
      ∙ ap (λ (b : Bool). cond b (send s now t (length s.lists.issues) (made.0).agent (made.0).bytes) None) timely
      ∙ ap (option_and_then (λ (m : Issuing). cond ((length s.lists.issues == length s.lists.issues) && ((made.0).agent == (m.0).agent) && bytes_eq (made.0).bytes (m.0).bytes) (Some m.1) None)) is
      ∙ ap (λ (b : Bool). cond b (Some made.1) None)
      (three (length s.lists.issues == length s.lists.issues) ((made.0).agent == (made.0).agent) (bytes_eq (made.0).bytes (made.0).bytes)
      (same_number (length s.lists.issues)) (same_number (made.0).agent) (same_bytes (made.0).bytes))

-- ---- what a flow takes

-- what the record of a move changes is what it changes as a record
pub taken_made : (v : View) (now : ℕ) (m : Move) (r : Record) (edits : List Edit) → record_of v.seen now m ≡ Some r → taken_by v now m ≡ Some edits → taken v r ≡ Some edits
taken_made v now m r edits made is = sym (ap (option_and_then (taken v)) made) ∙ is
