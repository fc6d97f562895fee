-- A command was put, a line was said, or nothing, at the engine's end.
use Rattle.std.proofs.Common.{◌≡◌, inl, inr, ℕ, List, sym, ◌∙◌, subst, ap, arith}
use Rattle.std.specs.Prelude.{drop, Contains, Some, None}
use Rattle.cacao_site.specs.declared.parcel.Parcel.{Parcel}
use Rattle.run_records.specs.declared.record.Record.{Record}
use Rattle.flow_laws.specs.Agree.{CommandsAreSent}
use Rattle.flow_laws.specs.Held.{IsLineOf, plain}
use Rattle.flow_laws.specs.Images.{puts_of, puts_to}
use Rattle.flow_laws.proofs.Basics.{in_drop_more, same_entry}
use Rattle.flow_laws.proofs.OneList.{same_records}
use Rattle.flow_laws.proofs.Puts.{held_command}
use Rattle.flow_laws.proofs.Shrink.{all_among, held_shrinks, own_before, past_open, same_lines}
use Rattle.oc2_wire_laws.specs.EngineBeats.{CommandIsKept, LineIsKept, ShrunkIsKept}

pub shrunk_is_kept : ShrunkIsKept
shrunk_is_kept start run got earlier early later late only keeps =
    let among = all_among plain None None earlier early later late only 0 (omega arith) in
    record {
      journal = λ image left. keeps.journal image (among image left);
      held = held_shrinks plain (puts_of start) earlier early later late only.past among only.puts (same_lines plain None None earlier early later late only) keeps.held;
      only_commands = λ at p has. keeps.only_commands at p (subst (λ (l : List (ℕ × Parcel)). Contains (drop (puts_of start) l) (at, p)) only.puts has);
    }

pub command_is_kept : CommandIsKept
command_is_kept parcel start run got earlier early later late puts keeps =
    let among = all_among plain (Some parcel) None earlier early later late puts.only 0 (omega arith) in
    record {
      journal = λ image left. keeps.journal image (among image left);
      held = held_command plain (puts_of start) earlier early later late parcel puts keeps.held;
      only_commands = λ at p has. elim (in_drop_more (puts_of start) (puts_to earlier early) (late, parcel) (at, p)
          (subst (λ (l : List (ℕ × Parcel)). Contains (drop (puts_of start) l) (at, p)) puts.only.puts has)) [
            | inl old ↦ keeps.only_commands at p old
            | inr new ↦ ap (λ (q : Parcel). q.back) (sym (same_entry new)) ∙ puts.command
          ];
    }

pub line_is_kept : LineIsKept
line_is_kept line start run got earlier early later late says keeps =
    let among = all_among plain None (Some line) earlier early later late says.only 0 (omega arith) in
    record {
      journal = λ image left. keeps.journal image (among image left);
      held = record {
        lines = λ image records left stands bytes said is_line.
            let was = among image left in
            elim (says.only.lines image records left stands bytes is_line said) [
              | inl new ↦
                  let there = says.stands image was in
                  let one : there.records ≡ records = same_records image there.records records there.are stands in
                  subst (λ (b : List ℕ). IsLineOf plain records b) (sym new) (subst (λ (l : List Record). IsLineOf plain l line) one there.so)
              | inr old ↦ keeps.held.lines image records was stands bytes old is_line
            ];
        sent = λ image records left stands. subst (λ (p : List (ℕ × Parcel)). CommandsAreSent records p) (sym says.only.puts) (keeps.held.sent image records (among image left) stands);
        none_while_empty = λ image left empty at parcel own.
            keeps.held.none_while_empty image (among image left) empty at parcel (own_before plain (puts_of start) earlier early later late says.only.puts at parcel own);
        was_open = λ at parcel own.
            past_open plain (puts_of start) earlier early later says.only.past keeps.held at parcel (own_before plain (puts_of start) earlier early later late says.only.puts at parcel own);
      };
      only_commands = λ at p has. keeps.only_commands at p (subst (λ (l : List (ℕ × Parcel)). Contains (drop (puts_of start) l) (at, p)) says.only.puts has);
    }
