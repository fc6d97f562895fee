-- Agreement is kept where a record's line is said.
use Rattle.std.proofs.Common.{◌≡◌, inl, inr, ℕ, List, sym, subst, arith}
use Rattle.std.specs.Prelude.{Some, None}
use Rattle.cacao_site.specs.declared.parcel.Parcel.{Parcel}
use Rattle.run_records.specs.declared.record.Record.{Record}
use Rattle.flow_laws.specs.Agree.{CommandsAreSent}
use Rattle.flow_laws.specs.Held.{IsLineOf}
use Rattle.flow_laws.specs.Beats.{LineIsSaid}
use Rattle.flow_laws.proofs.OneList.{same_records}
use Rattle.flow_laws.proofs.Shrink.{good_shrinks, past_open, own_before, all_among}

pub line_is_said : LineIsSaid
line_is_said speech first earlier early later late line says good held =
    let images = all_among speech None (Some line) earlier early later late says.only in (
      good_shrinks earlier early later late images says.only.puts good,
      record {
        lines = λ image records left stands bytes said is_line.
            let was = images 0 (omega arith) image left in
            elim (says.only.lines image records left stands bytes is_line said) [
              | inl new ↦
                  let there = says.stands image was in
                  let one : there.records ≡ records = same_records image there.records records there.are stands in
                  subst (λ (b : List ℕ). IsLineOf speech records b) (sym new) (subst (λ (l : List Record). IsLineOf speech l line) one there.so)
              | inr old ↦ held.lines image records was stands bytes old is_line
            ];
        sent = λ image records left stands. subst (λ (p : List (ℕ × Parcel)). CommandsAreSent records p) (sym says.only.puts) (held.sent image records (images 0 (omega arith) image left) stands);
        none_while_empty = λ image left empty at parcel own.
            held.none_while_empty image (images 0 (omega arith) image left) empty at parcel (own_before speech first earlier early later late says.only.puts at parcel own);
        was_open = λ at parcel own.
            past_open speech first earlier early later says.only.past held at parcel (own_before speech first earlier early later late says.only.puts at parcel own);
      },
    )
