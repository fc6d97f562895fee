-- The laws of wires.
use Rattle.std.proofs.Common.{◌≡◌, ◌∙◌, ℕ, Bool, List, ◌++◌, length, Option, Some, ap, sym, subst, arith}
use Rattle.std.specs.Prelude.{map}
use Rattle.std.proofs.Math.Logic.{∥∥₁_map}
use Rattle.std.proofs.Math.Seq.{drop-append_seam}
use Rattle.std.proofs.lemmas.List.{append_assoc, append_cancel_left}
use Rattle.cacao_site.specs.LinkCalls.{GainsAll}
use Rattle.cacao_site.specs.declared.parcel.Parcel.{Parcel}
use Rattle.oc2_wire_link.specs.Links.{Comes}
use Rattle.oc2_wire_lines.specs.Lines.{AreLines}
use Rattle.oc2_wire_lines.proofs.LinesCut.{lines_are_cut_one_way, lines_stay}
use Rattle.oc2_wire_site.specs.LineLinks.{LinesView}
use Rattle.oc2_wire_site.specs.Marks.{WireMark}
use Rattle.oc2_wire_site.specs.ReadLines.{GainsTold, HasRead, HasSent, LinesGoOn, MarkedKeepLines, count_told, parcels_behind}
use Rattle.oc2_wire_site.proofs.MarkLemmas.{IsSameMark, same_end, same_mark}

-- ---- from another beginning that is the same

read_from : (asking : Bool) (since other now : LinesView) (ps : List Parcel) → since.link.received ≡ other.link.received → since.link.to_come ≡ other.link.to_come → since.unread ≡ other.unread → since.passed ≡ other.passed
    → HasRead asking since now ps → HasRead asking other now ps
read_from asking since other now ps received to_come unread passed held = record {
  read = held.read;
  lines = record {
    came = held.lines.came;
    received = subst (λ (o : Option (List ℕ)). GainsAll o held.lines.came now.link.received) received held.lines.received;
    to_come = subst (λ (o : Option (List ℕ)). Comes o held.lines.came now.link.to_come) to_come held.lines.to_come;
    are = subst (λ (l : List ℕ). AreLines (l ++ held.lines.came) held.read now.unread) unread held.lines.are;
  };
  carry = held.carry;
  passed = omega (arith, held.passed, passed);
}

sent_from : (since other now : LinesView) (ps : List Parcel) → since.link.sent ≡ other.link.sent → HasSent since now ps → HasSent other now ps
sent_from since other now ps same held = record {
  front = held.front;
  behind = held.behind;
  is = held.is;
  sent = subst (λ (o : Option (List ℕ)). GainsAll o held.front now.link.sent) same held.sent;
  all = held.all;
}

-- ---- a wire that was marked

-- the parcels behind those that it had at its mark
behind_told : (old new : Option (List (ℕ × Parcel))) (more : List (ℕ × Parcel)) (n : ℕ) → n ≡ count_told old → GainsTold old new more → parcels_behind n new ≡ map (λ (e : ℕ × Parcel). e.1) more
behind_told old new more n is gains =
    let count : n ≡ length gains.before = is ∙ ap count_told gains.was in
    ap (λ (o : Option (List (ℕ × Parcel))). parcels_behind n o) gains.is
    ∙ ap (λ (k : ℕ). parcels_behind k (Some (gains.before ++ more))) count
    ∙ ap (λ (l : List (ℕ × Parcel)). map (λ (e : ℕ × Parcel). e.1) l) (drop-append_seam gains.before more)

pub marked_keep_lines : MarkedKeepLines
marked_keep_lines old new taken puts was is marked label gains_taken gains_puts =
    let labels = sym is.label ∙ label ∙ was.label in
    let end : new.asking ≡ old.asking = same_end new.asking old.asking new.mark old.mark is.beneath was.beneath labels in
    let same : IsSameMark new.mark old.mark = same_mark new.asking old.asking new.mark old.mark is.beneath was.beneath labels in
    let lines : old.mark.lines ≡ old.lines = ap (λ (m : WireMark). m.lines) marked in
    let got : parcels_behind new.mark.taken new.site.link.taken ≡ map (λ (e : ℕ × Parcel). e.1) taken =
    behind_told old.site.link.taken new.site.link.taken taken new.mark.taken (same.taken ∙ ap (λ (m : WireMark). m.taken) marked) gains_taken in
    let put : parcels_behind new.mark.puts new.site.link.puts ≡ map (λ (e : ℕ × Parcel). e.1) puts =
    behind_told old.site.link.puts new.site.link.puts puts new.mark.puts (same.puts ∙ ap (λ (m : WireMark). m.puts) marked) gains_puts in
    record {
      asking = end;
      read = ∥∥₁_map is.read (λ held.
          let here = read_from new.asking new.mark.lines old.lines new.lines (parcels_behind new.mark.taken new.site.link.taken)
          (same.received ∙ ap (λ (l : LinesView). l.link.received) lines) (same.to_come ∙ ap (λ (l : LinesView). l.link.to_come) lines)
          (same.unread ∙ ap (λ (l : LinesView). l.unread) lines) (same.passed ∙ ap (λ (l : LinesView). l.passed) lines) held in
          let there = subst (λ (ps : List Parcel). HasRead new.asking old.lines new.lines ps) got here in
          subst (λ (b : Bool). HasRead b old.lines new.lines (map (λ (e : ℕ × Parcel). e.1) taken)) end there);
      sent = λ asks. ∥∥₁_map (is.sent (end ∙ asks)) (λ held.
          let here = sent_from new.mark.lines old.lines new.lines (parcels_behind new.mark.puts new.site.link.puts) (same.sent ∙ ap (λ (l : LinesView). l.link.sent) lines) held in
          subst (λ (ps : List Parcel). HasSent old.lines new.lines ps) put here);
    }

-- ---- an earlier and a later moment

came_told : (since now : Option (List ℕ)) (was is came : List ℕ) → since ≡ Some was → now ≡ Some is → GainsAll since came now → is ≡ was ++ came
came_told since now was is came told_was told_is gains =
    subst (λ (o : Option (List ℕ)). GainsAll (Some was) came o) told_is (subst (λ (o : Option (List ℕ)). GainsAll o came now) told_was gains)

pub lines_go_on : LinesGoOn
lines_go_on asking since now later got more early late was is came told_was told_is told_later le =
    let first : is ≡ was ++ early.lines.came = came_told since.link.received now.link.received was is early.lines.came told_was told_is early.lines.received in
    let second : is ++ came ≡ was ++ late.lines.came = came_told since.link.received later.link.received was (is ++ came) late.lines.came told_was told_later late.lines.received in
    let whole : was ++ (early.lines.came ++ came) ≡ was ++ late.lines.came = sym (append_assoc was early.lines.came came) ∙ ap (λ (l : List ℕ). l ++ came) (sym first) ∙ second in
    let behind : early.lines.came ++ came ≡ late.lines.came = append_cancel_left was (early.lines.came ++ came) late.lines.came whole in
    let bytes : (since.unread ++ early.lines.came) ++ came ≡ since.unread ++ late.lines.came =
    append_assoc since.unread early.lines.came came ∙ ap (λ (l : List ℕ). since.unread ++ l) behind in
    let stays = lines_stay (since.unread ++ early.lines.came) came early.read now.unread early.lines.are in
    let there = subst (λ (l : List ℕ). AreLines l early.read (now.unread ++ came)) bytes stays in
    lines_are_cut_one_way (since.unread ++ late.lines.came) early.read late.read (now.unread ++ came) later.unread there late.lines.are le
