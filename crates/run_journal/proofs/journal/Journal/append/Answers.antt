-- At each beat the list before, or that list and the item.
use Rattle.std.proofs.Common.{◌≡◌, ◌≢◌, ◌+◌, ◌++◌, ◌∷◌, [], length, List, ℕ, All, true, false, ap, sym, ◌∙◌, subst, arith, inl, inr, ⊎_elim}
use Rattle.std.proofs.lemmas.Bool.{false≢true}
use Rattle.std.proofs.lemmas.List.Elements.{All-push}
use Rattle.cacao_site.specs.DiskCalls.{StaysAt}
use Rattle.run_journal.specs.JournalView.{JournalView}
use Rattle.run_journal.specs.Layout.{front, block_for, IsEntry}
use Rattle.run_journal.proofs.EntryLemmas.{append_beats, append_durable, length-front-push}
use Rattle.cacao_site.proofs.Beats.{each-weaken}
use Rattle.run_journal.proofs.PackedLemmas.{length-front-all}
use Rattle.run_journal.proofs.PlaceLaws.{layout_stands}
use Rattle.run_journal.proofs.journal.Journal.append.Goals as goal

pub invariant_of-self : goal.invariant_of-self
invariant_of-self g c =
    let items : c.push_reserved.new.self.items ≡ c.self.inside.items.items ++ c.args.item ∷ [] = c.push_reserved.ensures ∙ ap (λ (i : List ℕ). c.self.inside.items.items ++ i ∷ []) c.as_slice-in-Ok.ensures in
    let whole : length (front c.push_reserved.new.self.items) ≡ length (front c.self.inside.items.items) + (5 + length c.args.item) = ap (λ (l : List (List ℕ)). length (front l)) items ∙ length-front-push c.self.inside.items.items c.args.item in
    let ready : c.self.inside.prepared ≡ true = ap (λ (v : JournalView). v.prepared) c.self.view_is ∙ c.requires.prepared in
    record {
      file = c.self.invariant.file;
      gate = omega (arith, whole, c.self.invariant.gate, c.len-size.ensures);
      fits = omega (arith, c.len-size.ensures, c.if-length-gt-MOST_IMAGE.false);
      short = subst (λ (l : List (List ℕ)). All IsEntry l) (sym items) (All-push IsEntry c.self.inside.items.items c.args.item c.self.invariant.short c.requires.size);
      blank = λ none. absurd (false≢true (sym none ∙ ready));
      item_place = λ lt. absurd (omega (arith, lt));
      item_room = λ lt. absurd (omega (arith, lt));
      block_room = λ lt. absurd (omega (arith, lt));
    }

pub push_reserved-requires-clause-fits : goal.push_reserved-requires-clause-fits
push_reserved-requires-clause-fits g c =
    omega (arith, length-front-all c.self.inside.items.items, c.self.invariant.gate, c.len-size.ensures, c.if-length-gt-MOST_IMAGE.false, ap length c.as_slice-in-Ok.ensures)

pub returns-in-Ok-clause-each_beat : goal.returns-in-Ok-clause-each_beat
returns-in-Ok-clause-each_beat g c = λ whole.
    let file_is : c.self.inside.file ≡ c.args.self.now.file = ap (λ (v : JournalView). v.file) c.self.view_is in
    let items_is : c.self.inside.items.items ≡ c.args.self.now.items = ap (λ (v : JournalView). v.items) c.self.view_is in
    let size : length (front c.args.self.now.items) ≡ c.self.inside.gate = ap (λ (l : List (List ℕ)). length (front l)) (sym items_is) ∙ sym c.self.invariant.gate in
    let block_is : c.as_slice-2.result.now ≡ block_for c.args.item = c.as_slice-2.ensures.value ∙ c.fill_block.ensures.items ∙ ap block_for c.as_slice.ensures in
    let short : All IsEntry c.args.self.now.items = subst (λ (l : List (List ℕ)). All IsEntry l) items_is c.self.invariant.short in
    append_beats (g.D.Disk.view c.args.disk.now).disk (g.D.Disk.view c.add_block.new.disk).disk c.args.self.now.file c.self.inside.file c.self.inside.gate c.args.self.now.items c.args.item c.as_slice-2.result.now file_is size block_is short c.requires.size (c.requires.ready whole) c.add_block.ensures.each_beat c.add_block.ensures.within

pub returns-in-Ok-clause-durable : goal.returns-in-Ok-clause-durable
returns-in-Ok-clause-durable g c =
    let file_is : c.self.inside.file ≡ c.args.self.now.file = ap (λ (v : JournalView). v.file) c.self.view_is in
    let items_is : c.self.inside.items.items ≡ c.args.self.now.items = ap (λ (v : JournalView). v.items) c.self.view_is in
    let size : length (front c.args.self.now.items) ≡ c.self.inside.gate = ap (λ (l : List (List ℕ)). length (front l)) (sym items_is) ∙ sym c.self.invariant.gate in
    let block_is : c.as_slice-2.result.now ≡ block_for c.args.item = c.as_slice-2.ensures.value ∙ c.fill_block.ensures.items ∙ ap block_for c.as_slice.ensures in
    let short : All IsEntry c.args.self.now.items = subst (λ (l : List (List ℕ)). All IsEntry l) items_is c.self.invariant.short in
    let whole : c.args.self.now.broken ≡ false = ap (λ (v : JournalView). v.broken) (sym c.self.view_is) ∙ c.if-self.false in
    append_durable (g.D.Disk.view c.args.disk.now).disk (g.D.Disk.view c.add_block.new.disk).disk c.args.self.now.file c.self.inside.file c.self.inside.gate c.args.self.now.items c.args.item c.as_slice-2.result.now file_is size block_is short c.requires.size (c.requires.ready whole) c.in-Ok.ensures.opened c.add_block.ensures.within

pub returns-in-Ok-clause-others : goal.returns-in-Ok-clause-others
returns-in-Ok-clause-others g c =
    subst (λ f. (other : ℕ) → other ≢ f → StaysAt (g.D.Disk.view c.args.disk.now).disk (g.D.Disk.view c.add_block.new.disk).disk other) (ap (λ (v : JournalView). v.file) c.self.view_is) c.add_block.ensures.others

pub returns-in-Err-clause-each_beat : goal.returns-in-Err-clause-each_beat
returns-in-Err-clause-each_beat g c = λ whole.
    let file_is : c.self.inside.file ≡ c.args.self.now.file = ap (λ (v : JournalView). v.file) c.self.view_is in
    let items_is : c.self.inside.items.items ≡ c.args.self.now.items = ap (λ (v : JournalView). v.items) c.self.view_is in
    let size : length (front c.args.self.now.items) ≡ c.self.inside.gate = ap (λ (l : List (List ℕ)). length (front l)) (sym items_is) ∙ sym c.self.invariant.gate in
    let block_is : c.as_slice-2.result.now ≡ block_for c.args.item = c.as_slice-2.ensures.value ∙ c.fill_block.ensures.items ∙ ap block_for c.as_slice.ensures in
    let short : All IsEntry c.args.self.now.items = subst (λ (l : List (List ℕ)). All IsEntry l) items_is c.self.invariant.short in
    append_beats (g.D.Disk.view c.args.disk.now).disk (g.D.Disk.view c.add_block.new.disk).disk c.args.self.now.file c.self.inside.file c.self.inside.gate c.args.self.now.items c.args.item c.as_slice-2.result.now file_is size block_is short c.requires.size (c.requires.ready whole) c.add_block.ensures.each_beat c.add_block.ensures.within

pub returns-in-Err-clause-others : goal.returns-in-Err-clause-others
returns-in-Err-clause-others g c =
    subst (λ f. (other : ℕ) → other ≢ f → StaysAt (g.D.Disk.view c.args.disk.now).disk (g.D.Disk.view c.add_block.new.disk).disk other) (ap (λ (v : JournalView). v.file) c.self.view_is) c.add_block.ensures.others

pub returns-in-Ok-clause-each_stands : goal.returns-in-Ok-clause-each_stands
returns-in-Ok-clause-each_stands g c = λ whole. each-weaken (returns-in-Ok-clause-each_beat g c whole)
    (λ told image. ⊎_elim (λ before. inl (layout_stands image c.args.self.now.items before)) (λ after. inr (layout_stands image (c.args.self.now.items ++ c.args.item ∷ []) after)))

pub returns-in-Err-clause-each_stands : goal.returns-in-Err-clause-each_stands
returns-in-Err-clause-each_stands g c = λ whole. each-weaken (returns-in-Err-clause-each_beat g c whole)
    (λ told image. ⊎_elim (λ before. inl (layout_stands image c.args.self.now.items before)) (λ after. inr (layout_stands image (c.args.self.now.items ++ c.args.item ∷ []) after)))

pub returns-in-Ok-clause-stands : goal.returns-in-Ok-clause-stands
returns-in-Ok-clause-stands g c = λ told image left. layout_stands image (c.args.self.now.items ++ c.args.item ∷ []) (returns-in-Ok-clause-durable g c told image left)
