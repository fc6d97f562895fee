-- The entries so far, and one more.
use Rattle.std.proofs.Common.{◌≡◌, ◌∷◌, [], ◌++◌, ◌+◌, ◌-◌, List, length, subst, sym}
use Rattle.run_journal.specs.declared.entries.Entry.{Entry}
use Rattle.run_journal.specs.Image.{bytes_of, ArePlaced}
use Rattle.run_journal.specs.Layout.{Entries}
use Rattle.run_journal.proofs.EntryLemmas.{entries_none}
use Rattle.run_journal.proofs.ImageLemmas.{place_is, placed_none, placed_more, read_more}
use Rattle.run_journal.proofs.reader.read_entries.Goals as goal

pub loop-item-init : goal.loop-item-init
loop-item-init c = record {
  so_far = subst (λ (l : List Entry). Entries c.args.bytes.now (bytes_of l) c.args.bytes.now) (sym c.new-entries.ensures.items) (entries_none c.args.bytes.now);
  placed = subst ArePlaced (sym c.new-entries.ensures.items) placed_none;
}

pub loop-item-preserved : goal.loop-item-preserved
loop-item-preserved c =
    let entry = c.in-Some.ensures.entry in
    let was = c.loop-item.invariant in
    let new : Entry = record { place = 8 + length c.args.bytes.now - length c.loop-item.rest.now; bytes = c.in_ok-from_slice.field-0 } in
    let items : c.push.new.self.items ≡ c.loop-item.entries.items ++ new ∷ [] = c.in_ok-push.ensures.items in
    record {
      so_far = subst (λ (l : List Entry). Entries c.args.bytes.now (bytes_of l) c.in-Some.after.now) (sym items)
          (read_more c.args.bytes.now c.loop-item.entries.items c.loop-item.rest.now c.in-Some.item.now c.in-Some.after.now new was.so_far entry.0 entry.1 c.in_ok-from_slice.ensures);
      placed = subst ArePlaced (sym items) (placed_more c.loop-item.entries.items new was.placed (place_is was.so_far));
    }
