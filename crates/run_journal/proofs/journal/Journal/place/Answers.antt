-- The header, and of each entry its gate, its length and its bytes.
use Rattle.std.proofs.Common.{◌≡◌, List, ℕ, length, take, ap, arith, length-take}
use Rattle.run_journal.specs.JournalView.{JournalView}
use Rattle.run_journal.specs.Layout.{front}
use Rattle.run_journal.proofs.EntryLemmas.{front-le}
use Rattle.run_journal.proofs.PackedLemmas.{length-front-all}
use Rattle.run_journal.proofs.journal.Journal.place.Goals as goal

pub overflow_add-result-2 : goal.overflow_add-result-2
overflow_add-result-2 c =
    let items : List (List ℕ) = c.self.inside.items.items in
    omega (arith, c.requires, length-front-all (take c.args.n items), front-le c.args.n items, c.size.ensures, c.self.invariant.gate, c.self.invariant.fits)

pub returns : goal.returns
returns c =
    let items : List (List ℕ) = c.self.inside.items.items in
    let items_is : items ≡ c.args.self.now.items = ap (λ (v : JournalView). v.items) c.self.view_is in
    let long : length (take c.args.n items) ≡ c.args.n = omega (arith, c.requires, length-take c.args.n items, ap length items_is) in
    omega (arith, long, length-front-all (take c.args.n items), c.size.ensures, ap (λ (l : List (List ℕ)). length (front (take c.args.n l))) items_is)
