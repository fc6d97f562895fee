-- The first block, and the rest of the file.
use Rattle.std.proofs.Common.{◌≡◌, ◌<◌, ◌++◌, List, ℕ, length, take, Err, sym, ap, ◌∙◌, subst, arith, inr}
use Rattle.run_journal.specs.declared.error.JournalError.{JournalError}
use Rattle.run_journal.specs.declared.error.JournalError.TheVariants.{Disk, Broken, Full}
use Rattle.run_journal.specs.Layout.{HasLayout, BreaksAt, IsDamagedAt, front}
use Rattle.run_journal.proofs.BlockLemmas.{reads_then, reads_most}
use Rattle.run_journal.proofs.OpenLemmas.{block_low, block_is, header_differs, all_read}
use Rattle.run_journal.proofs.opening.read_journal.Goals as goal

pub returns-in-Some-clause-damaged : goal.returns-in-Some-clause-damaged
returns-in-Some-clause-damaged g c = λ place is told size.
    let reads : List ℕ = (g.D.Disk.view c.args.disk.now).disk.reads c.args.file in
    let block : List ℕ = c.as_slice.result.now in
    let at : c.in-Some.place ≡ place = cc in
    let first : block ≡ take 4096 reads = c.as_slice.ensures.value ∙ block_is reads c.new-tail.result.items c.read_block.new.tail.items c.new-tail.ensures.items (c.in-Ok.ensures.image told size).1 in
    let long : 9 < length block = omega (arith, c.as_slice.ensures.len, c.len.ensures, c.if-len-le9.false) in
    let differs = c.in-Some.ensures.differs in
    subst (λ p. IsDamagedAt reads p) at (header_differs reads block c.in-Some.place first long (omega (arith, size, c.requires.high)) differs.0 differs.1 differs.2)

pub returns-in-Ok-found_in-clause-only : goal.returns-in-Ok-found_in-clause-only
returns-in-Ok-found_in-clause-only g c = reads_most (omega (arith, c.in-Ok.ensures.low.1)) (reads_then c.read_block.ensures.only c.read_rest.ensures.only)

pub returns-in-Ok-found_in-clause-stands : goal.returns-in-Ok-found_in-clause-stands
returns-in-Ok-found_in-clause-stands g c = λ told size.
    let reads : List ℕ = (g.D.Disk.view c.args.disk.now).disk.reads c.args.file in
    let block : List ℕ = c.read_block.new.tail.items in
    let says = c.in-Ok.ensures.image told size in
    let first : block ≡ take 4096 reads = block_is reads c.new-tail.result.items block c.new-tail.ensures.items says.1 in
    let whole : front c.in-Ok-read_rest.taken.items.items ++ c.in-Ok-read_rest.taken.tail.items ≡ reads =
    all_read (g.D.Disk.view c.args.disk.now) (g.D.Disk.view c.read_block.new.disk) c.args.file c.args.size c.in-Ok.end block c.cut_front.new.bytes.items c.in-Ok-read_rest.taken.tail.items c.in-Ok-read_rest.taken.items.items
    c.read_block.ensures.only told size says.0 first (ap (take 8) (sym c.as_slice.ensures.value) ∙ c.in_default.ensures.same) c.cut_front.ensures c.in-Ok-read_rest.ensures.image in
    inr (omega (arith, block_low reads block 4096 first, c.len.ensures, c.if-len-le9.false), subst (λ (l : List ℕ). HasLayout c.in-Ok-found_in.journal.items l) whole c.in-Ok-found_in.ensures.layout)

pub returns-in-Err-found_in-clause-only : goal.returns-in-Err-found_in-clause-only
returns-in-Err-found_in-clause-only g c = reads_most (omega (arith, c.in-Ok.ensures.low.1)) (reads_then c.read_block.ensures.only c.read_rest.ensures.only)

pub returns-in-Err-found_in-clause-damaged : goal.returns-in-Err-found_in-clause-damaged
returns-in-Err-found_in-clause-damaged g c = λ place is told size.
    let reads : List ℕ = (g.D.Disk.view c.args.disk.now).disk.reads c.args.file in
    let block : List ℕ = c.read_block.new.tail.items in
    let says = c.in-Ok.ensures.image told size in
    let first : block ≡ take 4096 reads = block_is reads c.new-tail.result.items block c.new-tail.ensures.items says.1 in
    let whole : front c.in-Ok-read_rest.taken.items.items ++ c.in-Ok-read_rest.taken.tail.items ≡ reads =
    all_read (g.D.Disk.view c.args.disk.now) (g.D.Disk.view c.read_block.new.disk) c.args.file c.args.size c.in-Ok.end block c.cut_front.new.bytes.items c.in-Ok-read_rest.taken.tail.items c.in-Ok-read_rest.taken.items.items
    c.read_block.ensures.only told size says.0 first (ap (take 8) (sym c.as_slice.ensures.value) ∙ c.in_default.ensures.same) c.cut_front.ensures c.in-Ok-read_rest.ensures.image in
    inr (inr (omega (arith, block_low reads block 4096 first, c.len.ensures, c.if-len-le9.false), omega (arith, size, c.requires.high), subst (λ (l : List ℕ). BreaksAt l place) whole (c.in-Err-found_in.ensures.damaged place is)))

pub returns-in-Err-found_in-clause-disk : goal.returns-in-Err-found_in-clause-disk
returns-in-Err-found_in-clause-disk g c = λ is.
    let e : c.in-Err-found_in.error ≡ Disk = cc in
    absurd ((c.found_in.ensures.no_other 0).0 (c.in-Err-found_in.is ∙ ap (λ (x : JournalError). Err x) e))

pub returns-in-Err-found_in-clause-no_other : goal.returns-in-Err-found_in-clause-no_other
returns-in-Err-found_in-clause-no_other g c = λ needed. (
  λ is. let e : c.in-Err-found_in.error ≡ Broken = cc in absurd ((c.found_in.ensures.no_other 0).1 (c.in-Err-found_in.is ∙ ap (λ (x : JournalError). Err x) e)),
  λ is. let e : c.in-Err-found_in.error ≡ Full needed = cc in absurd ((c.found_in.ensures.no_other needed).2 (c.in-Err-found_in.is ∙ ap (λ (x : JournalError). Err x) e)),
)

pub returns-in-Err-read_rest-clause-only : goal.returns-in-Err-read_rest-clause-only
returns-in-Err-read_rest-clause-only g c = reads_most (omega (arith, c.in-Ok.ensures.low.1)) (reads_then c.read_block.ensures.only c.read_rest.ensures.only)
