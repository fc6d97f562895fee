-- What the shelf answers is what reading the file comes to.
use Rattle.std.proofs.Common.{refl, subst, arith, ℕ, ◌<◌, [], length}
use Rattle.std.specs.Prelude.{IfSome, IsSomeAnd}
use Rattle.cacao_cli_ends.specs.Ends.{no_memory, no_such_file, past, shelf_failed}
use Rattle.cacao_cli_ends.specs.Files.{ShelfCall, file_within, missing, too_long, failed, no_room}
use Rattle.cacao_cli_ends.proofs.ReadLemmas.{one-whole, one-stopped, wanted-before}
use Rattle.cacao_cli_looks.proofs.file.read_bytes.Goals as goal

pub returns-in-Err-clause-reads : goal.returns-in-Err-clause-reads
returns-in-Err-clause-reads g c =
    let shelf : ShelfCall = record { told = g.L.Shelf.told c.args.shelf.now; before = g.L.Shelf.faults c.args.shelf.now; after = g.L.Shelf.faults c.args.shelf.now; reads_before = g.L.Shelf.reads c.args.shelf.now; reads_after = g.L.Shelf.reads c.args.shelf.now } in
    wanted-before shelf (file_within c.args.name.now c.args.limit) [] refl refl

pub returns-in-Ok-read-clause-reads : goal.returns-in-Ok-read-clause-reads
returns-in-Ok-read-clause-reads g c =
    let shelf : ShelfCall = record { told = g.L.Shelf.told c.args.shelf.now; before = g.L.Shelf.faults c.args.shelf.now; after = g.L.Shelf.faults c.read.new.self; reads_before = g.L.Shelf.reads c.args.shelf.now; reads_after = g.L.Shelf.reads c.read.new.self } in
    one-whole shelf (file_within c.args.name.now c.args.limit) c.in-Ok-read.bytes (omega (arith, c.in-Ok-read.ensures.at_most, c.most.ensures), c.in-Ok-read.ensures.whole) c.read.ensures.one_read c.in-Ok-read.ensures.steady

pub returns-in-Err-Missing-clause-reads : goal.returns-in-Err-Missing-clause-reads
returns-in-Err-Missing-clause-reads g c =
    let shelf : ShelfCall = record { told = g.L.Shelf.told c.args.shelf.now; before = g.L.Shelf.faults c.args.shelf.now; after = g.L.Shelf.faults c.read.new.self; reads_before = g.L.Shelf.reads c.args.shelf.now; reads_after = g.L.Shelf.reads c.read.new.self } in
    one-stopped shelf (file_within c.args.name.now c.args.limit) missing (no_such_file c.args.name.now) ((rw c.in-Err-Missing.field-0-is at c.in-Err-Missing.ensures.missing) refl) refl c.read.ensures.one_read
    ((rw c.in-Err-Missing.field-0-is at c.in-Err-Missing.ensures.others) (λ e. cc))

pub returns-in-Err-Failed-clause-reads : goal.returns-in-Err-Failed-clause-reads
returns-in-Err-Failed-clause-reads g c =
    let shelf : ShelfCall = record { told = g.L.Shelf.told c.args.shelf.now; before = g.L.Shelf.faults c.args.shelf.now; after = g.L.Shelf.faults c.read.new.self; reads_before = g.L.Shelf.reads c.args.shelf.now; reads_after = g.L.Shelf.reads c.read.new.self } in
    one-stopped shelf (file_within c.args.name.now c.args.limit) failed (shelf_failed c.in-Ok.line.name.now) tt (rw c.in-Ok.ensures refl) c.read.ensures.one_read
    ((rw c.in-Err-Failed.field-0-is at c.in-Err-Failed.ensures.failed) refl)

pub returns-in-Err-TooLarge-clause-reads : goal.returns-in-Err-TooLarge-clause-reads
returns-in-Err-TooLarge-clause-reads g c =
    let shelf : ShelfCall = record { told = g.L.Shelf.told c.args.shelf.now; before = g.L.Shelf.faults c.args.shelf.now; after = g.L.Shelf.faults c.read.new.self; reads_before = g.L.Shelf.reads c.args.shelf.now; reads_after = g.L.Shelf.reads c.read.new.self } in
    one-stopped shelf (file_within c.args.name.now c.args.limit) too_long (past c.args.limit)
    (subst (λ (n : ℕ). IfSome shelf.told (λ files. IsSomeAnd (files c.args.name.now) (λ bytes. n < length bytes))) c.most.ensures ((rw c.in-Err-TooLarge.field-0-is at c.in-Err-TooLarge.ensures.too_large) refl)) refl c.read.ensures.one_read
    ((rw c.in-Err-TooLarge.field-0-is at c.in-Err-TooLarge.ensures.others) (λ e. cc))

pub returns-clause-reads : goal.returns-clause-reads
returns-clause-reads g c =
    let shelf : ShelfCall = record { told = g.L.Shelf.told c.args.shelf.now; before = g.L.Shelf.faults c.args.shelf.now; after = g.L.Shelf.faults c.read.new.self; reads_before = g.L.Shelf.reads c.args.shelf.now; reads_after = g.L.Shelf.reads c.read.new.self } in
    one-stopped shelf (file_within c.args.name.now c.args.limit) no_room no_memory tt refl c.read.ensures.one_read
    ((rw c.in-Err-Memory.field-0-is at c.in-Err-Memory.ensures.others) (λ e. cc))
