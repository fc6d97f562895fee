-- The files read so far stand at their numbers.
use Rattle.std.proofs.Common.{◌≡◌, ◌∙◌, refl, sym, ap, subst, ℕ, ◌+◌, List, [], ◌∷◌, ◌++◌, length, map, take, drop, take_all, Err}
use Rattle.std.specs.Prelude.{slice_set}
use Rattle.std.proofs.lemmas.List.{length-set}
use Rattle.cacao_cli_words.specs.Commands.{filter_of}
use Rattle.cacao_cli_words.specs.Words.{Text}
use Rattle.cacao_cli_words.specs.declared.filter_file.FilterFile.{FilterFile}
use Rattle.cacao_cli_ends.specs.Told.{end_of}
use Rattle.cacao_cli_ends.specs.Ends.{End}
use Rattle.cacao_cli_ends.specs.Files.{ShelfCall, File, ReadsTo, journal_file}
use Rattle.cacao_cli_ends.proofs.ReadLemmas.{all-read-to, counts-none, map-more, map-split, stopped-after, wanted-before}
use Rattle.cacao_cli_looks.proofs.RunFileLemmas.{IsRunSoFar, run_list, run-first, run-more, run-stopped}
use Rattle.cacao_cli_looks.proofs.audit_command.read_run.Goals as goal

abbrev behind : List FilterFile → List File
behind filters = map (λ (filter : ℕ × Text). journal_file filter.1) (map filter_of filters)

pub returns-in-Err-clause-reads : goal.returns-in-Err-clause-reads
returns-in-Err-clause-reads g c =
    let shelf : ShelfCall = record { told = g.L.Shelf.told c.args.shelf.now; before = g.L.Shelf.faults c.args.shelf.now; after = g.L.Shelf.faults c.args.shelf.now; reads_before = g.L.Shelf.reads c.args.shelf.now; reads_after = g.L.Shelf.reads c.args.shelf.now } in
    wanted-before shelf (journal_file c.args.engine.now) (behind c.args.filters.now) refl refl

pub returns-in-Err-read_bytes-clause-reads : goal.returns-in-Err-read_bytes-clause-reads
returns-in-Err-read_bytes-clause-reads g c =
    let shelf : ShelfCall = record { told = g.L.Shelf.told c.args.shelf.now; before = g.L.Shelf.faults c.args.shelf.now; after = g.L.Shelf.faults c.read_bytes.new.shelf; reads_before = g.L.Shelf.reads c.args.shelf.now; reads_after = g.L.Shelf.reads c.read_bytes.new.shelf } in
    let engine : File = journal_file c.args.engine.now in
    stopped-after shelf shelf [] (behind c.args.filters.now) (engine ∷ behind c.args.filters.now) [] engine (end_of c.in-Err-read_bytes.end) refl refl refl refl refl tt (counts-none shelf.reads_before) c.in-Err-read_bytes.ensures.reads

pub loop-file-init : goal.loop-file-init
loop-file-init g c =
    let shelf : ShelfCall = record { told = g.L.Shelf.told c.args.shelf.now; before = g.L.Shelf.faults c.args.shelf.now; after = g.L.Shelf.faults c.read_bytes.new.shelf; reads_before = g.L.Shelf.reads c.args.shelf.now; reads_after = g.L.Shelf.reads c.read_bytes.new.shelf } in
    record {
      so_far = subst (λ (l : List Text). IsRunSoFar shelf.told c.args.engine.now [] (slice_set l 0 c.in-Ok-read_bytes.bytes) shelf.reads_before shelf.reads_after) (sym c.in-Ok.ensures)
          (run-first shelf c.args.engine.now c.in-Ok-read_bytes.bytes c.in-Ok-read_bytes.ensures.reads);
      told = c.read_bytes.ensures.files;
      faults = c.in-Ok-read_bytes.ensures.reads.faults;
      long = length-set c.in-Ok.files.items 0 c.in-Ok-read_bytes.bytes ∙ ap length c.in-Ok.ensures;
    }

pub loop-file-preserved : goal.loop-file-preserved
loop-file-preserved g c =
    let filters : List FilterFile = c.args.filters.now in
    let n : ℕ = c.loop-file.file-index in
    let inner : ShelfCall = record { told = g.L.Shelf.told c.loop-file.shelf; before = g.L.Shelf.faults c.loop-file.shelf; after = g.L.Shelf.faults c.read_bytes-in-loop-file.new.shelf; reads_before = g.L.Shelf.reads c.loop-file.shelf; reads_after = g.L.Shelf.reads c.read_bytes-in-loop-file.new.shelf } in
    let more : map filter_of (take (n + 1) filters) ≡ map filter_of (take n filters) ++ filter_of c.file-item.result ∷ [] = map-more filter_of filters n _ c.loop-file-test.true
    ∙ ap (λ (file : FilterFile). map filter_of (take n filters) ++ filter_of file ∷ []) (sym c.file-item.is) in
    record {
      so_far = subst (λ (l : List (ℕ × Text)). IsRunSoFar (g.L.Shelf.told c.args.shelf.now) c.args.engine.now l (slice_set c.loop-file.files.items c.file-item.result.agent.number c.in-Ok-read_bytes-2.bytes) (g.L.Shelf.reads c.args.shelf.now) inner.reads_after) (sym more)
          (run-more inner (g.L.Shelf.told c.args.shelf.now) c.args.engine.now (map filter_of (take n filters)) c.loop-file.files.items (g.L.Shelf.reads c.args.shelf.now) (filter_of c.file-item.result) c.in-Ok-read_bytes-2.bytes
          c.loop-file.invariant.told c.loop-file.invariant.so_far c.in-Ok-read_bytes-2.ensures.reads);
      told = c.read_bytes-in-loop-file.ensures.files ∙ c.loop-file.invariant.told;
      faults = c.in-Ok-read_bytes-2.ensures.reads.faults ∙ c.loop-file.invariant.faults;
      long = length-set c.loop-file.files.items c.file-item.result.agent.number c.in-Ok-read_bytes-2.bytes ∙ c.loop-file.invariant.long;
    }

pub returns-in-Err-read_bytes-2-clause-reads : goal.returns-in-Err-read_bytes-2-clause-reads
returns-in-Err-read_bytes-2-clause-reads g c =
    let filters : List FilterFile = c.args.filters.now in
    let n : ℕ = c.loop-file.file-index in
    let end : End = end_of c.in-Err-read_bytes-2.end in
    let inner : ShelfCall = record { told = g.L.Shelf.told c.loop-file.shelf; before = g.L.Shelf.faults c.loop-file.shelf; after = g.L.Shelf.faults c.read_bytes-in-loop-file.new.shelf; reads_before = g.L.Shelf.reads c.loop-file.shelf; reads_after = g.L.Shelf.reads c.read_bytes-in-loop-file.new.shelf } in
    let outer : ShelfCall = record { told = g.L.Shelf.told c.args.shelf.now; before = g.L.Shelf.faults c.args.shelf.now; after = g.L.Shelf.faults c.read_bytes-in-loop-file.new.shelf; reads_before = g.L.Shelf.reads c.args.shelf.now; reads_after = g.L.Shelf.reads c.read_bytes-in-loop-file.new.shelf } in
    let all : map filter_of filters ≡ map filter_of (take n filters) ++ filter_of c.file-item.result ∷ map filter_of (drop (n + 1) filters) = map-split filter_of filters n _ c.loop-file-test.true
    ∙ ap (λ (file : FilterFile). map filter_of (take n filters) ++ filter_of file ∷ map filter_of (drop (n + 1) filters)) (sym c.file-item.is) in
    subst (λ (l : List (ℕ × Text)). ReadsTo outer (run_list c.args.engine.now l) (Err end)) (sym all)
    (run-stopped inner outer c.args.engine.now (map filter_of (take n filters)) (map filter_of (drop (n + 1) filters)) c.loop-file.files.items (filter_of c.file-item.result) end
    c.loop-file.invariant.told c.loop-file.invariant.faults refl refl c.loop-file.invariant.so_far c.in-Err-read_bytes-2.ensures.reads)

pub returns-clause-reads : goal.returns-clause-reads
returns-clause-reads g c =
    let filters : List FilterFile = c.args.filters.now in
    let outer : ShelfCall = record { told = g.L.Shelf.told c.args.shelf.now; before = g.L.Shelf.faults c.args.shelf.now; after = g.L.Shelf.faults c.loop-file.shelf; reads_before = g.L.Shelf.reads c.args.shelf.now; reads_after = g.L.Shelf.reads c.loop-file.shelf } in
    let so_far : IsRunSoFar outer.told c.args.engine.now (map filter_of filters) c.loop-file.files.items outer.reads_before outer.reads_after =
    subst (λ (l : List FilterFile). IsRunSoFar outer.told c.args.engine.now (map filter_of l) c.loop-file.files.items outer.reads_before outer.reads_after) (take_all c.loop-file.file-index filters c.loop-file-test.false) c.loop-file.invariant.so_far in
    (so_far.texts, all-read-to outer (run_list c.args.engine.now (map filter_of filters)) so_far.texts so_far.given so_far.counted c.loop-file.invariant.faults, c.from_vec.ensures ∙ so_far.placed_are)
