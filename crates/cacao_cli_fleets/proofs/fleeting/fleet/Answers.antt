-- A call of `fleet`, by how far it came.
use Rattle.std.proofs.Common.{◌≡◌, inl, inr, refl, subst, List, length, map, Bor, Ok, Err}
use Rattle.cacao_cli_words.specs.Commands.{fleet_request_by}
use Rattle.cacao_cli_words.specs.Words.{Text}
use Rattle.cacao_cli_ends.specs.Ends.{no_memory}
use Rattle.cacao_cli_ends.specs.Files.{File, NamedText, ReadsTo, ShelfCall, book_file}
use Rattle.cacao_cli_ends.specs.Told.{end_of}
use Rattle.cacao_cli_looks.specs.Command.{text_of}
use Rattle.cacao_cli_fleets.specs.FleetTexts.{fleet_files}
use Rattle.cacao_cli_fleets.proofs.GoesLemmas.{files-are, none-read-yet, texts-long}
use Rattle.cacao_cli_fleets.proofs.fleeting.fleet.Goals as goal

pub returns-in_default-clause-performed : goal.returns-in_default-clause-performed
returns-in_default-clause-performed g c =
    let shelf : ShelfCall = record { told = g.L.Shelf.told c.args.shelf.now; before = g.L.Shelf.faults c.args.shelf.now; after = g.L.Shelf.faults c.args.shelf.now; reads_before = g.L.Shelf.reads c.args.shelf.now; reads_after = g.L.Shelf.reads c.args.shelf.now } in
    inl (record { end = no_memory; reads = none-read-yet c.args.wanted.now shelf refl refl; same = refl; ends = refl })

pub returns-in-Err-clause-performed : goal.returns-in-Err-clause-performed
returns-in-Err-clause-performed g c =
    let shelf : ShelfCall = record { told = g.L.Shelf.told c.args.shelf.now; before = g.L.Shelf.faults c.args.shelf.now; after = g.L.Shelf.faults c.read_files.new.shelf; reads_before = g.L.Shelf.reads c.args.shelf.now; reads_after = g.L.Shelf.reads c.read_files.new.shelf } in
    let files : map (λ (name : Bor Text). book_file name.now) c.as_slice-2.result.now ≡ fleet_files (fleet_request_by c.args.wanted.now) = files-are c.args.wanted.now c.as_slice-2.result.now c.in-Ok.names.items c.as_slice.result.now c.as_slice-2.ensures.value c.in-Ok.ensures c.as_slice.ensures.value in
    inl (record { end = end_of c.in-Err.end; reads = subst (λ (l : List File). ReadsTo shelf l (Err (end_of c.in-Err.end))) files c.in-Err.ensures.reads; same = refl; ends = refl })

pub set_up-requires : goal.set_up-requires
set_up-requires g c =
    let shelf : ShelfCall = record { told = g.L.Shelf.told c.args.shelf.now; before = g.L.Shelf.faults c.args.shelf.now; after = g.L.Shelf.faults c.read_files.new.shelf; reads_before = g.L.Shelf.reads c.args.shelf.now; reads_after = g.L.Shelf.reads c.read_files.new.shelf } in
    let files : map (λ (name : Bor Text). book_file name.now) c.as_slice-2.result.now ≡ fleet_files (fleet_request_by c.args.wanted.now) = files-are c.args.wanted.now c.as_slice-2.result.now c.in-Ok.names.items c.as_slice.result.now c.as_slice-2.ensures.value c.in-Ok.ensures c.as_slice.ensures.value in
    let texts : List NamedText = map text_of c.in-Ok-read_files.texts.items in
    record { many = texts-long c.args.wanted.now shelf c.in-Ok-read_files.texts.items (subst (λ (l : List File). ReadsTo shelf l (Ok texts)) files c.in-Ok-read_files.ensures.reads) }

pub returns-in-Ok-set_up-clause-performed : goal.returns-in-Ok-set_up-clause-performed
returns-in-Ok-set_up-clause-performed g c =
    let shelf : ShelfCall = record { told = g.L.Shelf.told c.args.shelf.now; before = g.L.Shelf.faults c.args.shelf.now; after = g.L.Shelf.faults c.read_files.new.shelf; reads_before = g.L.Shelf.reads c.args.shelf.now; reads_after = g.L.Shelf.reads c.read_files.new.shelf } in
    let files : map (λ (name : Bor Text). book_file name.now) c.as_slice-2.result.now ≡ fleet_files (fleet_request_by c.args.wanted.now) = files-are c.args.wanted.now c.as_slice-2.result.now c.in-Ok.names.items c.as_slice.result.now c.as_slice-2.ensures.value c.in-Ok.ensures c.as_slice.ensures.value in
    let texts : List NamedText = map text_of c.in-Ok-read_files.texts.items in
    inr (inr (record {
      texts = texts;
      reads = subst (λ (l : List File). ReadsTo shelf l (Ok texts)) files c.in-Ok-read_files.ensures.reads;
      roots = c.in-Ok-set_up.ensures.ok.roots;
      trees = c.in-Ok-set_up.ensures.ok.trees;
      runs = c.in-Ok-set_up.runs;
      are = c.law.ensures;
      ready = c.in-Ok-set_up.ensures.ok.ready;
      holds = c.hold.ensures;
      sound = g.met.R.Disk.sound c.hold.new.rack;
    }))

pub returns-clause-performed : goal.returns-clause-performed
returns-clause-performed g c =
    let shelf : ShelfCall = record { told = g.L.Shelf.told c.args.shelf.now; before = g.L.Shelf.faults c.args.shelf.now; after = g.L.Shelf.faults c.read_files.new.shelf; reads_before = g.L.Shelf.reads c.args.shelf.now; reads_after = g.L.Shelf.reads c.read_files.new.shelf } in
    let files : map (λ (name : Bor Text). book_file name.now) c.as_slice-2.result.now ≡ fleet_files (fleet_request_by c.args.wanted.now) = files-are c.args.wanted.now c.as_slice-2.result.now c.in-Ok.names.items c.as_slice.result.now c.as_slice-2.ensures.value c.in-Ok.ensures c.as_slice.ensures.value in
    let texts : List NamedText = map text_of c.in-Ok-read_files.texts.items in
    inr (inl (record {
      texts = texts;
      reads = subst (λ (l : List File). ReadsTo shelf l (Ok texts)) files c.in-Ok-read_files.ensures.reads;
      why = c.in-Err-set_up.ensures.err;
      same = refl;
    }))
