-- The files of a run are read, and their texts are judged.
use Rattle.std.proofs.Common.{◌≡◌, ◌∙◌, refl, sym, ap, subst, arith, ◌≤◌, List, length, map, Bor, Ok, Err}
use Rattle.std.specs.Prelude.{Some}
use Rattle.std.proofs.lemmas.List.{length-map}
use Rattle.std.proofs.lemmas.Result.{IfErr-weaker, IfOk-weaker}
use Rattle.cacao_cli_words.specs.Commands.{run_request}
use Rattle.cacao_cli_words.specs.Requests.{RunRequest}
use Rattle.cacao_cli_words.specs.Words.{Text}
use Rattle.cacao_cli_ends.specs.Asked.{runs}
use Rattle.cacao_cli_ends.specs.Told.{end_of}
use Rattle.cacao_cli_looks.specs.Command.{text_of}
use Rattle.cacao_cli_ends.specs.Ends.{End, no_memory}
use Rattle.cacao_cli_ends.specs.Files.{File, NamedText, ReadsTo, ShelfCall, book_file, run_names}
use Rattle.cacao_cli_ends.proofs.ReadLemmas.{reads-length}
use Rattle.cacao_cli_starts.proofs.PartLemmas.{judged-ready, run-begins, run-many, run-memory, run-read}
use Rattle.cacao_cli_status_laws.proofs.PerformLemmas.{performed-memory}
use Rattle.cacao_cli_looks.proofs.PerformLemmas.{says-end}
use Rattle.cacao_cli_starts.proofs.RunFiles.{files-back, named-files, parts-named, reads-names, some-files, start-long}
use Rattle.cacao_cli_starts.proofs.ready.make_ready.Goals as goal

pub returns-then-as_slice-most-clause-refused : goal.returns-then-as_slice-most-clause-refused
returns-then-as_slice-most-clause-refused g c =
    let shelf : ShelfCall = record { told = g.L.Shelf.told c.args.shelf.now; before = g.L.Shelf.faults c.args.shelf.now; after = g.L.Shelf.faults c.args.shelf.now; reads_before = g.L.Shelf.reads c.args.shelf.now; reads_after = g.L.Shelf.reads c.args.shelf.now } in
    let wanted : RunRequest = run_request c.args.wanted.now in
    let count : length wanted.books ≡ length c.as_slice.result.now = length-map c.args.wanted.now.books.items.items (λ (name : Bor Text). name.now) ∙ ap (λ (l : List (Bor Text)). length l) (sym c.as_slice.ensures.value) in
    λ site. run-many wanted shelf site (omega (arith, count, c.most.ensures, c.if-as_slice-most.true)) refl refl

pub returns-in_default-clause-refused : goal.returns-in_default-clause-refused
returns-in_default-clause-refused g c =
    let shelf : ShelfCall = record { told = g.L.Shelf.told c.args.shelf.now; before = g.L.Shelf.faults c.args.shelf.now; after = g.L.Shelf.faults c.args.shelf.now; reads_before = g.L.Shelf.reads c.args.shelf.now; reads_after = g.L.Shelf.reads c.args.shelf.now } in
    λ site. performed-memory (Some (runs (run_request c.args.wanted.now))) shelf site refl refl

pub returns-in-Err-clause-refused : goal.returns-in-Err-clause-refused
returns-in-Err-clause-refused g c =
    let shelf : ShelfCall = record { told = g.L.Shelf.told c.args.shelf.now; before = g.L.Shelf.faults c.args.shelf.now; after = g.L.Shelf.faults c.read_files.new.shelf; reads_before = g.L.Shelf.reads c.args.shelf.now; reads_after = g.L.Shelf.reads c.read_files.new.shelf } in
    let wanted : RunRequest = run_request c.args.wanted.now in
    let count : length wanted.books ≡ length c.as_slice.result.now = length-map c.args.wanted.now.books.items.items (λ (name : Bor Text). name.now) ∙ ap (λ (l : List (Bor Text)). length l) (sym c.as_slice.ensures.value) in
    let few : length wanted.books ≤ 16 = omega (arith, count, c.most.ensures, c.if-as_slice-most.false) in
    let files : map (λ (name : Bor Text). book_file name.now) c.as_slice-2.result.now ≡ map book_file (run_names wanted) = named-files c.as_slice-2.result.now c.in-Ok.names.items (run_names wanted) c.as_slice-2.ensures.value c.in-Ok.ensures in
    let end : End = end_of c.in-Err.end in
    λ site. run-read wanted shelf site site (Err end) end few (subst (λ (l : List File). ReadsTo shelf l (Err end)) files c.in-Err.ensures.reads) (says-end end site)

pub returns-in-Err-clause-untouched : goal.returns-in-Err-clause-untouched
returns-in-Err-clause-untouched g c =
    let wanted : RunRequest = run_request c.args.wanted.now in
    let count : length wanted.books ≡ length c.as_slice.result.now = length-map c.args.wanted.now.books.items.items (λ (name : Bor Text). name.now) ∙ ap (λ (l : List (Bor Text)). length l) (sym c.as_slice.ensures.value) in
    λ none. absurd (some-files wanted (omega (arith, count, c.as_slice.ensures.some)) (omega (arith, count, c.most.ensures, c.if-as_slice-most.false)) none)

pub split-requires : goal.split-requires
split-requires g c =
    let shelf : ShelfCall = record { told = g.L.Shelf.told c.args.shelf.now; before = g.L.Shelf.faults c.args.shelf.now; after = g.L.Shelf.faults c.read_files.new.shelf; reads_before = g.L.Shelf.reads c.args.shelf.now; reads_after = g.L.Shelf.reads c.read_files.new.shelf } in
    let wanted : RunRequest = run_request c.args.wanted.now in
    let count : length wanted.books ≡ length c.as_slice.result.now = length-map c.args.wanted.now.books.items.items (λ (name : Bor Text). name.now) ∙ ap (λ (l : List (Bor Text)). length l) (sym c.as_slice.ensures.value) in
    let files : map (λ (name : Bor Text). book_file name.now) c.as_slice-2.result.now ≡ map book_file (run_names wanted) = named-files c.as_slice-2.result.now c.in-Ok.names.items (run_names wanted) c.as_slice-2.ensures.value c.in-Ok.ensures in
    let texts : List NamedText = map text_of c.in-Ok-read_files.texts.items in
    let reads : ReadsTo shelf (map book_file (run_names wanted)) (Ok texts) = subst (λ (l : List File). ReadsTo shelf l (Ok texts)) files c.in-Ok-read_files.ensures.reads in
    let many : length texts ≡ length (run_names wanted) = reads-length shelf.told (map book_file (run_names wanted)) reads.count (Ok texts) texts reads.reads refl ∙ length-map (run_names wanted) book_file in
    record { many = sym (length-map c.in-Ok-read_files.texts.items text_of) ∙ many }

pub judge_texts-requires-clause-some : goal.judge_texts-requires-clause-some
judge_texts-requires-clause-some g c =
    let shelf : ShelfCall = record { told = g.L.Shelf.told c.args.shelf.now; before = g.L.Shelf.faults c.args.shelf.now; after = g.L.Shelf.faults c.read_files.new.shelf; reads_before = g.L.Shelf.reads c.args.shelf.now; reads_after = g.L.Shelf.reads c.read_files.new.shelf } in
    let wanted : RunRequest = run_request c.args.wanted.now in
    let count : length wanted.books ≡ length c.as_slice.result.now = length-map c.args.wanted.now.books.items.items (λ (name : Bor Text). name.now) ∙ ap (λ (l : List (Bor Text)). length l) (sym c.as_slice.ensures.value) in
    let files : map (λ (name : Bor Text). book_file name.now) c.as_slice-2.result.now ≡ map book_file (run_names wanted) = named-files c.as_slice-2.result.now c.in-Ok.names.items (run_names wanted) c.as_slice-2.ensures.value c.in-Ok.ensures in
    let texts : List NamedText = map text_of c.in-Ok-read_files.texts.items in
    let reads : ReadsTo shelf (map book_file (run_names wanted)) (Ok texts) = subst (λ (l : List File). ReadsTo shelf l (Ok texts)) files c.in-Ok-read_files.ensures.reads in
    let many : length texts ≡ length (run_names wanted) = reads-length shelf.told (map book_file (run_names wanted)) reads.count (Ok texts) texts reads.reads refl ∙ length-map (run_names wanted) book_file in
    let long = start-long wanted texts c.in-Ok-split.texts c.in-Ok-split.ensures many in
    omega (arith, long, count, c.as_slice.ensures.some)

pub judge_texts-requires-clause-named : goal.judge_texts-requires-clause-named
judge_texts-requires-clause-named g c =
    let shelf : ShelfCall = record { told = g.L.Shelf.told c.args.shelf.now; before = g.L.Shelf.faults c.args.shelf.now; after = g.L.Shelf.faults c.read_files.new.shelf; reads_before = g.L.Shelf.reads c.args.shelf.now; reads_after = g.L.Shelf.reads c.read_files.new.shelf } in
    let wanted : RunRequest = run_request c.args.wanted.now in
    let files : map (λ (name : Bor Text). book_file name.now) c.as_slice-2.result.now ≡ map book_file (run_names wanted) = named-files c.as_slice-2.result.now c.in-Ok.names.items (run_names wanted) c.as_slice-2.ensures.value c.in-Ok.ensures in
    let texts : List NamedText = map text_of c.in-Ok-read_files.texts.items in
    let reads : ReadsTo shelf (map book_file (run_names wanted)) (Ok texts) = subst (λ (l : List File). ReadsTo shelf l (Ok texts)) files c.in-Ok-read_files.ensures.reads in
    let many : length texts ≡ length (run_names wanted) = reads-length shelf.told (map book_file (run_names wanted)) reads.count (Ok texts) texts reads.reads refl ∙ length-map (run_names wanted) book_file in
    parts-named wanted texts c.in-Ok-split.texts c.in-Ok-split.ensures many

pub returns-in-Ok-split-clause-ready : goal.returns-in-Ok-split-clause-ready
returns-in-Ok-split-clause-ready g c =
    let shelf : ShelfCall = record { told = g.L.Shelf.told c.args.shelf.now; before = g.L.Shelf.faults c.args.shelf.now; after = g.L.Shelf.faults c.read_files.new.shelf; reads_before = g.L.Shelf.reads c.args.shelf.now; reads_after = g.L.Shelf.reads c.read_files.new.shelf } in
    let wanted : RunRequest = run_request c.args.wanted.now in
    let count : length wanted.books ≡ length c.as_slice.result.now = length-map c.args.wanted.now.books.items.items (λ (name : Bor Text). name.now) ∙ ap (λ (l : List (Bor Text)). length l) (sym c.as_slice.ensures.value) in
    let few : length wanted.books ≤ 16 = omega (arith, count, c.most.ensures, c.if-as_slice-most.false) in
    let files : map (λ (name : Bor Text). book_file name.now) c.as_slice-2.result.now ≡ map book_file (run_names wanted) = named-files c.as_slice-2.result.now c.in-Ok.names.items (run_names wanted) c.as_slice-2.ensures.value c.in-Ok.ensures in
    let texts : List NamedText = map text_of c.in-Ok-read_files.texts.items in
    let reads : ReadsTo shelf (map book_file (run_names wanted)) (Ok texts) = subst (λ (l : List File). ReadsTo shelf l (Ok texts)) files c.in-Ok-read_files.ensures.reads in
    let names = reads-names shelf.told (map book_file (run_names wanted)) reads.count (Ok texts) texts reads.reads refl ∙ files-back (run_names wanted) in
    IfOk-weaker c.judge_texts.result _ _ (λ ready h. judged-ready wanted texts c.in-Ok-split.texts c.in-Ok-split.ensures names shelf few reads ready.setup ready.answers h) c.judge_texts.ensures.judged

pub returns-in-Ok-split-clause-refused : goal.returns-in-Ok-split-clause-refused
returns-in-Ok-split-clause-refused g c =
    let shelf : ShelfCall = record { told = g.L.Shelf.told c.args.shelf.now; before = g.L.Shelf.faults c.args.shelf.now; after = g.L.Shelf.faults c.read_files.new.shelf; reads_before = g.L.Shelf.reads c.args.shelf.now; reads_after = g.L.Shelf.reads c.read_files.new.shelf } in
    let wanted : RunRequest = run_request c.args.wanted.now in
    let count : length wanted.books ≡ length c.as_slice.result.now = length-map c.args.wanted.now.books.items.items (λ (name : Bor Text). name.now) ∙ ap (λ (l : List (Bor Text)). length l) (sym c.as_slice.ensures.value) in
    let few : length wanted.books ≤ 16 = omega (arith, count, c.most.ensures, c.if-as_slice-most.false) in
    let files : map (λ (name : Bor Text). book_file name.now) c.as_slice-2.result.now ≡ map book_file (run_names wanted) = named-files c.as_slice-2.result.now c.in-Ok.names.items (run_names wanted) c.as_slice-2.ensures.value c.in-Ok.ensures in
    let texts : List NamedText = map text_of c.in-Ok-read_files.texts.items in
    let reads : ReadsTo shelf (map book_file (run_names wanted)) (Ok texts) = subst (λ (l : List File). ReadsTo shelf l (Ok texts)) files c.in-Ok-read_files.ensures.reads in
    let names = reads-names shelf.told (map book_file (run_names wanted)) reads.count (Ok texts) texts reads.reads refl ∙ files-back (run_names wanted) in
    IfErr-weaker c.judge_texts.result _ _ (λ end h site. run-read wanted shelf site site (Ok texts) (end_of end) few reads (run-begins wanted texts c.in-Ok-split.texts c.in-Ok-split.ensures names site site (end_of end) (h site)))
    c.judge_texts.ensures.refused

pub returns-in-Ok-split-clause-untouched : goal.returns-in-Ok-split-clause-untouched
returns-in-Ok-split-clause-untouched g c =
    let wanted : RunRequest = run_request c.args.wanted.now in
    let count : length wanted.books ≡ length c.as_slice.result.now = length-map c.args.wanted.now.books.items.items (λ (name : Bor Text). name.now) ∙ ap (λ (l : List (Bor Text)). length l) (sym c.as_slice.ensures.value) in
    λ none. absurd (some-files wanted (omega (arith, count, c.as_slice.ensures.some)) (omega (arith, count, c.most.ensures, c.if-as_slice-most.false)) none)

pub returns-clause-refused : goal.returns-clause-refused
returns-clause-refused g c =
    let shelf : ShelfCall = record { told = g.L.Shelf.told c.args.shelf.now; before = g.L.Shelf.faults c.args.shelf.now; after = g.L.Shelf.faults c.read_files.new.shelf; reads_before = g.L.Shelf.reads c.args.shelf.now; reads_after = g.L.Shelf.reads c.read_files.new.shelf } in
    let wanted : RunRequest = run_request c.args.wanted.now in
    let count : length wanted.books ≡ length c.as_slice.result.now = length-map c.args.wanted.now.books.items.items (λ (name : Bor Text). name.now) ∙ ap (λ (l : List (Bor Text)). length l) (sym c.as_slice.ensures.value) in
    let few : length wanted.books ≤ 16 = omega (arith, count, c.most.ensures, c.if-as_slice-most.false) in
    let files : map (λ (name : Bor Text). book_file name.now) c.as_slice-2.result.now ≡ map book_file (run_names wanted) = named-files c.as_slice-2.result.now c.in-Ok.names.items (run_names wanted) c.as_slice-2.ensures.value c.in-Ok.ensures in
    let texts : List NamedText = map text_of c.in-Ok-read_files.texts.items in
    let reads : ReadsTo shelf (map book_file (run_names wanted)) (Ok texts) = subst (λ (l : List File). ReadsTo shelf l (Ok texts)) files c.in-Ok-read_files.ensures.reads in
    λ site. run-read wanted shelf site site (Ok texts) no_memory few reads (run-memory wanted texts site)
