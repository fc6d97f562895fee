-- The files read so far are those before the one that is read.
use Rattle.std.proofs.Common.{◌≡◌, ◌∙◌, refl, sym, ap, subst, arith, ℕ, ◌+◌, Bor, List, [], ◌∷◌, ◌++◌, length, map, take, drop, get_or, take_all, Ok}
use Rattle.std.proofs.lemmas.List.{map-append, length-append}
use Rattle.cacao_cli_words.specs.Words.{Text}
use Rattle.cacao_cli_ends.specs.Told.{end_of}
use Rattle.cacao_cli_looks.specs.Command.{text_of}
use Rattle.cacao_cli_ends.specs.Ends.{no_memory}
use Rattle.cacao_cli_ends.specs.Files.{File, ShelfCall, NamedText, Counts, Gives, book_file, named, whole}
use Rattle.cacao_cli_looks.specs.declared.file_text.FileText.{FileText}
use Rattle.cacao_cli_ends.proofs.ReadLemmas.{GivesAll, counts-none, counts-more, gives-more, one-read, all-read-to, stopped-after, no-room-after, map-split, map-more}
use Rattle.cacao_cli_looks.proofs.file.read_files.Goals as goal

abbrev nameless : Bor Text
nameless = record { ref_ptr = (0, 0); now = [] }

abbrev file_of : Bor Text → File
file_of name = book_file name.now

pub loop-name-init : goal.loop-name-init
loop-name-init g c =
    let none : c.new-texts.result.items ≡ [] = c.new-texts.ensures.items in
    record {
      given = subst (λ (l : List FileText). GivesAll (g.L.Shelf.told c.args.shelf.now) [] (map text_of l)) (sym none) tt;
      told = refl;
      faults = refl;
      counted = subst (λ (l : List FileText). Counts (g.L.Shelf.reads c.args.shelf.now) (length (map text_of l)) (g.L.Shelf.reads c.args.shelf.now)) (sym none) (counts-none (g.L.Shelf.reads c.args.shelf.now));
    }

pub loop-name-preserved : goal.loop-name-preserved
loop-name-preserved g c =
    let names : List (Bor Text) = c.args.names.now in
    let n : ℕ = c.loop-name.name-index in
    let file : File = file_of (get_or names n nameless) in
    let before : List FileText = c.loop-name.texts.items in
    let more : map text_of c.push.new.self.items ≡ map text_of before ++ text_of c.in-Ok.text ∷ [] = ap (map text_of) c.in-Ok-push.ensures.items ∙ map-append text_of before (c.in-Ok.text ∷ []) in
    let read = one-read (g.L.Shelf.told c.loop-name.shelf) file (file ∷ []) c.in-Ok.ensures.reads.count (Ok (text_of c.in-Ok.text ∷ [])) (text_of c.in-Ok.text) c.in-Ok.ensures.reads.reads refl refl in
    record {
      given = subst (λ (l : List File). GivesAll (g.L.Shelf.told c.args.shelf.now) l (map text_of c.push.new.self.items)) (sym (map-more file_of names n nameless c.loop-name-test.true))
          (subst (GivesAll (g.L.Shelf.told c.args.shelf.now) (map file_of (take n names) ++ file ∷ [])) (sym more)
          (gives-more (g.L.Shelf.told c.args.shelf.now) (map file_of (take n names)) file (map text_of before) (text_of c.in-Ok.text) c.loop-name.invariant.given
          (subst (λ t. (text_of c.in-Ok.text ≡ named file.name (text_of c.in-Ok.text).bytes) × Gives t file (whole (text_of c.in-Ok.text).bytes)) c.loop-name.invariant.told read.1)));
      told = c.read_file.ensures.files ∙ c.loop-name.invariant.told;
      faults = c.in-Ok.ensures.reads.faults ∙ c.loop-name.invariant.faults;
      counted = subst (λ (l : List NamedText). Counts (g.L.Shelf.reads c.args.shelf.now) (length l) (g.L.Shelf.reads c.read_file.new.shelf)) (sym more)
          (subst (λ (m : ℕ). Counts (g.L.Shelf.reads c.args.shelf.now) m (g.L.Shelf.reads c.read_file.new.shelf)) (sym (length-append (map text_of before) (text_of c.in-Ok.text ∷ []) ∙ omega arith))
          (counts-more (g.L.Shelf.reads c.args.shelf.now) (g.L.Shelf.reads c.loop-name.shelf) (g.L.Shelf.reads c.read_file.new.shelf) (length (map text_of before)) c.loop-name.invariant.counted
          (subst (λ (m : ℕ). Counts (g.L.Shelf.reads c.loop-name.shelf) m (g.L.Shelf.reads c.read_file.new.shelf)) read.0 c.in-Ok.ensures.reads.counted)));
    }

pub returns-in-Err-clause-reads : goal.returns-in-Err-clause-reads
returns-in-Err-clause-reads g c =
    let names : List (Bor Text) = c.args.names.now in
    let n : ℕ = c.loop-name.name-index in
    let inner : ShelfCall = record { told = g.L.Shelf.told c.loop-name.shelf; before = g.L.Shelf.faults c.loop-name.shelf; after = g.L.Shelf.faults c.read_file.new.shelf; reads_before = g.L.Shelf.reads c.loop-name.shelf; reads_after = g.L.Shelf.reads c.read_file.new.shelf } in
    let outer : ShelfCall = record { told = g.L.Shelf.told c.args.shelf.now; before = g.L.Shelf.faults c.args.shelf.now; after = g.L.Shelf.faults c.read_file.new.shelf; reads_before = g.L.Shelf.reads c.args.shelf.now; reads_after = g.L.Shelf.reads c.read_file.new.shelf } in
    stopped-after inner outer (map file_of (take n names)) (map file_of (drop (n + 1) names)) (map file_of names) (map text_of c.loop-name.texts.items) (file_of (get_or names n nameless)) (end_of c.in-Err.end)
    (map-split file_of names n nameless c.loop-name-test.true) c.loop-name.invariant.told c.loop-name.invariant.faults refl refl c.loop-name.invariant.given c.loop-name.invariant.counted c.in-Err.ensures.reads

pub returns-in-Err-clause-files : goal.returns-in-Err-clause-files
returns-in-Err-clause-files g c = c.read_file.ensures.files ∙ c.loop-name.invariant.told

pub returns-in-Err-clause-faults : goal.returns-in-Err-clause-faults
returns-in-Err-clause-faults g c = omega (arith, c.loop-name.invariant.faults, c.read_file.ensures.faults)

pub returns-in-Err-push-clause-reads : goal.returns-in-Err-push-clause-reads
returns-in-Err-push-clause-reads g c =
    let names : List (Bor Text) = c.args.names.now in
    let n : ℕ = c.loop-name.name-index in
    let inner : ShelfCall = record { told = g.L.Shelf.told c.loop-name.shelf; before = g.L.Shelf.faults c.loop-name.shelf; after = g.L.Shelf.faults c.read_file.new.shelf; reads_before = g.L.Shelf.reads c.loop-name.shelf; reads_after = g.L.Shelf.reads c.read_file.new.shelf } in
    let outer : ShelfCall = record { told = g.L.Shelf.told c.args.shelf.now; before = g.L.Shelf.faults c.args.shelf.now; after = g.L.Shelf.faults c.read_file.new.shelf; reads_before = g.L.Shelf.reads c.args.shelf.now; reads_after = g.L.Shelf.reads c.read_file.new.shelf } in
    stopped-after inner outer (map file_of (take n names)) (map file_of (drop (n + 1) names)) (map file_of names) (map text_of c.loop-name.texts.items) (file_of (get_or names n nameless)) no_memory
    (map-split file_of names n nameless c.loop-name-test.true) c.loop-name.invariant.told c.loop-name.invariant.faults refl refl c.loop-name.invariant.given c.loop-name.invariant.counted
    (no-room-after inner (file_of (get_or names n nameless)) (text_of c.in-Ok.text) c.in-Ok.ensures.reads)

pub returns-clause-reads : goal.returns-clause-reads
returns-clause-reads g c =
    let names : List (Bor Text) = c.args.names.now in
    let n : ℕ = c.loop-name.name-index in
    let outer : ShelfCall = record { told = g.L.Shelf.told c.args.shelf.now; before = g.L.Shelf.faults c.args.shelf.now; after = g.L.Shelf.faults c.loop-name.shelf; reads_before = g.L.Shelf.reads c.args.shelf.now; reads_after = g.L.Shelf.reads c.loop-name.shelf } in
    let all_names : take n names ≡ names = take_all n names c.loop-name-test.false in
    all-read-to outer (map file_of names) (map text_of c.loop-name.texts.items)
    (subst (λ (l : List (Bor Text)). GivesAll outer.told (map file_of l) (map text_of c.loop-name.texts.items)) all_names c.loop-name.invariant.given) c.loop-name.invariant.counted c.loop-name.invariant.faults
