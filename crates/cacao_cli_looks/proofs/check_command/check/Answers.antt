-- The files are read, then their trees, and then they are judged.
use Rattle.std.proofs.Common.{◌≡◌, ◌⊎◌, ◌∙◌, refl, sym, ap, subst, arith, Bor, List, length, map, Ok, Err}
use Rattle.std.proofs.lemmas.List.{length-map}
use Rattle.serde_json.specs.Data.{Data}
use Rattle.cacao_json.specs.Tree.{data_of}
use Rattle.cacao_site.specs.View.{SiteView}
use Rattle.cacao_check.specs.declared.breaks.Mode.TheVariants.{Read as Reading}
use Rattle.cacao_cli_words.specs.Words.{Text}
use Rattle.cacao_cli_ends.specs.Told.{end_of}
use Rattle.cacao_cli_looks.specs.Command.{text_of, IsJudgement}
use Rattle.cacao_cli_ends.specs.Ends.{End, no_memory}
use Rattle.cacao_cli_ends.specs.Files.{ShelfCall, NamedText, book_file}
use Rattle.cacao_cli_ends.specs.Work.{trees_of}
use Rattle.cacao_cli_looks.specs.declared.file_text.FileText.{FileText}
use Rattle.cacao_cli_ends.proofs.ReadLemmas.{reads-length}
use Rattle.cacao_cli_looks.proofs.PerformLemmas.{check-many, check-read, check-unread, check-treeless, check-judged}
use Rattle.cacao_cli_ends.proofs.TreeLemmas.{trees-length}
use Rattle.cacao_cli_looks.proofs.check_command.check.Goals as goal

pub returns-then-names-most-clause-performed : goal.returns-then-names-most-clause-performed
returns-then-names-most-clause-performed g c =
    let shelf : ShelfCall = record { told = g.L.Shelf.told c.args.shelf.now; before = g.L.Shelf.faults c.args.shelf.now; after = g.L.Shelf.faults c.args.shelf.now; reads_before = g.L.Shelf.reads c.args.shelf.now; reads_after = g.L.Shelf.reads c.args.shelf.now } in
    check-many c.args.names.now shelf (g.S.Disk.view c.args._site.now) (omega (arith, c.most.ensures)) refl refl

pub returns-in-Err-clause-performed : goal.returns-in-Err-clause-performed
returns-in-Err-clause-performed g c =
    let shelf : ShelfCall = record { told = g.L.Shelf.told c.args.shelf.now; before = g.L.Shelf.faults c.args.shelf.now; after = g.L.Shelf.faults c.read_files.new.shelf; reads_before = g.L.Shelf.reads c.args.shelf.now; reads_after = g.L.Shelf.reads c.read_files.new.shelf } in
    let site : SiteView = g.S.Disk.view c.args._site.now in
    check-read c.args.names.now shelf site (Err (end_of c.in-Err.end)) (end_of c.in-Err.end) (omega (arith, c.most.ensures)) c.in-Err.ensures.reads (check-unread (map (λ name. name.now) c.args.names.now) site (end_of c.in-Err.end))

pub returns-clause-performed : goal.returns-clause-performed
returns-clause-performed g c =
    let shelf : ShelfCall = record { told = g.L.Shelf.told c.args.shelf.now; before = g.L.Shelf.faults c.args.shelf.now; after = g.L.Shelf.faults c.read_files.new.shelf; reads_before = g.L.Shelf.reads c.args.shelf.now; reads_after = g.L.Shelf.reads c.read_files.new.shelf } in
    let site : SiteView = g.S.Disk.view c.args._site.now in
    let texts : List NamedText = map text_of c.in-Ok.texts.items in
    let end : End = end_of c.in-Err-trees_of.end in
    check-read c.args.names.now shelf site (Ok texts) end (omega (arith, c.most.ensures)) c.in-Ok.ensures.reads
    (check-treeless (map (λ name. name.now) c.args.names.now) texts site end (subst (λ (l : List FileText). (trees_of (map text_of l) ≡ Err end) ⊎ (end ≡ no_memory)) c.as_slice.ensures.value c.in-Err-trees_of.ensures))

pub returns-in-Ok-trees_of-clause-performed : goal.returns-in-Ok-trees_of-clause-performed
returns-in-Ok-trees_of-clause-performed g c =
    let shelf : ShelfCall = record { told = g.L.Shelf.told c.args.shelf.now; before = g.L.Shelf.faults c.args.shelf.now; after = g.L.Shelf.faults c.read_files.new.shelf; reads_before = g.L.Shelf.reads c.args.shelf.now; reads_after = g.L.Shelf.reads c.read_files.new.shelf } in
    let site : SiteView = g.S.Disk.view c.args._site.now in
    let texts : List NamedText = map text_of c.in-Ok.texts.items in
    let end : End = end_of c.judge-end.result in
    let roots : List Data = map data_of c.in-Ok-trees_of.trees.items in
    let all : trees_of texts ≡ Ok roots = ap (λ (l : List FileText). trees_of (map text_of l)) (sym c.as_slice.ensures.value) ∙ c.in-Ok-trees_of.ensures in
    check-read c.args.names.now shelf site (Ok texts) end (omega (arith, c.most.ensures)) c.in-Ok.ensures.reads
    (check-judged (map (λ name. name.now) c.args.names.now) texts roots site end all (subst (λ l. IsJudgement (map data_of l) Reading end) c.as_slice-in-Ok-trees_of.ensures.value c.judge-end.ensures))

tree_count : (names : List (Bor Text)) (texts : List FileText) (roots : List Data) → length (map text_of texts) ≡ length (map (λ (name : Bor Text). book_file name.now) names) → trees_of (map text_of texts) ≡ Ok roots → length roots ≡ length names
tree_count names texts roots same all = trees-length (map text_of texts) roots all ∙ same ∙ length-map names (λ (name : Bor Text). book_file name.now)

pub judge-end-requires-clause-few : goal.judge-end-requires-clause-few
judge-end-requires-clause-few g c =
    let texts : List FileText = c.in-Ok.texts.items in
    let roots : List Data = map data_of c.in-Ok-trees_of.trees.items in
    let all : trees_of (map text_of texts) ≡ Ok roots = ap (λ (l : List FileText). trees_of (map text_of l)) (sym c.as_slice.ensures.value) ∙ c.in-Ok-trees_of.ensures in
    let same = reads-length (g.L.Shelf.told c.args.shelf.now) (map (λ (name : Bor Text). book_file name.now) c.args.names.now) c.in-Ok.ensures.reads.count (Ok (map text_of texts)) (map text_of texts) c.in-Ok.ensures.reads.reads refl in
    let count = tree_count c.args.names.now texts roots same all in
    omega (arith, count, length-map c.in-Ok-trees_of.trees.items data_of, ap length c.as_slice-in-Ok-trees_of.ensures.value, c.most.ensures)

pub judge-end-requires-clause-some : goal.judge-end-requires-clause-some
judge-end-requires-clause-some g c =
    let texts : List FileText = c.in-Ok.texts.items in
    let roots : List Data = map data_of c.in-Ok-trees_of.trees.items in
    let all : trees_of (map text_of texts) ≡ Ok roots = ap (λ (l : List FileText). trees_of (map text_of l)) (sym c.as_slice.ensures.value) ∙ c.in-Ok-trees_of.ensures in
    let same = reads-length (g.L.Shelf.told c.args.shelf.now) (map (λ (name : Bor Text). book_file name.now) c.args.names.now) c.in-Ok.ensures.reads.count (Ok (map text_of texts)) (map text_of texts) c.in-Ok.ensures.reads.reads refl in
    let count = tree_count c.args.names.now texts roots same all in
    omega (arith, count, length-map c.in-Ok-trees_of.trees.items data_of, ap length c.as_slice-in-Ok-trees_of.ensures.value, c.requires)
