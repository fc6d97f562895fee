-- The files of a fleet's playbooks, and what a call comes to that reads and judges them.
use Rattle.std.proofs.Common.{◌≡◌, ◌⊎◌, inl, inr, ◌∙◌, refl, sym, ap, subst, arith, ℕ, ◌<◌, ◌≤◌, Bor, List, [], ◌∷◌, length, map, take_all, take, get_or, Option, Some, None, Ok, Err}
use Rattle.std.specs.Prelude.{IsSome, slice_get}
use Rattle.std.proofs.lemmas.List.{length-map}
use Rattle.std.proofs.lemmas.Option.{slice_get-get_or, slice_get-map}
use Rattle.serde_json.specs.Data.{Data}
use Rattle.cacao_json.specs.Reading.{tree}
use Rattle.flow_fleet_steps.specs.Openings.{Runs, numbers}
use Rattle.cacao_cli_words.specs.Commands.{fleet_request_by}
use Rattle.cacao_cli_words.specs.Requests.{FleetRequest}
use Rattle.cacao_cli_words.specs.RunBooks.{run_of}
use Rattle.cacao_cli_words.specs.Words.{Text}
use Rattle.cacao_cli_words.specs.declared.fleet_words.FleetWords.{FleetWords}
use Rattle.cacao_cli_words.specs.declared.run_book.RunBook.{RunBook}
use Rattle.cacao_cli_ends.specs.Ends.{End, no_memory}
use Rattle.cacao_cli_ends.specs.Files.{File, NamedText, ReadsTo, ShelfCall, book_file}
use Rattle.cacao_cli_ends.specs.Work.{trees_of}
use Rattle.cacao_cli_ends.proofs.ReadLemmas.{reads-length, wanted-before}
use Rattle.cacao_cli_looks.specs.Command.{text_of}
use Rattle.cacao_cli_looks.specs.declared.file_text.FileText.{FileText}
use Rattle.cacao_cli_looks.proofs.PerformLemmas.{files-named}
use Rattle.cacao_cli_fleets.specs.FleetEnds.{FleetEnd, plain}
use Rattle.cacao_cli_fleets.specs.FleetTexts.{fleet_files}
use Rattle.cacao_cli_fleets.specs.Fleeting.{GivesNone}
use Rattle.cacao_cli_fleets.specs.Judging.{AreFirst, AreSetUp, RefusesSome}
use Rattle.cacao_cli_fleets.proofs.ReadyLemmas.{name_of, number_of}
use Rattle.cacao_cli_fleets.proofs.RunLemmas.{first_of}
use Rattle.cacao_cli_fleets.proofs.TextLemmas.{tree-there}

-- each text has a tree
pub readable : (items : List FileText) (roots : List Data) → trees_of (map text_of items) ≡ Ok roots → (k : ℕ) (d : FileText) → k < length items → IsSome (tree (get_or items k d).bytes)
readable items roots e k d lt = tree-there (map text_of items) roots e k (text_of (get_or items k d)) (slice_get-map text_of items k ∙ ap (λ (o : Option FileText). map-some o) (slice_get-get_or items k d lt))
  where
    map-some : Option FileText → Option NamedText
    map-some None = None
    map-some (Some x) = Some (text_of x)

numbers-map : (runs : List RunBook) → map number_of runs ≡ map first_of (map run_of runs)
numbers-map [] = refl
numbers-map (one ∷ runs) = ap (λ (l : List ℕ). one.run ∷ l) (numbers-map runs)

pub set-up : (wanted : FleetWords) (pairs : List RunBook) (texts : List NamedText) (roots : List Data) (runs : Runs) → pairs ≡ wanted.runs.items → trees_of texts ≡ Ok roots → AreFirst pairs texts (length pairs) runs → AreSetUp (fleet_request_by wanted) texts runs
set-up wanted pairs texts roots runs is trees first = record {
  roots = roots;
  trees = trees;
  ready = record {
    numbered = first.numbered ∙ ap (map number_of) (take_all (length pairs) pairs (omega arith)) ∙ ap (map number_of) is ∙ numbers-map wanted.runs.items;
    gives = first.gives;
  };
}

pub gives-none : (texts : List NamedText) (roots : List Data) (end : End) → trees_of texts ≡ Ok roots → RefusesSome texts end → GivesNone texts (plain end)
gives-none texts roots end trees (inl (place, broken, first, is)) = inr (inl (record { roots = roots; trees = trees; place = place; broken = broken; first = first; ends = ap plain is }))
gives-none texts roots end trees (inr is) = inr (inr (ap plain is))

-- ---- files

files-map : (runs : List RunBook) → map book_file (map name_of runs) ≡ map (λ (pair : ℕ × Text). book_file pair.1) (map run_of runs)
files-map [] = refl
files-map (one ∷ runs) = ap (λ (l : List File). book_file one.book.now ∷ l) (files-map runs)

pub files-are : (wanted : FleetWords) (slice names : List (Bor Text)) (runs : List RunBook) → slice ≡ names → map (λ (name : Bor Text). name.now) names ≡ map name_of runs → runs ≡ wanted.runs.items
    → map (λ (name : Bor Text). book_file name.now) slice ≡ fleet_files (fleet_request_by wanted)
files-are wanted slice names runs same are is =
    files-named slice ∙ ap (map book_file) (ap (map (λ (name : Bor Text). name.now)) same ∙ are ∙ ap (map name_of) is) ∙ files-map wanted.runs.items

files-long : (wanted : FleetWords) → length (fleet_files (fleet_request_by wanted)) ≡ length wanted.runs.items
files-long wanted = length-map (map run_of wanted.runs.items) (λ (pair : ℕ × Text). book_file pair.1) ∙ length-map wanted.runs.items run_of

pub texts-long : (wanted : FleetWords) (shelf : ShelfCall) (items : List FileText) → ReadsTo shelf (fleet_files (fleet_request_by wanted)) (Ok (map text_of items)) → length items ≡ length wanted.runs.items
texts-long wanted shelf items reads =
    sym (length-map items text_of) ∙ reads-length shelf.told (fleet_files (fleet_request_by wanted)) reads.count (Ok (map text_of items)) (map text_of items) reads.reads refl ∙ files-long wanted

-- memory was wanted before the first file
pub none-read-yet : (wanted : FleetWords) (shelf : ShelfCall) → shelf.reads_after ≡ shelf.reads_before → shelf.after ≡ shelf.before → ReadsTo shelf (fleet_files (fleet_request_by wanted)) (Err no_memory)
none-read-yet wanted shelf reads faults = go (fleet_files (fleet_request_by wanted)) (let some = wanted.some in let long = files-long wanted in omega (arith, some, long))
  where
    go : (files : List File) → 1 ≤ length files → ReadsTo shelf files (Err no_memory)
    go [] le = absurd (omega (arith, le))
    go (file ∷ behind) le = wanted-before shelf file behind reads faults
