-- The files of a run: how many, their names, and what reading them comes to.
use Rattle.std.proofs.Common.{◌≡◌, ◌∙◌, refl, sym, ap, arith, ℕ, ◌≤◌, Bool, List, [], ◌∷◌, ◌++◌, length, length-append, length-take-le, map, Bor, Option, Some, Ok, Err}
use Rattle.std.specs.Prelude.{if◌then◌else◌}
use Rattle.std.proofs.lemmas.List.{length-map}
use Rattle.cacao_cli_words.specs.Requests.{RunRequest}
use Rattle.cacao_cli_words.specs.Words.{Text}
use Rattle.cacao_cli_ends.specs.Asked.{runs}
use Rattle.cacao_cli_ends.specs.Files.{File, Files, NamedText, Reads, all_read, wants_memory, stops, goes_on, book_file, files_of, item_then, listed, run_names}
use Rattle.cacao_cli_starts.specs.Starting.{AreNamed, IsStartFrom}
use Rattle.cacao_cli_ends.specs.Work.{Start, behind_books, book_texts, bytes_of, first_if}
use Rattle.cacao_cli_starts.specs.declared.run_texts.RunTexts.{RunTexts}
use Rattle.cacao_cli_starts.proofs.PartLemmas.{the-name}
use Rattle.cacao_cli_looks.proofs.PerformLemmas.{files-named, nat_lt-no}
use Rattle.cacao_cli_ends.proofs.ReadLemmas.{Read}

-- the files of names
pub named-files : (slice names : List (Bor Text)) (texts : List Text) → slice ≡ names → map (λ name. name.now) names ≡ texts → map (λ name. book_file name.now) slice ≡ map book_file texts
named-files slice names texts same are = files-named slice ∙ ap (map book_file) (ap (map (λ (name : Bor Text). name.now)) same ∙ are)

pub files-back : (texts : List Text) → map (λ (file : File). file.name) (map book_file texts) ≡ texts
files-back [] = refl
files-back (text ∷ texts) = ap (λ (l : List Text). text ∷ l) (files-back texts)

-- each text has the name of its file
pub reads-names : (told : Option Files) (list : List File) (count : ℕ) (read : Read) (texts : List NamedText) → Reads told list count read → read ≡ Ok texts → map the-name texts ≡ map (λ (file : File). file.name) list
reads-names told list count read texts all_read e = let is : texts ≡ [] = cc in ap (map the-name) is
reads-names told list count read texts (wants_memory file behind) e = absurd (cc)
reads-names told list count read texts (stops file behind content end gives is) e = absurd (cc)
reads-names told list count read texts (goes_on file behind bytes more rest gives reads) e = go rest (λ ts f. reads-names told behind more rest ts reads f) e
  where
    go : (r : Read) → ((ts : List NamedText) → r ≡ Ok ts → map the-name ts ≡ map (λ (file : File). file.name) behind) → item_then (Ok (record { name = file.name; bytes = bytes })) r ≡ Ok texts
        → map the-name texts ≡ map (λ (file : File). file.name) (file ∷ behind)
    go (Err end) h e = absurd (cc)
    go (Ok ts) h e = let is : texts ≡ record { name = file.name; bytes = bytes } ∷ ts = cc in ap (map the-name) is ∙ ap (λ (l : List Text). file.name ∷ l) (h ts refl)

-- there is a file at least
pub some-files : (wanted : RunRequest) → 1 ≤ length wanted.books → length wanted.books ≤ 16 → files_of (Some (runs wanted)) ≡ [] → ⊥
some-files wanted some few e = by (run_names wanted) long (sym (ap (λ (b : Bool). if b then [] else map book_file (run_names wanted)) (nat_lt-no (length wanted.books) few)) ∙ e)
  where
    long : 1 ≤ length (run_names wanted)
    long = let sum = length-append wanted.books (listed wanted.bind ++ listed wanted.answers) in omega (arith, sum, some)

    by : (names : List Text) → 1 ≤ length names → map book_file names ≡ [] → ⊥
    by [] le e = omega (arith, le)
    by (name ∷ names) le e = cc

-- as many texts of playbooks as names
pub start-long : (wanted : RunRequest) (texts : List NamedText) (parts : RunTexts) → IsStartFrom wanted texts parts → length texts ≡ length (run_names wanted) → length parts.books.items ≡ length wanted.books
start-long wanted texts parts is many =
    let sum = length-append wanted.books (listed wanted.bind ++ listed wanted.answers) in
    ap (λ (s : Start). length s.books) is ∙ length-map (book_texts wanted texts) (λ (text : NamedText). text.bytes) ∙ length-take-le (length wanted.books) texts (omega (arith, many, sum))

-- no text of bindings is there where none is named
pub parts-named : (wanted : RunRequest) (texts : List NamedText) (parts : RunTexts) → IsStartFrom wanted texts parts → length texts ≡ length (run_names wanted) → AreNamed wanted parts
parts-named wanted texts parts is many = record {
  books = start-long wanted texts parts is many;
  bind = λ none. ap (λ (s : Start). s.bind) is ∙ ap (λ (bind : Option Text). bytes_of (first_if bind (behind_books wanted texts))) none;
}
