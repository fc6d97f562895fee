-- How playbooks are read of which something is told.
use Rattle.std.proofs.Common.{◌≡◌, refl, sym, subst, arith, ◌<◌, ◌≤◌, Bor, Bool, true, false, List, [], ◌∷◌, length, map, Ok, Err}
use Rattle.std.specs.Prelude.{if◌then◌else◌}
use Rattle.std.proofs.lemmas.List.{length-map}
use Rattle.cacao_cli_ends.specs.Ends.{End, no_memory, past}
use Rattle.cacao_cli_ends.specs.Files.{File, NamedText, ReadsTo, ShelfCall, book_file}
use Rattle.cacao_cli_ends.specs.declared.limit.Limit.TheVariants.{BookCount}
use Rattle.cacao_cli_ends.proofs.ReadLemmas.{Read, none-read, wanted-before}
use Rattle.cacao_cli_looks.proofs.PerformLemmas.{files-named, nat_lt-no, nat_lt-yes}
use Rattle.cacao_view_words.specs.Texts.{Text}
use Rattle.cacao_view.specs.BookReading.{ReadsBooks, ReadsOf, are_too_many, book_files}

-- too many playbooks
pub books-many : (Tells : List NamedText → List Text → End → Type 0) (books names : List Text) (shelf : ShelfCall) (lines : List Text) (end : End) → 16 < length books → shelf.reads_after ≡ shelf.reads_before
    → shelf.after ≡ shelf.before → lines ≡ [] → end ≡ past BookCount → ReadsBooks Tells books names shelf lines end
books-many Tells books names shelf lines end lt same steady none is = record {
  read = Ok [];
  reads = subst (λ (b : Bool). ReadsTo shelf (if b then [] else map book_file names) (Ok [])) (sym many) (none-read shelf same steady);
  comes = subst (λ (b : Bool). ReadsOf Tells b (Ok []) lines end) (sym many) (none, is);
}
  where
    many : are_too_many books ≡ true
    many = nat_lt-yes (length books) lt

few : (books : List Text) → length books ≤ 16 → are_too_many books ≡ false
few books le = nat_lt-no (length books) le

-- the files were read
pub books-read : (Tells : List NamedText → List Text → End → Type 0) (books names : List Text) (shelf : ShelfCall) (read : Read) (lines : List Text) (end : End) → length books ≤ 16 → ReadsTo shelf (map book_file names) read
    → ReadsOf Tells false read lines end → ReadsBooks Tells books names shelf lines end
books-read Tells books names shelf read lines end le reads comes = record {
  read = read;
  reads = subst (λ (b : Bool). ReadsTo shelf (if b then [] else map book_file names) read) (sym (few books le)) reads;
  comes = subst (λ (b : Bool). ReadsOf Tells b read lines end) (sym (few books le)) comes;
}

-- memory was wanted before the first of them was read
pub books-wanted : (Tells : List NamedText → List Text → End → Type 0) (books : List Text) (name : Text) (names : List Text) (shelf : ShelfCall) (lines : List Text) (end : End) → length books ≤ 16
    → shelf.reads_after ≡ shelf.reads_before → shelf.after ≡ shelf.before → lines ≡ [] → end ≡ no_memory → ReadsBooks Tells books (name ∷ names) shelf lines end
books-wanted Tells books name names shelf lines end le same steady none is =
    books-read Tells books (name ∷ names) shelf (Err no_memory) lines end le (wanted-before shelf (book_file name) (map book_file names) same steady) (none, is)

-- there are files to be read
pub books-there : (books : List Text) (name : Text) (names : List Text) → length books ≤ 16 → book_files books (name ∷ names) ≡ [] → ⊥
books-there books name names le e = go (subst (λ (b : Bool). (if b then [] else map book_file (name ∷ names)) ≡ []) (few books le) e)
  where
    go : map book_file (name ∷ names) ≡ [] → ⊥
    go f = cc

-- the names as they are handed in
pub names-read : (handed : List (Bor Text)) (names : List Text) (shelf : ShelfCall) (read : Read) → map (λ name. name.now) handed ≡ names → ReadsTo shelf (map (λ name. book_file name.now) handed) read
    → ReadsTo shelf (map book_file names) read
names-read handed names shelf read is reads =
    subst (λ (l : List Text). ReadsTo shelf (map book_file l) read) is (subst (λ (files : List File). ReadsTo shelf files read) (files-named handed) reads)

-- playbooks alone, by their names as they are handed in
pub books-named : (Tells : List NamedText → List Text → End → Type 0) (handed : List (Bor Text)) (shelf : ShelfCall) (read : Read) (lines : List Text) (end : End) → length handed ≤ 16
    → ReadsTo shelf (map (λ name. book_file name.now) handed) read → ReadsOf Tells false read lines end → ReadsBooks Tells (map (λ name. name.now) handed) (map (λ name. name.now) handed) shelf lines end
books-named Tells handed shelf read lines end le reads comes =
    books-read Tells (map (λ name. name.now) handed) (map (λ name. name.now) handed) shelf read lines end (omega (arith, le, length-map handed (λ (name : Bor Text). name.now)))
    (names-read handed (map (λ name. name.now) handed) shelf read refl reads) comes
