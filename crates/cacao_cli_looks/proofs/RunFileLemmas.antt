-- The files of a run are read one after another, and each is put at its number.
use Rattle.std.proofs.Common.{◌≡◌, ◌∙◌, refl, sym, ap, subst, arith, ℕ, suc, List, [], ◌∷◌, ◌++◌, length, map, Option, Some, Ok, Err}
use Rattle.std.specs.Prelude.{replicate, slice_set}
use Rattle.std.proofs.lemmas.List.{map-append, length-append, length-map}
use Rattle.cacao_cli_words.specs.Words.{Text}
use Rattle.cacao_cli_ends.specs.Asked.{audits}
use Rattle.cacao_cli_ends.specs.Ends.{End}
use Rattle.cacao_cli_ends.specs.Files.{File, Files, ShelfCall, NamedText, ReadsTo, Counts, Gives, files_of, journal_file, named, whole}
use Rattle.cacao_cli_ends.specs.Work.{placed, run_files}
use Rattle.cacao_cli_ends.proofs.ReadLemmas.{GivesAll, counts-more, gives-more, one-read, stopped-after}

abbrev pub run_list : Text → List (ℕ × Text) → List File
run_list engine filters = files_of (Some (audits engine filters))

abbrev number_of : ℕ × Text → ℕ
number_of filter = filter.0

abbrev file_of : ℕ × Text → File
file_of filter = journal_file filter.1

-- these files of the words were read, and their texts stand at their numbers
pub record IsRunSoFar (told : Option Files) (engine : Text) (filters : List (ℕ × Text)) (files : List Text) (before now : Option ℕ) : Type 0 where
  pub texts : List NamedText
  pub given : GivesAll told (run_list engine filters) texts
  pub placed_are : files ≡ run_files filters texts
  pub counted : Counts before (length texts) now

placed-more : (files : List Text) (numbers : List ℕ) (texts : List NamedText) (n : ℕ) (text : NamedText) → length numbers ≡ length texts
    → placed files (numbers ++ n ∷ []) (texts ++ text ∷ []) ≡ slice_set (placed files numbers texts) n text.bytes
placed-more files [] [] n text e = refl
placed-more files [] (t ∷ texts) n text e = absurd (omega (arith, e))
placed-more files (m ∷ numbers) [] n text e = absurd (omega (arith, e))
placed-more files (m ∷ numbers) (t ∷ texts) n text e = placed-more (slice_set files m t.bytes) numbers texts n text (omega (arith, e))

gives-length : (told : Option Files) (files : List File) (texts : List NamedText) → GivesAll told files texts → length texts ≡ length files
gives-length told [] [] h = refl
gives-length told [] (t ∷ texts) h = absurd h
gives-length told (f ∷ files) [] h = absurd h
gives-length told (f ∷ files) (t ∷ texts) h = ap suc (gives-length told files texts h.1)

list-more : (engine : Text) (filters : List (ℕ × Text)) (filter : ℕ × Text) (rest : List (ℕ × Text)) → run_list engine (filters ++ filter ∷ rest) ≡ run_list engine filters ++ file_of filter ∷ map file_of rest
list-more engine filters filter rest = ap (λ (l : List File). journal_file engine ∷ l) (map-append file_of filters (filter ∷ rest))

-- the engine's file was read
pub run-first : (shelf : ShelfCall) (engine bytes : Text) → ReadsTo shelf (journal_file engine ∷ []) (Ok (named engine bytes ∷ []))
    → IsRunSoFar shelf.told engine [] (slice_set (replicate 17 []) 0 bytes) shelf.reads_before shelf.reads_after
run-first shelf engine bytes r =
    let one = one-read shelf.told (journal_file engine) (journal_file engine ∷ []) r.count (Ok (named engine bytes ∷ [])) (named engine bytes) r.reads refl refl in
    record {
      texts = named engine bytes ∷ [];
      given = (one.1, tt);
      placed_are = refl;
      counted = subst (λ (n : ℕ). Counts shelf.reads_before n shelf.reads_after) one.0 r.counted;
    }

-- one more file was read
pub run-more : (inner : ShelfCall) (told : Option Files) (engine : Text) (filters : List (ℕ × Text)) (files : List Text) (before : Option ℕ) (filter : ℕ × Text) (bytes : Text) → inner.told ≡ told
    → IsRunSoFar told engine filters files before inner.reads_before → ReadsTo inner (journal_file filter.1 ∷ []) (Ok (named filter.1 bytes ∷ []))
    → IsRunSoFar told engine (filters ++ filter ∷ []) (slice_set files filter.0 bytes) before inner.reads_after
run-more inner told engine filters files before filter bytes same h r =
    let text : NamedText = named filter.1 bytes in
    let one = one-read inner.told (journal_file filter.1) (journal_file filter.1 ∷ []) r.count (Ok (text ∷ [])) text r.reads refl refl in
    let long : length h.texts ≡ suc (length (map file_of filters)) = gives-length told (run_list engine filters) h.texts h.given in
    record {
      texts = h.texts ++ text ∷ [];
      given = subst (λ (l : List File). GivesAll told l (h.texts ++ text ∷ [])) (sym (list-more engine filters filter []))
          (gives-more told (run_list engine filters) (journal_file filter.1) h.texts text h.given (subst (λ (t : Option Files). (text ≡ named filter.1 text.bytes) × Gives t (journal_file filter.1) (whole text.bytes)) same one.1));
      placed_are = ap (λ (l : List Text). slice_set l filter.0 bytes) h.placed_are
          ∙ sym (placed-more (replicate 17 []) (0 ∷ map number_of filters) h.texts filter.0 text (omega (arith, long, length-map filters number_of, length-map filters file_of)))
          ∙ ap (λ (l : List ℕ). placed (replicate 17 []) (0 ∷ l) (h.texts ++ text ∷ [])) (sym (map-append number_of filters (filter ∷ [])));
      counted = subst (λ (m : ℕ). Counts before m inner.reads_after) (sym (length-append h.texts (text ∷ []) ∙ omega arith))
          (counts-more before inner.reads_before inner.reads_after (length h.texts) h.counted (subst (λ (m : ℕ). Counts inner.reads_before m inner.reads_after) one.0 r.counted));
    }

-- one more file was not read
pub run-stopped : (inner outer : ShelfCall) (engine : Text) (filters rest : List (ℕ × Text)) (files : List Text) (filter : ℕ × Text) (end : End) → inner.told ≡ outer.told → inner.before ≡ outer.before → inner.after ≡ outer.after
    → inner.reads_after ≡ outer.reads_after → IsRunSoFar outer.told engine filters files outer.reads_before inner.reads_before → ReadsTo inner (journal_file filter.1 ∷ []) (Err end)
    → ReadsTo outer (run_list engine (filters ++ filter ∷ rest)) (Err end)
run-stopped inner outer engine filters rest files filter end told before after last h r =
    stopped-after inner outer (run_list engine filters) (map file_of rest) (run_list engine (filters ++ filter ∷ rest)) h.texts (journal_file filter.1) end (list-more engine filters filter rest) told before after last h.given h.counted r
