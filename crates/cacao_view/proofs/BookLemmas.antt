-- What becomes of a call that tells of playbooks.
use Rattle.std.proofs.Common.{◌≡◌, ◌⊎◌, ◌∙◌, inl, inr, refl, sym, ap, subst, arith, ℕ, ◌==◌, Bool, true, false, List, [], ◌∷◌, map, Option, Some, None, Ok, Err}
use Rattle.std.specs.Prelude.{if◌then◌else◌}
use Rattle.cacao_site.specs.Counts.{next_count}
use Rattle.cacao_cli_ends.specs.Comes.{IfFilesTold, IsOneOf, file_faults}
use Rattle.cacao_cli_ends.specs.Ends.{End, no_memory, no_such_file, past, shelf_failed, status_of}
use Rattle.cacao_cli_ends.specs.Files.{Content, File, Files, NamedText, Reads, ShelfCall, all_read, book_file, failed, faults_behind, goes_on, item_then, missing, named, no_room, reading, stops, text_in, too_long, wants_memory, whole}
use Rattle.cacao_cli_ends.proofs.LineLemmas.{IsCutOff, cut-among}
use Rattle.cacao_cli_ends.proofs.ReadLemmas.{Fails, Read, by_memory, by_shelf, empty-read, reads-told}
use Rattle.cacao_cli_ends.proofs.StatusLists.{not-among, widen}
use Rattle.cacao_view_words.specs.Texts.{Text}
use Rattle.cacao_view.specs.BookReading.{ReadsBooks, ReadsOf, are_too_many, book_files}
use Rattle.cacao_view.specs.BookStatuses.{BookStatus, HasEnd}

-- ---- the status of a file that gave no bytes

abbrev pub file_list : List ℕ
file_list = 3 ∷ 4 ∷ 10 ∷ 11 ∷ []

content-end : (file : File) (content : Content) (end : End) → text_in file content ≡ Err end → IsOneOf (status_of end) file_list
content-end file (whole bytes) end e = absurd (cc)
content-end file missing end e = let is : end ≡ no_such_file file.name = cc in inr (inl (ap status_of is))
content-end file too_long end e = let is : end ≡ past file.limit = cc in inr (inr (inr (inl (ap status_of is))))
content-end file failed end e = let is : end ≡ shelf_failed file.name = cc in inl (ap status_of is)
content-end file no_room end e = let is : end ≡ no_memory = cc in inr (inr (inl (ap status_of is)))

pub file-end : (told : Option Files) (list : List File) (count : ℕ) (read : Read) (end : End) → Reads told list count read → read ≡ Err end → IsOneOf (status_of end) file_list
file-end told list count read end all_read e = absurd (cc)
file-end told list count read end (wants_memory file behind) e = let is : end ≡ no_memory = cc in inr (inr (inl (ap status_of is)))
file-end told list count read end (stops file behind content stop gives is) e =
    let same : end ≡ stop = cc in subst (λ (x : End). IsOneOf (status_of x) file_list) (sym same) (content-end file content stop is)
file-end told list count read end (goes_on file behind bytes more rest gives reads) e = go rest (λ f. file-end told behind more rest end reads f) e
  where
    go : (r : Read) → (r ≡ Err end → IsOneOf (status_of end) file_list) → item_then (Ok (named file.name bytes)) r ≡ Err end → IsOneOf (status_of end) file_list
    go (Err stop) h e = h e
    go (Ok texts) h e = absurd (cc)

-- ---- the status of the end

-- the status of the end, where all files gave texts, and in any case
abbrev pub texts_list : List ℕ
texts_list = 0 ∷ 1 ∷ 5 ∷ 10 ∷ []

abbrev pub books_list : List ℕ
books_list = 0 ∷ 1 ∷ 3 ∷ 4 ∷ 5 ∷ 10 ∷ 11 ∷ []

one-is : (n m : ℕ) (ns : List ℕ) → n ≡ m → IsOneOf m ns → IsOneOf n ns
one-is n m ns e h = subst (λ (k : ℕ). IsOneOf k ns) (sym e) h

module _ (Tells : List NamedText → List Text → End → Type 0) (books names : List Text) (shelf : ShelfCall) (lines : List Text) (end : End) (d : ReadsBooks Tells books names shelf lines end)
    (own : (texts : List NamedText) → Tells texts lines end → IsOneOf (status_of end) texts_list) where
  abbrev list : List File
  list = book_files books names

  read-listed : (b : Bool) (read : Read) → ((why : End) → read ≡ Err why → IsOneOf (status_of why) file_list) → ReadsOf Tells b read lines end → IsOneOf (status_of end) books_list
  read-listed true read file h = one-is (status_of end) 11 books_list (ap status_of h.1) (inr (inr (inr (inr (inr (inr (inl refl)))))))
  read-listed false (Err why) file h = one-is (status_of end) (status_of why) books_list (ap status_of h.1) (widen (status_of why) file_list books_list refl (file why refl))
  read-listed false (Ok texts) file h = widen (status_of end) texts_list books_list refl (own texts h)

  pub books-listed : IsOneOf (status_of end) books_list
  books-listed = read-listed (are_too_many books) d.read (λ why e. file-end shelf.told list d.reads.count d.read why d.reads.reads e) d.comes

  -- ---- the faults of the shelf

  is-three : (n : ℕ) → true ≡ (n == 3) → n ≡ 3
  is-three n e = grind arith

  three-is : (n : ℕ) → n ≡ 3 → (n == 3) ≡ true
  three-is n e = grind arith

  read-three : (b : Bool) (r : Read) → ReadsOf Tells b r lines end → status_of end ≡ 3 → faults_behind shelf.before r ≡ next_count shelf.before
  read-three true r h e = absurd (let k : status_of end ≡ 11 = ap status_of h.1 in omega (arith, e, k))
  read-three false (Err why) h e = ap (λ (b : Bool). if b then next_count shelf.before else shelf.before) (three-is (status_of why) (sym (ap status_of h.1) ∙ e))
  read-three false (Ok texts) h e = absurd (not-among 3 texts_list refl (subst (λ (k : ℕ). IsOneOf k texts_list) e (own texts h)))

  pub books-failed : status_of end ≡ 3 → shelf.after ≡ next_count shelf.before
  books-failed e = d.reads.faults ∙ read-three (are_too_many books) d.read d.comes e

  read-steady : (b : Bool) (r : Read) → (b ≡ true → r ≡ Ok []) → ReadsOf Tells b r lines end → (status_of end ≡ 3 → ⊥) → faults_behind shelf.before r ≡ shelf.before
  read-steady b (Ok texts) none h other = refl
  read-steady true (Err why) none h other = absurd (let no : Err why ≡ Ok [] = none refl in cc)
  read-steady false (Err why) none h other = go (status_of why == 3) refl
    where
      go : (t : Bool) → t ≡ (status_of why == 3) → (if status_of why == 3 then next_count shelf.before else shelf.before) ≡ shelf.before
      go true e = absurd (other (ap status_of h.1 ∙ is-three (status_of why) e))
      go false e = ap (λ (b : Bool). if b then next_count shelf.before else shelf.before) (sym e)

  pub books-steady : (status_of end ≡ 3 → ⊥) → shelf.after ≡ shelf.before
  books-steady other = d.reads.faults ∙ read-steady (are_too_many books) d.read (none-read (are_too_many books) refl) d.comes other
    where
      none-read : (b : Bool) → are_too_many books ≡ b → b ≡ true → d.read ≡ Ok []
      none-read b is e = (empty-read shelf.told d.reads.count d.read
          (subst (λ (l : List File). Reads shelf.told l d.reads.count d.read) (ap (λ (x : Bool). if x then [] else map book_file names) (is ∙ e)) d.reads.reads)).1

  -- a file that failed, or memory that was wanted, tells a fault
  pub books-fault : (n : ℕ) → n ≡ status_of end → (b : Bool) (r : Read) → Fails (if b then [] else map book_file names) r → ReadsOf Tells b r lines end → IsOneOf n (file_faults (if b then [] else map book_file names))
  books-fault n is true r (by_shelf name e none) h = absurd (cc)
  books-fault n is true r (by_memory e none) h = absurd (cc)
  books-fault n is false r (by_shelf name e faults) h =
      let told = subst (λ (x : Read). ReadsOf Tells false x lines end) e h in
      subst (IsOneOf n) (sym faults) (inl (is ∙ ap status_of told.1))
  books-fault n is false r (by_memory e faults) h =
      let told = subst (λ (x : Read). ReadsOf Tells false x lines end) e h in
      subst (IsOneOf n) (sym faults) (inr (inr (inl (is ∙ ap status_of told.1))))

  -- ---- the status and its cause

  -- the texts come to an end of their own, or memory was wanted
  module _ (Comes : List NamedText → List Text → End → Type 0) (settled : (texts : List NamedText) → Tells texts lines end → Comes texts lines end ⊎ (end ≡ no_memory)) (n : ℕ) (is : (n ≡ status_of end) ⊎ IsCutOff n) where
    read-settled : (b : Bool) (r : Read) → ReadsOf Tells b r lines end → ReadsOf Comes b r lines end ⊎ (end ≡ no_memory)
    read-settled true r h = inl h
    read-settled false (Err why) h = inl h
    read-settled false (Ok texts) h = settled texts h

    abbrev Has : Files → Type 0
    Has files = HasEnd Comes books names files n ⊎ IsOneOf n (file_faults list)

    same-read : (files : Files) → n ≡ status_of end → d.read ≡ reading files list → Has files
    same-read files s same = go (read-settled (are_too_many books) d.read d.comes)
      where
        go : ReadsOf Comes (are_too_many books) d.read lines end ⊎ (end ≡ no_memory) → Has files
        go (inl h) = inl (record { lines = lines; end = end; comes = subst (λ (r : Read). ReadsOf Comes (are_too_many books) r lines end) same h; status = s })
        go (inr m) = inr (cut-among n list (inr (inl (s ∙ ap status_of m))))

    read-has : (files : Files) → (d.read ≡ reading files list) ⊎ Fails list d.read → Has files
    read-has files r = go is r
      where
        go : (n ≡ status_of end) ⊎ IsCutOff n → (d.read ≡ reading files list) ⊎ Fails list d.read → Has files
        go (inr c) r = inr (cut-among n list c)
        go (inl s) (inl same) = same-read files s same
        go (inl s) (inr fails) = inr (books-fault n s (are_too_many books) d.read fails d.comes)

    books-told : (l : List File) → list ≡ l → IfFilesTold l shelf.told Has
    books-told [] none = λ files. read-has files (inl ((empty-read shelf.told d.reads.count d.read (subst (λ (l : List File). Reads shelf.told l d.reads.count d.read) none d.reads.reads)).1 ∙ ap (reading files) (sym none)))
    books-told (file ∷ more) some = go shelf.told refl
      where
        go : (o : Option Files) → shelf.told ≡ o → IfFilesTold (file ∷ more) o Has
        go None e = tt
        go (Some files) e = read-has files (reads-told files list d.reads.count d.read (subst (λ (o : Option Files). Reads o list d.reads.count d.read) e d.reads.reads))

    pub books-status : BookStatus Comes books names shelf.told n
    books-status = books-told list refl
