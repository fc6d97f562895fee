-- What reading files comes to.
use Rattle.std.proofs.Common.{zero, suc, ◌+◌, ◌++◌, take, drop, get_or, map, drop-cons, ◌≡◌, ◌⊎◌, inl, inr, ◌∙◌, refl, sym, ap, subst, arith, ℕ, ◌≤◌, ◌<◌, true, false, List, [], ◌∷◌, length, Option, Some, None, Result, Ok, Err}
use Rattle.std.specs.Prelude.{IsSomeAnd, nat_le, if◌then◌else◌}
use Rattle.std.proofs.lemmas.List.{map-append, take_more, take-append-drop}
use Rattle.cacao_site.specs.Counts.{CountsOne, next_count}
use Rattle.cacao_cli_words.specs.Words.{Text}
use Rattle.cacao_cli_ends.specs.Ends.{End, most, shelf_failed, no_memory}
use Rattle.cacao_cli_ends.specs.Comes.{file_faults}
use Rattle.cacao_cli_ends.specs.Files.{File, Files, Content, ShelfCall, NamedText, Gives, Reads, ReadsTo, Counts, counted, whole, missing, too_long, failed, no_room, named, text_in, item_then, content_in, reading, faults_behind, all_read, wants_memory, stops, goes_on}
use Rattle.cacao_cli_ends.specs.declared.limit.Limit.{Limit}

abbrev pub Read : Type 0
Read = Result (List NamedText) End

pub counts-none : (o : Option ℕ) → Counts o 0 o
counts-none None = tt
counts-none (Some n) = refl

pub counts-one : (a b : Option ℕ) → CountsOne a b → Counts a 1 b
counts-one None None h = tt
counts-one None (Some b) h = absurd h
counts-one (Some a) None h = absurd h
counts-one (Some a) (Some b) h = h

-- ---- one file

-- the file gave its bytes
pub reads-one : (told : Option Files) (file : File) (bytes : Text) → Gives told file (whole bytes) → Reads told (file ∷ []) 1 (Ok (named file.name bytes ∷ []))
reads-one told file bytes gives = goes_on file [] bytes 0 (Ok []) gives all_read

pub one-whole : (shelf : ShelfCall) (file : File) (bytes : Text) → Gives shelf.told file (whole bytes) → CountsOne shelf.reads_before shelf.reads_after → shelf.after ≡ shelf.before
    → ReadsTo shelf (file ∷ []) (Ok (named file.name bytes ∷ []))
one-whole shelf file bytes gives one steady = record {
  count = 1;
  reads = reads-one shelf.told file bytes gives;
  counted = counts-one shelf.reads_before shelf.reads_after one;
  faults = steady;
}

pub one-stopped : (shelf : ShelfCall) (file : File) (content : Content) (end : End) → Gives shelf.told file content → text_in file content ≡ Err end → CountsOne shelf.reads_before shelf.reads_after
    → shelf.after ≡ faults_behind shelf.before (Err end) → ReadsTo shelf (file ∷ []) (Err end)
one-stopped shelf file content end gives puts one faults = record {
  count = 1;
  reads = stops file [] content end gives puts;
  counted = counts-one shelf.reads_before shelf.reads_after one;
  faults = faults;
}

-- memory was wanted before the first file was read
pub wanted-before : (shelf : ShelfCall) (file : File) (behind : List File) → shelf.reads_after ≡ shelf.reads_before → shelf.after ≡ shelf.before → ReadsTo shelf (file ∷ behind) (Err no_memory)
wanted-before shelf file behind same steady = record { count = 0; reads = wants_memory file behind; counted = subst (Counts shelf.reads_before 0) (sym same) (counts-none shelf.reads_before); faults = steady }

pub none-read : (shelf : ShelfCall) → shelf.reads_after ≡ shelf.reads_before → shelf.after ≡ shelf.before → ReadsTo shelf [] (Ok [])
none-read shelf same steady = record { count = 0; reads = all_read; counted = subst (Counts shelf.reads_before 0) (sym same) (counts-none shelf.reads_before); faults = steady }

pub empty-read : (told : Option Files) (count : ℕ) (read : Read) → Reads told [] count read → (count ≡ 0) × (read ≡ Ok [])
empty-read told count read all_read = (refl, refl)

-- ---- told files

-- a read failed, or memory was wanted
pub data Fails (files : List File) (read : Read) : Type 0 where
  by_shelf : (name : Text) → read ≡ Err (shelf_failed name) → file_faults files ≡ 3 ∷ 9 ∷ 10 ∷ [] → Fails files read
  by_memory : read ≡ Err no_memory → file_faults files ≡ 3 ∷ 9 ∷ 10 ∷ [] → Fails files read

nat_le-yes : (n m : ℕ) → n ≤ m → nat_le n m ≡ true
nat_le-yes n m le = grind arith

nat_le-no : (n m : ℕ) → m < n → nat_le n m ≡ false
nat_le-no n m lt = grind arith

content-whole : (limit : Limit) (o : Option Text) (bytes : Text) → length bytes ≤ most limit → o ≡ Some bytes → content_in limit o ≡ whole bytes
content-whole limit o bytes le is = ap (content_in limit) is ∙ ap (λ b. if b then whole bytes else too_long) (nat_le-yes (length bytes) (most limit) le)

content-long : (limit : Limit) (o : Option Text) → IsSomeAnd o (λ bytes. most limit < length bytes) → content_in limit o ≡ too_long
content-long limit None h = absurd h
content-long limit (Some bytes) h = ap (λ b. if b then whole bytes else too_long) (nat_le-no (length bytes) (most limit) h)

stopped-told : (files : Files) (file : File) (behind : List File) (content : Content) (end : End) → Gives (Some files) file content → text_in file content ≡ Err end
    → (Err end ≡ reading files (file ∷ behind)) ⊎ Fails (file ∷ behind) (Err end)
stopped-told files file behind content end gives is = go content gives is
  where
    go : (content : Content) → Gives (Some files) file content → text_in file content ≡ Err end → (Err end ≡ reading files (file ∷ behind)) ⊎ Fails (file ∷ behind) (Err end)
    go (whole bytes) gives is = absurd (cc)
    go missing gives is = inl (sym (ap (λ (t : Result NamedText End). item_then t (reading files behind)) is) ∙ ap (λ (o : Option Text). item_then (text_in file (content_in file.limit o)) (reading files behind)) (sym gives))
    go too_long gives is = inl (sym (ap (λ (t : Result NamedText End). item_then t (reading files behind)) is) ∙ ap (λ (c : Content). item_then (text_in file c) (reading files behind)) (sym (content-long file.limit (files file.name) gives)))
    go failed gives is = inr (by_shelf file.name (sym (ap (λ (t : Result NamedText End). item_then t (reading files behind)) is)) refl)
    go no_room gives is = inr (by_memory (sym (ap (λ (t : Result NamedText End). item_then t (reading files behind)) is)) refl)

pub reads-told : (files : Files) (list : List File) (count : ℕ) (read : Read) → Reads (Some files) list count read → (read ≡ reading files list) ⊎ Fails list read
reads-told files list count read all_read = inl refl
reads-told files list count read (wants_memory file behind) = inr (by_memory refl refl)
reads-told files list count read (stops file behind content end gives is) = stopped-told files file behind content end gives is
reads-told files list count read (goes_on file behind bytes more rest gives reads) = go rest (reads-told files behind more rest reads)
  where
    here : text_in file (content_in file.limit (files file.name)) ≡ Ok (named file.name bytes)
    here = ap (text_in file) (content-whole file.limit (files file.name) bytes gives.0 gives.1)

    go : (r : Read) → (r ≡ reading files behind) ⊎ Fails behind r → (item_then (Ok (named file.name bytes)) r ≡ reading files (file ∷ behind)) ⊎ Fails (file ∷ behind) (item_then (Ok (named file.name bytes)) r)
    go r (inl e) = inl (ap (item_then (Ok (named file.name bytes))) e ∙ ap (λ (t : Result NamedText End). item_then t (reading files behind)) (sym here))
    go r (inr (by_shelf name e faults)) = inr (by_shelf name (ap (item_then (Ok (named file.name bytes))) e) refl)
    go r (inr (by_memory e faults)) = inr (by_memory (ap (item_then (Ok (named file.name bytes))) e) refl)

pub reads-few : (told : Option Files) (list : List File) (count : ℕ) (read : Read) → Reads told list count read → count ≤ length list
reads-few told list count read all_read = omega arith
reads-few told list count read (wants_memory file behind) = omega arith
reads-few told list count read (stops file behind content end gives is) = omega arith
reads-few told list count read (goes_on file behind bytes more rest gives reads) = omega (arith, reads-few told behind more rest reads)

-- ---- files read one after another

-- each file gave this text
abbrev pub GivesAll : Option Files → List File → List NamedText → Type 0
GivesAll told [] [] = Unit {0}
GivesAll told [] (text ∷ texts) = ⊥
GivesAll told (file ∷ files) [] = ⊥
GivesAll told (file ∷ files) (text ∷ texts) = ((text ≡ named file.name text.bytes) × Gives told file (whole text.bytes)) × GivesAll told files texts

pub gives-more : (told : Option Files) (files : List File) (file : File) (texts : List NamedText) (text : NamedText) → GivesAll told files texts → (text ≡ named file.name text.bytes) × Gives told file (whole text.bytes)
    → GivesAll told (files ++ file ∷ []) (texts ++ text ∷ [])
gives-more told [] file [] text p h = (h, tt)
gives-more told [] file (t ∷ texts) text p h = absurd p
gives-more told (f ∷ files) file [] text p h = absurd p
gives-more told (f ∷ files) file (t ∷ texts) text p h = (p.0, gives-more told files file texts text p.1 h)

-- a count after these texts
abbrev pub behind_all : List NamedText → ℕ → ℕ
behind_all [] count = count
behind_all (text ∷ texts) count = suc (behind_all texts count)

item-named : (text : NamedText) (file : File) (r : Read) → text ≡ named file.name text.bytes → item_then (Ok (named file.name text.bytes)) r ≡ item_then (Ok text) r
item-named text file r is = ap (λ (t : NamedText). item_then (Ok t) r) (sym is)

pub reads-all : (told : Option Files) (files : List File) (texts : List NamedText) → GivesAll told files texts → Reads told files (behind_all texts 0) (Ok texts)
reads-all told [] [] p = all_read
reads-all told [] (t ∷ texts) p = absurd p
reads-all told (f ∷ files) [] p = absurd p
reads-all told (f ∷ files) (t ∷ texts) p = subst (λ (r : Read). Reads told (f ∷ files) (suc (behind_all texts 0)) r) (item-named t f (Ok texts) p.0.0)
    (goes_on f files t.bytes (behind_all texts 0) (Ok texts) p.0.1 (reads-all told files texts p.1))

-- what stops at the only file stops at the first of several
stops-behind : (told : Option Files) (file : File) (rest only : List File) (count : ℕ) (r : Read) (end : End) → Reads told only count r → only ≡ file ∷ [] → r ≡ Err end → Reads told (file ∷ rest) count (Err end)
stops-behind told file rest only count r end all_read is e = absurd (cc)
stops-behind told file rest only count r end (wants_memory f behind) is e = let same : end ≡ no_memory = cc in subst (λ (x : End). Reads told (file ∷ rest) 0 (Err x)) (sym same) (wants_memory file rest)
stops-behind told file rest only count r end (stops f behind content stop gives puts) is e =
    let same : end ≡ stop = cc in let first : f ≡ file = cc in
    subst (λ (x : End). Reads told (file ∷ rest) 1 (Err x)) (sym same) (stops file rest content stop (subst (λ (x : File). Gives told x content) first gives) (subst (λ (x : File). text_in x content ≡ Err stop) first puts))
stops-behind told file rest only count r end (goes_on f behind bytes more read gives reads) is e = absurd (go more read reads e)
  where
    none : behind ≡ []
    none = cc

    go : (more : ℕ) (read : Read) → Reads told behind more read → item_then (Ok (named f.name bytes)) read ≡ Err end → ⊥
    go more read reads e = let k : read ≡ Ok [] = (empty-read told more read (subst (λ (l : List File). Reads told l more read) none reads)).1 in
        let whole_is : item_then (Ok (named f.name bytes)) read ≡ Ok (named f.name bytes ∷ []) = ap (item_then (Ok (named f.name bytes))) k in cc

pub reads-stopped : (told : Option Files) (files : List File) (texts : List NamedText) (file : File) (rest : List File) (count : ℕ) (end : End) → GivesAll told files texts → Reads told (file ∷ []) count (Err end)
    → Reads told (files ++ file ∷ rest) (behind_all texts count) (Err end)
reads-stopped told [] [] file rest count end p h = stops-behind told file rest (file ∷ []) count (Err end) end h refl refl
reads-stopped told [] (t ∷ texts) file rest count end p h = absurd p
reads-stopped told (f ∷ files) [] file rest count end p h = absurd p
reads-stopped told (f ∷ files) (t ∷ texts) file rest count end p h = goes_on f (files ++ file ∷ rest) t.bytes (behind_all texts count) (Err end) p.0.1 (reads-stopped told files texts file rest count end p.1 h)

-- a file that gave its text, by one read
pub one-read : (told : Option Files) (file : File) (only : List File) (count : ℕ) (r : Read) (text : NamedText) → Reads told only count r → only ≡ file ∷ [] → r ≡ Ok (text ∷ []) → (count ≡ 1) × ((text ≡ named file.name text.bytes) × Gives told file (whole text.bytes))
one-read told file only count r text all_read is e = absurd (cc)
one-read told file only count r text (wants_memory f behind) is e = absurd (cc)
one-read told file only count r text (stops f behind content stop gives puts) is e = absurd (cc)
one-read told file only count r text (goes_on f behind bytes more read gives reads) is e = go more read reads e
  where
    none : behind ≡ []
    none = cc

    first : f ≡ file
    first = cc

    go : (more : ℕ) (read : Read) → Reads told behind more read → item_then (Ok (named f.name bytes)) read ≡ Ok (text ∷ []) → (suc more ≡ 1) × ((text ≡ named file.name text.bytes) × Gives told file (whole text.bytes))
    go more read reads e =
        let k = empty-read told more read (subst (λ (l : List File). Reads told l more read) none reads) in
        let whole_is : item_then (Ok (named f.name bytes)) read ≡ Ok (named f.name bytes ∷ []) = ap (item_then (Ok (named f.name bytes))) k.1 in
        let same : text ≡ named f.name bytes = cc in
        let held : bytes ≡ text.bytes = ap (λ (t : NamedText). t.bytes) (sym same) in
        (ap suc k.0, (same ∙ ap (λ (x : File). named x.name bytes) first ∙ ap (named file.name) held, subst (λ (b : Text). Gives told file (whole b)) held (subst (λ (x : File). Gives told x (whole bytes)) first gives)))

-- ---- counts

counted-next : (n count : ℕ) → next_count (counted n count) ≡ counted n (next_count count)
counted-next zero count = refl
counted-next (suc n) count = ap next_count (counted-next n count)

counted-all : (texts : List NamedText) (n count : ℕ) → counted n (counted (length texts) count) ≡ counted (behind_all texts n) count
counted-all [] n count = refl
counted-all (text ∷ texts) n count = sym (counted-next n (counted (length texts) count)) ∙ ap next_count (counted-all texts n count)

pub counts-all : (a b c : Option ℕ) (texts : List NamedText) (n : ℕ) → Counts a (length texts) b → Counts b n c → Counts a (behind_all texts n) c
counts-all None None None texts n p q = tt
counts-all None None (Some c) texts n p q = absurd q
counts-all None (Some b) c texts n p q = absurd p
counts-all (Some a) None c texts n p q = absurd p
counts-all (Some a) (Some b) None texts n p q = absurd q
counts-all (Some a) (Some b) (Some c) texts n p q = q ∙ ap (counted n) p ∙ counted-all texts n a

pub counts-more : (a b c : Option ℕ) (n : ℕ) → Counts a n b → Counts b 1 c → Counts a (suc n) c
counts-more None None None n p q = tt
counts-more None None (Some c) n p q = absurd q
counts-more None (Some b) c n p q = absurd p
counts-more (Some a) None c n p q = absurd p
counts-more (Some a) (Some b) None n p q = absurd q
counts-more (Some a) (Some b) (Some c) n p q = q ∙ ap next_count p

-- ---- a list, at one place

pub split_at : {A : Type 0} (xs : List A) (i : ℕ) (d : A) → i < length xs → xs ≡ take i xs ++ get_or xs i d ∷ drop (i + 1) xs
split_at xs i d lt = sym (take-append-drop i xs) ∙ ap (λ rest. take i xs ++ rest) (drop_at xs i d lt)
  where
    drop_at : {A : Type 0} (xs : List A) (i : ℕ) (d : A) → i < length xs → drop i xs ≡ get_or xs i d ∷ drop (i + 1) xs
    drop_at xs i d lt = grind (arith, drop-cons)

pub map-split : {A B : Type 0} (f : A → B) (xs : List A) (i : ℕ) (d : A) → i < length xs → map f xs ≡ map f (take i xs) ++ f (get_or xs i d) ∷ map f (drop (i + 1) xs)
map-split f xs i d lt = ap (map f) (split_at xs i d lt) ∙ map-append f (take i xs) (get_or xs i d ∷ drop (i + 1) xs)

pub map-more : {A B : Type 0} (f : A → B) (xs : List A) (i : ℕ) (d : A) → i < length xs → map f (take (i + 1) xs) ≡ map f (take i xs) ++ f (get_or xs i d) ∷ []
map-more f xs i d lt = ap (map f) (take_more xs i d lt) ∙ map-append f (take i xs) (get_or xs i d ∷ [])

-- ---- several files

pub all-read-to : (shelf : ShelfCall) (files : List File) (texts : List NamedText) → GivesAll shelf.told files texts → Counts shelf.reads_before (length texts) shelf.reads_after → shelf.after ≡ shelf.before → ReadsTo shelf files (Ok texts)
all-read-to shelf files texts given counts steady = record {
  count = behind_all texts 0;
  reads = reads-all shelf.told files texts given;
  counted = counts-all shelf.reads_before shelf.reads_after shelf.reads_after texts 0 counts (counts-none shelf.reads_after);
  faults = steady;
}

pub stopped-after : (inner outer : ShelfCall) (files rest all : List File) (texts : List NamedText) (file : File) (end : End) → all ≡ files ++ file ∷ rest → inner.told ≡ outer.told → inner.before ≡ outer.before → inner.after ≡ outer.after
    → inner.reads_after ≡ outer.reads_after → GivesAll outer.told files texts → Counts outer.reads_before (length texts) inner.reads_before → ReadsTo inner (file ∷ []) (Err end) → ReadsTo outer all (Err end)
stopped-after inner outer files rest all texts file end is told before after last given counts r = record {
  count = behind_all texts r.count;
  reads = subst (λ (l : List File). Reads outer.told l (behind_all texts r.count) (Err end)) (sym is)
      (reads-stopped outer.told files texts file rest r.count end given (subst (λ (t : Option Files). Reads t (file ∷ []) r.count (Err end)) told r.reads));
  counted = counts-all outer.reads_before inner.reads_before outer.reads_after texts r.count counts (subst (Counts inner.reads_before r.count) last r.counted);
  faults = sym after ∙ r.faults ∙ ap (λ (n : ℕ). faults_behind n (Err end)) before;
}

-- a file that was read, for whose text no memory was left
pub no-room-after : (shelf : ShelfCall) (file : File) (text : NamedText) → ReadsTo shelf (file ∷ []) (Ok (text ∷ [])) → ReadsTo shelf (file ∷ []) (Err no_memory)
no-room-after shelf file text r = record {
  count = 1;
  reads = stops file [] no_room no_memory tt refl;
  counted = subst (λ (n : ℕ). Counts shelf.reads_before n shelf.reads_after) (one-read shelf.told file (file ∷ []) r.count (Ok (text ∷ [])) text r.reads refl refl).0 r.counted;
  faults = r.faults;
}

-- ---- how many lines `canon` and `check` say

pub reads-length : (told : Option Files) (list : List File) (count : ℕ) (read : Read) (texts : List NamedText) → Reads told list count read → read ≡ Ok texts → length texts ≡ length list
reads-length told list count read texts all_read e = let is : texts ≡ [] = cc in ap length is
reads-length told list count read texts (wants_memory file behind) e = absurd (cc)
reads-length told list count read texts (stops file behind content end gives is) e = absurd (cc)
reads-length told list count read texts (goes_on file behind bytes more rest gives reads) e = go rest (λ ts f. reads-length told behind more rest ts reads f) e
  where
    go : (r : Read) → ((ts : List NamedText) → r ≡ Ok ts → length ts ≡ length behind) → item_then (Ok (record { name = file.name; bytes = bytes })) r ≡ Ok texts → length texts ≡ length (file ∷ behind)
    go (Err end) h e = absurd (cc)
    go (Ok ts) h e = let is : texts ≡ record { name = file.name; bytes = bytes } ∷ ts = cc in ap length is ∙ ap suc (h ts refl)
