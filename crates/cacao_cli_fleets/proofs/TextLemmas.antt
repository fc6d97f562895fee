-- What reading the files of a fleet, and their trees, may come to.
use Rattle.std.proofs.Common.{◌≡◌, inl, inr, ◌∙◌, refl, sym, ap, ap₂, subst, ℕ, zero, suc, List, [], ◌∷◌, Option, Some, None, Result, Ok, Err}
use Rattle.std.specs.Prelude.{IsSome, slice_get}
use Rattle.serde_json.specs.Data.{Data}
use Rattle.cacao_json.specs.Reading.{tree}
use Rattle.cacao_cli_words.specs.Words.{Text}
use Rattle.cacao_cli_ends.specs.Comes.{IsOneOf}
use Rattle.cacao_cli_ends.specs.Ends.{End, no_memory, not_readable, status_of}
use Rattle.cacao_cli_ends.specs.Files.{Content, File, Files, NamedText, Reads, all_read, failed, goes_on, item_then, missing, named, no_room, stops, text_in, too_long, wants_memory, whole}
use Rattle.cacao_cli_ends.specs.Work.{tree_of, trees_of}
use Rattle.cacao_cli_ends.proofs.ReadLemmas.{Read}
use Rattle.cacao_cli_ends.proofs.TreeLemmas.{TreeCase, has_tree, tree_case, treeless}

abbrev pub file_statuses : List ℕ
file_statuses = 3 ∷ 4 ∷ 10 ∷ 11 ∷ []

text-end : (a b : End) (r : Result NamedText End) → r ≡ Err a → r ≡ Err b → a ≡ b
text-end a b r e f = cc

read-end : (a b : End) (r : Read) → r ≡ Err a → r ≡ Err b → a ≡ b
read-end a b r e f = cc

root-end : (a b : End) (r : Result Data End) → r ≡ Err a → r ≡ Err b → a ≡ b
root-end a b r e f = cc

roots-end : (a b : End) (r : Result (List Data) End) → r ≡ Err a → r ≡ Err b → a ≡ b
roots-end a b r e f = cc

listed-as : (a b : End) → a ≡ b → IsOneOf (status_of a) file_statuses → IsOneOf (status_of b) file_statuses
listed-as a b is one = subst (λ (x : End). IsOneOf (status_of x) file_statuses) is one

content-listed : (file : File) (content : Content) (end : End) → text_in file content ≡ Err end → IsOneOf (status_of end) file_statuses
content-listed file (whole bytes) end e = absurd (cc)
content-listed file missing end e = listed-as _ end (text-end _ end (text_in file missing) refl e) (inr (inl refl))
content-listed file too_long end e = listed-as _ end (text-end _ end (text_in file too_long) refl e) (inr (inr (inr (inl refl))))
content-listed file failed end e = listed-as _ end (text-end _ end (text_in file failed) refl e) (inl refl)
content-listed file no_room end e = listed-as _ end (text-end _ end (text_in file no_room) refl e) (inr (inr (inl refl)))

-- a file that gave no bytes
pub reads-listed : (told : Option Files) (list : List File) (count : ℕ) (read : Read) (end : End) → Reads told list count read → read ≡ Err end → IsOneOf (status_of end) file_statuses
reads-listed told list count read end all_read e = absurd (cc)
reads-listed told list count read end (wants_memory file behind) e = listed-as no_memory end (read-end no_memory end (Err no_memory) refl e) (inr (inr (inl refl)))
reads-listed told list count read end (stops file behind content stopped gives is) e =
    listed-as stopped end (read-end stopped end (Err stopped) refl e) (content-listed file content stopped is)
reads-listed told list count read end (goes_on file behind bytes more rest gives reads) e = go rest (λ f. reads-listed told behind more rest end reads f) e
  where
    go : (r : Read) → (r ≡ Err end → IsOneOf (status_of end) file_statuses) → item_then (Ok (named file.name bytes)) r ≡ Err end → IsOneOf (status_of end) file_statuses
    go (Ok texts) h f = absurd (cc)
    go (Err other) h f = h f

-- ---- trees

-- a text without a tree
tree-listed : (text : NamedText) (end : End) → tree_of text ≡ Err end → status_of end ≡ 5
tree-listed text end e = go (tree_case text.name text.bytes)
  where
    go : TreeCase text.name text.bytes → status_of end ≡ 5
    go (has_tree root is found) = absurd (let clash : Ok root ≡ Err end = sym found ∙ e in cc)
    go (treeless reason none found) = ap status_of (root-end end (not_readable text.name reason) (tree_of text) e found)

pub trees-listed : (texts : List NamedText) (end : End) → trees_of texts ≡ Err end → status_of end ≡ 5
trees-listed [] end e = absurd (cc)
trees-listed (text ∷ texts) end e = go (tree_of text) (trees_of texts) (λ x f. tree-listed text x f) (λ x f. trees-listed texts x f) e
  where
    go : (one : Result Data End) (all : Result (List Data) End) → ((x : End) → one ≡ Err x → status_of x ≡ 5) → ((x : End) → all ≡ Err x → status_of x ≡ 5) → item_then one all ≡ Err end → status_of end ≡ 5
    go (Err other) all h k f = ap status_of (sym (roots-end other end (item_then (Err other) all) refl f)) ∙ h other refl
    go (Ok root) (Err other) h k f = ap status_of (sym (roots-end other end (item_then (Ok root) (Err other)) refl f)) ∙ k other refl
    go (Ok root) (Ok roots) h k f = absurd (cc)

-- each text has a tree where all have
pub tree-there : (texts : List NamedText) (roots : List Data) → trees_of texts ≡ Ok roots → (k : ℕ) (text : NamedText) → slice_get texts k ≡ Some text → IsSome (tree text.bytes)
tree-there [] roots e k text is = absurd (cc)
tree-there (first ∷ texts) roots e k text is = go (tree_case first.name first.bytes) (λ rs r n g. tree-there texts rs r n text g)
  where
    behind : (root : Data) (all : Result (List Data) End) → tree_of first ≡ Ok root → trees_of texts ≡ all → item_then (tree_of first) (trees_of texts) ≡ Ok roots → (n : ℕ) → slice_get (first ∷ texts) n ≡ Some text → tree first.bytes ≡ Some root
        → ((rs : List Data) → trees_of texts ≡ Ok rs → (m : ℕ) → slice_get texts m ≡ Some text → IsSome (tree text.bytes)) → IsSome (tree text.bytes)
    behind root all one rest f zero g h later = let same : first ≡ text = cc in subst (λ (t : NamedText). IsSome (tree t.bytes)) same (subst (λ (o : Option Data). IsSome o) (sym h) refl)
    behind root (Ok rs) one rest f (suc n) g h later = later rs rest n g
    behind root (Err end) one rest f (suc n) g h later = absurd (let clash : item_then (Ok root) (Err end) ≡ Ok roots = sym (ap₂ item_then one rest) ∙ f in cc)

    go : TreeCase first.name first.bytes → ((rs : List Data) → trees_of texts ≡ Ok rs → (m : ℕ) → slice_get texts m ≡ Some text → IsSome (tree text.bytes)) → IsSome (tree text.bytes)
    go (has_tree root has found) later = behind root (trees_of texts) found refl e k is has later
    go (treeless reason none found) later = absurd (let clash : item_then (Err (not_readable first.name reason)) (trees_of texts) ≡ Ok roots = sym (ap (λ (r : Result Data End). item_then r (trees_of texts)) found) ∙ e in cc)
