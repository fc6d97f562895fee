-- The parts of `audit`, `decide`, `check` and `canon`.
use Rattle.std.proofs.Common.{◌≡◌, ◌⊎◌, inr, inl, ◌∙◌, refl, sym, ap, subst, arith, ℕ, ◌<◌, ◌≤◌, nat_lt, Bor, Bool, true, false, List, [], ◌∷◌, length, map, Some, Result, Ok, Err}
use Rattle.std.specs.Prelude.{if◌then◌else◌}
use Rattle.std.proofs.lemmas.List.{length-map}
use Rattle.serde_json.specs.Data.{Data}
use Rattle.cacao_check.specs.declared.breaks.Mode.TheVariants.{Read as Reading}
use Rattle.cacao_site.specs.View.{SiteView}
use Rattle.cacao_cli_words.specs.Words.{Text}
use Rattle.cacao_cli_ends.specs.Asked.{canonises, checks, audits}
use Rattle.cacao_cli_looks.specs.Audited.{TellsFiles}
use Rattle.cacao_cli_looks.specs.Command.{IsJudgement}
use Rattle.cacao_cli_ends.specs.Ends.{End, accepted, past, not_readable, no_memory, done}
use Rattle.cacao_cli_ends.specs.Files.{File, ShelfCall, NamedText, ReadsTo, book_file, files_of, has_too_many, item_then}
use Rattle.cacao_cli_ends.specs.Lines.{SaysWork}
use Rattle.cacao_cli_ends.specs.Work.{ends, judges, or_end, run_files, trees_of, work_on, canon_line, tree_of}
use Rattle.cacao_cli_looks.specs.Looking.{Looks, Looked}
use Rattle.cacao_cli_ends.specs.declared.limit.Limit.TheVariants.{BookCount}
use Rattle.cacao_cli_ends.proofs.TreeCases.{TreesCase, all_trees, one_treeless, trees_case}
use Rattle.cacao_cli_ends.proofs.ReadLemmas.{Read, none-read}
use Rattle.cacao_cli_ends.proofs.TreeLemmas.{TreeCase, has_tree, tree_case, treeless}

-- nothing is said, and the end is this one
pub says-end : (end : End) (site : SiteView) → SaysWork [] end site site end
says-end end site = inl (record { says = refl; ends = refl })

-- ---- audit

-- the files were compared
pub audit-read : (engine : Text) (filters : List (ℕ × Text)) (shelf : ShelfCall) (site : SiteView) (end : End) (files : List Text) (texts : List NamedText) → ReadsTo shelf (files_of (Some (audits engine filters))) (Ok texts)
    → files ≡ run_files filters texts → TellsFiles files end → Looked (Some (audits engine filters)) shelf site site end
audit-read engine filters shelf site end files texts reads is tells = record {
  read = Ok texts;
  reads = reads;
  looks = record { same = refl; tells = subst (λ (files : List Text). TellsFiles files end) is tells };
}

-- ---- check

pub nat_lt-no : (n : ℕ) → n ≤ 16 → nat_lt 16 n ≡ false
nat_lt-no n le = grind arith

pub nat_lt-yes : (n : ℕ) → 16 < n → nat_lt 16 n ≡ true
nat_lt-yes n lt = grind arith

-- too many playbooks
pub check-many : (names : List (Bor Text)) (shelf : ShelfCall) (site : SiteView) → 16 < length names → shelf.reads_after ≡ shelf.reads_before → shelf.after ≡ shelf.before
    → Looked (Some (checks (map (λ name. name.now) names))) shelf site site (past BookCount)
check-many names shelf site lt same steady = record {
  read = Ok [];
  reads = subst (λ (b : Bool). ReadsTo shelf (if b then [] else map book_file (map (λ name. name.now) names)) (Ok [])) (sym many) (none-read shelf same steady);
  looks = subst (λ (b : Bool). Looks (if b then ends [] (past BookCount) else or_end (Ok []) (work_on (checks (map (λ name. name.now) names)))) site site (past BookCount)) (sym many) (says-end (past BookCount) site);
}
  where
    many : has_too_many (checks (map (λ name. name.now) names)) ≡ true
    many = ap (nat_lt 16) (length-map names (λ name. name.now)) ∙ nat_lt-yes (length names) lt

pub few-files : (names : List (Bor Text)) → length names ≤ 16 → has_too_many (checks (map (λ name. name.now) names)) ≡ false
few-files names le = ap (nat_lt 16) (length-map names (λ name. name.now)) ∙ nat_lt-no (length names) le

pub files-named : (names : List (Bor Text)) → map (λ name. book_file name.now) names ≡ map book_file (map (λ name. name.now) names)
files-named [] = refl
files-named (name ∷ names) = ap (λ (rest : List File). book_file name.now ∷ rest) (files-named names)

-- the files were read, and what they come to was done
pub check-read : (names : List (Bor Text)) (shelf : ShelfCall) (site : SiteView) (read : Read) (last : End) → length names ≤ 16 → ReadsTo shelf (map (λ name. book_file name.now) names) read
    → Looks (or_end read (work_on (checks (map (λ name. name.now) names)))) site site last → Looked (Some (checks (map (λ name. name.now) names))) shelf site site last
check-read names shelf site read last le reads looks = record {
  read = read;
  reads = subst (λ (b : Bool). ReadsTo shelf (if b then [] else map book_file (map (λ name. name.now) names)) read) (sym (few-files names le)) (subst (λ (files : List File). ReadsTo shelf files read) (files-named names) reads);
  looks = subst (λ (b : Bool). Looks (if b then ends [] (past BookCount) else or_end read (work_on (checks (map (λ name. name.now) names)))) site site last) (sym (few-files names le)) looks;
}

pub check-unread : (books : List Text) (site : SiteView) (end : End) → Looks (or_end (Err end) (work_on (checks books))) site site end
check-unread books site end = says-end end site

-- the texts have no tree, or memory was wanted
pub check-treeless : (books : List Text) (texts : List NamedText) (site : SiteView) (end : End) → (trees_of texts ≡ Err end) ⊎ (end ≡ no_memory) → Looks (or_end (Ok texts) (work_on (checks books))) site site end
check-treeless books texts site end (inl is) = subst (λ (r : Result (List Data) End). Looks (or_end r (λ roots. judges roots Reading (ends [] accepted))) site site end) (sym is) (says-end end site)
check-treeless books texts site end (inr is) = subst (λ (e : End). Looks (or_end (trees_of texts) (λ roots. judges roots Reading (ends [] accepted))) site site e) (sym is) (go (trees_case texts))
  where
    at : (r : Result (List Data) End) → trees_of texts ≡ r → Looks (or_end r (λ roots. judges roots Reading (ends [] accepted))) site site no_memory → Looks (or_end (trees_of texts) (λ roots. judges roots Reading (ends [] accepted))) site site no_memory
    at r e p = subst (λ (r : Result (List Data) End). Looks (or_end r (λ roots. judges roots Reading (ends [] accepted))) site site no_memory) (sym e) p

    go : TreesCase texts → Looks (or_end (trees_of texts) (λ roots. judges roots Reading (ends [] accepted))) site site no_memory
    go (all_trees roots r e) = at (Ok roots) e (inr (inr (record { same = refl; ends = refl })))
    go (one_treeless name reason r e) = at (Err (not_readable name reason)) e (inr (inr (record { same = refl; no_fault = refl; ends = refl })))

-- the trees were judged
pub check-judged : (books : List Text) (texts : List NamedText) (roots : List Data) (site : SiteView) (end : End) → trees_of texts ≡ Ok roots → IsJudgement roots Reading end → Looks (or_end (Ok texts) (work_on (checks books))) site site end
check-judged books texts roots site end is judged = subst (λ (r : Result (List Data) End). Looks (or_end r (λ roots. judges roots Reading (ends [] accepted))) site site end) (sym is) (go judged)
  where
    go : IsJudgement roots Reading end → Looks (judges roots Reading (ends [] accepted)) site site end
    go (inl (kept, e)) = inl (kept, inl (record { says = refl; ends = e }))
    go (inr (inl (broken, first, e))) = inr (inl (record { broken = broken; first = first; same = refl; ends = e }))
    go (inr (inr e)) = inr (inr (record { same = refl; ends = e }))

-- ---- `canon`

-- the text has no tree, or memory was wanted for it
pub canon-untold : (book : Text) (shelf : ShelfCall) (site : SiteView) (text : NamedText) (end : End) → ReadsTo shelf (book_file book ∷ []) (Ok (text ∷ [])) → (tree_of text ≡ Err end) ⊎ (end ≡ no_memory)
    → Looked (Some (canonises book)) shelf site site end
canon-untold book shelf site text end reads why = record { read = Ok (text ∷ []); reads = reads; looks = go why }
  where
    as-tree : (r : Result Data End) (last : End) → tree_of text ≡ r → Looks (or_end (item_then r (Ok [])) (λ roots. ends (map canon_line roots) done)) site site last → Looks (work_on (canonises book) (text ∷ [])) site site last
    as-tree r last is h = subst (λ (r : Result Data End). Looks (or_end (item_then r (Ok [])) (λ roots. ends (map canon_line roots) done)) site site last) (sym is) h

    wanted : TreeCase text.name text.bytes → Looks (work_on (canonises book) (text ∷ [])) site site no_memory
    wanted (has_tree root has is) = as-tree (Ok root) no_memory is (inr (inr (record { same = refl; no_fault = refl; ends = refl })))
    wanted (treeless reason none is) = as-tree (Err (not_readable text.name reason)) no_memory is (inr (inr (record { same = refl; no_fault = refl; ends = refl })))

    go : (tree_of text ≡ Err end) ⊎ (end ≡ no_memory) → Looks (work_on (canonises book) (text ∷ [])) site site end
    go (inl is) = as-tree (Err end) end is (says-end end site)
    go (inr is) = subst (λ (e : End). Looks (work_on (canonises book) (text ∷ [])) site site e) (sym is) (wanted (tree_case text.name text.bytes))
