-- Calls that read nothing.
use Rattle.std.proofs.Common.{◌≡◌, inr, refl, sym, subst, ℕ, Bool, true, false, List, [], ◌∷◌, map, Option, Some, None, Result, Ok, Err}
use Rattle.std.specs.Prelude.{if◌then◌else◌}
use Rattle.serde_json.specs.Data.{Data}
use Rattle.cacao_site.specs.View.{SiteView}
use Rattle.cacao_cli_words.specs.Words.{Text}
use Rattle.cacao_cli_ends.specs.Asked.{Asked, canonises, checks, shows, lists_rules, decides, shadows, rehearses, audits, runs}
use Rattle.cacao_cli_ends.specs.Ends.{End, past, not_understood, no_memory}
use Rattle.cacao_cli_ends.specs.Files.{ShelfCall, ReadsTo, book_file, journal_file, packet_file, has_too_many, run_names}
use Rattle.cacao_cli_status_laws.specs.Rehearsing.{Rehearses}
use Rattle.cacao_cli_ends.specs.Work.{Start, ends, opens_filter, opens_run, at_rules, at_shadows, or_end, trees_of, work_on, starts, start_of, trees_wanted}
use Rattle.cacao_cli_status_laws.specs.Ended.{Performed, PerformedBy, Performs, PerformsBy}
use Rattle.cacao_cli_ends.specs.declared.limit.Limit.TheVariants.{BookCount}
use Rattle.cacao_cli_ends.proofs.TreeCases.{TreesCase, all_trees, one_treeless, trees_case}
use Rattle.cacao_cli_looks.proofs.OpenLemmas.{opens-refl}
use Rattle.cacao_cli_ends.proofs.ReadLemmas.{Read, none-read, wanted-before}
use Rattle.cacao_cli_looks.proofs.PerformLemmas.{says-end}

-- the words have no reading
pub performed-none : (asked : Option Asked) (shelf : ShelfCall) (site : SiteView) → asked ≡ None → shelf.reads_after ≡ shelf.reads_before → shelf.after ≡ shelf.before → Performed asked shelf site site not_understood
performed-none asked shelf site is same steady =
    subst (λ (a : Option Asked). Performed a shelf site site not_understood) (sym is) (record { read = Ok []; reads = none-read shelf same steady; performs = says-end not_understood site })

-- memory was wanted for the words
pub performed-memory : {Holds : Start → SiteView → SiteView → End → Type 0} (asked : Option Asked) (shelf : ShelfCall) (site : SiteView) → shelf.reads_after ≡ shelf.reads_before → shelf.after ≡ shelf.before → PerformedBy Holds asked shelf site site no_memory
performed-memory {Holds} None shelf site same steady = record { read = Ok []; reads = none-read shelf same steady; performs = inr (inr (record { same = refl; no_fault = refl; ends = refl })) }
performed-memory {Holds} (Some (canonises book)) shelf site same steady = record {
  read = Err no_memory;
  reads = wanted-before shelf (book_file book) [] same steady;
  performs = says-end no_memory site;
}
performed-memory {Holds} (Some (checks books)) shelf site same steady = go (has_too_many (checks books)) refl
  where
    by : (names : List Text) → (read : Read) × (ReadsTo shelf (map book_file names) read × PerformsBy Holds (or_end read (work_on (checks books))) site site no_memory)
    by [] = (Ok [], (none-read shelf same steady, inr (inr (record { same = refl; ends = refl }))))
    by (name ∷ names) = (Err no_memory, (wanted-before shelf (book_file name) (map book_file names) same steady, says-end no_memory site))

    go : (b : Bool) → has_too_many (checks books) ≡ b → PerformedBy Holds (Some (checks books)) shelf site site no_memory
    go true many = record {
      read = Ok [];
      reads = subst (λ (b : Bool). ReadsTo shelf (if b then [] else map book_file books) (Ok [])) (sym many) (none-read shelf same steady);
      performs = subst (λ (b : Bool). PerformsBy Holds (if b then ends [] (past BookCount) else or_end (Ok []) (work_on (checks books))) site site no_memory) (sym many) (inr (inr (record { same = refl; no_fault = refl; ends = refl })));
    }
    go false few = let p = by books in record {
      read = p.0;
      reads = subst (λ (b : Bool). ReadsTo shelf (if b then [] else map book_file books) p.0) (sym few) p.1.0;
      performs = subst (λ (b : Bool). PerformsBy Holds (if b then ends [] (past BookCount) else or_end p.0 (work_on (checks books))) site site no_memory) (sym few) p.1.1;
    }
performed-memory {Holds} (Some (runs wanted)) shelf site same steady = go (has_too_many (runs wanted)) refl
  where
    by : (names : List Text) → (read : Read) × (ReadsTo shelf (map book_file names) read × PerformsBy Holds (or_end read (work_on (runs wanted))) site site no_memory)
    by [] = (Ok [], (none-read shelf same steady, at (trees_case (trees_wanted wanted []))))
      where
        at : TreesCase (trees_wanted wanted []) → PerformsBy Holds (or_end (trees_of (trees_wanted wanted [])) (λ roots. starts (start_of wanted []))) site site no_memory
        at (all_trees roots r e) = subst (λ (t : Result (List Data) End). PerformsBy Holds (or_end t (λ roots. starts (start_of wanted []))) site site no_memory) (sym e) (inr (inr (inr (inr (record { same = refl; ends = refl })))))
        at (one_treeless name reason r e) =
            subst (λ (t : Result (List Data) End). PerformsBy Holds (or_end t (λ roots. starts (start_of wanted []))) site site no_memory) (sym e) (inr (inr (record { same = refl; no_fault = refl; ends = refl })))
    by (name ∷ names) = (Err no_memory, (wanted-before shelf (book_file name) (map book_file names) same steady, says-end no_memory site))

    go : (b : Bool) → has_too_many (runs wanted) ≡ b → PerformedBy Holds (Some (runs wanted)) shelf site site no_memory
    go true many = record {
      read = Ok [];
      reads = subst (λ (b : Bool). ReadsTo shelf (if b then [] else map book_file (run_names wanted)) (Ok [])) (sym many) (none-read shelf same steady);
      performs = subst (λ (b : Bool). PerformsBy Holds (if b then ends [] (past BookCount) else or_end (Ok []) (work_on (runs wanted))) site site no_memory) (sym many) (inr (inr (record { same = refl; no_fault = refl; ends = refl })));
    }
    go false few = let p = by (run_names wanted) in record {
      read = p.0;
      reads = subst (λ (b : Bool). ReadsTo shelf (if b then [] else map book_file (run_names wanted)) p.0) (sym few) p.1.0;
      performs = subst (λ (b : Bool). PerformsBy Holds (if b then ends [] (past BookCount) else or_end p.0 (work_on (runs wanted))) site site no_memory) (sym few) p.1.1;
    }
performed-memory {Holds} (Some shows) shelf site same steady = record { read = Ok []; reads = none-read shelf same steady; performs = inr (inr (inr (inr (record { opens = opens-refl 0 site; steady = refl; ends = refl })))) }
performed-memory {Holds} (Some (lists_rules agent)) shelf site same steady = record { read = Ok []; reads = none-read shelf same steady; performs = inr (inr (inr (record { opens = opens-refl agent site; steady = refl; ends = refl }))) }
performed-memory {Holds} (Some (shadows agent)) shelf site same steady = record { read = Ok []; reads = none-read shelf same steady; performs = inr (inr (inr (record { opens = opens-refl agent site; steady = refl; ends = refl }))) }
performed-memory {Holds} (Some (decides agent packets)) shelf site same steady = record {
  read = Err no_memory;
  reads = wanted-before shelf (packet_file packets) [] same steady;
  performs = says-end no_memory site;
}
performed-memory {Holds} (Some (rehearses positions)) shelf site same steady = record { read = Ok []; reads = none-read shelf same steady; performs = record { same = refl; tells = inr (inr refl) } }
performed-memory {Holds} (Some (audits engine filters)) shelf site same steady = record {
  read = Err no_memory;
  reads = wanted-before shelf (journal_file engine) (map (λ (filter : ℕ × Text). journal_file filter.1) filters) same steady;
  performs = says-end no_memory site;
}

-- ---- rehearse

pub rehearse-perform : (positions : ℕ) (shelf : ShelfCall) (old new : SiteView) (last : End) → shelf.reads_after ≡ shelf.reads_before → shelf.after ≡ shelf.before → Rehearses positions old new last
    → Performed (Some (rehearses positions)) shelf old new last
rehearse-perform positions shelf old new last same steady h = record { read = Ok []; reads = none-read shelf same steady; performs = h }

-- ---- show, rules, shadow and decide

pub show-perform : (shelf : ShelfCall) (old new : SiteView) (last : End) → shelf.reads_after ≡ shelf.reads_before → shelf.after ≡ shelf.before → Performs opens_run old new last → Performed (Some shows) shelf old new last
show-perform shelf old new last same steady performs = record { read = Ok []; reads = none-read shelf same steady; performs = performs }

pub rules-perform : (agent : ℕ) (shelf : ShelfCall) (old new : SiteView) (last : End) → shelf.reads_after ≡ shelf.reads_before → shelf.after ≡ shelf.before → Performs (opens_filter agent at_rules) old new last
    → Performed (Some (lists_rules agent)) shelf old new last
rules-perform agent shelf old new last same steady performs = record { read = Ok []; reads = none-read shelf same steady; performs = performs }

pub shadows-perform : (agent : ℕ) (shelf : ShelfCall) (old new : SiteView) (last : End) → shelf.reads_after ≡ shelf.reads_before → shelf.after ≡ shelf.before → Performs (opens_filter agent at_shadows) old new last
    → Performed (Some (shadows agent)) shelf old new last
shadows-perform agent shelf old new last same steady performs = record { read = Ok []; reads = none-read shelf same steady; performs = performs }
