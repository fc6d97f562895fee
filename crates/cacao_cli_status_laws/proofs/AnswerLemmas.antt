-- Which statuses a command may answer.
use Rattle.std.proofs.Common.{◌≡◌, ◌⊎◌, inl, inr, refl, sym, subst, ℕ, Bool, true, false, List, [], ◌∷◌, Option, Some, None, Result, Ok, Err, map}
use Rattle.std.specs.Prelude.{if◌then◌else◌, nat_eq}
use Rattle.std.specs.List.{list_any}
use Rattle.serde_json.specs.Data.{Data}
use Rattle.cacao_check.specs.declared.breaks.Mode.TheVariants.{Read as Reading}
use Rattle.cacao_site.specs.View.{SiteView}
use Rattle.oc2_nets.specs.declared.packets.Packet.{Packet}
use Rattle.cacao_cli_filters.specs.PacketFiles.{packets_of}
use Rattle.cacao_cli_ends.specs.Asked.{Asked, canonises, checks, runs, shows, lists_rules, decides, shadows, rehearses, audits}
use Rattle.cacao_cli_status_laws.specs.Ended.{Ended}
use Rattle.cacao_cli_ends.specs.Ends.{End, status_of, done, accepted, past}
use Rattle.cacao_cli_ends.specs.Comes.{IsOneOf, run_rehearsal_statuses}
use Rattle.cacao_cli_ends.specs.Files.{Files, NamedText, Reads, ShelfCall, files_of, has_too_many}
use Rattle.cacao_cli_status_laws.specs.Leaves.{CountsDisk}
use Rattle.cacao_cli_status_laws.specs.Statuses.{IsOwnStatus, rehearsal_statuses, statuses_of}
use Rattle.cacao_cli_ends.specs.Work.{Work, ends, judges, opens_filter, opens_run, compares, rehearsals, starts, at_decisions, canon_line, or_end, packets_or_end, start_of, trees_of, trees_wanted, work, work_on}
use Rattle.cacao_cli_ends.specs.declared.limit.Limit.TheVariants.{BookCount}
use Rattle.cacao_cli_ends.proofs.TreeCases.{TreesCase, all_trees, one_treeless, trees_case}
use Rattle.cacao_cli_status_laws.proofs.CountLemmas.{disk-handed, not_understood-ended, read-status}
use Rattle.cacao_cli_status_laws.proofs.ExactLemmas.{Comes, performs-comes}
use Rattle.cacao_cli_status_laws.proofs.JudgedLemmas.{settled-listed}
use Rattle.cacao_cli_ends.proofs.LineLemmas.{IsCutOff}
use Rattle.cacao_cli_ends.proofs.ReadLemmas.{Read, empty-read}
use Rattle.cacao_cli_status_laws.proofs.RehearseLemmas.{ran-listed}
use Rattle.cacao_cli_ends.proofs.StatusLists.{are_among, not-among, session_statuses, widen}

-- ---- the statuses of the work

abbrev work_statuses : Work → List ℕ
work_statuses (ends lines end) = status_of end ∷ []
work_statuses (judges trees mode kept) = 1 ∷ work_statuses kept
work_statuses (opens_filter agent look) = 0 ∷ 13 ∷ 8 ∷ []
work_statuses opens_run = 0 ∷ 13 ∷ 11 ∷ 8 ∷ []
work_statuses (compares files) = 0 ∷ 18 ∷ 11 ∷ []
work_statuses (rehearsals positions) = rehearsal_statuses
work_statuses (starts start) = 5 ∷ 1 ∷ session_statuses

comes-listed : (w : Work) (old new : SiteView) (n : ℕ) → Comes w old new n → IsOneOf n (work_statuses w)
comes-listed (ends lines end) old new n is = inl is
comes-listed (judges trees mode kept) old new n (inl h) = inr (comes-listed kept old new n h.1)
comes-listed (judges trees mode kept) old new n (inr h) = inl h.1
comes-listed (opens_filter agent look) old new n (inl (inl h)) = inl h.1
comes-listed (opens_filter agent look) old new n (inl (inr h)) = inr (inl h.1)
comes-listed (opens_filter agent look) old new n (inr is) = inr (inr (inl is))
comes-listed opens_run old new n (inl h) = inl h.1
comes-listed opens_run old new n (inr (inl h)) = inr (inl h.1)
comes-listed opens_run old new n (inr (inr (inl h))) = inr (inr (inl h.1))
comes-listed opens_run old new n (inr (inr (inr is))) = inr (inr (inr (inl is)))
comes-listed (compares files) old new n (inl h) = inl h.1
comes-listed (compares files) old new n (inr (inl h)) = inr (inl h.1)
comes-listed (compares files) old new n (inr (inr h)) = inr (inr (inl h.1))
comes-listed (rehearsals positions) old new n (inl h) = inr (inl h.1)
comes-listed (rehearsals positions) old new n (inr h) = widen n run_rehearsal_statuses rehearsal_statuses refl (ran-listed positions n h)
comes-listed (starts start) old new n (inl h) = inl h.1
comes-listed (starts start) old new n (inr (inl h)) = inr (inl h.1)
comes-listed (starts start) old new n (inr (inr h)) = inr (inr (settled-listed start h))

-- ---- by the words

-- of each status of the work the command may answer it
module _ (n : ℕ) where
  -- an end that comes of files
  of-file : (ns : List ℕ) (end : End) → are_among (3 ∷ 4 ∷ 10 ∷ 11 ∷ []) ns ≡ true → IsOneOf (status_of end) (3 ∷ 4 ∷ 10 ∷ 11 ∷ []) → IsOneOf n (status_of end ∷ []) → IsOneOf n ns
  of-file ns end all file (inl e) = subst (λ (m : ℕ). IsOneOf m ns) (sym e) (widen (status_of end) (3 ∷ 4 ∷ 10 ∷ 11 ∷ []) ns all file)
  of-file ns end all file (inr none) = absurd none

  by-trees : (ns : List ℕ) (texts : List NamedText) (does : List Data → Work) → are_among (5 ∷ []) ns ≡ true → ((roots : List Data) → IsOneOf n (work_statuses (does roots)) → IsOneOf n ns)
      → IsOneOf n (work_statuses (or_end (trees_of texts) does)) → IsOneOf n ns
  by-trees ns texts does five each = go (trees_case texts)
    where
      go : TreesCase texts → IsOneOf n (work_statuses (or_end (trees_of texts) does)) → IsOneOf n ns
      go (all_trees roots r e) h = each roots (subst (λ (r : Result (List Data) End). IsOneOf n (work_statuses (or_end r does))) e h)
      go (one_treeless name reason r e) h = widen n (5 ∷ []) ns five (subst (λ (r : Result (List Data) End). IsOneOf n (work_statuses (or_end r does))) e h)

  -- what the texts of its files come to
  by-texts : (asked : Asked) (texts : List NamedText) → IsOneOf n (work_statuses (work_on asked texts)) → IsOneOf n (statuses_of (Some asked))
  by-texts (canonises book) texts h = by-trees (statuses_of (Some (canonises book))) texts (λ roots. ends (map canon_line roots) done) refl (λ roots g. widen n (0 ∷ []) (statuses_of (Some (canonises book))) refl g) h
  by-texts (checks books) texts h = by-trees (statuses_of (Some (checks books))) texts (λ roots. judges roots Reading (ends [] accepted)) refl (λ roots g. widen n (1 ∷ 0 ∷ []) (statuses_of (Some (checks books))) refl g) h
  by-texts (runs wanted) texts h = by-trees (statuses_of (Some (runs wanted))) (trees_wanted wanted texts) (λ roots. starts (start_of wanted texts)) refl
      (λ roots g. widen n (5 ∷ 1 ∷ session_statuses) (statuses_of (Some (runs wanted))) refl g) h
  by-texts shows texts h = widen n (0 ∷ 13 ∷ 11 ∷ 8 ∷ []) (statuses_of (Some shows)) refl h
  by-texts (lists_rules agent) texts h = widen n (0 ∷ 13 ∷ 8 ∷ []) (statuses_of (Some (lists_rules agent))) refl h
  by-texts (decides agent packets) [] h = widen n (0 ∷ 13 ∷ 8 ∷ []) (statuses_of (Some (decides agent packets))) refl h
  by-texts (decides agent packets) (text ∷ texts) h = go (packets_of text.bytes) h
    where
      go : (r : Result (List (ℕ × Packet)) ℕ) → IsOneOf n (work_statuses (or_end (packets_or_end text.name r) (λ found. opens_filter agent (at_decisions found)))) → IsOneOf n (statuses_of (Some (decides agent packets)))
      go (Err number) g = widen n (5 ∷ []) (statuses_of (Some (decides agent packets))) refl g
      go (Ok found) g = widen n (0 ∷ 13 ∷ 8 ∷ []) (statuses_of (Some (decides agent packets))) refl g
  by-texts (shadows agent) texts h = widen n (0 ∷ 13 ∷ 8 ∷ []) (statuses_of (Some (shadows agent))) refl h
  by-texts (rehearses positions) texts h = h
  by-texts (audits engine filters) texts h = widen n (0 ∷ 18 ∷ 11 ∷ []) (statuses_of (Some (audits engine filters))) refl h

  -- of a command that reads none
  by-none : (asked : Asked) (told : Option Files) (count : ℕ) (read : Read) → Reads told [] count read → IsOneOf n (work_statuses (or_end read (work_on asked))) → IsOneOf n (statuses_of (Some asked))
  by-none asked told count read reads h = by-texts asked [] (subst (λ (r : Read). IsOneOf n (work_statuses (or_end r (work_on asked)))) (empty-read told count read reads).1 h)

  -- of one whose files may end it, which it may answer
  by-read : (asked : Asked) (read : Read) → are_among (3 ∷ 4 ∷ 10 ∷ 11 ∷ []) (statuses_of (Some asked)) ≡ true
      → ((end : End) → read ≡ Err end → IsOneOf (status_of end) (3 ∷ 4 ∷ 10 ∷ 11 ∷ [])) → IsOneOf n (work_statuses (work (Some asked) read)) → IsOneOf n (statuses_of (Some asked))
  by-read asked read all each = go (has_too_many asked) read each
    where
      go : (b : Bool) (r : Read) → ((end : End) → r ≡ Err end → IsOneOf (status_of end) (3 ∷ 4 ∷ 10 ∷ 11 ∷ []))
          → IsOneOf n (work_statuses (if b then ends [] (past BookCount) else or_end r (work_on asked))) → IsOneOf n (statuses_of (Some asked))
      go true r each h = of-file (statuses_of (Some asked)) (past BookCount) all (inr (inr (inr (inl refl)))) h
      go false (Err end) each h = of-file (statuses_of (Some asked)) end all (each end refl) h
      go false (Ok texts) each h = by-texts asked texts h

  by-work : (asked : Asked) (told : Option Files) (count : ℕ) (read : Read) → Reads told (files_of (Some asked)) count read → IsOneOf n (work_statuses (work (Some asked) read)) → IsOneOf n (statuses_of (Some asked))
  by-work (canonises book) told count read reads = by-read (canonises book) read refl (λ end e. read-status told (files_of (Some (canonises book))) count read end reads e)
  by-work (checks books) told count read reads = by-read (checks books) read refl (λ end e. read-status told (files_of (Some (checks books))) count read end reads e)
  by-work (runs wanted) told count read reads = by-read (runs wanted) read refl (λ end e. read-status told (files_of (Some (runs wanted))) count read end reads e)
  by-work shows told count read reads = by-none shows told count read reads
  by-work (lists_rules agent) told count read reads = by-none (lists_rules agent) told count read reads
  by-work (decides agent packets) told count read reads = by-read (decides agent packets) read refl (λ end e. read-status told (files_of (Some (decides agent packets))) count read end reads e)
  by-work (shadows agent) told count read reads = by-none (shadows agent) told count read reads
  by-work (rehearses positions) told count read reads = by-none (rehearses positions) told count read reads
  by-work (audits engine filters) told count read reads = by-read (audits engine filters) read refl (λ end e. read-status told (files_of (Some (audits engine filters))) count read end reads e)

  -- a line could not be said, or memory was wanted
  by-cut : (asked : Option Asked) → IsCutOff n → IsOwnStatus asked n
  by-cut None h = widen n (9 ∷ 10 ∷ []) (statuses_of None) refl h
  by-cut (Some (canonises book)) h = widen n (9 ∷ 10 ∷ []) (statuses_of (Some (canonises book))) refl h
  by-cut (Some (checks books)) h = widen n (9 ∷ 10 ∷ []) (statuses_of (Some (checks books))) refl h
  by-cut (Some (runs wanted)) h = widen n (9 ∷ 10 ∷ []) (statuses_of (Some (runs wanted))) refl h
  by-cut (Some shows) h = widen n (9 ∷ 10 ∷ []) (statuses_of (Some shows)) refl h
  by-cut (Some (lists_rules agent)) h = widen n (9 ∷ 10 ∷ []) (statuses_of (Some (lists_rules agent))) refl h
  by-cut (Some (decides agent packets)) h = widen n (9 ∷ 10 ∷ []) (statuses_of (Some (decides agent packets))) refl h
  by-cut (Some (shadows agent)) h = widen n (9 ∷ 10 ∷ []) (statuses_of (Some (shadows agent))) refl h
  by-cut (Some (rehearses positions)) h = widen n (9 ∷ 10 ∷ []) (statuses_of (Some (rehearses positions))) refl h
  by-cut (Some (audits engine filters)) h = widen n (9 ∷ 10 ∷ []) (statuses_of (Some (audits engine filters))) refl h

pub answers-ended : (asked : Option Asked) (shelf : ShelfCall) (old new : SiteView) (answer : ℕ) → Ended asked shelf old new answer → IsOwnStatus asked answer
answers-ended None shelf old new answer h = not_understood-ended None shelf old new answer h refl
answers-ended (Some asked) shelf old new answer h = go (performs-comes (work (Some asked) h.performed.read) old h.between new h.last answer h.performed.performs h.tells)
  where
    go : Comes (work (Some asked) h.performed.read) old new answer ⊎ IsCutOff answer → IsOwnStatus (Some asked) answer
    go (inl c) = by-work answer asked shelf.told h.performed.reads.count h.performed.read h.performed.reads.reads (comes-listed (work (Some asked) h.performed.read) old new answer c)
    go (inr c) = by-cut answer (Some asked) c

-- ---- faults of the disk

-- a status that is not in the list does not come
pub never : (asked : Option Asked) (shelf : ShelfCall) (old new : SiteView) (answer m : ℕ) → list_any (nat_eq m) (statuses_of asked) ≡ false → Ended asked shelf old new answer → answer ≡ m → ⊥
never asked shelf old new answer m none h e = not-among m (statuses_of asked) none (subst (λ (k : ℕ). IsOwnStatus asked k) e (answers-ended asked shelf old new answer h))

pub disk-ended : (asked : Option Asked) (shelf : ShelfCall) (old new : SiteView) (answer : ℕ) → Ended asked shelf old new answer → answer ≡ 8 → CountsDisk asked old new
disk-ended None shelf old new answer h e = never None shelf old new answer 8 refl h e
disk-ended (Some (canonises book)) shelf old new answer h e = never (Some (canonises book)) shelf old new answer 8 refl h e
disk-ended (Some (checks books)) shelf old new answer h e = never (Some (checks books)) shelf old new answer 8 refl h e
disk-ended (Some (audits engine filters)) shelf old new answer h e = never (Some (audits engine filters)) shelf old new answer 8 refl h e
disk-ended (Some (runs wanted)) shelf old new answer h e = disk-handed (Some (runs wanted)) shelf old new answer tt h e
disk-ended (Some shows) shelf old new answer h e = disk-handed (Some shows) shelf old new answer tt h e
disk-ended (Some (lists_rules agent)) shelf old new answer h e = disk-handed (Some (lists_rules agent)) shelf old new answer tt h e
disk-ended (Some (decides agent packets)) shelf old new answer h e = disk-handed (Some (decides agent packets)) shelf old new answer tt h e
disk-ended (Some (shadows agent)) shelf old new answer h e = disk-handed (Some (shadows agent)) shelf old new answer tt h e
disk-ended (Some (rehearses positions)) shelf old new answer h e = never (Some (rehearses positions)) shelf old new answer 8 refl h e
