-- `decide` passes a limit by the file of its packets alone.
use Rattle.std.proofs.Common.{◌≡◌, refl, subst, arith, ℕ, [], ◌∷◌, Option, Some, None}
use Rattle.cacao_site.specs.View.{SiteView}
use Rattle.cacao_cli_words.specs.Words.{Text}
use Rattle.cacao_cli_ends.specs.Asked.{Asked, audits, canonises, checks, decides, lists_rules, rehearses, runs, shadows, shows}
use Rattle.cacao_cli_ends.specs.Comes.{ComesExactly, IfFilesTold, file_faults}
use Rattle.cacao_cli_ends.specs.Ends.{no_such_file, not_readable, past}
use Rattle.cacao_cli_ends.specs.FileCauses.{IsTooLong}
use Rattle.cacao_cli_ends.specs.Files.{Files, ShelfCall, files_of, packet_file}
use Rattle.cacao_cli_ends.specs.Work.{Work, at_decisions, ends, opens_filter}
use Rattle.cacao_cli_ends.specs.declared.reason.Reason.TheVariants.{Line}
use Rattle.cacao_cli_ends.proofs.StatusLists.{not-among}
use Rattle.cacao_cli_status_laws.specs.Ended.{Ended}
use Rattle.cacao_cli_status_laws.proofs.CauseLemmas.{comes, missing-long}
use Rattle.cacao_cli_status_laws.proofs.ExactLemmas.{Comes, if-told, status-seen}
use Rattle.cacao_cli_status_laws.proofs.PacketLemmas.{PacketWork, is_bad, is_missing, is_read, is_too_long, long-apart, packet_work, packet_work_case}
use Rattle.cacao_cli_status_laws.proofs.StatusPlain.{opened-other}
use Rattle.cacao_cli.specs.Calls.{PastByPackets}

module _ (agent : ℕ) (packets : Text) (files : Files) (old new : SiteView) (n : ℕ) (called : Comes (packet_work files agent packets) old new n) where
  at : (w : Work) → packet_work files agent packets ≡ w → Comes w old new n
  at w is = subst (λ (w : Work). Comes w old new n) is called

  long-only : n ≡ 11 → IsTooLong files (packet_file packets ∷ [])
  long-only e = go (packet_work_case files agent packets)
    where
      go : PacketWork files agent packets → IsTooLong files (packet_file packets ∷ [])
      go (is_missing name m is) = absurd (let k : n ≡ 4 = at (ends [] (no_such_file name)) is in omega (arith, e, k))
      go (is_too_long limit l is) = l
      go (is_bad name number b is) = absurd (let k : n ≡ 5 = at (ends [] (not_readable name (Line number))) is in omega (arith, e, k))
      go (is_read found has is) = absurd (opened-other agent old new n 11 (at (opens_filter agent (at_decisions found)) is) e (λ f. omega (arith, f)) (λ f. omega (arith, f)) (λ f. omega (arith, f)))

  long-is : IsTooLong files (packet_file packets ∷ []) → n ≡ 11
  long-is long = go (packet_work_case files agent packets)
    where
      go : PacketWork files agent packets → n ≡ 11
      go (is_missing name m is) = absurd (missing-long files (packet_file packets ∷ []) m long)
      go (is_too_long limit l is) = at (ends [] (past limit)) is
      go (is_bad name number b is) = absurd (long-apart files packets long b.0)
      go (is_read found has is) = absurd (long-apart files packets long has.0)

decide-past : (agent : ℕ) (packets : Text) (shelf : ShelfCall) (old new : SiteView) (answer : ℕ) → Ended (Some (decides agent packets)) shelf old new answer
    → IfFilesTold (files_of (Some (decides agent packets))) shelf.told
    (λ files. ComesExactly 11 (file_faults (files_of (Some (decides agent packets)))) (IsTooLong files (files_of (Some (decides agent packets)))) answer)
decide-past agent packets shelf old new answer h = if-told (packet_file packets ∷ []) shelf.told _ (λ files seen.
    comes 11 (3 ∷ 9 ∷ 10 ∷ []) (Comes (packet_work files agent packets) old new answer) (IsTooLong files (packet_file packets ∷ [])) answer
    (long-only agent packets files old new answer) (long-is agent packets files old new answer) (not-among 11 (3 ∷ 9 ∷ 10 ∷ []) refl)
    (status-seen (Some (decides agent packets)) files shelf old new answer seen h))

pub packets-ended : (asked : Option Asked) (shelf : ShelfCall) (old new : SiteView) (answer : ℕ) → Ended asked shelf old new answer → PastByPackets asked shelf.told answer
packets-ended None shelf old new answer h = tt
packets-ended (Some (canonises book)) shelf old new answer h = tt
packets-ended (Some (checks books)) shelf old new answer h = tt
packets-ended (Some (runs wanted)) shelf old new answer h = tt
packets-ended (Some shows) shelf old new answer h = tt
packets-ended (Some (lists_rules agent)) shelf old new answer h = tt
packets-ended (Some (decides agent packets)) shelf old new answer h = decide-past agent packets shelf old new answer h
packets-ended (Some (shadows agent)) shelf old new answer h = tt
packets-ended (Some (rehearses positions)) shelf old new answer h = tt
packets-ended (Some (audits engine filters)) shelf old new answer h = tt
