-- What a `run` was held with.
use Rattle.std.proofs.Common.{◌≡◌, ◌⊎◌, inl, inr, refl, sym, ℕ, Bool, true, false, List, [], map, Option, Some, None, Result, Ok, Err}
use Rattle.std.specs.Prelude.{IfSome, if◌then◌else◌}
use Rattle.serde_json.specs.Data.{Data}
use Rattle.cacao_site.specs.Sound.{IsSound}
use Rattle.cacao_site.specs.View.{SiteView}
use Rattle.cacao_cli_words.specs.Requests.{RunRequest}
use Rattle.cacao_cli_ends.specs.Asked.{Asked, audits, canonises, checks, decides, lists_rules, rehearses, runs, shadows, shows}
use Rattle.cacao_cli_ends.specs.Ends.{End, past}
use Rattle.cacao_cli_ends.specs.FileCauses.{HasTexts}
use Rattle.cacao_cli_ends.specs.Files.{NamedText, ReadsTo, ShelfCall, book_file, has_too_many, run_names}
use Rattle.cacao_cli_ends.specs.Lines.{Tells}
use Rattle.cacao_cli_ends.specs.Stays.{SaysAtMostOnce}
use Rattle.cacao_cli_ends.specs.Work.{ends, or_end, start_of, starts, trees_of, trees_wanted, work_on}
use Rattle.cacao_cli_ends.specs.declared.limit.Limit.TheVariants.{BookCount}
use Rattle.cacao_cli_ends.proofs.ReadLemmas.{Read}
use Rattle.cacao_cli_status_laws.specs.Ended.{Ended, Performs}
use Rattle.cacao_cli_status_laws.proofs.LeaveLemmas.{silent-once}
use Rattle.cacao_cli_status_laws.proofs.StartLemmas.{tells-line}
use Rattle.cacao_cli_peers.proofs.UseLemmas.{has-texts}
use Rattle.cacao_cli.specs.Calls.{LeavesByTexts, LeavesRun}
use Rattle.cacao_cli.proofs.RunLemmas.{durably-behind, goes-behind, session-durably, session-goes, session-handles}

module _ (wanted : RunRequest) (shelf : ShelfCall) (old mid new : SiteView) (last : End) (answer : ℕ) (tells : Tells last mid new answer) (sound : IsSound old) where
  abbrev Left : Type 0
  Left = SaysAtMostOnce old new answer ⊎ LeavesRun wanted shelf.told old new

  once : mid ≡ old → Left
  once same = inl (silent-once last old mid new last answer (inl (record { says = same; ends = refl })) tells)

  starts-left : (texts : List NamedText) → IfSome shelf.told (λ files. HasTexts files wanted texts) → Performs (starts (start_of wanted texts)) old mid last → Left
  starts-left texts has (inl h) = once h.same
  starts-left texts has (inr (inl h)) = once h.same
  starts-left texts has (inr (inr (inl h))) = once h.same
  starts-left texts has (inr (inr (inr (inl h)))) = inr (record {
    texts = texts;
    has = has;
    last = last;
    came = record { between = mid; session = h; behind = tells-line last mid new answer tells };
    goes_on = λ start. goes-behind wanted.most old mid new (tells-line last mid new answer tells) (session-goes h.given wanted.run wanted.most h.answers old mid last h.holds sound start);
    durably = λ start opened. durably-behind wanted.most old mid new (tells-line last mid new answer tells) (session-durably h.given wanted.run wanted.most h.answers old mid last h.holds sound start opened);
    handled = λ start. session-handles h.given wanted.run wanted.most h.answers old mid last h.holds sound start;
  })
  starts-left texts has (inr (inr (inr (inr h)))) = once h.same

  texts-left : (texts : List NamedText) → IfSome shelf.told (λ files. HasTexts files wanted texts) → Performs (work_on (runs wanted) texts) old mid last → Left
  texts-left texts has h = go (trees_of (trees_wanted wanted texts)) h
    where
      go : (t : Result (List Data) End) → Performs (or_end t (λ roots. starts (start_of wanted texts))) old mid last → Left
      go (Err end) p = inl (silent-once end old mid new last answer p tells)
      go (Ok roots) p = starts-left texts has p

  read-left : (read : Read) → has_too_many (runs wanted) ≡ false → ReadsTo shelf (map book_file (run_names wanted)) read → Performs (or_end read (work_on (runs wanted))) old mid last → Left
  read-left (Err end) few reads p = inl (silent-once end old mid new last answer p tells)
  read-left (Ok texts) few reads p = texts-left texts (has-texts shelf.told wanted reads.count texts few reads.reads) p

run-texts : (wanted : RunRequest) (shelf : ShelfCall) (old new : SiteView) (answer : ℕ) → IsSound old → Ended (Some (runs wanted)) shelf old new answer → SaysAtMostOnce old new answer ⊎ LeavesRun wanted shelf.told old new
run-texts wanted shelf old new answer sound h = go (has_too_many (runs wanted)) refl h.performed.reads h.performed.performs
  where
    go : (b : Bool) → b ≡ has_too_many (runs wanted) → ReadsTo shelf (if b then [] else map book_file (run_names wanted)) h.performed.read
        → Performs (if b then ends [] (past BookCount) else or_end h.performed.read (work_on (runs wanted))) old h.between h.last → SaysAtMostOnce old new answer ⊎ LeavesRun wanted shelf.told old new
    go true many reads p = inl (silent-once (past BookCount) old h.between new h.last answer p h.tells)
    go false few reads p = read-left wanted shelf old h.between new h.last answer h.tells sound h.performed.read (sym few) reads p

pub texts-ended : (asked : Option Asked) (shelf : ShelfCall) (old new : SiteView) (answer : ℕ) → IsSound old → Ended asked shelf old new answer → LeavesByTexts asked shelf.told old new answer
texts-ended None shelf old new answer sound h = tt
texts-ended (Some (canonises book)) shelf old new answer sound h = tt
texts-ended (Some (checks books)) shelf old new answer sound h = tt
texts-ended (Some (runs wanted)) shelf old new answer sound h = run-texts wanted shelf old new answer sound h
texts-ended (Some shows) shelf old new answer sound h = tt
texts-ended (Some (lists_rules agent)) shelf old new answer sound h = tt
texts-ended (Some (decides agent packets)) shelf old new answer sound h = tt
texts-ended (Some (shadows agent)) shelf old new answer sound h = tt
texts-ended (Some (rehearses positions)) shelf old new answer sound h = tt
texts-ended (Some (audits engine filters)) shelf old new answer sound h = tt
