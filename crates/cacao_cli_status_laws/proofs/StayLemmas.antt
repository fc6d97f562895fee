-- What a call leaves that is refused before it opens a file of the disk.
use Rattle.std.proofs.Common.{◌≡◌, ◌⊎◌, inl, inr, subst, ℕ, false, List, [], ◌∷◌, Option, Some, None, Result, Ok, Err, refl}
use Rattle.std.specs.Prelude.{nat_eq}
use Rattle.std.specs.List.{list_any}
use Rattle.oc2_nets.specs.declared.packets.Packet.{Packet}
use Rattle.cacao_site.specs.View.{SiteView}
use Rattle.cacao_cli_filters.specs.PacketFiles.{packets_of}
use Rattle.cacao_cli_words.specs.Words.{Text}
use Rattle.cacao_cli_ends.specs.Asked.{Asked, canonises, checks, runs, shows, lists_rules, decides, shadows, rehearses, audits}
use Rattle.cacao_cli_status_laws.specs.Ended.{Ended, Performs}
use Rattle.cacao_cli_ends.specs.Ends.{End}
use Rattle.cacao_cli_ends.specs.Comes.{IsOneOf}
use Rattle.cacao_cli_ends.specs.Files.{ShelfCall, has_too_many}
use Rattle.cacao_cli_status_laws.specs.Leaves.{LeavesAll}
use Rattle.cacao_cli_ends.specs.Stays.{SaysAtMostOnce}
use Rattle.cacao_cli_ends.specs.Lines.{Tells}
use Rattle.cacao_cli_ends.specs.Work.{Look, opens_filter, opens_run, at_decisions, at_rules, at_shadows, or_end, packets_or_end, work_on}
use Rattle.cacao_cli_ends.proofs.StatusLists.{not-among, session_statuses}
use Rattle.cacao_cli_status_laws.proofs.ExactLemmas.{Comes, performs-comes}
use Rattle.cacao_cli_status_laws.proofs.LeaveLemmas.{RunLeft, leaves-ended, rules-performed, run-left, shadows-performed, show-performed, silent-once}
use Rattle.cacao_cli_ends.proofs.LineLemmas.{IsCutOff}
use Rattle.cacao_cli_ends.proofs.ReadLemmas.{Read}

abbrev early : List ℕ
early = 1 ∷ 2 ∷ 3 ∷ 4 ∷ 5 ∷ []

module _ (n : ℕ) (one : IsOneOf n early) where
  not-early : (m : ℕ) → n ≡ m → list_any (nat_eq m) early ≡ false → ⊥
  not-early m e none = not-among m early none (subst (λ (k : ℕ). IsOneOf k early) e one)

  cut-early : IsCutOff n → ⊥
  cut-early (inl e) = not-early 9 e refl
  cut-early (inr (inl e)) = not-early 10 e refl
  cut-early (inr (inr h)) = h

  cut-early-either : (P : Type 0) → (P → ⊥) → P ⊎ IsCutOff n → ⊥
  cut-early-either P unlike (inl h) = unlike h
  cut-early-either P unlike (inr c) = cut-early c

  session-early : IsOneOf n session_statuses → ⊥
  session-early (inl e) = not-early 0 e refl
  session-early (inr (inl e)) = not-early 6 e refl
  session-early (inr (inr (inl e))) = not-early 7 e refl
  session-early (inr (inr (inr (inl e)))) = not-early 8 e refl
  session-early (inr (inr (inr (inr (inl e))))) = not-early 9 e refl
  session-early (inr (inr (inr (inr (inr (inl e)))))) = not-early 10 e refl
  session-early (inr (inr (inr (inr (inr (inr (inl e))))))) = not-early 11 e refl
  session-early (inr (inr (inr (inr (inr (inr (inr (inl e)))))))) = not-early 12 e refl
  session-early (inr (inr (inr (inr (inr (inr (inr (inr (inl e))))))))) = not-early 13 e refl
  session-early (inr (inr (inr (inr (inr (inr (inr (inr (inr (inl e)))))))))) = not-early 14 e refl
  session-early (inr (inr (inr (inr (inr (inr (inr (inr (inr (inr (inl e))))))))))) = not-early 15 e refl
  session-early (inr (inr (inr (inr (inr (inr (inr (inr (inr (inr (inr (inl e)))))))))))) = not-early 16 e refl
  session-early (inr (inr (inr (inr (inr (inr (inr (inr (inr (inr (inr (inr h)))))))))))) = h

  filter-early : (agent : ℕ) (look : Look) (old new : SiteView) → Comes (opens_filter agent look) old new n → ⊥
  filter-early agent look old new (inl (inl h)) = not-early 0 h.1 refl
  filter-early agent look old new (inl (inr h)) = not-early 13 h.1 refl
  filter-early agent look old new (inr e) = not-early 8 e refl

  run-early : (old new : SiteView) → Comes opens_run old new n → ⊥
  run-early old new (inl h) = not-early 0 h.1 refl
  run-early old new (inr (inl h)) = not-early 13 h.1 refl
  run-early old new (inr (inr (inl h))) = not-early 11 h.1 refl
  run-early old new (inr (inr (inr e))) = not-early 8 e refl

  opened-early : (agent : ℕ) (look : Look) (old mid new : SiteView) (last : End) → Performs (opens_filter agent look) old mid last → Tells last mid new n → SaysAtMostOnce old new n
  opened-early agent look old mid new last p tells =
      absurd (cut-early-either (Comes (opens_filter agent look) old new n) (filter-early agent look old new) (performs-comes (opens_filter agent look) old mid new last n p tells))

  decide-early : (agent : ℕ) (packets : Text) (old mid new : SiteView) (last : End) (read : Read) → Performs (or_end read (work_on (decides agent packets))) old mid last → Tells last mid new n → SaysAtMostOnce old new n
  decide-early agent packets old mid new last (Err end) p tells = silent-once end old mid new last n p tells
  decide-early agent packets old mid new last (Ok []) p tells = opened-early agent (at_decisions []) old mid new last p tells
  decide-early agent packets old mid new last (Ok (text ∷ texts)) p tells = go (packets_of text.bytes) p
    where
      go : (r : Result (List (ℕ × Packet)) ℕ) → Performs (or_end (packets_or_end text.name r) (λ found. opens_filter agent (at_decisions found))) old mid last → SaysAtMostOnce old new n
      go (Ok found) p = opened-early agent (at_decisions found) old mid new last p tells
      go (Err number) p = silent-once _ old mid new last n p tells

pub stays-ended : (asked : Option Asked) (shelf : ShelfCall) (old new : SiteView) (answer : ℕ) → Ended asked shelf old new answer → LeavesAll old new answer
stays-ended None shelf old new answer h one = leaves-ended None shelf old new answer h
stays-ended (Some (canonises book)) shelf old new answer h one = leaves-ended (Some (canonises book)) shelf old new answer h
stays-ended (Some (checks books)) shelf old new answer h one = leaves-ended (Some (checks books)) shelf old new answer h
stays-ended (Some (runs wanted)) shelf old new answer h one = go (run-left wanted h.performed.read (has_too_many (runs wanted)) old h.between new h.last answer h.performed.performs h.tells)
  where
    go : RunLeft wanted old new answer → SaysAtMostOnce old new answer
    go (inl once) = once
    go (inr left) = absurd (cut-early-either answer one (IsOneOf answer session_statuses) (session-early answer one) left.1)
stays-ended (Some shows) shelf old new answer h one =
    absurd (cut-early-either answer one (Comes opens_run old new answer) (run-early answer one old new) (performs-comes opens_run old h.between new h.last answer (show-performed shelf old h.between h.last h.performed) h.tells))
stays-ended (Some (lists_rules agent)) shelf old new answer h one = opened-early answer one agent at_rules old h.between new h.last (rules-performed agent shelf old h.between h.last h.performed) h.tells
stays-ended (Some (decides agent packets)) shelf old new answer h one = decide-early answer one agent packets old h.between new h.last h.performed.read h.performed.performs h.tells
stays-ended (Some (shadows agent)) shelf old new answer h one = opened-early answer one agent at_shadows old h.between new h.last (shadows-performed agent shelf old h.between h.last h.performed) h.tells
stays-ended (Some (rehearses positions)) shelf old new answer h one = leaves-ended (Some (rehearses positions)) shelf old new answer h
stays-ended (Some (audits engine filters)) shelf old new answer h one = leaves-ended (Some (audits engine filters)) shelf old new answer h
