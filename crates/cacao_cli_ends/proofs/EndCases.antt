-- Which ends have which status.
use Rattle.std.proofs.Common.{◌≡◌, ◌⊎◌, inl, inr, refl, arith, ℕ, List, [], ◌∷◌}
use Rattle.cacao_cli_ends.specs.Comes.{IsOneOf}
use Rattle.cacao_cli_ends.specs.declared.limit.Limit.{Limit}
use Rattle.cacao_cli_ends.specs.Ends.{End, status_of, done, accepted, agrees, disagrees, refused, bind_refused, ended_ok, ended_failed, paused, waiting, flooded, asked_for, other_run, other_book, run_used, not_understood, past, shelf_failed, no_such_file, not_readable, rehearsed, damaged, peers_failed, disk_failed, unsaid, no_memory}

pub nine-or-not : (end : End) → (end ≡ unsaid) ⊎ (status_of end ≡ 9 → ⊥)
nine-or-not done = inr (λ e. omega (arith, e))
nine-or-not accepted = inr (λ e. omega (arith, e))
nine-or-not (agrees records acts) = inr (λ e. omega (arith, e))
nine-or-not (disagrees file place) = inr (λ e. omega (arith, e))
nine-or-not (refused broken) = inr (λ e. omega (arith, e))
nine-or-not (bind_refused rule) = inr (λ e. omega (arith, e))
nine-or-not ended_ok = inr (λ e. omega (arith, e))
nine-or-not ended_failed = inr (λ e. omega (arith, e))
nine-or-not paused = inr (λ e. omega (arith, e))
nine-or-not (waiting moment) = inr (λ e. omega (arith, e))
nine-or-not flooded = inr (λ e. omega (arith, e))
nine-or-not (asked_for issue) = inr (λ e. omega (arith, e))
nine-or-not (other_run held asked) = inr (λ e. omega (arith, e))
nine-or-not (other_book index) = inr (λ e. omega (arith, e))
nine-or-not (run_used agent) = inr (λ e. omega (arith, e))
nine-or-not not_understood = inr (λ e. omega (arith, e))
nine-or-not (past limit) = inr (λ e. omega (arith, e))
nine-or-not (shelf_failed name) = inr (λ e. omega (arith, e))
nine-or-not (no_such_file name) = inr (λ e. omega (arith, e))
nine-or-not (not_readable name reason) = inr (λ e. omega (arith, e))
nine-or-not (rehearsed positions records acts rules) = inr (λ e. omega (arith, e))
nine-or-not (damaged file place) = inr (λ e. omega (arith, e))
nine-or-not peers_failed = inr (λ e. omega (arith, e))
nine-or-not disk_failed = inr (λ e. omega (arith, e))
nine-or-not unsaid = inl refl
nine-or-not no_memory = inr (λ e. omega (arith, e))

pub eight-is : (end : End) → status_of end ≡ 8 → end ≡ disk_failed
eight-is done e = absurd (omega (arith, e))
eight-is accepted e = absurd (omega (arith, e))
eight-is (agrees records acts) e = absurd (omega (arith, e))
eight-is (disagrees file place) e = absurd (omega (arith, e))
eight-is (refused broken) e = absurd (omega (arith, e))
eight-is (bind_refused rule) e = absurd (omega (arith, e))
eight-is ended_ok e = absurd (omega (arith, e))
eight-is ended_failed e = absurd (omega (arith, e))
eight-is paused e = absurd (omega (arith, e))
eight-is (waiting moment) e = absurd (omega (arith, e))
eight-is flooded e = absurd (omega (arith, e))
eight-is (asked_for issue) e = absurd (omega (arith, e))
eight-is (other_run held asked) e = absurd (omega (arith, e))
eight-is (other_book index) e = absurd (omega (arith, e))
eight-is (run_used agent) e = absurd (omega (arith, e))
eight-is not_understood e = absurd (omega (arith, e))
eight-is (past limit) e = absurd (omega (arith, e))
eight-is (shelf_failed name) e = absurd (omega (arith, e))
eight-is (no_such_file name) e = absurd (omega (arith, e))
eight-is (not_readable name reason) e = absurd (omega (arith, e))
eight-is (rehearsed positions records acts rules) e = absurd (omega (arith, e))
eight-is (damaged file place) e = absurd (omega (arith, e))
eight-is peers_failed e = absurd (omega (arith, e))
eight-is disk_failed e = refl
eight-is unsaid e = absurd (omega (arith, e))
eight-is no_memory e = absurd (omega (arith, e))

-- ---- the ends of sessions alone

-- which end has one of these statuses
pub record SessionEnd (last : End) (n : ℕ) : Type 0 where
  pub failed : n ≡ 6 → last ≡ ended_failed
  pub pauses : n ≡ 7 → last ≡ paused
  pub another : n ≡ 12 → ((held : ℕ) × (number : ℕ) × (last ≡ other_run held number)) ⊎ (((index : ℕ) × (last ≡ other_book index)) ⊎ ((agent : ℕ) × (last ≡ run_used agent)))
  pub waits : n ≡ 14 → (moment : ℕ) × (last ≡ waiting moment)
  pub floods : n ≡ 15 → last ≡ flooded
  pub asks : n ≡ 16 → (issue : ℕ) × (last ≡ asked_for issue)
  pub passes : n ≡ 11 → (limit : Limit) × (last ≡ past limit)
  pub damage : n ≡ 13 → (file : ℕ) × (place : ℕ) × (last ≡ damaged file place)

pub session-end : (last : End) → SessionEnd last (status_of last)
session-end done = record { failed = λ e. absurd (omega (arith, e)); pauses = λ e. absurd (omega (arith, e)); another = λ e. absurd (omega (arith, e)); waits = λ e. absurd (omega (arith, e)); floods = λ e. absurd (omega (arith, e)); asks = λ e. absurd (omega (arith, e)); passes = λ e. absurd (omega (arith, e)); damage = λ e. absurd (omega (arith, e)) }
session-end accepted = record { failed = λ e. absurd (omega (arith, e)); pauses = λ e. absurd (omega (arith, e)); another = λ e. absurd (omega (arith, e)); waits = λ e. absurd (omega (arith, e)); floods = λ e. absurd (omega (arith, e)); asks = λ e. absurd (omega (arith, e)); passes = λ e. absurd (omega (arith, e)); damage = λ e. absurd (omega (arith, e)) }
session-end (agrees records acts) = record { failed = λ e. absurd (omega (arith, e)); pauses = λ e. absurd (omega (arith, e)); another = λ e. absurd (omega (arith, e)); waits = λ e. absurd (omega (arith, e)); floods = λ e. absurd (omega (arith, e)); asks = λ e. absurd (omega (arith, e)); passes = λ e. absurd (omega (arith, e)); damage = λ e. absurd (omega (arith, e)) }
session-end (disagrees file place) = record { failed = λ e. absurd (omega (arith, e)); pauses = λ e. absurd (omega (arith, e)); another = λ e. absurd (omega (arith, e)); waits = λ e. absurd (omega (arith, e)); floods = λ e. absurd (omega (arith, e)); asks = λ e. absurd (omega (arith, e)); passes = λ e. absurd (omega (arith, e)); damage = λ e. absurd (omega (arith, e)) }
session-end (refused broken) = record { failed = λ e. absurd (omega (arith, e)); pauses = λ e. absurd (omega (arith, e)); another = λ e. absurd (omega (arith, e)); waits = λ e. absurd (omega (arith, e)); floods = λ e. absurd (omega (arith, e)); asks = λ e. absurd (omega (arith, e)); passes = λ e. absurd (omega (arith, e)); damage = λ e. absurd (omega (arith, e)) }
session-end (bind_refused rule) = record { failed = λ e. absurd (omega (arith, e)); pauses = λ e. absurd (omega (arith, e)); another = λ e. absurd (omega (arith, e)); waits = λ e. absurd (omega (arith, e)); floods = λ e. absurd (omega (arith, e)); asks = λ e. absurd (omega (arith, e)); passes = λ e. absurd (omega (arith, e)); damage = λ e. absurd (omega (arith, e)) }
session-end ended_ok = record { failed = λ e. absurd (omega (arith, e)); pauses = λ e. absurd (omega (arith, e)); another = λ e. absurd (omega (arith, e)); waits = λ e. absurd (omega (arith, e)); floods = λ e. absurd (omega (arith, e)); asks = λ e. absurd (omega (arith, e)); passes = λ e. absurd (omega (arith, e)); damage = λ e. absurd (omega (arith, e)) }
session-end ended_failed = record { failed = λ e. refl; pauses = λ e. absurd (omega (arith, e)); another = λ e. absurd (omega (arith, e)); waits = λ e. absurd (omega (arith, e)); floods = λ e. absurd (omega (arith, e)); asks = λ e. absurd (omega (arith, e)); passes = λ e. absurd (omega (arith, e)); damage = λ e. absurd (omega (arith, e)) }
session-end paused = record { failed = λ e. absurd (omega (arith, e)); pauses = λ e. refl; another = λ e. absurd (omega (arith, e)); waits = λ e. absurd (omega (arith, e)); floods = λ e. absurd (omega (arith, e)); asks = λ e. absurd (omega (arith, e)); passes = λ e. absurd (omega (arith, e)); damage = λ e. absurd (omega (arith, e)) }
session-end (waiting moment) = record { failed = λ e. absurd (omega (arith, e)); pauses = λ e. absurd (omega (arith, e)); another = λ e. absurd (omega (arith, e)); waits = λ e. (moment, refl); floods = λ e. absurd (omega (arith, e)); asks = λ e. absurd (omega (arith, e)); passes = λ e. absurd (omega (arith, e)); damage = λ e. absurd (omega (arith, e)) }
session-end flooded = record { failed = λ e. absurd (omega (arith, e)); pauses = λ e. absurd (omega (arith, e)); another = λ e. absurd (omega (arith, e)); waits = λ e. absurd (omega (arith, e)); floods = λ e. refl; asks = λ e. absurd (omega (arith, e)); passes = λ e. absurd (omega (arith, e)); damage = λ e. absurd (omega (arith, e)) }
session-end (asked_for issue) = record { failed = λ e. absurd (omega (arith, e)); pauses = λ e. absurd (omega (arith, e)); another = λ e. absurd (omega (arith, e)); waits = λ e. absurd (omega (arith, e)); floods = λ e. absurd (omega (arith, e)); asks = λ e. (issue, refl); passes = λ e. absurd (omega (arith, e)); damage = λ e. absurd (omega (arith, e)) }
session-end (other_run held number) = record { failed = λ e. absurd (omega (arith, e)); pauses = λ e. absurd (omega (arith, e)); another = λ e. inl (held, number, refl); waits = λ e. absurd (omega (arith, e)); floods = λ e. absurd (omega (arith, e)); asks = λ e. absurd (omega (arith, e)); passes = λ e. absurd (omega (arith, e)); damage = λ e. absurd (omega (arith, e)) }
session-end (other_book index) = record { failed = λ e. absurd (omega (arith, e)); pauses = λ e. absurd (omega (arith, e)); another = λ e. inr (inl (index, refl)); waits = λ e. absurd (omega (arith, e)); floods = λ e. absurd (omega (arith, e)); asks = λ e. absurd (omega (arith, e)); passes = λ e. absurd (omega (arith, e)); damage = λ e. absurd (omega (arith, e)) }
session-end (run_used agent) = record { failed = λ e. absurd (omega (arith, e)); pauses = λ e. absurd (omega (arith, e)); another = λ e. inr (inr (agent, refl)); waits = λ e. absurd (omega (arith, e)); floods = λ e. absurd (omega (arith, e)); asks = λ e. absurd (omega (arith, e)); passes = λ e. absurd (omega (arith, e)); damage = λ e. absurd (omega (arith, e)) }
session-end not_understood = record { failed = λ e. absurd (omega (arith, e)); pauses = λ e. absurd (omega (arith, e)); another = λ e. absurd (omega (arith, e)); waits = λ e. absurd (omega (arith, e)); floods = λ e. absurd (omega (arith, e)); asks = λ e. absurd (omega (arith, e)); passes = λ e. absurd (omega (arith, e)); damage = λ e. absurd (omega (arith, e)) }
session-end (past limit) = record { failed = λ e. absurd (omega (arith, e)); pauses = λ e. absurd (omega (arith, e)); another = λ e. absurd (omega (arith, e)); waits = λ e. absurd (omega (arith, e)); floods = λ e. absurd (omega (arith, e)); asks = λ e. absurd (omega (arith, e)); passes = λ e. (limit, refl); damage = λ e. absurd (omega (arith, e)) }
session-end (shelf_failed name) = record { failed = λ e. absurd (omega (arith, e)); pauses = λ e. absurd (omega (arith, e)); another = λ e. absurd (omega (arith, e)); waits = λ e. absurd (omega (arith, e)); floods = λ e. absurd (omega (arith, e)); asks = λ e. absurd (omega (arith, e)); passes = λ e. absurd (omega (arith, e)); damage = λ e. absurd (omega (arith, e)) }
session-end (no_such_file name) = record { failed = λ e. absurd (omega (arith, e)); pauses = λ e. absurd (omega (arith, e)); another = λ e. absurd (omega (arith, e)); waits = λ e. absurd (omega (arith, e)); floods = λ e. absurd (omega (arith, e)); asks = λ e. absurd (omega (arith, e)); passes = λ e. absurd (omega (arith, e)); damage = λ e. absurd (omega (arith, e)) }
session-end (not_readable name reason) = record { failed = λ e. absurd (omega (arith, e)); pauses = λ e. absurd (omega (arith, e)); another = λ e. absurd (omega (arith, e)); waits = λ e. absurd (omega (arith, e)); floods = λ e. absurd (omega (arith, e)); asks = λ e. absurd (omega (arith, e)); passes = λ e. absurd (omega (arith, e)); damage = λ e. absurd (omega (arith, e)) }
session-end (rehearsed positions records acts rules) = record { failed = λ e. absurd (omega (arith, e)); pauses = λ e. absurd (omega (arith, e)); another = λ e. absurd (omega (arith, e)); waits = λ e. absurd (omega (arith, e)); floods = λ e. absurd (omega (arith, e)); asks = λ e. absurd (omega (arith, e)); passes = λ e. absurd (omega (arith, e)); damage = λ e. absurd (omega (arith, e)) }
session-end (damaged file place) = record { failed = λ e. absurd (omega (arith, e)); pauses = λ e. absurd (omega (arith, e)); another = λ e. absurd (omega (arith, e)); waits = λ e. absurd (omega (arith, e)); floods = λ e. absurd (omega (arith, e)); asks = λ e. absurd (omega (arith, e)); passes = λ e. absurd (omega (arith, e)); damage = λ e. (file, place, refl) }
session-end peers_failed = record { failed = λ e. absurd (omega (arith, e)); pauses = λ e. absurd (omega (arith, e)); another = λ e. absurd (omega (arith, e)); waits = λ e. absurd (omega (arith, e)); floods = λ e. absurd (omega (arith, e)); asks = λ e. absurd (omega (arith, e)); passes = λ e. absurd (omega (arith, e)); damage = λ e. absurd (omega (arith, e)) }
session-end disk_failed = record { failed = λ e. absurd (omega (arith, e)); pauses = λ e. absurd (omega (arith, e)); another = λ e. absurd (omega (arith, e)); waits = λ e. absurd (omega (arith, e)); floods = λ e. absurd (omega (arith, e)); asks = λ e. absurd (omega (arith, e)); passes = λ e. absurd (omega (arith, e)); damage = λ e. absurd (omega (arith, e)) }
session-end unsaid = record { failed = λ e. absurd (omega (arith, e)); pauses = λ e. absurd (omega (arith, e)); another = λ e. absurd (omega (arith, e)); waits = λ e. absurd (omega (arith, e)); floods = λ e. absurd (omega (arith, e)); asks = λ e. absurd (omega (arith, e)); passes = λ e. absurd (omega (arith, e)); damage = λ e. absurd (omega (arith, e)) }
session-end no_memory = record { failed = λ e. absurd (omega (arith, e)); pauses = λ e. absurd (omega (arith, e)); another = λ e. absurd (omega (arith, e)); waits = λ e. absurd (omega (arith, e)); floods = λ e. absurd (omega (arith, e)); asks = λ e. absurd (omega (arith, e)); passes = λ e. absurd (omega (arith, e)); damage = λ e. absurd (omega (arith, e)) }

-- ---- statuses of sessions

-- the statuses that sessions alone give
abbrev pub session_only : List ℕ
session_only = 6 ∷ 7 ∷ 12 ∷ 14 ∷ 15 ∷ 16 ∷ []

-- the end may come without a session
abbrev pub IsPlainEnd : End → Type 0
IsPlainEnd end = IsOneOf (status_of end) session_only → ⊥
