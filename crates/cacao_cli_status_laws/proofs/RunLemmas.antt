-- The engine's file is opened, and something is said of it.
use Rattle.std.proofs.Common.{◌≡◌, ◌⊎◌, inl, inr, sym, subst, arith, ℕ, []}
use Rattle.std.specs.Prelude.{IsTrue}
use Rattle.cacao_site.specs.Counts.{Rose, next_count}
use Rattle.cacao_site.specs.View.{SiteView}
use Rattle.flow_engine_reports.specs.RunFiles as run
use Rattle.flow_engine_reports.specs.RunLines.{lines_of}
use Rattle.cacao_cli_ends.specs.Ends.{End, text_of, damaged, disk_failed, done, no_memory, past}
use Rattle.cacao_cli_status_laws.specs.Ended.{Performs}
use Rattle.cacao_cli_ends.specs.Stays.{WritesNothing}
use Rattle.cacao_cli_ends.specs.Lines.{Tells}
use Rattle.cacao_cli_looks.specs.Openings.{HoldsRun, IsDamagedRun, IsTooLargeRun}
use Rattle.cacao_cli_ends.specs.Work.{opens_run}
use Rattle.cacao_cli_ends.specs.declared.limit.Limit.TheVariants.{TaskCount}
use Rattle.cacao_cli_ends.proofs.LineLemmas.{IsCutOff}
use Rattle.cacao_cli_ends.proofs.UnsaidLemmas.{last-disk}
use Rattle.cacao_cli_looks.proofs.RunLemmas.{ComesShown, IsBad, IsReport, of-failed, of-many, of-none, of-said, of-wanted, went-comes, went-leaves, went-said, went-steady, went-unsaid}

module _ (old mid new : SiteView) (last : End) (answer : ℕ) where
  pub run-leaves : Performs opens_run old mid last → Tells last mid new answer → WritesNothing 0 old new
  run-leaves (inl h) tells = went-leaves (lines_of h.text) done IsReport old mid new last answer (of-said old mid last h) tells
  run-leaves (inr (inl h)) tells = went-leaves [] (damaged 0 h.place) IsBad old mid new last answer (of-none old mid last h) tells
  run-leaves (inr (inr (inl h))) tells = went-leaves [] (past TaskCount) run.IsTooLarge old mid new last answer (of-many old mid last h) tells
  run-leaves (inr (inr (inr (inl h)))) tells = went-leaves [] disk_failed (λ image. Unit {0}) old mid new last answer (of-failed old mid last h) tells
  run-leaves (inr (inr (inr (inr h)))) tells = went-leaves [] no_memory (λ image. Unit {0}) old mid new last answer (of-wanted old mid last h) tells

  pub run-comes : Performs opens_run old mid last → Tells last mid new answer → ComesShown old new answer ⊎ IsCutOff answer
  run-comes (inl h) tells = go (went-comes (lines_of h.text) done IsReport old mid new last answer (of-said old mid last h) tells)
    where
      go : ((IsTrue old.disk.told → HoldsRun new) × (answer ≡ 0)) ⊎ IsCutOff answer → ComesShown old new answer ⊎ IsCutOff answer
      go (inl c) = inl (inl c)
      go (inr c) = inr c
  run-comes (inr (inl h)) tells = go (went-comes [] (damaged 0 h.place) IsBad old mid new last answer (of-none old mid last h) tells)
    where
      go : ((IsTrue old.disk.told → IsDamagedRun new) × (answer ≡ 13)) ⊎ IsCutOff answer → ComesShown old new answer ⊎ IsCutOff answer
      go (inl c) = inl (inr (inl c))
      go (inr c) = inr c
  run-comes (inr (inr (inl h))) tells = go (went-comes [] (past TaskCount) run.IsTooLarge old mid new last answer (of-many old mid last h) tells)
    where
      go : ((IsTrue old.disk.told → IsTooLargeRun new) × (answer ≡ 11)) ⊎ IsCutOff answer → ComesShown old new answer ⊎ IsCutOff answer
      go (inl c) = inl (inr (inr (inl c)))
      go (inr c) = inr c
  run-comes (inr (inr (inr (inl h)))) tells = go (went-comes [] disk_failed (λ image. Unit {0}) old mid new last answer (of-failed old mid last h) tells)
    where
      go : ((IsTrue old.disk.told → Unit {0}) × (answer ≡ 8)) ⊎ IsCutOff answer → ComesShown old new answer ⊎ IsCutOff answer
      go (inl c) = inl (inr (inr (inr c.1)))
      go (inr c) = inr c
  run-comes (inr (inr (inr (inr h)))) tells = go (went-comes [] no_memory (λ image. Unit {0}) old mid new last answer (of-wanted old mid last h) tells)
    where
      go : ((IsTrue old.disk.told → Unit {0}) × (answer ≡ 10)) ⊎ IsCutOff answer → ComesShown old new answer ⊎ IsCutOff answer
      go (inl c) = inr (inr (inl c.1))
      go (inr c) = inr c

  pub run-failed : Performs opens_run old mid last → Tells last mid new answer → answer ≡ 8 → Rose old.disk.faults new.disk.faults
  run-failed (inl h) tells e = absurd (went-steady (lines_of h.text) done IsReport old mid new last answer (of-said old mid last h) (λ f. omega (arith, f)) tells e)
  run-failed (inr (inl h)) tells e = absurd (went-steady [] (damaged 0 h.place) IsBad old mid new last answer (of-none old mid last h) (λ f. omega (arith, f)) tells e)
  run-failed (inr (inr (inl h))) tells e = absurd (went-steady [] (past TaskCount) run.IsTooLarge old mid new last answer (of-many old mid last h) (λ f. omega (arith, f)) tells e)
  run-failed (inr (inr (inr (inl h)))) tells e = subst (λ (n : ℕ). Rose old.disk.faults n) (sym (last-disk last (text_of last) mid new answer tells)) h.cause
  run-failed (inr (inr (inr (inr h)))) tells e = absurd (went-steady [] no_memory (λ image. Unit {0}) old mid new last answer (of-wanted old mid last h) (λ f. omega (arith, f)) tells e)

  pub run-said : Performs opens_run old mid last → Tells last mid new answer → (answer ≡ 9 → ⊥) → new.counts.unsaid ≡ old.counts.unsaid
  run-said (inl h) tells unlike = went-said (lines_of h.text) done IsReport old mid new last answer (of-said old mid last h) tells unlike
  run-said (inr (inl h)) tells unlike = went-said [] (damaged 0 h.place) IsBad old mid new last answer (of-none old mid last h) tells unlike
  run-said (inr (inr (inl h))) tells unlike = went-said [] (past TaskCount) run.IsTooLarge old mid new last answer (of-many old mid last h) tells unlike
  run-said (inr (inr (inr (inl h)))) tells unlike = went-said [] disk_failed (λ image. Unit {0}) old mid new last answer (of-failed old mid last h) tells unlike
  run-said (inr (inr (inr (inr h)))) tells unlike = went-said [] no_memory (λ image. Unit {0}) old mid new last answer (of-wanted old mid last h) tells unlike

  pub run-unsaid : Performs opens_run old mid last → Tells last mid new answer → answer ≡ 9 → new.counts.unsaid ≡ next_count old.counts.unsaid
  run-unsaid (inl h) tells e = went-unsaid (lines_of h.text) done IsReport old mid new last answer (of-said old mid last h) (λ f. omega (arith, f)) tells e
  run-unsaid (inr (inl h)) tells e = went-unsaid [] (damaged 0 h.place) IsBad old mid new last answer (of-none old mid last h) (λ f. omega (arith, f)) tells e
  run-unsaid (inr (inr (inl h))) tells e = went-unsaid [] (past TaskCount) run.IsTooLarge old mid new last answer (of-many old mid last h) (λ f. omega (arith, f)) tells e
  run-unsaid (inr (inr (inr (inl h)))) tells e = went-unsaid [] disk_failed (λ image. Unit {0}) old mid new last answer (of-failed old mid last h) (λ f. omega (arith, f)) tells e
  run-unsaid (inr (inr (inr (inr h)))) tells e = went-unsaid [] no_memory (λ image. Unit {0}) old mid new last answer (of-wanted old mid last h) (λ f. omega (arith, f)) tells e
