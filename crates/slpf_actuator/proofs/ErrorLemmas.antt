-- Which refusal of the journal a refusal of the filter comes from.
use Rattle.std.proofs.Common.{◌≡◌, ℕ, Result, Ok, Err, OnErr, refl, sym, ap, ◌∙◌}
use Rattle.std.specs.Prelude.{IsErrOf}
use Rattle.run_journal.specs.declared.error.JournalError.{JournalError}
use Rattle.run_journal.specs.declared.error.JournalError.TheVariants as journal
use Rattle.slpf_actuator.specs.declared.error.ActError.{ActError}
use Rattle.slpf_actuator.specs.declared.error.ActError.TheVariants.{Damaged, Full, Broken}
use Rattle.slpf_actuator.specs.Errors.{error_of}

pub from_full : (j : JournalError) (needed : ℕ) → error_of j ≡ Full needed → j ≡ journal.Full needed
from_full journal.Disk needed h = absurd (cc)
from_full (journal.Damaged place) needed h = absurd (cc)
from_full (journal.Full length) needed h = let e : length ≡ needed = cc in ap (λ n. journal.Full n) e
from_full journal.Broken needed h = absurd (cc)
from_full journal.Memory needed h = absurd (cc)

pub from_damaged : (j : JournalError) (place : ℕ) → error_of j ≡ Damaged place → j ≡ journal.Damaged place
from_damaged journal.Disk place h = absurd (cc)
from_damaged (journal.Damaged at) place h = let e : at ≡ place = cc in ap (λ n. journal.Damaged n) e
from_damaged (journal.Full length) place h = absurd (cc)
from_damaged journal.Broken place h = absurd (cc)
from_damaged journal.Memory place h = absurd (cc)

pub from_broken : (j : JournalError) → error_of j ≡ Broken → j ≡ journal.Broken
from_broken journal.Disk h = absurd (cc)
from_broken (journal.Damaged place) h = absurd (cc)
from_broken (journal.Full length) h = absurd (cc)
from_broken journal.Broken h = refl
from_broken journal.Memory h = absurd (cc)

-- what keeps an act never answers that the value was broken, nor that the file is damaged
pub no_other_passes : (r : Result (Unit {0}) ActError) (j : JournalError) → (e : ActError) × (r ≡ Err e) × (e ≡ error_of j)
    → ((place : ℕ) → (IsErrOf {T = Unit {0}} (Err j) journal.Broken → ⊥) × (IsErrOf {T = Unit {0}} (Err j) (journal.Damaged place) → ⊥))
    → (place : ℕ) → (IsErrOf r Broken → ⊥) × (IsErrOf r (Damaged place) → ⊥)
no_other_passes r j (e, is, from) other place = (
  λ h. let same : e ≡ Broken = cc in (other place).0 (ap (λ (x : JournalError). Err x) (from_broken j (sym from ∙ same))),
  λ h. let same : e ≡ Damaged place = cc in (other place).1 (ap (λ (x : JournalError). Err x) (from_damaged j place (sym from ∙ same))),
)

-- what holds whatever the error is
pub on_err : {T E X : Type 0} (r : Result T E) → X → OnErr r X
on_err (Ok x) holds = tt
on_err (Err e) holds = holds
