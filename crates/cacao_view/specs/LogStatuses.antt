-- Promise: Which status comes of `log`, and of `graph` alone, and why.
use Rattle.std.specs.Prelude.{◌≡◌, ◌⊎◌, ℕ, ◌<◌, ◌≤◌, List, [], ◌∷◌, length, Option, None, IfSome, IsSomeAnd, IsTrue}
use Rattle.cacao_site.specs.View.{SiteView}
use Rattle.flow_engine_reports.specs.RunFiles.{IsDamaged, IsTooLarge}
use Rattle.flow_engine_reports.specs.RunLines.{HoldsReport}
use Rattle.cacao_cli_ends.specs.Comes.{ComesExactly}
use Rattle.cacao_cli_ends.specs.Files.{Files}
use Rattle.cacao_cli_looks.specs.Openings.{HoldsRun, IsDamagedRun, IsTooLargeRun}
use Rattle.cacao_view_words.specs.Texts.{Text}

-- Of the disk's file, where the disk is told: that of `cacao show`. A failure of the disk, a line that could not be said and want of memory
-- may stand in the place of each.
pub record LogDiskStatuses (old new : SiteView) (answer : ℕ) : Type 0 where
  pub done : IsTrue old.disk.told → ComesExactly 0 (8 ∷ 9 ∷ 10 ∷ []) (HoldsRun new) answer
  pub past_limit : IsTrue old.disk.told → ComesExactly 11 (8 ∷ 9 ∷ 10 ∷ []) (IsTooLargeRun new) answer
  pub damaged : IsTrue old.disk.told → ComesExactly 13 (8 ∷ 9 ∷ 10 ∷ []) (IsDamagedRun new) answer

-- so of a file that is named, which is no longer than an engine's file may be
abbrev pub IsOfFile : Files → Text → (List ℕ → Type 0) → Type 0
IsOfFile files name P = IsSomeAnd (files name) (λ image. (length image ≤ 67_108_864) × P image)

-- the bytes stand for a run; at some place they are none of a run
abbrev pub IsRunFile : List ℕ → Type 0
IsRunFile image = (text : Text) × HoldsReport image text

abbrev pub HasDamage : List ℕ → Type 0
HasDamage image = (place : ℕ) × IsDamaged image place

abbrev pub IsLong : Files → Text → Type 0
IsLong files name = IsSomeAnd (files name) (λ image. 67_108_864 < length image)

-- Of the file of this name, where the shelf tells its files. A failure of the shelf may stand in its place, and the other two.
pub record LogFileStatuses (name : Text) (told : Option Files) (answer : ℕ) : Type 0 where
  pub done : IfSome told (λ files. ComesExactly 0 (3 ∷ 9 ∷ 10 ∷ []) (IsOfFile files name IsRunFile) answer)
  pub missing : IfSome told (λ files. ComesExactly 4 (3 ∷ 9 ∷ 10 ∷ []) (files name ≡ None) answer)
  pub past_limit : IfSome told (λ files. ComesExactly 11 (3 ∷ 9 ∷ 10 ∷ []) (IsLong files name ⊎ IsOfFile files name IsTooLarge) answer)
  pub damaged : IfSome told (λ files. ComesExactly 13 (3 ∷ 9 ∷ 10 ∷ []) (IsOfFile files name HasDamage) answer)
