-- What is said, and the status that comes of it.
use Rattle.std.proofs.Common.{◌≡◌, ◌⊎◌, inl, inr, refl, sym, subst, ℕ, List, [], ◌∷◌, Option, Some, None}
use Rattle.cacao_site.specs.View.{SiteView}
use Rattle.cacao_cli_words.specs.Words.{Text}
use Rattle.cacao_cli_ends.specs.Ends.{End, status_of, text_of}
use Rattle.cacao_cli_ends.specs.Comes.{IsOneOf, file_faults}
use Rattle.cacao_cli_ends.specs.Files.{File}
use Rattle.cacao_cli_ends.specs.Lines.{SaysWork, Tells, TellsText}

-- a line could not be said, or memory was wanted
abbrev pub IsCutOff : ℕ → Type 0
IsCutOff answer = IsOneOf answer (9 ∷ 10 ∷ [])

pub cut-among : (answer : ℕ) (files : List File) → IsCutOff answer → IsOneOf answer (file_faults files)
cut-among answer [] h = h
cut-among answer (file ∷ more) h = inr h

tells-text : (last : End) (text : Option Text) (old new : SiteView) (answer : ℕ) → TellsText last text old new answer → (answer ≡ status_of last) ⊎ IsCutOff answer
tells-text last None old new answer h = inl h.answers
tells-text last (Some text) old new answer (inl (inl h)) = inl h.answers
tells-text last (Some text) old new answer (inl (inr h)) = inr (inl h.answers)
tells-text last (Some text) old new answer (inr h) = inr (inr (inl h.answers))

pub tells-status : (last : End) (old new : SiteView) (answer : ℕ) → Tells last old new answer → (answer ≡ status_of last) ⊎ IsCutOff answer
tells-status last old new answer h = tells-text last (text_of last) old new answer h

either : (status answer : ℕ) → IsCutOff status → (answer ≡ status) ⊎ IsCutOff answer → IsCutOff answer
either status answer h (inl e) = subst IsCutOff (sym e) h
either status answer h (inr e) = e

pub says-status : (lines : List Text) (end : End) (old mid new : SiteView) (last : End) (answer : ℕ) → SaysWork lines end old mid last → Tells last mid new answer → (answer ≡ status_of end) ⊎ IsCutOff answer
says-status lines end old mid new last answer (inl h) tells = subst (λ (e : End). (answer ≡ status_of e) ⊎ IsCutOff answer) h.ends (tells-status last mid new answer tells)
says-status lines end old mid new last answer (inr (inl h)) tells = inr (either 9 answer (inl refl) (subst (λ (e : End). (answer ≡ status_of e) ⊎ IsCutOff answer) h.ends (tells-status last mid new answer tells)))
says-status lines end old mid new last answer (inr (inr h)) tells = inr (either 10 answer (inr (inl refl)) (subst (λ (e : End). (answer ≡ status_of e) ⊎ IsCutOff answer) h.ends (tells-status last mid new answer tells)))
