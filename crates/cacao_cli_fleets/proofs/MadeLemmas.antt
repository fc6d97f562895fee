-- A last line that was made, or for which memory was wanted.
use Rattle.std.proofs.Common.{◌≡◌, ◌∙◌, inl, inr, refl, sym, ap, subst, append_assoc, ℕ, ◌++◌, Result, Ok, Err, IfOk, String, Global, codes, string_bytes}
use Rattle.std.specs.Prelude.{decimal}
use Rattle.std.specs.declared.alloc.AllocError.{AllocError}
use Rattle.cacao_site.specs.View.{SiteView}
use Rattle.cacao_cli_words.specs.Words.{Text}
use Rattle.cacao_cli_ends.specs.Lines.{SaysOrFails}
use Rattle.cacao_cli_fleets.specs.FleetEnds.{SaysEnd}
use Rattle.cacao_cli_fleets.specs.MadeLines.{SaysMade}

pub made : (text full : Text) (status : ℕ) (line : Result (String Global) AllocError) (old new : SiteView) (answer : ℕ) → full ≡ text ++ codes "\n" → IfOk line (λ (s : String Global). string_bytes s ≡ full) → SaysMade line status old new answer
    → SaysEnd text status old new answer
made text full status (Ok line) old new answer is ok h = inl (subst (λ (t : Text). SaysOrFails t status old new answer) (ok ∙ is) h)
made text full status (Err error) old new answer is ok h = inr h

-- a line of two numbers
pub two : (front : Text) (a b : ℕ) → front ++ (decimal a ++ (codes " " ++ (decimal b ++ codes "\n"))) ≡ (front ++ (decimal a ++ (codes " " ++ decimal b))) ++ codes "\n"
two front a b =
    ap (λ (t : Text). front ++ t) (sym (append_assoc (decimal a) (codes " " ++ decimal b) (codes "\n")))
    ∙ sym (append_assoc front (decimal a ++ (codes " " ++ decimal b)) (codes "\n"))
