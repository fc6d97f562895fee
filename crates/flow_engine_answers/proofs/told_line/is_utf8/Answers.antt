use Rattle.std.proofs.Common.{◌≡◌, ℕ, List, Result, Ok, Err, sym, ◌∙◌}
use Rattle.std.specs.Prelude.{MatchResult}
use Rattle.std.specs.Result.{is_ok}
use Rattle.std.specs.Str.{IsUtf8, is_utf8}
use Rattle.std.proofs.lemmas.Bool.{false_from_ne_true}
use Rattle.std.proofs.lemmas.Str.{IsUtf8-from_is_utf8, is_utf8-from_IsUtf8}
use Rattle.flow_engine_answers.proofs.told_line.is_utf8.Goals as goal

tells : {T E : Type 0} (bs : List ℕ) (P : T → Type 0) (Q : E → Type 0) (r : Result T E) → MatchResult r (λ s. P s × IsUtf8 bs) (λ e. (¬ (IsUtf8 bs)) × Q e) → is_ok r ≡ is_utf8 bs
tells bs P Q (Ok s) h = sym (is_utf8-from_IsUtf8 bs h.1)
tells bs P Q (Err e) h = sym (false_from_ne_true (is_utf8 bs) (λ t. h.0 (IsUtf8-from_is_utf8 bs t)))

pub returns : goal.returns
returns c = c.is_ok.ensures.value ∙ tells c.args.text.now _ _ c.from_utf8.result c.from_utf8.ensures.cases
