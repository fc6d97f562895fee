-- The laws of books that break no rule.
use Rattle.std.proofs.Common.{◌≡◌, inr, ℕ, ◌<◌, ◌≤◌, IsTrue, List, Option, Some, None, IfSome, slice_get, is_some, ap, arith, pos}
use Rattle.std.specs.Fmt.{decimal}
use Rattle.std.proofs.lemmas.Bool.{false≢true}
use Rattle.base_decimals.specs.Laws.{IntegersReadBack}
use Rattle.cacao_vars.specs.declared.kinds.Kind.{Kind}
use Rattle.cacao_vars.specs.declared.kinds.Kind.TheVariants as kind
use Rattle.cacao_book.specs.declared.books.Book.{Book}
use Rattle.cacao_book.specs.declared.steps.Step.{Step}
use Rattle.cacao_check.specs.declared.breaks.Mode.{Mode}
use Rattle.cacao_check.specs.declared.rules.SenseRule.{SenseRule}
use Rattle.cacao_check.specs.declared.rules.SenseRule.TheVariants as rule
use Rattle.cacao_check.specs.Fits.{FitsKind}
use Rattle.cacao_check_regions.specs.Flaws.{may_take}
use Rattle.cacao_check.specs.Rules.{K19, K25}
use Rattle.cacao_check.specs.Sense.{IsSound, KeepsOfStep, KeepsAt}
use Rattle.cacao_check.specs.Laws.{SoundGives, SoundEnds, ResultsFit}

pub at_some : {X : Type 0} (o : Option X) (P : X → Type 0) (x : X) → o ≡ Some x → IfSome o P → P x
at_some o P x e h = rw e at h

kept_of_step : (books : List Book) (mode : Mode) → IsSound books mode → (n place : ℕ) (book : Book) (step : Step) (r : SenseRule) → slice_get books n ≡ Some book → slice_get book.steps place ≡ Some step → KeepsOfStep books mode n book place step r
kept_of_step books mode sound n place book step r at here =
    at_some (slice_get book.steps place) (λ s. KeepsOfStep books mode n book place s r) step here
    (at_some (slice_get books n) (λ b. KeepsAt books mode n b (Some place) r) book at (sound (record { book = n; step = Some place; rule = r })))

pub sound_gives : SoundGives
sound_gives = record {
  of_step = kept_of_step;
  of_book = λ books mode sound n book r at. at_some (slice_get books n) (λ b. KeepsAt books mode n b None r) book at (sound (record { book = n; step = None; rule = r }));
}

pub sound_ends : SoundEnds
sound_ends = record {
  ends = λ books mode sound n place book step at here. let k : K25 book place = kept_of_step books mode sound n place book step rule.K25 at here in k.0;
  apart = λ books mode sound n place book step at here. let k : K25 book place = kept_of_step books mode sound n place book step rule.K25 at here in k.1;
  no_circle = λ books mode sound n m place book theirs step at here calls there. let k : K19 books n step = kept_of_step books mode sound n place book step rule.K19 at here in (k m theirs calls there).1;
}

-- ---- results

number_fits : IntegersReadBack → (k n : ℕ) (kind : Kind) → IsTrue (may_take k kind) → n ≤ 9007199254740991 → k < 2 → FitsKind kind (decimal n)
number_fits back k n kind.String may few two = inr tt
number_fits back k n kind.Bool may few two = absurd (false≢true may)
number_fits back k n kind.Integer may few two = inr (ap is_some (back 9007199254740991 9007199254740991 (pos n) few (omega arith) (omega arith)))
number_fits back k n kind.Long may few two = inr (ap is_some (back 9223372036854775808 9223372036854775807 (pos n) (let fits : n ≤ 9223372036854775807 = omega arith in fits) (omega arith) (omega arith)))
number_fits back k n kind.Ipv4Addr may few two = absurd (false≢true may)
number_fits back k n kind.Ipv6Addr may few two = absurd (false≢true may)
number_fits back k n kind.MacAddr may few two = absurd (false≢true may)
number_fits back k n kind.Uri may few two = absurd (false≢true may)
number_fits back k n kind.Uuid may few two = absurd (false≢true may)
number_fits back k n kind.Hexstring may few two = absurd (false≢true may)
number_fits back k n (kind.Other name) may few two = inr tt

text_fits : (kind : Kind) (text : List ℕ) → IsTrue (may_take 2 kind) → FitsKind kind text
text_fits kind.String text may = inr tt
text_fits (kind.Other name) text may = inr tt
text_fits _ text may = absurd (false≢true may)

pub results_fit : IntegersReadBack → ResultsFit
results_fit back = record { number = number_fits back; text = text_fits }
