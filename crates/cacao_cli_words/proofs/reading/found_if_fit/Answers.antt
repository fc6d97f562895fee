-- Each value and each name fits, or one does not.
use Rattle.std.proofs.Common.{◌≡◌, ◌∙◌, refl, sym, ap, ap₂, Bool, true, false, List, map, Option, Some, None, Bor}
use Rattle.std.specs.Prelude.{◌&&◌, if◌then◌else◌}
use Rattle.std.specs.List.{list_all}
use Rattle.cacao_cli_words.specs.Commands.{maybe_text}
use Rattle.cacao_cli_words.specs.Found.{Parts, maybe_fits}
use Rattle.cacao_cli_words.specs.Words.{Text, fits}
use Rattle.cacao_cli_words.proofs.OptionLemmas.{all-names, all-values}
use Rattle.cacao_cli_words.proofs.reading.found_if_fit.Goals as goal
use Rattle.cacao_cli_words.proofs.reading.found_if_fit.Goals.{else-all_fit-via-then-all_fit+else-values_fit, else-all_fit-via-else-all_fit}

pub returns-then-values_fit : goal.returns-then-values_fit
returns-then-values_fit c =
    let names : List Text = map (λ (name : Bor Text). name.now) c.args.names.items in
    let values : List (Option Text) = map maybe_text c.args.values.items in
    let a : list_all fits names ≡ true = sym (all-names c.args.names.items) ∙ ap (list_all (λ (name : Bor Text). fits name.now)) (sym c.as_slice.ensures.value) ∙ sym c.all_fit.ensures ∙ c.if-all_fit.true in
    let b : list_all maybe_fits values ≡ true = sym (all-values c.args.values.items) ∙ ap (list_all (λ (value : Option (Bor Text)). maybe_fits (maybe_text value))) (sym c.as_slice-then-all_fit.ensures.value)
    ∙ sym c.values_fit.ensures ∙ c.if-values_fit.true in
    let parts : Parts = record { values = values; names = names } in
    sym (ap₂ (λ (x y : Bool). if x && y then Some parts else None) a b)

and_false : (b : Bool) → (b && false) ≡ false
and_false true = refl
and_false false = refl

pub returns : goal.returns
returns c =
    let names : List Text = map (λ (name : Bor Text). name.now) c.args.names.items in
    let values : List (Option Text) = map maybe_text c.args.values.items in
    let parts : Parts = record { values = values; names = names } in
    elim c.else-all_fit.branch [
      | else-all_fit-via-then-all_fit+else-values_fit w ↦
          let b : list_all maybe_fits values ≡ false = sym (all-values c.args.values.items) ∙ ap (list_all (λ (value : Option (Bor Text)). maybe_fits (maybe_text value))) (sym w.as_slice-then-all_fit.ensures.value)
          ∙ sym w.values_fit.ensures ∙ w.if-values_fit.false in
          sym (ap (λ (y : Bool). if list_all fits names && y then Some parts else None) b ∙ ap (λ (y : Bool). if y then Some parts else None) (and_false (list_all fits names)))
      | else-all_fit-via-else-all_fit w ↦
          let a : list_all fits names ≡ false = sym (all-names c.args.names.items) ∙ ap (list_all (λ (name : Bor Text). fits name.now)) (sym c.as_slice.ensures.value) ∙ sym c.all_fit.ensures ∙ w.if-all_fit.false in
          sym (ap (λ (x : Bool). if x && list_all maybe_fits values then Some parts else None) a)
    ]
