-- What comes of the texts of a run, once its playbooks are judged.
use Rattle.std.proofs.Common.{◌≡◌, ◌∙◌, inl, inr, refl, sym, ap, subst, ℕ, ◌<◌, List, length, Option, Some}
use Rattle.std.specs.Prelude.{IsSome, slice_get}
use Rattle.std.proofs.lemmas.Option.{slice_get_within}
use Rattle.serde_json.specs.Data.{Data}
use Rattle.cacao_check.specs.Fits.{FitsKind}
use Rattle.flow_core.specs.SetupReading.{AreTreesOf, BreaksBindRule, IsFirstUnreadable, texts_read}
use Rattle.flow_core.specs.Setups.{AreAccepted}
use Rattle.flow_core_rules.specs.Accepted.{Accepted}
use Rattle.flow_core_rules.specs.Givens.{Given}
use Rattle.cacao_json.specs.declared.error.JsonError.{JsonError}
use Rattle.flow_engine_answers.specs.Answers as told
use Rattle.flow_engine_answers.specs.declared.answers.OperatorAnswer.{OperatorAnswer}
use Rattle.flow_core_rules.specs.Bindings.{bindings_of}
use Rattle.cacao_cli_words.specs.Requests.{RunRequest}
use Rattle.cacao_cli_words.specs.Words.{Text}
use Rattle.cacao_cli_ends.specs.Told.{end_of}
use Rattle.cacao_cli_ends.specs.Ends.{bind_refused}
use Rattle.cacao_cli_starts.specs.Starting.{AreNamed, AreRefused, HasBind, IsNumbered, LacksOthers, answers_of}
use Rattle.cacao_cli_ends.specs.declared.end.End.{End as HowEnd}
use Rattle.cacao_cli_starts.specs.declared.run_texts.RunTexts.{RunTexts}

is-some : {A : Type 0} (o : Option A) (x : A) → o ≡ Some x → IsSome o
is-some {A} o x e = subst (λ (o : Option A). IsSome o) (sym e) refl

module _ (wanted : RunRequest) (texts : RunTexts) where
  -- where no bindings are named, the texts that are read are those of the playbooks
  pub is-numbered : (file : ℕ) (error : JsonError) → AreNamed wanted texts → IsFirstUnreadable (texts_read texts.books.items texts.bind) file error → IsNumbered wanted file
  is-numbered file error are first none =
      subst (λ (n : ℕ). file < n) are.books
      (slice_get_within texts.books.items file first.text (ap (λ (bind : Text). slice_get (texts_read texts.books.items bind) file) (sym (are.bind none)) ∙ first.text_is))

  pub begins-bind : (rule : ℕ) (answers : List OperatorAnswer) → BreaksBindRule texts.books.items texts.bind rule → HasBind wanted texts → told.Answers (answers_of texts) wanted.run answers
      → AreRefused wanted texts (bind_refused rule)
  begins-bind rule answers breaks bind are site = inr (inr (inl (record {
    trees = breaks.trees;
    are = breaks.trees_are;
    bindings = is-some (bindings_of texts.bind) breaks.bindings breaks.bindings_are;
    bind = bind;
    performs = inr (inr (inl (record { answers = answers; are = are; rule = rule; breaks = breaks; same = refl; ends = refl })));
  })))

  begins-lacking : (trees : List Data) → AreTreesOf texts.books.items trees → IsSome (bindings_of texts.bind) → (how : HowEnd) → LacksOthers wanted texts how → AreRefused wanted texts (end_of how)
  begins-lacking trees are some how (inl blank) site = inr (inl (record { trees = trees; are = are; blank = blank; same = refl }))
  begins-lacking trees are some how (inr (bind, inl (text, is, number, bad, stops))) site = inr (inr (inl (record {
    trees = trees;
    are = are;
    bindings = some;
    bind = bind;
    performs = inl (record { text = text; is = is; number = number; bad = bad; same = refl; ends = stops });
  })))
  begins-lacking trees are some how (inr (bind, inr memory)) site = inr (inr (inr (record { same = refl; ends = memory })))

  pub bind-lacking : (rule : ℕ) (how : HowEnd) → BreaksBindRule texts.books.items texts.bind rule → LacksOthers wanted texts how → AreRefused wanted texts (end_of how)
  bind-lacking rule how breaks lacks = begins-lacking breaks.trees breaks.trees_are (is-some (bindings_of texts.bind) breaks.bindings breaks.bindings_are) how lacks

  pub accepted-lacking : (given : Given) (how : HowEnd) → Accepted AreAccepted FitsKind texts.books.items texts.bind given → LacksOthers wanted texts how → AreRefused wanted texts (end_of how)
  accepted-lacking given how accepted lacks = begins-lacking accepted.trees accepted.trees_are (is-some (bindings_of texts.bind) accepted.bindings accepted.bindings_are) how lacks
