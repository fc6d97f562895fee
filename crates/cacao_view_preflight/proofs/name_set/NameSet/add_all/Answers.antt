-- The names before this one, and then this one.
use Rattle.std.proofs.Common.{◌∙◌, ◌++◌, ◌||◌, sym, ap, subst, take, append-nil}
use Rattle.std.proofs.lemmas.List.{take_all}
use Rattle.std.specs.Str.{bytes_eq}
use Rattle.cacao_view_preflight.specs.NameSets.{HasJust, holds}
use Rattle.cacao_view_preflight.proofs.SetLemmas.{just_more, names_more}
use Rattle.cacao_view_preflight.proofs.name_set.NameSet.add_all.Goals as goal

pub loop-name-init : goal.loop-name-init
loop-name-init c = λ all just. subst (HasJust c.args.self.now) (sym (append-nil all)) just

pub loop-name-preserved : goal.loop-name-preserved
loop-name-preserved c = λ all just.
    subst (HasJust c.add.new.self) (sym (names_more c.args.names.now c.loop-name.name-index c.name-item.result all c.loop-name-test.true c.name-item.is))
    (just_more c.loop-name.self c.add.new.self c.name-item.result (all ++ take c.loop-name.name-index c.args.names.now) (c.loop-name.invariant all just)
    (λ other. c.in_ok-add.ensures other ∙ ap (λ n. bytes_eq n other || holds c.loop-name.self other) c.text.ensures.text))

pub returns : goal.returns
returns c = λ all just. subst (HasJust c.loop-name.self) (ap (λ l. all ++ l) (take_all c.loop-name.name-index c.args.names.now c.loop-name-test.false)) (c.loop-name.invariant all just)
