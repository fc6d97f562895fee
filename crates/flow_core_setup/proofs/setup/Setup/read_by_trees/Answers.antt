use Rattle.std.proofs.Common.{sym, subst, List, map}
use Rattle.serde_json.specs.Data.{Data}
use Rattle.cacao_json.specs.Tree.{data_of}
use Rattle.cacao_vars.specs.declared.declarations.Var.{Var}
use Rattle.flow_core_setup.specs.Setups.{AreAccepted}
use Rattle.flow_core_setup.specs.SetupReading.{RefusesBindings}
use Rattle.cacao_check.specs.Fits.{FitsKind}
use Rattle.flow_core_rules.specs.Accepted.{Accepted}
use Rattle.flow_core_setup.specs.SetupGivens.{given_by}
use Rattle.flow_core_setup.proofs.SetupReasons.{refused_bindings, variables_are}
use Rattle.flow_core_setup.proofs.SetupAgain.{accepted_again}
use Rattle.flow_core_setup.proofs.SetupWhole.{is_setup, accepted_whole}
use Rattle.flow_core_setup.proofs.setup.Setup.read_by_trees.Goals as goal

pub returns-in-Err-read_bound-clause-err : goal.returns-in-Err-read_bound-clause-err
returns-in-Err-read_bound-clause-err c =
    let trees : List Data = map data_of c.args.trees.now in
    let bindings : Data = data_of c.args.bindings.now in
    refused_bindings c.args.books.now c.args.bind.now trees bindings c.in-Err-read_bound.refusal c.requires.trees c.requires.bindings c.in-Ok.ensures.accepted
    (subst (λ (vars : List Var). RefusesBindings vars bindings c.in-Err-read_bound.refusal)
    (sym (variables_are trees c.in-Ok.checked.books c.book.result.now c.in-Ok.ensures.books c.book.ensures)) c.in-Err-read_bound.ensures.broken)

whole : (c : goal.After-canonical_law) → Accepted AreAccepted FitsKind c.args.books.now c.args.bind.now
    (given_by c.in-Ok.checked.books c.in_ok-texts.texts c.in_ok-bind.bind c.in-Ok-read_bound.bound.agents.items c.in-Ok-read_bound.bound.variables.items)
whole c =
    accepted_whole c.args.books.now c.args.bind.now (map data_of c.args.trees.now) (data_of c.args.bindings.now) c.book.result.now c.in-Ok.checked.books c.in_ok-texts.texts c.in_ok-bind.bind c.in-Ok-read_bound.bound.agents.items
    c.in-Ok-read_bound.bound.variables.items c.requires.few c.requires.trees c.requires.bindings c.in-Ok.ensures.accepted c.book.ensures c.in-Ok-read_bound.ensures.kept
    c.in-Ok.ensures.books c.in_ok-texts.ensures c.in_ok-bind.ensures c.in-Ok-read_bound.ensures.agents c.in-Ok-read_bound.ensures.variables

pub invariant_of-result : goal.invariant_of-result
invariant_of-result c = (
  is_setup c.sound_gives.ensures
      (accepted_again c.canonical_law.ensures.trees c.canonical_law.ensures.reads_back c.canonical_law.ensures.book_reads_back c.canonical_law.ensures.book_fixed) c.canonical_law.ensures.no_longer c.canonical_law.ensures.book_no_longer c.args.books.now c.args.bind.now
      (given_by c.in-Ok.checked.books c.in_ok-texts.texts c.in_ok-bind.bind c.in-Ok-read_bound.bound.agents.items c.in-Ok-read_bound.bound.variables.items) (whole c)
      c.requires.readable c.requires.readable_bind c.in-Ok.ensures.steps c.in-Ok-read_bound.ensures.order,
  c.in_ok-words.ensures,
)

pub returns-clause-ok : goal.returns-clause-ok
returns-clause-ok c =
    accepted_whole c.args.books.now c.args.bind.now (map data_of c.args.trees.now) (data_of c.args.bindings.now) c.book.result.now c.in-Ok.checked.books c.in_ok-texts.texts c.in_ok-bind.bind c.in-Ok-read_bound.bound.agents.items
    c.in-Ok-read_bound.bound.variables.items c.requires.few c.requires.trees c.requires.bindings c.in-Ok.ensures.accepted c.book.ensures c.in-Ok-read_bound.ensures.kept
    c.in-Ok.ensures.books c.in_ok-texts.ensures c.in_ok-bind.ensures c.in-Ok-read_bound.ensures.agents c.in-Ok-read_bound.ensures.variables
