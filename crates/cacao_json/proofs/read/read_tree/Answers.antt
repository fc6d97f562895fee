use Rattle.std.proofs.lemmas.Result.{IfOk-weaker}
use Rattle.cacao_json.specs.Tree.{data_of}
use Rattle.cacao_json.proofs.Answers.{is_answer}
use Rattle.cacao_json.proofs.Shapes.{IsTree-from_tree}
use Rattle.cacao_json.proofs.read.read_tree.Goals as goal

pub returns-clause-profile : goal.returns-clause-profile
returns-clause-profile c = IfOk-weaker c.read_kept.result _ _ (λ t e. IsTree-from_tree c.args.bytes.now (data_of t) e) c.read_kept.ensures.ok

pub returns-clause-exact : goal.returns-clause-exact
returns-clause-exact c = is_answer c.args.bytes.now c.read_kept.result c.read_kept.ensures.ok c.read_kept.ensures.err
