use Rattle.std.proofs.Common.{◌≡◌, ◌+◌, [], arith, rules}
use Rattle.json.specs.Lex.{tokens}
use Rattle.json.specs.Json.{value}
use Rattle.cacao_json.proofs.TokenSteps.{whole_read}
use Rattle.cacao_json_counts.specs.Counts.{members}
use Rattle.cacao_json.specs.Straight.{keys_in}
use Rattle.cacao_json.specs.Tree.{data_of}
use Rattle.cacao_json.proofs.StraightLemmas.{tree-from_keys}
use Rattle.cacao_json.proofs.straight.read_text.Goals as goal

pub returns : goal.returns
returns c =
    let text = c.args.text.now in
    let d = data_of c.in_ok-tree.tree in
    let none : c.read.new.reader ≡ [] = search rules in
    let keys : keys_in (tokens text) ≡ members d + keys_in [] = rw (c.in_ok-reader.ensures.ok, none) at c.in_ok-tree.ensures.keys in
    tree-from_keys text d c.utf8.text (whole_read (value 127 (tokens text)) d (rw (c.in_ok-reader.ensures.ok, none) at c.in_ok-tree.ensures.value)) (omega (arith, keys)) c.in_ok-tree.ensures.formed
