use Rattle.std.proofs.Common.{map, length, arith}
use Rattle.std.proofs.lemmas.List.{length-map}
use Rattle.serde_json.specs.Find.{as_object}
use Rattle.cacao_json.specs.Tree.{data_of, pair_data}
use Rattle.cacao_vars.specs.Names.{IsName}
use Rattle.cacao_book_shape.specs.Shape.{IsDeclaration}
use Rattle.cacao_book_shape.proofs.ListLemmas.{object_of}
use Rattle.cacao_book_shape.proofs.dictionaries.is_dictionary.Goals as goal

pub returns : goal.returns
returns c =
    let size = length-map c.pairs-members.result.now pair_data in
    object_of (λ m. IsName m.0 × IsDeclaration m.1) 0 1024 (as_object (data_of c.args.value.now)) c.in-Some.members.now (map pair_data c.pairs-members.result.now) c.each_declares.result
    c.in-Some.ensures c.pairs-members.ensures.members (omega arith) (omega (arith, size)) c.each_declares.ensures
