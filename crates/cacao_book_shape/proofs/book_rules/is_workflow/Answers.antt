use Rattle.std.proofs.Common.{map, length, arith}
use Rattle.std.proofs.lemmas.List.{length-map}
use Rattle.serde_json.specs.Find.{as_object}
use Rattle.cacao_json.specs.Tree.{data_of, pair_data}
use Rattle.cacao_ids.specs.Ids.{IsId}
use Rattle.cacao_book_shape.specs.Members.{IsObject}
use Rattle.cacao_book_shape.proofs.ListLemmas.{object_of}
use Rattle.cacao_book_shape.proofs.book_rules.is_workflow.Goals as goal

pub returns : goal.returns
returns c =
    let size = length-map c.pairs-members.result.now pair_data in
    object_of (λ m. IsId m.0 × IsObject m.1) 1 4096 (as_object (data_of c.args.value.now)) c.in-Some.members.now (map pair_data c.pairs-members.result.now) c.in_ok-fits.fits
    c.in-Some.ensures c.pairs-members.ensures.members (omega (arith, size)) (omega (arith, size)) c.in_ok-fits.ensures
