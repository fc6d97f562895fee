use Rattle.std.proofs.Common.{None, codes, sym, subst}
use Rattle.serde_json.specs.Find.{get}
use Rattle.cacao_json.specs.Tree.{data_of}
use Rattle.cacao_ids.specs.Ids.{IsId, HasObjectType}
use Rattle.cacao_ids.specs.Stamps.{IsStamp}
use Rattle.cacao_book_shape.specs.Shape.{k2, k3}
use Rattle.cacao_book.proofs.LimitLemmas.{text_there}
use Rattle.cacao_book.proofs.reading.read_shaped.Goals as goal

pub known_id-requires : goal.known_id-requires
known_id-requires c =
    subst IsId (sym c.some_text.ensures)
    (text_there (λ id. IsId id × HasObjectType (codes "playbook") id) (get (codes "id") (data_of c.args.tree.now)) (c.requires (record { step = None; rule = k2 })).0).0

pub known_stamp-requires : goal.known_stamp-requires
known_stamp-requires c =
    subst IsStamp (sym c.some_text-2.ensures) (text_there IsStamp (get (codes "modified") (data_of c.args.tree.now)) (c.requires (record { step = None; rule = k2 })).3)

pub read_vars-requires : goal.read_vars-requires
read_vars-requires c = (c.requires (record { step = None; rule = k3 })).0
