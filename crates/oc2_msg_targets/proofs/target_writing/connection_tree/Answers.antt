use Rattle.std.proofs.Common.{List, [], ◌∷◌, codes, option_map, refl, ap}
use Rattle.serde_json.specs.Data.{string, object}
use Rattle.oc2_msg_targets.specs.Parts.{whole_data}
use Rattle.oc2_msg_targets.specs.Least.{protocol_data}
use Rattle.oc2_msg_targets.proofs.PresentLemmas.{Part}
use Rattle.oc2_msg_targets.proofs.PutLemmas.{one_more}
use Rattle.oc2_msg_targets.proofs.target_writing.connection_tree.Goals as goal

pub returns : goal.returns
returns c =
    let a = one_more (codes "src_port") _ (option_map whole_data c.args.src_port) [] _ _ c.in_ok-put.ensures c.port_part.ensures c.new-pairs.ensures tt in
    let list_a : List Part = (codes "src_port", option_map whole_data c.args.src_port) ∷ [] in
    let b = one_more (codes "src_addr") _ (option_map string c.args.src) list_a _ _ c.in_ok-put-2.ensures c.text_part.ensures a (refl, tt) in
    let bs : List Part = (codes "src_addr", option_map string c.args.src) ∷ list_a in
    let d = one_more (codes "protocol") _ (option_map protocol_data c.args.protocol) bs _ _ c.in_ok-put-3.ensures c.in_ok-protocol.ensures b (refl, (refl, tt)) in
    let ds : List Part = (codes "protocol", option_map protocol_data c.args.protocol) ∷ bs in
    let e = one_more (codes "dst_port") _ (option_map whole_data c.args.dst_port) ds _ _ c.in_ok-put-4.ensures c.port_part-2.ensures d (refl, (refl, (refl, tt))) in
    let es : List Part = (codes "dst_port", option_map whole_data c.args.dst_port) ∷ ds in
    let f = one_more (codes "dst_addr") _ (option_map string c.args.dst) es _ _ c.in_ok-put-5.ensures c.text_part-2.ensures e (refl, (refl, (refl, (refl, tt)))) in
    ap object f
