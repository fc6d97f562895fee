use Rattle.std.proofs.Common.{List, [], ◌∷◌, codes, option_map, refl, ap, ◌∙◌}
use Rattle.cacao_json.specs.Tree.{data_of}
use Rattle.oc2_msg_targets.specs.Parts.{whole_data, unless_empty}
use Rattle.oc2_msg_targets.proofs.PresentLemmas.{Part}
use Rattle.oc2_msg_targets.proofs.PutLemmas.{one_more}
use Rattle.oc2_msg.proofs.command_writing.args_part.Goals as goal

pub returns : goal.returns
returns c =
    let a = one_more (codes "stop_time") _ (option_map whole_data c.args.stop) [] _ _ c.in_ok-put.ensures c.time_part.ensures c.new-pairs.ensures tt in
    let list_a : List Part = (codes "stop_time", option_map whole_data c.args.stop) ∷ [] in
    let b = one_more (codes "start_time") _ (option_map whole_data c.args.start) list_a _ _ c.in_ok-put-2.ensures c.time_part-2.ensures a (refl, tt) in
    let bs : List Part = (codes "start_time", option_map whole_data c.args.start) ∷ list_a in
    let d = one_more (codes "slpf") _ (option_map data_of c.args.slpf) bs _ _ c.in_ok-put-3.ensures refl b (refl, (refl, tt)) in
    let ds : List Part = (codes "slpf", option_map data_of c.args.slpf) ∷ bs in
    let e = one_more (codes "duration") _ (option_map whole_data c.args.duration) ds _ _ c.in_ok-put-4.ensures c.time_part-3.ensures d (refl, (refl, (refl, tt))) in
    c.unless_empty.ensures ∙ ap unless_empty e
