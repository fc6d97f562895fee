use Rattle.cacao_view_faults.proofs.KindLemmas.{not_json_of_no_kind}
use Rattle.cacao_view_faults.proofs.kinds.not_json.Goals as goal

pub returns : goal.returns
returns c = not_json_of_no_kind
