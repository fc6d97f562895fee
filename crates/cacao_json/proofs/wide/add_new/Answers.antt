use Rattle.std.proofs.Common.{sym, ap, ◌∙◌}
use Rattle.cacao_json_counts.specs.Counts.{members_of_pairs}
use Rattle.cacao_json.specs.Straight.{entries_data}
use Rattle.cacao_json.proofs.StraightLemmas.{entries-insert_entry, counted-insert_entry, none_there}
use Rattle.cacao_json.proofs.wide.add_new.Goals as goal

pub returns-clause-value : goal.returns-clause-value
returns-clause-value c = ap entries_data c.in_ok-insert.ensures.entries ∙ entries-insert_entry c.args.map.now.entries c.args.name c.args.tree

pub returns-clause-counted : goal.returns-clause-counted
returns-clause-counted c =
    let none = sym c.in_ok-insert.ensures.old ∙ none_there c.in_ok-insert.field-0 (sym c.is_some.ensures ∙ c.if-is_some.false) in
    ap (λ es. members_of_pairs (entries_data es)) c.in_ok-insert.ensures.entries ∙ counted-insert_entry c.args.map.now.entries c.args.name c.args.tree none
