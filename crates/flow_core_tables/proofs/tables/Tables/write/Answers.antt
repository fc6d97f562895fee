use Rattle.std.proofs.Common.{◌∙◌, ap, length, refl, sym}
use Rattle.flow_core_rules.specs.Edits.{with_text}
use Rattle.flow_core_tables.proofs.EntryLemmas.{changed_length}
use Rattle.flow_core_tables.proofs.tables.Tables.write.Goals as goal

pub returns-clause-lists : goal.returns-clause-lists
returns-clause-lists c = rw (c.write.ensures.scopes, c.write.ensures.texts) refl

pub returns-clause-tables : goal.returns-clause-tables
returns-clause-tables c = λ given h. record {
  waits_len = h.waits_len;
  texts_len = ap length c.write.ensures.texts
      ∙ changed_length c.args.scope (with_text c.args.name.now c.args.worth) c.args.self.now.opened.texts
      ∙ h.texts_len ∙ ap length (sym c.write.ensures.scopes);
  waits = h.waits;
  ready = h.ready;
  delays = h.delays;
  deadlines = h.deadlines;
  questions = h.questions;
  owners = h.owners;
}
