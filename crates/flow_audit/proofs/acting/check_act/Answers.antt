use Rattle.std.proofs.Common.{◌≡◌, ◌+◌, [], ◌∷◌, ◌++◌, ℕ, suc, List, length, take, Some, refl, sym, ap, ap₂, subst, ◌∙◌, arith}
use Rattle.std.specs.Prelude.{All, slice_get}
use Rattle.std.proofs.lemmas.Option.{slice_get_read}
use Rattle.run_records.specs.declared.act.Act.{Act}
use Rattle.slpf_rules.specs.declared.rules.Rule.{Rule}
use Rattle.slpf_rules.specs.Replies.{reply}
use Rattle.slpf_rules_acts.specs.Acts.{IsOther, reply_text, table_of}
use Rattle.flow_laws.specs.Journals.{IsSent, run_of}
use Rattle.flow_audit.specs.Breaks.{FitsAct}
use Rattle.flow_audit.specs.Index.{ArePlacesOf}
use Rattle.flow_audit.proofs.ActLemmas.{differs, is_new, not_differs, places_push, repeats, table_push}
use Rattle.flow_audit.proofs.ListLemmas.{get_one, take_length, take_next}
use Rattle.flow_audit.proofs.acting.check_act.Goals as goal

pub returns-then-is_some-clause-breaks : goal.returns-then-is_some-clause-breaks
returns-then-is_some-clause-breaks c = λ e act at fits.
    let acts = c.args.acts.now in
    let n = c.args.n in
    let item = c.index-acts-n.result in
    let there : slice_get acts n ≡ Some item = slice_get_read acts (length acts) n item refl c.requires.there c.index-acts-n.is in
    let same : act ≡ item = get_one acts n act item at there in
    repeats (take n acts) item c.args.index.now c.find.result c.requires.index c.find.ensures c.if-is_some.ensures (subst (λ (a : Act). All (λ x. IsOther x a) (take n acts)) same fits.other)

pub returns-then-not-is_sent-clause-breaks : goal.returns-then-not-is_sent-clause-breaks
returns-then-not-is_sent-clause-breaks c = λ e act at fits.
    let acts = c.args.acts.now in
    let n = c.args.n in
    let item = c.index-acts-n.result in
    let there : slice_get acts n ≡ Some item = slice_get_read acts (length acts) n item refl c.requires.there c.index-acts-n.is in
    let same : act ≡ item = get_one acts n act item at there in
    c.if-not-is_sent.ensures.unsent refl
    (subst (λ (a : Act). run_of c.args.run.now.file.records.items ≡ Some a.run → IsSent c.args.run.now.file.records.items a.issue c.args.agent a.command) same fits.sent)

pub returns-then-ne-clause-breaks : goal.returns-then-ne-clause-breaks
returns-then-ne-clause-breaks c = λ e act at fits.
    let acts = c.args.acts.now in
    let n = c.args.n in
    let item = c.index-acts-n.result in
    let there : slice_get acts n ≡ Some item = slice_get_read acts (length acts) n item refl c.requires.there c.index-acts-n.is in
    let same : act ≡ item = get_one acts n act item at there in
    let text : c.in_ok-text.text ≡ reply_text (table_of (take n acts)) item.command item.moment =
    c.in_ok-text.ensures.text ∙ ap₂ (λ (t : List Rule) (b : List ℕ). reply_text t b item.moment) c.requires.table c.as_slice.ensures in
    let replied : item.reply ≡ reply_text (table_of (take n acts)) item.command item.moment =
    subst (λ (a : Act). a.reply ≡ reply_text (table_of (take n acts)) a.command a.moment) same fits.replied in
    differs c.in_ok-text.text item.reply c.if-ne.ensures (text ∙ sym replied)

pub returns-clause-fits : goal.returns-clause-fits
returns-clause-fits c = λ e act at.
    let acts = c.args.acts.now in
    let n = c.args.n in
    let item = c.index-acts-n.result in
    let there : slice_get acts n ≡ Some item = slice_get_read acts (length acts) n item refl c.requires.there c.index-acts-n.is in
    let same : item ≡ act = get_one acts n item act there at in
    let text : c.in_ok-text.text ≡ reply_text (table_of (take n acts)) item.command item.moment =
    c.in_ok-text.ensures.text ∙ ap₂ (λ (t : List Rule) (b : List ℕ). reply_text t b item.moment) c.requires.table c.as_slice.ensures in
    subst (λ (a : Act). FitsAct c.args.run.now.file.records.items c.args.agent (take n acts) a) same (record {
      other = is_new (take n acts) item c.args.index.now c.find.result c.requires.index c.find.ensures c.if-is_some.ensures;
      replied = sym (not_differs c.in_ok-text.text item.reply c.if-ne.ensures) ∙ text;
      sent = c.if-not-is_sent.ensures.sent refl;
    })

pub returns-clause-index : goal.returns-clause-index
returns-clause-index c = λ e.
    let acts = c.args.acts.now in
    let n = c.args.n in
    let item = c.index-acts-n.result in
    let there : slice_get acts n ≡ Some item = slice_get_read acts (length acts) n item refl c.requires.there c.index-acts-n.is in
    let next : take (n + 1) acts ≡ take n acts ++ item ∷ [] = ap (λ k. take k acts) (let s : n + 1 ≡ suc n = omega arith in s) ∙ take_next acts n item there in
    let long : length (take n acts) ≡ n = take_length acts n (omega (arith, c.requires.there)) in
    subst (λ (l : List Act). ArePlacesOf l c.insert.new.self) (sym next)
    (places_push (take n acts) item c.args.index.now c.insert.new.self n (sym long) c.requires.index c.in_ok-insert.ensures.ok)

pub returns-clause-table : goal.returns-clause-table
returns-clause-table c = λ e.
    let acts = c.args.acts.now in
    let n = c.args.n in
    let item = c.index-acts-n.result in
    let there : slice_get acts n ≡ Some item = slice_get_read acts (length acts) n item refl c.requires.there c.index-acts-n.is in
    let next : take (n + 1) acts ≡ take n acts ++ item ∷ [] = ap (λ k. take k acts) (let s : n + 1 ≡ suc n = omega arith in s) ∙ take_next acts n item there in
    c.in_ok-text.ensures.rules ∙ ap₂ (λ (t : List Rule) (b : List ℕ). (reply t b item.moment).1) c.requires.table c.as_slice.ensures
    ∙ sym (table_push (take n acts) item) ∙ ap table_of (sym next)
