use Rattle.std.proofs.Common.{◌≡◌, ◌-◌, List, length, None, Some, refl, sym, ap, subst, ◌∙◌, arith}
use Rattle.std.specs.Prelude.{slice_get}
use Rattle.std.proofs.lemmas.Option.{slice_get_read}
use Rattle.run_records.specs.declared.act.Act.{Act}
use Rattle.flow_audit.specs.Index.{Tells}
use Rattle.flow_audit.specs.declared.reading.ActFile.{ActFile}
use Rattle.flow_audit.proofs.FilterLemmas.{index_tells, index_within, told_act, told_none, told_within}
use Rattle.flow_audit.proofs.answering.find_act.Goals as goal

pub bounds-indexes-agent : goal.bounds-indexes-agent
bounds-indexes-agent c = index_within c.args.filters.now c.args.indexes.now (c.args.agent - 1) c.requires.indexes (omega arith)

pub act_at-requires : goal.act_at-requires
act_at-requires c =
    let filters = c.args.filters.now in
    let indexes = c.args.indexes.now in
    let k = c.args.agent - 1 in
    let f = c.index-filters-agent.result in
    let index = c.index-indexes-agent.result in
    let acts_are : c.as_slice-acts.result.now ≡ f.acts.items = c.as_slice-acts.ensures.value ∙ ap (λ (x : ActFile). x.acts.items) (sym c.index-filters-agent.is) in
    let there : slice_get filters k ≡ Some f = slice_get_read filters (length filters) k f refl (omega arith) c.index-filters-agent.is in
    let at : slice_get indexes k ≡ Some index = slice_get_read indexes (length indexes) k index refl (index_within filters indexes k c.requires.indexes (omega arith)) c.index-indexes-agent.is in
    let told : Tells f.acts.items c.args.run c.args.issue (Some c.in-Some.place) =
    subst (Tells f.acts.items c.args.run c.args.issue) (sym c.in-Some.ensures) (index_tells filters indexes k f index c.args.run c.args.issue c.requires.indexes there at) in
    omega (arith, told_within f.acts.items c.args.run c.args.issue c.in-Some.place told, ap length acts_are)

pub returns-in-Some-clause-some : goal.returns-in-Some-clause-some
returns-in-Some-clause-some c =
    let filters = c.args.filters.now in
    let indexes = c.args.indexes.now in
    let k = c.args.agent - 1 in
    let f = c.index-filters-agent.result in
    let index = c.index-indexes-agent.result in
    let acts_are : c.as_slice-acts.result.now ≡ f.acts.items = c.as_slice-acts.ensures.value ∙ ap (λ (x : ActFile). x.acts.items) (sym c.index-filters-agent.is) in
    let there : slice_get filters k ≡ Some f = slice_get_read filters (length filters) k f refl (omega arith) c.index-filters-agent.is in
    let at : slice_get indexes k ≡ Some index = slice_get_read indexes (length indexes) k index refl (index_within filters indexes k c.requires.indexes (omega arith)) c.index-indexes-agent.is in
    let told : Tells f.acts.items c.args.run c.args.issue (Some c.in-Some.place) =
    subst (Tells f.acts.items c.args.run c.args.issue) (sym c.in-Some.ensures) (index_tells filters indexes k f index c.args.run c.args.issue c.requires.indexes there at) in
    let act : slice_get f.acts.items c.in-Some.place ≡ Some c.act_at.result.now = subst (λ (l : List Act). slice_get l c.in-Some.place ≡ Some c.act_at.result.now) acts_are c.act_at.ensures in
    told_act filters c.args.agent k f c.args.run c.args.issue c.in-Some.place c.act_at.result.now (omega arith) (omega arith, omega (arith, c.requires.many)) there told act

pub returns-in-None-clause-none : goal.returns-in-None-clause-none
returns-in-None-clause-none c =
    let filters = c.args.filters.now in
    let indexes = c.args.indexes.now in
    let k = c.args.agent - 1 in
    let f = c.index-filters-agent.result in
    let index = c.index-indexes-agent.result in
    let there : slice_get filters k ≡ Some f = slice_get_read filters (length filters) k f refl (omega arith) c.index-filters-agent.is in
    let at : slice_get indexes k ≡ Some index = slice_get_read indexes (length indexes) k index refl (index_within filters indexes k c.requires.indexes (omega arith)) c.index-indexes-agent.is in
    let told : Tells f.acts.items c.args.run c.args.issue None =
    subst (Tells f.acts.items c.args.run c.args.issue) (sym c.in-None.ensures) (index_tells filters indexes k f index c.args.run c.args.issue c.requires.indexes there at) in
    told_none filters c.args.agent k f c.args.run c.args.issue (omega arith) there told
