use Rattle.std.proofs.Common.{◌≡◌, ◌∙◌, ◌<◌, ◌^◌, find, Some, false, sym, subst, ap, arith}
use Rattle.std.proofs.lemmas.Option.{none-some}
use Rattle.slpf_actuator_acts.specs.ActLists.{IsHistory}
use Rattle.slpf_actuator.specs.ActuatorCalls.{Offers}
use Rattle.slpf_actuator_acts.specs.ActuatorView.{ActuatorView}
use Rattle.slpf_actuator.specs.declared.error.ActError.TheVariants.{Broken, Damaged}
use Rattle.slpf_actuator_acts.specs.History.{is_of}
use Rattle.slpf_actuator.proofs.HandleLemmas.{broken_view, may_have_done, ready_after_put, repeats, same_refusal, view_whole}
use Rattle.slpf_actuator_acts.proofs.KeepLemmas.{act_fits}
use Rattle.slpf_actuator_acts.proofs.Places.{find_none, new_finds_none}
use Rattle.slpf_actuator.proofs.actuator.Actuator.handle.Goals as goal

pub act_on-requires-clause-is_new : goal.act_on-requires-clause-is_new
act_on-requires-clause-is_new g c = find_none c.args.parcel.now.run c.args.parcel.now.issue c.self.inside.history (sym c.in-None.ensures)

pub act_on-requires-clause-fits : goal.act_on-requires-clause-fits
act_on-requires-clause-fits g c =
    let history : IsHistory c.self.inside.history = subst IsHistory (ap (λ (v : ActuatorView). v.acts) (sym c.self.view_is)) c.requires.ready.history in
    let run_fits : c.args.parcel.now.run < 2 ^ 64 = omega arith in
    let issue_fits : c.args.parcel.now.issue < 2 ^ 32 = omega arith in
    act_fits c.replies_are_final.ensures c.self.inside.history c.args.parcel.now c.args.moment history run_fits issue_fits c.requires.moment c.requires.small

pub returns-in-Ok-clause-ready : goal.returns-in-Ok-clause-ready
returns-in-Ok-clause-ready g c = ready_after_put c.args.self.now _ _ _ c.requires.ready c.put.ensures

pub returns-in-Ok-clause-repeated : goal.returns-in-Ok-clause-repeated
returns-in-Ok-clause-repeated g c = λ e.
    let parcel = c.args.parcel.now in
    let found : find (is_of parcel.run parcel.issue) c.args.self.now.acts ≡ Some c.in-Some.act.now =
    ap (λ (v : ActuatorView). find (is_of parcel.run parcel.issue) v.acts) (sym c.self.view_is) ∙ sym c.in-Some.ensures in
    repeats c.replies_are_final.ensures c.args.self.now parcel c.in-Some.act.now c.in-Ok.reply _ _ c.requires.ready.history found c.requires.own c.in-Ok.ensures c.put.ensures

pub returns-in-Ok-clause-full_only : goal.returns-in-Ok-clause-full_only
returns-in-Ok-clause-full_only g c = λ whole is_new past.
    let parcel = c.args.parcel.now in
    let found : find (is_of parcel.run parcel.issue) c.args.self.now.acts ≡ Some c.in-Some.act.now =
    ap (λ (v : ActuatorView). find (is_of parcel.run parcel.issue) v.acts) (sym c.self.view_is) ∙ sym c.in-Some.ensures in
    absurd (none-some c.in-Some.act.now (sym (new_finds_none parcel.run parcel.issue c.args.self.now.acts is_new) ∙ found))

pub returns-in-Err-act_on-clause-refused : goal.returns-in-Err-act_on-clause-refused
returns-in-Err-act_on-clause-refused g c = λ whole.
    let inside = c.self.inside in
    let says = c.in-Err-act_on.ensures in
    let old = g.S.Disk.view c.args.site.now in
    let new = g.S.Disk.view c.act_on.new.site in
    let offers : Offers c.args.self.now c.args.parcel.now c.args.moment old new =
    subst (λ (v : ActuatorView). Offers v c.args.parcel.now c.args.moment old new) (view_whole inside.journal inside.history inside.broken c.if-self.false ∙ c.self.view_is) says.refused in
    record {
      view = broken_view c.args.self.now inside.journal c.act_on.new.journal inside.history c.act_on.new.history inside.broken c.self.view_is says.file says.acts_stay;
      site = may_have_done c.in-Err-act_on.error c.args.self.now c.args.parcel.now c.args.moment old new offers (λ needed e. ap g.S.Disk.view (says.full_stays needed e)) says.no_other;
      steady = λ other. says.steady (λ e. other (cc));
    }

pub returns-in-Err-act_on-clause-broken : goal.returns-in-Err-act_on-clause-broken
returns-in-Err-act_on-clause-broken g c =
    let is : c.self.inside.broken ≡ c.args.self.now.broken = ap (λ (v : ActuatorView). v.broken) c.self.view_is in
    let whole : c.self.inside.broken ≡ false = c.if-self.false in
    (λ e. absurd ((c.in-Err-act_on.ensures.no_other 0).0 (same_refusal c.in-Err-act_on.error Broken e)), λ e. cc)

pub returns-in-Err-act_on-clause-broken_stays : goal.returns-in-Err-act_on-clause-broken_stays
returns-in-Err-act_on-clause-broken_stays g c = λ e. absurd ((c.in-Err-act_on.ensures.no_other 0).0 (same_refusal c.in-Err-act_on.error Broken e))

pub returns-in-Err-act_on-clause-no_other : goal.returns-in-Err-act_on-clause-no_other
returns-in-Err-act_on-clause-no_other g c = λ place e. (c.in-Err-act_on.ensures.no_other place).1 (same_refusal c.in-Err-act_on.error (Damaged place) e)
