use Rattle.std.proofs.Common.{◌<◌, ℕ, List, length, sym, ap, subst, arith}
use Rattle.flow_laws.specs.Acts.{ReadsAs}
use Rattle.flow_audit.specs.Parts.{HasAct, HasNoAct}
use Rattle.flow_audit.proofs.ReplyLemmas.{act_fits, acted_by, acted_none, acted_only, if_weaker}
use Rattle.flow_audit.proofs.answering.is_acted.Goals as goal

pub reads_as-requires : goal.reads_as-requires
reads_as-requires c =
    let act = c.in-Some.act.now in
    let fits = act_fits c.args.filters.now c.agent_of.result c.run.result c.args.issue act c.requires.files c.requires.many c.in-Some.ensures.some in
    omega (arith, fits.short_reply, ap length c.as_slice.ensures)

pub returns-in-Some : goal.returns-in-Some
returns-in-Some c =
    let seen = c.args.flow.now.seen in
    let filters = c.args.filters.now in
    let issue = c.args.issue in
    let agent = c.agent_of.result in
    let act = c.in-Some.act.now in
    let reads : List ℕ → Type 0 = ReadsAs c.args.status c.args.rule c.args.text.now in
    let has : HasAct filters agent seen.run issue act = subst (λ n. HasAct filters agent n issue act) c.run.ensures c.in-Some.ensures.some in
    let lt : issue < length seen.lists.issues = omega (arith, c.if-issue-issues.false, c.issues.ensures) in
    if_weaker c.reads_as.result
    (λ same both. (
      λ yes. acted_by seen filters issue agent act reads lt c.agent_of.ensures has (subst reads c.as_slice.ensures (both.0 yes)),
      λ acted. both.1 (subst reads (sym c.as_slice.ensures) (acted_only seen filters issue agent act reads c.requires.once c.requires.many c.agent_of.ensures has acted)),
    ))
    c.reads_as.ensures

pub returns-in-None : goal.returns-in-None
returns-in-None c =
    let seen = c.args.flow.now.seen in
    let filters = c.args.filters.now in
    let issue = c.args.issue in
    let agent = c.agent_of.result in
    let none : HasNoAct filters agent seen.run issue = subst (λ n. HasNoAct filters agent n issue) c.run.ensures c.in-None.ensures.none in (
      λ yes. absurd (cc),
      λ acted. absurd (acted_none seen filters issue agent (ReadsAs c.args.status c.args.rule c.args.text.now) c.agent_of.ensures none acted),
    )
