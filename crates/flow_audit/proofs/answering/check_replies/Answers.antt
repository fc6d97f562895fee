use Rattle.std.proofs.Common.{◌≡◌, ◌+◌, ◌++◌, ◌∷◌, [], ℕ, suc, List, length, take, Some, Ok, refl, sym, ap, subst, ◌∙◌, arith}
use Rattle.std.specs.Prelude.{slice_get}
use Rattle.std.proofs.lemmas.List.{take_all}
use Rattle.std.proofs.lemmas.Option.{slice_get_read}
use Rattle.run_records.specs.declared.act.Act.{Act}
use Rattle.run_records.specs.declared.record.Record.{Record}
use Rattle.flow_audit.specs.Breaks.{LacksAct, RepliesHaveActs}
use Rattle.flow_audit.specs.Files.{acts_of}
use Rattle.flow_audit.specs.Parts.{lists_of}
use Rattle.flow_audit.proofs.ListLemmas.{take_next}
use Rattle.flow_audit.proofs.ReplyLemmas.{have_more}
use Rattle.flow_audit.proofs.answering.check_replies.Goals as goal

pub loop-n-preserved : goal.loop-n-preserved
loop-n-preserved c =
    let all = c.args.run.now.file.records.items in
    let acts : ℕ → List Act = acts_of (lists_of c.args.filters.now) in
    let records = c.as_slice-records.result.now in
    let n = c.loop-n.n in
    let r = c.index-records-n.result in
    let there : slice_get records n ≡ Some r = slice_get_read records (length records) n r refl (omega (arith, c.loop-n-test.true)) c.index-records-n.is in
    let next : take (n + 1) records ≡ take n records ++ r ∷ [] = ap (λ k. take k records) (let e : n + 1 ≡ suc n = omega arith in e) ∙ take_next records n r there in
    subst (RepliesHaveActs all acts) (sym next) (have_more all acts (take n records) r c.loop-n.invariant (c.in_ok-check_reply.ensures.has (ap (λ b. Ok b) c.if-not-branch.false)))

pub returns-then-not-branch-clause-stops : goal.returns-then-not-branch-clause-stops
returns-then-not-branch-clause-stops c =
    let all = c.args.run.now.file.records.items in
    let acts : ℕ → List Act = acts_of (lists_of c.args.filters.now) in
    let records = c.as_slice-records.result.now in
    let n = c.loop-n.n in
    let r = c.index-records-n.result in
    let same = c.as_slice-records.ensures.value in
    let there : slice_get records n ≡ Some r = slice_get_read records (length records) n r refl (omega (arith, c.loop-n-test.true)) c.index-records-n.is in
    let lacks : LacksAct all acts n = record {
      r = r;
      there = subst (λ (l : List Record). slice_get l n ≡ Some r) same there;
      lacks = c.in_ok-check_reply.ensures.lacks (ap (λ b. Ok b) c.if-not-branch.true);
      before = subst (λ (l : List Record). RepliesHaveActs all acts (take n l)) same c.loop-n.invariant;
    } in
    (refl, (n, lacks, c.gate.ensures))

pub returns-clause-have : goal.returns-clause-have
returns-clause-have c =
    let all = c.args.run.now.file.records.items in
    let acts : ℕ → List Act = acts_of (lists_of c.args.filters.now) in
    let records = c.as_slice-records.result.now in
    subst (RepliesHaveActs all acts) (take_all c.loop-n.n records (omega (arith, c.loop-n-test.false)) ∙ c.as_slice-records.ensures.value) c.loop-n.invariant
