use Rattle.std.proofs.Common.{◌≡◌, ◌≢◌, false, [], ℕ, List, length, sym, ap, subst, arith}
use Rattle.flow_engine_answers.specs.declared.answers.OperatorAnswer.{OperatorAnswer}
use Rattle.flow_engine_answers.specs.Answers.{IsFirstBadLine}
use Rattle.flow_engine_answers.specs.AnswerReading.{told_of}
use Rattle.flow_engine_answers.proofs.ToldLines.{IsReadUpTo, read_none, read_more, read_bad, read_good, first_shorter}
use Rattle.flow_engine_answers.proofs.answers.read_answers.Goals as goal

pub loop-rest-init : goal.loop-rest-init
loop-rest-init c = subst (λ (l : List OperatorAnswer). IsReadUpTo c.args.bytes.now c.args.run c.args.bytes.now 1 l) (sym c.new-list.ensures.items) (read_none c.args.bytes.now c.args.run)

pub returns-in_default-clause-line : goal.returns-in_default-clause-line
returns-in_default-clause-line c number e =
    let same : c.loop-rest.number ≡ number = cc e in
    let some : c.loop-rest.rest.now ≢ [] = λ none.
    let long : length c.loop-rest.rest.now ≡ 0 = ap length none in
    let test : c.is_empty.result ≡ false = c.loop-rest-test.true in
    grind (arith, long, test, c.is_empty.ensures)
    in
    subst (λ (n : ℕ). IsFirstBadLine c.args.bytes.now n) same
    (read_bad c.args.bytes.now c.args.run c.loop-rest.rest.now c.loop-rest.number c.loop-rest.list.items c.loop-rest.invariant some (sym c.in_default.ensures))

pub loop-rest-smaller : goal.loop-rest-smaller
loop-rest-smaller c = first_shorter c.loop-rest.rest.now (told_of c.in-Some.told, c.in-Some.behind.now) (sym c.in-Some.ensures)

pub loop-rest-preserved : goal.loop-rest-preserved
loop-rest-preserved c = read_more c.args.bytes.now c.args.run c.loop-rest.rest.now c.loop-rest.number c.loop-rest.list.items c.add.new.list.items
    (told_of c.in-Some.told, c.in-Some.behind.now) c.loop-rest.invariant (sym c.in-Some.ensures) c.in_ok-add.ensures

pub invariant_of-result : goal.invariant_of-result
invariant_of-result c = read_good c.args.bytes.now c.args.run c.loop-rest.rest.now c.loop-rest.number c.loop-rest.list.items c.loop-rest.invariant
