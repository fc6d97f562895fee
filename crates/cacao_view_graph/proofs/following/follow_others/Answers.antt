use Rattle.std.proofs.Common.{◌≡◌, ◌<◌, ◌≤◌, Bool, List, Ok, ℕ, length, take, true, false, arith, ap, subst, rules}
use Rattle.flow_engine_history.proofs.OpenLemmas.{breaks_at, count_is, few_entries, take_entry}
use Rattle.flow_engine_reports.proofs.ReplayLemmas.{stops_at}
use Rattle.cacao_view_log.specs.Sources.{items_of}
use Rattle.cacao_view_graph.specs.Following.{IsFollowed}
use Rattle.cacao_view_graph.proofs.CourseLemmas.{followed_more}
use Rattle.cacao_view_graph.proofs.following.follow_others.Goals as goal

pub follow_next-requires : goal.follow_next-requires
follow_next-requires c =
    let items = items_of c.args.source.now in
    let seen = c.args.flow.now.seen in
    let h = c.loop-n.invariant.followed.replayed in
    let within : c.loop-n.n ≤ length items = omega arith in
    let count : c.loop-n.flow.count ≡ c.loop-n.n = count_is seen.given seen.run items c.loop-n.flow h.0 c.loop-n.n h.1 within in
    omega (arith, count, few_entries items c.count-n-end.ensures.fits)

pub returns-in-Ok-false-clause-refused : goal.returns-in-Ok-false-clause-refused
returns-in-Ok-false-clause-refused c =
    let items = items_of c.args.source.now in
    let seen = c.args.flow.now.seen in
    let h = c.loop-n.invariant.followed.replayed in
    let within : c.loop-n.n < length items = omega arith in
    let low : 1 ≤ c.loop-n.n = c.loop-n.invariant.low in
    let count : c.loop-n.flow.count ≡ c.loop-n.n = count_is seen.given seen.run items c.loop-n.flow h.0 c.loop-n.n h.1 (omega arith) in
    let bad : c.in-Ok-false.field-0 ≡ false = search rules in
    breaks_at seen.given seen.run items c.loop-n.flow h.0 c.loop-n.n c.place.result c.entry.result.now h.1
    (omega arith) within c.entry.ensures c.law.ensures.sizes.tasks (c.in-Ok-false.ensures.bad (ap (λ (b : Bool). Ok b) bad)) c.place.ensures

pub returns-in-Err-clause-refused : goal.returns-in-Err-clause-refused
returns-in-Err-clause-refused c =
    let items = items_of c.args.source.now in
    let seen = c.args.flow.now.seen in
    let h = c.loop-n.invariant.followed.replayed in
    let within : c.loop-n.n < length items = omega arith in
    let low : 1 ≤ c.loop-n.n = c.loop-n.invariant.low in
    let count : c.loop-n.flow.count ≡ c.loop-n.n = count_is seen.given seen.run items c.loop-n.flow h.0 c.loop-n.n h.1 (omega arith) in
    stops_at seen.given seen.run items c.loop-n.flow h.0 c.loop-n.n c.entry.result.now c.in-Err.error h.1
    (omega arith) within c.entry.ensures c.law.ensures.sizes.tasks c.in-Err.ensures.refused

pub loop-n-preserved : goal.loop-n-preserved
loop-n-preserved c =
    let items = items_of c.args.source.now in
    let seen = c.args.flow.now.seen in
    let within : c.loop-n.n < length items = omega arith in
    let good : c.in-Ok-true.field-0 ≡ true = search rules in
    let more = followed_more seen.given seen.run (take c.loop-n.n items) c.loop-n.flow c.follow_next.new.flow c.loop-n.course c.follow_next.new.course c.entry.result.now
    c.loop-n.invariant.followed (c.in-Ok-true.ensures.followed (ap (λ (b : Bool). Ok b) good)) in
    record {
      low = omega arith;
      followed = subst (λ (l : List (List ℕ)). IsFollowed seen.given seen.run l c.follow_next.new.flow c.follow_next.new.course)
          (take_entry items c.loop-n.n c.entry.result.now within c.entry.ensures) more;
    }
