-- All that a session adds up to.
use Rattle.std.proofs.Common.{◌≡◌, ℕ, ◌+◌, ◌*◌, ◌≤◌, Bool, true, false, List, [], ◌∷◌, length, refl, sym, ◌∙◌, subst, ap, arith}
use Rattle.std.proofs.lemmas.List.{length-append}
use Rattle.run_journal.specs.Durable.{header_bytes, header_calls}
use Rattle.run_records.specs.declared.record.Record.{Record}
use Rattle.flow_engine.specs.OpenIssues.{OpenIssues, count_of}
use Rattle.flow_core_rules.specs.Givens.{Given}
use Rattle.flow_engine.specs.OperatorAnswer.{OperatorAnswer}
use Rattle.slpf_actuator.specs.ActuatorView.{ActuatorView}
use Rattle.flow_world_steps.specs.Handled.{IsAtHand}
use Rattle.flow_world_steps.specs.Link.{PutsAreCounted}
use Rattle.flow_world_steps.specs.Sides.{times}
use Rattle.flow_world_steps.specs.Sums.{headers, if_going, owed_lines, slack, total}
use Rattle.flow_world_steps.specs.Unbroken.{AreFiltersSure, IsJournalSure}
use Rattle.flow_world_steps.specs.Whole.{EachAddsUp, IsOpened}
use Rattle.flow_world_steps.specs.Worlds.{Notes, Phase, World, opened, rests, looked, owes, holds, waits, refused, owes_line}
use Rattle.flow_world_steps.specs.Written.{header_bytes_left, noted_bytes, record_bytes}
use Rattle.flow_world_steps.proofs.Adding.{steps_add, steps_same_given}
use Rattle.flow_world_steps.proofs.Asked.{steps_ask, steps_ignore_few}
use Rattle.flow_world_steps.proofs.Beside.{commands_acted, steps_have_all}
use Rattle.flow_world_steps.proofs.Complete.{steps_complete}
use Rattle.flow_world_steps.proofs.Costs.{steps_cost}
use Rattle.flow_world_steps.proofs.Counted.{steps_count_few}
use Rattle.flow_world_steps.proofs.Filters.{steps_ready_filters}
use Rattle.flow_world_steps.proofs.Grown.{steps_grow_filters}
use Rattle.flow_world_steps.proofs.Handling.{steps_handle, total_append}
use Rattle.flow_world_steps.proofs.Lost.{steps_put_or_lose}
use Rattle.flow_world_steps.proofs.Put.{steps_put_few, steps_reply_few}
use Rattle.flow_world_steps.proofs.Readiness.{steps_ready}
use Rattle.flow_world_steps.proofs.Spoken.{steps_speak}
use Rattle.flow_world_steps.proofs.Unbroken.{filters_stand, journal_stands, steps_unbroken}
use Rattle.flow_world_steps.proofs.Written.{steps_write_few}
use Rattle.flow_world_steps.proofs.Waiting.{steps_wait}

-- ---- where a session begins

none_put : (a : World) (given : Given) (run most : ℕ) (answers : List OperatorAnswer) → IsOpened a given run most answers → (issue : ℕ) → times issue a.notes.put ≡ 0
none_put a given run most answers is issue = ap (λ (n : Notes). times issue n.put) is.notes

counted_first : (a : World) (given : Given) (run most : ℕ) (answers : List OperatorAnswer) → IsOpened a given run most answers → PutsAreCounted a
counted_first a given run most answers is = record {
  few = λ issue. omega (arith, none_put a given run most answers is issue);
  counted = λ issue it there waits_. omega (arith, none_put a given run most answers is issue);
  noted = λ issue. let none : count_of a.engine.puts issue ≡ 0 = ap (λ (o : OpenIssues). count_of o issue) is.no_puts in omega (arith, none);
  later = λ issue past. none_put a given run most answers is issue;
}

-- ---- the headers

two_at_most : (b : Bool) → header_calls b ≤ 2
two_at_most true = omega arith
two_at_most false = omega arith

two_each : (filters : List ActuatorView) → total (λ (v : ActuatorView). header_calls v.prepared) filters ≤ 2 * length filters
two_each [] = omega arith
two_each (v ∷ filters) = let rest = two_each filters in omega (arith, rest, two_at_most v.prepared)

slack_at_most : (p : Phase) → slack p ≤ 5
slack_at_most opened = omega arith
slack_at_most rests = omega arith
slack_at_most looked = omega arith
slack_at_most owes = omega arith
slack_at_most (holds beat parcel) = omega arith
slack_at_most (waits due) = omega arith
slack_at_most (refused cause lacks) = omega arith

-- ---- the bytes

nine_at_most : (b : Bool) → header_bytes b ≤ 9
nine_at_most true = omega arith
nine_at_most false = omega arith

nine_each : (filters : List ActuatorView) → total (λ (v : ActuatorView). header_bytes v.prepared) filters ≤ 9 * length filters
nine_each [] = omega arith
nine_each (v ∷ filters) = let rest = nine_each filters in omega (arith, rest, nine_at_most v.prepared)

-- ---- all

pub steps_add_up : EachAddsUp
steps_add_up a b given run most answers is steps =
    let adds = steps_add a b steps in
    let handles = steps_handle a b (subst (λ (p : Phase). IsAtHand p []) (sym is.phase) refl) steps in
    let left : a.notes.left ≡ most = ap (λ (n : Notes). n.left) is.notes in
    let acted : length a.notes.acted ≡ 0 = ap (λ (n : Notes). length n.acted) is.notes in
    let ignored : a.notes.ignored ≡ 0 = ap (λ (n : Notes). n.ignored) is.notes in
    let going : if_going a.phase (headers a) ≡ headers a = ap (λ (p : Phase). if_going p (headers a)) is.phase in
    let free : owed_lines a.phase ≡ 0 = ap owed_lines is.phase in
    let long = ap (λ (l : List Record). length l) adds.is ∙ length-append a.engine.history.records adds.added in
    let journal_sure : IsJournalSure a = record { whole = is.whole; sure = ap (λ (n : Notes). n.unsure) is.notes } in
    let filters_sure : AreFiltersSure a = record { filters = is.filters; sure = ap (λ (n : Notes). n.unsure_act) is.notes } in
    let costs = steps_cost a b steps in
    let written = (steps_write_few a b (journal_stands a journal_sure) (filters_stand a filters_sure) steps).written in
    let bytes : total record_bytes b.engine.history.records ≡ total record_bytes a.engine.history.records + total record_bytes adds.added =
    ap (λ (l : List Record). total record_bytes l) adds.is ∙ total_append record_bytes a.engine.history.records adds.added in
    let none : noted_bytes a.notes ≡ 0 = ap noted_bytes is.notes in
    let all_left : if_going a.phase (header_bytes_left a) ≡ header_bytes_left a = ap (λ (p : Phase). if_going p (header_bytes_left a)) is.phase in
    record {
      adds = adds;
      budget = adds.budget ∙ left;
      given = steps_same_given a b steps;
      speaks = steps_speak a b (ap owes_line is.phase) steps;
      asks_only = steps_ask a b steps;
      handles = handles;
      noted = steps_put_few a b steps;
      counted = steps_count_few a b (counted_first a given run most answers is) steps;
      puts_or_lost = steps_put_or_lose a b steps;
      replies_few = steps_reply_few a b steps;
      ignored = steps_ignore_few a b (omega (arith, ignored)) steps;
      journal = steps_ready a b (journal_stands a journal_sure) steps;
      filters = steps_ready_filters a b (filters_stand a filters_sure) steps;
      grow = steps_grow_filters a b steps;
      unbroken = steps_unbroken a b journal_sure filters_sure steps;
      acts = λ all. commands_acted a b handles (steps_have_all a b all steps);
      waits = λ all still_. steps_wait a b all is.no_puts still_ steps;
      complete = λ all told still_. steps_complete a b all is.phase is.no_puts (journal_stands a journal_sure) told still_ steps;
      written = omega (arith, written, bytes, none, all_left, nine_each a.filters, nine_at_most a.engine.history.prepared);
      calls = omega (arith, costs.calls, going, free, acted, long, two_each a.filters, two_at_most a.engine.history.prepared, slack_at_most b.phase);
      disk_calls = omega (arith, costs.disk, going, acted, long, two_each a.filters, two_at_most a.engine.history.prepared, slack_at_most b.phase);
    }
