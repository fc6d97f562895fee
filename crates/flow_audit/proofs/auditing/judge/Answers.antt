use Rattle.std.proofs.Common.{◌<◌, List, length, sym, ap, subst, arith}
use Rattle.run_records.specs.Ranges.{InRange}
use Rattle.run_records.specs.Reading.{record_of}
use Rattle.flow_audit.specs.Files.{image_of}
use Rattle.flow_audit.specs.Parts.{AreFilters, lists_of}
use Rattle.flow_audit.specs.declared.reading.ActFile.{ActFile}
use Rattle.flow_audit.proofs.JudgeLemmas.{act_files, act_once, all_agree, all_are_read, all_within, are_few, few_values, stops_filters, stops_reading, stops_replies, stops_run}
use Rattle.flow_audit.proofs.ReadLemmas.{many_read}
use Rattle.flow_audit.proofs.auditing.judge.Goals as goal

pub returns-in-Err-clause-stops : goal.returns-in-Err-clause-stops
returns-in-Err-clause-stops c = stops_reading c.args.files.now c.in-Err.stop c.in-Err.ensures.stops

pub follow-requires-clause-many : goal.follow-requires-clause-many
follow-requires-clause-many c = many_read record_of InRange (image_of c.args.files.now 0) c.in-Ok.found.journal.entries c.in-Ok.found.journal.records.items c.in-Ok.ensures.journal

pub follow-requires-clause-few : goal.follow-requires-clause-few
follow-requires-clause-few c =
    let few : length c.in-Ok.found.journal.records.items < 67_108_864 =
    few_values record_of InRange (image_of c.args.files.now 0) c.in-Ok.found.journal.entries c.in-Ok.found.journal.records.items c.in-Ok.ensures.journal in
    omega (arith, few)

pub returns-in-Err-follow-clause-stops : goal.returns-in-Err-follow-clause-stops
returns-in-Err-follow-clause-stops c =
    stops_run c.args.files.now c.in-Ok.found.journal.entries c.in-Ok.found.journal.records.items c.in-Ok.found.filters.items c.in-Ok.ensures.journal c.in-Ok.ensures.filters c.in-Err-follow.stop c.in-Err-follow.ensures.stops

pub check_filters-requires-clause-files : goal.check_filters-requires-clause-files
check_filters-requires-clause-files c =
    let filters = c.as_slice-filters.result.now in
    let are : AreFilters c.args.files.now 16 filters = subst (λ (l : List ActFile). AreFilters c.args.files.now 16 l) (sym c.as_slice-filters.ensures.value) c.in-Ok.ensures.filters in
    act_files c.args.files.now filters are

pub returns-in-Err-check_filters-clause-stops : goal.returns-in-Err-check_filters-clause-stops
returns-in-Err-check_filters-clause-stops c =
    let filters = c.as_slice-filters.result.now in
    let are : AreFilters c.args.files.now 16 filters = subst (λ (l : List ActFile). AreFilters c.args.files.now 16 l) (sym c.as_slice-filters.ensures.value) c.in-Ok.ensures.filters in
    stops_filters c.args.files.now c.in-Ok.found.journal.entries c.in-Ok.found.journal.records.items filters c.in-Ok.ensures.journal are c.in-Ok-follow.flow c.in-Ok-follow.ensures.ok
    c.in-Err-check_filters.stop c.in-Err-check_filters.ensures.stops

pub check_replies-requires-clause-entries : goal.check_replies-requires-clause-entries
check_replies-requires-clause-entries c =
    many_read record_of InRange (image_of c.args.files.now 0) c.in-Ok.found.journal.entries c.in-Ok.found.journal.records.items c.in-Ok.ensures.journal

pub check_replies-requires-clause-files : goal.check_replies-requires-clause-files
check_replies-requires-clause-files c =
    let filters = c.as_slice-filters.result.now in
    let are : AreFilters c.args.files.now 16 filters = subst (λ (l : List ActFile). AreFilters c.args.files.now 16 l) (sym c.as_slice-filters.ensures.value) c.in-Ok.ensures.filters in
    act_files c.args.files.now filters are

pub check_replies-requires-clause-once : goal.check_replies-requires-clause-once
check_replies-requires-clause-once c = act_once c.in-Ok.found.journal.records.items c.as_slice-filters.result.now c.in-Ok-check_filters.ensures.fit

pub returns-in-Err-check_replies-clause-stops : goal.returns-in-Err-check_replies-clause-stops
returns-in-Err-check_replies-clause-stops c =
    let filters = c.as_slice-filters.result.now in
    let are : AreFilters c.args.files.now 16 filters = subst (λ (l : List ActFile). AreFilters c.args.files.now 16 l) (sym c.as_slice-filters.ensures.value) c.in-Ok.ensures.filters in
    stops_replies c.args.files.now c.in-Ok.found.journal.entries c.in-Ok.found.journal.records.items filters c.in-Ok.ensures.journal are c.in-Ok-follow.flow c.in-Ok-follow.ensures.ok
    c.in-Ok-check_filters.ensures.fit c.in-Err-check_replies.stop c.in-Err-check_replies.ensures.stops

pub count_acts-requires-clause-few : goal.count_acts-requires-clause-few
count_acts-requires-clause-few c =
    let filters = c.as_slice-filters.result.now in
    let are : AreFilters c.args.files.now 16 filters = subst (λ (l : List ActFile). AreFilters c.args.files.now 16 l) (sym c.as_slice-filters.ensures.value) c.in-Ok.ensures.filters in
    are_few c.args.files.now filters are

pub returns-clause-agree : goal.returns-clause-agree
returns-clause-agree c =
    let files = c.args.files.now in
    let entries = c.in-Ok.found.journal.entries in
    let records = c.in-Ok.found.journal.records.items in
    let filters = c.as_slice-filters.result.now in
    let are : AreFilters files 16 filters = subst (λ (l : List ActFile). AreFilters files 16 l) (sym c.as_slice-filters.ensures.value) c.in-Ok.ensures.filters in
    record {
      all = records;
      lists = lists_of filters;
      are = all_are_read files entries records filters c.in-Ok.ensures.journal are;
      agree = all_agree files entries records filters c.in-Ok.ensures.journal are c.in-Ok-follow.flow c.in-Ok-follow.ensures.ok c.in-Ok-check_filters.ensures.fit c.in-Ok-check_replies.ensures.have;
      records_are = ap length c.as_slice-2.ensures.value;
      acts_are = c.count_acts.ensures;
    }

pub returns-clause-within : goal.returns-clause-within
returns-clause-within c =
    let files = c.args.files.now in
    let filters = c.as_slice-filters.result.now in
    let are : AreFilters files 16 filters = subst (λ (l : List ActFile). AreFilters files 16 l) (sym c.as_slice-filters.ensures.value) c.in-Ok.ensures.filters in
    all_within files c.in-Ok.found.journal.entries c.in-Ok.found.journal.records.items filters c.in-Ok.ensures.journal are c.in-Ok-follow.flow c.in-Ok-follow.ensures.ok c.in-Ok-check_filters.ensures.fit
