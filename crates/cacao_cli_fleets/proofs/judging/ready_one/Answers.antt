-- The number at this place stands nowhere before it.
use Rattle.std.proofs.Common.{◌≡◌, arith, length}
use Rattle.std.specs.Prelude.{slice_index_or}
use Rattle.std.proofs.lemmas.Option.{slice_get-get_or}
use Rattle.cacao_cli_fleets.specs.Judging.{runs_in}
use Rattle.cacao_cli_fleets.proofs.ReadyLemmas.{join-other, long}
use Rattle.cacao_cli_fleets.proofs.judging.ready_one.Goals as goal

pub join-requires-clause-few : goal.join-requires-clause-few
join-requires-clause-few c =
    let count : length (runs_in c.args.runs) ≡ c.args.place =
    long c.args.pairs.now c.args.place (slice_index_or c.args.pairs.now c.args.place c.index-pairs-place.result) (runs_in c.args.runs)
    (slice_get-get_or c.args.pairs.now c.args.place c.index-pairs-place.result c.requires.here) c.requires.numbered in
    omega (arith, count, c.requires.here, c.requires.few)

pub join-requires-clause-other : goal.join-requires-clause-other
join-requires-clause-other c =
    join-other c.args.pairs.now c.args.place (slice_index_or c.args.pairs.now c.args.place c.index-pairs-place.result) (runs_in c.args.runs)
    (slice_get-get_or c.args.pairs.now c.args.place c.index-pairs-place.result c.requires.here) c.requires.numbered c.requires.apart

pub returns-in-Ok-join-clause-ok : goal.returns-in-Ok-join-clause-ok
returns-in-Ok-join-clause-ok c = record {
  one = slice_index_or c.args.pairs.now c.args.place c.index-pairs-place.result;
  there = slice_get-get_or c.args.pairs.now c.args.place c.index-pairs-place.result c.requires.here;
  given = c.in-Ok.setup;
  gives = c.in-Ok.ensures.ok;
  more = c.in-Ok-join.ensures;
}
