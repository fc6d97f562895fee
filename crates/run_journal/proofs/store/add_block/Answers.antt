-- After the first write, torn or whole, and after the second.
use Rattle.std.proofs.Common.{arith}
use Rattle.cacao_site.proofs.Beats.{stays-trans}
use Rattle.run_journal.proofs.Tears.{first_beats, both_beats, both_opened, FirstWrite, within_torn, within_both}
use Rattle.run_journal.proofs.store.add_block.Goals as goal
use Rattle.run_journal.proofs.store.add_block.Goals.{In_ok-write_and_sync}

pub returns-in_err-write_and_sync-clause-each_beat :
    goal.returns-in_err-write_and_sync-clause-each_beat
returns-in_err-write_and_sync-clause-each_beat g c start size closed = first_beats start c.args.block.now size closed c.write_and_sync.ensures.torn

-- after the first write
first : (g : _) (c : In_ok-write_and_sync g) → FirstWrite c.args.file c.args.gate c.args.block.now (g.D.Disk.view c.args.disk.now).disk (g.D.Disk.view c.write_and_sync.new.disk).disk
first g c = record {
  reads = (g.met.D.Disk.sound c.args.disk.now).reads c.args.file;
  torn = c.write_and_sync.ensures.torn;
  durable = c.in_ok-write_and_sync.ensures.durable;
  written = c.in_ok-write_and_sync.ensures.written;
}

pub returns-in_err-write_and_sync-2-clause-each_beat :
    goal.returns-in_err-write_and_sync-2-clause-each_beat
returns-in_err-write_and_sync-2-clause-each_beat g c start size closed =
    both_beats start c.args.block.now size closed (first g (goal.at.returns-in_err-write_and_sync-2-clause-each_beat g c).In_ok-write_and_sync) _ c.write_and_sync-2.ensures.torn

pub returns-in_err-write_and_sync-2-clause-others :
    goal.returns-in_err-write_and_sync-2-clause-others
returns-in_err-write_and_sync-2-clause-others g c other ne =
    stays-trans c.write_and_sync.ensures.torn.goes_on c.write_and_sync-2.ensures.torn.goes_on (c.write_and_sync.ensures.others other ne) (c.write_and_sync-2.ensures.others other ne)

pub returns-clause-each_beat : goal.returns-clause-each_beat
returns-clause-each_beat g c start size closed =
    both_beats start c.args.block.now size closed (first g (goal.at.returns-clause-each_beat g c).In_ok-write_and_sync) _ c.write_and_sync-2.ensures.torn

pub returns-clause-opened : goal.returns-clause-opened
returns-clause-opened g c start size closed =
    both_opened start c.args.block.now size closed (first g (goal.at.returns-clause-opened g c).In_ok-write_and_sync) (g.D.Disk.view c.write_and_sync-2.new.disk).disk c.write_and_sync-2.ensures.torn
    c.in_ok-write_and_sync-2.ensures.durable c.in_ok-write_and_sync-2.ensures.written

pub returns-clause-others : goal.returns-clause-others
returns-clause-others g c other ne =
    stays-trans c.write_and_sync.ensures.torn.goes_on c.write_and_sync-2.ensures.torn.goes_on (c.write_and_sync.ensures.others other ne) (c.write_and_sync-2.ensures.others other ne)

pub returns-in_err-write_and_sync-clause-within : goal.returns-in_err-write_and_sync-clause-within
returns-in_err-write_and_sync-clause-within g c = λ all. within_torn (omega (arith, c.requires.fits)) all c.write_and_sync.ensures.torn

pub returns-in_err-write_and_sync-2-clause-within : goal.returns-in_err-write_and_sync-2-clause-within
returns-in_err-write_and_sync-2-clause-within g c = λ all.
    within_both (omega (arith, c.requires.fits)) (within_torn (omega (arith, c.requires.fits)) all c.write_and_sync.ensures.torn) c.write_and_sync-2.ensures.torn

pub returns-clause-within : goal.returns-clause-within
returns-clause-within g c = λ all.
    within_both (omega (arith, c.requires.fits)) (within_torn (omega (arith, c.requires.fits)) all c.write_and_sync.ensures.torn) c.write_and_sync-2.ensures.torn
