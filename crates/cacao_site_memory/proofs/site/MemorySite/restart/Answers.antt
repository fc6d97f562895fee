-- What holds of the new site.
use Rattle.std.proofs.Common.{List, ap, subst, sym, arith, rules}
use Rattle.cacao_site.specs.View.{CountsView}
use Rattle.cacao_site_memory.specs.KeptFiles.{AreKept}
use Rattle.cacao_site_log.specs.Replay.{Call}
use Rattle.cacao_site_memory.proofs.SiteLemmas.{in-time-same}
use Rattle.cacao_site_memory.proofs.site.MemorySite.restart.Goals as goal

pub invariant_of-result : goal.invariant_of-result
invariant_of-result c = record {
  fits = omega arith;
  in_room = omega arith;
  handed = omega arith;
  of_disk = omega arith;
  of_lines = omega arith;
  together = omega (arith, ap (λ (c : CountsView). c.says) c.new-2.ensures);
  beats = omega arith;
  are_kept = subst (λ (l : List Call). AreKept c.args.starts l c.in_ok-kept.kept) (sym c.in_ok-log.ensures.calls) c.in_ok-kept.ensures;
  logged = search rules;
  log_most = search rules;
  log_room = search rules;
  line_most = search rules;
  said_in_time = in-time-same c.args.beat _ c.args.was.lines _ (omega arith) c.in_ok-log.ensures.lines c.requires.lines;
  turns = omega arith;
  put_slots = omega (arith, c.in_ok-slots.ensures, c.in_ok-make_room.ensures.put_slots);
  pending_slots = omega (arith, c.in_ok-slots.ensures, c.in_ok-make_room.ensures.pending_slots);
  held_slots = omega (arith, c.in_ok-slots.ensures, c.in_ok-make_room.ensures.held_slots);
  puts_in_time = in-time-same c.args.beat _ c.args.link.puts.items _ (omega arith) c.make_room.ensures.puts c.requires.puts;
  taken_in_time = in-time-same c.args.beat _ c.args.link.taken.items _ (omega arith) c.make_room.ensures.taken c.requires.taken;
  named = c.make_room.ensures.named c.requires.named;
}
