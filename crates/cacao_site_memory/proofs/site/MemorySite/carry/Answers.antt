-- The parcel joins the puts, and copies of it arrive.
use Rattle.std.proofs.Common.{arith, refl, rules}
use Rattle.cacao_site_memory.proofs.SiteLemmas.{in-time-push, in-time-same, puts-carried}
use Rattle.cacao_site_memory.proofs.site.MemorySite.carry.Goals as goal

pub returns-clause-puts : goal.returns-clause-puts
returns-clause-puts c = puts-carried c.args.weather c.args.parcel _ _ refl (search rules) (search rules) (search rules) (omega arith) (search rules) (search rules) (search rules) (search rules) (search rules) refl

pub invariant_of-self : goal.invariant_of-self
invariant_of-self c = record {
  fits = omega arith;
  in_room = omega arith;
  handed = omega arith;
  of_disk = omega arith;
  of_lines = omega arith;
  together = omega arith;
  beats = omega arith;
  are_kept = c.args.self.now.are_kept;
  logged = search rules;
  log_most = search rules;
  log_room = omega arith;
  line_most = search rules;
  said_in_time = search rules;
  turns = omega arith;
  put_slots = omega (arith, c.next_turn-turn.ensures);
  pending_slots = omega arith;
  held_slots = omega arith;
  puts_in_time = in-time-push _ c.saturating_add-beat.result c.args.self.now.link.puts.items _ c.args.parcel (omega arith) c.put.ensures.puts c.args.self.now.puts_in_time;
  taken_in_time = in-time-same _ _ c.args.self.now.link.taken.items _ refl c.put.ensures.taken_marks c.args.self.now.taken_in_time;
  named = search rules;
}
