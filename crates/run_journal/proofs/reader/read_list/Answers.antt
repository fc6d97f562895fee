-- The image begins with the header and the entries.
use Rattle.std.proofs.Common.{◌≡◌, ◌++◌, ◌-◌, ◌+◌, ℕ, List, length, ap, ◌∙◌, arith, inr, length-append}
use Rattle.run_journal.specs.Image.{bytes_of}
use Rattle.run_journal.specs.Layout.{front}
use Rattle.run_journal.proofs.Headers.{list_split}
use Rattle.run_journal.proofs.reader.read_list.Goals as goal

pub returns-then-split-clause-damaged : goal.returns-then-split-clause-damaged
returns-then-split-clause-damaged c = λ place is.
    let split = list_split c.args.image.now (bytes_of c.in_ok-split.split.entries.items) c.in_ok-split.split.rest.now c.in_default.ensures.same c.in_ok-split.ensures.entries in
    let at : length c.args.image.now - length c.in_ok-split.split.rest.now ≡ place = cc in
    let long : length c.args.image.now ≡ length (front (bytes_of c.in_ok-split.split.entries.items)) + length c.in_ok-split.split.rest.now = ap length split ∙ length-append (front (bytes_of c.in_ok-split.split.entries.items)) c.in_ok-split.split.rest.now in
    inr (inr (c.requires.low, c.requires.high, record { items = (bytes_of c.in_ok-split.split.entries.items); rest = c.in_ok-split.split.rest.now; short = c.in_ok-split.ensures.entries.short; is = split; at = omega (arith, at, long); broken = c.in_ok-split.ensures.broken c.if-split.true }))

pub returns-clause-layout : goal.returns-clause-layout
returns-clause-layout c =
    let split = list_split c.args.image.now (bytes_of c.in_ok-split.split.entries.items) c.in_ok-split.split.rest.now c.in_default.ensures.same c.in_ok-split.ensures.entries in
    let closed = c.in_ok-split.ensures.closed c.if-split.false in
    record {
      short = c.in_ok-split.ensures.entries.short;
      closed = record { gate = closed.0; rest = closed.1; shut = closed.3; is = split ∙ ap (λ (l : List ℕ). front (bytes_of c.in_ok-split.split.entries.items) ++ l) closed.2 };
      within = c.requires.high;
    }

pub returns-clause-gate : goal.returns-clause-gate
returns-clause-gate c =
    let split = list_split c.args.image.now (bytes_of c.in_ok-split.split.entries.items) c.in_ok-split.split.rest.now c.in_default.ensures.same c.in_ok-split.ensures.entries in
    let closed = c.in_ok-split.ensures.closed c.if-split.false in
    let long : length c.args.image.now ≡ length (front (bytes_of c.in_ok-split.split.entries.items)) + length c.in_ok-split.split.rest.now = ap length split ∙ length-append (front (bytes_of c.in_ok-split.split.entries.items)) c.in_ok-split.split.rest.now in
    (omega (arith, long), omega (arith, long, ap length closed.2))
