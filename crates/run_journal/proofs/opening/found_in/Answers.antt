-- The tail behind the last entries breaks off.
use Rattle.std.proofs.Common.{◌≡◌, ◌-◌, ◌++◌, List, ℕ, length, refl, ap, arith, length-append}
use Rattle.run_journal.specs.Layout.{front}
use Rattle.run_journal.proofs.opening.found_in.Goals as goal

pub take_entries-requires : goal.take_entries-requires
take_entries-requires c = omega (arith, length-append (front c.args.taken.items.items) c.args.taken.tail.items, c.requires.long, c.requires.high)

pub returns-then-broken-clause-damaged : goal.returns-then-broken-clause-damaged
returns-then-broken-clause-damaged c = λ place is.
    let items : List (List ℕ) = c.take_entries.new.items.items in
    let tail : List ℕ = c.take_entries.new.tail.items in
    let begins = c.in_ok-broken.ensures.begins (front c.args.taken.items.items ++ c.args.taken.tail.items) (record { short = c.requires.short; is = refl }) in
    let at : c.args.taken.end - c.len.result ≡ place = cc in
    record {
      items = items;
      rest = tail;
      short = begins.short;
      is = begins.is;
      at = omega (arith, at, c.requires.long, c.len.ensures, ap length begins.is, length-append (front items) tail);
      broken = c.in_ok-broken.ensures.broken c.if-broken.true;
    }
