-- An image has few entries.
use Rattle.std.proofs.Common.{arith, subst}
use Rattle.std.proofs.lemmas.List.{length-map}
use Rattle.run_journal.specs.Image.{bytes_of}
use Rattle.run_journal.proofs.Headers.{count-le}
use Rattle.cacao_view_log.specs.Sources.{IsWhole}
use Rattle.cacao_view_log.proofs.source.Source.count.Goals as goal

pub overflow_cast-result : goal.overflow_cast-result
overflow_cast-result c =
    let whole = subst IsWhole c.in-Entries.is c.requires in
    omega (arith, c.len.ensures, whole.1, count-le (bytes_of c.in-Entries.entries.now), length-map c.in-Entries.entries.now (λ entry. entry.bytes))
