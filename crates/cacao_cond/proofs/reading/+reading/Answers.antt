-- What begins with no parenthesis is a comparison.
use Rattle.std.proofs.Common.{sym}
use Rattle.cacao_cond.proofs.ReadLemmas.{prime_named}
use Rattle.cacao_cond.proofs.reading.+reading.Goals as goal

pub read_prime-returns : goal.read_prime-returns
read_prime-returns t c =
    rw (prime_named c.args.levels c.args.text.now c.if-levels-eq0.false (sym c.if-begins_with.ensures)) c.read_named.ensures
