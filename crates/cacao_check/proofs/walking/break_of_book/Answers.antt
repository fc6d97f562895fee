use Rattle.std.proofs.Common.{subst, sym, ap, length, arith, ◌<◌}
use Rattle.cacao_check.proofs.WalkLemmas.{found_at, PlacesKept, PlacesKept-all}
use Rattle.cacao_book_shape.specs.Shape.{place_rank}
use Rattle.cacao_check.proofs.walking.break_of_book.Goals as goal

pub loop-rank-init : goal.loop-rank-init
loop-rank-init c = (λ step r lt. absurd (let l : place_rank step < 0 = lt in omega arith), c.new-memory.ensures c.args.book.now)

pub returns-in-Some : goal.returns-in-Some
returns-in-Some c =
    found_at c.args.books.now c.args.mode c.args.number c.args.book.now c.place_at-place.result c.in-Some.rule c.in_ok-told.told c.requires.here
    (subst (PlacesKept c.args.books.now c.args.mode c.args.number) (sym c.place_at-place.ensures.rank) c.loop-rank.invariant.0) (rw c.in-Some.is at c.in_ok-found.ensures.keeps)
    c.in_ok-told.ensures.book c.in_ok-told.ensures.step c.in_ok-told.ensures.rule

pub returns : goal.returns
returns c = PlacesKept-all c.args.books.now c.args.mode c.args.number c.args.book.now c.loop-rank.rank c.requires.here (let e = c.loop-rank-test.false in omega (arith, ap length c.as_slice.ensures.steps)) c.loop-rank.invariant.0
