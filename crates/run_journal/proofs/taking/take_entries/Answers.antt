-- The entries before, and those of the tail.
use Rattle.std.proofs.Common.{◌≡◌, ◌++◌, List, ℕ, sym, ◌∙◌, subst, arith}
use Rattle.run_journal.specs.Layout.{Begins, Entries}
use Rattle.run_journal.proofs.TakeLemmas.{begins_more, rest_there}
use Rattle.run_journal.proofs.taking.take_entries.Goals as goal

pub returns-clause-begins : goal.returns-clause-begins
returns-clause-begins c = λ image was.
    let joins = c.in_ok-behind.ensures.joins in
    let rest : List ℕ = c.in_ok-behind.behind.rest.now in
    let has : Entries c.args.tail.now.items joins.more rest = subst (λ (l : List ℕ). Entries l joins.more rest) c.as_slice.ensures.value joins.has in
    let behind : c.cut_front.new.bytes.items ≡ rest = c.cut_front.ensures ∙ rest_there _ has (omega (arith, c.len.ensures)) in
    subst (λ (l : List (List ℕ)). Begins image l c.cut_front.new.bytes.items) (sym joins.is)
    (subst (λ (l : List ℕ). Begins image (c.args.items.now.items ++ joins.more) l) (sym behind) (begins_more was has))
