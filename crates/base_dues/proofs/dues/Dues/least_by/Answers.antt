use Rattle.std.proofs.Common.{◌≡◌, ℕ, List, Option, Some, None, cond, get_or, sym, subst, ◌∙◌}
use Rattle.std.specs.Prelude.{nat_le, is_some, count_by}
use Rattle.base_dues.specs.Pairs.{Queue, at, least_by, IsFirstBy, listed}
use Rattle.base_dues.proofs.ListedLemmas.{IsQueue-listed}
use Rattle.base_dues.proofs.FirstLemmas.{first_is_least}
use Rattle.base_dues.proofs.LeastLemmas.{first_at, only_first}
use Rattle.base_dues.proofs.dues.Dues.least_by.Goals as goal

-- what was found in the list of moments is right of the pairs
each_of : (t : ℕ) (ms : List (Option ℕ)) (q : Queue) (room : ℕ) (o : Option ℕ) → record { pairs = listed ms; room = room } ≡ q
    → IsFirstBy t (λ n. get_or ms n None) o → IsFirstBy t (at q.pairs) o
each_of t ms q room o v h = subst (λ (q : Queue). IsFirstBy t (at q.pairs) o) v (first_at t ms o h)

number_of : (t : ℕ) (ms : List (Option ℕ)) (q : Queue) (room : ℕ) (o : Option ℕ) → record { pairs = listed ms; room = room } ≡ q
    → IsFirstBy t (λ n. get_or ms n None) o → o ≡ least_by q.pairs t
number_of t ms q room o v h =
    subst (λ (q : Queue). o ≡ least_by q.pairs t) v (first_is_least t (listed ms) o (IsQueue-listed ms) (first_at t ms o h))

-- the only number that has a moment
only_of : (t count n due : ℕ) (ms : List (Option ℕ)) (moment o : Option ℕ) → count ≡ count_by is_some ms → count ≡ 1 → moment ≡ get_or ms n None → moment ≡ Some due
    → o ≡ cond (nat_le due t) (Some n) None → IsFirstBy t (λ k. get_or ms k None) o
only_of t count n due ms moment o counted one read has is =
    rw is (only_first t ms count n due counted one (sym has ∙ read))

pub returns-in-Some-clause-number : goal.returns-in-Some-clause-number
returns-in-Some-clause-number c =
    let ms = c.self.inside.moments in
    number_of c.args.moment ms c.args.self.now _ c.only_by.result c.self.view_is
    (only_of c.args.moment c.self.inside.count c.self.inside.only c.in-Some.due ms c.get.result c.only_by.result c.self.invariant.counted c.if-self-eq1.true c.get.ensures c.in-Some.is c.only_by.ensures)

pub returns-in-Some-clause-each : goal.returns-in-Some-clause-each
returns-in-Some-clause-each c =
    let ms = c.self.inside.moments in
    each_of c.args.moment ms c.args.self.now _ c.only_by.result c.self.view_is
    (only_of c.args.moment c.self.inside.count c.self.inside.only c.in-Some.due ms c.get.result c.only_by.result c.self.invariant.counted c.if-self-eq1.true c.get.ensures c.in-Some.is c.only_by.ensures)

pub returns-in_err-number-clause-number : goal.returns-in_err-number-clause-number
returns-in_err-number-clause-number c =
    c.from_residual.ensures ∙ number_of c.args.moment c.self.inside.moments c.args.self.now _ None c.self.view_is c.in_err-number.ensures.number

pub returns-in_err-number-clause-each : goal.returns-in_err-number-clause-each
returns-in_err-number-clause-each c =
    rw c.from_residual.ensures (each_of c.args.moment c.self.inside.moments c.args.self.now _ None c.self.view_is c.in_err-number.ensures.number)

pub returns-clause-number : goal.returns-clause-number
returns-clause-number c =
    number_of c.args.moment c.self.inside.moments c.args.self.now _ (Some c.in_ok-number.number) c.self.view_is c.in_ok-number.ensures.number

pub returns-clause-each : goal.returns-clause-each
returns-clause-each c =
    each_of c.args.moment c.self.inside.moments c.args.self.now _ (Some c.in_ok-number.number) c.self.view_is c.in_ok-number.ensures.number
