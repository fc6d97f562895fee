use Rattle.std.proofs.Common.{◌≡◌, ℕ, ◌<◌, List, Option, cond, length, set, sym, subst, ap, ◌∙◌}
use Rattle.std.specs.Prelude.{◌==◌}
use Rattle.base_dues.specs.Pairs.{Queue, at, IsQueue, listed}
use Rattle.base_dues.proofs.ListedLemmas.{IsQueue-listed, at_put}
use Rattle.base_dues.proofs.LeastLemmas.{kept_alone}
use Rattle.base_dues.proofs.dues.Dues.give.Goals as goal

-- one number has another moment
each_of : (ms new : List (Option ℕ)) (q : Queue) (n : ℕ) (due : Option ℕ) → new ≡ set ms n due → record { pairs = listed ms; room = length ms } ≡ q → n < q.room
    → (k : ℕ) → at (listed new) k ≡ cond (k == n) due (at q.pairs k)
each_of ms new q n due e v lt k =
    let inside : n < length ms = subst (λ (q : Queue). n < q.room) (sym v) lt in
    ap (λ (l : List (Option ℕ)). at (listed l) k) e ∙ at_put ms n k due inside ∙ ap (λ (q : Queue). cond (k == n) due (at q.pairs k)) v

-- the place of the number
inside_of : (ms : List (Option ℕ)) (q : Queue) (n : ℕ) → record { pairs = listed ms; room = length ms } ≡ q → n < q.room → n < length ms
inside_of ms q n v lt = subst (λ (q : Queue). n < q.room) (sym v) lt

pub invariant_of-self : goal.invariant_of-self
invariant_of-self c =
    rw c.set.ensures (rw c.set-then-is_alone.ensures (rw c.set-then-is_alone-2.ensures (rw c.set-then-is_alone-3.ensures
    (kept_alone c.self.inside.moments c.self.inside.low c.self.inside.middle c.self.inside.high c.self.inside.count c.args.number c.recount-self-inside.result c.get.result c.args.due
    c.self.invariant (inside_of c.self.inside.moments c.args.self.now c.args.number c.self.view_is c.requires) c.get.ensures c.recount-self-inside.ensures c.if-is_alone.ensures))))

pub returns-then-is_alone-clause-each : goal.returns-then-is_alone-clause-each
returns-then-is_alone-clause-each c = each_of c.self.inside.moments c.set.new.self c.args.self.now c.args.number c.args.due c.set.ensures c.self.view_is c.requires

pub returns-then-is_alone-clause-queue : goal.returns-then-is_alone-clause-queue
returns-then-is_alone-clause-queue c = IsQueue-listed c.set.new.self

pub returns-then-is_alone-clause-was : goal.returns-then-is_alone-clause-was
returns-then-is_alone-clause-was c = subst (λ (q : Queue). IsQueue q.pairs) c.self.view_is (IsQueue-listed c.self.inside.moments)

pub returns-clause-each : goal.returns-clause-each
returns-clause-each c = each_of c.self.inside.moments c.put-low.new.moments c.args.self.now c.args.number c.args.due c.put-low.ensures.moments c.self.view_is c.requires

pub returns-clause-queue : goal.returns-clause-queue
returns-clause-queue c = IsQueue-listed c.put-low.new.moments

pub returns-clause-was : goal.returns-clause-was
returns-clause-was c = subst (λ (q : Queue). IsQueue q.pairs) c.self.view_is (IsQueue-listed c.self.inside.moments)
